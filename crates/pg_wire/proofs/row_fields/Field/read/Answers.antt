use Rattle.std.proofs.Common.{rules}
use Rattle.std.specs.Int.{w16, w32}
use Rattle.pg_wire.proofs.Items.{number_taken, signed_taken, field_taken}
use Rattle.pg_wire.proofs.row_fields.Field.read.Goals as goal

pub returns : goal.returns
returns c =
    field_taken c.args.bytes.now _ _ _ _ _ _ _ _ _ _ _ _ _ _ c.in_ok-name.ensures
    (number_taken w32 _ _ _ c.in-Ok.ensures.value c.in-Ok.ensures.rest)
    (signed_taken w16 _ _ _ (search rules) c.in-Ok-try_get_i16.ensures.value c.in-Ok-try_get_i16.ensures.rest)
    (number_taken w32 _ _ _ c.in-Ok-try_get_u32.ensures.value c.in-Ok-try_get_u32.ensures.rest)
    (signed_taken w16 _ _ _ (search rules) c.in-Ok-try_get_i16-2.ensures.value c.in-Ok-try_get_i16-2.ensures.rest)
    (signed_taken w32 _ _ _ (search rules) c.in-Ok-try_get_i32.ensures.value c.in-Ok-try_get_i32.ensures.rest)
    (signed_taken w16 _ _ _ (search rules) c.in-Ok-try_get_i16-3.ensures.value c.in-Ok-try_get_i16-3.ensures.rest)
