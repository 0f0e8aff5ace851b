use Rattle.std.proofs.Common.{Option, Some, Ok, ap, subst, ◌∙◌}
use Rattle.pg_wire.specs.Decode.{Decodes}
use Rattle.pg_wire.specs.declared.codec.BackendMessage.{BackendMessage}
use Rattle.pg_wire.proofs.Cuttings.{tells_its_end}
use Rattle.pg_drives.proofs.executions.deliver.Goals as goal

pub deliver-requires : goal.deliver-requires
deliver-requires c =
    let w = c.in-Ok-Some-Normal in
    let cut = subst (λ (r : Option BackendMessage). Decodes c.args.reply.now.items c.decode.new.buf.items (Ok r)) (w.field-0-is ∙ ap Some w.field-0-0-is) w.ensures in
    record { ends = (tells_its_end _ _ w.messages w.request_complete cut).ends }
