use Rattle.std.proofs.Common.{refl}
use Rattle.std.specs.Fmt.{digits}
use Rattle.std.specs.Str.{is_utf8, chars}
use Rattle.std.specs.Str.Lossy.{utf8_lossy, utf8_valid_len}
use lib.Utf8.{encode}
use Rattle.pg_execute.proofs.laws.typed_executes_are_counted.Goals as goal

pub returns-clause-last : goal.returns-clause-last
unfolding digits is_utf8 chars encode utf8_lossy utf8_valid_len
returns-clause-last c = refl

pub returns-clause-without_rows : goal.returns-clause-without_rows
unfolding digits is_utf8 chars encode utf8_lossy utf8_valid_len
returns-clause-without_rows c = refl

pub returns-clause-suspended : goal.returns-clause-suspended
unfolding digits is_utf8 chars encode utf8_lossy utf8_valid_len
returns-clause-suspended c = refl
