use Rattle.std.proofs.Common.{refl}
use Rattle.std.specs.Fmt.{digits}
use Rattle.std.specs.Str.{is_utf8, chars}
use Rattle.std.specs.Str.Lossy.{utf8_lossy, utf8_valid_len}
use lib.Utf8.{encode}
use Rattle.pg_execute.proofs.laws.first_rows_are_taken.Goals as goal

pub returns-clause-two : goal.returns-clause-two
unfolding digits is_utf8 chars encode utf8_lossy utf8_valid_len
returns-clause-two c = refl

pub returns-clause-two_leave : goal.returns-clause-two_leave
unfolding digits is_utf8 chars encode utf8_lossy utf8_valid_len
returns-clause-two_leave c = refl

pub returns-clause-none : goal.returns-clause-none
unfolding digits is_utf8 chars encode utf8_lossy utf8_valid_len
returns-clause-none c = refl

pub returns-clause-none_leaves : goal.returns-clause-none_leaves
unfolding digits is_utf8 chars encode utf8_lossy utf8_valid_len
returns-clause-none_leaves c = refl

pub returns-clause-fewer : goal.returns-clause-fewer
unfolding digits is_utf8 chars encode utf8_lossy utf8_valid_len
returns-clause-fewer c = refl

pub returns-clause-early : goal.returns-clause-early
unfolding digits is_utf8 chars encode utf8_lossy utf8_valid_len
returns-clause-early c = refl

pub returns-clause-closed : goal.returns-clause-closed
unfolding digits is_utf8 chars encode utf8_lossy utf8_valid_len
returns-clause-closed c = refl
