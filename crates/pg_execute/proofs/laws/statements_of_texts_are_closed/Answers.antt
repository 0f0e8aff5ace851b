use Rattle.std.proofs.Common.{refl}
use Rattle.std.specs.Fmt.{digits}
use Rattle.std.specs.Str.{is_utf8, chars}
use Rattle.std.specs.Str.Lossy.{utf8_lossy, utf8_valid_len}
use lib.Utf8.{encode}
use Rattle.pg_execute.proofs.laws.statements_of_texts_are_closed.Goals as goal

pub returns-clause-count : goal.returns-clause-count
unfolding digits is_utf8 chars encode utf8_lossy utf8_valid_len
returns-clause-count c = refl

pub returns-clause-closed : goal.returns-clause-closed
unfolding digits is_utf8 chars encode utf8_lossy utf8_valid_len
returns-clause-closed c = refl

pub returns-clause-refused : goal.returns-clause-refused
unfolding digits is_utf8 chars encode utf8_lossy utf8_valid_len
returns-clause-refused c = refl

pub returns-clause-parameters : goal.returns-clause-parameters
unfolding digits is_utf8 chars encode utf8_lossy utf8_valid_len
returns-clause-parameters c = refl

pub returns-clause-parameters_closed : goal.returns-clause-parameters_closed
unfolding digits is_utf8 chars encode utf8_lossy utf8_valid_len
returns-clause-parameters_closed c = refl

pub returns-clause-unprepared : goal.returns-clause-unprepared
unfolding digits is_utf8 chars encode utf8_lossy utf8_valid_len
returns-clause-unprepared c = refl
