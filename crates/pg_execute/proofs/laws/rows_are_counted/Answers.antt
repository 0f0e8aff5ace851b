use Rattle.std.proofs.Common.{refl}
use Rattle.std.specs.Fmt.{digits}
use Rattle.std.specs.Str.{is_utf8, chars}
use Rattle.std.specs.Str.Lossy.{utf8_lossy, utf8_valid_len}
use lib.Utf8.{encode}
use Rattle.pg_execute.proofs.laws.rows_are_counted.Goals as goal

pub returns-clause-asks : goal.returns-clause-asks
unfolding digits is_utf8 chars encode utf8_lossy utf8_valid_len
returns-clause-asks c = refl

pub returns-clause-any : goal.returns-clause-any
unfolding digits is_utf8 chars encode utf8_lossy utf8_valid_len
returns-clause-any c = refl

pub returns-clause-stays : goal.returns-clause-stays
unfolding digits is_utf8 chars encode utf8_lossy utf8_valid_len
returns-clause-stays c = refl

pub returns-clause-none : goal.returns-clause-none
unfolding digits is_utf8 chars encode utf8_lossy utf8_valid_len
returns-clause-none c = refl

pub returns-clause-second : goal.returns-clause-second
unfolding digits is_utf8 chars encode utf8_lossy utf8_valid_len
returns-clause-second c = refl

pub returns-clause-second_leaves : goal.returns-clause-second_leaves
unfolding digits is_utf8 chars encode utf8_lossy utf8_valid_len
returns-clause-second_leaves c = refl

pub returns-clause-lacking : goal.returns-clause-lacking
unfolding digits is_utf8 chars encode utf8_lossy utf8_valid_len
returns-clause-lacking c = refl

pub returns-clause-one : goal.returns-clause-one
unfolding digits is_utf8 chars encode utf8_lossy utf8_valid_len
returns-clause-one c = refl

pub returns-clause-wide : goal.returns-clause-wide
unfolding digits is_utf8 chars encode utf8_lossy utf8_valid_len
returns-clause-wide c = refl

pub returns-clause-broken : goal.returns-clause-broken
unfolding digits is_utf8 chars encode utf8_lossy utf8_valid_len
returns-clause-broken c = refl

pub returns-clause-early : goal.returns-clause-early
unfolding digits is_utf8 chars encode utf8_lossy utf8_valid_len
returns-clause-early c = refl
