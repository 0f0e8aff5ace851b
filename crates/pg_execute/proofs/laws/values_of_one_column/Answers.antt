use Rattle.std.proofs.Common.{refl}
use Rattle.std.specs.Fmt.{digits}
use Rattle.std.specs.Str.{is_utf8, chars}
use Rattle.std.specs.Str.Lossy.{utf8_lossy, utf8_valid_len}
use lib.Utf8.{encode}
use Rattle.pg_execute.proofs.laws.values_of_one_column.Goals as goal

pub returns-clause-found : goal.returns-clause-found
unfolding digits is_utf8 chars encode utf8_lossy utf8_valid_len
returns-clause-found c = refl

pub returns-clause-wide : goal.returns-clause-wide
unfolding digits is_utf8 chars encode utf8_lossy utf8_valid_len
returns-clause-wide c = refl

pub returns-clause-unread : goal.returns-clause-unread
unfolding digits is_utf8 chars encode utf8_lossy utf8_valid_len
returns-clause-unread c = refl

pub returns-clause-empty : goal.returns-clause-empty
unfolding digits is_utf8 chars encode utf8_lossy utf8_valid_len
returns-clause-empty c = refl

pub returns-clause-lacking : goal.returns-clause-lacking
unfolding digits is_utf8 chars encode utf8_lossy utf8_valid_len
returns-clause-lacking c = refl
