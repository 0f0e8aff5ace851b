use Rattle.std.proofs.Common.{refl}
use Rattle.std.specs.Fmt.{digits}
use Rattle.std.specs.Str.{is_utf8, chars}
use Rattle.std.specs.Str.Lossy.{utf8_lossy, utf8_valid_len}
use lib.Utf8.{encode}
use Rattle.pg_execute.proofs.laws.refused_values_ask_nothing.Goals as goal

pub returns-clause-number : goal.returns-clause-number
unfolding digits is_utf8 chars encode utf8_lossy utf8_valid_len
returns-clause-number c = refl

pub returns-clause-number_books : goal.returns-clause-number_books
unfolding digits is_utf8 chars encode utf8_lossy utf8_valid_len
returns-clause-number_books c = refl

pub returns-clause-wrong : goal.returns-clause-wrong
unfolding digits is_utf8 chars encode utf8_lossy utf8_valid_len
returns-clause-wrong c = refl

pub returns-clause-wide : goal.returns-clause-wide
unfolding digits is_utf8 chars encode utf8_lossy utf8_valid_len
returns-clause-wide c = refl

pub returns-clause-wide_books : goal.returns-clause-wide_books
unfolding digits is_utf8 chars encode utf8_lossy utf8_valid_len
returns-clause-wide_books c = refl
