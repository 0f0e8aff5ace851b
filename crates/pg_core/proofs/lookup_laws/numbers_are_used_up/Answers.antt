use Rattle.std.proofs.Common.{refl}
use Rattle.std.specs.Fmt.{digits}
use Rattle.std.specs.Str.{is_utf8, chars}
use Rattle.std.specs.Str.Lossy.{utf8_lossy, utf8_valid_len}
use lib.Utf8.{encode}
use Rattle.pg_core.proofs.lookup_laws.numbers_are_used_up.Goals as goal

pub returns-clause-refused : goal.returns-clause-refused
unfolding digits is_utf8 chars encode utf8_lossy utf8_valid_len
returns-clause-refused c = refl

pub returns-clause-books_nothing : goal.returns-clause-books_nothing
unfolding digits is_utf8 chars encode utf8_lossy utf8_valid_len
returns-clause-books_nothing c = refl

pub returns-clause-next : goal.returns-clause-next
unfolding digits is_utf8 chars encode utf8_lossy utf8_valid_len
returns-clause-next c = refl

pub returns-clause-next_answers : goal.returns-clause-next_answers
unfolding digits is_utf8 chars encode utf8_lossy utf8_valid_len
returns-clause-next_answers c = refl

pub returns-clause-spent : goal.returns-clause-spent
unfolding digits is_utf8 chars encode utf8_lossy utf8_valid_len
returns-clause-spent c = refl

pub returns-clause-spent_books : goal.returns-clause-spent_books
unfolding digits is_utf8 chars encode utf8_lossy utf8_valid_len
returns-clause-spent_books c = refl
