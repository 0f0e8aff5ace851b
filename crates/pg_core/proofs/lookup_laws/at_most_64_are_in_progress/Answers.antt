use Rattle.std.proofs.Common.{refl}
use Rattle.std.specs.Fmt.{digits}
use Rattle.std.specs.Str.{is_utf8, chars}
use Rattle.std.specs.Str.Lossy.{utf8_lossy, utf8_valid_len}
use lib.Utf8.{encode}
use Rattle.pg_core.proofs.lookup_laws.at_most_64_are_in_progress.Goals as goal

pub returns-clause-few : goal.returns-clause-few
unfolding digits is_utf8 chars encode utf8_lossy utf8_valid_len
returns-clause-few c = refl

pub returns-clause-few_books : goal.returns-clause-few_books
unfolding digits is_utf8 chars encode utf8_lossy utf8_valid_len
returns-clause-few_books c = refl

pub returns-clause-many : goal.returns-clause-many
unfolding digits is_utf8 chars encode utf8_lossy utf8_valid_len
returns-clause-many c = refl

pub returns-clause-many_books : goal.returns-clause-many_books
unfolding digits is_utf8 chars encode utf8_lossy utf8_valid_len
returns-clause-many_books c = refl
