use Rattle.std.proofs.Common.{refl}
use Rattle.std.specs.Fmt.{digits}
use Rattle.std.specs.Str.{is_utf8, chars}
use Rattle.std.specs.Str.Lossy.{utf8_lossy, utf8_valid_len}
use lib.Utf8.{encode}
use Rattle.pg_core.proofs.lookup_laws.types_of_themselves_are_refused.Goals as goal

pub returns-clause-element : goal.returns-clause-element
unfolding digits is_utf8 chars encode utf8_lossy utf8_valid_len
returns-clause-element c = refl

pub returns-clause-element_books : goal.returns-clause-element_books
unfolding digits is_utf8 chars encode utf8_lossy utf8_valid_len
returns-clause-element_books c = refl

pub returns-clause-field : goal.returns-clause-field
unfolding digits is_utf8 chars encode utf8_lossy utf8_valid_len
returns-clause-field c = refl

pub returns-clause-field_books : goal.returns-clause-field_books
unfolding digits is_utf8 chars encode utf8_lossy utf8_valid_len
returns-clause-field_books c = refl
