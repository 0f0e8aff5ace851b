use Rattle.std.proofs.Common.{refl}
use Rattle.std.specs.Fmt.{digits}
use Rattle.std.specs.Str.{is_utf8, chars}
use Rattle.std.specs.Str.Lossy.{utf8_lossy, utf8_valid_len}
use lib.Utf8.{encode}
use Rattle.pg_core.proofs.lookup_laws.refused_lookups.Goals as goal

pub returns-clause-column : goal.returns-clause-column
unfolding digits is_utf8 chars encode utf8_lossy utf8_valid_len
returns-clause-column c = refl

pub returns-clause-column_books : goal.returns-clause-column_books
unfolding digits is_utf8 chars encode utf8_lossy utf8_valid_len
returns-clause-column_books c = refl

pub returns-clause-unknown : goal.returns-clause-unknown
unfolding digits is_utf8 chars encode utf8_lossy utf8_valid_len
returns-clause-unknown c = refl

pub returns-clause-unknown_books : goal.returns-clause-unknown_books
unfolding digits is_utf8 chars encode utf8_lossy utf8_valid_len
returns-clause-unknown_books c = refl

pub returns-clause-unknown_kept : goal.returns-clause-unknown_kept
unfolding digits is_utf8 chars encode utf8_lossy utf8_valid_len
returns-clause-unknown_kept c = refl

pub returns-clause-parameters : goal.returns-clause-parameters
unfolding digits is_utf8 chars encode utf8_lossy utf8_valid_len
returns-clause-parameters c = refl

pub returns-clause-parameters_books : goal.returns-clause-parameters_books
unfolding digits is_utf8 chars encode utf8_lossy utf8_valid_len
returns-clause-parameters_books c = refl

pub returns-clause-parameters_kept : goal.returns-clause-parameters_kept
unfolding digits is_utf8 chars encode utf8_lossy utf8_valid_len
returns-clause-parameters_kept c = refl

pub returns-clause-of_int4 : goal.returns-clause-of_int4
unfolding digits is_utf8 chars encode utf8_lossy utf8_valid_len
returns-clause-of_int4 c = refl
