use Rattle.std.proofs.Common.{refl}
use Rattle.std.specs.Fmt.{digits}
use Rattle.std.specs.Str.{is_utf8, chars}
use Rattle.std.specs.Str.Lossy.{utf8_lossy, utf8_valid_len}
use lib.Utf8.{encode}
use Rattle.pg_core.proofs.lookup_laws.second_texts.Goals as goal

pub returns-clause-info : goal.returns-clause-info
unfolding digits is_utf8 chars encode utf8_lossy utf8_valid_len
returns-clause-info c = refl

pub returns-clause-info_found : goal.returns-clause-info_found
unfolding digits is_utf8 chars encode utf8_lossy utf8_valid_len
returns-clause-info_found c = refl

pub returns-clause-labels : goal.returns-clause-labels
unfolding digits is_utf8 chars encode utf8_lossy utf8_valid_len
returns-clause-labels c = refl

pub returns-clause-labels_found : goal.returns-clause-labels_found
unfolding digits is_utf8 chars encode utf8_lossy utf8_valid_len
returns-clause-labels_found c = refl

pub returns-clause-syntax : goal.returns-clause-syntax
unfolding digits is_utf8 chars encode utf8_lossy utf8_valid_len
returns-clause-syntax c = refl

pub returns-clause-syntax_books : goal.returns-clause-syntax_books
unfolding digits is_utf8 chars encode utf8_lossy utf8_valid_len
returns-clause-syntax_books c = refl

pub returns-clause-no_column : goal.returns-clause-no_column
unfolding digits is_utf8 chars encode utf8_lossy utf8_valid_len
returns-clause-no_column c = refl

pub returns-clause-no_table : goal.returns-clause-no_table
unfolding digits is_utf8 chars encode utf8_lossy utf8_valid_len
returns-clause-no_table c = refl

pub returns-clause-fields : goal.returns-clause-fields
unfolding digits is_utf8 chars encode utf8_lossy utf8_valid_len
returns-clause-fields c = refl
