use Rattle.std.proofs.Common.{refl}
use Rattle.std.specs.Fmt.{digits}
use Rattle.std.specs.Str.{is_utf8, chars}
use Rattle.std.specs.Str.Lossy.{utf8_lossy, utf8_valid_len}
use lib.Utf8.{encode}
use Rattle.pg_core.proofs.lookup_laws.kinds_are_found.Goals as goal

pub returns-clause-base : goal.returns-clause-base
unfolding digits is_utf8 chars encode utf8_lossy utf8_valid_len
returns-clause-base c = refl

pub returns-clause-enumeration : goal.returns-clause-enumeration
unfolding digits is_utf8 chars encode utf8_lossy utf8_valid_len
returns-clause-enumeration c = refl

pub returns-clause-null_label : goal.returns-clause-null_label
unfolding digits is_utf8 chars encode utf8_lossy utf8_valid_len
returns-clause-null_label c = refl

pub returns-clause-array : goal.returns-clause-array
unfolding digits is_utf8 chars encode utf8_lossy utf8_valid_len
returns-clause-array c = refl

pub returns-clause-range : goal.returns-clause-range
unfolding digits is_utf8 chars encode utf8_lossy utf8_valid_len
returns-clause-range c = refl

pub returns-clause-domain : goal.returns-clause-domain
unfolding digits is_utf8 chars encode utf8_lossy utf8_valid_len
returns-clause-domain c = refl

pub returns-clause-composite : goal.returns-clause-composite
unfolding digits is_utf8 chars encode utf8_lossy utf8_valid_len
returns-clause-composite c = refl

pub returns-clause-composite_books : goal.returns-clause-composite_books
unfolding digits is_utf8 chars encode utf8_lossy utf8_valid_len
returns-clause-composite_books c = refl
