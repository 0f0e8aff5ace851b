use Rattle.std.proofs.Common.{refl}
use Rattle.std.specs.Fmt.{digits}
use Rattle.std.specs.Str.{is_utf8, chars}
use Rattle.std.specs.Str.Lossy.{utf8_lossy, utf8_valid_len}
use lib.Utf8.{encode}
use Rattle.pg_core.proofs.lookup_laws.types_are_kept.Goals as goal

pub returns-clause-books : goal.returns-clause-books
unfolding digits is_utf8 chars encode utf8_lossy utf8_valid_len
returns-clause-books c = refl

pub returns-clause-found : goal.returns-clause-found
unfolding digits is_utf8 chars encode utf8_lossy utf8_valid_len
returns-clause-found c = refl

pub returns-clause-kept : goal.returns-clause-kept
unfolding digits is_utf8 chars encode utf8_lossy utf8_valid_len
returns-clause-kept c = refl

pub returns-clause-found_again : goal.returns-clause-found_again
unfolding digits is_utf8 chars encode utf8_lossy utf8_valid_len
returns-clause-found_again c = refl
