use Rattle.std.proofs.Common.{refl}
use Rattle.std.specs.Fmt.{digits}
use Rattle.std.specs.Str.{is_utf8, chars}
use Rattle.std.specs.Str.Lossy.{utf8_lossy, utf8_valid_len}
use lib.Utf8.{encode}
use Rattle.pg_execute.proofs.laws.typed_queries_look_up_later.Goals as goal

pub returns-clause-known : goal.returns-clause-known
unfolding digits is_utf8 chars encode utf8_lossy utf8_valid_len
returns-clause-known c = refl

pub returns-clause-known_books : goal.returns-clause-known_books
unfolding digits is_utf8 chars encode utf8_lossy utf8_valid_len
returns-clause-known_books c = refl

pub returns-clause-without_rows : goal.returns-clause-without_rows
unfolding digits is_utf8 chars encode utf8_lossy utf8_valid_len
returns-clause-without_rows c = refl

pub returns-clause-lacking : goal.returns-clause-lacking
unfolding digits is_utf8 chars encode utf8_lossy utf8_valid_len
returns-clause-lacking c = refl

pub returns-clause-later : goal.returns-clause-later
unfolding digits is_utf8 chars encode utf8_lossy utf8_valid_len
returns-clause-later c = refl

pub returns-clause-later_kinds : goal.returns-clause-later_kinds
unfolding digits is_utf8 chars encode utf8_lossy utf8_valid_len
returns-clause-later_kinds c = refl

pub returns-clause-later_books : goal.returns-clause-later_books
unfolding digits is_utf8 chars encode utf8_lossy utf8_valid_len
returns-clause-later_books c = refl

pub returns-clause-second : goal.returns-clause-second
unfolding digits is_utf8 chars encode utf8_lossy utf8_valid_len
returns-clause-second c = refl

pub returns-clause-second_books : goal.returns-clause-second_books
unfolding digits is_utf8 chars encode utf8_lossy utf8_valid_len
returns-clause-second_books c = refl

pub returns-clause-text : goal.returns-clause-text
unfolding digits is_utf8 chars encode utf8_lossy utf8_valid_len
returns-clause-text c = refl

pub returns-clause-refused : goal.returns-clause-refused
unfolding digits is_utf8 chars encode utf8_lossy utf8_valid_len
returns-clause-refused c = refl

pub returns-clause-refused_books : goal.returns-clause-refused_books
unfolding digits is_utf8 chars encode utf8_lossy utf8_valid_len
returns-clause-refused_books c = refl
