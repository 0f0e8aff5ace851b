use Rattle.std.proofs.Common.{refl}
use Rattle.std.specs.Fmt.{digits}
use Rattle.std.specs.Str.{is_utf8, chars}
use Rattle.std.specs.Str.Lossy.{utf8_lossy, utf8_valid_len}
use lib.Utf8.{encode}
use Rattle.pg_query_laws.proofs.ExecutionRequests.{prepared-closes}
use Rattle.pg_query_laws.proofs.execution_laws.closes_are_written.Goals as goal

pub returns-clause-prepared : goal.returns-clause-prepared
returns-clause-prepared c = λ n low. prepared-closes n low

pub returns-clause-books : goal.returns-clause-books
unfolding digits is_utf8 chars encode utf8_lossy utf8_valid_len
returns-clause-books c = refl

pub returns-clause-done : goal.returns-clause-done
unfolding digits is_utf8 chars encode utf8_lossy utf8_valid_len
returns-clause-done c = refl

pub returns-clause-refused : goal.returns-clause-refused
unfolding digits is_utf8 chars encode utf8_lossy utf8_valid_len
returns-clause-refused c = refl

pub returns-clause-refused_books : goal.returns-clause-refused_books
unfolding digits is_utf8 chars encode utf8_lossy utf8_valid_len
returns-clause-refused_books c = refl
