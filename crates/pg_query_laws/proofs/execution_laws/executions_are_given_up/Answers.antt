use Rattle.std.proofs.Common.{refl, true, false}
use Rattle.std.specs.Fmt.{digits}
use Rattle.std.specs.Str.{is_utf8, chars}
use Rattle.std.specs.Str.Lossy.{utf8_lossy, utf8_valid_len}
use lib.Utf8.{encode}
use Rattle.pg_execute.specs.Executes.{close_part, first_queried, queried, whole_rows}
use Rattle.pg_execute.specs.Parameters.{execute_request}
use Rattle.pg_query_laws.proofs.Leaving.{begin-clean, read-released, read-closed}
use Rattle.pg_query_laws.proofs.execution_laws.executions_are_given_up.Goals as goal

pub returns-clause-text_begins : goal.returns-clause-text_begins
returns-clause-text_begins c = λ how text vs. refl

pub returns-clause-begins : goal.returns-clause-begins
returns-clause-begins c = λ how s vs. begin-clean (execute_request s vs) _

pub returns-clause-reads : goal.returns-clause-reads
returns-clause-reads c = λ how s vs part is. read-released false (execute_request s vs) part is (queried how whole_rows s)

pub returns-clause-text_reads : goal.returns-clause-text_reads
returns-clause-text_reads c = λ how s vs part is. read-closed false (execute_request s vs) part is (queried how whole_rows s) (close_part s.name)

pub returns-clause-raw_reads : goal.returns-clause-raw_reads
returns-clause-raw_reads c = λ take s vs part is. read-released true (execute_request s vs) part is (first_queried take whole_rows s)

pub returns-clause-text_raw_reads : goal.returns-clause-text_raw_reads
returns-clause-text_raw_reads c = λ take s vs part is. read-closed true (execute_request s vs) part is (first_queried take whole_rows s) (close_part s.name)

pub returns-clause-prepares : goal.returns-clause-prepares
unfolding digits is_utf8 chars encode utf8_lossy utf8_valid_len
returns-clause-prepares c = refl

pub returns-clause-looks_up : goal.returns-clause-looks_up
unfolding digits is_utf8 chars encode utf8_lossy utf8_valid_len
returns-clause-looks_up c = refl

pub returns-clause-executes : goal.returns-clause-executes
unfolding digits is_utf8 chars encode utf8_lossy utf8_valid_len
returns-clause-executes c = refl
