-- The replies that a typed query or execute reads: the columns, what stands behind them, and a count.
use Rattle.std.proofs.Common.{ℕ, List, Bool, true, false, if◌then◌else◌, Err}
use Rattle.std.specs.Str.{is_utf8}
use Rattle.pg_spec.specs.Bodies.{Field}
use Rattle.pg_spec.specs.Faults as spec
use Rattle.pg_spec.specs.Messages.{Message, CommandComplete, ReadyForQuery}
use Rattle.pg_spec.specs.Readings.{GoesOn, Answers}
use Rattle.pg_spec.specs.SimpleQuery.{affected}
use Rattle.pg_query.specs.Dialogue.{Dialogue}
use Rattle.pg_query.specs.Reading.{reads}
use Rattle.pg_core.specs.QueryReplies.{told_by}
use Rattle.pg_core.specs.Sequences.{then_do}
use Rattle.pg_execute.specs.Typed.{head, head_message, typed_count_message, typed_count_next}
use Rattle.pg_query_laws.proofs.Steps.{TellsAlone, TellsNone, message-answers, message-refuses, message-tells, message_next, reads-last, reads-then}
use Rattle.pg_query_laws.proofs.Taken.{IsReadOn}

-- the columns come before any ReadyForQuery, and what stands behind them reads on
pub head-then : {T : Type 0} (f : List Field → Dialogue T) → ((fields : List Field) → IsReadOn (f fields)) → IsReadOn (then_do (reads false head) f)
head-then f h = reads-then (message_next (λ u. head_message)) tt (message-refuses (λ u. head_message) (λ u status. tt)) f h

complete-none : (b : Bool) (n : ℕ) → TellsNone {S = ℕ} {A = ℕ} (if b then GoesOn n else Answers (Err (spec.Parse spec.NotText)))
complete-none true n = tt
complete-none false n = tt

count-alone : (n : ℕ) (message : Message) → TellsAlone message (typed_count_message n message)
count-alone n (CommandComplete tag) = complete-none (is_utf8 tag) (affected tag)
count-alone n (ReadyForQuery status) = tt
count-alone n other = tt

pub reads-count : (n : ℕ) → IsReadOn (reads false (told_by typed_count_next n))
reads-count n = reads-last (message_next typed_count_message) n (message-answers typed_count_message (λ n status. tt)) (message-tells typed_count_message count-alone)
