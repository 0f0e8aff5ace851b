-- The replies that an execution reads: its rows, the first of them, and their count.
use Rattle.std.proofs.Common.{ℕ, [], ◌∷◌, ◌++◌, length, Bool, true, false, if◌then◌else◌, Result, Err}
use Rattle.std.specs.Str.{is_utf8}
use Rattle.pg_spec.specs.Faults as spec
use Rattle.pg_spec.specs.Messages.{Message, CommandComplete, ReadyForQuery}
use Rattle.pg_spec.specs.Readings.{Next, GoesOn, Answers}
use Rattle.pg_spec.specs.SimpleQuery.{affected}
use Rattle.pg_types.specs.declared.error.Error.{Error}
use Rattle.pg_query.specs.Reading.{reads}
use Rattle.pg_core.specs.QueryReplies.{Said, Row, Ready}
use Rattle.pg_execute.specs.Counts.{Counted, count_by, count_read, counts}
use Rattle.pg_execute.specs.Rows.{first_rows_by, first_rows_read, may_have, rows_by, rows_read}
use Rattle.pg_execute.specs.declared.got.Got.{Got}
use Rattle.pg_execute.specs.declared.how_many.HowMany.{HowMany}
use Rattle.pg_query_laws.proofs.Steps.{IsLast, SaysReady, TellsAlone, TellsNone, message-answers, message-tells, message_next, reads-last, reads-stop, said-answers, said-tells, said_next}
use Rattle.pg_query_laws.proofs.Taken.{IsReadOn}

-- ---- rows

abbrev is_bound : Got → Bool
is_bound g = g.bound

rows-alone : {A : Type 0} (how : HowMany) (makes : Got → Result A Error) (g : Got) (s : Said) → (SaysReady s → ⊥) → TellsNone (rows_by how makes g s)
rows-alone {A} how makes g (Row cells) h = by (may_have how (length later.rows))
  where
    later : Got
    later = record g { rows = g.rows ++ cells ∷ [] }

    by : (b : Bool) → TellsNone {S = Got} {A = A} (if b then GoesOn later else Answers (Err spec.RowCount))
    by true = tt
    by false = tt
rows-alone how makes g Ready h = absurd (h tt)
rows-alone how makes g other h = tt

pub reads-rows : {A : Type 0} (how : HowMany) (columns : ℕ) (makes : Got → Result A Error) (g : Got) → IsReadOn (reads false (rows_read how columns makes g))
reads-rows how columns makes g =
    reads-last (said_next is_bound columns (rows_by how makes)) g (said-answers is_bound columns (rows_by how makes) (λ g. tt) (λ g e. tt)) (said-tells is_bound columns (rows_by how makes) (rows-alone how makes))

pub reads-first-rows : {A : Type 0} (take : ℕ) (how : HowMany) (columns : ℕ) (makes : Got → Result A Error) (g : Got) → IsReadOn (reads true (first_rows_read take how columns makes g))
reads-first-rows take how columns makes g = reads-stop (said_next is_bound columns (first_rows_by take how makes)) g (said-answers is_bound columns (first_rows_by take how makes) (λ g. tt) (λ g e. tt))

-- ---- a count

count-last : (bound : Bool) (n status : ℕ) → IsLast (count_by bound n (ReadyForQuery status))
count-last true n status = tt
count-last false n status = tt

complete-none : (b : Bool) (n : ℕ) → TellsNone {S = Counted} {A = ℕ} (if b then counts n else Answers (Err (spec.Parse spec.NotText)))
complete-none true n = tt
complete-none false n = tt

count-alone : (bound : Bool) (n : ℕ) (message : Message) → TellsAlone message (count_by bound n message)
count-alone true n (CommandComplete tag) = complete-none (is_utf8 tag) (affected tag)
count-alone true n (ReadyForQuery status) = tt
count-alone true n other = tt
count-alone false n (ReadyForQuery status) = tt
count-alone false n other = tt

pub reads-count : (c : Counted) → IsReadOn (reads false (count_read c))
reads-count c = reads-last (message_next step) c (message-answers step (λ c status. count-last c.bound c.count status)) (message-tells step (λ c message. count-alone c.bound c.count message))
  where
    step : Counted → Message → Next Counted (Result ℕ Error)
    step c = count_by c.bound c.count
