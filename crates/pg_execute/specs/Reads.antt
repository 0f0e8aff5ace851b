-- Where a reply is read on.
use Rattle.std.specs.Prelude.{List, false, Option, Some, None, Result, Err}
use Rattle.pg_spec.specs.RawMessages.{RawMessage}
use Rattle.pg_types.specs.declared.error.Error.{Error}
use Rattle.pg_query.specs.Dialogue.{Dialogue, Answer}
use Rattle.pg_query.specs.Reading.{reads}
use Rattle.pg_execute.specs.declared.reads_on.ReadsOn.{ReadsOn}

-- what is still read and answered, by the error behind which it was hung up
abbrev pub reads_from : {T : Type 0} → (List RawMessage → Option (Result T Error)) → Option Error → Dialogue T
reads_from reading None = reads false reading
reads_from reading (Some e) = Answer (Err e)

-- the same of the script
abbrev pub reads_at : {R T : Type 0} → (R → List RawMessage → Option (Result T Error)) → ReadsOn R → Dialogue T
reads_at reading s = reads_from (reading s.reading) s.failed

-- it sends and asks nothing that a desk could refuse
abbrev pub reads_refuses : {R T : Type 0} → ReadsOn R → Error → Dialogue T
reads_refuses s e = Answer (Err e)
