-- What each call asks and answers (PostgreSQL documentation, "START TRANSACTION", "SAVEPOINT", "RELEASE SAVEPOINT", "ROLLBACK TO SAVEPOINT", "COMMIT",
-- "ROLLBACK", "Simple Query").
use Rattle.std.specs.Prelude.{[], ◌∷◌, false, Option, Result, Ok, Err}
use Rattle.pg_spec.specs.Frames.{query_frame}
use Rattle.pg_types.specs.declared.error.Error.{Error}
use Rattle.pg_query.specs.Dialogue.{Dialogue, Answer, Send}
use Rattle.pg_query.specs.Reading.{reads}
use Rattle.pg_query.specs.declared.desk_call.Cleanup.TheVariants.{Post}
use Rattle.pg_core.specs.Behind.{behind}
use Rattle.pg_core.specs.Composing.{asks_for, or_encode}
use Rattle.pg_client.specs.Done.{batch_execute, batch_reading}
use Rattle.pg_steps.specs.Requests.{rollback_frame}
use Rattle.pg_steps.specs.Transactions.{commit_text, rollback_text, savepoint_text, start_text}
use Rattle.pg_steps.specs.declared.call.Call.{Call}
use Rattle.pg_steps.specs.declared.call.Call.TheVariants as call
use Rattle.pg_steps.specs.declared.modes.Modes.{Modes}
use Rattle.pg_steps.specs.declared.savepoint.Savepoint.{Savepoint as Name}

-- ROLLBACK is sent before an error, and nobody reads its reply. Where the desk refuses it, that error is the answer.
abbrev pub rolled_back_at_error : Result (Unit {0}) Error → Dialogue (Unit {0})
rolled_back_at_error (Ok x) = Answer (Ok x)
rolled_back_at_error (Err e) = Send rollback_frame (λ refusal. Answer (Err refusal)) (Answer (Err e))

-- A transaction is begun. Once its request was booked, an error rolls back, and so does giving up.
abbrev pub begin : Modes → Dialogue (Unit {0})
begin m = asks_for (or_encode (query_frame (start_text m))) (behind (Post rollback_frame ∷ []) (reads false batch_reading) rolled_back_at_error)

-- a savepoint is opened
abbrev pub savepoint : Name → Dialogue (Unit {0})
savepoint s = batch_execute (savepoint_text s)

-- a level is ended, and what was done in it is kept
abbrev pub commit : Option Name → Dialogue (Unit {0})
commit level = batch_execute (commit_text level)

-- what was done in a level is undone, and the reply is read
abbrev pub rollback : Option Name → Dialogue (Unit {0})
rollback level = batch_execute (rollback_text level)

-- What was done in a level is undone, and nobody reads the reply. Where the request can't be written, or the desk refuses it, that error is the answer.
abbrev pub abandon : Option Name → Dialogue (Unit {0})
abandon level = elim (or_encode (query_frame (rollback_text level))) [
  | Ok part ↦ Send part (λ e. Answer (Err e)) (Answer (Ok tt))
  | Err e ↦ Answer (Err e)
]

-- the same of each call
abbrev pub says : Call → Dialogue (Unit {0})
says (call.Begin m) = begin m
says (call.Savepoint s) = savepoint s
says (call.Commit level) = commit level
says (call.Rollback level) = rollback level
says (call.Abandon level) = abandon level
