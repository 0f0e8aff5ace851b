-- A session takes the commands that open and end the levels of a transaction.
use Rattle.std.proofs.Common.{◌≡◌, ℕ, List, [], ◌∷◌, true, false, Bool, Option, Some, None, Result, Ok, Err, codes, refl}
use Rattle.pg_spec.specs.Faults.{FrameFault}
use Rattle.pg_spec.specs.Frames.{query_frame}
use Rattle.pg_spec.specs.RawMessages.{RawMessage}
use Rattle.pg_types.specs.declared.error.Error.{Error}
use Rattle.pg_query.specs.Dialogue.{Dialogue}
use Rattle.pg_query.specs.Reading.{ends, reads}
use Rattle.pg_query.specs.Requests.{reads_unless}
use Rattle.pg_query.specs.declared.desk_call.Cleanup.TheVariants.{Post}
use Rattle.pg_core.specs.Behind.{behind}
use Rattle.pg_core.specs.Composing.{asks_for, or_encode}
use Rattle.pg_core.specs.Times.{IsCommand}
use Rattle.pg_core.proofs.Requests.{request-so}
use Rattle.pg_client.specs.Done.{batch_by, batch_execute, batch_reading}
use Rattle.pg_client.proofs.Done.{batch-free}
use Rattle.pg_session.specs.Speeches.{BooksWhole}
use Rattle.pg_query_laws.specs.Taken.{IsTaken}
use Rattle.pg_query_laws.proofs.Behind.{whole-behind}
use Rattle.pg_query_laws.proofs.ExecutionCommands.{sending}
use Rattle.pg_steps.specs.Dialogues.{begin, rolled_back_at_error}
use Rattle.pg_steps.specs.Requests.{rollback_frame}
use Rattle.pg_steps.specs.Transactions.{start_text}
use Rattle.pg_steps.specs.declared.call.Call.TheVariants as call
use Rattle.pg_steps.specs.declared.modes.Modes.{Modes}
use Rattle.pg_steps.proofs.Same.{is-command, lets-call-go}
use Rattle.pg_table.specs.Abandons.{abandons_by}
use Rattle.pg_table.proofs.DoneDecides.{done-decides}
use Rattle.pg_table.proofs.FrameNames.{made-ok}
use Rattle.pg_table.proofs.Queries.{whole-query}

-- ---- readings book nothing

pub whole-ends : {T : Type 0} (stops : Bool) (o : Option (Result T Error)) → BooksWhole (ends stops o)
whole-ends true (Some (Ok x)) = tt
whole-ends false (Some (Ok x)) = tt
whole-ends stops (Some (Err e)) = tt
whole-ends stops None = tt

pub whole-unless : {T : Type 0} (stops : Bool) (reading : List RawMessage → Option (Result T Error)) (o : Option (Result T Error)) → BooksWhole (reads_unless stops reading o)
whole-unless stops reading (Some r) = tt
whole-unless stops reading None = λ ms. whole-ends stops (reading ms)

-- ---- a batch

batch-is : (o : Result (List ℕ) FrameFault) → IsCommand (batch_by o)
batch-is (Err fault) = record { tidy = tt; nothing = tt; sane = tt; in_time = tt; faithful = tt }
batch-is (Ok frame) = request-so false frame batch_reading (done-decides true)

batch-books : (text : List ℕ) (o : Result (List ℕ) FrameFault) → query_frame text ≡ o → BooksWhole (batch_by o)
batch-books text (Err fault) e = tt
batch-books text (Ok frame) e = (whole-query text frame e, refl, whole-unless false batch_reading (batch_reading []))

pub batch-taken : (text : List ℕ) → IsTaken (batch_execute text)
batch-taken text = record { command = batch-is (query_frame text); lets_go = batch-free (query_frame text); whole = batch-books text (query_frame text) refl }

-- ---- a begin, which rolls back at an error

back-whole : (r : Result (Unit {0}) Error) → BooksWhole (rolled_back_at_error r)
back-whole (Ok x) = tt
back-whole (Err e) = (whole-query (codes "ROLLBACK") rollback_frame refl, λ refusal. tt, tt)

begin-books : (text : List ℕ) (o : Result (List ℕ) FrameFault) → query_frame text ≡ o → BooksWhole (asks_for (or_encode o) (behind (Post rollback_frame ∷ []) (reads false batch_reading) rolled_back_at_error))
begin-books text (Err fault) e = tt
begin-books text (Ok frame) e =
    (whole-query text frame e, refl, whole-behind (Post rollback_frame ∷ []) rolled_back_at_error back-whole (reads false batch_reading) (λ ms. whole-ends false (batch_reading ms)))

pub begin-taken : (modes : Modes) → IsTaken (begin modes)
begin-taken modes = record { command = is-command (call.Begin modes); lets_go = lets-call-go (call.Begin modes); whole = begin-books (start_text modes) (query_frame (start_text modes)) refl }

-- ---- a level that is given up

pub abandons-taken : (text : List ℕ) → IsTaken (abandons_by text)
abandons-taken text = sending (or_encode (query_frame text)) (λ part e. whole-query text part (made-ok (query_frame text) part e))
