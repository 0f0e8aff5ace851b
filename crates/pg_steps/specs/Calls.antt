-- Which steps each call takes, and by which text it asks.
use Rattle.std.specs.Prelude.{ℕ, List, [], ◌∷◌, Result}
use Rattle.pg_types.specs.declared.error.Error.{Error}
use Rattle.pg_spec.specs.Frames.{query_frame}
use Rattle.pg_core.specs.Composing.{or_encode}
use Rattle.pg_steps.specs.Transactions.{commit_text, rollback_text, savepoint_text, start_text}
use Rattle.pg_steps.specs.declared.call.Call.{Call}
use Rattle.pg_steps.specs.declared.call.Call.TheVariants as call
use Rattle.pg_steps.specs.declared.step.Step.{Step}
use Rattle.pg_steps.specs.declared.step.Step.TheVariants.{Asks, RollsBack, Reads, Sends}

-- the steps of a call
abbrev pub plan : Call → List Step
plan (call.Begin modes) = Asks ∷ RollsBack ∷ Reads ∷ []
plan (call.Savepoint s) = Asks ∷ Reads ∷ []
plan (call.Commit level) = Asks ∷ Reads ∷ []
plan (call.Rollback level) = Asks ∷ Reads ∷ []
plan (call.Abandon level) = Sends ∷ []

-- the text that it asks by
abbrev pub text_of : Call → List ℕ
text_of (call.Begin modes) = start_text modes
text_of (call.Savepoint s) = savepoint_text s
text_of (call.Commit level) = commit_text level
text_of (call.Rollback level) = rollback_text level
text_of (call.Abandon level) = rollback_text level

-- its request, or why that can't be sent
abbrev pub request_of : Call → Result (List ℕ) Error
request_of c = or_encode (query_frame (text_of c))
