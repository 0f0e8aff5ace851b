-- The outcome of a command's life, without turns.
use Rattle.std.specs.Prelude.{◌≡◌, ◌⊎◌, ℕ, List, [], ◌∷◌, map, Bool, true, false, None, Some, Result, Err, is_ok, if◌then◌else◌}
use Rattle.pg_spec.specs.RawMessages.{RawMessage}
use Rattle.pg_types.specs.declared.error.Error.{Error}
use Rattle.pg_types.specs.declared.error.Error.TheVariants.{Closed, OutOfMemory}
use Rattle.pg_desk.specs.History.{IsFrontOf}
use Rattle.pg_desk.specs.declared.event.DeskFault.TheVariants as fault
use Rattle.pg_desk.specs.declared.event.Put.TheVariants as putting
use Rattle.pg_desk.specs.declared.event.Event.{Event}
use Rattle.pg_desk.specs.declared.event.Event.TheVariants as call
use Rattle.pg_query.specs.Dialogue as code
use Rattle.pg_query.specs.Lives.{Deed}
use Rattle.pg_query.specs.declared.desk_call.DeskCall.{DeskCall}
use Rattle.pg_query.specs.declared.desk_call.Reply.{Reply}
use Rattle.pg_spec.specs.Courses.{Asked, Request, Met, outcome_of}
use Rattle.pg_spec.specs.Dialogues.{Dialogue, Answers, Asks, Sends, Reads, Puts, Closes, Calls}
use Rattle.pg_core.specs.Deeds.{bookings_in, additions_in, answers_in, requests_in, whole_in, copies_in, asked_in, EndsRefused}
use Rattle.pg_core.specs.Runs.{run}

-- what a dialogue asks and answers, with no word on hanging up and refusals; its errors are answers too
abbrev pub asked : {T : Type 0} → code.Dialogue T → Dialogue DeskCall Reply (Result T Error)
asked (code.Answer r) = Answers r
asked (code.Ask copying part d) = Asks copying part (asked d)
asked (code.Send part refused d) = Sends part (asked d)
asked (code.Leave id d) = asked d
asked (code.Read cleanup decides next) = Reads decides (λ ms. asked (next ms))
asked (code.Put cleanup part d) = Puts part (asked d)
asked (code.Finish part d) = Closes part (asked d)
asked (code.Close part d) = Closes part (asked d)
asked (code.HangUp d) = asked d
asked (code.Call q refused next) = Calls q (λ r. asked (next r))
asked (code.Hear next) = Reads (λ ms. false) (λ ms. Answers (Err Closed))

-- what it met: what came of its requests, and what it was told
abbrev pub met_by : (came : ℕ → List RawMessage) → List Request → List (Asked DeskCall Reply) → Met Reply
met_by came rs qs = record { replies = map (λ r. came r.number) rs; told = map (λ a. a.reply) qs }

-- the parts of each request
abbrev pub parts_in : List Request → List (List (List ℕ))
parts_in rs = map (λ r. r.booking.parts) rs

-- what was asked, without what was told
abbrev pub questions_in : List (Asked DeskCall Reply) → List DeskCall
questions_in qs = map (λ a. a.question) qs

-- What its deeds booked and asked is the outcome of its dialogue on what it met, with this answer.
pub record IsOutcome {T : Type 0} (came : ℕ → List RawMessage) (d : code.Dialogue T) (ds : List Deed) (r : Result T Error) : Type 0 where
  pub left : List RawMessage
  pub is : outcome_of (asked d) (met_by came (requests_in ds) (asked_in ds))
      ≡ record { parts = []; requests = parts_in (whole_in ds); asked = questions_in (asked_in ds); answer = Some r; left = left }

-- a request as far as it was booked: a copy has a front of its parts, and any other all
abbrev pub IsBegun : (copying : Bool) → List (List ℕ) → List (List ℕ) → Type 0
IsBegun true parts all = IsFrontOf parts all
IsBegun false parts all = parts ≡ all

-- each of these requests, of which these are copies, is the one at its place, as far as it was booked
abbrev pub AreBegun : List Bool → List (List (List ℕ)) → List (List (List ℕ)) → Type 0
AreBegun copies [] all = Unit {0}
AreBegun (c ∷ copies) (x ∷ xs) (y ∷ ys) = IsBegun c x y × AreBegun copies xs ys
AreBegun _ _ _ = ⊥

-- What its deeds booked and added is a front of that, and what they asked is all of it.
pub record IsUnderWay {T : Type 0} (came : ℕ → List RawMessage) (d : code.Dialogue T) (ds : List Deed) : Type 0 where
  pub requests : AreBegun (copies_in ds) (parts_in (whole_in ds)) (outcome_of (asked d) (met_by came (requests_in ds) (asked_in ds))).requests
  pub asked : questions_in (asked_in ds) ≡ (outcome_of (asked d) (met_by came (requests_in ds) (asked_in ds))).asked

-- a desk refuses no booking, no part and no question by it
abbrev pub is_granted : Event → Bool
is_granted (call.Book stamp part copying (Err f)) = false
is_granted (call.Put id part (putting.Gone back)) = false
is_granted (call.Put id part (putting.OutOfMemory back)) = false
is_granted (call.EndCopy id part (putting.Gone back)) = false
is_granted (call.EndCopy id part (putting.OutOfMemory back)) = false
is_granted (call.NextStatement (Err fault.Encode)) = true
is_granted (call.NextStatement (Err f)) = false
is_granted (call.NextPortal (Err fault.Encode)) = true
is_granted (call.NextPortal (Err f)) = false
is_granted (call.Catalog c) = is_ok (code.reply_of c)
is_granted _ = true

-- the deeds before the first booking, part or question that the desk refused: all, where it refused none
abbrev pub unrefused : List Deed → List Deed
unrefused [] = []
unrefused (a ∷ ds) = if is_granted a.event then a ∷ unrefused ds else []

-- This is the answer that the function gives, what was refused among its supplies; where no booking, part or question was, it is the outcome.
pub record AnswersSo {T : Type 0} (came : ℕ → List RawMessage) (d : code.Dialogue T) (ds : List Deed) (r : Result T Error) : Type 0 where
  pub ran : (run came None 0 d (bookings_in ds) (answers_in ds) (additions_in ds)).left ≡ code.Answer r
  pub outcome : unrefused ds ≡ ds → IsOutcome came d ds r

-- A life that ended in this answer: it is so, or a take or a hanging up was refused, or memory lacked. In each case what was done before
-- the desk refused a booking, a part or a question is a front of the outcome.
abbrev pub LivesSo : {T : Type 0} → (came : ℕ → List RawMessage) → code.Dialogue T → List Deed → code.Dialogue T → Result T Error → Type 0
LivesSo came d ds q r = IsUnderWay came d (unrefused ds) × (AnswersSo came d ds r ⊎ (EndsRefused ds q × (q ≡ code.Answer r)) ⊎ (r ≡ Err OutOfMemory))
