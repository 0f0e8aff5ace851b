-- The whole life of a simple query.
use Rattle.std.specs.Prelude.{◌≡◌, ◌⊎◌, ℕ, List, [], Option, Some, None, Result, Ok, Err}
use Rattle.pg_spec.specs.Faults as spec
use Rattle.pg_spec.specs.RawMessages.{RawMessage}
use Rattle.pg_spec.specs.SimpleQuery.{simple_reading}
use Rattle.pg_desk.specs.History.{IsFrontOf}
use Rattle.pg_types.specs.declared.error.Error.{Error}
use Rattle.pg_query.specs.Lives.{Deed, messages_taken}
use Rattle.pg_query.specs.Requests.{BooksOne, BooksNone, IsRefused}
use Rattle.pg_query.specs.declared.simple_message.SimpleMessage.{SimpleMessage}
use Rattle.pg_client.specs.Simple.{answer_view}

-- A front of the messages decides this answer.
pub record IsDecided (take : Option ℕ) (ms : List RawMessage) (r : Result (List SimpleMessage) Error) : Type 0 where
  pub front : List RawMessage
  pub is_front : IsFrontOf front ms
  pub decides : simple_reading take front ≡ Some (answer_view r)

-- One request was booked, and the messages taken of it decide this answer, or the desk gave no more.
pub record AnswersQuery (take : Option ℕ) (frame : List ℕ) (done : List Deed) (r : Result (List SimpleMessage) Error) : Type 0 where
  pub booked : BooksOne frame done
  pub decided : IsDecided take (messages_taken booked.after) r ⊎ IsRefused booked.after r

-- what was done up to an answer, by the frame of the text
abbrev pub AnswersBy : (take : Option ℕ) → Result (List ℕ) spec.FrameFault → List Deed → Result (List SimpleMessage) Error → Type 0
AnswersBy take (Err fault) done r = (done ≡ []) × (r ≡ Err (spec.Encode (spec.Frame fault)))
AnswersBy take (Ok frame) done r = AnswersQuery take frame done r ⊎ BooksNone frame done r

-- One request was booked, and no front of the messages taken of it decides an answer.
pub record AwaitsMore (take : Option ℕ) (frame : List ℕ) (done : List Deed) : Type 0 where
  pub booked : BooksOne frame done
  pub undecided : (front : List RawMessage) → IsFrontOf front (messages_taken booked.after) → simple_reading take front ≡ None

-- what was done up to where a message is awaited
abbrev pub AwaitsBy : (take : Option ℕ) → Result (List ℕ) spec.FrameFault → List Deed → Type 0
AwaitsBy take (Err fault) done = ⊥
AwaitsBy take (Ok frame) done = AwaitsMore take frame done
