-- A copy to the server, as a dialogue: an opening, its parts, and an end (PostgreSQL documentation, "COPY Operations").
use Rattle.std.specs.Prelude.{ℕ, List, [], ◌∷◌, true, Option, Some, None, is_some, Result, Ok, Err}
use Rattle.pg_spec.specs.RawMessages.{RawMessage}
use Rattle.pg_types.specs.declared.error.Error.{Error}
use Rattle.pg_types.specs.declared.error.Error.TheVariants.{UnexpectedMessage}
use Rattle.pg_query.specs.Dialogue.{Dialogue, Answer, Ask, Read, Put, Finish, Close, HangUp}
use Rattle.pg_query.specs.Reading.{reads}
use Rattle.pg_query.specs.declared.desk_call.Cleanup.{Cleanup}
use Rattle.pg_query.specs.declared.desk_call.Cleanup.TheVariants.{Release, Close as CloseFirst}

-- what is left to do where an open copy is given up
abbrev pub giving_up : (failing : List ℕ) → List Cleanup
giving_up failing = CloseFirst failing ∷ Release ∷ []

-- these parts, one after another
abbrev pub puts : {T : Type 0} → (failing : List ℕ) → (parts : List (List ℕ)) → Dialogue T → Dialogue T
puts failing [] d = d
puts failing (part ∷ parts) d = Put (giving_up failing) part (puts failing parts d)

-- behind the reply to the opening: a copy that was refused is closed and hung up, and one that is open gets its parts and is ended
abbrev pub once_opened : {T : Type 0} → (failing ending : List ℕ) → (parts : List (List ℕ)) → (List RawMessage → Option (Result T Error)) → Option (Result (Unit {0}) Error) → Dialogue T
once_opened failing ending parts reading (Some (Ok x)) = puts failing parts (Finish ending (reads true reading))
once_opened failing ending parts reading (Some (Err e)) = Close failing (HangUp (Answer (Err e)))
once_opened failing ending parts reading None = Close failing (HangUp (Answer (Err UnexpectedMessage)))

-- A copy: `opened` reads whether the server takes it, and `reading` its answer behind the end.
abbrev pub copies : {T : Type 0} → (opening failing ending : List ℕ) → (parts : List (List ℕ)) → (opened : List RawMessage → Option (Result (Unit {0}) Error)) → (List RawMessage → Option (Result T Error)) → Dialogue T
copies opening failing ending parts opened reading =
    Ask true opening (Read (giving_up failing) (λ ms. is_some (opened ms)) (λ ms. once_opened failing ending parts reading (opened ms)))
