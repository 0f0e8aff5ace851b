-- The names of statements that the desk told, and dialogues that use none but those.
use Rattle.std.proofs.Common.{◌≡◌, ℕ, List, [], ◌∷◌, ◌++◌, Bool, true, false, Option, Some, None, Result, Ok, Err, refl, sym, ap}
use Rattle.pg_spec.specs.RawMessages.{RawMessage}
use Rattle.pg_types.specs.declared.error.Error.{Error}
use Rattle.pg_query.specs.Dialogue.{Dialogue}
use Rattle.pg_query.specs.Reading.{ends, reads}
use Rattle.pg_query.specs.declared.desk_call.Cleanup.{Cleanup}
use Rattle.pg_query.specs.declared.desk_call.DeskCall.{DeskCall}
use Rattle.pg_query.specs.declared.desk_call.DeskCall.TheVariants.{NextStatement}
use Rattle.pg_query.specs.declared.desk_call.Reply.{Reply}
use Rattle.pg_query.specs.declared.desk_call.Reply.TheVariants as reply
use Rattle.pg_core.specs.Behind.{behind}
use Rattle.pg_core.specs.Composing.{asks_for}
use Rattle.pg_core.specs.Prepares.{statement_name}
use Rattle.pg_core.specs.Sequences.{or_answer, then_do}
use Rattle.pg_table.proofs.NamesUsed.{UsesGiven, uses-behind}
use Rattle.pg_table.specs.FreshNames.{statement_names}

-- the name that a number gives
abbrev pub names_told : DeskCall → Reply → List (List ℕ)
names_told NextStatement (reply.Number n) = statement_name n ∷ []
names_told q r = []

-- from these names on it uses what it is given
abbrev pub Uses : {T : Type 0} → List (List ℕ) → Dialogue T → Type 0
Uses given d = UsesGiven statement_names names_told given d

-- from none on
abbrev pub IsFresh : {T : Type 0} → Dialogue T → Type 0
IsFresh d = Uses [] d

-- ---- dialogues put together

pub behinds : {A T : Type 0} (more : List Cleanup) (f : Result A Error → Dialogue T) → ((r : Result A Error) → IsFresh (f r)) → (given : List (List ℕ)) (d : Dialogue A) → Uses given d → Uses given (behind more d f)
behinds more f own given d h = uses-behind statement_names names_told more f own given d h

pub or-answers : {A T : Type 0} (f : A → Dialogue T) → ((x : A) → IsFresh (f x)) → (r : Result A Error) → IsFresh (or_answer f r)
or-answers f h (Ok x) = h x
or-answers f h (Err e) = tt

pub thens : {A T : Type 0} (d : Dialogue A) (f : A → Dialogue T) → IsFresh d → ((x : A) → IsFresh (f x)) → IsFresh (then_do d f)
thens d f h own = behinds [] (or_answer f) (or-answers f own) [] d h

-- a request without a name
pub booked : {T : Type 0} (part : Result (List ℕ) Error) (d : Dialogue T) → ((x : List ℕ) → part ≡ Ok x → statement_names x ≡ []) → IsFresh d → IsFresh (asks_for part d)
booked (Err e) d none h = tt
booked (Ok part) d none h = ([], [], sym (ap (λ (l : List (List ℕ)). l ++ []) (none part refl)), h)

-- the end of a reading
pub ended : {T : Type 0} (stops : Bool) (o : Option (Result T Error)) → IsFresh (ends stops o)
ended true (Some (Ok x)) = tt
ended false (Some (Ok x)) = tt
ended stops (Some (Err e)) = tt
ended stops None = tt

pub reading : {T : Type 0} (stops : Bool) (told : List RawMessage → Option (Result T Error)) → IsFresh (reads stops told)
reading stops told = λ ms. ended stops (told ms)
