-- The types that the desk keeps: what a command asks it, and how a type was found.
use Rattle.std.specs.Option.{option_and_then}
use Rattle.std.specs.Prelude.{◌≡◌, ◌⊎◌, ℕ, ◌==◌, List, [], ◌∷◌, Option, Some, None, IsSome, Result, Ok, zip, if◌then◌else◌}
use Rattle.pg_spec.specs.Courses.{Met, Outcome, outcome_of}
use Rattle.pg_spec.specs.RawMessages.{RawMessage}
use Rattle.pg_types.specs.BuiltIns.{built_in_type}
use Rattle.pg_types.specs.declared.error.Error.{Error}
use Rattle.pg_types.specs.declared.pg_type.PgType.{PgType}
use Rattle.pg_query.specs.declared.desk_call.DeskCall.{DeskCall}
use Rattle.pg_query.specs.declared.desk_call.DeskCall.TheVariants.{ClearTypes, SetType, TypeOf}
use Rattle.pg_query.specs.declared.desk_call.Reply.{Reply}
use Rattle.pg_query.specs.declared.desk_call.Reply.TheVariants as reply
use Rattle.pg_query.specs.Dialogue.{Dialogue, Answer, Ask, Send, Leave, Read, Put, Finish, Close, HangUp, Call, Hear}
use Rattle.pg_core.specs.Outcomes.{asked}

-- ---- what is asked

-- P of each question that a dialogue asks, whatever it reads and is told, and whatever the desk refuses
abbrev pub EachAsked : {T : Type 0} → (DeskCall → Type 0) → Dialogue T → Type 0
EachAsked P (Answer r) = Unit {0}
EachAsked P (Ask copying part d) = EachAsked P d
EachAsked P (Send part refused d) = ((e : Error) → EachAsked P (refused e)) × EachAsked P d
EachAsked P (Leave id d) = EachAsked P d
EachAsked P (Read cleanup decides next) = (ms : List RawMessage) → EachAsked P (next ms)
EachAsked P (Put cleanup part d) = EachAsked P d
EachAsked P (Finish part d) = EachAsked P d
EachAsked P (Close part d) = EachAsked P d
EachAsked P (HangUp d) = EachAsked P d
EachAsked P (Call q refused next) = P q × ((e : Error) → EachAsked P (refused e)) × ((r : Reply) → EachAsked P (next r))
EachAsked P (Hear next) = (r : Reply) → EachAsked P (next r)

-- a type that is to be kept has the oid under which it is kept
abbrev pub IsOwn : DeskCall → Type 0
IsOwn (SetType oid ty) = ty.oid ≡ oid
IsOwn other = Unit {0}

-- no type that is kept is dropped
abbrev pub IsNoClear : DeskCall → Type 0
IsNoClear ClearTypes = ⊥
IsNoClear other = Unit {0}

-- What a dialogue does to the types that are kept: it keeps each under its own oid, and drops none.
pub record KeepsTypes {T : Type 0} (d : Dialogue T) : Type 0 where
  pub own : EachAsked IsOwn d
  pub clears_nothing : EachAsked IsNoClear d

-- ---- how a type was found

-- what comes of a dialogue by the replies to its requests and by what it is told
abbrev pub comes_of : {T : Type 0} → Dialogue T → Met Reply → Outcome DeskCall (Result T Error)
comes_of d met = outcome_of (asked d) met

-- what it asks the desk, each question with what it is told
abbrev pub told_in : {T : Type 0} → Dialogue T → Met Reply → List (DeskCall × Reply)
told_in d met = zip (comes_of d met).asked met.told

-- A question found the type of an oid: the desk told the one that it keeps, or one of this oid was to be kept, and the desk handed back this.
abbrev pub Finds : ℕ → PgType → DeskCall → Reply → Type 0
Finds oid ty (TypeOf of) (reply.Type told) = (of ≡ oid) × (told ≡ Some ty)
Finds oid ty (SetType set kept) (reply.Type told) = (set ≡ oid) × (kept.oid ≡ oid) × (told ≡ Some ty)
Finds oid ty q r = ⊥

-- the last question did
abbrev pub LastFinds : ℕ → PgType → List (DeskCall × Reply) → Type 0
LastFinds oid ty [] = ⊥
LastFinds oid ty (a ∷ []) = Finds oid ty a.0 a.1
LastFinds oid ty (a ∷ b ∷ asks) = LastFinds oid ty (b ∷ asks)

-- one of the questions did
abbrev pub OneFinds : ℕ → PgType → List (DeskCall × Reply) → Type 0
OneFinds oid ty [] = ⊥
OneFinds oid ty (a ∷ asks) = Finds oid ty a.0 a.1 ⊎ OneFinds oid ty asks

-- these are the types of these oids, each of them built-in or found by one of the questions
abbrev pub AreFound : List ℕ → List PgType → List (DeskCall × Reply) → Type 0
AreFound [] [] asks = Unit {0}
AreFound (oid ∷ oids) (ty ∷ types) asks = ((built_in_type oid ≡ Some ty) ⊎ OneFinds oid ty asks) × AreFound oids types asks
AreFound oids types asks = ⊥

-- ---- lookups under way

-- a lookup of this oid ends, which is the innermost
abbrev pub closes : ℕ → List ℕ → Option (List ℕ)
closes oid [] = None
closes oid (innermost ∷ begun) = if innermost == oid then Some begun else None

-- The oids that are looked up behind a question, the innermost first: a lookup begins where the desk keeps no type of an oid, and ends where
-- one is kept. There are none where a type is kept of any but the innermost.
abbrev pub begun_behind : DeskCall → Reply → List ℕ → Option (List ℕ)
begun_behind (TypeOf oid) (reply.Type None) begun = Some (oid ∷ begun)
begun_behind (SetType oid ty) r begun = closes oid begun
begun_behind q r begun = Some begun

-- the same behind several
abbrev pub under_way : List ℕ → List (DeskCall × Reply) → Option (List ℕ)
under_way begun [] = Some begun
under_way begun (a ∷ asks) = option_and_then (λ o. under_way o asks) (begun_behind a.0 a.1 begun)

-- Types are kept by lookups alone.
pub record KeepsByLookups {T : Type 0} (d : Dialogue T) (met : Met Reply) : Type 0 where
  -- a type is kept only where it ends the innermost lookup, of its oid
  pub nested : IsSome (under_way [] (told_in d met))
  -- where a value is answered each lookup has ended so
  pub ended : (x : T) → (comes_of d met).answer ≡ Some (Ok x) → under_way [] (told_in d met) ≡ Some []
