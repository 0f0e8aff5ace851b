-- Where the request of a typed query stands whose columns haven't come.
use Rattle.std.specs.Prelude.{◌≡◌, ◌++◌, List, [], ◌∷◌, Bool, false, Option, Some, None, Result, Ok, Err}
use Rattle.pg_spec.specs.Bodies.{Field}
use Rattle.pg_spec.specs.Faults as spec
use Rattle.pg_spec.specs.RawMessages.{RawMessage}
use Rattle.pg_spec.specs.Readings.{Next, GoesOn, Answers}
use Rattle.pg_spec.specs.declared.stamps.Stamp.{Stamp}
use Rattle.pg_desk.specs.declared.event.Event.{Event}
use Rattle.pg_wire.specs.Faults.{wire_fault}
use Rattle.pg_types.specs.declared.faults.WireFault.{WireFault}
use Rattle.pg_types.specs.declared.error.Error.{Error}
use Rattle.pg_types.specs.declared.error.Error.TheVariants.{OutOfMemory}
use Rattle.pg_query.specs.Dialogue.{Dialogue, Answer, HangUp, feed}
use Rattle.pg_query.specs.Meaning.{GoesToAnswer}
use Rattle.pg_query.specs.Reading.{reads}
use Rattle.pg_core.specs.Sequences.{then_do}
use Rattle.pg_execute.specs.Typed.{head, head_next}
use Rattle.pg_streams.specs.Families.{Family, GoesFor, PausesFor}
use Rattle.pg_streams.specs.Hearing.{First, Heard, first_told}
use Rattle.pg_streams.specs.declared.giving.Told.TheVariants.{Item, Fails}
use Rattle.pg_streams.specs.TypedRaw.{Asked}
use Rattle.pg_streams.specs.declared.heads.Heads.{Heads}

-- ---- what is told first

-- what a message tells by what it does: the columns, which are the item, or an error
abbrev pub head_does : Next (Unit {0}) (Result (List Field) Error) → Heard (Unit {0}) (Unit {0})
head_does (GoesOn u) = record { told = None; giving = u }
head_does (Answers (Ok fields)) = record { told = Some (Item tt); giving = tt }
head_does (Answers (Err e)) = record { told = Some (Fails e); giving = tt }

-- the same of a message
abbrev pub head_heard : Unit {0} → RawMessage → Heard (Unit {0}) (Unit {0})
head_heard u raw = head_does (head_next u raw)

-- what messages tell first
abbrev pub head_first : List RawMessage → First (Unit {0}) (Unit {0})
head_first ms = first_told head_heard tt ms

-- ---- where one stands who goes on so with the columns

-- before they came
abbrev pub heads : (rows : Bool) → Heads → Family (List Field → Dialogue (Asked rows)) (Asked rows) (Unit {0}) (Unit {0})
heads rows s = record {
  place = λ next. record { dialogue = feed s.batch (then_do (reads false head) next); reads = s.id };
  first = λ more. head_first (s.batch ++ more);
}

-- once they came
abbrev pub with_columns : (rows : Bool) → List Field → Heads → Family (List Field → Dialogue (Asked rows)) (Asked rows) (Unit {0}) (Unit {0})
with_columns rows fields s = record {
  place = λ next. record { dialogue = feed s.batch (next fields); reads = s.id };
  first = λ more. record { told = Some (Item tt); giving = tt; left = s.batch ++ more };
}

-- where an error came in their place
abbrev pub with_error : (rows : Bool) → Error → Heads → Family (List Field → Dialogue (Asked rows)) (Asked rows) (Unit {0}) (Unit {0})
with_error rows e s = record {
  place = λ next. record { dialogue = HangUp (Answer (Err e)); reads = s.id };
  first = λ more. record { told = Some (Fails e); giving = tt; left = [] };
}

-- ---- what its calls say

-- a message tells the columns or an error, or nothing yet
abbrev pub HeadTells : RawMessage → Option (Result (List Field) Error) → Type 0
HeadTells raw (Some r) = head (raw ∷ []) ≡ Some r
HeadTells raw None = (head (raw ∷ []) ≡ None) × ((ms : List RawMessage) → head (raw ∷ ms) ≡ head ms)

-- what is told of a message that is refused by this fault
abbrev pub IsRefusal : WireFault → Result Error Error → Type 0
IsRefusal fault (Ok error) = (c : spec.WireFault) × (wire_fault fault ≡ Some c) × (error ≡ spec.Parse (spec.Wire c))
IsRefusal fault (Err e) = e ≡ OutOfMemory

-- What the messages that came tell; nothing is told where none is left.
abbrev pub HeadReads : Heads → Heads → Result (Option (Result (List Field) Error)) Error → Type 0
HeadReads old new (Ok None) = ((rows : Bool) → heads rows new ≡ heads rows old) × (new.batch ≡ [])
HeadReads old new (Ok (Some (Ok fields))) = (rows : Bool) → with_columns rows fields new ≡ heads rows old
HeadReads old new (Ok (Some (Err e))) = (rows : Bool) → with_error rows e new ≡ heads rows old
HeadReads old new (Err e) = e ≡ OutOfMemory

-- The events led to where the columns came, or to an error.
abbrev pub HeadComes : {D : Type 0} → (D → List Event → D → Type 0) → Stamp → D → Heads → D → Heads → Result (List Field) Error → Type 0
HeadComes becomes stamp a old b new (Ok fields) = (rows : Bool) → GoesFor becomes stamp a (heads rows old) b (with_columns rows fields new)
HeadComes becomes stamp a old b new (Err e) = (rows : Bool) (next : List Field → Dialogue (Asked rows)) → GoesToAnswer becomes stamp a ((heads rows old).place next) b (Err e)

-- They led to where a message is awaited, and all that came were read.
pub record HeadWaits {D : Type 0} (becomes : D → List Event → D → Type 0) (stamp : Stamp) (a : D) (old : Heads) (b : D) (new : Heads) : Type 0 where
  pub pauses : (rows : Bool) → PausesFor becomes stamp a (heads rows old) b (heads rows new)
  pub empty : new.batch ≡ []
