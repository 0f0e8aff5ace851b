-- Where the rest of a reply stands that is taken, before the types of its columns are looked up.
use Rattle.std.specs.Prelude.{◌≡◌, ◌++◌, List, [], ◌∷◌, Bool, true, false, if◌then◌else◌, Option, Some, None, Result, Ok, Err}
use Rattle.pg_spec.specs.RawMessages.{RawMessage}
use Rattle.pg_spec.specs.declared.stamps.Stamp.{Stamp}
use Rattle.pg_desk.specs.declared.event.Event.{Event}
use Rattle.pg_types.specs.declared.error.Error.{Error}
use Rattle.pg_query.specs.declared.desk_call.Cleanup.TheVariants.{Release}
use Rattle.pg_query.specs.Dialogue.{Dialogue, HangUp, Read, feed}
use Rattle.pg_query.specs.Meaning.{GoesToAnswer}
use Rattle.pg_execute.specs.Typed.{has_ended}
use Rattle.pg_streams.specs.Brought.{joined}
use Rattle.pg_streams.specs.Families.{Family, GoesFor, PausesFor}
use Rattle.pg_streams.specs.Hearing.{First}
use Rattle.pg_streams.specs.declared.giving.Told.{Told}
use Rattle.pg_streams.specs.declared.giving.Told.TheVariants.{Item}
use Rattle.pg_streams.specs.TypedRaw.{Asked}
use Rattle.pg_streams.specs.declared.rests.Rest.{Rest}

-- ---- what is told first

-- the messages behind the columns open the rows once they are all there
abbrev pub rest_first : List RawMessage → First (Unit {0}) (Unit {0})
rest_first ms = if has_ended ms then record { told = Some (Item tt); giving = tt; left = ms } else record { told = None; giving = tt; left = [] }

-- an error in place of the columns, or the messages behind them
abbrev pub whole_first : Option (Told (Unit {0})) → First (Unit {0}) (Unit {0}) → First (Unit {0}) (Unit {0})
whole_first (Some (Item u)) first = rest_first first.left
whole_first told first = first

-- ---- where one stands who goes on so with what was taken

-- the messages that were taken
abbrev pub came : Rest → List RawMessage
came s = joined s.batches.items

-- messages are taken up to the end of the reply, and the request is hung up
abbrev pub takes_so : {T : Type 0} → (List RawMessage → Dialogue T) → Dialogue T
takes_so next = Read (Release ∷ []) has_ended (λ taken. HangUp (next taken))

-- where these came
abbrev pub rests : (rows : Bool) → Rest → Family (List RawMessage → Dialogue (Asked rows)) (Asked rows) (Unit {0}) (Unit {0})
rests rows s = record {
  place = λ next. record { dialogue = feed (came s) (takes_so next); reads = s.id };
  first = λ more. rest_first (came s ++ more);
}

-- It is known whether they end the reply.
abbrev pub IsRest : Rest → Type 0
IsRest s = s.ended ≡ has_ended (came s)

-- ---- what its calls say

-- These came behind those that were there.
pub record Adds (old : Rest) (ms : List RawMessage) (new : Rest) : Type 0 where
  pub messages : came new ≡ came old ++ ms
  pub id : new.id ≡ old.id
  pub is : IsRest old → IsRest new

-- The events led to where the rest has ended, or to an error.
abbrev pub RestComes : {D : Type 0} → (D → List Event → D → Type 0) → Stamp → D → Rest → D → Rest → Result (Unit {0}) Error → Type 0
RestComes becomes stamp a old b new (Ok u) = ((rows : Bool) → GoesFor becomes stamp a (rests rows old) b (rests rows new)) × (has_ended (came new) ≡ true)
RestComes becomes stamp a old b new (Err e) = (rows : Bool) (next : List RawMessage → Dialogue (Asked rows)) → GoesToAnswer becomes stamp a ((rests rows old).place next) b (Err e)

-- They led to where a message is awaited.
pub record RestWaits {D : Type 0} (becomes : D → List Event → D → Type 0) (stamp : Stamp) (a : D) (old : Rest) (b : D) (new : Rest) : Type 0 where
  pub pauses : (rows : Bool) → PausesFor becomes stamp a (rests rows old) b (rests rows new)
  pub is : IsRest new
  pub on : has_ended (came new) ≡ false
