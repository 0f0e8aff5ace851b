-- Faults that are handed on.
use Rattle.std.proofs.Common.{Err}
use Rattle.pg_types.specs.declared.fault.ValueFault.{ValueFault}
use Rattle.pg_types.specs.declared.fault.ValueFault.TheVariants as fault
use Rattle.pg_values.specs.Reading.{ReadsAs}

-- where a part has no value, the whole has none
pub handed_on : {V W : Type 0} (P : V → Type 0) (Q : W → Type 0) (e : ValueFault) → ReadsAs P (Err e) → ((w : W) → Q w → (v : V) × P v) → ReadsAs Q (Err e)
handed_on P Q fault.BadValue none whole = λ w q. let part = whole w q in none part.0 part.1
handed_on P Q fault.OutOfMemory none whole = tt
handed_on P Q (fault.WrongType wrong) none whole = none
handed_on P Q fault.WasNull none whole = none
