-- What the messages of a reply tell one who collects its items.
use Rattle.std.specs.Prelude.{◌≡◌, List, [], ◌∷◌, Option, Some, None, Result, Ok, Err}
use Rattle.pg_spec.specs.RawMessages.{RawMessage}
use Rattle.pg_types.specs.declared.error.Error.{Error}
use Rattle.pg_streams.specs.declared.giving.Told.{Told}
use Rattle.pg_streams.specs.declared.giving.Told.TheVariants.{Item, Ends, Fails}

-- what is told, behind what came before
abbrev pub told_behind : {W : Type 0} → (before : W → W) → Option (Result W Error) → Option (Result W Error)
told_behind before None = None
told_behind before (Some (Ok whole)) = Some (Ok (before whole))
told_behind before (Some (Err e)) = Some (Err e)

-- A message tells nothing yet, an item, that the reply ends, or an error.
abbrev pub GivesOn : {G I W : Type 0} → (tells : G → List RawMessage → Option (Result W Error)) → (with_item : I → W → W) → (at_end : G → W) → G → RawMessage → Option (Told I) → G → Type 0
GivesOn tells with_item at_end old m None new = (tells old (m ∷ []) ≡ None) × ((ms : List RawMessage) → tells old (m ∷ ms) ≡ tells new ms)
GivesOn tells with_item at_end old m (Some (Item i)) new = (tells old (m ∷ []) ≡ None) × ((ms : List RawMessage) → tells old (m ∷ ms) ≡ told_behind (with_item i) (tells new ms))
GivesOn tells with_item at_end old m (Some Ends) new = tells old (m ∷ []) ≡ Some (Ok (at_end new))
GivesOn tells with_item at_end old m (Some (Fails e)) new = tells old (m ∷ []) ≡ Some (Err e)
