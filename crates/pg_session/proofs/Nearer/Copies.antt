-- A copy puts its parts.
use Rattle.std.proofs.Common.{◌≡◌, ℕ, ◌-◌, List, [], ◌∷◌, length, true, Option, Some, None, Result, Ok, Err, subst, arith}
use Rattle.pg_spec.specs.RawMessages.{RawMessage}
use Rattle.pg_types.specs.declared.error.Error.{Error}
use Rattle.pg_query.specs.Dialogue.{Finish}
use Rattle.pg_query.specs.Reading.{ends, reads}
use Rattle.pg_core.specs.Copying.{copies, once_opened, puts}
use Rattle.pg_session.specs.Measure.{PutsAtMost}

module _ {T : Type 0} (failing ending : List ℕ) (reading : List RawMessage → Option (Result T Error)) where
  ends-none : (n : ℕ) (o : Option (Result T Error)) → PutsAtMost n (ends true o)
  ends-none n (Some (Ok x)) = tt
  ends-none n (Some (Err e)) = tt
  ends-none n None = tt

  parts-so : (parts : List (List ℕ)) → PutsAtMost (length parts) (puts failing parts (Finish ending (reads true reading)))
  parts-so [] = λ ms. ends-none 0 (reading ms)
  parts-so (part ∷ parts) =
      let less : length parts ≡ length (part ∷ parts) - 1 = omega arith in
      (omega arith, subst (λ (n : ℕ). PutsAtMost n (puts failing parts (Finish ending (reads true reading)))) less (parts-so parts))

  opened-so : (parts : List (List ℕ)) (o : Option (Result (Unit {0}) Error)) → PutsAtMost (length parts) (once_opened failing ending parts reading o)
  opened-so parts (Some (Ok x)) = parts-so parts
  opened-so parts (Some (Err e)) = tt
  opened-so parts None = tt

  pub copy-puts : (opening : List ℕ) (parts : List (List ℕ)) (opened : List RawMessage → Option (Result (Unit {0}) Error)) → PutsAtMost (length parts) (copies opening failing ending parts opened reading)
  copy-puts opening parts opened = λ ms. opened-so parts (opened ms)
