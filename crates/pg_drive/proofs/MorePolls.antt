-- Polls of a command over a line, one more behind the others, and the last.
use Rattle.std.proofs.Common.{◌≡◌, List, [], ◌∷◌, ◌++◌, Result, refl, subst, sym}
use Rattle.pg_spec.specs.declared.stamps.Stamp.{Stamp}
use Rattle.pg_desk.specs.declared.event.Event.{Event}
use Rattle.pg_drive.specs.Drives.{Drives, GoesOn, Stand}

module _ {H T : Type 0} (becomes : H → List Event → H → Type 0) (stamp : Stamp) where
  -- one more poll that goes on
  pub one-more : (s : Stand H T) (ss : List (Stand H T)) (t u : Stand H T) → Drives becomes stamp s ss t → GoesOn becomes stamp t.place t.line u.place u.line → Drives becomes stamp s (ss ++ u ∷ []) u
  one-more s [] t u same goes = (subst (λ (x : Stand H T). GoesOn becomes stamp x.place x.line u.place u.line) same goes, refl)
  one-more s (x ∷ ss) t u (first, more) goes = (first, one-more x ss t u more goes)
