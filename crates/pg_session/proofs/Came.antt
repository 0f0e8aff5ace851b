-- How a trace counts what came.
use Rattle.std.proofs.Common.{◌≡◌, ℕ, zero, suc, ◌≤◌, List, [], ◌∷◌, ◌++◌, length, Option, refl, ap, ◌∙◌, arith, unwrap_or, option_map}
use Rattle.pg_spec.specs.declared.stamps.TurnMark.{TurnMark}
use Rattle.pg_spec.specs.Turns.{delivered_before}
use Rattle.pg_session.proofs.Lists.{get-before, get-last, one-more}

-- a mark more changes none before it
pub counted-before : (trace : List TurnMark) (m : TurnMark) (place : ℕ) → place ≤ length trace →
    delivered_before (trace ++ m ∷ []) place ≡ delivered_before trace place
counted-before trace m zero h = refl
counted-before trace m (suc place) h = ap (λ (o : Option TurnMark). unwrap_or (option_map (λ mark. mark.delivered) o) 0) (get-before trace m place (omega (arith, h)))

pub counted-last : (trace : List TurnMark) (m : TurnMark) → delivered_before (trace ++ m ∷ []) (length (trace ++ m ∷ [])) ≡ m.delivered
counted-last trace m =
    ap (delivered_before (trace ++ m ∷ [])) (one-more trace m) ∙ ap (λ (o : Option TurnMark). unwrap_or (option_map (λ mark. mark.delivered) o) 0) (get-last trace m)
