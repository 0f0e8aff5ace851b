-- The parameters of a startup frame, read one after another.
use Rattle.std.proofs.Common.{◌≡◌, ℕ, ◌<◌, List, Some, None, refl, sym, ap, subst, arith, length}
use Rattle.std.specs.Prelude.{option_map}
use Rattle.std.proofs.lemmas.Option.{option_and_then_some, some_pair_parts, same_Some, none-some}
use Rattle.pg_spec.specs.Bytes.{◌>>=◌, text0_at, items_of}
use Rattle.pg_spec.specs.Bodies.{name_at}
use Rattle.pg_spec.specs.ClientFrames.{pair_at}
use Rattle.pg_spec.proofs.Readers.{Shrinks, items_of-some, items_of-none}
use Rattle.pg_wire.proofs.ErrorSteps.{text0_at-Keeps}
use Rattle.pg_wire.proofs.SaslNames.{name_at-Shrinks}

pub pair_at-Shrinks : Shrinks pair_at
pair_at-Shrinks s item rest e =
    option_and_then_some (λ (name : List ℕ × List ℕ). text0_at name.1 >>= λ value. Some ((name.0, value.0), value.1)) (name_at s) (item, rest) e (λ name at then.
    option_and_then_some (λ (value : List ℕ × List ℕ). Some ((name.0, value.0), value.1)) (text0_at name.1) (item, rest) then (λ value behind made.
    subst (λ (l : List ℕ). length l < length s) (some_pair_parts (name.0, value.0) item value.1 rest made).1
    (omega (arith, name_at-Shrinks s name.0 name.1 at, text0_at-Keeps name.1 value.0 value.1 behind))))

-- what is left behind all pairs
abbrev left : List ℕ → List ℕ
left s = (items_of pair_at s).1

pub record TakesPair (s behind : List ℕ) : Type 0 where
  pub same : left s ≡ left behind
  pub shorter : length behind < length s

pub takes_pair : (s behind : List ℕ) → Some behind ≡ option_map (λ p. p.1) (pair_at s) → TakesPair s behind
takes_pair s behind e =
    elim (pair_at s) as (λ o. pair_at s ≡ o → Some behind ≡ option_map (λ p. p.1) o → TakesPair s behind) [
      | None ↦ λ at is. absurd (none-some behind (sym is))
      | Some p ↦ λ at is.
          let same : behind ≡ p.1 = same_Some behind p.1 is in
          subst (λ (b : List ℕ). TakesPair s b) (sym same) (record {
            same = ap (λ (r : List (List ℕ × List ℕ) × List ℕ). r.1) (items_of-some pair_at pair_at-Shrinks s p.0 p.1 at);
            shorter = pair_at-Shrinks s p.0 p.1 at;
          })
    ] refl e

pub no_pair : (s : List ℕ) → None ≡ option_map (λ (p : (List ℕ × List ℕ) × List ℕ). p.1) (pair_at s) → left s ≡ s
no_pair s e =
    elim (pair_at s) as (λ o. pair_at s ≡ o → None ≡ option_map (λ p. p.1) o → left s ≡ s) [
      | None ↦ λ at is. ap (λ (r : List (List ℕ × List ℕ) × List ℕ). r.1) (items_of-none pair_at pair_at-Shrinks s at)
      | Some p ↦ λ at is. absurd (none-some p.1 is)
    ] refl e
