-- The mechanisms of SASL, read one after another, are all of them.
use Rattle.std.proofs.Common.{◌≡◌, ℕ, zero, suc, ◌<◌, Bool, true, false, cond, List, [], ◌∷◌, length, Option, Some, None, Result, Ok, Err, refl, sym, ap, subst, ◌∙◌, arith, ◌==◌, ◌&&◌}
use Rattle.std.specs.Prelude.{not}
use Rattle.std.specs.List.{list_all}
use Rattle.std.specs.Str.{is_utf8, bytes_eq}
use Rattle.std.proofs.lemmas.Option.{option_and_then_some, some_pair_parts}
use Rattle.pg_spec.specs.Bytes.{text0_at, items_of}
use Rattle.pg_spec.specs.Bodies.{name_at, mechanisms_of}
use Rattle.pg_spec.specs.Faults as spec
use Rattle.pg_spec.specs.Faults.{◌>>=◌}
use Rattle.pg_spec.proofs.Readers.{Shrinks, items_of-some, items_of-none}
use Rattle.pg_wire.specs.Steps.{mechanism_step, mechanisms_by_step}
use Rattle.pg_wire.proofs.ErrorSteps.{text0_at-Keeps}

-- what is made of a text: a name, unless it is empty
abbrev if_some : Option (List ℕ × List ℕ) → Option (List ℕ × List ℕ)
if_some read = elim read [ None ↦ None | Some text ↦ cond (length text.0 == 0) None (Some text) ]

-- a text takes a byte
text0_at-Shrinks : Shrinks text0_at
text0_at-Shrinks [] item rest e = absurd cc
text0_at-Shrinks (zero ∷ s) item rest e =
    subst (λ (l : List ℕ). length l < length (zero ∷ s)) (some_pair_parts [] item s rest e).1 (omega arith)
text0_at-Shrinks (suc b ∷ s) item rest e =
    option_and_then_some (λ (more : List ℕ × List ℕ). Some (suc b ∷ more.0, more.1)) (text0_at s) (item, rest) e (λ x at then.
    subst (λ (l : List ℕ). length l < length (suc b ∷ s)) (some_pair_parts (suc b ∷ x.0) item x.1 rest then).1
    (omega (arith, text0_at-Keeps s x.0 x.1 at)))

pub name_at-Shrinks : Shrinks name_at
name_at-Shrinks s item rest e =
    elim (text0_at s) as (λ r. text0_at s ≡ r → if_some r ≡ Some (item, rest) → length rest < length s) [
      | None ↦ λ at named. absurd cc
      | Some text ↦ λ at named. by_size text (length text.0 == 0) at named
    ] refl e
  where
    by_size : (text : List ℕ × List ℕ) (b : Bool) → text0_at s ≡ Some text → cond b None (Some text) ≡ Some (item, rest) → length rest < length s
    by_size text true at named = absurd cc
    by_size text false at named =
        subst (λ (l : List ℕ). length l < length s) (some_pair_parts text.0 item text.1 rest named).1 (text0_at-Shrinks s text.0 text.1 at)

-- what is made of all names and of what is left behind them
abbrev made : Bool → Bool → List (List ℕ) → Result (List (List ℕ)) spec.WireFault
made valid ended names = cond (not valid) (Err spec.NotUtf8) (cond ended (Ok names) (Err spec.Layout))

abbrev made_of : List (List ℕ) × List ℕ → Result (List (List ℕ)) spec.WireFault
made_of read = made (list_all is_utf8 read.0) (bytes_eq read.1 (0 ∷ [])) read.0

joined : (name : List ℕ) (names : List (List ℕ)) (valid ended : Bool) → made valid ended (name ∷ names) ≡ (made valid ended names >>= λ others. Ok (name ∷ others))
joined name names false ended = refl
joined name names true true = refl
joined name names true false = refl

-- the mechanisms are those of the next step
pub mechanisms-step : (bytes : List ℕ) → mechanisms_of bytes ≡ mechanisms_by_step (mechanism_step bytes)
mechanisms-step bytes = elim (name_at bytes) as (λ o. name_at bytes ≡ o → mechanisms_of bytes
    ≡ mechanisms_by_step (elim o [
      | Some read ↦ cond (is_utf8 read.0) (Ok (Some read)) (Err spec.NotUtf8)
      | None ↦ cond (bytes_eq bytes (0 ∷ [])) (Ok None) (Err spec.Layout)
    ])) [
      | None ↦ λ e. ap made_of (items_of-none name_at name_at-Shrinks bytes e) ∙ at_end (bytes_eq bytes (0 ∷ []))
      | Some read ↦ λ e.
          ap made_of (items_of-some name_at name_at-Shrinks bytes read.0 read.1 e)
          ∙ in_front read.0 read.1 (is_utf8 read.0) (list_all is_utf8 (items_of name_at read.1).0) (bytes_eq (items_of name_at read.1).1 (0 ∷ []))
          refl refl
    ] refl
  where
    at_end : (b : Bool) → made true b [] ≡ mechanisms_by_step (cond b (Ok None) (Err spec.Layout))
    at_end true = refl
    at_end false = refl

    in_front : (name rest : List ℕ) (first others ended : Bool) → list_all is_utf8 (items_of name_at rest).0 ≡ others →
        bytes_eq (items_of name_at rest).1 (0 ∷ []) ≡ ended →
        made (first && others) ended (name ∷ (items_of name_at rest).0) ≡ mechanisms_by_step (cond first (Ok (Some (name, rest))) (Err spec.NotUtf8))
    in_front name rest false others ended valid end = refl
    in_front name rest true others ended valid end =
        joined name (items_of name_at rest).0 others ended
        ∙ ap (λ (r : Result (List (List ℕ)) spec.WireFault). r >>= λ names. Ok (name ∷ names))
        (ap (λ b. made b ended (items_of name_at rest).0) (sym valid)
        ∙ ap (λ b. made (list_all is_utf8 (items_of name_at rest).0) b (items_of name_at rest).0) (sym end))
