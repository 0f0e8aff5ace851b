-- The fields of an error, read one after another, are all its fields.
use Rattle.std.proofs.Common.{◌≡◌, ℕ, zero, suc, ◌<◌, ◌≤◌, Bool, true, false, cond, List, [], ◌∷◌, ◌++◌, length, Option, Some, None, Ok, Err, refl, sym, ap, subst, ◌∙◌, arith, append_assoc, append-nil, ◌==◌}
use Rattle.std.specs.Prelude.{option_map}
use Rattle.std.specs.Str.{bytes_eq}
use Rattle.std.proofs.lemmas.Option.{option_and_then_some, some_pair_parts}
use Rattle.pg_spec.specs.Bytes.{text0_at, items_of}
use Rattle.pg_spec.specs.DbErrors.{ErrorField, error_field_at, error_fields}
use Rattle.pg_spec.specs.Faults as spec
use Rattle.pg_spec.proofs.Readers.{Shrinks, Keeps, items_of-some, items_of-none}
use Rattle.pg_wire.specs.Steps.{Step, error_step}

pub text0_at-Keeps : Keeps text0_at
text0_at-Keeps [] item rest e = absurd cc
text0_at-Keeps (zero ∷ s) item rest e =
    subst (λ (l : List ℕ). length l ≤ length (zero ∷ s)) (some_pair_parts [] item s rest e).1 (omega arith)
text0_at-Keeps (suc b ∷ s) item rest e =
    option_and_then_some (λ (more : List ℕ × List ℕ). Some (suc b ∷ more.0, more.1)) (text0_at s) (item, rest) e (λ x at then.
    subst (λ (l : List ℕ). length l ≤ length (suc b ∷ s)) (some_pair_parts (suc b ∷ x.0) item x.1 rest then).1
    (omega (arith, text0_at-Keeps s x.0 x.1 at)))

-- what is made of a kind and a text
abbrev field_of : Bool → ℕ → List ℕ → List ℕ → Option (ErrorField × List ℕ)
field_of ends kind text rest = cond ends None (Some (record { kind = kind; text = text }, rest))

-- a field takes a byte
pub error_field_at-Shrinks : Shrinks error_field_at
error_field_at-Shrinks [] item rest e = absurd cc
error_field_at-Shrinks (kind ∷ s) item rest e =
    option_and_then_some (λ (text : List ℕ × List ℕ). field_of (kind == 0) kind text.0 text.1)
    (text0_at s) (item, rest) e (λ x at then. by_kind (kind == 0) x at then)
  where
    by_kind : (b : Bool) (x : List ℕ × List ℕ) → text0_at s ≡ Some x →
        field_of b kind x.0 x.1 ≡ Some (item, rest) → length rest < length (kind ∷ s)
    by_kind true x at then = absurd cc
    by_kind false x at then =
        subst (λ (l : List ℕ). length l < length (kind ∷ s)) (some_pair_parts (record { kind = kind; text = x.0 }) item x.1 rest then).1
        (omega (arith, text0_at-Keeps s x.0 x.1 at))

-- what the step says of the fields
abbrev by_step : Step ErrorField (List ℕ) → Option (List ErrorField)
by_step (Ok (Some read)) = option_map (λ fields. read.0 ∷ fields) (error_fields read.1)
by_step (Ok None) = Some []
by_step (Err cause) = None

-- the fields are those of the next step
pub error_fields-step : (bytes : List ℕ) → error_fields bytes ≡ by_step (error_step bytes)
error_fields-step bytes = elim (error_field_at bytes) as (λ o. error_field_at bytes ≡ o → error_fields bytes
    ≡ by_step (elim o [ Some read ↦ Ok (Some read) | None ↦ cond (bytes_eq bytes (0 ∷ [])) (Ok None) (Err spec.Layout) ])) [
      | None ↦ λ e.
          ap (λ (r : List ErrorField × List ℕ). cond (bytes_eq r.1 (0 ∷ [])) (Some r.0) None) (items_of-none error_field_at error_field_at-Shrinks bytes e)
          ∙ at_end (bytes_eq bytes (0 ∷ []))
      | Some read ↦ λ e.
          ap (λ (r : List ErrorField × List ℕ). cond (bytes_eq r.1 (0 ∷ [])) (Some r.0) None)
          (items_of-some error_field_at error_field_at-Shrinks bytes read.0 read.1 e)
          ∙ in_front read.0 (items_of error_field_at read.1).0 (bytes_eq (items_of error_field_at read.1).1 (0 ∷ []))
    ] refl
  where
    at_end : (b : Bool) → cond b (Some []) None ≡ by_step (cond b (Ok None) (Err spec.Layout))
    at_end true = refl
    at_end false = refl

    in_front : (field : ErrorField) (fields : List ErrorField) (b : Bool) →
        cond b (Some (field ∷ fields)) None ≡ option_map (λ others. field ∷ others) (cond b (Some fields) None)
    in_front field fields true = refl
    in_front field fields false = refl

-- ---- for a loop that has read some of the fields

-- the fields of the body are those that were read and those that are left
abbrev pub AreFields : List ℕ → List ErrorField → List ℕ → Type 0
AreFields body read left = error_fields body ≡ option_map (λ fields. read ++ fields) (error_fields left)

pub no_field_yet : (body : List ℕ) → AreFields body [] body
no_field_yet body = elim (error_fields body) as (λ o. o ≡ option_map (λ fields. [] ++ fields) o) [ None ↦ refl | Some fields ↦ refl ]

pub one_more_field : (body : List ℕ) (read : List ErrorField) (left rest : List ℕ) (field : ErrorField) → AreFields body read left →
    error_step left ≡ Ok (Some (field, rest)) → AreFields body (read ++ field ∷ []) rest
one_more_field body read left rest field are step =
    are ∙ ap (option_map (λ fields. read ++ fields)) (error_fields-step left ∙ ap by_step step) ∙ joined (error_fields rest)
  where
    joined : (o : Option (List ErrorField)) →
        option_map (λ fields. read ++ fields) (option_map (λ fields. field ∷ fields) o) ≡ option_map (λ fields. (read ++ field ∷ []) ++ fields) o
    joined None = refl
    joined (Some fields) = ap (λ l. Some l) (sym (append_assoc read (field ∷ []) fields))

pub all_fields : (body : List ℕ) (read : List ErrorField) (left : List ℕ) → AreFields body read left → error_step left ≡ Ok None →
    error_fields body ≡ Some read
all_fields body read left are step =
    are ∙ ap (option_map (λ fields. read ++ fields)) (error_fields-step left ∙ ap by_step step) ∙ ap (λ l. Some l) (append-nil read)

pub no_fields : (body : List ℕ) (read : List ErrorField) (left : List ℕ) (cause : spec.WireFault) → AreFields body read left → error_step left ≡ Err cause →
    error_fields body ≡ None
no_fields body read left cause are step = are ∙ ap (option_map (λ fields. read ++ fields)) (error_fields-step left ∙ ap by_step step)
