-- The fields of an error, one by one.
use Rattle.std.proofs.Common.{◌≡◌, ℕ, zero, suc, ◌<◌, ◌&&◌, List, [], ◌∷◌, length, map, filter, Bool, true, false, cond, eqb, Option, Some, None, is_some, option_map, Result, Ok, Err, refl, sym, ap, ◌∙◌, subst, arith, if◌then◌else◌}
use Rattle.std.specs.List.{last_or, list_all}
use Rattle.std.specs.Str.{bytes_eq}
use Rattle.std.specs.Str.Lossy.{utf8_lossy}
use Rattle.pg_spec.specs.Bytes.{text0_at, items_of}
use Rattle.pg_spec.specs.DbErrors.{ErrorField, error_field_at, error_fields, texts_of, field_of}
use Rattle.pg_spec.specs.Faults as spec
use Rattle.pg_spec.proofs.Readers.{Shrinks, items_of-some, items_of-none}
use Rattle.pg_wire.specs.Steps.{error_step}
use Rattle.pg_errors.specs.Fields.{fields_in, values_of, value_of}

text0-falls : (bytes text rest : List ℕ) → text0_at bytes ≡ Some (text, rest) → length rest < length bytes
text0-falls [] text rest h = absurd cc
text0-falls (zero ∷ bytes) text rest h =
    let pair : ◌≡◌ {A = List ℕ × List ℕ} ([], bytes) (text, rest) = cc in
    omega (arith, ap (λ (p : List ℕ × List ℕ). length p.1) pair)
text0-falls (suc b ∷ bytes) text rest h = by-rest (text0_at bytes) (λ t r e. text0-falls bytes t r e) h
  where
    by-rest : (o : Option (List ℕ × List ℕ)) → ((t r : List ℕ) → o ≡ Some (t, r) → length r < length bytes) →
        (elim o as (λ _. Option (List ℕ × List ℕ)) [ None ↦ None | Some more ↦ Some (suc b ∷ more.0, more.1) ]) ≡ Some (text, rest) → length rest < suc (length bytes)
    by-rest None f h = absurd cc
    by-rest (Some more) f h =
        let pair : ◌≡◌ {A = List ℕ × List ℕ} (suc b ∷ more.0, more.1) (text, rest) = cc in
        let less = f more.0 more.1 refl in
        omega (arith, less, ap (λ (p : List ℕ × List ℕ). length p.1) pair)

abbrev Read : Type 0
Read = Option (ErrorField × List ℕ)

abbrev nothing : Read
nothing = None

by-kind : (b : Bool) (f : ErrorField) (r : List ℕ) (item : ErrorField) (rest : List ℕ) → (if b then nothing else Some (f, r)) ≡ Some (item, rest) → r ≡ rest
by-kind true f r item rest h = absurd cc
by-kind false f r item rest h = let pair : ◌≡◌ {A = ErrorField × List ℕ} (f, r) (item, rest) = cc in ap (λ (p : ErrorField × List ℕ). p.1) pair

by-text : (k : ℕ) (bytes : List ℕ) (item : ErrorField) (rest : List ℕ) (o : Option (List ℕ × List ℕ)) → ((t r : List ℕ) → o ≡ Some (t, r) → length r < length bytes) →
    (elim o as (λ _. Read) [ None ↦ None | Some text ↦ if eqb k 0 then nothing else Some (record { kind = k; text = text.0 }, text.1) ]) ≡ Some (item, rest) → length rest < suc (length bytes)
by-text k bytes item rest None f h = absurd cc
by-text k bytes item rest (Some text) f h =
    let same = by-kind (eqb k 0) (record { kind = k; text = text.0 }) text.1 item rest h in
    omega (arith, f text.0 text.1 refl, ap length same)

-- a field takes bytes
pub field-falls : Shrinks error_field_at
field-falls [] item rest h = absurd cc
field-falls (k ∷ bytes) item rest h = by-text k bytes item rest (text0_at bytes) (λ t r e. text0-falls bytes t r e) h

-- what a step read
step-some : (o : Option (ErrorField × List ℕ)) (b : Bool) (item : ErrorField) (rest : List ℕ) →
    (elim o as (λ _. Result (Option (ErrorField × List ℕ)) spec.WireFault) [ Some read ↦ Ok (Some read) | None ↦ if b then Ok None else Err spec.Layout ]) ≡ Ok (Some (item, rest)) → o ≡ Some (item, rest)
step-some (Some read) b item rest h = cc
step-some None true item rest h = absurd cc
step-some None false item rest h = absurd cc

pub read-field : (bytes : List ℕ) (item : ErrorField) (rest : List ℕ) → error_step bytes ≡ Ok (Some (item, rest)) →
    items_of error_field_at bytes ≡ (item ∷ (items_of error_field_at rest).0, (items_of error_field_at rest).1)
read-field bytes item rest h = items_of-some error_field_at field-falls bytes item rest (step-some (error_field_at bytes) (bytes_eq bytes (0 ∷ [])) item rest h)

pub fields-more : (bytes : List ℕ) (item : ErrorField) (rest : List ℕ) → error_step bytes ≡ Ok (Some (item, rest)) → fields_in bytes ≡ item ∷ fields_in rest
fields-more bytes item rest h = ap (λ (p : List ErrorField × List ℕ). p.0) (read-field bytes item rest h)

-- ---- fields of a kind

texts-same : (kind : ℕ) (x : ErrorField) (fs : List ErrorField) → eqb x.kind kind ≡ true → texts_of kind (x ∷ fs) ≡ utf8_lossy x.text ∷ texts_of kind fs
texts-same kind x fs h =
    ap (λ (b : Bool). map (λ (f : ErrorField). utf8_lossy f.text) (cond b (x ∷ filter (λ f. eqb f.kind kind) fs) (filter (λ f. eqb f.kind kind) fs))) h

texts-other : (kind : ℕ) (x : ErrorField) (fs : List ErrorField) → eqb x.kind kind ≡ false → texts_of kind (x ∷ fs) ≡ texts_of kind fs
texts-other kind x fs h =
    ap (λ (b : Bool). map (λ (f : ErrorField). utf8_lossy f.text) (cond b (x ∷ filter (λ f. eqb f.kind kind) fs) (filter (λ f. eqb f.kind kind) fs))) h

values-same : (kind : ℕ) (x : ErrorField) (fs : List ErrorField) → eqb x.kind kind ≡ true → values_of kind (x ∷ fs) ≡ x.text ∷ values_of kind fs
values-same kind x fs h = ap (λ (b : Bool). map (λ (f : ErrorField). f.text) (cond b (x ∷ filter (λ f. eqb f.kind kind) fs) (filter (λ f. eqb f.kind kind) fs))) h

values-other : (kind : ℕ) (x : ErrorField) (fs : List ErrorField) → eqb x.kind kind ≡ false → values_of kind (x ∷ fs) ≡ values_of kind fs
values-other kind x fs h = ap (λ (b : Bool). map (λ (f : ErrorField). f.text) (cond b (x ∷ filter (λ f. eqb f.kind kind) fs) (filter (λ f. eqb f.kind kind) fs))) h

-- the texts of a kind pass a test
abbrev pub all_pass : (List ℕ → Bool) → ℕ → List ErrorField → Bool
all_pass test kind fields = list_all test (texts_of kind fields)

-- where a field was read, those that are left decide
pub pass-other : (test : List ℕ → Bool) (kind : ℕ) (bytes : List ℕ) (x : ErrorField) (rest : List ℕ) → error_step bytes ≡ Ok (Some (x, rest)) → eqb x.kind kind ≡ false →
    all_pass test kind (fields_in bytes) ≡ all_pass test kind (fields_in rest)
pass-other test kind bytes x rest h other =
    ap (λ (l : List ErrorField). all_pass test kind l) (fields-more bytes x rest h) ∙ ap (λ (l : List (List ℕ)). list_all test l) (texts-other kind x (fields_in rest) other)

pass-same : (test : List ℕ → Bool) (kind : ℕ) (bytes : List ℕ) (x : ErrorField) (rest : List ℕ) (b : Bool) → error_step bytes ≡ Ok (Some (x, rest)) → eqb x.kind kind ≡ true → b ≡ test (utf8_lossy x.text) →
    all_pass test kind (fields_in bytes) ≡ (b && all_pass test kind (fields_in rest))
pass-same test kind bytes x rest b h same is =
    ap (λ (l : List ErrorField). all_pass test kind l) (fields-more bytes x rest h) ∙ ap (λ (l : List (List ℕ)). list_all test l) (texts-same kind x (fields_in rest) same)
    ∙ ap (λ (c : Bool). c && all_pass test kind (fields_in rest)) (sym is)

pub pass-true : (test : List ℕ → Bool) (kind : ℕ) (bytes : List ℕ) (x : ErrorField) (rest : List ℕ) → error_step bytes ≡ Ok (Some (x, rest)) → eqb x.kind kind ≡ true → true ≡ test (utf8_lossy x.text) →
    all_pass test kind (fields_in bytes) ≡ all_pass test kind (fields_in rest)
pass-true test kind bytes x rest h same is = pass-same test kind bytes x rest true h same is

pub pass-false : (test : List ℕ → Bool) (kind : ℕ) (bytes : List ℕ) (x : ErrorField) (rest : List ℕ) → error_step bytes ≡ Ok (Some (x, rest)) → eqb x.kind kind ≡ true → false ≡ test (utf8_lossy x.text) →
    all_pass test kind (fields_in bytes) ≡ false
pass-false test kind bytes x rest h same is = pass-same test kind bytes x rest false h same is

-- nothing more can be read
step-none : (o : Read) (b : Bool) (r : Result (Option (ErrorField × List ℕ)) spec.WireFault) →
    (elim o as (λ _. Result (Option (ErrorField × List ℕ)) spec.WireFault) [ Some read ↦ Ok (Some read) | None ↦ if b then Ok None else Err spec.Layout ]) ≡ r →
    ((read : ErrorField × List ℕ) → r ≡ Ok (Some read) → ⊥) → o ≡ None
step-none (Some read) b r h never = absurd (never read (sym h))
step-none None b r h never = refl

pub no-field : (bytes : List ℕ) (r : Result (Option (ErrorField × List ℕ)) spec.WireFault) → error_step bytes ≡ r → ((read : ErrorField × List ℕ) → r ≡ Ok (Some read) → ⊥) → fields_in bytes ≡ []
no-field bytes r h never =
    ap (λ (p : List ErrorField × List ℕ). p.0) (items_of-none error_field_at field-falls bytes (step-none (error_field_at bytes) (bytes_eq bytes (0 ∷ [])) r h never))

-- the last value of a kind
pub last-same : (kind : ℕ) (bytes : List ℕ) (x : ErrorField) (rest : List ℕ) (o : Option (List ℕ)) → error_step bytes ≡ Ok (Some (x, rest)) → eqb x.kind kind ≡ true →
    last_or o (values_of kind (fields_in bytes)) ≡ last_or (Some x.text) (values_of kind (fields_in rest))
last-same kind bytes x rest o h same =
    ap (λ (l : List ErrorField). last_or o (values_of kind l)) (fields-more bytes x rest h) ∙ ap (λ (l : List (List ℕ)). last_or o l) (values-same kind x (fields_in rest) same)

pub last-other : (kind : ℕ) (bytes : List ℕ) (x : ErrorField) (rest : List ℕ) (o : Option (List ℕ)) → error_step bytes ≡ Ok (Some (x, rest)) → eqb x.kind kind ≡ false →
    last_or o (values_of kind (fields_in bytes)) ≡ last_or o (values_of kind (fields_in rest))
last-other kind bytes x rest o h other =
    ap (λ (l : List ErrorField). last_or o (values_of kind l)) (fields-more bytes x rest h) ∙ ap (λ (l : List (List ℕ)). last_or o l) (values-other kind x (fields_in rest) other)

pub last-there : (kind : ℕ) (bytes : List ℕ) (o : Option (List ℕ)) → fields_in bytes ≡ [] → last_or o (values_of kind (fields_in bytes)) ≡ o
last-there kind bytes o none = ap (λ (l : List ErrorField). last_or o (values_of kind l)) none

-- ---- the last value as a text

last-lossy : (o : Option (List ℕ)) (l : List ErrorField) → last_or (option_map utf8_lossy o) (map (λ f. utf8_lossy f.text) l) ≡ option_map utf8_lossy (last_or o (map (λ f. f.text) l))
last-lossy o [] = refl
last-lossy o (x ∷ l) = last-lossy (Some x.text) l

pub text-of-value : (kind : ℕ) (fields : List ErrorField) → field_of kind fields ≡ option_map utf8_lossy (value_of kind fields)
text-of-value kind fields = last-lossy None (filter (λ f. eqb f.kind kind) fields)

-- ---- the layout

abbrev no-fields : Option (List ErrorField)
no-fields = None

abbrev pub laid_out : List ErrorField × List ℕ → Option (List ErrorField)
laid_out read = if bytes_eq read.1 (0 ∷ []) then Some read.0 else None

layout-more : (b : Bool) (x : ErrorField) (fs : List ErrorField) → is_some (if b then Some (x ∷ fs) else no-fields) ≡ is_some (if b then Some fs else no-fields)
layout-more true x fs = refl
layout-more false x fs = refl

pub laid-out-more : (bytes : List ℕ) (x : ErrorField) (rest : List ℕ) → error_step bytes ≡ Ok (Some (x, rest)) → is_some (error_fields bytes) ≡ is_some (error_fields rest)
laid-out-more bytes x rest h =
    ap (λ (p : List ErrorField × List ℕ). is_some (laid_out p)) (read-field bytes x rest h)
    ∙ layout-more (bytes_eq (items_of error_field_at rest).1 (0 ∷ [])) x (fields_in rest)

-- what stands where nothing more can be read
abbrev Ends : Bool → Result (Option (ErrorField × List ℕ)) spec.WireFault → Type 0
Ends b (Ok None) = b ≡ true
Ends b (Ok (Some read)) = Unit {0}
Ends b (Err e) = b ≡ false

ends-at : (o : Read) (b : Bool) (r : Result (Option (ErrorField × List ℕ)) spec.WireFault) →
    (elim o as (λ _. Result (Option (ErrorField × List ℕ)) spec.WireFault) [ Some read ↦ Ok (Some read) | None ↦ if b then Ok None else Err spec.Layout ]) ≡ r → Ends b r
ends-at (Some read) b r h = subst (λ (x : Result (Option (ErrorField × List ℕ)) spec.WireFault). Ends b x) h tt
ends-at None true r h = subst (λ (x : Result (Option (ErrorField × List ℕ)) spec.WireFault). Ends true x) h refl
ends-at None false r h = subst (λ (x : Result (Option (ErrorField × List ℕ)) spec.WireFault). Ends false x) h refl

layout-by : (b : Bool) (fs : List ErrorField) → is_some (if b then Some fs else no-fields) ≡ b
layout-by true fs = refl
layout-by false fs = refl

laid-out-at : (bytes : List ℕ) (r : Result (Option (ErrorField × List ℕ)) spec.WireFault) → error_step bytes ≡ r → ((read : ErrorField × List ℕ) → r ≡ Ok (Some read) → ⊥) →
    is_some (error_fields bytes) ≡ bytes_eq bytes (0 ∷ [])
laid-out-at bytes r h never =
    ap (λ (p : List ErrorField × List ℕ). is_some (laid_out p)) (items_of-none error_field_at field-falls bytes (step-none (error_field_at bytes) (bytes_eq bytes (0 ∷ [])) r h never))
    ∙ layout-by (bytes_eq bytes (0 ∷ [])) []

pub laid-out-end : (bytes : List ℕ) → error_step bytes ≡ Ok None → is_some (error_fields bytes) ≡ true
laid-out-end bytes h = laid-out-at bytes (Ok None) h (λ read e. cc) ∙ ends-at (error_field_at bytes) (bytes_eq bytes (0 ∷ [])) (Ok None) h

pub laid-out-not : (bytes : List ℕ) (cause : spec.WireFault) → error_step bytes ≡ Err cause → is_some (error_fields bytes) ≡ false
laid-out-not bytes cause h = laid-out-at bytes (Err cause) h (λ read e. cc) ∙ ends-at (error_field_at bytes) (bytes_eq bytes (0 ∷ [])) (Err cause) h
