-- The values of Bind, one behind another.
use Rattle.std.proofs.Common.{◌≡◌, ℕ, ℤ, pos, ◌<◌, ◌+◌, Bool, if◌then◌else◌, List, [], ◌∷◌, ◌++◌, length, drop, get_or, Option, Result, Ok, Err, ap, sym, ◌∙◌, subst, arith, length-append}
use Rattle.std.proofs.lemmas.Bool.{lt-ltb}
use Rattle.std.proofs.lemmas.List.{drop_more, length-map}
use Rattle.pg_spec.specs.Faults.{◌>>=◌}
use Rattle.pg_types.specs.declared.error.Error.{Error}
use Rattle.pg_types.specs.declared.pg_type.PgType.{PgType}
use Rattle.pg_execute.specs.GivenValues.{Adds, IsGiven}
use Rattle.pg_execute.specs.Parameters.{Params, given_behind, or_to_sql}
use Rattle.pg_execute.specs.declared.given_values.GivenValues.{GivenValues}

abbrev Told : Type 0
Told = Result (List (Option (List ℕ))) Error

-- the next value
pub given-next : (given : List (Option (List ℕ))) (types : List PgType) (i : ℕ) (ty : PgType) (vs : Params) (told : Result (Option (List ℕ)) Error) → i < length types → ty ≡ get_or types i ty
    → length given < vs.count → or_to_sql (length given) (vs.gives_at (length given) ty) ≡ told
    → given_behind given (drop i types) vs ≡ (told >>= λ v. given_behind (given ++ v ∷ []) (drop (i + 1) types) vs)
given-next given types i ty vs told less is some e =
    ap (λ (l : List PgType). given_behind given l vs) (drop_more types i ty less ∙ ap (λ (y : PgType). y ∷ drop (i + 1) types) (sym is))
    ∙ ap (λ (b : Bool). let told : Told = if b then (or_to_sql (length given) (vs.gives_at (length given) ty) >>= λ v. given_behind (given ++ v ∷ []) (drop (i + 1) types) vs) else Ok given in told)
    (lt-ltb (length given) vs.count some)
    ∙ ap (λ (o : Result (Option (List ℕ)) Error). o >>= λ v. given_behind (given ++ v ∷ []) (drop (i + 1) types) vs) e

-- as many forms were written as values
pub as-many : (given : List (Option (List ℕ))) (g : GivenValues) → IsGiven given g → length g.formats.items ≡ length given
as-many given g is = ap (λ (l : List ℤ). length l) is.formats ∙ length-map given (λ (v : Option (List ℕ)). pos 1)

-- one more was written
pub more-given : (given : List (Option (List ℕ))) (types : List PgType) (i place : ℕ) (ty : PgType) (vs : Params) (told : Result (Option (List ℕ)) Error) (old new : GivenValues) (u : Unit {0})
    → given_behind [] types vs ≡ given_behind given (drop i types) vs → length given ≡ i → place ≡ length given → i < length types → ty ≡ get_or types i ty → place < vs.count
    → or_to_sql place (vs.gives_at place ty) ≡ told → Adds given told (Ok u) new
    → (more : List (Option (List ℕ))) × IsGiven more new × (length more ≡ i + 1) × (given_behind [] types vs ≡ given_behind more (drop (i + 1) types) vs)
more-given given types i place ty vs (Ok v) old new u far count at less is some e adds =
    let here : or_to_sql (length given) (vs.gives_at (length given) ty) ≡ Ok v = subst (λ (n : ℕ). or_to_sql n (vs.gives_at n ty) ≡ Ok v) at e in (
      given ++ v ∷ [],
      adds,
      length-append given (v ∷ []) ∙ ap (λ (n : ℕ). n + 1) count,
      far ∙ given-next given types i ty vs (Ok v) less is (omega (arith, at, some)) here,
    )
more-given given types i place ty vs (Err f) old new u far count at less is some e adds = absurd adds

-- or it is refused
pub none-given : (given : List (Option (List ℕ))) (types : List PgType) (i place : ℕ) (ty : PgType) (vs : Params) (told : Result (Option (List ℕ)) Error) (new : GivenValues) (error : Error)
    → given_behind [] types vs ≡ given_behind given (drop i types) vs → place ≡ length given → i < length types → ty ≡ get_or types i ty → place < vs.count
    → or_to_sql place (vs.gives_at place ty) ≡ told → Adds given told (Err error) new → given_behind [] types vs ≡ Err error
none-given given types i place ty vs (Ok v) new error far at less is some e adds = absurd adds
none-given given types i place ty vs (Err f) new error far at less is some e adds =
    let here : or_to_sql (length given) (vs.gives_at (length given) ty) ≡ Err f = subst (λ (n : ℕ). or_to_sql n (vs.gives_at n ty) ≡ Err f) at e in
    far ∙ given-next given types i ty vs (Err f) less is (omega (arith, at, some)) here ∙ ap (λ (x : Error). let r : Told = Err x in r) adds
