-- What the store of parameters keeps.
use Rattle.std.proofs.Common.{◌≡◌, ℕ, Bool, true, false, if◌then◌else◌, List, [], ◌∷◌, map, Option, Some, option_map, Result, Ok, Err, refl, sym, ap, subst, ◌∙◌}
use Rattle.std.specs.Prelude.{OnOk}
use Rattle.std.specs.Result.{OnErr}
use Rattle.pg_spec.specs.Parameters.{NamesRise}
use Rattle.pg_connect.proofs.LastValues.{rise-insert}
use Rattle.std.specs.Map.{lookup}
use Rattle.std.specs.Ordering.{nat_cmp, match_ordering}
use Rattle.std.specs.declared.cmp.Ordering.{Ordering}
use Rattle.std.specs.declared.cmp.Ordering.TheVariants.{Less, Equal, Greater}
use Rattle.std.specs.BTreeMap.{insert_entry}
use Rattle.std.specs.Cmp.Lexicographic.{slice_cmp}

map_chosen : {X Y : Type 0} (h : X → Y) (o : Ordering) (xs ys zs : List X) →
    map h (match_ordering o xs ys zs) ≡ match_ordering o (map h xs) (map h ys) (map h zs)
map_chosen h Less xs ys zs = refl
map_chosen h Equal xs ys zs = refl
map_chosen h Greater xs ys zs = refl

-- what is inserted by the keys is inserted by their bytes
pub map-insert_entry : {K V : Type 0} (cmp : K → K → Ordering) (f : K → List ℕ) (g : V → List ℕ) →
    ((a b : K) → cmp a b ≡ slice_cmp nat_cmp (f a) (f b)) → (es : List (K × V)) (k : K) (v : V) →
    map (λ e. (f e.0, g e.1)) (insert_entry cmp es k v) ≡ insert_entry (slice_cmp nat_cmp) (map (λ e. (f e.0, g e.1)) es) (f k) (g v)
map-insert_entry cmp f g same [] k v = refl
map-insert_entry {K} {V} cmp f g same (e ∷ es) k v =
    let h : K × V → List ℕ × List ℕ = λ x. (f x.0, g x.1) in
    map_chosen h (cmp k e.0) ((k, v) ∷ e ∷ es) ((e.0, v) ∷ es) (e ∷ insert_entry cmp es k v)
    ∙ ap (λ (o : Ordering). match_ordering o ((f k, g v) ∷ h e ∷ map h es) ((f e.0, g v) ∷ map h es) (h e ∷ map h (insert_entry cmp es k v))) (same k e.0)
    ∙ ap (λ (x : List (List ℕ × List ℕ)). match_ordering (slice_cmp nat_cmp (f k) (f e.0)) ((f k, g v) ∷ h e ∷ map h es) ((f e.0, g v) ∷ map h es) (h e ∷ x))
    (map-insert_entry cmp f g same es k v)

-- a value is looked up by the bytes of its name
pub lookup-map : {K V : Type 0} (f : K → List ℕ) (g : V → List ℕ) (test : List ℕ → Bool) (es : List (K × V)) →
    lookup test (map (λ e. (f e.0, g e.1)) es) ≡ option_map g (lookup (λ k. test (f k)) es)
lookup-map f g test [] = refl
lookup-map {K} {V} f g test (e ∷ es) =
    ap (λ (o : Option (List ℕ)). if test (f e.0) then Some (g e.1) else o) (lookup-map f g test es)
    ∙ chosen (test (f e.0)) e.1 (lookup (λ k. test (f k)) es)
  where
    chosen : (b : Bool) (v : V) (o : Option V) → (if b then Some (g v) else option_map g o) ≡ option_map g (if b then Some v else o)
    chosen true v o = refl
    chosen false v o = refl

-- a report that was kept, or couldn't be for want of memory, leaves names that rise
pub rises : {K V A E : Type 0} (cmp : K → K → Ordering) (f : K → List ℕ) (g : V → List ℕ) → ((a b : K) → cmp a b ≡ slice_cmp nat_cmp (f a) (f b)) → (r : Result A E) (new old : List (K × V)) (k : K) (v : V) →
    OnOk r (new ≡ insert_entry cmp old k v) → OnErr r (new ≡ old) → NamesRise (map (λ e. (f e.0, g e.1)) old) → NamesRise (map (λ e. (f e.0, g e.1)) new)
rises {K} {V} {A} {E} cmp f g same (Ok x) new old k v kept lacked was =
    subst NamesRise (sym (ap (λ (es : List (K × V)). map (λ e. (f e.0, g e.1)) es) kept ∙ map-insert_entry cmp f g same old k v))
    (rise-insert (map (λ e. (f e.0, g e.1)) old) (f k) (g v) was)
rises {K} {V} {A} {E} cmp f g same (Err e) new old k v kept lacked was = subst (λ (es : List (K × V)). NamesRise (map (λ e. (f e.0, g e.1)) es)) (sym lacked) was
