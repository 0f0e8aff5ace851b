-- Items that are read one after another.
use Rattle.std.specs.Result.{is_ok, is_err}
use Rattle.std.proofs.Common.{◌≡◌, ℕ, suc, Result, Ok, Err, cond, false, ◌+◌, ◌-◌, ◌<◌, ◌≤◌, List, [], ◌∷◌, ◌++◌, Option, Some, None, refl, sym, ap, ◌∙◌, append_assoc, append-nil, arith}
use Rattle.pg_spec.specs.Bytes.{◌>>=◌}
use Rattle.pg_spec.specs.ClientFrames.{items_at}
use Rattle.pg_server.specs.Readings.{onto}

-- what follows the first item
abbrev behind_first : {A : Type 0} → ℕ → (List ℕ → Option (A × List ℕ)) → A × List ℕ → Option (List A × List ℕ)
behind_first k item first = items_at k item first.1 >>= λ others. Some (first.0 ∷ others.0, others.1)

-- one item more
one_more : {A : Type 0} (k : ℕ) (item : List ℕ → Option (A × List ℕ)) (front : List A) (rest behind : List ℕ) (x : A) → item rest ≡ Some (x, behind) →
    onto front (items_at (suc k) item rest) ≡ onto (front ++ x ∷ []) (items_at k item behind)
one_more {A = A} k item front rest behind x is = ap (λ (o : Option (A × List ℕ)). onto front (o >>= behind_first k item)) is ∙ by_others (items_at k item behind)
  where
    by_others : (o : Option (List A × List ℕ)) → onto front (o >>= λ others. Some (x ∷ others.0, others.1)) ≡ onto (front ++ x ∷ []) o
    by_others None = refl
    by_others (Some p) = ap (λ (items : List A). Some (items, p.1)) (sym (append_assoc front (x ∷ []) p.0))

pub more_items : {A : Type 0} (n i : ℕ) (item : List ℕ → Option (A × List ℕ)) (front : List A) (rest behind bytes : List ℕ) (x : A) → i < n →
    onto front (items_at (n - i) item rest) ≡ items_at n item bytes → item rest ≡ Some (x, behind) →
    onto (front ++ x ∷ []) (items_at (n - (i + 1)) item behind) ≡ items_at n item bytes
more_items {A = A} n i item front rest behind bytes x less was is =
    sym (one_more (n - (i + 1)) item front rest behind x is)
    ∙ ap (λ (k : ℕ). onto front (items_at k item rest)) (let e : suc (n - (i + 1)) ≡ n - i = omega arith in e) ∙ was

-- bytes run out
pub no_items : {A : Type 0} (n i : ℕ) (item : List ℕ → Option (A × List ℕ)) (front : List A) (rest bytes : List ℕ) → i < n →
    onto front (items_at (n - i) item rest) ≡ items_at n item bytes → item rest ≡ None → None ≡ items_at n item bytes
no_items {A = A} n i item front rest bytes less was none =
    sym (ap (λ (o : Option (A × List ℕ)). onto front (o >>= behind_first (n - (i + 1)) item)) none)
    ∙ ap (λ (k : ℕ). onto front (items_at k item rest)) (let e : suc (n - (i + 1)) ≡ n - i = omega arith in e) ∙ was

pub begin_items : {A : Type 0} (o : Option (List A × List ℕ)) → onto [] o ≡ o
begin_items None = refl
begin_items (Some p) = refl

pub end_items : {A : Type 0} (n i : ℕ) (item : List ℕ → Option (A × List ℕ)) (front : List A) (rest bytes : List ℕ) → n ≤ i →
    onto front (items_at (n - i) item rest) ≡ items_at n item bytes → Some (front, rest) ≡ items_at n item bytes
end_items {A = A} n i item front rest bytes past was =
    ap (λ (items : List A). Some (items, rest)) (sym (append-nil front))
    ∙ ap (λ (k : ℕ). onto front (items_at k item rest)) (let e : 0 ≡ n - i = omega arith in e) ∙ was

-- an item that there was room for
pub pushed : {A T E : Type 0} (r : Result T E) (a b items : List A) → items ≡ cond (is_ok r) a b → is_err r ≡ false → items ≡ a
pushed (Ok x) a b items e h = e
pushed (Err x) a b items e h = absurd cc
