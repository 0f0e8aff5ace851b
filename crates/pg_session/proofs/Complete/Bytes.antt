-- The messages of whole entries, and of a front of their bytes.
use Rattle.std.proofs.Common.{◌≡◌, ◌<◌, ◌≤◌, ℕ, zero, suc, List, [], ◌∷◌, ◌++◌, length, take, drop, Bool, true, false, not, ◌&&◌, Option, Some, None, refl, sym, ap, subst, ◌∙◌, append_assoc, arith}
use Rattle.std.specs.Prelude.{Contains, slice_get}
use Rattle.std.specs.Int.{w32}
use Rattle.std.specs.List.{concat, list_all, AllByRecursion}
use Rattle.pg_spec.specs.Bytes.{number_at}
use Rattle.pg_spec.specs.RawMessages.{RawMessage, is_length, messages, bytes_left, has_bad_header}
use Rattle.pg_spec.proofs.MessageLaws.{messages-append, bytes_left-append}
use Rattle.pg_spec.proofs.Readers.{number_at-Reader}
use Rattle.pg_wire.proofs.Cuts.{left_of_none}
use Rattle.pg_session.proofs.Caused.Lists.{no-message}
use Rattle.pg_session.proofs.Crossing.Groups.{both-true}

-- ---- lists

-- what all pass passes each
pub all-holds : {X : Type 0} (p : X → Bool) (xs : List X) (x : X) → list_all p xs ≡ true → Contains xs x → p x ≡ true
all-holds p [] x e (k, low, is) = absurd (omega (arith, low))
all-holds p (y ∷ xs) x e (zero, low, is) = subst (λ z. p z ≡ true) is (both-true (p y) (list_all p xs) e).0
all-holds p (y ∷ xs) x e (suc k, low, is) = all-holds p xs x (both-true (p y) (list_all p xs) e).1 (k, omega (arith, low), is)

-- the same of those in front
pub all-front : {X : Type 0} (p : X → Bool) (xs ys : List X) → list_all p (xs ++ ys) ≡ true → list_all p xs ≡ true
all-front p [] ys e = refl
all-front p (x ∷ xs) ys e =
    let b = both-true (p x) (list_all p (xs ++ ys)) e in
    ap (λ (c : Bool). c && list_all p xs) b.0 ∙ all-front p xs ys b.1

-- and of those behind
pub all-behind : {X : Type 0} (p : X → Bool) (n : ℕ) (xs : List X) → list_all p xs ≡ true → list_all p (drop n xs) ≡ true
all-behind p zero xs e = e
all-behind p (suc n) [] e = refl
all-behind p (suc n) (x ∷ xs) e = all-behind p n xs (both-true (p x) (list_all p xs) e).1

pub place-low : {X : Type 0} (xs : List X) (k : ℕ) (x : X) → slice_get xs k ≡ Some x → k < length xs
place-low [] k x e = absurd cc
place-low (y ∷ xs) zero x e = omega arith
place-low (y ∷ xs) (suc k) x e = let low = place-low xs k x e in omega (arith, low)

pub none-front : {X : Type 0} (xs ys : List X) → xs ++ ys ≡ [] → xs ≡ []
none-front [] ys e = refl
none-front (x ∷ xs) ys e = absurd cc

pub split-concat : (n : ℕ) (es : List (List ℕ)) → concat (take n es) ++ concat (drop n es) ≡ concat es
split-concat zero es = refl
split-concat (suc n) [] = refl
split-concat (suc n) (e ∷ es) = append_assoc e (concat (take n es)) (concat (drop n es)) ∙ ap (λ (l : List ℕ). e ++ l) (split-concat n es)

-- the first of a longer front are the first
pub first-of-front : (m n : ℕ) (es : List (List ℕ)) → m ≤ n → take m (take n es) ≡ take m es
first-of-front zero n es low = refl
first-of-front (suc m) zero es low = absurd (omega (arith, low))
first-of-front (suc m) (suc n) [] low = refl
first-of-front (suc m) (suc n) (e ∷ es) low = ap (λ (l : List (List ℕ)). e ∷ l) (first-of-front m n es (omega (arith, low)))

pub all-take : {X : Type 0} (P : X → Type 0) (n : ℕ) (xs : List X) → AllByRecursion P xs → AllByRecursion P (take n xs)
all-take P zero xs h = tt
all-take P (suc n) [] h = tt
all-take P (suc n) (x ∷ xs) h = (h.0, all-take P n xs h.1)

pub all-drop : {X : Type 0} (P : X → Type 0) (n : ℕ) (xs : List X) → AllByRecursion P xs → AllByRecursion P (drop n xs)
all-drop P zero xs h = h
all-drop P (suc n) [] h = tt
all-drop P (suc n) (x ∷ xs) h = all-drop P n xs h.1

-- ---- bytes

-- nothing is left behind whole entries
abbrev pub IsWhole : List ℕ → Type 0
IsWhole entry = bytes_left entry ≡ []

pub whole-concat : (es : List (List ℕ)) → AllByRecursion IsWhole es → bytes_left (concat es) ≡ []
whole-concat [] h = refl
whole-concat (e ∷ es) h = bytes_left-append e (concat es) ∙ ap (λ (l : List ℕ). bytes_left (l ++ concat es)) h.0 ∙ whole-concat es h.1

-- messages go on by themselves behind whole ones
pub messages-behind : (a b : List ℕ) → bytes_left a ≡ [] → messages (a ++ b) ≡ messages a ++ messages b
messages-behind a b e = messages-append a b ∙ ap (λ (l : List ℕ). messages a ++ messages (l ++ b)) e

-- the messages of a front are a front of the messages
pub record IsFrontOf (g whole : List ℕ) : Type 0 where
  pub more : List RawMessage
  pub is : messages whole ≡ messages g ++ more

pub front-of : (g rest whole : List ℕ) → g ++ rest ≡ whole → IsFrontOf g whole
front-of g rest whole e = record { more = messages (bytes_left g ++ rest); is = ap messages (sym e) ∙ messages-append g rest }

-- a header is bad whatever follows
pub bad-more : (bytes more : List ℕ) → has_bad_header bytes ≡ true → has_bad_header (bytes ++ more) ≡ true
bad-more [] more bad = absurd cc
bad-more (tag ∷ bytes) more bad = by (number_at w32 bytes) refl
  where
    tells : Option (ℕ × List ℕ) → Bool
    tells o = elim o [ None ↦ false | Some n ↦ not (is_length n.0) ]

    by : (o : Option (ℕ × List ℕ)) → number_at w32 bytes ≡ o → has_bad_header (tag ∷ (bytes ++ more)) ≡ true
    by None at = absurd (let no : false ≡ true = sym (ap tells at) ∙ bad in cc)
    by (Some n) at = ap tells (number_at-Reader bytes n.0 n.1 more at) ∙ sym (ap tells at) ∙ bad

-- no header is bad in a front of whole entries
pub never-bad : (g rest : List ℕ) → bytes_left (g ++ rest) ≡ [] → has_bad_header (bytes_left g) ≡ true → ⊥
never-bad g rest whole bad =
    let left = bytes_left g in
    let more : has_bad_header (left ++ rest) ≡ true = bad-more left rest bad in
    let none : left ++ rest ≡ [] = sym (left_of_none (left ++ rest) (no-message (left ++ rest) more)) ∙ sym (bytes_left-append g rest) ∙ whole in
    let no : false ≡ true = sym (ap has_bad_header none) ∙ more in cc
