-- Lists of bytes.
use Rattle.std.proofs.Common.{◌≡◌, ℕ, suc, ◌<◌, Bool, true, false, not, ◌&&◌, List, [], ◌∷◌, ◌++◌, Result, Ok, Err, refl, sym, ap, ◌∙◌, arith, take, drop}
use Rattle.std.specs.Prelude.{get_or, OnOk, OnErr}
use Rattle.std.proofs.lemmas.List.{take-append-drop}
use Rattle.std.proofs.lemmas.List.Folds.{list_all-append}
use Rattle.pg_server.specs.ByteLists.{are_bytes, but_last, is_byte, is_ended}

-- a small number is one
small : (n : ℕ) → n < 256 → is_byte n ≡ true
small n less = grind arith

pub bytes-from : (s : List ℕ) → ((i : ℕ) → get_or s i 0 < 256) → are_bytes s ≡ true
bytes-from [] small_at = refl
bytes-from (b ∷ s) small_at = ap (λ (t : Bool). t && are_bytes s) (small b (small_at 0)) ∙ bytes-from s (λ i. small_at (suc i))

both : (a b : Bool) → (a && b) ≡ true → (a ≡ true) × (b ≡ true)
both true b e = (refl, e)
both false b e = absurd cc

pub bytes-append : (a b : List ℕ) → are_bytes a ≡ true → are_bytes b ≡ true → are_bytes (a ++ b) ≡ true
bytes-append a b first second =
    list_all-append is_byte a b ∙ ap (λ (t : Bool). t && are_bytes b) first ∙ second

pub bytes-parts : (a b : List ℕ) → are_bytes (a ++ b) ≡ true → (are_bytes a ≡ true) × (are_bytes b ≡ true)
bytes-parts a b all = both (are_bytes a) (are_bytes b) (sym (list_all-append is_byte a b) ∙ all)

pub bytes-take : (n : ℕ) (bytes : List ℕ) → are_bytes bytes ≡ true → are_bytes (take n bytes) ≡ true
bytes-take n bytes all = (bytes-parts (take n bytes) (drop n bytes) (ap are_bytes (take-append-drop n bytes) ∙ all)).0

-- bytes were added, or memory lacked
pub extended-bytes : {T E : Type 0} (r : Result T E) (old more now : List ℕ) → OnOk r (now ≡ old ++ more) → OnErr r (now ≡ old) → are_bytes old ≡ true → are_bytes more ≡ true → are_bytes now ≡ true
extended-bytes (Ok x) old more now added kept was are = ap are_bytes added ∙ bytes-append old more was are
extended-bytes (Err x) old more now added kept was are = ap are_bytes kept ∙ was

-- no other number ends them
pub bytes-end : (bytes : List ℕ) → are_bytes bytes ≡ true → is_ended bytes ≡ false
bytes-end [] all = refl
bytes-end (n ∷ []) all = ap (λ (t : Bool). not t) (both (is_byte n) true all).0
bytes-end (n ∷ m ∷ more) all = bytes-end (m ∷ more) (both (is_byte n) (are_bytes (m ∷ more)) all).1

-- ---- bytes in front

pub ended-behind : (piece : List ℕ) (x : ℕ) (xs : List ℕ) → is_ended (piece ++ x ∷ xs) ≡ is_ended (x ∷ xs)
ended-behind [] x xs = refl
ended-behind (p ∷ []) x xs = refl
ended-behind (p ∷ q ∷ piece) x xs = ended-behind (q ∷ piece) x xs

pub but_last-behind : (piece : List ℕ) (x : ℕ) (xs : List ℕ) → but_last (piece ++ x ∷ xs) ≡ piece ++ but_last (x ∷ xs)
but_last-behind [] x xs = refl
but_last-behind (p ∷ []) x xs = refl
but_last-behind (p ∷ q ∷ piece) x xs = ap (λ (t : List ℕ). p ∷ t) (but_last-behind (q ∷ piece) x xs)
