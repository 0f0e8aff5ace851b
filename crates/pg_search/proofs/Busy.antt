-- Which oids are in progress.
use Rattle.std.proofs.Common.{◌≡◌, ◌<◌, ◌≤◌, ℕ, zero, suc, ◌==◌, List, [], ◌∷◌, length, drop, get_or, Bool, true, false, not, ◌&&◌, ◌||◌, nat_lt, refl, sym, ◌∙◌, ap, subst, arith, drop-cons}
use Rattle.std.proofs.lemmas.Bool.{lt-ltb, le-ltb}
use Rattle.std.proofs.lemmas.Bool.Decides.{nat_tests}
use Rattle.pg_core.specs.Lookups.{is_among}
use Rattle.pg_core.specs.Searches.{oid_of, busy_of}
use Rattle.pg_search.specs.declared.frame.Frame.{Frame}
use Rattle.pg_search.specs.declared.stack.Stack.{Stack}
use Rattle.pg_search.specs.Frames.{frame_of, frames_of}
use Rattle.pg_search.specs.Stacks.{may_find}
use Rattle.pg_search.proofs.Counting.{frames-length}

-- an oid is in progress at these frames
abbrev pub busy_in : ℕ → List Frame → Bool
busy_in oid fs = is_among oid (busy_of (frames_of fs))

or-right : (b x : Bool) → x ≡ true → (b || x) ≡ true
or-right true x e = refl
or-right false x e = e

-- what is in progress below is in progress
busy-below : (oid n : ℕ) (fs : List Frame) → busy_in oid (drop n fs) ≡ true → busy_in oid fs ≡ true
busy-below oid zero fs h = h
busy-below oid (suc n) [] h = h
busy-below oid (suc n) (f ∷ fs) h = or-right (oid_of (frame_of f) == oid) (busy_in oid fs) (busy-below oid n fs h)

-- the frame at this place is of the oid
pub busy-here : (oid n : ℕ) (fs : List Frame) (d : Frame) → n < length fs → oid_of (frame_of (get_or fs n d)) ≡ oid → busy_in oid fs ≡ true
busy-here oid n fs d low same =
    let own : (oid_of (frame_of (get_or fs n d)) == oid) ≡ true = grind (arith, nat_tests) in
    busy-below oid n fs (ap (busy_in oid) (drop-cons fs n d low) ∙ ap (λ (b : Bool). b || busy_in oid (drop (suc n) fs)) own)

-- neither it nor one below it is
pub free-from : (oid n : ℕ) (fs : List Frame) (d : Frame) → n < length fs → (oid_of (frame_of (get_or fs n d)) ≡ oid → ⊥) → busy_in oid (drop (suc n) fs) ≡ false → busy_in oid (drop n fs) ≡ false
free-from oid n fs d low other h =
    let own : (oid_of (frame_of (get_or fs n d)) == oid) ≡ false = grind (arith, nat_tests) in
    ap (busy_in oid) (drop-cons fs n d low) ∙ ap (λ (b : Bool). b || busy_in oid (drop (suc n) fs)) own ∙ h

-- too many are in progress
pub may-not-more : (s : Stack) (oid : ℕ) → 64 ≤ length s.frames.items → may_find s oid ≡ false
unfolding may_find
may-not-more s oid h =
    let many : 64 ≤ length (frames_of s.frames.items) = subst (λ (n : ℕ). 64 ≤ n) (sym (frames-length s.frames.items)) h in
    ap (λ (b : Bool). b && not (busy_in oid s.frames.items)) (le-ltb (length (frames_of s.frames.items)) 64 many)

and-not : (b x : Bool) → x ≡ true → (b && not x) ≡ false
and-not true x e = ap not e
and-not false x e = refl

-- the oid itself is
pub may-not-again : (s : Stack) (oid : ℕ) → busy_in oid s.frames.items ≡ true → may_find s oid ≡ false
unfolding may_find
may-not-again s oid h = and-not (nat_lt (length (frames_of s.frames.items)) 64) (busy_in oid s.frames.items) h

-- neither
pub may-find : (s : Stack) (oid : ℕ) → length s.frames.items < 64 → busy_in oid s.frames.items ≡ false → may_find s oid ≡ true
unfolding may_find
may-find s oid low h =
    let few : length (frames_of s.frames.items) < 64 = subst (λ (n : ℕ). n < 64) (sym (frames-length s.frames.items)) low in
    ap (λ (b : Bool). b && not (busy_in oid s.frames.items)) (lt-ltb (length (frames_of s.frames.items)) 64 few) ∙ ap not h

-- no frame is behind them all
pub none-behind : (oid n : ℕ) (fs : List Frame) → n ≡ length fs → busy_in oid (drop n fs) ≡ false
none-behind oid n fs e = ap (λ (k : ℕ). busy_in oid (drop k fs)) e ∙ all fs
  where
    all : (fs : List Frame) → busy_in oid (drop (length fs) fs) ≡ false
    all [] = refl
    all (f ∷ fs) = all fs

-- with none left, all are free
pub all-free : (oid n : ℕ) (fs : List Frame) → n ≤ 0 → busy_in oid (drop n fs) ≡ false → busy_in oid fs ≡ false
all-free oid zero fs h e = e
all-free oid (suc n) fs h e = absurd (omega arith)
