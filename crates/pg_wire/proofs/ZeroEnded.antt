-- Texts that a zero byte ends.
use Rattle.std.proofs.Common.{Bool, true, false, ◌≡◌, ℕ, zero, suc, ◌+◌, ◌-◌, ◌<◌, ◌≤◌, List, [], ◌∷◌, length, take, drop, get_or, Option, Some, None, refl, sym, ap, subst, ◌∙◌, arith}
use Rattle.std.specs.Option.{option_and_then}
use Rattle.std.specs.Str.{is_utf8, IsUtf8}
use Rattle.std.proofs.lemmas.Str.{IsUtf8-from_is_utf8}
use Rattle.std.proofs.lemmas.List.{length-drop, drop-take}
use Rattle.std.proofs.Math.Seq.{take-length}
use Rattle.pg_spec.specs.Bytes.{◌>>=◌, text0_at, if_all_read}
use Rattle.pg_spec.specs.Messages.{Message, alone, text_alone}
use Rattle.pg_wire.specs.Bodies.{TextPair, text_pair, TextEnds, PairEnds}

-- the first zero byte stands at n
text_at : (s : List ℕ) (n : ℕ) → n < length s → get_or s n 0 ≡ 0 → ((k : ℕ) → k < n → get_or s k 0 ≡ 0 → ⊥) →
    text0_at s ≡ Some (take n s, drop (suc n) s)
text_at [] n fits at before = absurd (omega arith)
text_at (zero ∷ s) zero fits at before = refl
text_at (suc b ∷ s) zero fits at before = absurd (omega arith)
text_at (zero ∷ s) (suc n) fits at before = absurd (before 0 (omega arith) refl)
text_at (suc b ∷ s) (suc n) fits at before =
    ap (option_and_then (λ (more : List ℕ × List ℕ). Some (suc b ∷ more.0, more.1)))
    (text_at s n (omega arith) at (λ k less is. before (suc k) (omega arith) is))

pub text_ends : (s : List ℕ) (n : ℕ) → n < length s → get_or s n 0 ≡ 0 → ((k : ℕ) → k < n → get_or s k 0 ≡ 0 → ⊥) → TextEnds s (Some n)
text_ends s n fits at before =
    let e : suc n ≡ n + 1 = omega arith in
    (fits, text_at s n fits at before ∙ ap (λ (k : ℕ). Some (take n s, drop k s)) e)

-- no zero byte stands there
pub text_runs_out : (s : List ℕ) → ((k : ℕ) → k < length s → get_or s k 0 ≡ 0 → ⊥) → TextEnds s None
text_runs_out [] none = refl
text_runs_out (zero ∷ s) none = absurd (none 0 (omega arith) refl)
text_runs_out (suc b ∷ s) none =
    ap (option_and_then (λ (more : List ℕ × List ℕ). Some (suc b ∷ more.0, more.1))) (text_runs_out s (λ k less is. none (suc k) (omega arith) is))

-- ---- two texts

-- the pair that a second text makes
abbrev paired : List ℕ → List ℕ × List ℕ → Option TextPair
paired first second = if_all_read (record { first = first; second = second.0 }, second.1)

pair_behind : (s : List ℕ) (n : ℕ) → TextEnds s (Some n) → text_pair s ≡ (text0_at (drop (n + 1) s) >>= λ second. paired (take n s) second)
pair_behind s n ends = ap (option_and_then (λ (first : List ℕ × List ℕ). text0_at first.1 >>= λ second. paired first.0 second)) ends.1

not_all : (first second rest : List ℕ) → 0 < length rest → paired first (second, rest) ≡ None
not_all first second [] some = absurd (omega arith)
not_all first second (b ∷ rest) some = refl

all : (first second rest : List ℕ) → length rest ≡ 0 → paired first (second, rest) ≡ Some (record { first = first; second = second })
all first second [] none = refl
all first second (b ∷ rest) none = absurd (omega arith)

rest_is : (s : List ℕ) (at : ℕ) → take (length s - at) (drop at s) ≡ drop at s
rest_is s at = ap (λ k. take k (drop at s)) (sym (length-drop at s)) ∙ take-length (drop at s)

-- the second text ends too early
pub pair_goes_on : (s : List ℕ) (n m : ℕ) → TextEnds s (Some n) → TextEnds (take (length s - (n + 1)) (drop (n + 1) s)) (Some m) →
    m + 1 < length (take (length s - (n + 1)) (drop (n + 1) s)) → text_pair s ≡ None
pair_goes_on s n m first second more =
    let rest : List ℕ = drop (n + 1) s in
    let second' : TextEnds rest (Some m) = subst (λ (x : List ℕ). TextEnds x (Some m)) (rest_is s (n + 1)) second in
    let more' : m + 1 < length rest = subst (λ (x : List ℕ). m + 1 < length x) (rest_is s (n + 1)) more in
    pair_behind s n first
    ∙ ap (option_and_then (λ (text : List ℕ × List ℕ). paired (take n s) text)) second'.1
    ∙ not_all (take n s) (take m rest) (drop (m + 1) rest) (omega (arith, length-drop (m + 1) rest, more'))

-- the second text ends with the bytes
pub pair_ends : (s : List ℕ) (n m : ℕ) → TextEnds s (Some n) → TextEnds (take (length s - (n + 1)) (drop (n + 1) s)) (Some m) →
    length (take (length s - (n + 1)) (drop (n + 1) s)) ≤ m + 1 → PairEnds s (Some n)
pair_ends s n m first second no_more =
    let rest : List ℕ = drop (n + 1) s in
    let second' : TextEnds rest (Some m) = subst (λ (x : List ℕ). TextEnds x (Some m)) (rest_is s (n + 1)) second in
    let no_more' : length rest ≤ m + 1 = subst (λ (x : List ℕ). length x ≤ m + 1) (rest_is s (n + 1)) no_more in
    let m-is : (n + 1) + m ≡ length s - 1 = omega (arith, length-drop (n + 1) s, second'.0, no_more') in
    let behind : take m rest ≡ drop (n + 1) (take (length s - 1) s) =
    sym (drop-take (n + 1) m s) ∙ ap (λ (k : ℕ). drop (n + 1) (take k s)) m-is in (
      omega (arith, length-drop (n + 1) s, second'.0),
      pair_behind s n first
          ∙ ap (option_and_then (λ (text : List ℕ × List ℕ). paired (take n s) text)) second'.1
          ∙ all (take n s) (take m rest) (drop (m + 1) rest) (omega (arith, length-drop (m + 1) rest, no_more'))
          ∙ ap (λ (x : List ℕ). Some (record { first = take n s; second = x })) behind,
    )

-- ---- one text

not_alone : (m : Message) (rest : List ℕ) → 0 < length rest → alone m rest ≡ None
not_alone m [] some = absurd (omega arith)
not_alone m (b ∷ rest) some = refl

-- bytes are left behind the text
pub text_goes_on : (message : List ℕ → Message) (s seen : List ℕ) (n len : ℕ) → seen ≡ s → TextEnds seen (Some n) → len ≡ length s → n + 1 < len →
    text_alone message s ≡ None
text_goes_on message s seen n len same ends size more =
    let ends' : TextEnds s (Some n) = subst (λ (x : List ℕ). TextEnds x (Some n)) same ends in
    ap (option_and_then (λ (text : List ℕ × List ℕ). alone (message text.0) text.1)) ends'.1
    ∙ not_alone (message (take n s)) (drop (n + 1) s) (omega (arith, length-drop (n + 1) s, size, more))

-- the test of a text that isn't UTF-8
pub not_utf8 : (s : List ℕ) → (IsUtf8 s → ⊥) → is_utf8 s ≡ false
not_utf8 s invalid = not_true (is_utf8 s) (λ e. invalid (IsUtf8-from_is_utf8 s e))
  where
    not_true : (b : Bool) → (b ≡ true → ⊥) → b ≡ false
    not_true true isnt = absurd (isnt refl)
    not_true false isnt = refl
