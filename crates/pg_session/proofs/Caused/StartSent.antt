-- A front of the startup's frame holds no Terminate.
use Rattle.std.proofs.Common.{◌≡◌, ◌⊎◌, ℕ, ◌+◌, ◌^◌, ◌<◌, ◌≤◌, Bool, true, false, cond, ◌&&◌, List, [], ◌∷◌, ◌++◌, length, map, drop, Option, Some, None, Ok, inl, inr, refl, sym, ◌∙◌, ap, arith, ltb, length-append}
use Rattle.std.specs.Prelude.{◌==◌, if◌then◌else◌}
use Rattle.std.specs.List.{flat_map, list_any}
use Rattle.std.specs.Int.{w32, byte_at, to_be_bytes}
use Rattle.std.proofs.lemmas.Bool.{ltb-false}
use Rattle.std.proofs.lemmas.List.{drop_all}
use Rattle.pg_spec.specs.Bytes.{number_at, text0}
use Rattle.pg_spec.specs.Settings.{Settings, startup_parameters}
use Rattle.pg_spec.specs.Faults.{FrameFault, ZeroByte, TooMany, TooLong}
use Rattle.pg_spec.specs.Frames.{has_zero, frame_fault, startup_body, untagged, unless_fault}
use Rattle.pg_spec.specs.RawMessages.{messages, ends_in}
use Rattle.pg_spec.specs.Sent.{asked_for_tls, behind_length, messages_if, is_terminate, said_terminate}
use Rattle.pg_spec.proofs.Readers.{number_at_front}
use Rattle.pg_startup.specs.Steps.{frame_of}

-- ---- a front of two lists

in_front : (t more front rest : List ℕ) → t ++ more ≡ front ++ rest → (length t < length front) ⊎ ((u : List ℕ) × (t ≡ front ++ u) × (u ++ more ≡ rest))
in_front t more [] rest e = inr (t, refl, e)
in_front [] more (b ∷ front) rest e = inl (omega arith)
in_front (a ∷ t) more (b ∷ front) rest e =
    let same : a ≡ b = cc in
    let behind : t ++ more ≡ front ++ rest = cc in
    by_rest same (in_front t more front rest behind)
  where
    by_rest : a ≡ b → (length t < length front) ⊎ ((u : List ℕ) × (t ≡ front ++ u) × (u ++ more ≡ rest)) →
        (length (a ∷ t) < length (b ∷ front)) ⊎ ((u : List ℕ) × (a ∷ t ≡ (b ∷ front) ++ u) × (u ++ more ≡ rest))
    by_rest same (inl short) = inl (omega (arith, short))
    by_rest same (inr h) = inr (h.0, ap (λ (x : ℕ). x ∷ t) same ∙ ap (λ (l : List ℕ). b ∷ l) h.1, h.2)

-- ---- what was said, by the length in front

-- whether Terminate was said behind a length
abbrev said_behind : List ℕ → Option (ℕ × List ℕ) → Bool
said_behind t n = ends_in is_terminate (messages_if (behind_length t n))

plain_said : (t : List ℕ) (n : Option (ℕ × List ℕ)) → asked_for_tls t ≡ false → number_at w32 t ≡ n → said_terminate t ≡ said_behind t n
plain_said t n plain is =
    ap (λ (s : List ℕ). said_behind s (number_at w32 s)) (ap (λ (b : Bool). cond b (drop 8 t) t) plain)
    ∙ ap (λ (o : Option (ℕ × List ℕ)). said_behind t o) is

one : (a : Bool) → (a && false) ≡ false
one false = refl
one true = refl

two : (a b : Bool) → (a && (b && false)) ≡ false
two false b = refl
two true b = one b

three : (a b c : Bool) → (a && (b && (c && false))) ≡ false
three false b c = refl
three true b c = two b c

four : (a b c d : Bool) → (a && (b && (c && (d && false)))) ≡ false
four false b c d = refl
four true b c d = three b c d

-- fewer bytes than a length has
short_silent : (t : List ℕ) → length t < 4 → said_terminate t ≡ false
short_silent [] few = refl
short_silent (a ∷ []) few = plain_said (a ∷ []) None (one (0 == a)) refl
short_silent (a ∷ b ∷ []) few = plain_said (a ∷ b ∷ []) None (two (0 == a) (0 == b)) refl
short_silent (a ∷ b ∷ c ∷ []) few = plain_said (a ∷ b ∷ c ∷ []) None (three (0 == a) (0 == b) (0 == c)) refl
short_silent (a ∷ b ∷ c ∷ d ∷ t) few = absurd (omega (arith, few))

-- behind the length stands no code of an SSLRequest
plain_front : (n : ℕ) (u more rest : List ℕ) → u ++ more ≡ 0 ∷ rest → asked_for_tls (to_be_bytes w32 n ++ u) ≡ false
plain_front n [] more rest e = four (0 == byte_at 3 n) (0 == byte_at 2 n) (0 == byte_at 1 n) (8 == byte_at 0 n)
plain_front n (c ∷ u) more rest e =
    let zero : c ≡ 0 = cc in
    ap (λ (x : ℕ). asked_for_tls (to_be_bytes w32 n ++ x ∷ u)) zero
    ∙ four (0 == byte_at 3 n) (0 == byte_at 2 n) (0 == byte_at 1 n) (8 == byte_at 0 n)

-- nothing stands behind as many bytes as the length tells
none_behind : (t rest : List ℕ) (n : ℕ) → length t ≤ n → said_behind t (Some (n, rest)) ≡ false
none_behind t rest n few = by_length (ltb (length t) n)
  where
    by_length : (b : Bool) → ends_in is_terminate (messages_if (cond b None (Some (drop n t)))) ≡ false
    by_length true = refl
    by_length false = ap (λ (l : List ℕ). ends_in is_terminate (messages l)) (drop_all n t few)

-- the length and some of what follows it
long_silent : (n : ℕ) (u more rest : List ℕ) → n < 2 ^ 32 → n ≡ 5 + length rest → u ++ more ≡ 0 ∷ rest → said_terminate (to_be_bytes w32 n ++ u) ≡ false
long_silent n u more rest fits is e =
    let sizes : length u + length more ≡ 1 + length rest = sym (length-append u more) ∙ ap length e ∙ omega arith in
    let few : length (to_be_bytes w32 n ++ u) ≤ n = omega (arith, sizes, is) in
    plain_said (to_be_bytes w32 n ++ u) (Some (n, u)) (plain_front n u more rest e) (number_at_front n u fits)
    ∙ none_behind (to_be_bytes w32 n ++ u) u n few

-- a front of a frame whose body begins with 0
front_silent : (t more rest : List ℕ) → 5 + length rest < 2 ^ 32 → t ++ more ≡ untagged (0 ∷ rest) → said_terminate t ≡ false
front_silent t more rest fits e = by_length (in_front t more (to_be_bytes w32 n) (0 ∷ rest) e)
  where
    n : ℕ
    n = 4 + length (0 ∷ rest)

    by_length : (length t < length (to_be_bytes w32 n)) ⊎ ((u : List ℕ) × (t ≡ to_be_bytes w32 n ++ u) × (u ++ more ≡ 0 ∷ rest)) → said_terminate t ≡ false
    by_length (inl few) = short_silent t few
    by_length (inr h) = ap said_terminate h.1 ∙ long_silent n h.0 more rest (omega (arith, fits)) (omega arith) h.2

-- ---- the startup's frame

-- what a frame that was made tells
made_frame : (o : Option FrameFault) (frame opening : List ℕ) → unless_fault o frame ≡ Ok opening → (o ≡ None) × (frame ≡ opening)
made_frame None frame opening e = (refl, cc)
made_frame (Some fault) frame opening e = absurd cc

is_short : (a b c : Bool) → (if a then Some ZeroByte else if b then Some TooMany else if c then Some TooLong else None) ≡ None → c ≡ false
is_short true b c e = absurd cc
is_short false true c e = absurd cc
is_short false false true e = absurd cc
is_short false false false e = refl

-- a front of the startup's frame
pub silent_front : (settings : Settings) (opening t more : List ℕ) → frame_of settings ≡ Ok opening → t ++ more ≡ opening → said_terminate t ≡ false
silent_front settings opening t more is e =
    let pairs : List (List ℕ × List ℕ) = startup_parameters settings in
    let rest : List ℕ = 3 ∷ 0 ∷ 0 ∷ flat_map (λ (pair : List ℕ × List ℕ). text0 pair.0 ++ text0 pair.1) pairs ++ 0 ∷ [] in
    let texts : List (List ℕ) = map (λ (pair : List ℕ × List ℕ). pair.0) pairs ++ map (λ (pair : List ℕ × List ℕ). pair.1) pairs in
    let made = made_frame (frame_fault texts [] (4 + length (startup_body pairs))) (untagged (startup_body pairs)) opening is in
    let short : ltb 2147483647 (4 + length (0 ∷ rest)) ≡ false = is_short (list_any has_zero texts) false (ltb 2147483647 (4 + length (startup_body pairs))) made.0 in
    front_silent t more rest (omega (arith, ltb-false 2147483647 (4 + length (0 ∷ rest)) short)) (e ∙ sym made.1)
