-- Reading base64 is the inverse of writing it.
use Rattle.std.proofs.Common.{◌≡◌, ◌↔◌, ℕ, zero, suc, ◌+◌, ◌-◌, ◌*◌, ◌/◌, ◌%◌, ◌==◌, ◌<◌, nat_lt, Bool, true, false, not, ◌&&◌, if◌then◌else◌, List, [], ◌∷◌, ◌++◌, length, take, drop, filter, replicate, slice_index, Some, None, Ok, Err, unwrap_or, refl, sym, ap, subst, ◌∙◌, arith, inl, inr}
use Rattle.std.proofs.lemmas.Bool.{eqb-true, and_parts, cases_Bool, not-true, ltb-true}
use Rattle.std.proofs.lemmas.List.{length-append, length-replicate, take_at, take-append-drop}
use Rattle.std.proofs.lemmas.List.Elements.{All-nil, All-cons}
use Rattle.std.proofs.lemmas.Slice.Eq.{bytes_eq-Decides}
use Rattle.std.specs.List.{All, position_or_len}
use Rattle.std.specs.Str.{byte, bytes_eq}
use Rattle.base64.specs.Engines.{standard}
use Rattle.base64.specs.GeneralPurpose.{IsBytes, decode_of, encode_of}
use Rattle.base64.specs.declared.decode.DecodeError.{DecodeError}
use Rattle.base64.specs.Rfc4648.{encode_symbols, padding_len}
use Rattle.base64.specs.Tables.{all_below}
use Rattle.base64.proofs.Tables.{all_below_at}
use Rattle.base64.proofs.EngineFacts.{decode_of-encode_of, front_bytes}
use Rattle.pg_spec.specs.Passwords.{base64, base64_symbols, symbol_value, group_bytes, padding_of, from_base64}

-- ---- one symbol

-- the value of a symbol is its place, and it is no padding
abbrev is_read : ℕ → Bool
is_read v = (symbol_value (slice_index base64_symbols v) == v) && not (slice_index base64_symbols v == 61)

all_read : all_below is_read 64 ≡ true
all_read = refl

value : (v : ℕ) → v < 64 → symbol_value (slice_index base64_symbols v) ≡ v
value v h = eqb-true _ v (and_parts _ _ (all_below_at is_read 64 v all_read h)).0

no_padding : (v : ℕ) → v < 64 → (slice_index base64_symbols v == 61) ≡ false
no_padding v h = not-true _ (and_parts _ _ (all_below_at is_read 64 v all_read h)).1

-- a place among 64, or none
place_small : (i : ℕ) (b : Bool) → nat_lt i 64 ≡ b → unwrap_or (if b then Some i else None) 0 < 64
place_small i true e = ltb-true i 64 e
place_small i false e = omega arith

-- a symbol has six bits
value_small : (c : ℕ) → symbol_value c < 64
value_small c = place_small (position_or_len (λ s. s == c) base64_symbols) (nat_lt (position_or_len (λ s. s == c) base64_symbols) 64) refl

-- ---- a group

-- what the symbols of one, two and three bytes are read as
group_of_one : (s t a : ℕ) → a < 256 → symbol_value s ≡ a / 4 → symbol_value t ≡ a % 4 * 16
    → group_bytes (s ∷ t ∷ 61 ∷ 61 ∷ []) ≡ a ∷ 0 ∷ 0 ∷ []
group_of_one s t a h e f =
    let first : symbol_value s * 4 + symbol_value t / 16 ≡ a = omega arith in
    let second : symbol_value t % 16 * 16 + 0 / 4 ≡ 0 = omega arith in
    rw (first, second) refl

group_of_two : (s t u a b : ℕ) → a < 256 → b < 256 → symbol_value s ≡ a / 4 → symbol_value t ≡ a % 4 * 16 + b / 16 → symbol_value u ≡ b % 16 * 4
    → group_bytes (s ∷ t ∷ u ∷ 61 ∷ []) ≡ a ∷ b ∷ 0 ∷ []
group_of_two s t u a b h k e f g =
    let first : symbol_value s * 4 + symbol_value t / 16 ≡ a = omega arith in
    let second : symbol_value t % 16 * 16 + symbol_value u / 4 ≡ b = omega arith in
    let third : symbol_value u % 4 * 64 + 0 ≡ 0 = omega arith in
    rw (first, second, third) refl

group_of_three : (s t u v a b c : ℕ) (rest : List ℕ) → a < 256 → b < 256 → c < 256
    → symbol_value s ≡ a / 4 → symbol_value t ≡ a % 4 * 16 + b / 16 → symbol_value u ≡ b % 16 * 4 + c / 64 → symbol_value v ≡ c % 64
    → group_bytes (s ∷ t ∷ u ∷ v ∷ rest) ≡ a ∷ b ∷ c ∷ group_bytes rest
group_of_three s t u v a b c rest h k l e f g i =
    let first : symbol_value s * 4 + symbol_value t / 16 ≡ a = omega arith in
    let second : symbol_value t % 16 * 16 + symbol_value u / 4 ≡ b = omega arith in
    let third : symbol_value u % 4 * 64 + symbol_value v ≡ c = omega arith in
    rw (first, second, third) refl

-- ---- the whole

-- the symbol of a value
abbrev symbol : ℕ → ℕ
symbol v = slice_index base64_symbols v

more_padding : (n : ℕ) → padding_len (suc (suc (suc n))) ≡ padding_len n
more_padding n = omega arith

base64_more : (a b c : ℕ) (rest : List ℕ)
    → base64 (a ∷ b ∷ c ∷ rest) ≡ symbol (a / 4) ∷ symbol (a % 4 * 16 + b / 16) ∷ symbol (b % 16 * 4 + c / 64) ∷ symbol (c % 64) ∷ base64 rest
unfolding encode_symbols
base64_more a b c rest = rw (more_padding (length rest)) refl

base64_one : (a : ℕ) → base64 (a ∷ []) ≡ symbol (a / 4) ∷ symbol (a % 4 * 16) ∷ 61 ∷ 61 ∷ []
unfolding encode_symbols
base64_one a = refl

base64_two : (a b : ℕ) → base64 (a ∷ b ∷ []) ≡ symbol (a / 4) ∷ symbol (a % 4 * 16 + b / 16) ∷ symbol (b % 16 * 4) ∷ 61 ∷ []
unfolding encode_symbols
base64_two a b = refl

base64_none : base64 [] ≡ []
unfolding encode_symbols
base64_none = refl

-- the bytes that were written, and zeros for the padding
bytes_read : (m : List ℕ) → IsBytes m → group_bytes (base64 m) ≡ m ++ replicate (padding_len (length m)) 0
bytes_read [] h = rw base64_none refl
bytes_read (a ∷ []) h =
    let byte_a : a < 256 = h 0 in
    ap group_bytes (base64_one a) ∙ group_of_one (symbol (a / 4)) (symbol (a % 4 * 16)) a byte_a (value (a / 4) (omega arith)) (value (a % 4 * 16) (omega arith))
bytes_read (a ∷ b ∷ []) h =
    let byte_a : a < 256 = h 0 in
    let byte_b : b < 256 = h 1 in
    ap group_bytes (base64_two a b) ∙ group_of_two (symbol (a / 4)) (symbol (a % 4 * 16 + b / 16)) (symbol (b % 16 * 4)) a b byte_a byte_b
    (value (a / 4) (omega arith)) (value (a % 4 * 16 + b / 16) (omega arith)) (value (b % 16 * 4) (omega arith))
bytes_read (a ∷ b ∷ c ∷ rest) h =
    let byte_a : a < 256 = h 0 in
    let byte_b : b < 256 = h 1 in
    let byte_c : c < 256 = h 2 in
    let later = bytes_read rest (λ i. h (suc (suc (suc i)))) in
    ap group_bytes (base64_more a b c rest)
    ∙ group_of_three (symbol (a / 4)) (symbol (a % 4 * 16 + b / 16)) (symbol (b % 16 * 4 + c / 64)) (symbol (c % 64)) a b c (base64 rest) byte_a byte_b byte_c
    (value (a / 4) (omega arith)) (value (a % 4 * 16 + b / 16) (omega arith)) (value (b % 16 * 4 + c / 64) (omega arith)) (value (c % 64) (omega arith))
    ∙ ap (λ l. a ∷ b ∷ c ∷ l) (later ∙ ap (λ n. rest ++ replicate n 0) (sym (more_padding (length rest))))

-- a symbol is no padding
not_counted : (v : ℕ) (rest : List ℕ) → v < 64 → padding_of (symbol v ∷ rest) ≡ padding_of rest
not_counted v rest h = ap (λ b. length (if b then symbol v ∷ filter (λ c. c == 61) rest else filter (λ c. c == 61) rest)) (no_padding v h)

-- the padding that was written is counted
padding_read : (m : List ℕ) → IsBytes m → padding_of (base64 m) ≡ padding_len (length m)
padding_read [] h = rw base64_none refl
padding_read (a ∷ []) h =
    let byte_a : a < 256 = h 0 in
    let s : ℕ = symbol (a % 4 * 16) in
    ap padding_of (base64_one a) ∙ not_counted (a / 4) (s ∷ 61 ∷ 61 ∷ []) (omega arith) ∙ not_counted (a % 4 * 16) (61 ∷ 61 ∷ []) (omega arith)
padding_read (a ∷ b ∷ []) h =
    let byte_a : a < 256 = h 0 in
    let byte_b : b < 256 = h 1 in
    let t : ℕ = symbol (b % 16 * 4) in
    let s : ℕ = symbol (a % 4 * 16 + b / 16) in
    ap padding_of (base64_two a b) ∙ not_counted (a / 4) (s ∷ t ∷ 61 ∷ []) (omega arith)
    ∙ not_counted (a % 4 * 16 + b / 16) (t ∷ 61 ∷ []) (omega arith) ∙ not_counted (b % 16 * 4) (61 ∷ []) (omega arith)
padding_read (a ∷ b ∷ c ∷ rest) h =
    let byte_a : a < 256 = h 0 in
    let byte_b : b < 256 = h 1 in
    let byte_c : c < 256 = h 2 in
    let u : ℕ = symbol (c % 64) in
    let t : ℕ = symbol (b % 16 * 4 + c / 64) in
    let s : ℕ = symbol (a % 4 * 16 + b / 16) in
    ap padding_of (base64_more a b c rest) ∙ not_counted (a / 4) (s ∷ t ∷ u ∷ base64 rest) (omega arith)
    ∙ not_counted (a % 4 * 16 + b / 16) (t ∷ u ∷ base64 rest) (omega arith)
    ∙ not_counted (b % 16 * 4 + c / 64) (u ∷ base64 rest) (omega arith) ∙ not_counted (c % 64) (base64 rest) (omega arith)
    ∙ padding_read rest (λ i. h (suc (suc (suc i)))) ∙ sym (more_padding (length rest))

-- what from_base64 tries
abbrev tried : List ℕ → List ℕ
tried text = take (length (group_bytes text) - padding_of text) (group_bytes text)

tried_written : (m : List ℕ) → IsBytes m → tried (base64 m) ≡ m
tried_written m h =
    let zeros : List ℕ = replicate (padding_len (length m)) 0 in
    let count : length (m ++ zeros) - padding_len (length m) ≡ length m = simp (length-append, length-replicate) (omega arith) in
    rw (bytes_read m h, padding_read m h, count) (take_at m zeros (length m) refl)

-- what was written is read
pub read_written : (m : List ℕ) → IsBytes m → from_base64 (base64 m) ≡ Some m
read_written m h =
    let e = tried_written m h in
    let same : bytes_eq (base64 (tried (base64 m))) (base64 m) ≡ true = (bytes_eq-Decides _ _).1 (ap base64 e) in
    rw same (ap (λ b. Some b) e)

-- ---- what is read is the text's

no_bytes : IsBytes []
no_bytes i = omega arith

bytes_cons : (x : ℕ) (rest : List ℕ) → x < 256 → IsBytes rest → IsBytes (x ∷ rest)
bytes_cons x rest h k zero = h
bytes_cons x rest h k (suc i) = k i

-- four symbols make three bytes
joined_small : (s t u v : ℕ) (rest : List ℕ) → s < 64 → t < 64 → u < 64 → v < 64 → IsBytes rest
    → IsBytes ((s * 4 + t / 16) ∷ (t % 16 * 16 + u / 4) ∷ (u % 4 * 64 + v) ∷ rest)
joined_small s t u v rest h k l m later =
    bytes_cons (s * 4 + t / 16) ((t % 16 * 16 + u / 4) ∷ (u % 4 * 64 + v) ∷ rest) (omega arith)
    (bytes_cons (t % 16 * 16 + u / 4) ((u % 4 * 64 + v) ∷ rest) (omega arith) (bytes_cons (u % 4 * 64 + v) rest (omega arith) later))

groups_small : (text : List ℕ) → IsBytes (group_bytes text)
groups_small [] = no_bytes
groups_small (a ∷ []) = no_bytes
groups_small (a ∷ b ∷ []) = no_bytes
groups_small (a ∷ b ∷ c ∷ []) = no_bytes
groups_small (a ∷ b ∷ c ∷ d ∷ rest) =
    joined_small (symbol_value a) (symbol_value b) (symbol_value c) (symbol_value d) (group_bytes rest)
    (value_small a) (value_small b) (value_small c) (value_small d) (groups_small rest)

tried_small : (text : List ℕ) → IsBytes (tried text)
tried_small text =
    let n : ℕ = length (group_bytes text) - padding_of text in
    front_bytes (tried text) (drop n (group_bytes text)) (subst IsBytes (sym (take-append-drop n (group_bytes text))) (groups_small text))

-- a text that is no encoding is read as none
none_read : (text : List ℕ) → ((m : List ℕ) → IsBytes m → text ≡ base64 m → ⊥) → from_base64 text ≡ None
none_read text h = elim (cases_Bool (bytes_eq (base64 (tried text)) text)) [
  | inl same ↦ absurd (h (tried text) (tried_small text) (sym ((bytes_eq-Decides _ _).0 same)))
  | inr other ↦ rw other refl
]

none-some : (m : List ℕ) → None ≡ Some m → ⊥
none-some m e = cc e

-- a text that is read is the encoding of what is read
written_back : (text m : List ℕ) (b : Bool) → bytes_eq (base64 (tried text)) text ≡ b → (if b then Some (tried text) else None) ≡ Some m → IsBytes m × (text ≡ base64 m)
written_back text m true e f =
    let is : tried text ≡ m = cc f in
    (subst IsBytes is (tried_small text), sym ((bytes_eq-Decides _ _).0 e) ∙ ap base64 is)
written_back text m false e f = absurd (none-some m f)

pub read_back : (text m : List ℕ) → (from_base64 text ≡ Some m) ↔ (IsBytes m × (text ≡ base64 m))
read_back text m = (λ e. written_back text m (bytes_eq (base64 (tried text)) text) refl e, λ h. ap from_base64 h.1 ∙ read_written m h.0)

-- ---- no comma stands in base64

abbrev Free : List ℕ → Type 0
Free text = All (λ c. (c == byte ",") ≡ false) text

free_nil : Free []
free_nil = All-nil (λ c. (c == byte ",") ≡ false)

free_cons : (x : ℕ) (text : List ℕ) → (x == byte ",") ≡ false → Free text → Free (x ∷ text)
free_cons x text h k = All-cons (λ c. (c == byte ",") ≡ false) x text h k

abbrev is_no_comma : ℕ → Bool
is_no_comma v = not (slice_index base64_symbols v == 44)

none_is_comma : all_below is_no_comma 64 ≡ true
none_is_comma = refl

symbol_free : (v : ℕ) (text : List ℕ) → v < 64 → Free text → Free (symbol v ∷ text)
symbol_free v text h k = free_cons (symbol v) text (not-true (slice_index base64_symbols v == 44) (all_below_at is_no_comma 64 v none_is_comma h)) k

padding_free : (text : List ℕ) → Free text → Free (61 ∷ text)
padding_free text h = free_cons 61 text refl h

pub base64_free : (m : List ℕ) → IsBytes m → Free (base64 m)
base64_free [] h = subst Free (sym base64_none) free_nil
base64_free (a ∷ []) h =
    let byte_a : a < 256 = h 0 in
    let s : ℕ = symbol (a % 4 * 16) in
    subst Free (sym (base64_one a)) (symbol_free (a / 4) (s ∷ 61 ∷ 61 ∷ []) (omega arith)
    (symbol_free (a % 4 * 16) (61 ∷ 61 ∷ []) (omega arith) (padding_free (61 ∷ []) (padding_free [] free_nil))))
base64_free (a ∷ b ∷ []) h =
    let byte_a : a < 256 = h 0 in
    let byte_b : b < 256 = h 1 in
    let t : ℕ = symbol (b % 16 * 4) in
    let s : ℕ = symbol (a % 4 * 16 + b / 16) in
    subst Free (sym (base64_two a b)) (symbol_free (a / 4) (s ∷ t ∷ 61 ∷ []) (omega arith)
    (symbol_free (a % 4 * 16 + b / 16) (t ∷ 61 ∷ []) (omega arith) (symbol_free (b % 16 * 4) (61 ∷ []) (omega arith) (padding_free [] free_nil))))
base64_free (a ∷ b ∷ c ∷ rest) h =
    let byte_a : a < 256 = h 0 in
    let byte_b : b < 256 = h 1 in
    let byte_c : c < 256 = h 2 in
    let u : ℕ = symbol (c % 64) in
    let t : ℕ = symbol (b % 16 * 4 + c / 64) in
    let s : ℕ = symbol (a % 4 * 16 + b / 16) in
    subst Free (sym (base64_more a b c rest)) (symbol_free (a / 4) (s ∷ t ∷ u ∷ base64 rest) (omega arith)
    (symbol_free (a % 4 * 16 + b / 16) (t ∷ u ∷ base64 rest) (omega arith) (symbol_free (b % 16 * 4 + c / 64) (u ∷ base64 rest) (omega arith)
    (symbol_free (c % 64) (base64 rest) (omega arith) (base64_free rest (λ i. h (suc (suc (suc i)))))))))

-- ---- the engine that the code calls

-- what the engine decodes is what is read
pub decoded : (text m : List ℕ) → IsBytes m → text ≡ encode_of standard m → from_base64 text ≡ Some m
decoded text m h e = ap from_base64 e ∙ read_written m h

-- what it refuses isn't read
pub undecoded : (text : List ℕ) (fault : DecodeError) → decode_of standard text ≡ Err fault → from_base64 text ≡ None
undecoded text fault refused = none_read text (λ m h e.
    let back : decode_of standard text ≡ Ok m = ap (decode_of standard) e ∙ decode_of-encode_of standard m refl h in
    cc (sym refused ∙ back))
