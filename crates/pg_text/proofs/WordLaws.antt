-- Words are told from what stands behind them.
use Rattle.std.proofs.Common.{◌≡◌, ◌≢◌, ◌<◌, ◌≤◌, ◌+◌, ◌*◌, ℕ, zero, suc, false, List, [], ◌∷◌, ◌++◌, length, get_or, take, drop, Option, Some, None, Result, Ok, Err, IfOk, IfSome, refl, sym, ap, subst, ◌∙◌, append-nil, lt-ltb, ltb-true, eq-eqb, eqb, ◌&&◌, inl, inr, arith, nat_lt}
use lib.Pointwise.{pointwise}
use Rattle.std.specs.Prelude.{EachIndex, IsUtf8, not, option_map, true, ◌==◌}
use Rattle.std.specs.List.{list_all}
use Rattle.std.specs.Int.{IsInRange}
use Rattle.std.proofs.lemmas.Str.{IsUtf8-from_ascii}
use Rattle.std.proofs.lemmas.Str.Ascii.{IsAscii-from_reads}
use Rattle.std.specs.Char.{digit_value}
use Rattle.std.specs.Str.Parse.{AllDigits}
use Rattle.std.proofs.lemmas.Bool.{cond_both, cond-true, eqb-false}
use Rattle.std.proofs.lemmas.Bool.Decides.{nat_tests}
use Rattle.std.proofs.lemmas.List.{append_cancel_right, take-append-drop, drop_more}
use Rattle.std.proofs.lemmas.Slice.Eq.{bytes_eq-Decides}
use Rattle.std.proofs.lemmas.Str.Parse.{digit_at}
use Rattle.hex.specs.Hex.{◌>>=◌, decode_of, decode_pairs, hex_digit_value, digit_or_error}
use Rattle.hex.specs.declared.error.FromHexError.{FromHexError}
use Rattle.hex.proofs.HexLemmas.{decode_of-even, decode_of-ok}
use Rattle.pg_spec.specs.SessionText.{IsBytes, IsHex, IsNumber, IsQuoted}
use Rattle.pg_text.specs.Quotes.{hex_value, quoted_at}
use Rattle.pg_text.specs.Words.{BeginsWithQuote, left_text, Takes, Means, NoSpace, IsWord, IsHexWord}
use Rattle.pg_text.proofs.QuoteLaws.{quoted_found, quoted_read}

-- ---- words up to a space

cc_head : {b c : ℕ} {v w : List ℕ} → b ∷ v ≡ c ∷ w → b ≡ c
cc_head e = cc

cc_tail : {b c : ℕ} {v w : List ℕ} → b ∷ v ≡ c ∷ w → v ≡ w
cc_tail e = cc

pub left_same : (l k : Option (List ℕ)) → left_text l ≡ left_text k → l ≡ k
left_same None None e = refl
left_same None (Some words) e = absurd cc
left_same (Some words) None e = absurd cc
left_same (Some v) (Some w) e = let same : v ≡ w = cc in ap (λ t. Some t) same

-- no byte of it is a space
pub no_space_from : (w : List ℕ) → list_all (λ b. not (b == 32)) w ≡ true → NoSpace w
no_space_from [] e = tt
no_space_from (b ∷ w) e =
    elim (b == 32) as (λ t. (b == 32) ≡ t → (not t && list_all (λ b. not (b == 32)) w) ≡ true → NoSpace (b ∷ w)) [
      | true ↦ λ is h. cc h
      | false ↦ λ is h. (eqb-false b 32 is, no_space_from w h)
    ] refl e

no_space-take : (rest : List ℕ) (at : ℕ) → at ≤ length rest → ((k : ℕ) → k < at → get_or rest k 0 ≢ 32) → NoSpace (take at rest)
no_space-take rest zero fits none = tt
no_space-take [] (suc at) fits none = tt
no_space-take (b ∷ rest) (suc at) fits none = (none 0 (omega arith), no_space-take rest at (omega arith) (λ k h. none (suc k) (omega arith)))

-- the bytes up to the first space
pub word_before : (old : Option (List ℕ)) (rest : List ℕ) (at : ℕ) (behind : List ℕ) → old ≡ Some rest → behind ≡ drop (at + 1) rest →
    at < length rest → get_or rest at 0 ≡ 32 → ((k : ℕ) → k < at → get_or rest k 0 ≢ 32) → Takes IsWord old (Some (take at rest)) (Some behind)
word_before old rest at behind is goes_on fits here none = (
  take at rest,
  (refl, no_space-take rest at (omega arith) none),
  ap left_text is ∙ ap (λ t. 32 ∷ t) (sym (take-append-drop at rest) ∙ ap (λ t. take at rest ++ t) (drop_more rest at 0 fits
      ∙ (λ i. here i ∷ sym goes_on i))),
)

all_no_space : (rest : List ℕ) → ((k : ℕ) → k < length rest → get_or rest k 0 ≢ 32) → NoSpace rest
all_no_space [] none = tt
all_no_space (b ∷ rest) none = (none 0 (omega arith), all_no_space rest (λ k h. none (suc k) (omega arith)))

-- all bytes, where no space stands there
pub word_all : (old : Option (List ℕ)) (rest : List ℕ) → old ≡ Some rest → ((k : ℕ) → k < length rest → get_or rest k 0 ≢ 32) →
    Takes IsWord old (Some rest) None
word_all old rest is none = (rest, (refl, all_no_space rest none), ap left_text is ∙ ap (λ t. 32 ∷ t) (sym (append-nil rest)))

pub word_none : (new : Option (List ℕ)) → Takes IsWord None None new
word_none new x word left is e = cc e

-- a kind of words is told from what stands behind them, and by one meaning
abbrev pub Ends : {A : Type 0} → (A → List ℕ → Type 0) → Type 0
Ends {A} Is = (x y : A) (v w : List ℕ) (l k : Option (List ℕ)) → Is x v → Is y w → v ++ left_text l ≡ w ++ left_text k → (x ≡ y) × (v ≡ w) × (l ≡ k)

pub word_ends : (v w : List ℕ) (l k : Option (List ℕ)) → NoSpace v → NoSpace w → v ++ left_text l ≡ w ++ left_text k → (v ≡ w) × (l ≡ k)
word_ends [] [] l k p q e = (refl, left_same l k e)
word_ends [] (c ∷ w) None k p q e = absurd cc
word_ends [] (c ∷ w) (Some words) k p q e = let same : 32 ≡ c = cc in absurd (q.0 (sym same))
word_ends (b ∷ v) [] l None p q e = absurd cc
word_ends (b ∷ v) [] l (Some words) p q e = let same : b ≡ 32 = cc in absurd (p.0 same)
word_ends (b ∷ v) (c ∷ w) l k p q e =
    let head : b ≡ c = cc in
    let tail : v ++ left_text l ≡ w ++ left_text k = cc in
    let rest = word_ends v w l k p.1 q.1 tail in
    (λ i. head i ∷ rest.0 i, rest.1)

-- kinds of words without a space
pub ends_at_space : {A : Type 0} (Is : A → List ℕ → Type 0) → ((x : A) (w : List ℕ) → Is x w → NoSpace w) →
    ((x y : A) (w : List ℕ) → Is x w → Is y w → x ≡ y) → Ends Is
ends_at_space Is spaceless one x y v w l k p q e =
    let same = word_ends v w l k (spaceless x v p) (spaceless y w q) e in
    (one x y v p (subst (λ (t : List ℕ). Is y t) (sym same.0) q), same.0, same.1)

-- such a word is taken where the bytes up to the space have the meaning
pub takes_word : {A : Type 0} (Is : A → List ℕ → Type 0) → ((x : A) (w : List ℕ) → Is x w → NoSpace w) →
    (old new : Option (List ℕ)) (word : List ℕ) (r : Option A) → Takes IsWord old (Some word) new → Means Is word r → Takes Is old r new
takes_word Is spaceless old new word None taken is = λ x other left means e.
    let tail : taken.0 ++ left_text new ≡ other ++ left_text left = cc_tail (sym taken.2 ∙ e) in
    let same = word_ends taken.0 other new left taken.1.1 (spaceless x other means) tail in
    is x (subst (λ (t : List ℕ). Is x t) (sym (taken.1.0 ∙ same.0)) means)
takes_word Is spaceless old new word (Some x) taken is = (taken.0, subst (λ (t : List ℕ). Is x t) taken.1.0 is, taken.2)

pub takes_no_word : {A : Type 0} (Is : A → List ℕ → Type 0) → ((x : A) (w : List ℕ) → Is x w → NoSpace w) →
    (old new : Option (List ℕ)) → Takes IsWord old None new → Takes Is old None new
takes_no_word Is spaceless old new none x word left is e = none word word left (refl, spaceless x word is) e

-- ---- numbers

digit_no_space : (c radix : ℕ) → digit_value c < 36 → c ≢ 32
digit_no_space c radix small e = absurd (omega (arith, subst (λ (b : ℕ). digit_value b < 36) e small))

digits_no_space : (ds : List ℕ) → AllDigits 10 ds → NoSpace ds
digits_no_space [] h = tt
digits_no_space (c ∷ ds) h = (digit_no_space c 10 (omega arith), digits_no_space ds h.1)

pub digits_each : (ds : List ℕ) → AllDigits 10 ds → EachIndex ds (λ k. IsInRange 48 57 (get_or ds k 0))
digits_each ds h k fits = digit_at ds k h fits

pub digits_utf8 : (ds : List ℕ) → AllDigits 10 ds → IsUtf8 ds
digits_utf8 ds h = IsUtf8-from_ascii ds (IsAscii-from_reads ds (length ds) (omega arith) (λ k fits. let digit = digit_at ds k h fits in omega arith))

pub number_no_space : (most n : ℕ) (w : List ℕ) → IsNumber most n w → NoSpace w
number_no_space most n w h = digits_no_space w h.0.1

pub number_ends : (most : ℕ) → Ends (IsNumber most)
number_ends most = ends_at_space (IsNumber most) (number_no_space most) (λ x y w p q. sym p.1 ∙ q.1)

-- ---- hex

hex_digit_same : (c : ℕ) → hex_digit_value c ≡ hex_value c
hex_digit_same c = grind (arith, nat_tests)

pub hex_no_space : (bytes w : List ℕ) → IsHex bytes w → NoSpace w
hex_no_space [] w h = subst NoSpace (sym h) tt
hex_no_space (b ∷ bytes) w (high, low, rest, fits, small, is, value, later) =
    subst NoSpace (sym is) (digit_no_space high 16 (omega arith), (digit_no_space low 16 (omega arith), hex_no_space bytes rest later))

hex_length : (bytes w : List ℕ) → IsHex bytes w → length w ≡ 2 * length bytes
hex_length [] w h = ap (λ (t : List ℕ). length t) h
hex_length (b ∷ bytes) w (high, low, rest, fits, small, is, value, later) =
    let e : length w ≡ suc (suc (length rest)) = ap (λ (t : List ℕ). length t) is in
    omega (arith, e, hex_length bytes rest later)

hex_value_some : (digit : ℕ) → digit_value digit < 16 → hex_digit_value digit ≡ Some (digit_value digit)
hex_value_some digit small = hex_digit_same digit ∙ cond-true (nat_lt (digit_value digit) 16) _ _ (lt-ltb _ _ small)

hex_pairs : (i : ℕ) (bytes w : List ℕ) → IsHex bytes w → decode_pairs i w ≡ Ok bytes
unfolding decode_pairs
hex_pairs i [] w h = rw h refl
hex_pairs i (b ∷ bytes) w (high, low, rest, fits, small, is, value, later) =
    let byte : digit_value high * 16 + digit_value low ≡ b = omega arith in
    rw (is, hex_value_some high fits, hex_value_some low small, hex_pairs (i + 2) bytes rest later, byte) refl

pub hex_decodes : (bytes w : List ℕ) → IsHex bytes w → decode_of w ≡ Ok bytes
hex_decodes bytes w h = decode_of-even w (omega (arith, hex_length bytes w h)) ∙ hex_pairs 0 bytes w h

-- the value of a digit, where it is one
abbrev Digit : ℕ → Option ℕ → Type 0
Digit d None = Unit {0}
Digit d (Some value) = (value ≡ digit_value d) × (value < 16)

digit_is : (d : ℕ) → Digit d (hex_digit_value d)
digit_is d = subst (Digit d) (sym (hex_digit_same d)) (cond_both (nat_lt (digit_value d) 16) _ _ (Digit d) (λ e. (refl, ltb-true _ _ e)) (λ e. tt))

pair_sound : (i high low : ℕ) (rest : List ℕ) (read : Result (List ℕ) FromHexError) (a b : Option ℕ) → Digit high a → Digit low b →
    IfOk read (λ bytes. IsHex bytes rest) →
    IfOk ((digit_or_error high i a >>= λ h. digit_or_error low (i + 1) b >>= λ l. Ok (h * 16 + l)) >>= λ byte. read >>= λ bytes. Ok (byte ∷ bytes)) (λ bytes. IsHex bytes (high ∷ low ∷ rest))
pair_sound i high low rest read None b p q h = tt
pair_sound i high low rest read (Some a) None p q h = tt
pair_sound i high low rest (Err e) (Some a) (Some b) p q h = tt
pair_sound i high low rest (Ok bytes) (Some a) (Some b) p q h =
    (high, low, rest, omega (arith, p.0, p.1), omega (arith, q.0, q.1), refl, omega (arith, p.0, q.0), h)

hex_pairs_sound : (i : ℕ) (w : List ℕ) → IfOk (decode_pairs i w) (λ bytes. IsHex bytes w)
unfolding decode_pairs
hex_pairs_sound i [] = refl
hex_pairs_sound i (d ∷ []) = tt
hex_pairs_sound i (high ∷ low ∷ rest) =
    pair_sound i high low rest (decode_pairs (i + 2) rest) (hex_digit_value high) (hex_digit_value low) (digit_is high) (digit_is low) (hex_pairs_sound (i + 2) rest)

pub hex_sound : (w bytes : List ℕ) → decode_of w ≡ Ok bytes → IsHex bytes w
hex_sound w bytes e =
    let even = (decode_of-ok w bytes e).0 in
    let read : decode_pairs 0 w ≡ Ok bytes = sym (decode_of-even w even) ∙ e in
    subst (λ (r : Result (List ℕ) FromHexError). IfOk r (λ b. IsHex b w)) read (hex_pairs_sound 0 w)

-- a text that hex::decode refuses is no hex
pub hex_refused : (w : List ℕ) (fault : FromHexError) → decode_of w ≡ Err fault → (bytes : List ℕ) → IsHex bytes w → ⊥
hex_refused w fault e bytes h = cc (sym e ∙ hex_decodes bytes w h)

same_ok : (x y : List ℕ) (r : Result (List ℕ) FromHexError) → r ≡ Ok x → r ≡ Ok y → x ≡ y
same_ok x y r p q = cc

pub hex_word_no_space : (bytes w : List ℕ) → IsHexWord bytes w → NoSpace w
hex_word_no_space bytes w h = hex_no_space bytes w h.0

pub hex_ends : Ends IsHexWord
hex_ends = ends_at_space IsHexWord hex_word_no_space (λ x y w p q. same_ok x y (decode_of w) (hex_decodes x w p.0) (hex_decodes y w q.0))

-- ---- texts in quotes

same_read : (x y : List ℕ) (v w : List ℕ) (r : Option (List ℕ × List ℕ)) → r ≡ Some (x, v) → r ≡ Some (y, w) → (x ≡ y) × (v ≡ w)
same_read x y v w r p q =
    let read : Some (x, v) ≡ Some (y, w) = sym p ∙ q in
    let both : ◌≡◌ {A = List ℕ × List ℕ} (x, v) (y, w) = cc in
    (λ i. (both i).0, λ i. (both i).1)

pub quoted_ends : Ends IsQuoted
quoted_ends x y v w l k p q e =
    let parts = same_read x y (left_text l) (left_text k) (quoted_at (v ++ left_text l)) (quoted_read x v (left_text l) p) (ap quoted_at e ∙ quoted_read y w (left_text k) q) in
    (parts.0, append_cancel_right v w (left_text k) (subst (λ (t : List ℕ). v ++ t ≡ w ++ left_text k) parts.1 e), left_same l k parts.1)

-- hex doesn't begin with a quote
hex_no_quote : (x y v w : List ℕ) (l k : Option (List ℕ)) → IsHexWord x v → IsQuoted y w → v ++ left_text l ≡ w ++ left_text k → ⊥
hex_no_quote [] y v w l k p q e = p.1 p.0
hex_no_quote (b ∷ x) y v w l k ((high, low, rest, fits, small, is, value, later), some) (items, each, same) e =
    let begins : high ∷ low ∷ rest ++ left_text l ≡ w ++ left_text k = subst (λ (t : List ℕ). t ++ left_text l ≡ w ++ left_text k) is e in
    let quote = subst (λ (t : List ℕ). high ∷ low ∷ rest ++ left_text l ≡ t ++ left_text k) same begins in
    let head : high ≡ 34 = cc_head quote in
    omega (arith, subst (λ (d : ℕ). digit_value d < 16) head fits)

pub bytes_ends : Ends IsBytes
bytes_ends x y v w l k (inl p) (inl q) e = hex_ends x y v w l k p q e
bytes_ends x y v w l k (inl p) (inr q) e = absurd (hex_no_quote x y v w l k p q e)
bytes_ends x y v w l k (inr p) (inl q) e = absurd (hex_no_quote y x w v k l q p (sym e))
bytes_ends x y v w l k (inr p) (inr q) e = quoted_ends x y v w l k p q e

-- a text in quotes, and what stands behind it
pub text_taken : (old new : Option (List ℕ)) (rest bytes behind : List ℕ) → old ≡ Some rest → quoted_at rest ≡ Some (bytes, behind) → left_text new ≡ behind →
    Takes IsQuoted old (Some bytes) new
text_taken old new rest bytes behind is read ends =
    let found = subst (λ (r : Option (List ℕ × List ℕ)). IfSome r (λ p. (word : List ℕ) × IsQuoted p.0 word × (rest ≡ word ++ p.1))) read (quoted_found rest) in
    (found.0, found.1, ap left_text is ∙ ap (λ t. 32 ∷ t) (found.2 ∙ ap (λ t. found.0 ++ t) (sym ends)))

-- what stands behind it is neither the end nor a space
pub text_runs_on : (old new : Option (List ℕ)) (rest bytes behind : List ℕ) → old ≡ Some rest → quoted_at rest ≡ Some (bytes, behind) →
    ((left : Option (List ℕ)) → left_text left ≢ behind) → Takes IsQuoted old None new
text_runs_on old new rest bytes behind is read goes x word left means e =
    let rest-is : rest ≡ word ++ left_text left = cc_tail (sym (ap left_text is) ∙ e) in
    goes left (same_read x bytes (left_text left) behind (quoted_at rest) (ap quoted_at rest-is ∙ quoted_read x word (left_text left) means) read).1

-- no text in quotes stands there
pub text_none : (old new : Option (List ℕ)) (rest : List ℕ) → old ≡ Some rest → quoted_at rest ≡ None → Takes IsQuoted old None new
text_none old new rest is read x word left means e =
    let rest-is : rest ≡ word ++ left_text left = cc_tail (sym (ap left_text is) ∙ e) in
    let found : quoted_at rest ≡ Some (x, left_text left) = ap quoted_at rest-is ∙ quoted_read x word (left_text left) means in
    cc (sym found ∙ read)

pub nothing_left : {A : Type 0} (Is : A → List ℕ → Type 0) (old new : Option (List ℕ)) → old ≡ None → Takes Is old None new
nothing_left Is old new is x word left means e = cc (sym e ∙ ap left_text is)

hex_begins : (x v rest : List ℕ) (l : Option (List ℕ)) → IsHexWord x v → 34 ∷ rest ≡ v ++ left_text l → ⊥
hex_begins [] v rest l p e = p.1 p.0
hex_begins (b ∷ x) v rest l ((high, low, more, fits, small, is, value, later), some) e =
    let head : 34 ≡ high = cc_head (subst (λ (t : List ℕ). 34 ∷ rest ≡ t ++ left_text l) is e) in
    let small : digit_value 34 < 16 = subst (λ (d : ℕ). digit_value d < 16) (sym head) fits in
    absurd (omega (arith, small))

pub bytes_quoted : (old new : Option (List ℕ)) (r : Option (List ℕ)) → BeginsWithQuote old → Takes IsQuoted old r new → Takes IsBytes old r new
bytes_quoted old new (Some x) begins (word, is, e) = (word, inr is, e)
bytes_quoted None new None begins none = absurd begins
bytes_quoted (Some []) new None begins none = absurd begins
bytes_quoted (Some (b ∷ rest)) new None begins none = λ x word left means e. elim means [
  | inl hex ↦ hex_begins x word rest left hex (ap (λ c. c ∷ rest) (sym begins) ∙ cc_tail e)
  | inr quoted ↦ none x word left quoted e
]

pub begins : (old : Option (List ℕ)) (x word : List ℕ) (left : Option (List ℕ)) → IsQuoted x word → left_text old ≡ 32 ∷ word ++ left_text left → BeginsWithQuote old
begins None x word left means e = cc e
begins (Some []) x word left (items, each, is) e = cc (ap (λ t. t ++ left_text left) (sym is) ∙ sym (cc_tail e))
begins (Some (b ∷ rest)) x word left (items, each, is) e = cc_head (cc_tail e ∙ ap (λ t. t ++ left_text left) is)

pub bytes_hex : (old new : Option (List ℕ)) (r : Option (List ℕ)) → (BeginsWithQuote old → ⊥) → Takes IsHexWord old r new → Takes IsBytes old r new
bytes_hex old new (Some x) other (word, is, e) = (word, inl is, e)
bytes_hex old new None other none = λ x word left means e. elim means [
  | inl hex ↦ none x word left hex e
  | inr quoted ↦ other (begins old x word left quoted e)
]

-- bytes that are at least one
pub some_hex : {V E : Type 0} (view : V → List ℕ) (w : List ℕ) (r : Result (Option V) E) → 0 < length w →
    IfOk r (λ found. Means IsHex w (option_map view found)) → IfOk r (λ found. Means IsHexWord w (option_map view found))
some_hex view w (Err e) some h = tt
some_hex view w (Ok None) some h = λ bytes is. h bytes is.0
some_hex view w (Ok (Some v)) some h = (h, λ none. omega (arith, some, ap (λ (t : List ℕ). length t) none))

-- texts that were found to be one
pub same_text : (v w : List ℕ) → pointwise eqb v w ≡ true → v ≡ w
same_text v w e = (bytes_eq-Decides v w).0 e

-- texts that were told apart
pub other_text : (v w : List ℕ) → pointwise eqb v w ≡ false → v ≡ w → ⊥
other_text [] [] e same = cc e
other_text [] (c ∷ w) e same = cc same
other_text (b ∷ v) [] e same = cc same
other_text (b ∷ v) (c ∷ w) e same =
    let rest : v ≡ w = cc in
    other_text v w (sym (ap (λ t. t && pointwise eqb v w) (eq-eqb b c (cc_head same))) ∙ e) rest
