-- Targets and values, as words of a line: each is told from what stands behind it, and by one meaning.
use Rattle.std.proofs.Common.{◌≡◌, ◌≢◌, ◌<◌, ◌⊎◌, ℕ, ℤ, pos, true, false, List, [], ◌∷◌, ◌++◌, Option, Some, None, option_map, codes, Result, Ok, Err, cond, refl, sym, ap, subst, ◌∙◌, append_assoc, inl, inr, arith}
use Rattle.std.specs.Prelude.{◌==◌}
use Rattle.std.specs.Char.{digit_value}
use Rattle.std.specs.Str.Parse.{AllDigits, digits_value}
use Rattle.std.proofs.lemmas.Bool.{eqb-false, ne_eqb}
use Rattle.hex.specs.Hex.{decode_of}
use Rattle.hex.specs.declared.error.FromHexError.{FromHexError}
use Rattle.pg_types.specs.declared.value.Value.{Value}
use Rattle.pg_types.specs.declared.value.Value.TheVariants as value
use Rattle.pg_spec.specs.SessionText.{IsHex, IsQuoted}
use Rattle.pg_text.specs.SessionText.{IsInt, IsPair, IsSlot, IsTarget, IsTypeName, IsValue, minus}
use Rattle.pg_text.specs.Words.{BeginsWithQuote, IsBareTarget, IsBareValue, IsUtf8Quoted, Means, NoSpace, Takes, left_text}
use Rattle.pg_text.specs.declared.command.CommandTarget.{CommandTarget}
use Rattle.pg_text.specs.declared.command.CommandTarget.TheVariants as target
use Rattle.pg_text.proofs.WordLaws.{Ends, begins, ends_at_space, hex_decodes, hex_no_space, no_space_from, number_ends, number_no_space, quoted_ends}
use Rattle.pg_text.proofs.TypeNames.{type_name_ends}

cc_head : {b c : ℕ} {v w : List ℕ} → b ∷ v ≡ c ∷ w → b ≡ c
cc_head e = cc

cc_tail : {b c : ℕ} {v w : List ℕ} → b ∷ v ≡ c ∷ w → v ≡ w
cc_tail e = cc

-- ---- words of which some are texts, and the others have no space

-- no quote stands at the front
abbrev pub NoQuote : List ℕ → Type 0
NoQuote [] = Unit {0}
NoQuote (b ∷ rest) = b ≢ 34

-- a text in quotes doesn't begin as such a word
apart : (v w y : List ℕ) (l k : Option (List ℕ)) → NoQuote v → IsQuoted y w → v ++ left_text l ≡ w ++ left_text k → ⊥
apart [] w y None k bare (items, each, same) e = cc (e ∙ ap (λ t. t ++ left_text k) same)
apart [] w y (Some rest) k bare (items, each, same) e = eqb-false 32 34 refl (cc_head (e ∙ ap (λ t. t ++ left_text k) same))
apart (b ∷ v) w y l k bare (items, each, same) e = bare (cc_head (e ∙ ap (λ t. t ++ left_text k) same))

-- nor do words that begin with a quote
none_bare : (word rest : List ℕ) (left : Option (List ℕ)) → NoQuote word → 34 ∷ rest ≡ word ++ left_text left → ⊥
none_bare [] rest None bare e = cc e
none_bare [] rest (Some words) bare e = eqb-false 34 32 refl (cc_head e)
none_bare (b ∷ word) rest left bare e = bare (sym (cc_head e))

-- what is a text, and what is bare
pub record IsTextOrBare {A : Type 0} (Is Bare : A → List ℕ → Type 0) (text : List ℕ → A) : Type 0 where
  pub splits : (x : A) (w : List ℕ) → Is x w → Bare x w ⊎ ((t : List ℕ) × (x ≡ text t) × IsUtf8Quoted t w)
  pub bare : (x : A) (w : List ℕ) → Bare x w → Is x w
  pub quoted : (t w : List ℕ) → IsUtf8Quoted t w → Is (text t) w
  pub spaceless : (x : A) (w : List ℕ) → Bare x w → NoSpace w
  pub quoteless : (x : A) (w : List ℕ) → Bare x w → NoQuote w
  pub one : (x y : A) (w : List ℕ) → Bare x w → Bare y w → x ≡ y

module _ {A : Type 0} (Is Bare : A → List ℕ → Type 0) (text : List ℕ → A) (s : IsTextOrBare Is Bare text) where
  pub either_ends : Ends Is
  either_ends x y v w l k p q e = elim (s.splits x v p) [
    | inl a ↦ elim (s.splits y w q) [
      | inl b ↦ ends_at_space Bare s.spaceless s.one x y v w l k a b e
      | inr (t, is, b) ↦ absurd (apart v w t l k (s.quoteless x v a) b.1 e)
    ]
    | inr (t, is, a) ↦ elim (s.splits y w q) [
      | inl b ↦ absurd (apart w v t k l (s.quoteless y w b) a.1 (sym e))
      | inr (u, also, b) ↦
          let same = quoted_ends t u v w l k a.1 b.1 e in
          (is ∙ ap text same.0 ∙ sym also, same.1, same.2)
    ]
  ]

  -- where no quote stands there it is bare
  pub takes_bare : (old new : Option (List ℕ)) (r : Option A) → (BeginsWithQuote old → ⊥) → Takes Bare old r new → Takes Is old r new
  takes_bare old new (Some x) other (word, is, e) = (word, s.bare x word is, e)
  takes_bare old new None other none = λ x word left means e. elim (s.splits x word means) [
    | inl bare ↦ none x word left bare e
    | inr (t, is, quoted) ↦ other (begins old t word left quoted.1 e)
  ]

  -- where a quote stands there it is a text
  pub takes_text : (old new : Option (List ℕ)) (r : Option (List ℕ)) → BeginsWithQuote old → Takes IsUtf8Quoted old r new → Takes Is old (option_map text r) new
  takes_text old new (Some t) at (word, is, e) = (word, s.quoted t word is, e)
  takes_text None new None at none = absurd at
  takes_text (Some []) new None at none = absurd at
  takes_text (Some (b ∷ rest)) new None at none = λ x word left means e. elim (s.splits x word means) [
    | inl bare ↦ none_bare word rest left (s.quoteless x word bare) (ap (λ c. c ∷ rest) (sym at) ∙ cc_tail e)
    | inr (t, is, quoted) ↦ none t word left quoted e
  ]

-- ---- slots

pub slot_no_space : (slot : ℕ) (w : List ℕ) → IsSlot slot w → NoSpace w
slot_no_space slot w (digits, number, is) = subst NoSpace (sym is) (eqb-false 64 32 refl, number_no_space 18446744073709551615 slot digits number)

one_slot : (x y : ℕ) (w : List ℕ) → IsSlot x w → IsSlot y w → x ≡ y
one_slot x y w (digits, number, is) (others, also, same) =
    (number_ends 18446744073709551615 x y digits others None None number also (ap (λ t. t ++ []) (cc_tail (sym is ∙ same)))).0

pub slot_ends : Ends IsSlot
slot_ends = ends_at_space IsSlot slot_no_space one_slot

-- ---- targets

target_parts : IsTextOrBare IsTarget IsBareTarget (λ t. target.Text t)
target_parts = record {
  splits = splits;
  bare = bare;
  quoted = λ t w is. is;
  spaceless = spaceless;
  quoteless = quoteless;
  one = one;
}
  where
    splits : (x : CommandTarget) (w : List ℕ) → IsTarget x w → IsBareTarget x w ⊎ ((t : List ℕ) × (x ≡ target.Text t) × IsUtf8Quoted t w)
    splits (target.Slot slot) w is = inl is
    splits (target.Text t) w is = inr (t, refl, is)

    bare : (x : CommandTarget) (w : List ℕ) → IsBareTarget x w → IsTarget x w
    bare (target.Slot slot) w is = is
    bare (target.Text t) w is = absurd is

    spaceless : (x : CommandTarget) (w : List ℕ) → IsBareTarget x w → NoSpace w
    spaceless (target.Slot slot) w is = slot_no_space slot w is
    spaceless (target.Text t) w is = absurd is

    quoteless : (x : CommandTarget) (w : List ℕ) → IsBareTarget x w → NoQuote w
    quoteless (target.Slot slot) w (digits, number, is) = subst NoQuote (sym is) (eqb-false 64 34 refl)
    quoteless (target.Text t) w is = absurd is

    one : (x y : CommandTarget) (w : List ℕ) → IsBareTarget x w → IsBareTarget y w → x ≡ y
    one (target.Slot x) (target.Slot y) w p q = ap (λ n. target.Slot n) (one_slot x y w p q)
    one (target.Slot x) (target.Text t) w p q = absurd q
    one (target.Text t) y w p q = absurd p

pub target_ends : Ends IsTarget
target_ends = either_ends IsTarget IsBareTarget (λ t. target.Text t) target_parts

pub bare_target : (old new : Option (List ℕ)) (r : Option CommandTarget) → (BeginsWithQuote old → ⊥) → Takes IsBareTarget old r new → Takes IsTarget old r new
bare_target = takes_bare IsTarget IsBareTarget (λ t. target.Text t) target_parts

pub text_target : (old new : Option (List ℕ)) (r : Option (List ℕ)) → BeginsWithQuote old → Takes IsUtf8Quoted old r new → Takes IsTarget old (option_map (λ t. target.Text t) r) new
text_target = takes_text IsTarget IsBareTarget (λ t. target.Text t) target_parts

no_slot : (old new : Option (List ℕ)) → Takes IsSlot old None new → (x : CommandTarget) (word : List ℕ) (left : Option (List ℕ)) → IsBareTarget x word → left_text old ≡ 32 ∷ word ++ left_text left → ⊥
no_slot old new none (target.Slot n) word left is e = none n word left is e
no_slot old new none (target.Text t) word left is e = absurd is

-- a slot that was taken is a target
pub slot_target : (old new : Option (List ℕ)) (r : Option ℕ) → Takes IsSlot old r new → Takes IsBareTarget old (option_map (λ n. target.Slot n) r) new
slot_target old new (Some n) taken = taken
slot_target old new None none = no_slot old new none

-- ---- values

-- a byte at the front of digits is one
digits_begin : (b : ℕ) (ds rest : List ℕ) → AllDigits 10 ds → ds ≡ b ∷ rest → digit_value b < 10
digits_begin b [] rest h e = absurd cc
digits_begin b (c ∷ ds) rest h e = subst (λ (d : ℕ). digit_value d < 10) (cc_head e) h.0

digits_no_minus : (ds rest : List ℕ) → AllDigits 10 ds → ds ≡ 45 ∷ rest → ⊥
digits_no_minus ds rest h e = let small : digit_value 45 < 10 = digits_begin 45 ds rest h e in omega (arith, small)

digits_no_quote : (ds : List ℕ) → AllDigits 10 ds → NoQuote ds
digits_no_quote [] h = tt
digits_no_quote (c ∷ ds) h = λ e. let small : digit_value 34 < 10 = subst (λ (d : ℕ). digit_value d < 10) e h.0 in omega (arith, small)

int_no_space : (z : ℤ) (w : List ℕ) → IsInt z w → NoSpace w
int_no_space z w (inl (n, number, is)) = number_no_space 9223372036854775807 n w number
int_no_space z w (inr (n, digits, number, is, below)) = subst NoSpace (sym is) (eqb-false 45 32 refl, number_no_space 9223372036854775808 n digits number)

int_no_quote : (z : ℤ) (w : List ℕ) → IsInt z w → NoQuote w
int_no_quote z w (inl (n, number, is)) = digits_no_quote w number.0.1
int_no_quote z w (inr (n, digits, number, is, below)) = subst NoQuote (sym is) (eqb-false 45 34 refl)

-- an integer doesn't begin as bytes do
int_no_x : (z : ℤ) (w digits : List ℕ) → IsInt z w → w ≡ 120 ∷ digits → ⊥
int_no_x z w digits (inl (n, number, same)) e = let small : digit_value 120 < 10 = digits_begin 120 w digits number.0.1 e in omega (arith, small)
int_no_x z w digits (inr (n, others, number, is, below)) e = eqb-false 45 120 refl (cc_head (sym is ∙ e))

-- bytes that hex was read as
bytes_read : Result (List ℕ) FromHexError → Value
bytes_read (Ok bytes) = value.Bytes bytes
bytes_read (Err fault) = value.Null

-- the value that a word can be, by its first byte
value_at : List ℕ → Value
value_at [] = value.Int (pos 0)
value_at (b ∷ w) =
    cond (b == 110) value.Null (cond (b == 116) (value.Bool true) (cond (b == 102) (value.Bool false)
    (cond (b == 120) (bytes_read (decode_of w)) (cond (b == 45) (value.Int (minus (digits_value 10 w))) (value.Int (pos (digits_value 10 (b ∷ w))))))))

no_digit : (c b : ℕ) → (digit_value b < 10 → ⊥) → digit_value c < 10 → (c == b) ≡ false
no_digit c b other small = ne_eqb c b (λ e. other (subst (λ (d : ℕ). digit_value d < 10) e small))

whole_at : (n : ℕ) (w : List ℕ) → AllDigits 10 w → digits_value 10 w ≡ n → value_at w ≡ value.Int (pos n)
unfolding value_at
whole_at n [] h e = ap (λ m. value.Int (pos m)) e
whole_at n (c ∷ w) h e =
    rw (
      no_digit c 110 (λ (s : digit_value 110 < 10). omega (arith, s)) h.0,
      no_digit c 116 (λ (s : digit_value 116 < 10). omega (arith, s)) h.0,
      no_digit c 102 (λ (s : digit_value 102 < 10). omega (arith, s)) h.0,
      no_digit c 120 (λ (s : digit_value 120 < 10). omega (arith, s)) h.0,
      no_digit c 45 (λ (s : digit_value 45 < 10). omega (arith, s)) h.0,
    )
    (ap (λ m. value.Int (pos m)) e)

value_is : (x : Value) (w : List ℕ) → IsBareValue x w → value_at w ≡ x
unfolding value_at bytes_read
value_is value.Null w is = ap value_at is
value_is (value.Bool true) w is = ap value_at is
value_is (value.Bool false) w is = ap value_at is
value_is (value.Int z) w (inl (n, number, is)) = whole_at n w number.0.1 number.1 ∙ ap (λ y. value.Int y) (sym is)
value_is (value.Int z) w (inr (n, digits, number, is, below)) = ap value_at is ∙ ap (λ m. value.Int (minus m)) number.1 ∙ ap (λ y. value.Int y) (sym below)
value_is (value.Bytes bytes) w (digits, hex, is) = ap value_at is ∙ ap bytes_read (hex_decodes bytes digits hex)
value_is (value.Text t) w is = absurd is

one_value : (x y : Value) (w : List ℕ) → IsBareValue x w → IsBareValue y w → x ≡ y
one_value x y w p q = sym (value_is x w p) ∙ value_is y w q

value_parts : IsTextOrBare IsValue IsBareValue (λ t. value.Text t)
value_parts = record {
  splits = splits;
  bare = bare;
  quoted = λ t w is. is;
  spaceless = spaceless;
  quoteless = quoteless;
  one = one_value;
}
  where
    splits : (x : Value) (w : List ℕ) → IsValue x w → IsBareValue x w ⊎ ((t : List ℕ) × (x ≡ value.Text t) × IsUtf8Quoted t w)
    splits (value.Text t) w is = inr (t, refl, is)
    splits value.Null w is = inl is
    splits (value.Bool b) w is = inl is
    splits (value.Int z) w is = inl is
    splits (value.Bytes bytes) w is = inl is

    bare : (x : Value) (w : List ℕ) → IsBareValue x w → IsValue x w
    bare (value.Text t) w is = absurd is
    bare value.Null w is = is
    bare (value.Bool b) w is = is
    bare (value.Int z) w is = is
    bare (value.Bytes bytes) w is = is

    spaceless : (x : Value) (w : List ℕ) → IsBareValue x w → NoSpace w
    spaceless value.Null w is = subst NoSpace (sym is) (no_space_from (codes "null") refl)
    spaceless (value.Bool true) w is = subst NoSpace (sym is) (no_space_from (codes "true") refl)
    spaceless (value.Bool false) w is = subst NoSpace (sym is) (no_space_from (codes "false") refl)
    spaceless (value.Int z) w is = int_no_space z w is
    spaceless (value.Bytes bytes) w (digits, hex, is) = subst NoSpace (sym is) (eqb-false 120 32 refl, hex_no_space bytes digits hex)
    spaceless (value.Text t) w is = absurd is

    quoteless : (x : Value) (w : List ℕ) → IsBareValue x w → NoQuote w
    quoteless value.Null w is = subst NoQuote (sym is) (eqb-false 110 34 refl)
    quoteless (value.Bool true) w is = subst NoQuote (sym is) (eqb-false 116 34 refl)
    quoteless (value.Bool false) w is = subst NoQuote (sym is) (eqb-false 102 34 refl)
    quoteless (value.Int z) w is = int_no_quote z w is
    quoteless (value.Bytes bytes) w (digits, hex, is) = subst NoQuote (sym is) (eqb-false 120 34 refl)
    quoteless (value.Text t) w is = absurd is

pub value_ends : Ends IsValue
value_ends = either_ends IsValue IsBareValue (λ t. value.Text t) value_parts

pub bare_value : (old new : Option (List ℕ)) (r : Option Value) → (BeginsWithQuote old → ⊥) → Takes IsBareValue old r new → Takes IsValue old r new
bare_value = takes_bare IsValue IsBareValue (λ t. value.Text t) value_parts

pub text_value : (old new : Option (List ℕ)) (r : Option (List ℕ)) → BeginsWithQuote old → Takes IsUtf8Quoted old r new → Takes IsValue old (option_map (λ t. value.Text t) r) new
text_value = takes_text IsValue IsBareValue (λ t. value.Text t) value_parts

pub bare_no_space : (x : Value) (w : List ℕ) → IsBareValue x w → NoSpace w
bare_no_space = value_parts.spaceless

-- ---- values that aren't texts

no_bytes : (w digits : List ℕ) → w ≡ 120 ∷ digits → Means IsHex digits None → (x : Value) → IsBareValue x w → ⊥
no_bytes w digits is none value.Null same = eqb-false 110 120 refl (cc_head (sym same ∙ is))
no_bytes w digits is none (value.Bool true) same = eqb-false 116 120 refl (cc_head (sym same ∙ is))
no_bytes w digits is none (value.Bool false) same = eqb-false 102 120 refl (cc_head (sym same ∙ is))
no_bytes w digits is none (value.Int z) int = int_no_x z w digits int is
no_bytes w digits is none (value.Bytes bytes) (others, hex, same) = none bytes (subst (λ (t : List ℕ). IsHex bytes t) (cc_tail (sym same ∙ is)) hex)
no_bytes w digits is none (value.Text t) text = absurd text

-- bytes in hex behind an `x`
pub bytes_mean : (w digits : List ℕ) (r : Option (List ℕ)) → w ≡ 120 ∷ digits → Means IsHex digits r → Means IsBareValue w (option_map (λ bytes. value.Bytes bytes) r)
bytes_mean w digits (Some bytes) is hex = (digits, hex, is)
bytes_mean w digits None is none = no_bytes w digits is none

-- neither a word nor bytes nor an integer
pub no_value : (w : List ℕ) → w ≢ codes "null" → w ≢ codes "true" → w ≢ codes "false" → ((digits : List ℕ) → w ≡ 120 ∷ digits → ⊥) → Means IsInt w None → (x : Value) → IsBareValue x w → ⊥
no_value w other-null other-true other-false other-bytes none value.Null is = other-null is
no_value w other-null other-true other-false other-bytes none (value.Bool true) is = other-true is
no_value w other-null other-true other-false other-bytes none (value.Bool false) is = other-false is
no_value w other-null other-true other-false other-bytes none (value.Int z) is = none z is
no_value w other-null other-true other-false other-bytes none (value.Bytes bytes) (digits, hex, is) = other-bytes digits is
no_value w other-null other-true other-false other-bytes none (value.Text t) is = is

-- ---- types and values by turns

pub pair_ends : Ends IsPair
pair_ends (x, v) (y, u) a b l k (n, w, named, valued, is) (m, z, named', valued', also) e =
    let both : n ++ left_text (Some (w ++ left_text l)) ≡ m ++ left_text (Some (z ++ left_text k)) =
    sym (append_assoc n (32 ∷ w) (left_text l)) ∙ ap (λ t. t ++ left_text l) (sym is) ∙ e ∙ ap (λ t. t ++ left_text k) also ∙ append_assoc m (32 ∷ z) (left_text k) in
    let first = type_name_ends x y n m (Some (w ++ left_text l)) (Some (z ++ left_text k)) named named' both in
    let second = value_ends v u w z l k valued valued' (cc_tail (ap left_text first.2)) in
    ((λ i. (first.0 i, second.0 i)), is ∙ (λ i. first.1 i ++ 32 ∷ second.1 i) ∙ sym also, second.2)

-- behind the name of a type its value stands
pair_front : (old : Option (List ℕ)) (name word spelled : List ℕ) (left : Option (List ℕ)) → spelled ≡ name ++ 32 ∷ word → left_text old ≡ 32 ∷ spelled ++ left_text left →
    left_text old ≡ 32 ∷ name ++ left_text (Some (word ++ left_text left))
pair_front old name word spelled left is e = e ∙ ap (λ t. 32 ∷ t ++ left_text left) is ∙ ap (λ t. 32 ∷ t) (append_assoc name (32 ∷ word) (left_text left))

pub pair_nameless : (old new : Option (List ℕ)) → Takes IsTypeName old None new → Takes IsPair old None new
pair_nameless old new none (y, u) spelled left (name, word, named, valued, is) e = none y name (Some (word ++ left_text left)) named (pair_front old name word spelled left is e)

pub pair_valueless : (old mid new : Option (List ℕ)) (x : ℕ) → Takes IsTypeName old (Some x) mid → Takes IsValue mid None new → Takes IsPair old None new
pair_valueless old mid new x taken none (y, u) spelled left (name, word, named, valued, is) e =
    let same = type_name_ends x y taken.0 name mid (Some (word ++ left_text left)) taken.1 named (cc_tail (sym taken.2 ∙ pair_front old name word spelled left is e)) in
    none u word left valued (ap left_text same.2)

pub pair_some : (old mid new : Option (List ℕ)) (x : ℕ) (v : Value) → Takes IsTypeName old (Some x) mid → Takes IsValue mid (Some v) new → Takes IsPair old (Some (x, v)) new
pair_some old mid new x v taken valued = (
  taken.0 ++ 32 ∷ valued.0,
  (taken.0, valued.0, taken.1, valued.1, refl),
  taken.2 ∙ ap (λ t. 32 ∷ taken.0 ++ t) valued.2 ∙ ap (λ t. 32 ∷ t) (sym (append_assoc taken.0 (32 ∷ valued.0) (left_text new))),
)
