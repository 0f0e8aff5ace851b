-- A text in quotes is read as it is spelled.
use Rattle.std.proofs.Common.{◌≡◌, ◌≢◌, ◌<◌, ◌+◌, ◌*◌, ◌⊎◌, ◌||◌, ◌==◌, ℕ, true, false, List, [], ◌∷◌, ◌++◌, Option, Some, None, IfSome, refl, sym, ap, subst, ◌∙◌, append_assoc, inl, inr, nat_lt, ltb-true, lt-ltb, eqb-true, ne_eqb}
use Rattle.std.proofs.lemmas.Bool.{cond_both, eqb-false, cond-true, cond-false}
use Rattle.std.specs.List.{AllZip, concat}
use Rattle.std.specs.Char.{digit_value}
use Rattle.pg_spec.specs.SessionText.{IsQuotedByte, IsQuoted}
use Rattle.pg_text.specs.declared.quoted.Inside.{Inside}
use Rattle.pg_text.specs.declared.quoted.Inside.TheVariants.{Plain, Escape, High, Low}
use Rattle.pg_text.specs.declared.quoted.Next.{Next}
use Rattle.pg_text.specs.declared.quoted.Next.TheVariants.{Byte, Goes, End, Broken}
use Rattle.pg_text.specs.Quotes.{hex_value, with_digit, next_of, in_front, inside_at, quoted_at}

-- what is read where the next byte is this one
abbrev walks : List ℕ → Next → Option (List ℕ × List ℕ)
walks rest (Byte value) = in_front (value ∷ []) (inside_at Plain rest)
walks rest (Goes on) = inside_at on rest
walks rest End = Some ([], rest)
walks rest Broken = None

-- what stands in front of the reader in the spelling of the next byte
abbrev Before : Inside → List ℕ → Type 0
Before Plain pre = pre ≡ []
Before Escape pre = pre ≡ 92 ∷ []
Before High pre = pre ≡ 92 ∷ 120 ∷ []
Before (Low value) pre = (high : ℕ) × (digit_value high ≡ value) × (value < 16) × (pre ≡ 92 ∷ 120 ∷ high ∷ [])

-- what a byte behind it is
abbrev NextIs : List ℕ → ℕ → Next → Type 0
NextIs pre b (Byte value) = IsQuotedByte value (pre ++ b ∷ [])
NextIs pre b (Goes on) = Before on (pre ++ b ∷ [])
NextIs pre b End = (pre ≡ []) × (b ≡ 34)
NextIs pre b Broken = Unit {0}

hex_value_both : (b : ℕ) (P : Option ℕ → Type 0) → (digit_value b < 16 → P (Some (digit_value b))) → P None → P (hex_value b)
hex_value_both b P digit other = cond_both (nat_lt (digit_value b) 16) _ _ P (λ e. digit (ltb-true _ _ e)) (λ e. other)

one_of : (b : ℕ) → (b == 34 || b == 92) ≡ true → (b ≡ 34) ⊎ (b ≡ 92)
one_of b =
    elim (b == 34) as (λ t. (b == 34) ≡ t → (t || b == 92) ≡ true → (b ≡ 34) ⊎ (b ≡ 92)) [
      | true ↦ λ e h. inl (eqb-true b 34 e)
      | false ↦ λ e h. inr (eqb-true b 92 h)
    ] refl

plain_is : (b : ℕ) → NextIs [] b (next_of Plain b)
plain_is b = cond_both (b == 34) _ _ (NextIs [] b) (λ e. (refl, eqb-true b 34 e)) (λ quote.
    cond_both (b == 92) _ _ (NextIs [] b) (λ e. ap (λ x. x ∷ []) (eqb-true b 92 e)) (λ slash.
    cond_both (b == 10) _ _ (NextIs [] b) (λ e. tt) (λ feed. inl (refl, eqb-false b 34 quote, eqb-false b 92 slash, eqb-false b 10 feed))))

escape_is : (b : ℕ) → NextIs (92 ∷ []) b (next_of Escape b)
escape_is b = cond_both (b == 34 || b == 92) _ _ (NextIs (92 ∷ []) b) (λ e. inr (inl (refl, one_of b e))) (λ other.
    cond_both (b == 120) _ _ (NextIs (92 ∷ []) b) (λ e. ap (λ x. 92 ∷ x ∷ []) (eqb-true b 120 e)) (λ e. tt))

high_is : (b : ℕ) → NextIs (92 ∷ 120 ∷ []) b (next_of High b)
high_is b = hex_value_both b (λ v. NextIs (92 ∷ 120 ∷ []) b (with_digit (λ value. Goes (Low value)) v)) (λ small. (b, refl, small, refl)) tt

low_is : (high b : ℕ) → digit_value high < 16 → NextIs (92 ∷ 120 ∷ high ∷ []) b (next_of (Low (digit_value high)) b)
low_is high b fits =
    hex_value_both b (λ v. NextIs (92 ∷ 120 ∷ high ∷ []) b (with_digit (λ value. Byte (16 * digit_value high + value)) v))
    (λ small. inr (inr (high, b, fits, small, refl, refl))) tt

next_is : (state : Inside) (pre : List ℕ) (b : ℕ) → Before state pre → NextIs pre b (next_of state b)
next_is Plain pre b is = subst (λ (p : List ℕ). NextIs p b (next_of Plain b)) (sym is) (plain_is b)
next_is Escape pre b is = subst (λ (p : List ℕ). NextIs p b (next_of Escape b)) (sym is) (escape_is b)
next_is High pre b is = subst (λ (p : List ℕ). NextIs p b (next_of High b)) (sym is) (high_is b)
next_is (Low value) pre b (high, same, fits, is) =
    subst (λ (p : List ℕ). NextIs p b (next_of (Low value) b)) (sym is)
    (subst (λ (v : ℕ). NextIs (92 ∷ 120 ∷ high ∷ []) b (next_of (Low v) b)) same (low_is high b (subst (λ (v : ℕ). v < 16) (sym same) fits)))

-- the spelling of a text, with the closing quote, and what stands behind it
record Spelled (spelled text rest : List ℕ) : Type 0 where
  items : List (List ℕ)
  each : AllZip IsQuotedByte text items
  same : spelled ≡ concat items ++ (34 ∷ rest)

byte_more : (pre s : List ℕ) (b value : ℕ) (read : Option (List ℕ × List ℕ)) → IsQuotedByte value (pre ++ b ∷ []) →
    IfSome read (λ r. Spelled s r.0 r.1) → IfSome (in_front (value ∷ []) read) (λ r. Spelled (pre ++ (b ∷ s)) r.0 r.1)
byte_more pre s b value None is later = tt
byte_more pre s b value (Some r) is later = record {
  items = (pre ++ b ∷ []) ∷ later.items;
  each = (is, later.each);
  same = rw (later.same, append_assoc) (rw append_assoc refl);
}

regroup : (pre s : List ℕ) (b : ℕ) (read : Option (List ℕ × List ℕ)) →
    IfSome read (λ r. Spelled ((pre ++ b ∷ []) ++ s) r.0 r.1) → IfSome read (λ r. Spelled (pre ++ (b ∷ s)) r.0 r.1)
regroup pre s b read h = subst (λ (l : List ℕ). IfSome read (λ r. Spelled l r.0 r.1)) (append_assoc pre (b ∷ []) s) h

-- what is read is spelled so
sound : (state : Inside) (pre s : List ℕ) → Before state pre → IfSome (inside_at state s) (λ r. Spelled (pre ++ s) r.0 r.1)
sound state pre [] is = tt
sound state pre (b ∷ s) is =
    elim (next_of state b) as (λ n. NextIs pre b n → IfSome (walks s n) (λ r. Spelled (pre ++ (b ∷ s)) r.0 r.1)) [
      | Byte value ↦ λ q. byte_more pre s b value (inside_at Plain s) q (sound Plain [] s refl)
      | Goes on ↦ λ q. regroup pre s b (inside_at on s) (sound on (pre ++ b ∷ []) s q)
      | End ↦ λ q. record { items = []; each = tt; same = rw (q.0, q.1) refl }
      | Broken ↦ λ q. tt
    ] (next_is state pre b is)

plain_next : (b : ℕ) → b ≢ 34 → b ≢ 92 → b ≢ 10 → next_of Plain b ≡ Byte b
plain_next b quote slash feed =
    cond-false (b == 34) _ _ (ne_eqb b 34 quote) ∙ cond-false (b == 92) _ _ (ne_eqb b 92 slash) ∙ cond-false (b == 10) _ _ (ne_eqb b 10 feed)

hex_value_some : (digit : ℕ) → digit_value digit < 16 → hex_value digit ≡ Some (digit_value digit)
hex_value_some digit small = cond-true (nat_lt (digit_value digit) 16) _ _ (lt-ltb _ _ small)

-- a byte that is spelled so is read
byte_read : (b : ℕ) (item more : List ℕ) → IsQuotedByte b item → inside_at Plain (item ++ more) ≡ in_front (b ∷ []) (inside_at Plain more)
byte_read b item more (inl (is, quote, slash, feed)) = rw is (ap (walks more) (plain_next b quote slash feed))
byte_read b item more (inr (inl (is, inl q))) = rw (is, q) refl
byte_read b item more (inr (inl (is, inr q))) = rw (is, q) refl
byte_read b item more (inr (inr (high, low, fits, small, is, value))) =
    rw (is, value) (
    ap (λ v. walks (low ∷ more) (with_digit (λ (value : ℕ). Goes (Low value)) v)) (hex_value_some high fits)
    ∙ ap (λ v. walks more (with_digit (λ (value : ℕ). Byte (16 * digit_value high + value)) v)) (hex_value_some low small))

complete : (text : List ℕ) (items : List (List ℕ)) (rest : List ℕ) → AllZip IsQuotedByte text items → inside_at Plain (concat items ++ (34 ∷ rest)) ≡ Some (text, rest)
complete [] [] rest each = refl
complete [] (item ∷ items) rest each = absurd each
complete (b ∷ text) [] rest each = absurd each
complete (b ∷ text) (item ∷ items) rest each =
    rw (append_assoc, byte_read b item (concat items ++ (34 ∷ rest)) each.0, complete text items rest each.1) refl

whole : (b : ℕ) (s : List ℕ) → b ≡ 34 → (read : Option (List ℕ × List ℕ)) → IfSome read (λ r. Spelled s r.0 r.1) →
    IfSome read (λ r. (word : List ℕ) × IsQuoted r.0 word × (b ∷ s ≡ word ++ r.1))
whole b s e None h = tt
whole b s e (Some r) h = (34 ∷ (concat h.items ++ 34 ∷ []), (h.items, h.each, refl), rw (e, h.same, append_assoc) refl)

-- a text in quotes stands in front, and this is what stands behind it
pub quoted_found : (s : List ℕ) → IfSome (quoted_at s) (λ r. (word : List ℕ) × IsQuoted r.0 word × (s ≡ word ++ r.1))
quoted_found [] = tt
quoted_found (b ∷ s) =
    cond_both (b == 34) (inside_at Plain s) None (λ read. IfSome read (λ r. (word : List ℕ) × IsQuoted r.0 word × (b ∷ s ≡ word ++ r.1)))
    (λ e. whole b s (eqb-true b 34 e) (inside_at Plain s) (sound Plain [] s refl)) (λ e. tt)

-- a text in quotes that stands in front is read
pub quoted_read : (text word rest : List ℕ) → IsQuoted text word → quoted_at (word ++ rest) ≡ Some (text, rest)
quoted_read text word rest (items, each, is) =
    subst (λ (w : List ℕ). quoted_at (w ++ rest) ≡ Some (text, rest)) (sym is)
    (ap (inside_at Plain) (append_assoc (concat items) (34 ∷ []) rest) ∙ complete text items rest each)
