-- Runs and values as they are read are what is written.
use Rattle.std.proofs.Common.{◌≡◌, ◌⊎◌, inl, inr, ◌==◌, ◌&&◌, not, ℕ, Bool, true, false, cond, List, [], ◌∷◌, ◌++◌, refl, sym, ap, subst, ◌∙◌, append_assoc, eqb-true, ne_eqb}
use Rattle.std.proofs.lemmas.Bool.{eqb-false}
use Rattle.std.specs.Char.{encode_utf8}
use Rattle.std.specs.List.{AllByRecursion}
use Rattle.pg_config.specs.KeyValue.{Escaped, IsItem, Item, Plain, ends_value, items_bytes, items_text}
use Rattle.pg_config.specs.KeyValueReading.{Value, behind_while, front_while, in_value, value_at}
use Rattle.pg_config.proofs.Runs.{after_bytes}

-- what a test of two cases gives
pub by_cases : {A : Type 0} (b : Bool) → (b ≡ true → A) → (b ≡ false → A) → A
by_cases true hit miss = hit refl
by_cases false hit miss = miss refl

pub true_or_not : (a b : Bool) → (not a && not b) ≡ true → (a ≡ false) × (b ≡ false)
true_or_not true b e = absurd cc
true_or_not false true e = absurd cc
true_or_not false false e = (refl, refl)

pub first_or_second : (a b : Bool) → (not a && not b) ≡ false → a ≡ false → b ≡ true
first_or_second true b e miss = absurd cc
first_or_second false true e miss = refl
first_or_second false false e miss = absurd cc

-- ---- runs

-- nothing, or a character first that the test refuses
abbrev pub Stops : (ℕ → Bool) → List ℕ → Type 0
Stops p [] = Unit {0}
Stops p (c ∷ rest) = p c ≡ false

abbrev pub AllAre : (ℕ → Bool) → List ℕ → Type 0
AllAre p run = AllByRecursion (λ c. p c ≡ true) run

pub front_run : (p : ℕ → Bool) (run rest : List ℕ) → AllAre p run → Stops p rest → front_while p (run ++ rest) ≡ run
front_run p [] [] all stops = refl
front_run p [] (c ∷ rest) all stops = ap (λ t. cond t (c ∷ front_while p rest) []) stops
front_run p (c ∷ run) rest all stops =
    ap (λ t. cond t (c ∷ front_while p (run ++ rest)) []) all.0 ∙ ap (λ t. c ∷ t) (front_run p run rest all.1 stops)

pub behind_run : (p : ℕ → Bool) (run rest : List ℕ) → AllAre p run → Stops p rest → behind_while p (run ++ rest) ≡ rest
behind_run p [] [] all stops = refl
behind_run p [] (c ∷ rest) all stops = ap (λ t. cond t (behind_while p rest) (c ∷ rest)) stops
behind_run p (c ∷ run) rest all stops =
    ap (λ t. cond t (behind_while p (run ++ rest)) (c ∷ (run ++ rest))) all.0 ∙ behind_run p run rest all.1 stops

pub run_split : (p : ℕ → Bool) (text : List ℕ) → text ≡ front_while p text ++ behind_while p text
run_split p [] = refl
run_split p (c ∷ text) = by_cases (p c)
    (λ hit. ap (λ t. c ∷ t) (run_split p text)
    ∙ sym (ap (λ t. cond t (c ∷ front_while p text) [] ++ cond t (behind_while p text) (c ∷ text)) hit))
    (λ miss. sym (ap (λ t. cond t (c ∷ front_while p text) [] ++ cond t (behind_while p text) (c ∷ text)) miss))

pub run_all : (p : ℕ → Bool) (text : List ℕ) → AllAre p (front_while p text)
run_all p [] = tt
run_all p (c ∷ text) = by_cases (p c)
    (λ hit. subst (AllAre p) (sym (ap (λ t. cond t (c ∷ front_while p text) []) hit)) (hit, run_all p text))
    (λ miss. subst (AllAre p) (sym (ap (λ t. cond t (c ∷ front_while p text) []) miss)) tt)

pub run_stops : (p : ℕ → Bool) (text : List ℕ) → Stops p (behind_while p text)
run_stops p [] = tt
run_stops p (c ∷ text) = by_cases (p c)
    (λ hit. subst (Stops p) (sym (ap (λ t. cond t (behind_while p text) (c ∷ text)) hit)) (run_stops p text))
    (λ miss. subst (Stops p) (sym (ap (λ t. cond t (behind_while p text) (c ∷ text)) miss)) miss)

-- ---- values

quotes_go_on : (quoted : Bool) → ends_value quoted 92 ≡ false
quotes_go_on true = refl
quotes_go_on false = refl

in_more : (c : ℕ) (bytes : List ℕ) (v : Value) → in_value c (after_bytes bytes v) ≡ after_bytes (encode_utf8 c ++ bytes) v
in_more c bytes v = ap (λ t. record { bytes = t; behind = v.behind }) (sym (append_assoc (encode_utf8 c) bytes v.bytes))

escape_read : (quoted : Bool) (c : ℕ) (rest : List ℕ) → value_at quoted false (92 ∷ c ∷ rest) ≡ in_value c (value_at quoted false rest)
escape_read quoted c rest =
    ap (λ t. cond t (record { bytes = []; behind = 92 ∷ c ∷ rest }) (in_value c (value_at quoted false rest))) (quotes_go_on quoted)

plain_read : (quoted : Bool) (c : ℕ) (rest : List ℕ) → ends_value quoted c ≡ false → (c == 92) ≡ false → value_at quoted false (c ∷ rest) ≡ in_value c (value_at quoted false rest)
plain_read quoted c rest goes_on plain =
    ap (λ t. cond t (record { bytes = []; behind = c ∷ rest }) (cond (c == 92) (value_at quoted true rest) (in_value c (value_at quoted false rest)))) goes_on
    ∙ ap (λ t. cond t (value_at quoted true rest) (in_value c (value_at quoted false rest))) plain

-- items are read as what they stand for
pub items_read : (quoted : Bool) (items : List Item) (tail : List ℕ) → AllByRecursion (IsItem quoted) items →
    value_at quoted false (items_text items ++ tail) ≡ after_bytes (items_bytes items) (value_at quoted false tail)
items_read quoted [] tail each = refl
items_read quoted (Plain c ∷ items) tail each =
    plain_read quoted c (items_text items ++ tail) each.0.0 (ne_eqb c 92 each.0.1)
    ∙ ap (in_value c) (items_read quoted items tail each.1)
    ∙ in_more c (items_bytes items) (value_at quoted false tail)
items_read quoted (Escaped c ∷ items) tail each =
    escape_read quoted c (items_text items ++ tail)
    ∙ ap (in_value c) (items_read quoted items tail each.1)
    ∙ in_more c (items_bytes items) (value_at quoted false tail)

-- nothing, or what ends a value first
abbrev pub EndsThere : (quoted : Bool) → List ℕ → Type 0
EndsThere quoted [] = Unit {0}
EndsThere quoted (c ∷ rest) = ends_value quoted c ≡ true

pub end_read : (quoted : Bool) (tail : List ℕ) → EndsThere quoted tail → value_at quoted false tail ≡ record { bytes = []; behind = tail }
end_read quoted [] ends = refl
end_read quoted (c ∷ tail) ends =
    ap (λ t. cond t (record { bytes = []; behind = c ∷ tail }) (cond (c == 92) (value_at quoted true tail) (in_value c (value_at quoted false tail)))) ends

pub cut_read : (quoted : Bool) → value_at quoted false (92 ∷ []) ≡ record { bytes = []; behind = [] }
cut_read quoted = ap (λ t. cond t (record { bytes = []; behind = 92 ∷ [] }) (record { bytes = []; behind = [] })) (quotes_go_on quoted)

-- what is read is written: items, and then what ends the value, or a backslash at the end
pub record IsReadAs (quoted : Bool) (text : List ℕ) (value : Value) : Type 0 where
  pub items : List Item
  pub each : AllByRecursion (IsItem quoted) items
  pub bytes : value.bytes ≡ items_bytes items
  pub ends : ((text ≡ items_text items ++ value.behind) × EndsThere quoted value.behind)
      ⊎ ((text ≡ items_text items ++ 92 ∷ []) × (value.behind ≡ []))

more_ends : (quoted : Bool) (front text : List ℕ) (items : List Item) (behind : List ℕ) →
    ((text ≡ items_text items ++ behind) × EndsThere quoted behind) ⊎ ((text ≡ items_text items ++ 92 ∷ []) × (behind ≡ [])) →
    ((front ++ text ≡ front ++ items_text items ++ behind) × EndsThere quoted behind) ⊎ ((front ++ text ≡ front ++ items_text items ++ 92 ∷ []) × (behind ≡ []))
more_ends quoted front text items behind (inl h) = inl (ap (λ t. front ++ t) h.0 ∙ sym (append_assoc front (items_text items) behind), h.1)
more_ends quoted front text items behind (inr h) = inr (ap (λ t. front ++ t) h.0 ∙ sym (append_assoc front (items_text items) (92 ∷ [])), h.1)

plain_written : (quoted : Bool) (c : ℕ) (rest : List ℕ) → ends_value quoted c ≡ false → (c == 92) ≡ false →
    IsReadAs quoted rest (value_at quoted false rest) → IsReadAs quoted (c ∷ rest) (value_at quoted false (c ∷ rest))
plain_written quoted c rest goes_on plain r =
    subst (IsReadAs quoted (c ∷ rest)) (sym (plain_read quoted c rest goes_on plain)) (record {
      items = Plain c ∷ r.items;
      each = ((goes_on, λ e. eqb-false c 92 plain e), r.each);
      bytes = ap (λ t. encode_utf8 c ++ t) r.bytes;
      ends = more_ends quoted (c ∷ []) rest r.items (value_at quoted false rest).behind r.ends;
    })

escape_written : (quoted : Bool) (c d : ℕ) (rest : List ℕ) → c ≡ 92 → IsReadAs quoted rest (value_at quoted false rest) →
    IsReadAs quoted (c ∷ d ∷ rest) (value_at quoted false (c ∷ d ∷ rest))
escape_written quoted c d rest is r =
    subst (λ b. IsReadAs quoted (b ∷ d ∷ rest) (value_at quoted false (b ∷ d ∷ rest))) (sym is)
    (subst (IsReadAs quoted (92 ∷ d ∷ rest)) (sym (escape_read quoted d rest)) (record {
      items = Escaped d ∷ r.items;
      each = (tt, r.each);
      bytes = ap (λ t. encode_utf8 d ++ t) r.bytes;
      ends = more_ends quoted (92 ∷ d ∷ []) rest r.items (value_at quoted false rest).behind r.ends;
    }))

cut_written : (quoted : Bool) (c : ℕ) → c ≡ 92 → IsReadAs quoted (c ∷ []) (value_at quoted false (c ∷ []))
cut_written quoted c is =
    subst (λ b. IsReadAs quoted (b ∷ []) (value_at quoted false (b ∷ []))) (sym is)
    (subst (IsReadAs quoted (92 ∷ [])) (sym (cut_read quoted)) (record { items = []; each = tt; bytes = refl; ends = inr (refl, refl) }))

end_written : (quoted : Bool) (c : ℕ) (rest : List ℕ) → ends_value quoted c ≡ true → IsReadAs quoted (c ∷ rest) (value_at quoted false (c ∷ rest))
end_written quoted c rest ends =
    subst (IsReadAs quoted (c ∷ rest)) (sym (end_read quoted (c ∷ rest) ends)) (record { items = []; each = tt; bytes = refl; ends = inl (refl, ends) })

pub value_written : (quoted : Bool) (text : List ℕ) → IsReadAs quoted text (value_at quoted false text)
value_written quoted [] = record { items = []; each = tt; bytes = refl; ends = inl (refl, tt) }
value_written quoted (c ∷ []) = by_cases (ends_value quoted c) (end_written quoted c [])
    (λ goes_on. by_cases (c == 92) (λ e. cut_written quoted c (eqb-true c 92 e))
    (λ plain. plain_written quoted c [] goes_on plain (value_written quoted [])))
value_written quoted (c ∷ d ∷ rest) = by_cases (ends_value quoted c) (end_written quoted c (d ∷ rest))
    (λ goes_on. by_cases (c == 92) (λ e. escape_written quoted c d rest (eqb-true c 92 e) (value_written quoted rest))
    (λ plain. plain_written quoted c (d ∷ rest) goes_on plain (value_written quoted (d ∷ rest))))
