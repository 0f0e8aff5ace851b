-- A key and a value that are read are written, and those that are written are read.
use Rattle.std.proofs.Common.{◌≡◌, ◌⊎◌, inl, inr, ◌==◌, ◌&&◌, ◌<◌, not, ℕ, true, false, cond, List, [], ◌∷◌, ◌++◌, length, drop, map, refl, sym, ap, subst, ◌∙◌, append_assoc, append-nil, eqb-true, ne_eqb, arith}
use Rattle.std.specs.Char.{is_whitespace}
use Rattle.std.specs.List.{AllByRecursion}
use Rattle.std.specs.Str.{encode_utf8_all}
use Rattle.std.proofs.lemmas.Bool.{eqb-false}
use Rattle.std.proofs.Math.Dec.{eqb-suc-zero}
use Rattle.std.proofs.lemmas.Str.{length-le-encodes}
use Rattle.pg_config.specs.KeyValue.{Bare, Cut, Escaped, IsApart, IsEnd, IsItem, IsKey, IsPair, IsParameter, IsSpace, IsWritten, Item, OpensBare, Pair, Plain, Quoted, Written, is_key_character, item_character, items_bytes, items_text, pair_text, written_items, written_text}
use Rattle.pg_config.specs.KeyValueReading.{Value, behind_while, front_of, front_while, key_at, keyed, value_at, valued}
use Rattle.pg_config.specs.ParameterReading.{Broken, Done, Front, Parameter}
use Rattle.pg_config.specs.Numbers.{begins_with}
use Rattle.pg_config.proofs.Agreement.{Agrees}
use Rattle.pg_config.proofs.Runs.{after_bytes}
use Rattle.pg_config.proofs.Shapes.{broken_differs, broken_not_done, cons_not_nil, done_differs, one_front, parameter_not_done}
use Rattle.pg_config.proofs.Spelling.{EndsThere, IsReadAs, Stops, behind_run, by_cases, cut_read, end_read, first_or_second, front_run, items_read, run_all, run_split, run_stops, true_or_not, value_written}

-- ---- values that are written are read

abbrev closed : (key : List ℕ) → Value → Front
closed key value = cond (begins_with 39 value.behind) (Parameter key value.bytes (drop 1 value.behind)) Broken

abbrev filled : (key : List ℕ) → Value → Front
filled key value = elim value.bytes [ [] ↦ Broken | b ∷ more ↦ Parameter key value.bytes value.behind ]

quoted_read : (key : List ℕ) (items : List Item) (rest : List ℕ) → AllByRecursion (IsItem true) items → valued key (39 ∷ (items_text items ++ 39 ∷ rest)) ≡ Parameter key (items_bytes items) rest
quoted_read key items rest each =
    ap (closed key) (items_read true items (39 ∷ rest) each)
    ∙ ap (λ bytes. Parameter key bytes rest) (append-nil (items_bytes items))

not_in_front : (items : List Item) (rest : List ℕ) → OpensBare items → begins_with 39 (items_text items ++ rest) ≡ false
not_in_front (Plain c ∷ items) rest opens = ne_eqb c 39 opens
not_in_front (Escaped c ∷ items) rest opens = refl
not_in_front [] rest opens = elim opens [ ]

some_bytes : (items : List Item) → OpensBare items → 0 < length (items_bytes items)
some_bytes (i ∷ items) opens = omega (arith, length-le-encodes (map item_character (i ∷ items)))
some_bytes [] opens = elim opens [ ]

filled_is : (key bytes rest : List ℕ) → 0 < length bytes → filled key (record { bytes = bytes; behind = rest }) ≡ Parameter key bytes rest
filled_is key [] rest some = absurd (omega arith)
filled_is key (b ∷ bytes) rest some = refl

bare_read : (key : List ℕ) (items : List Item) (tail rest : List ℕ) → AllByRecursion (IsItem false) items → OpensBare items → value_at false false tail ≡ record { bytes = []; behind = rest } →
    valued key (items_text items ++ tail) ≡ Parameter key (items_bytes items) rest
bare_read key items tail rest each opens ends =
    ap (λ t. cond t (closed key (value_at true false (drop 1 (items_text items ++ tail)))) (filled key (value_at false false (items_text items ++ tail)))) (not_in_front items tail opens)
    ∙ ap (filled key) (items_read false items tail each ∙ ap (after_bytes (items_bytes items)) ends ∙ ap (λ t. record { bytes = t; behind = rest }) (append-nil (items_bytes items)))
    ∙ filled_is key (items_bytes items) rest (some_bytes items opens)

apart_ends : (rest : List ℕ) → IsApart rest → EndsThere false rest
apart_ends [] apart = tt
apart_ends (c ∷ rest) apart = apart

written_read : (key : List ℕ) (w : Written) (rest : List ℕ) → IsWritten w rest → valued key (written_text w ++ rest) ≡ Parameter key (items_bytes (written_items w)) rest
written_read key (Quoted items) rest is =
    ap (λ t. valued key (39 ∷ t)) (append_assoc (items_text items) (39 ∷ []) rest) ∙ quoted_read key items rest is
written_read key (Bare items) rest is = bare_read key items rest rest is.0 is.1 (end_read false rest (apart_ends rest is.2))
written_read key (Cut items) rest is =
    ap (valued key) (append_assoc (items_text items) (92 ∷ []) rest ∙ ap (λ t. items_text items ++ 92 ∷ t) is.2)
    ∙ bare_read key items (92 ∷ []) [] is.0 is.1 (cut_read false)
    ∙ ap (Parameter key (items_bytes items)) (sym is.2)

-- ---- keys and values that are written are read

regroup : (a b c d e f : List ℕ) → a ++ b ++ c ++ 61 ∷ d ++ e ++ f ≡ a ++ (b ++ (c ++ 61 ∷ (d ++ (e ++ f))))
regroup a b c d e f = simp append_assoc

space_no_key : (c : ℕ) → is_whitespace c ≡ true → is_key_character c ≡ false
space_no_key c e = ap (λ b. not b && not (c == 61)) e

key_stops_space : (key rest : List ℕ) → IsKey key → Stops is_whitespace (key ++ rest)
key_stops_space [] rest is = elim is [ ]
key_stops_space (c ∷ key) rest is = (true_or_not (is_whitespace c) (c == 61) is.0).0

space_stops_key : (left rest : List ℕ) → IsSpace left → Stops is_key_character (left ++ 61 ∷ rest)
space_stops_key [] rest is = refl
space_stops_key (c ∷ left) rest is = space_no_key c is.0

items_stop_space : (items : List Item) (rest : List ℕ) → AllByRecursion (IsItem false) items → OpensBare items → Stops is_whitespace (items_text items ++ rest)
items_stop_space [] rest each opens = elim opens [ ]
items_stop_space (Plain c ∷ items) rest each opens = each.0.0
items_stop_space (Escaped c ∷ items) rest each opens = refl

written_stops_space : (w : Written) (rest : List ℕ) → IsWritten w rest → Stops is_whitespace (written_text w ++ rest)
written_stops_space (Quoted items) rest is = refl
written_stops_space (Bare items) rest is = items_stop_space items rest is.0 is.1
written_stops_space (Cut items) rest is =
    subst (Stops is_whitespace) (sym (append_assoc (items_text items) (92 ∷ []) rest)) (items_stop_space items (92 ∷ rest) is.0 is.1)

all_of_key : (key : List ℕ) → IsKey key → AllByRecursion (λ k. is_key_character k ≡ true) key
all_of_key [] is = tt
all_of_key (c ∷ key) is = is

-- behind a key that isn't empty
abbrev behind_key : (key text : List ℕ) → Front
behind_key key text = cond (begins_with 61 text) (valued (encode_utf8_all key) (behind_while is_whitespace (drop 1 text))) Broken

keyed_some : (c : ℕ) (key text : List ℕ) → keyed (c ∷ key) text ≡ behind_key (c ∷ key) text
keyed_some c key text = ap (λ t. cond t Done (behind_key (c ∷ key) text)) (eqb-suc-zero (length key))

keyed_read : (key behind : List ℕ) → IsKey key → keyed key (61 ∷ behind) ≡ valued (encode_utf8_all key) (behind_while is_whitespace behind)
keyed_read [] behind is = elim is [ ]
keyed_read (c ∷ key) behind is = keyed_some c key (61 ∷ behind)

pair_read : (p : Pair) (rest : List ℕ) → IsPair p rest → front_of (pair_text p ++ rest) ≡ Parameter (encode_utf8_all p.key) (items_bytes (written_items p.value)) rest
pair_read p rest is =
    let text4 = written_text p.value ++ rest in
    let text3 = p.right ++ text4 in
    let text2 = p.left ++ 61 ∷ text3 in
    let text1 = p.key ++ text2 in
    let all = all_of_key p.key is.key in
    let stops = space_stops_key p.left text3 is.left in
    ap front_of (regroup p.space p.key p.left p.right (written_text p.value) rest)
    ∙ ap key_at (behind_run is_whitespace p.space text1 is.space (key_stops_space p.key text2 is.key))
    ∙ ap (λ k. keyed k (behind_while is_whitespace (behind_while is_key_character text1))) (front_run is_key_character p.key text2 all stops)
    ∙ ap (keyed p.key) (ap (behind_while is_whitespace) (behind_run is_key_character p.key text2 all stops) ∙ behind_run is_whitespace p.left (61 ∷ text3) is.left refl)
    ∙ keyed_read p.key text3 is.key
    ∙ ap (valued (encode_utf8_all p.key)) (behind_run is_whitespace p.right text4 is.right (written_stops_space p.value rest is.value))
    ∙ written_read (encode_utf8_all p.key) p.value rest is.value

finds : (key value rest text : List ℕ) → IsParameter key value rest text → front_of text ≡ Parameter key value rest
finds key value rest text is =
    ap front_of is.text_is ∙ pair_read is.pair rest is.is_pair ∙ sym (λ i. Parameter (is.key_is i) (is.value_is i) rest)

-- ---- values that are read are written

-- a value was found in front
record IsFound (key text key' value rest : List ℕ) : Type 0 where
  written : Written
  is_written : IsWritten written rest
  text_is : text ≡ written_text written ++ rest
  value_is : value ≡ items_bytes (written_items written)
  key_is : key' ≡ key

closed_found : (key text key' value rest bytes behind : List ℕ) → IsReadAs true text (record { bytes = bytes; behind = behind }) →
    closed key (record { bytes = bytes; behind = behind }) ≡ Parameter key' value rest → IsFound key (39 ∷ text) key' value rest
closed_found key text key' value rest bytes [] r e = absurd (broken_differs key' value rest e)
closed_found key text key' value rest bytes (b ∷ behind) r e = by_end r.ends where
  by_end : ((text ≡ items_text r.items ++ b ∷ behind) × EndsThere true (b ∷ behind)) ⊎ ((text ≡ items_text r.items ++ 92 ∷ []) × (b ∷ behind ≡ [])) → IsFound key (39 ∷ text) key' value rest
  by_end (inr h) = absurd (cons_not_nil h.1)
  by_end (inl h) =
      let same = one_front (sym (ap (λ t. cond t (Parameter key bytes behind) Broken) h.1) ∙ e) in
      record {
        written = Quoted r.items;
        is_written = r.each;
        text_is = ap (λ t. 39 ∷ t) (h.0 ∙ (λ i. items_text r.items ++ eqb-true b 39 h.1 i ∷ same.2 i) ∙ sym (append_assoc (items_text r.items) (39 ∷ []) rest));
        value_is = sym same.1 ∙ r.bytes;
        key_is = sym same.0;
      }

opens_bare : (items : List Item) (c : ℕ) (text tail bytes : List ℕ) (b : ℕ) → c ∷ text ≡ items_text items ++ tail → (c ≡ 39 → ⊥) → b ∷ bytes ≡ items_bytes items → OpensBare items
opens_bare [] c text tail bytes b is none some = absurd (cons_not_nil some)
opens_bare (Plain d ∷ items) c text tail bytes b is none some = let same : c ≡ d = cc in λ e. none (same ∙ e)
opens_bare (Escaped d ∷ items) c text tail bytes b is none some = tt

ends_apart : (rest : List ℕ) → EndsThere false rest → IsApart rest
ends_apart [] ends = tt
ends_apart (c ∷ rest) ends = ends

filled_found : (key : List ℕ) (c : ℕ) (text key' value rest bytes behind : List ℕ) → (c ≡ 39 → ⊥) → IsReadAs false (c ∷ text) (record { bytes = bytes; behind = behind }) →
    filled key (record { bytes = bytes; behind = behind }) ≡ Parameter key' value rest → IsFound key (c ∷ text) key' value rest
filled_found key c text key' value rest [] behind none r e = absurd (broken_differs key' value rest e)
filled_found key c text key' value rest (b ∷ bytes) behind none r e = by_end r.ends where
  by_end : ((c ∷ text ≡ items_text r.items ++ behind) × EndsThere false behind) ⊎ ((c ∷ text ≡ items_text r.items ++ 92 ∷ []) × (behind ≡ [])) → IsFound key (c ∷ text) key' value rest
  by_end (inl h) =
      let same = one_front e in
      record {
        written = Bare r.items;
        is_written = (r.each, opens_bare r.items c text behind bytes b h.0 none r.bytes, subst IsApart same.2 (ends_apart behind h.1));
        text_is = h.0 ∙ ap (λ t. items_text r.items ++ t) same.2;
        value_is = sym same.1 ∙ r.bytes;
        key_is = sym same.0;
      }
  by_end (inr h) =
      let same = one_front e in
      let nothing : rest ≡ [] = sym same.2 ∙ h.1 in
      record {
        written = Cut r.items;
        is_written = (r.each, opens_bare r.items c text (92 ∷ []) bytes b h.0 none r.bytes, nothing);
        text_is = h.0 ∙ sym (append-nil (items_text r.items ++ 92 ∷ [])) ∙ ap (λ t. items_text r.items ++ 92 ∷ [] ++ t) (sym nothing);
        value_is = sym same.1 ∙ r.bytes;
        key_is = sym same.0;
      }

valued_found : (key text key' value rest : List ℕ) → valued key text ≡ Parameter key' value rest → IsFound key text key' value rest
valued_found key [] key' value rest e = absurd (broken_differs key' value rest e)
valued_found key (c ∷ text) key' value rest e = by_cases (c == 39)
    (λ hit. subst (λ b. IsFound key (b ∷ text) key' value rest) (sym (eqb-true c 39 hit))
    (closed_found key text key' value rest (value_at true false text).bytes (value_at true false text).behind (value_written true text)
    (sym (ap (λ t. cond t (closed key (value_at true false text)) (filled key (value_at false false (c ∷ text)))) hit) ∙ e)))
    (λ miss. filled_found key c text key' value rest (value_at false false (c ∷ text)).bytes (value_at false false (c ∷ text)).behind (eqb-false c 39 miss) (value_written false (c ∷ text))
    (sym (ap (λ t. cond t (closed key (value_at true false text)) (filled key (value_at false false (c ∷ text)))) miss) ∙ e))

-- ---- keys and values that are read are written

-- behind a key stands `=`, and behind that white space and the value
record IsKeyed (key text key' value rest : List ℕ) : Type 0 where
  some : key ≡ [] → ⊥
  behind : List ℕ
  text_is : text ≡ 61 ∷ behind
  goes_on : valued (encode_utf8_all key) (behind_while is_whitespace behind) ≡ Parameter key' value rest

keyed_found : (key text key' value rest : List ℕ) → keyed key text ≡ Parameter key' value rest → IsKeyed key text key' value rest
keyed_found [] text key' value rest e = absurd (done_differs key' value rest e)
keyed_found (c ∷ key) [] key' value rest e = absurd (broken_differs key' value rest (sym (keyed_some c key []) ∙ e))
keyed_found (c ∷ key) (b ∷ text) key' value rest e = by_cases (b == 61)
    (λ hit. record {
      some = cons_not_nil;
      behind = text;
      text_is = ap (λ t. t ∷ text) (eqb-true b 61 hit);
      goes_on = sym (ap (λ t. cond t (valued (encode_utf8_all (c ∷ key)) (behind_while is_whitespace text)) Broken) hit) ∙ sym (keyed_some c key (b ∷ text)) ∙ e;
    })
    (λ miss. absurd (broken_differs key' value rest (sym (ap (λ t. cond t (valued (encode_utf8_all (c ∷ key)) (behind_while is_whitespace text)) Broken) miss) ∙ sym (keyed_some c key (b ∷ text)) ∙ e)))

some_key : (key : List ℕ) → (key ≡ [] → ⊥) → AllByRecursion (λ k. is_key_character k ≡ true) key → IsKey key
some_key [] some all = some refl
some_key (c ∷ key) some all = all

found : (key value rest text : List ℕ) → front_of text ≡ Parameter key value rest → IsParameter key value rest text
found key value rest text e =
    let text1 = behind_while is_whitespace text in
    let text2 = behind_while is_key_character text1 in
    let k = keyed_found (front_while is_key_character text1) (behind_while is_whitespace text2) key value rest e in
    let text5 = behind_while is_whitespace k.behind in
    let v = valued_found (encode_utf8_all (front_while is_key_character text1)) text5 key value rest k.goes_on in
    let space = front_while is_whitespace text in
    let name = front_while is_key_character text1 in
    let left = front_while is_whitespace text2 in
    let right = front_while is_whitespace k.behind in
    record {
      pair = record { space = space; key = name; left = left; right = right; value = v.written };
      is_pair = record {
        space = run_all is_whitespace text;
        key = some_key name k.some (run_all is_key_character text1);
        left = run_all is_whitespace text2;
        right = run_all is_whitespace k.behind;
        value = v.is_written;
      };
      key_is = v.key_is;
      value_is = v.value_is;
      text_is = run_split is_whitespace text
          ∙ ap (λ t. space ++ t) (run_split is_key_character text1
          ∙ ap (λ t. name ++ t) (run_split is_whitespace text2
          ∙ ap (λ t. left ++ t) (k.text_is
          ∙ ap (λ t. 61 ∷ t) (run_split is_whitespace k.behind ∙ ap (λ t. right ++ t) v.text_is))))
          ∙ sym (regroup space name left right (written_text v.written) rest);
    }

-- ---- the end

ends : (text : List ℕ) → IsEnd text → front_of text ≡ Done
ends text (space, all, inl is) = ap key_at (ap (behind_while is_whitespace) (is ∙ sym (append-nil space)) ∙ behind_run is_whitespace space [] all tt)
ends text (space, all, inr (rest, is)) = ap key_at (ap (behind_while is_whitespace) is ∙ behind_run is_whitespace space (61 ∷ rest) all refl)

closed_not_done : (key : List ℕ) (v : Value) → closed key v ≡ Done → ⊥
closed_not_done key v e = by_cases (begins_with 39 v.behind)
    (λ hit. parameter_not_done key v.bytes (drop 1 v.behind) (sym (ap (λ t. cond t (Parameter key v.bytes (drop 1 v.behind)) Broken) hit) ∙ e))
    (λ miss. broken_not_done (sym (ap (λ t. cond t (Parameter key v.bytes (drop 1 v.behind)) Broken) miss) ∙ e))

filled_not_done : (key bytes behind : List ℕ) → filled key (record { bytes = bytes; behind = behind }) ≡ Done → ⊥
filled_not_done key [] behind e = broken_not_done e
filled_not_done key (b ∷ bytes) behind e = parameter_not_done key (b ∷ bytes) behind e

valued_not_done : (key text : List ℕ) → valued key text ≡ Done → ⊥
valued_not_done key text e = by_cases (begins_with 39 text)
    (λ hit. closed_not_done key (value_at true false (drop 1 text))
    (sym (ap (λ t. cond t (closed key (value_at true false (drop 1 text))) (filled key (value_at false false text))) hit) ∙ e))
    (λ miss. filled_not_done key (value_at false false text).bytes (value_at false false text).behind
    (sym (ap (λ t. cond t (closed key (value_at true false (drop 1 text))) (filled key (value_at false false text))) miss) ∙ e))

keyed_not_done : (c : ℕ) (key text : List ℕ) → keyed (c ∷ key) text ≡ Done → ⊥
keyed_not_done c key [] e = broken_not_done (sym (keyed_some c key []) ∙ e)
keyed_not_done c key (b ∷ text) e = by_cases (b == 61)
    (λ hit. valued_not_done (encode_utf8_all (c ∷ key)) (behind_while is_whitespace text)
    (sym (ap (λ t. cond t (valued (encode_utf8_all (c ∷ key)) (behind_while is_whitespace text)) Broken) hit) ∙ sym (keyed_some c key (b ∷ text)) ∙ e))
    (λ miss. broken_not_done (sym (ap (λ t. cond t (valued (encode_utf8_all (c ∷ key)) (behind_while is_whitespace text)) Broken) miss) ∙ sym (keyed_some c key (b ∷ text)) ∙ e))

ended_at : (text : List ℕ) → Stops is_whitespace text → key_at text ≡ Done → (text ≡ []) ⊎ ((rest : List ℕ) × (text ≡ 61 ∷ rest))
ended_at [] stops e = inl refl
ended_at (c ∷ text) stops e = by_cases (is_key_character c)
    (λ hit. absurd (keyed_not_done c (front_while is_key_character text) (behind_while is_whitespace (behind_while is_key_character (c ∷ text)))
    (sym (ap (λ t. keyed (cond t (c ∷ front_while is_key_character text) []) (behind_while is_whitespace (behind_while is_key_character (c ∷ text)))) hit) ∙ e)))
    (λ miss. inr (text, ap (λ t. t ∷ text) (eqb-true c 61 (first_or_second (is_whitespace c) (c == 61) miss stops))))

ended : (text : List ℕ) → front_of text ≡ Done → IsEnd text
ended text e = by_rest (ended_at (behind_while is_whitespace text) (run_stops is_whitespace text) e) where
  by_rest : (behind_while is_whitespace text ≡ []) ⊎ ((rest : List ℕ) × (behind_while is_whitespace text ≡ 61 ∷ rest)) → IsEnd text
  by_rest (inl is) =
      (front_while is_whitespace text, run_all is_whitespace text, inl (run_split is_whitespace text ∙ ap (λ t. front_while is_whitespace text ++ t) is ∙ append-nil (front_while is_whitespace text)))
  by_rest (inr (rest, is)) =
      (front_while is_whitespace text, run_all is_whitespace text, inr (rest, run_split is_whitespace text ∙ ap (λ t. front_while is_whitespace text ++ t) is))

-- what is read in front is what is written there
pub key_values_agree : Agrees front_of IsParameter IsEnd
key_values_agree = record { finds = finds; found = found; ends = ends; ended = ended }
