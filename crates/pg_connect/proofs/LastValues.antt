-- What is kept of parameter reports is each name once, with its last value.
use Rattle.std.proofs.Common.{◌≡◌, ◌<◌, ℕ, zero, suc, List, [], ◌∷◌, ◌++◌, length, map, Bool, true, false, if◌then◌else◌, Option, Some, None, refl, sym, ap, subst, ◌∙◌, arith, append_assoc, append-nil, slice_index_or}
use Rattle.std.proofs.lemmas.Cmp.{tied_itself, eq_by_cmp_equiv, nat_list_cmp_total}
use Rattle.std.proofs.lemmas.List.{map-append}
use Rattle.std.proofs.lemmas.List.Elements.{filter-append}
use Rattle.std.proofs.lemmas.Map.Lookups.{exact_bytes}
use Rattle.std.proofs.lemmas.Map.Text.{is_eq-slice_cmp}
use Rattle.std.specs.Prelude.{Contains, filter, fold}
use Rattle.std.specs.BTreeMap.{insert_entry}
use Rattle.std.specs.Cmp.Lexicographic.{slice_cmp}
use Rattle.std.specs.List.{last_or}
use Rattle.std.specs.Ordering.{nat_cmp, is_eq, match_ordering, ordering_reverse}
use Rattle.std.specs.Str.{bytes_eq}
use Rattle.std.specs.declared.cmp.Ordering.{Ordering}
use Rattle.std.specs.declared.cmp.Ordering.TheVariants.{Less, Equal, Greater}
use Rattle.pg_spec.specs.Parameters.{last_value, NamesRise, AreLastValues}
use Rattle.pg_connect.specs.Kept.{keep, keep_all, value_of}

-- names by their bytes
abbrev order : List ℕ → List ℕ → Ordering
order a b = slice_cmp nat_cmp a b

-- a name and its value
abbrev Pair : Type 0
Pair = List ℕ × List ℕ

same-name : (a b : List ℕ) (t : Bool) → is_eq (order a b) ≡ t → t ≡ true → a ≡ b
same-name a b t e f = by_order (order a b) refl (e ∙ f)
  where
    by_order : (o : Ordering) → order a b ≡ o → is_eq o ≡ true → a ≡ b
    by_order Less p q = absurd cc
    by_order Equal p q = exact_bytes a b p
    by_order Greater p q = absurd cc

not-equal : (o : Ordering) → o ≡ Greater → is_eq o ≡ false
not-equal o e = ap is_eq e

above : (a b : List ℕ) → order a b ≡ Less → order b a ≡ Greater
above a b e = nat_list_cmp_total.antisymm b a ∙ ap ordering_reverse e

below : (a b : List ℕ) → order a b ≡ Greater → order b a ≡ Less
below a b e = nat_list_cmp_total.antisymm b a ∙ ap ordering_reverse e

-- ---- the value that is kept for a name

abbrev pick : Bool → List ℕ → Option (List ℕ) → Option (List ℕ)
pick b v rest = if b then Some v else rest

-- behind a report its name has its value, and the others have what they had
value-insert : (es : List Pair) (k v q : List ℕ) → value_of (insert_entry (slice_cmp nat_cmp) es k v) q ≡ pick (is_eq (order q k)) v (value_of es q)
value-insert [] k v q = refl
value-insert (e ∷ es) k v q = by_order (value-insert es k v q) (order k e.0) refl
  where
    both : (a b : Bool) → is_eq (order q k) ≡ a → is_eq (order q e.0) ≡ b → order k e.0 ≡ Greater → pick b e.1 (pick a v (value_of es q)) ≡ pick a v (pick b e.1 (value_of es q))
    both true true p r g =
        let same : k ≡ e.0 = sym (same-name q k true p refl) ∙ same-name q e.0 true r refl in
        absurd (let no : Equal ≡ Greater = sym (tied_itself nat_list_cmp_total e.0) ∙ ap (λ (x : List ℕ). order x e.0) (sym same) ∙ g in cc)
    both true false p r g = refl
    both false b p r g = refl

    once : (b : Bool) → pick b v (value_of es q) ≡ pick b v (pick b e.1 (value_of es q))
    once true = refl
    once false = refl

    by_order : value_of (insert_entry (slice_cmp nat_cmp) es k v) q ≡ pick (is_eq (order q k)) v (value_of es q) → (o : Ordering) → order k e.0 ≡ o →
        value_of (match_ordering o ((k, v) ∷ e ∷ es) ((e.0, v) ∷ es) (e ∷ insert_entry (slice_cmp nat_cmp) es k v)) q ≡ pick (is_eq (order q k)) v (value_of (e ∷ es) q)
    by_order h Less p = refl
    by_order h Equal p = once (is_eq (order q e.0)) ∙ ap (λ (x : List ℕ). pick (is_eq (order q x)) v (value_of (e ∷ es) q)) (sym (exact_bytes k e.0 p))
    by_order h Greater p = ap (λ (o : Option (List ℕ)). pick (is_eq (order q e.0)) e.1 o) h ∙ both (is_eq (order q k)) (is_eq (order q e.0)) refl refl p

-- ---- the names rise

-- the first name of the pairs is above this one
abbrev IsBelow : List ℕ → List Pair → Type 0
IsBelow name [] = Unit {0}
IsBelow name (e ∷ es) = order name e.0 ≡ Less

rise-cons : (e : Pair) (es : List Pair) → IsBelow e.0 es → NamesRise es → NamesRise (e ∷ es)
rise-cons e [] b h = tt
rise-cons e (f ∷ fs) b h = (b, h)

rise-tail : (e : Pair) (es : List Pair) → NamesRise (e ∷ es) → NamesRise es
rise-tail e [] h = tt
rise-tail e (f ∷ fs) h = h.1

rise-first : (e : Pair) (es : List Pair) → NamesRise (e ∷ es) → IsBelow e.0 es
rise-first e [] h = tt
rise-first e (f ∷ fs) h = h.0

below-insert : (name : List ℕ) (es : List Pair) (k v : List ℕ) → order name k ≡ Less → IsBelow name es → IsBelow name (insert_entry (slice_cmp nat_cmp) es k v)
below-insert name [] k v low h = low
below-insert name (e ∷ es) k v low h = by_order (order k e.0)
  where
    by_order : (o : Ordering) → IsBelow name (match_ordering o ((k, v) ∷ e ∷ es) ((e.0, v) ∷ es) (e ∷ insert_entry (slice_cmp nat_cmp) es k v))
    by_order Less = low
    by_order Equal = h
    by_order Greater = h

pub rise-insert : (es : List (List ℕ × List ℕ)) (k v : List ℕ) → NamesRise es → NamesRise (insert_entry (slice_cmp nat_cmp) es k v)
rise-insert [] k v h = tt
rise-insert (e ∷ es) k v h = by_order (rise-insert es k v (rise-tail e es h)) (order k e.0) refl
  where
    by_order : NamesRise (insert_entry (slice_cmp nat_cmp) es k v) → (o : Ordering) → order k e.0 ≡ o → NamesRise (match_ordering o ((k, v) ∷ e ∷ es) ((e.0, v) ∷ es) (e ∷ insert_entry (slice_cmp nat_cmp) es k v))
    by_order rest Less p = (p, h)
    by_order rest Equal p = rise-cons (e.0, v) es (rise-first e es h) (rise-tail e es h)
    by_order rest Greater p = rise-cons e (insert_entry (slice_cmp nat_cmp) es k v) (below-insert e.0 es k v (below k e.0 p) (rise-first e es h)) rest

-- ---- the pairs are those that a name finds

-- where the names rise, a later name is above the first
later-above : (e : Pair) (es : List Pair) (q v : List ℕ) → NamesRise (e ∷ es) → value_of es q ≡ Some v → order e.0 q ≡ Less
later-above e [] q v h is = absurd cc
later-above e (f ∷ fs) q v h is = by_test (later-above f fs q v h.1) (is_eq (order q f.0)) refl is
  where
    by_test : (value_of fs q ≡ Some v → order f.0 q ≡ Less) → (b : Bool) → is_eq (order q f.0) ≡ b → pick b f.1 (value_of fs q) ≡ Some v → order e.0 q ≡ Less
    by_test rest true p r = ap (order e.0) (same-name q f.0 true p refl) ∙ h.0
    by_test rest false p r = nat_list_cmp_total.trans e.0 f.0 q h.0 (rest r)

found : (es : List Pair) (q v : List ℕ) → value_of es q ≡ Some v → Contains es (q, v)
found [] q v is = absurd cc
found (e ∷ es) q v is = by_test (found es q v) (is_eq (order q e.0)) refl is
  where
    by_test : (value_of es q ≡ Some v → Contains es (q, v)) → (b : Bool) → is_eq (order q e.0) ≡ b → pick b e.1 (value_of es q) ≡ Some v → Contains (e ∷ es) (q, v)
    by_test rest true p r =
        let name : e.0 ≡ q = sym (same-name q e.0 true p refl) in
        let value : e.1 ≡ v = cc in
        (0, omega arith, ap (λ (x : List ℕ). (x, e.1)) name ∙ ap (λ (x : List ℕ). (q, x)) value)
    by_test rest false p r = let c = rest r in (suc c.0, let low = c.1 in omega arith, c.2)

finds : (es : List Pair) (q v : List ℕ) → NamesRise es → (k : ℕ) → k < length es → slice_index_or es k (q, v) ≡ (q, v) → value_of es q ≡ Some v
finds [] q v h k low is = absurd (omega (arith, low))
finds (e ∷ es) q v h zero low is =
    let name : e.0 ≡ q = ap (λ (x : Pair). x.0) is in
    ap (λ (b : Bool). pick b e.1 (value_of es q)) (ap (λ (x : List ℕ). is_eq (order q x)) name ∙ ap is_eq (tied_itself nat_list_cmp_total q))
    ∙ ap (λ (x : Pair). Some x.1) is
finds (e ∷ es) q v h (suc k) low is =
    let later : value_of es q ≡ Some v = finds es q v (rise-tail e es h) k (omega (arith, low)) is in
    ap (λ (b : Bool). pick b e.1 (value_of es q)) (not-equal (order q e.0) (above e.0 q (later-above e es q v h later))) ∙ later

-- ---- the last value

last-push : (o : Option (List ℕ)) (xs : List (List ℕ)) (x : List ℕ) → last_or o (xs ++ x ∷ []) ≡ Some x
last-push o [] x = refl
last-push o (y ∷ xs) x = last-push (Some y) xs x

last-more : (b : Bool) (xs : List Pair) (r : Pair) →
    last_or None (map (λ report. report.1) (xs ++ (if b then r ∷ [] else []))) ≡ pick b r.1 (last_or None (map (λ report. report.1) xs))
last-more true xs r = ap (last_or None) (map-append (λ (report : Pair). report.1) xs (r ∷ [])) ∙ last-push None (map (λ report. report.1) xs) r.1
last-more false xs r = ap (λ (l : List Pair). last_or None (map (λ report. report.1) l)) (append-nil xs)

last-value-push : (rs : List Pair) (r : Pair) (q : List ℕ) → last_value (rs ++ r ∷ []) q ≡ pick (is_eq (order q r.0)) r.1 (last_value rs q)
last-value-push rs r q =
    ap (λ (l : List Pair). last_or None (map (λ report. report.1) l)) (filter-append (λ (report : Pair). bytes_eq report.0 q) rs (r ∷ []))
    ∙ last-more (bytes_eq r.0 q) (filter (λ report. bytes_eq report.0 q) rs) r
    ∙ ap (λ (b : Bool). pick b r.1 (last_value rs q)) (sym (is_eq-slice_cmp r.0 q) ∙ (eq_by_cmp_equiv nat_list_cmp_total).symm r.0 q)

-- ---- all reports

-- these pairs are what is kept of these reports
pub record IsKept (reports pairs : List (List ℕ × List ℕ)) : Type 0 where
  pub rise : NamesRise pairs
  pub values : (q : List ℕ) → value_of pairs q ≡ last_value reports q

kept-more : (done reports pairs : List Pair) → IsKept done pairs → IsKept (done ++ reports) (fold keep pairs reports)
kept-more done [] pairs h = subst (λ (l : List Pair). IsKept l pairs) (sym (append-nil done)) h
kept-more done (r ∷ rs) pairs h =
    subst (λ (l : List Pair). IsKept l (fold keep (keep pairs r) rs)) (append_assoc done (r ∷ []) rs)
    (kept-more (done ++ r ∷ []) rs (keep pairs r) (record {
      rise = rise-insert pairs r.0 r.1 h.rise;
      values = λ q. value-insert pairs r.0 r.1 q ∙ ap (λ (o : Option (List ℕ)). pick (is_eq (order q r.0)) r.1 o) (h.values q) ∙ sym (last-value-push done r q);
    }))

pub all-kept : (reports : List (List ℕ × List ℕ)) → IsKept reports (keep_all [] reports)
all-kept reports = kept-more [] reports [] (record { rise = tt; values = λ q. refl })

-- What is kept of all reports is their last values.
pub last-values : (reports : List (List ℕ × List ℕ)) → AreLastValues reports (keep_all [] reports)
last-values reports =
    let h = all-kept reports in
    record {
      rise = h.rise;
      values = λ name value. (
        λ c. sym (h.values name) ∙ finds (keep_all [] reports) name value h.rise c.0 c.1 c.2,
        λ e. found (keep_all [] reports) name value (h.values name ∙ e),
      );
    }
