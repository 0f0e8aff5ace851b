-- What giving bytes of a plan does to the place in it.
use Rattle.std.proofs.Common.{◌≡◌, ℕ, zero, suc, ◌+◌, ◌-◌, ◌<◌, ◌≤◌, inl, inr, Bool, not, List, [], ◌∷◌, ◌++◌, length, take, drop, min, eq-eqb, refl, sym, ap, subst, ◌∙◌, append_assoc, append-nil, arith, nat_lt}
use Rattle.std.specs.Prelude.{◌==◌}
use Rattle.std.specs.List.{concat}
use Rattle.std.proofs.Math.Seq.{take-add, take-append-add, drop-nil}
use Rattle.std.proofs.lemmas.List.{length-append, length-drop, length-take, drop-drop, take-append-le, nil_from_length}
use Rattle.std.proofs.lemmas.Bool.{le-ltb, ne_eqb}
use borrow.Rule.Slice.PartMut.{put_mid, post_of}
use Rattle.pg_spec.specs.Batches.{is_nothing}
use Rattle.pg_wire.specs.declared.giving.Giving.{Giving}
use Rattle.pg_wire.specs.Giving.{entry_of, bytes_before, IsPlace, StandsAtDue, entries_of, given_of, due_of, IsGiving, GivesMore, Gave}
use Rattle.pg_wire.proofs.Plans.{entry-inside, gives-inside, gives-rest, place-fits, due-later, due-ended, due-here, all-given, more-to-give}

-- ---- bytes of one entry

pub pass_inside : (g : Giving) (n len : ℕ) → IsGiving g → len ≡ length (entry_of (entries_of g) g.entry) → n < len - g.at →
    GivesMore g (record g { at = g.at + n }) (take n (drop g.at (entry_of (entries_of g) g.entry)))
pass_inside g n len p is fits =
    let r = gives-inside (entries_of g) g.entry g.at g.left n p (omega arith) in
    record { plan = refl; given = r.0; place = r.1 }

pub pass_rest : (g : Giving) (n len : ℕ) → IsGiving g → len ≡ length (entry_of (entries_of g) g.entry) → (n ≡ 0 → ⊥) →
    n ≤ length (drop g.at (entry_of (entries_of g) g.entry)) → len - g.at ≤ n →
    GivesMore g (record g { entry = g.entry + 1; at = 0; left = g.left - 1 }) (take n (drop g.at (entry_of (entries_of g) g.entry))) × (1 ≤ g.left)
pass_rest g n len p is some fits all =
    let l = length-drop g.at (entry_of (entries_of g) g.entry) in
    let at = place-fits (entries_of g) g.entry g.at g.left p in
    let positive : 0 < n = positive_of n some in
    let r = gives-rest (entries_of g) g.entry g.at g.left n p (entry-inside (entries_of g) g.entry (omega arith)) positive (omega arith) in
    (record { plan = refl; given = r.0; place = r.2 }, r.1)
  where
    positive_of : (n : ℕ) → (n ≡ 0 → ⊥) → 0 < n
    positive_of zero some = absurd (some refl)
    positive_of (suc n) some = omega arith

-- ---- what is due afterwards

-- what was given isn't due any more
pub due-more : (turns : ℕ) (old new : Giving) (bytes : List ℕ) → GivesMore old new bytes → due_of turns new ≡ drop (length bytes) (due_of turns old)
due-more turns old new bytes m =
    let len : length (given_of new) ≡ length (given_of old) + length bytes = ap length m.given ∙ length-append (given_of old) bytes in
    ap (λ (l : List (List ℕ)). drop (length (given_of new)) (concat (take turns l))) m.plan
    ∙ ap (λ (n : ℕ). drop n (concat (take turns (entries_of old)))) len
    ∙ sym (drop-drop (length bytes) (length (given_of old)) (concat (take turns (entries_of old))))

pub due-same : (turns : ℕ) (old new : Giving) → GivesMore old new [] → due_of turns new ≡ due_of turns old
due-same turns old new m = due-more turns old new [] m

pub more-joined : (a b c : Giving) (xs ys : List ℕ) → GivesMore a b xs → GivesMore b c ys → GivesMore a c (xs ++ ys)
more-joined a b c xs ys m n = record {
  plan = n.plan ∙ m.plan;
  given = n.given ∙ ap (λ (l : List ℕ). l ++ ys) m.given ∙ append_assoc (given_of a) xs ys;
  place = n.place;
}

entry-past : (entries : List (List ℕ)) (entry : ℕ) → length entries ≤ entry → entry_of entries entry ≡ []
entry-past [] entry past = refl
entry-past (e ∷ es) zero past = absurd (omega arith)
entry-past (e ∷ es) (suc n) past = entry-past es n (omega arith)

-- what is due begins with the rest of the entry, and nothing is due where that is empty
pub record BeginsDue (due rest : List ℕ) : Type 0 where
  pub more : List ℕ
  pub is : due ≡ rest ++ more
  pub none : rest ≡ [] → due ≡ []

pub begins-due : (turns : ℕ) (g : Giving) → IsGiving g → StandsAtDue (entries_of g) turns g.entry g.at → g.entry < turns →
    BeginsDue (due_of turns g) (drop g.at (entry_of (entries_of g) g.entry))
begins-due turns g p (inl later) turn = absurd (omega arith)
begins-due turns g p (inr (inl past)) turn =
    let none = due-ended (entries_of g) turns g.entry g.at past in
    let rest : drop g.at (entry_of (entries_of g) g.entry) ≡ [] = ap (λ (l : List ℕ). drop g.at l) (entry-past (entries_of g) g.entry past) ∙ drop-nil g.at in
    record { more = []; is = none ∙ sym (append-nil _ ∙ rest); none = λ e. none }
begins-due turns g p (inr (inr inside)) turn =
    let low = entry-inside (entries_of g) g.entry (omega arith) in
    let fits = place-fits (entries_of g) g.entry g.at g.left p in
    let l = length-drop g.at (entry_of (entries_of g) g.entry) in
    record {
      more = concat (drop (g.entry + 1) (take turns (entries_of g)));
      is = due-here (entries_of g) turns g.entry g.at turn low fits;
      none = λ e. let zero_long : length (drop g.at (entry_of (entries_of g) g.entry)) ≡ 0 = ap length e in absurd (omega arith);
    }

-- ---- a piece

pub gave_none : (turns : ℕ) (a b : Giving) (out : List ℕ) → GivesMore a b [] → turns ≤ b.entry → Gave (due_of turns a) a b out 0
gave_none turns a b out m later = record {
  fits = omega arith;
  enough = omega arith;
  none = λ e. sym (due-same turns a b m) ∙ due-later (entries_of b) turns b.entry b.at later;
  front = refl;
  given = m;
}

pub gave_some : (turns : ℕ) (a b c : Giving) (out rest : List ℕ) (n : ℕ) → GivesMore a b [] → StandsAtDue (entries_of b) turns b.entry b.at → b.entry < turns →
    rest ≡ drop b.at (entry_of (entries_of b) b.entry) → n ≡ min (length rest) (length out) → 0 < length out → take n out ≡ take n rest →
    GivesMore b c (take n (drop b.at (entry_of (entries_of b) b.entry))) → Gave (due_of turns a) a c out n
gave_some turns a b c out rest n m stands turn is count room front gives =
    let d = begins-due turns b m.place stands turn in
    let due : due_of turns a ≡ rest ++ d.more = sym (due-same turns a b m) ∙ d.is ∙ ap (λ (l : List ℕ). l ++ d.more) (sym is) in
    let part : take n (due_of turns a) ≡ take n rest = ap (take n) due ∙ take-append-le n rest d.more (omega arith) in
    let long : length (due_of turns a) ≡ length rest + length d.more = ap length due ∙ length-append rest d.more in
    record {
      fits = omega arith;
      enough = omega arith;
      none = λ e. sym (due-same turns a b m) ∙ d.none (sym is ∙ nil_from_length rest (omega arith));
      front = front ∙ sym part;
      given = more-joined a b c [] (take n (due_of turns a)) m (subst (λ (l : List ℕ). GivesMore b c l) (ap (take n) (sym is) ∙ sym part) gives);
    }

-- ---- as much as fits

pub record GaveSoFar (due : List ℕ) (old new : Giving) (out : List ℕ) (n : ℕ) : Type 0 where
  pub fits : n ≤ length out
  pub enough : n ≤ length due
  pub front : take n out ≡ take n due
  pub given : GivesMore old new (take n due)

pub give-piece : (turns : ℕ) (a b c : Giving) (out piece : List ℕ) (n k : ℕ) → GaveSoFar (due_of turns a) a b out n → Gave (due_of turns b) b c piece k →
    length piece ≡ length out - n → GaveSoFar (due_of turns a) a c (put_mid n (length out - n) out piece) (n + k)
give-piece turns a b c out piece n k s g long =
    let len : length (take n (due_of turns a)) ≡ n = omega (arith, length-take n (due_of turns a), s.enough) in
    let due : due_of turns b ≡ drop n (due_of turns a) = due-more turns a b (take n (due_of turns a)) s.given ∙ ap (λ (j : ℕ). drop j (due_of turns a)) len in
    let rest : length (due_of turns b) ≡ length (due_of turns a) - n = ap length due ∙ length-drop n (due_of turns a) in
    let both : take n (due_of turns a) ++ take k (due_of turns b) ≡ take (n + k) (due_of turns a) =
    ap (λ (l : List ℕ). take n (due_of turns a) ++ take k l) due ∙ sym (take-add n k (due_of turns a)) in
    let front_len : length (take n out) ≡ n = omega (arith, length-take n out, s.fits) in
    let f = s.fits in let e = s.enough in let gf = g.fits in let ge = g.enough in
    record {
      fits = omega (arith, length-append (take n out) (piece ++ post_of n (length out - n) out), length-append piece (post_of n (length out - n) out));
      enough = omega arith;
      front = ap (λ (j : ℕ). take (j + k) (put_mid n (length out - n) out piece)) (sym front_len)
          ∙ take-append-add (take n out) (piece ++ post_of n (length out - n) out) k
          ∙ ap (λ (l : List ℕ). take n out ++ l) (take-append-le k piece (post_of n (length out - n) out) gf ∙ g.front)
          ∙ ap (λ (l : List ℕ). l ++ take k (due_of turns b)) s.front ∙ both;
      given = subst (λ (l : List ℕ). GivesMore a c l) both (more-joined a b c (take n (due_of turns a)) (take k (due_of turns b)) s.given g.given);
    }

-- ---- whether anything is due

pub has-rest : (turns : ℕ) (a b : Giving) (rest : List ℕ) (empty : Bool) → GivesMore a b [] → StandsAtDue (entries_of b) turns b.entry b.at → b.entry < turns →
    rest ≡ drop b.at (entry_of (entries_of b) b.entry) → empty ≡ (length rest == 0) → not empty ≡ not (is_nothing (due_of turns a))
has-rest turns a b rest empty m stands turn is test =
    let d = begins-due turns b m.place stands turn in
    ap not test ∙ by_rest rest (due_of turns b) d.more (d.is ∙ ap (λ (l : List ℕ). l ++ d.more) (sym is)) (λ e. d.none (sym is ∙ e))
    ∙ ap (λ (l : List ℕ). not (is_nothing l)) (due-same turns a b m)
  where
    by_rest : (rest due more : List ℕ) → due ≡ rest ++ more → (rest ≡ [] → due ≡ []) → not (length rest == 0) ≡ not (is_nothing due)
    by_rest [] due more e none = ap (λ (l : List ℕ). not (is_nothing l)) (sym (none refl))
    by_rest (x ∷ xs) due more e none = ap not (ne_eqb (length (x ∷ xs)) 0 (λ z. omega (arith, z))) ∙ ap (λ (l : List ℕ). not (is_nothing l)) (sym e)

pub has-none : (turns : ℕ) (a b : Giving) → GivesMore a b [] → turns ≤ b.entry → nat_lt b.entry turns ≡ not (is_nothing (due_of turns a))
has-none turns a b m later =
    le-ltb b.entry turns later ∙ ap (λ (l : List ℕ). not (is_nothing l)) (sym (sym (due-same turns a b m) ∙ due-later (entries_of b) turns b.entry b.at later))

-- ---- whether all was given

pub over-test : (entries : List (List ℕ)) (entry at left : ℕ) → IsPlace entries entry at left →
    (left == 0) ≡ (length (bytes_before entries entry at) == length (concat entries))
over-test entries entry at zero p = sym (eq-eqb _ _ (all-given entries entry at p))
over-test entries entry at (suc n) p =
    let more = more-to-give entries entry at (suc n) p (omega arith) in
    ne_eqb (suc n) 0 (λ z. omega (arith, z)) ∙ sym (ne_eqb (length (bytes_before entries entry at)) (length (concat entries)) (λ e. omega (arith, e, more)))
