-- What crosses a link, by its fields.
use Rattle.std.proofs.Common.{append-nil, append_assoc, ◌≡◌, ℕ, zero, suc, ◌+◌, ◌-◌, ◌<◌, ◌≤◌, Bool, true, false, List, [], ◌∷◌, ◌++◌, Result, Ok, Err, refl, sym, ap, ◌∙◌, subst, arith, length, take, drop}
use Rattle.std.specs.Prelude.{min, nat_lt, ◌||◌, MatchResult}
use Rattle.std.specs.Result.{is_err}
use Rattle.std.proofs.lemmas.Bool.{ltb-true}
use Rattle.std.proofs.Math.Seq.{take-add}
use borrow.Rule.Slice.PartMut.{post_of}
use Rattle.std.proofs.lemmas.List.{length-append, length-drop, length-take-le, drop-drop, take_at}
use Rattle.pg_spec.specs.Batches.{is_nothing}
use Rattle.pg_server.specs.Copies.{Copied, Lengthens}
use Rattle.pg_server.specs.declared.traffic.Traffic.{Traffic}
use Rattle.pg_server.specs.Answers.{answer_bytes}
use Rattle.pg_server.specs.Crossings.{crossed_of, due_of}

-- ---- a place in one list behind another

pub place-take : (s a : List ℕ) (g o : ℕ) → g ≤ length s → (g < length s → o ≡ 0) → take g s ++ take o a ≡ take (g + o) (s ++ a)
place-take [] a g o fits order =
    let none : g ≡ 0 = omega (arith, fits) in
    let place : o ≡ g + o = omega (arith, none) in
    ap (λ (k : ℕ). take k [] ++ take o a) none ∙ ap (λ (k : ℕ). take k a) place
place-take (x ∷ s) a zero o fits order =
    let none : o ≡ 0 = order (omega arith) in
    let place : 0 ≡ zero + o = omega (arith, none) in
    ap (λ (k : ℕ). take k a) none ∙ ap (λ (k : ℕ). take k (x ∷ s ++ a)) place
place-take (x ∷ s) a (suc g) o fits order =
    ap (λ (t : List ℕ). x ∷ t) (place-take s a g o (omega (arith, fits)) (λ less. order (omega (arith, less))))
    ∙ ap (λ (k : ℕ). take k (x ∷ s ++ a)) (shift g o)
  where
    shift : (g o : ℕ) → suc (g + o) ≡ suc g + o
    shift g o = omega arith

pub place-drop : (s a : List ℕ) (g o : ℕ) → g ≤ length s → (g < length s → o ≡ 0) → drop g s ++ drop o a ≡ drop (g + o) (s ++ a)
place-drop [] a g o fits order =
    let none : g ≡ 0 = omega (arith, fits) in
    let place : o ≡ g + o = omega (arith, none) in
    ap (λ (k : ℕ). drop k [] ++ drop o a) none ∙ ap (λ (k : ℕ). drop k a) place
place-drop (x ∷ s) a zero o fits order =
    let none : o ≡ 0 = order (omega arith) in
    let place : 0 ≡ zero + o = omega (arith, none) in
    ap (λ (k : ℕ). x ∷ s ++ drop k a) none ∙ ap (λ (k : ℕ). drop k (x ∷ s ++ a)) place
place-drop (x ∷ s) a (suc g) o fits order =
    place-drop s a g o (omega (arith, fits)) (λ less. order (omega (arith, less)))
    ∙ ap (λ (k : ℕ). drop k (x ∷ s ++ a)) (shift g o)
  where
    shift : (g o : ℕ) → suc (g + o) ≡ suc g + o
    shift g o = omega arith

-- ---- copying

-- a piece was copied behind the first n bytes
pub lengthens : (piece old mid : List ℕ) (n count e : ℕ) → n ≤ length old → count ≡ min (length piece) (length old - n) → mid ≡ take count piece → e ≡ count →
    Lengthens piece old n (take n old ++ (mid ++ post_of n e old)) (n + count)
lengthens piece old mid n count e fits count_is mid_is e_is all was =
    let was_count : n ≡ min (length all) (length old) = was.count in
    let size : length (all ++ piece) ≡ length all + length piece = length-append all piece in
    let front_len : length (take n old) ≡ n = length-take-le n old fits in
    let mid_len : length mid ≡ count = ap length mid_is ∙ length-take-le count piece (omega (arith, count_is)) in
    let here_len : length (take n old ++ mid) ≡ n + count = omega (arith, length-append (take n old) mid, front_len, mid_len) in
    let same : length (take n old ++ (mid ++ post_of n e old)) ≡ length old
    = omega (arith, length-append (take n old) (mid ++ post_of n e old), length-append mid (post_of n e old), length-drop e (drop n old), length-drop n old, front_len, mid_len, e_is, count_is, fits) in
    record {
      count = omega (arith, was_count, count_is, same, size, fits);
      front = ap (take (n + count)) (sym (append_assoc (take n old) mid (post_of n e old))) ∙ take_at (take n old ++ mid) (post_of n e old) (n + count) here_len
          ∙ ap (λ (b : List ℕ). take n old ++ b) mid_is
          ∙ ap (λ (b : List ℕ). b ++ take count piece) was.front
          ∙ place-take all piece n count (omega (arith, was_count)) (λ less. omega (arith, less, was_count, count_is));
    }

-- three pieces were copied
pub copied_three : (said reply ready out one two three : List ℕ) (gave over skip n m k : ℕ) → skip ≡ min over (length reply) →
    Lengthens (drop gave said) out 0 one n → Lengthens (drop skip reply) one n two m → Lengthens (drop (over - skip) ready) two m three k →
    Copied (drop gave said ++ drop over (reply ++ ready)) three k
copied_three said reply ready out one two three gave over skip n m k skip_is first second third =
    let none : Copied [] out 0 = record { count = omega arith; front = refl } in
    let last : Copied ((drop gave said ++ drop skip reply) ++ drop (over - skip) ready) three k = third (drop gave said ++ drop skip reply) (second (drop gave said) (first [] none)) in
    let place : drop skip reply ++ drop (over - skip) ready ≡ drop over (reply ++ ready)
    = place-drop reply ready skip (over - skip) (omega (arith, skip_is)) (λ less. omega (arith, less, skip_is)) ∙ ap (λ (j : ℕ). drop j (reply ++ ready)) (omega (arith, skip_is)) in
    subst (λ (b : List ℕ). Copied b three k) (append_assoc (drop gave said) (drop skip reply) (drop (over - skip) ready) ∙ ap (λ (b : List ℕ). drop gave said ++ b) place) last

-- ---- what is due

pub due-length : (s a : List ℕ) (g o : ℕ) → length (drop g s ++ drop o a) ≡ (length s - g) + (length a - o)
due-length s a g o = omega (arith, length-append (drop g s) (drop o a), length-drop g s, length-drop o a)

pub some-due : (due : List ℕ) → 0 < length due → is_nothing due ≡ false
some-due [] some = absurd (omega (arith, some))
some-due (x ∷ due) some = refl

pub none-due : (due : List ℕ) → length due ≡ 0 → due ≡ []
none-due [] none = refl
none-due (x ∷ due) none = absurd (omega (arith, none))

-- bytes that are due were given
pub passed-given : (s a : List ℕ) (g o n first : ℕ) → g ≤ length s → (g < length s → o ≡ 0) → n ≤ length (drop g s ++ drop o a) → first ≡ min n (length s - g) →
    take (g + first) s ++ take (o + (n - first)) a ≡ (take g s ++ take o a) ++ take n (drop g s ++ drop o a)
passed-given s a g o n first fits order enough first_is =
    place-take s a (g + first) (o + (n - first)) (omega (arith, first_is, fits)) (λ less. omega (arith, less, first_is, order (omega (arith, less))))
    ∙ ap (λ (k : ℕ). take k (s ++ a)) (omega (arith, first_is))
    ∙ take-add (g + o) n (s ++ a)
    ∙ ap (λ (b : List ℕ). b ++ take n (drop (g + o) (s ++ a))) (sym (place-take s a g o fits order))
    ∙ ap (λ (b : List ℕ). (take g s ++ take o a) ++ take n b) (sym (place-drop s a g o fits order))

pub passed-due : (s a : List ℕ) (g o n first : ℕ) → g ≤ length s → (g < length s → o ≡ 0) → n ≤ length (drop g s ++ drop o a) → first ≡ min n (length s - g) →
    drop (g + first) s ++ drop (o + (n - first)) a ≡ drop n (drop g s ++ drop o a)
passed-due s a g o n first fits order enough first_is =
    place-drop s a (g + first) (o + (n - first)) (omega (arith, first_is, fits)) (λ less. omega (arith, less, first_is, order (omega (arith, less))))
    ∙ ap (λ (k : ℕ). drop k (s ++ a)) (omega (arith, first_is))
    ∙ sym (drop-drop n (g + o) (s ++ a))
    ∙ ap (drop n) (sym (place-drop s a g o fits order))

-- ---- the calls, by the fields

pub passed : (t : Traffic) (n first over last : ℕ) → n ≤ length (due_of t) → first ≡ min n (length t.said.items - t.gave) → last ≡ length (answer_bytes t.last) → over ≡ min last (t.over + (n - first)) →
    record (crossed_of t) {
      given = take (t.gave + first) t.said.items ++ take over (answer_bytes t.last);
      due = drop (t.gave + first) t.said.items ++ drop over (answer_bytes t.last);
      promised = false;
    } ≡ record (crossed_of t) { given = (crossed_of t).given ++ take n (due_of t); due = drop n (due_of t); promised = false }
passed t n first over last enough first_is last_is over_is =
    let s : List ℕ = t.said.items in
    let a : List ℕ = answer_bytes t.last in
    let all : length (due_of t) ≡ (length s - t.gave) + (length a - t.over) = due-length s a t.gave t.over in
    let over' : over ≡ t.over + (n - first) = omega (arith, over_is, last_is, first_is, enough, all, t.within_last) in
    ap (λ (o : ℕ). record (crossed_of t) { given = take (t.gave + first) s ++ take o a; due = drop (t.gave + first) s ++ drop o a; promised = false }) over'
    ∙ ap (λ (given : List ℕ). record (crossed_of t) { given = given; due = drop (t.gave + first) s ++ drop (t.over + (n - first)) a; promised = false })
    (passed-given s a t.gave t.over n first t.within t.in_order enough first_is)
    ∙ ap (λ (due : List ℕ). record (crossed_of t) { given = (crossed_of t).given ++ take n (due_of t); due = due; promised = false })
    (passed-due s a t.gave t.over n first t.within t.in_order enough first_is)

-- the last answer was put behind what was said before
pub settled_same : (t : Traffic) (said empty : List ℕ) (gave len : ℕ) → said ≡ t.said.items ++ answer_bytes t.last → len ≡ length said → gave ≡ min len (t.gave + t.over) → empty ≡ [] →
    record (crossed_of t) { given = take gave said ++ take 0 empty; due = drop gave said ++ empty } ≡ crossed_of t
settled_same t said empty gave len said_is len_is gave_is empty_is =
    let s : List ℕ = t.said.items in
    let a : List ℕ = answer_bytes t.last in
    let place : gave ≡ t.gave + t.over = omega (arith, gave_is, len_is, ap length said_is, length-append s a, t.within, t.within_last) in
    let given : take gave said ++ take 0 empty ≡ take t.gave s ++ take t.over a
    = append-nil (take gave said) ∙ ap (take gave) said_is ∙ ap (λ (k : ℕ). take k (s ++ a)) place ∙ sym (place-take s a t.gave t.over t.within t.in_order) in
    let due : drop gave said ++ empty ≡ due_of t
    = ap (λ (b : List ℕ). drop gave said ++ b) empty_is ∙ append-nil (drop gave said) ∙ ap (drop gave) said_is ∙ ap (λ (k : ℕ). drop k (s ++ a)) place
    ∙ sym (place-drop s a t.gave t.over t.within t.in_order) in
    ap (λ (g : List ℕ). record (crossed_of t) { given = g; due = drop gave said ++ empty }) given ∙ ap (λ (d : List ℕ). record (crossed_of t) { due = d }) due

-- bytes are due
pub has-due : (t : Traffic) → (nat_lt t.gave (length t.said.items) || nat_lt t.over (length (answer_bytes t.last))) ≡ true → is_nothing (due_of t) ≡ false
has-due t some =
    let all = due-length t.said.items (answer_bytes t.last) t.gave t.over in
    some-due (due_of t) (omega (arith, all, by_test (nat_lt t.gave (length t.said.items)) refl some))
  where
    by_test : (b : Bool) → nat_lt t.gave (length t.said.items) ≡ b → (b || nat_lt t.over (length (answer_bytes t.last))) ≡ true →
        0 < (length t.said.items - t.gave) + (length (answer_bytes t.last) - t.over)
    by_test true less e = omega (arith, ltb-true t.gave (length t.said.items) less)
    by_test false more e = omega (arith, ltb-true t.over (length (answer_bytes t.last)) e)

-- it came to its end
pub matched_ok : {T E : Type 0} (r : Result T E) (P Q : Type 0) → MatchResult r (λ x. P) (λ e. Q) → is_err r ≡ false → P
matched_ok (Ok x) P Q m e = m
matched_ok (Err x) P Q m e = absurd cc
