-- The groups of whole replies, and the turns that sent bytes give.
use Rattle.std.proofs.Common.{◌≡◌, ◌≤◌, ◌+◌, ◌-◌, ℕ, suc, List, [], ◌∷◌, ◌++◌, length, Bool, true, false, not, ◌||◌, ◌==◌, cond, if◌then◌else◌, Option, Some, None, refl, sym, ap, subst, ◌∙◌, append-nil, arith}
use Rattle.std.specs.Prelude.{IsTrue, count_by, filter}
use Rattle.std.specs.Str.{byte}
use Rattle.std.specs.List.{concat, list_all, onto_first, AllByRecursion}
use Rattle.std.proofs.lemmas.List.Elements.{filter-append}
use Rattle.std.proofs.lemmas.List.Sums.{sum_by-cons}
use Rattle.pg_promises.specs.Promises.{IsOneReply}
use Rattle.pg_spec.specs.RawMessages.{RawMessage, messages, groups, is_aside, is_async, is_parameter, is_ready, is_whole_group, sync_of, cut_after, ends_in}
use Rattle.pg_spec.specs.Sent.{after_startup_frame, messages_if, asked_for_tls, ends_unit, gives_turn, is_password, turns_given, whole_units}
use Rattle.pg_spec.proofs.GroupLaws.{groups-append}
use Rattle.pg_session.proofs.Complete.Bytes.{IsWhole, messages-behind}
use Rattle.pg_session.proofs.Crossing.Groups.{both-true}

counted : {X : Type 0} (p : X → Bool) (x : X) (xs : List X) (b : Bool) → p x ≡ b → count_by p (x ∷ xs) ≡ (if b then 1 else 0) + count_by p xs
counted p x xs b is = sum_by-cons (λ y. cond (p y) 1 0) x xs ∙ ap (λ (c : Bool). cond c 1 0 + count_by p xs) is

yes-counts : {X : Type 0} (p : X → Bool) (x : X) (xs : List X) (n : ℕ) → p x ≡ true → count_by p xs ≡ n → count_by p (x ∷ xs) ≡ suc n
yes-counts p x xs n is so = let e = counted p x xs true is in omega (arith, e, so)

no-counts : {X : Type 0} (p : X → Bool) (x : X) (xs : List X) → p x ≡ false → count_by p (x ∷ xs) ≡ count_by p xs
no-counts p x xs is = let e = counted p x xs false is in omega (arith, e)

-- ---- groups

-- the items of all pieces
abbrev flat : {X : Type 0} → List (List X) → List X
flat [] = []
flat (piece ∷ pieces) = piece ++ flat pieces

-- they are the list again
joins : {X : Type 0} (p : X → Bool) (xs : List X) → flat (cut_after p xs) ≡ xs
joins p [] = refl
joins {X} p (x ∷ xs) = by_test (p x) (cut_after p xs) ∙ ap (λ l. x ∷ l) (joins p xs)
  where
    by_pieces : (pieces : List (List X)) → flat (onto_first x pieces) ≡ x ∷ flat pieces
    by_pieces [] = refl
    by_pieces (piece ∷ pieces) = refl

    by_test : (b : Bool) (pieces : List (List X)) → flat (if b then (x ∷ []) ∷ pieces else onto_first x pieces) ≡ x ∷ flat pieces
    by_test true pieces = refl
    by_test false pieces = by_pieces pieces

-- what one reply is
record OneGroup (ms : List RawMessage) : Type 0 where
  group : List RawMessage
  is : groups ms ≡ group ∷ []
  whole : is_whole_group group ≡ true
  ends : ends_in is_ready (sync_of ms) ≡ true

one-group : (ms : List RawMessage) → length (groups ms) ≡ 1 → IsTrue (list_all is_whole_group (groups ms)) → OneGroup ms
one-group ms one whole = by (groups ms) refl one whole
  where
    by : (gs : List (List RawMessage)) → groups ms ≡ gs → length gs ≡ 1 → IsTrue (list_all is_whole_group gs) → OneGroup ms
    by [] is one whole = absurd (omega (arith, one))
    by (g ∷ []) is one whole =
        let w = (both-true (is_whole_group g) true whole).0 in
        let same : g ≡ sync_of ms = sym (append-nil g) ∙ sym (ap flat is) ∙ joins is_ready (sync_of ms) in
        record { group = g; is = is; whole = w; ends = subst (λ (l : List RawMessage). ends_in is_ready l ≡ true) same w }
    by (g ∷ h ∷ gs) is one whole = absurd (omega (arith, one))

-- as many groups as replies, each of them whole
pub record AreReplies (n : ℕ) (ms : List RawMessage) : Type 0 where
  pub count : length (groups ms) ≡ n
  pub whole : count_by is_whole_group (groups ms) ≡ n

pub are-replies : (es : List (List ℕ)) → AllByRecursion IsWhole es → AllByRecursion IsOneReply es → AreReplies (length es) (messages (concat es))
are-replies [] whole ones = record { count = refl; whole = refl }
are-replies (e ∷ es) whole ones =
    let g = one-group (messages e) ones.0.0 ones.0.1 in
    let rest = are-replies es whole.1 ones.1 in
    let all : groups (messages (e ++ concat es)) ≡ g.group ∷ groups (messages (concat es)) =
    ap groups (messages-behind e (concat es) whole.0) ∙ groups-append (messages e) (messages (concat es)) g.ends
    ∙ ap (λ (l : List (List RawMessage)). l ++ groups (messages (concat es))) g.is in
    record {
      count = ap length all ∙ ap suc rest.count;
      whole = ap (λ (l : List (List RawMessage)). count_by is_whole_group l) all
          ∙ yes-counts is_whole_group g.group (groups (messages (concat es))) (length es) g.whole rest.whole;
    }

-- messages that no request asks for
abbrev pub IsAside : RawMessage → Type 0
IsAside m = IsTrue (is_async m || is_parameter m)

no-sync : (ms : List RawMessage) → AllByRecursion IsAside ms → sync_of ms ≡ []
no-sync [] h = refl
no-sync (m ∷ ms) h = ap (λ (b : Bool). if not b then m ∷ sync_of ms else sync_of ms) h.0 ∙ no-sync ms h.1

-- they enter no group
pub groups-behind : (asides ms : List RawMessage) → AllByRecursion IsAside asides → groups (asides ++ ms) ≡ groups ms
groups-behind asides ms h =
    ap (cut_after is_ready) (filter-append (λ m. not (is_aside m)) asides ms ∙ ap (λ (l : List RawMessage). l ++ sync_of ms) (no-sync asides h))

-- ---- turns

-- each piece that is ended has its end
whole-onto : {X : Type 0} (p : X → Bool) (x : X) (pieces : List (List X)) → p x ≡ false → count_by (ends_in p) (onto_first x pieces) ≡ count_by (ends_in p) pieces
whole-onto p x [] e = no-counts (ends_in p) (x ∷ []) [] e
whole-onto p x ([] ∷ ps) e = no-counts (ends_in p) (x ∷ []) ps e ∙ sym (no-counts (ends_in p) [] ps refl)
whole-onto p x ((y ∷ l) ∷ ps) e = counted (ends_in p) (x ∷ y ∷ l) ps (ends_in p (y ∷ l)) refl ∙ sym (counted (ends_in p) (y ∷ l) ps (ends_in p (y ∷ l)) refl)

pub ended-pieces : {X : Type 0} (p : X → Bool) (xs : List X) → count_by (ends_in p) (cut_after p xs) ≡ count_by p xs
ended-pieces p [] = refl
ended-pieces {X} p (x ∷ xs) = by (p x) refl (ended-pieces p xs)
  where
    by : (b : Bool) → p x ≡ b → count_by (ends_in p) (cut_after p xs) ≡ count_by p xs → count_by (ends_in p) (cut_after p (x ∷ xs)) ≡ count_by p (x ∷ xs)
    by true e rest =
        ap (λ (b : Bool). count_by (ends_in p) (if b then (x ∷ []) ∷ cut_after p xs else onto_first x (cut_after p xs))) e
        ∙ yes-counts (ends_in p) (x ∷ []) (cut_after p xs) (count_by p xs) e rest ∙ sym (yes-counts p x xs (count_by p xs) e refl)
    by false e rest =
        ap (λ (b : Bool). count_by (ends_in p) (if b then (x ∷ []) ∷ cut_after p xs else onto_first x (cut_after p xs))) e
        ∙ whole-onto p x (cut_after p xs) e ∙ rest ∙ sym (no-counts p x xs e)

-- each Query or Sync gives the turn
pub few-ends : (fs : List RawMessage) → count_by ends_unit (filter (λ f. not (is_password f)) fs) ≤ count_by gives_turn fs
few-ends [] = omega arith
few-ends (f ∷ fs) = by (is_password f) (ends_unit f) refl refl (few-ends fs)
  where
    rest : List RawMessage
    rest = filter (λ f. not (is_password f)) fs

    kept : (a : Bool) → is_password f ≡ a → filter (λ f. not (is_password f)) (f ∷ fs) ≡ (if not a then f ∷ rest else rest)
    kept a pass = ap (λ (c : Bool). if not c then f ∷ rest else rest) pass

    by : (a b : Bool) → is_password f ≡ a → ends_unit f ≡ b → count_by ends_unit rest ≤ count_by gives_turn fs → count_by ends_unit (filter (λ f. not (is_password f)) (f ∷ fs)) ≤ count_by gives_turn (f ∷ fs)
    by true b pass ends below =
        let few = ap (λ (l : List RawMessage). count_by ends_unit l) (kept true pass) in
        let more = counted gives_turn f fs true (ap (λ (c : Bool). c || ends_unit f || f.tag == byte "H") pass) in
        omega (arith, few, more, below)
    by false true pass ends below =
        let few = ap (λ (l : List RawMessage). count_by ends_unit l) (kept false pass) ∙ counted ends_unit f rest true ends in
        let more = counted gives_turn f fs true
        (ap (λ (c : Bool). c || ends_unit f || f.tag == byte "H") pass ∙ ap (λ (c : Bool). false || c || f.tag == byte "H") ends) in
        omega (arith, few, more, below)
    by false false pass ends below =
        let few = ap (λ (l : List RawMessage). count_by ends_unit l) (kept false pass) ∙ counted ends_unit f rest false ends in
        let more = counted gives_turn f fs (gives_turn f) refl in
        omega (arith, few, more, below)

-- each unit that was sent whole gave the turn, behind the startup's frame
pub few-units-whole : (t : List ℕ) → whole_units t ≤ turns_given t - 1
few-units-whole t = by (after_startup_frame t) refl
  where
    turns_by : Option (List ℕ) → ℕ
    turns_by o = (if asked_for_tls t then 1 else 0) + elim o [ None ↦ 0 | Some rest ↦ 1 + count_by gives_turn (messages rest) ]

    units_by : Option (List ℕ) → ℕ
    units_by o = count_by (ends_in ends_unit) (cut_after ends_unit (filter (λ f. not (is_password f)) (messages_if o)))

    by : (o : Option (List ℕ)) → after_startup_frame t ≡ o → whole_units t ≤ turns_given t - 1
    by None is =
        let none : whole_units t ≡ 0 = ap units_by is in
        omega (arith, none)
    by (Some rest) is =
        let some : whole_units t ≡ count_by ends_unit (filter (λ f. not (is_password f)) (messages rest)) =
        ap units_by is ∙ ended-pieces ends_unit (filter (λ f. not (is_password f)) (messages rest)) in
        let turns : turns_given t ≡ (if asked_for_tls t then 1 else 0) + (1 + count_by gives_turn (messages rest)) = ap turns_by is in
        omega (arith, some, turns, few-ends (messages rest))
