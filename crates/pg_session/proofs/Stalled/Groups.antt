-- How many requests were sent whole, and how many groups came whole.
use Rattle.std.proofs.Common.{◌≡◌, ℕ, ◌+◌, suc, List, [], ◌∷◌, ◌++◌, length, map, Bool, true, false, cond, if◌then◌else◌, refl, sym, ap, ◌∙◌, arith}
use Rattle.std.specs.Prelude.{count_by}
use Rattle.std.specs.List.{onto_first}
use Rattle.std.proofs.lemmas.List.{length-map}
use Rattle.std.proofs.lemmas.List.Sums.{sum_by-append, sum_by-cons}
use Rattle.pg_spec.specs.Batches.{is_batch}
use Rattle.pg_spec.specs.RawMessages.{RawMessage, messages, is_ready, cut_after, ends_in, is_whole_group}
use Rattle.pg_spec.specs.Sent.{ends_unit, whole_units}
use Rattle.pg_desk.specs.History.{Delivery, finished, joined, received}
use Rattle.pg_desk.proofs.Soundness.{AllCut}
use Rattle.pg_spec.specs.Settings.{Settings}
use Rattle.pg_session.proofs.Crossing.Groups.{first-of, First, GoesOn, Last}
use Rattle.pg_session.proofs.Caused.Frames.{AllEndAlone, AreRequests, each-ends, ends-alone, units-of}
use Rattle.pg_session.proofs.Opening.{IsOpening}
use Rattle.pg_session.proofs.Opening.Sent.{opening-units}

counted : {X : Type 0} (p : X → Bool) (x : X) (xs : List X) (b : Bool) → p x ≡ b → count_by p (x ∷ xs) ≡ cond b 1 0 + count_by p xs
counted p x xs b is = sum_by-cons (λ y. cond (p y) 1 0) x xs ∙ ap (λ (c : Bool). cond c 1 0 + count_by p xs) is

one-more : {X : Type 0} (p : X → Bool) (x : X) (xs : List X) (n : ℕ) → p x ≡ true → count_by p xs ≡ n → count_by p (x ∷ xs) ≡ suc n
one-more p x xs n is so = let e = counted p x xs true is in omega (arith, e, so)

no-more : {X : Type 0} (p : X → Bool) (x : X) (xs : List X) → p x ≡ false → count_by p (x ∷ xs) ≡ count_by p xs
no-more p x xs is = let e = counted p x xs false is in omega (arith, e)

-- ---- requests

-- each request ends its piece
count-requests : (gs : List (List RawMessage)) → AllEndAlone gs → count_by (ends_in ends_unit) gs ≡ length gs
count-requests [] h = refl
count-requests (g ∷ gs) h = one-more (ends_in ends_unit) g gs (length gs) (ends-alone g h.0) (count-requests gs h.1)

-- behind the startup's frames each part is a unit
pub units-sent : (settings : Settings) (opening : List ℕ) (parts : List (List ℕ)) → IsOpening settings opening → AreRequests parts → whole_units (opening ++ joined parts) ≡ length parts
units-sent settings opening parts o requests =
    ap (λ (us : List (List RawMessage)). count_by (ends_in ends_unit) us) (opening-units settings opening o (joined parts) ∙ units-of parts requests)
    ∙ count-requests (map messages parts) (each-ends parts requests) ∙ length-map parts messages

-- ---- groups

-- each whole group ends with its ReadyForQuery
whole-onto : (m : RawMessage) (pieces : List (List RawMessage)) → is_ready m ≡ false → count_by is_whole_group (onto_first m pieces) ≡ count_by is_whole_group pieces
whole-onto m [] e = no-more is_whole_group (m ∷ []) [] e
whole-onto m ([] ∷ ps) e = no-more is_whole_group (m ∷ []) ps e ∙ sym (no-more is_whole_group [] ps refl)
whole-onto m ((x ∷ p) ∷ ps) e = counted is_whole_group (m ∷ x ∷ p) ps (is_whole_group (x ∷ p)) refl ∙ sym (counted is_whole_group (x ∷ p) ps (is_whole_group (x ∷ p)) refl)

ready-one : (m : RawMessage) (ms : List RawMessage) (b : Bool) → is_ready m ≡ b → count_by is_whole_group (cut_after is_ready ms) ≡ count_by is_ready ms →
    count_by is_whole_group (cut_after is_ready (m ∷ ms)) ≡ count_by is_ready (m ∷ ms)
ready-one m ms true e rest =
    ap (λ (b : Bool). count_by is_whole_group (if b then (m ∷ []) ∷ cut_after is_ready ms else onto_first m (cut_after is_ready ms))) e
    ∙ one-more is_whole_group (m ∷ []) (cut_after is_ready ms) (count_by is_ready ms) e rest ∙ sym (one-more is_ready m ms (count_by is_ready ms) e refl)
ready-one m ms false e rest =
    ap (λ (b : Bool). count_by is_whole_group (if b then (m ∷ []) ∷ cut_after is_ready ms else onto_first m (cut_after is_ready ms))) e
    ∙ whole-onto m (cut_after is_ready ms) e ∙ rest ∙ sym (no-more is_ready m ms e)

ready-groups : (ms : List RawMessage) → count_by is_whole_group (cut_after is_ready ms) ≡ count_by is_ready ms
ready-groups [] = refl
ready-groups (m ∷ ms) = ready-one m ms (is_ready m) refl (ready-groups ms)

-- one ReadyForQuery for a batch that is complete, and none else
abbrev one_if : Bool → ℕ
one_if complete = if complete then 1 else 0

first-ready : (complete : Bool) (m : RawMessage) (ms : List RawMessage) → First complete m ms → (is_batch complete ms ≡ true → count_by is_ready ms ≡ one_if complete) →
    count_by is_ready (m ∷ ms) ≡ one_if complete
first-ready complete m ms (GoesOn none more) rest = no-more is_ready m ms none ∙ rest more
first-ready complete m ms (Last ready last nothing) rest =
    one-more is_ready m ms 0 ready (ap (λ (l : List RawMessage). count_by is_ready l) nothing) ∙ ap one_if (sym last)

batch-ready : (complete : Bool) (ms : List RawMessage) → is_batch complete ms ≡ true → count_by is_ready ms ≡ one_if complete
batch-ready true [] e = absurd cc
batch-ready false [] e = refl
batch-ready complete (m ∷ ms) e = first-ready complete m ms (first-of complete m ms e) (λ more. batch-ready complete ms more)

one-ended : (b : Bool) (n : ℕ) → one_if b + n ≡ (if b then suc n else n)
one-ended true n = omega arith
one-ended false n = omega arith

ready-ended : (ds : List Delivery) → AllCut ds → count_by is_ready (received ds) ≡ finished ds
ready-ended [] cut = refl
ready-ended (d ∷ ds) cut =
    sum_by-append (λ m. cond (is_ready m) 1 0) d.messages (received ds) ∙ ap (λ (n : ℕ). n + count_by is_ready (received ds)) (batch-ready d.complete d.messages cut.0)
    ∙ ap (λ (n : ℕ). one_if d.complete + n) (ready-ended ds cut.1) ∙ one-ended d.complete (finished ds)

-- as many groups came whole as have ended
pub groups-ended : (ds : List Delivery) → AllCut ds → count_by is_whole_group (cut_after is_ready (received ds)) ≡ finished ds
groups-ended ds cut = ready-groups (received ds) ∙ ready-ended ds cut
