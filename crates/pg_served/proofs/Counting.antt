-- A server that stops before the last request is answered gives fewer ReadyForQuery than there are requests.
use Rattle.std.proofs.Common.{◌≡◌, ℕ, suc, ◌+◌, ◌<◌, ◌≤◌, Bool, true, false, cond, not, ◌||◌, ◌==◌, List, [], ◌∷◌, ◌++◌, refl, sym, ap, ◌∙◌, subst, append-nil, arith, inl, inr, ◌⊎◌, length}
use Rattle.std.specs.Prelude.{IsFalse}
use Rattle.std.specs.List.{AllByRecursion, list_all, onto_first}
use Rattle.std.specs.Str.{byte}
use Rattle.std.proofs.lemmas.Bool.{eqb-true}
use Rattle.std.proofs.lemmas.List.{length-append}
use Rattle.pg_spec.specs.RawMessages.{RawMessage, is_ready, is_aside, sync_of, cut_after, groups, is_whole_group}
use Rattle.pg_spec.specs.Sent.{ends_unit}
use Rattle.pg_machine.specs.declared.serving.Mode.TheVariants.{Normal}
use Rattle.pg_machine.specs.declared.serving.Kind.{Kind}
use Rattle.pg_machine.specs.declared.serving.Kind.TheVariants.{Query, Sync, CopyDone, CopyFail}
use Rattle.pg_machine.specs.Serving.{Service, Serving, Replied, kind_of, joined, served}
use Rattle.pg_machine.specs.Requests.{SoundAlong, IsRequest, IsReply, OnlyCopiesOpen}
use Rattle.pg_machine.proofs.ServingLaws.{served-append, front-NotReady, SoundAlong-append, Closes, request-Closes}
use Rattle.pg_machine.proofs.SessionLaws.{both_true}

-- ---- how many of some messages are ReadyForQuery

abbrev pub readies : List RawMessage → ℕ
readies [] = 0
readies (m ∷ ms) = cond (is_ready m) (suc (readies ms)) (readies ms)

pub readies-append : (xs ys : List RawMessage) → readies (xs ++ ys) ≡ readies xs + readies ys
readies-append [] ys = omega arith
readies-append (x ∷ xs) ys = by_test (is_ready x) (readies-append xs ys)
  where
    by_test : (b : Bool) → readies (xs ++ ys) ≡ readies xs + readies ys → cond b (suc (readies (xs ++ ys))) (readies (xs ++ ys)) ≡ cond b (suc (readies xs)) (readies xs) + readies ys
    by_test true e = omega (arith, e)
    by_test false e = e

readies-none : (ms : List RawMessage) → AllByRecursion (λ m. IsFalse (is_ready m)) ms → readies ms ≡ 0
readies-none [] all = refl
readies-none (m ∷ ms) all = ap (λ b. cond b (suc (readies ms)) (readies ms)) all.0 ∙ readies-none ms all.1

readies-reply : (reply : List RawMessage) → IsReply reply → readies reply ≡ 1
readies-reply reply is =
    ap readies is.is ∙ readies-append is.front (is.last ∷ []) ∙ ap (λ n. n + readies (is.last ∷ [])) (readies-none is.front is.no_other)
    ∙ ap (λ b. 0 + cond b 1 0) is.ready

readies-sync : (ms : List RawMessage) → readies (sync_of ms) ≤ readies ms
readies-sync [] = omega arith
readies-sync (m ∷ ms) = by_aside (is_aside m) (readies-sync ms)
  where
    less : (b : Bool) (n k : ℕ) → n ≤ k → n ≤ cond b (suc k) k
    less true n k le = omega (arith, le)
    less false n k le = le

    same : (b : Bool) (n k : ℕ) → n ≤ k → cond b (suc n) n ≤ cond b (suc k) k
    same true n k le = omega (arith, le)
    same false n k le = le

    by_aside : (a : Bool) → readies (sync_of ms) ≤ readies ms → readies (cond (not a) (m ∷ sync_of ms) (sync_of ms)) ≤ cond (is_ready m) (suc (readies ms)) (readies ms)
    by_aside true le = less (is_ready m) (readies (sync_of ms)) (readies ms) le
    by_aside false le = same (is_ready m) (readies (sync_of ms)) (readies ms) le

true-false : (b : Bool) → b ≡ false → b ≡ true → ⊥
true-false true e f = absurd cc
true-false false e f = absurd cc

-- where each piece is whole, each ends in one of its own
readies-pieces : (ms : List RawMessage) → list_all is_whole_group (cut_after is_ready ms) ≡ true → length (cut_after is_ready ms) ≡ readies ms
readies-pieces [] whole = refl
readies-pieces (m ∷ ms) whole = by_ready (is_ready m) refl (readies-pieces ms) whole
  where
    first : (piece : List RawMessage) (pieces : List (List RawMessage)) → is_ready m ≡ false → list_all is_whole_group ((m ∷ piece) ∷ pieces) ≡ true → list_all is_whole_group (piece ∷ pieces) ≡ true
    first [] pieces other whole = absurd (true-false (is_ready m) other (both_true (is_ready m) (list_all is_whole_group pieces) whole).0)
    first (x ∷ piece) pieces other whole = whole

    by_pieces : (pieces : List (List RawMessage)) → is_ready m ≡ false → (list_all is_whole_group pieces ≡ true → length pieces ≡ readies ms) →
        list_all is_whole_group (onto_first m pieces) ≡ true → length (onto_first m pieces) ≡ readies ms
    by_pieces [] other later whole = absurd (true-false (is_ready m) other (both_true (is_ready m) true whole).0)
    by_pieces (piece ∷ pieces) other later whole = later (first piece pieces other whole)

    by_ready : (b : Bool) → is_ready m ≡ b → (list_all is_whole_group (cut_after is_ready ms) ≡ true → length (cut_after is_ready ms) ≡ readies ms) →
        list_all is_whole_group (cond b ((m ∷ []) ∷ cut_after is_ready ms) (onto_first m (cut_after is_ready ms))) ≡ true →
        length (cond b ((m ∷ []) ∷ cut_after is_ready ms) (onto_first m (cut_after is_ready ms))) ≡ cond b (suc (readies ms)) (readies ms)
    by_ready true is later whole = ap suc (later (both_true (is_ready m) (list_all is_whole_group (cut_after is_ready ms)) whole).1)
    by_ready false is later whole = by_pieces (cut_after is_ready ms) is later whole

-- there are no more whole groups than that
pub groups-readies : (ms : List RawMessage) → list_all is_whole_group (groups ms) ≡ true → length (groups ms) ≤ readies ms
groups-readies ms whole = omega (arith, readies-pieces (sync_of ms) whole, readies-sync ms)

-- ---- fronts of a list

-- an item stands in the first list or in the second
pub split : {X : Type 0} (front : List X) (x : X) (more xs ys : List X) → front ++ x ∷ more ≡ xs ++ ys →
    ((later : List X) × (front ++ x ∷ later ≡ xs)) ⊎ ((later : List X) × (front ≡ xs ++ later) × (later ++ x ∷ more ≡ ys))
split front x more [] ys e = inr (front, refl, e)
split [] x more (y ∷ xs) ys e = let heads : x ≡ y = cc in inl (xs, ap (λ z. z ∷ xs) heads)
split {X = X} (a ∷ front) x more (y ∷ xs) ys e =
    let heads : a ≡ y = cc in
    let tails : front ++ x ∷ more ≡ xs ++ ys = cc in
    elim (split front x more xs ys tails) [
      | inl found ↦ inl (found.0, ap (λ (z : X). z ∷ front ++ x ∷ found.0) heads ∙ ap (λ (zs : List X). y ∷ zs) found.1)
      | inr found ↦ inr (found.0, ap (λ (z : X). z ∷ front) heads ∙ ap (λ (zs : List X). y ∷ zs) found.1, found.2)
    ]

-- what stands before some item stands before the last one
before_last : {X : Type 0} (front : List X) (x : X) (more xs : List X) (last : X) → front ++ x ∷ more ≡ xs ++ last ∷ [] → (later : List X) × (front ++ later ≡ xs)
before_last {X = X} front x more xs last e = by_split (split front x more xs (last ∷ []) e)
  where
    by_later : (later : List X) → front ≡ xs ++ later → later ++ x ∷ more ≡ last ∷ [] → (later : List X) × (front ++ later ≡ xs)
    by_later [] is end = ([], append-nil front ∙ is ∙ append-nil xs)
    by_later (y ∷ later) is end = absurd (omega (arith, ap length end, length-append later (x ∷ more)))

    by_split : ((later : List X) × (front ++ x ∷ later ≡ xs)) ⊎ ((later : List X) × (front ≡ xs ++ later) × (later ++ x ∷ more ≡ last ∷ [])) → (later : List X) × (front ++ later ≡ xs)
    by_split (inl found) = (x ∷ found.0, found.1)
    by_split (inr found) = by_later found.0 found.1 found.2

All-front : {X : Type 0} (P : X → Type 0) (xs ys : List X) → AllByRecursion P (xs ++ ys) → AllByRecursion P xs
All-front P [] ys all = tt
All-front P (x ∷ xs) ys all = (all.0, All-front P xs ys all.1)

All-then : {X : Type 0} (P : X → Type 0) (xs : List X) (x : X) → AllByRecursion P xs → P x → AllByRecursion P (xs ++ x ∷ [])
All-then P [] x all p = (p, tt)
All-then P (y ∷ xs) x all p = (all.0, All-then P xs x all.1 p)

-- ---- a front of a request

abbrev IsOther : RawMessage → Type 0
IsOther frame = IsFalse (ends_unit frame)

end-IsOther : (frame : RawMessage) → (kind_of frame ≡ CopyDone) ⊎ (kind_of frame ≡ CopyFail) → IsOther frame
end-IsOther frame ends = by_tests (frame.tag == byte "Q") (frame.tag == byte "S") refl refl
  where
    never : (kind : Kind) → kind_of frame ≡ kind → ((kind ≡ CopyDone) ⊎ (kind ≡ CopyFail)) → (kind ≡ Query) ⊎ (kind ≡ Sync) → ⊥
    never kind is (inl a) (inl b) = absurd cc
    never kind is (inl a) (inr b) = absurd cc
    never kind is (inr a) (inl b) = absurd cc
    never kind is (inr a) (inr b) = absurd cc

    kind_at : (tag : ℕ) → frame.tag ≡ tag → kind_of frame ≡ kind_of (record { tag = tag; body = frame.body })
    kind_at tag e = ap (λ (t : ℕ). kind_of (record { tag = t; body = frame.body })) e

    by_tests : (q s : Bool) → (frame.tag == byte "Q") ≡ q → (frame.tag == byte "S") ≡ s → (q || s) ≡ false
    by_tests true s is_q is_s = absurd (never (kind_of frame) refl ends (inl (kind_at (byte "Q") (eqb-true frame.tag (byte "Q") is_q))))
    by_tests false true is_q is_s = absurd (never (kind_of frame) refl ends (inr (kind_at (byte "S") (eqb-true frame.tag (byte "S") is_s))))
    by_tests false false is_q is_s = refl

-- before the last frame of a request stand no Query and no Sync
front-IsOther : (frames front : List RawMessage) (frame : RawMessage) (more : List RawMessage) → IsRequest frames → front ++ frame ∷ more ≡ frames → AllByRecursion IsOther front
front-IsOther frames front frame more request e = by_request request
  where
    before : (others : List RawMessage) (last : RawMessage) → frames ≡ others ++ last ∷ [] → AllByRecursion IsOther others → AllByRecursion IsOther front
    before others last is all =
        let found = before_last front frame more others last (e ∙ is) in
        All-front IsOther front found.0 (subst (AllByRecursion IsOther) (sym found.1) all)

    by_request : IsRequest frames → AllByRecursion IsOther front
    by_request (inl query) = before [] query.frame query.is tt
    by_request (inr (inl synced)) = before synced.front synced.last synced.is synced.no_other
    by_request (inr (inr copy)) = before (copy.front ++ copy.end ∷ []) copy.last copy.is (All-then IsOther copy.front copy.end copy.no_other (end-IsOther copy.end copy.ends))

-- ---- some frame of the requests wasn't answered

pub fewer : {S : Type 0} (service : Service S) (at : Serving S) (requests : List (List RawMessage)) (front : List RawMessage) (frame : RawMessage) (more : List RawMessage) →
    at.mode ≡ Normal → AllByRecursion IsRequest requests → OnlyCopiesOpen service at requests → SoundAlong service at front → front ++ frame ∷ more ≡ joined requests →
    readies (served service at front).reply < length requests
fewer service at [] front frame more normal are only sound e = absurd (omega (arith, ap length e, length-append front (frame ∷ more)))
fewer {S = S} service at (frames ∷ requests) front frame more normal are only sound e =
    by_split (split front frame more frames (joined requests) e)
    (λ later normal sound is. fewer service (served service at frames).next requests later frame more normal are.1 only.1 sound is)
  where
    inside : (later : List RawMessage) → front ++ frame ∷ later ≡ frames → readies (served service at front).reply < suc (length requests)
    inside later is =
        let none : readies (served service at front).reply ≡ 0
        = readies-none (served service at front).reply (front-NotReady service at front (front-IsOther frames front frame later are.0 is) sound) in
        omega (arith, none)

    behind : (later : List RawMessage) → front ≡ frames ++ later →
        ((served service at frames).next.mode ≡ Normal → SoundAlong service (served service at frames).next later → readies (served service (served service at frames).next later).reply < length requests) →
        readies (served service at front).reply < suc (length requests)
    behind later is rest =
        let sounds = SoundAlong-append service at frames later (subst (SoundAlong service at) is sound) in
        let closes : Closes (served service at frames) = request-Closes service at frames normal are.0 sounds.0 only.0 in
        let reply : (served service at front).reply ≡ (served service at frames).reply ++ (served service (served service at frames).next later).reply
        = ap (λ (fs : List RawMessage). (served service at fs).reply) is ∙ ap (λ (r : Replied S). r.reply) (served-append service at frames later) in
        omega (
          arith,
          ap readies reply,
          readies-append (served service at frames).reply (served service (served service at frames).next later).reply,
          readies-reply (served service at frames).reply closes.reply,
          rest closes.normal sounds.1,
        )

    by_split : ((later : List RawMessage) × (front ++ frame ∷ later ≡ frames)) ⊎ ((later : List RawMessage) × (front ≡ frames ++ later) × (later ++ frame ∷ more ≡ joined requests)) →
        ((later : List RawMessage) → (served service at frames).next.mode ≡ Normal → SoundAlong service (served service at frames).next later → later ++ frame ∷ more ≡ joined requests →
        readies (served service (served service at frames).next later).reply < length requests) →
        readies (served service at front).reply < suc (length requests)
    by_split (inl found) rest = inside found.0 found.1
    by_split (inr found) rest = behind found.0 found.1 (λ n s. rest found.0 n s found.2)
