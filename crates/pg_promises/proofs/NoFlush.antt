-- Where no Flush was sent.
use Rattle.std.proofs.Common.{◌≡◌, ℕ, zero, suc, ◌+◌, ◌≤◌, arith, List, [], ◌∷◌, ◌++◌, length, map, take, drop, Bool, true, false, cond, not, ◌||◌, if◌then◌else◌, Option, Some, None, Result, Ok, Err, inl, inr, refl, sym, ap, ◌∙◌, subst}
use Rattle.std.specs.Prelude.{IfSome, IsFalse, filter, count_by}
use Rattle.std.specs.List.{list_any, onto_first, AllByRecursion}
use Rattle.std.proofs.lemmas.List.Elements.{recursion_from_All}
use Rattle.std.proofs.lemmas.List.Sums.{sum_by-cons}
use Rattle.pg_promises.specs.Calls.{apart}
use Rattle.pg_promises.specs.FailedCauses.{HasCause, IsAwaited, awaits_opening, is_flush}
use Rattle.pg_promises.specs.Completeness.{AnswersRequests, AreReplies, EndsWell, MustEndWell, flushes}
use Rattle.pg_promises.specs.FailedLanded.{TookNoFlush, call_of, has_flush}
use Rattle.pg_promises.specs.Causes as landed
use Rattle.pg_promises.specs.Promises as simple
use Rattle.pg_promises.specs.Promises.{IsOneReply}
use Rattle.pg_spec.specs.Faults.{Failure, Stalled, LimitReached, OutOfMemory}
use Rattle.pg_spec.specs.Links.{LinkView, OfBytes, Plan, added}
use Rattle.pg_spec.specs.RawMessages.{RawMessage, messages, cut_after, ends_in}
use Rattle.pg_spec.specs.Report.{Report}
use Rattle.pg_spec.specs.Sent.{after_startup_frame, asked_for_tls, ends_unit, gives_turn, is_password, messages_if, tagged_frames, turns_given, units}
use Rattle.pg_spec.specs.Settings.{Settings}

-- ---- what no item of a list passes

either : (a b : Bool) → (a || b) ≡ false → (a ≡ false) × (b ≡ false)
either false b h = (refl, h)
either true b h = absurd cc

module _ {X : Type 0} (f : X → Bool) where
  -- of those that are kept none
  kept-none : (p : X → Bool) (xs : List X) → list_any f xs ≡ false → list_any f (filter p xs) ≡ false
  kept-none p [] h = refl
  kept-none p (x ∷ xs) h = by (p x) (kept-none p xs (either (f x) (list_any f xs) h).1)
    where
      by : (b : Bool) → list_any f (filter p xs) ≡ false → list_any f (cond b (x ∷ filter p xs) (filter p xs)) ≡ false
      by true rest = ap (λ (b : Bool). b || list_any f (filter p xs)) (either (f x) (list_any f xs) h).0 ∙ rest
      by false rest = rest

  -- so none is the last one
  no-end : (xs : List X) → list_any f xs ≡ false → ends_in f xs ≡ false
  no-end [] h = refl
  no-end (x ∷ []) h = (either (f x) false h).0
  no-end (x ∷ y ∷ xs) h = no-end (y ∷ xs) (either (f x) (list_any f (y ∷ xs)) h).1

  -- nor is any in the pieces
  in-pieces : (p : X → Bool) (xs : List X) → list_any f xs ≡ false → AllByRecursion (λ piece. list_any f piece ≡ false) (cut_after p xs)
  in-pieces p [] h = tt
  in-pieces p (x ∷ xs) h = by (p x) (cut_after p xs) (in-pieces p xs none.1)
    where
      none : (f x ≡ false) × (list_any f xs ≡ false)
      none = either (f x) (list_any f xs) h

      one : list_any f (x ∷ []) ≡ false
      one = ap (λ (b : Bool). b || false) none.0

      by : (b : Bool) (pieces : List (List X)) → AllByRecursion (λ piece. list_any f piece ≡ false) pieces → AllByRecursion (λ piece. list_any f piece ≡ false) (if b then (x ∷ []) ∷ pieces else onto_first x pieces)
      by true pieces rest = (one, rest)
      by false [] rest = (one, tt)
      by false (piece ∷ pieces) rest = (ap (λ (b : Bool). b || list_any f piece) none.0 ∙ rest.0, rest.1)

  no-ends : (pieces : List (List X)) → AllByRecursion (λ piece. list_any f piece ≡ false) pieces → list_any (ends_in f) pieces ≡ false
  no-ends [] h = refl
  no-ends (piece ∷ pieces) h = ap (λ (b : Bool). b || list_any (ends_in f) pieces) (no-end piece h.0) ∙ no-ends pieces h.1

-- no copy's opening is awaited
no-opening : (t : List ℕ) → has_flush t ≡ false → awaits_opening t ≡ false
no-opening t none =
    let frames = filter (λ frame. not (is_password frame)) (tagged_frames t) in
    no-ends is_flush (units t) (in-pieces is_flush ends_unit frames (kept-none is_flush (λ frame. not (is_password frame)) (tagged_frames t) none))

-- ---- causes

-- two facts of the bytes that are told
both-told : (before after : LinkView) (P S U : List ℕ → List ℕ → Type 0) → ((g t : List ℕ) → P g t → S g t → U g t) → OfBytes before after P → OfBytes before after S → OfBytes before after U
both-told before after P S U so = by (added before.given after.given) (added before.taken after.taken)
  where
    by : (g t : Option (List ℕ)) → IfSome g (λ g. IfSome t (λ t. P g t)) → IfSome g (λ g. IfSome t (λ t. S g t)) → IfSome g (λ g. IfSome t (λ t. U g t))
    by None t p q = tt
    by (Some g) None p q = tt
    by (Some g) (Some t) p q = so g t p q

awaited-so : (call : landed.Call) (s : Settings) (g t : List ℕ) → IsAwaited (call_of call) s g t → has_flush t ≡ false → landed.IsAwaited call s g t
awaited-so call s g t (inl h) none = h
awaited-so call s g t (inr h) none = absurd (let no : true ≡ false = sym h.1.2.asked ∙ no-opening t none in cc)

pub caused : (call : landed.Call) (failure : Failure) → TookNoFlush call → HasCause (call_of call) failure → landed.HasCause call failure
caused call (Stalled before after) none h = record {
  lulls = h.lulls;
  from = h.from;
  to = h.to;
  rose = h.rose;
  round = h.round;
  last = h.last;
  exact = h.exact;
  awaited = λ steady. let a = h.awaited steady in (
    a.0,
    (
      a.1.0,
      a.1.1,
      both-told call.before call.after (λ g t. IsAwaited (call_of call) a.1.0 g t) (λ g t. IsFalse (has_flush t)) (λ g t. landed.IsAwaited call a.1.0 g t)
          (λ g t p q. awaited-so call a.1.0 g t p q) a.1.2 none,
    ),
  );
}
caused call (LimitReached given limit) none h = record { asked = h.asked; more = h.more; counted = h.counted }
caused call _ none h = h

-- ---- the frames that give the turn

-- as many as turns
pub flushes-many : (t : List ℕ) → length (flushes t) ≡ turns_given t
flushes-many t = by (asked_for_tls t) (after_startup_frame t)
  where
    count : (ms : List RawMessage) → length (map is_flush (filter gives_turn ms)) ≡ count_by gives_turn ms
    count [] = refl
    count (m ∷ ms) = more (gives_turn m) (count ms) ∙ sym (sum_by-cons (λ (x : RawMessage). cond (gives_turn x) 1 0) m ms)
      where
        more : (b : Bool) → length (map is_flush (filter gives_turn ms)) ≡ count_by gives_turn ms →
            length (map is_flush (cond b (m ∷ filter gives_turn ms) (filter gives_turn ms))) ≡ cond b 1 0 + count_by gives_turn ms
        more true e = omega (arith, e)
        more false e = omega (arith, e)

    by : (b : Bool) (o : Option (List ℕ)) → length ((if b then false ∷ [] else []) ++ elim o as (λ _. List Bool) [ None ↦ [] | Some rest ↦ false ∷ map is_flush (filter gives_turn (messages rest)) ])
        ≡ (if b then 1 else 0) + elim o as (λ _. ℕ) [ None ↦ 0 | Some rest ↦ 1 + count_by gives_turn (messages rest) ]
    by true None = refl
    by false None = refl
    by true (Some rest) = omega (arith, count (messages rest))
    by false (Some rest) = omega (arith, count (messages rest))

abbrev pub NoneIs : List Bool → Type 0
NoneIs fs = AllByRecursion (λ f. f ≡ false) fs

pub flushes-none : (t : List ℕ) → has_flush t ≡ false → NoneIs (flushes t)
flushes-none t none = by (asked_for_tls t) (after_startup_frame t) none
  where
    mapped : (ms : List RawMessage) → list_any is_flush ms ≡ false → NoneIs (map is_flush ms)
    mapped [] h = tt
    mapped (m ∷ ms) h = let n = either (is_flush m) (list_any is_flush ms) h in (n.0, mapped ms n.1)

    by : (b : Bool) (o : Option (List ℕ)) → list_any is_flush (messages_if o) ≡ false →
        NoneIs ((if b then false ∷ [] else []) ++ elim o as (λ _. List Bool) [ None ↦ [] | Some rest ↦ false ∷ map is_flush (filter gives_turn (messages rest)) ])
    by true None h = (refl, tt)
    by false None h = tt
    by true (Some rest) h = (refl, (refl, mapped (filter gives_turn (messages rest)) (kept-none is_flush gives_turn (messages rest) h)))
    by false (Some rest) h = (refl, mapped (filter gives_turn (messages rest)) (kept-none is_flush gives_turn (messages rest) h))

-- so each is answered by one reply
are-replies : (fs : List Bool) (es : List (List ℕ)) → NoneIs fs → length fs ≤ length es → AllByRecursion IsOneReply (take (length fs) es) → AreReplies fs es
are-replies [] es none few ones = tt
are-replies (f ∷ fs) [] none few ones = absurd (omega (arith, few))
are-replies (true ∷ fs) (e ∷ es) none few ones = absurd (let no : true ≡ false = none.0 in cc)
are-replies (false ∷ fs) (e ∷ es) none few ones = (ones.0, are-replies fs es none.1 (omega (arith, few)) ones.1)

behind-frames : (k : ℕ) (fs : List Bool) (es : List (List ℕ)) → NoneIs fs → length fs ≤ length es → AllByRecursion IsOneReply (drop k (take (length fs) es)) → AreReplies (drop k fs) (drop k es)
behind-frames zero fs es none few ones = are-replies fs es none few ones
behind-frames (suc k) [] es none few ones = tt
behind-frames (suc k) (f ∷ fs) [] none few ones = absurd (omega (arith, few))
behind-frames (suc k) (f ∷ fs) (e ∷ es) none few ones = behind-frames k fs es none.1 (omega (arith, few)) ones

pub answers : (plan : Plan) (frames : ℕ) (t : List ℕ) → has_flush t ≡ false → simple.AnswersRequests plan frames t → AnswersRequests plan frames t
answers plan frames t none h =
    let many = flushes-many t in
    let ones = recursion_from_All IsOneReply (drop frames (take (turns_given t) plan.entries)) h.replies in
    let few = h.entries in
    behind-frames frames (flushes t) plan.entries (flushes-none t none) (omega (arith, many, few))
    (subst (λ (n : ℕ). AllByRecursion IsOneReply (drop frames (take n plan.entries))) (sym many) ones)

-- ---- valid input

pub must-end : (call : landed.Call) (result : Result Report Failure) → ((taken : List ℕ) → call.after.taken ≡ Some taken → IsFalse (has_flush taken)) →
    MustEndWell (call_of call) result → simple.MustEndWell call result
must-end call result none h = λ plan s taken given before is after means valid conforms.
    ends result (h plan s taken given before is after means
    (record { user = valid.user; nonce = valid.nonce; frame = valid.frame; no_tls = valid.no_tls; no_binding = valid.no_binding; limit = valid.limit })
    (record { opens = opened conforms.opens; later = answers plan conforms.opens.frames taken (none taken after) conforms.later }))
  where
    opened : {s : Settings} {plan : Plan} → simple.AnswersStartup call s plan → simple.AnswersStartup (apart (call_of call)) s plan
    opened o = record { untroubled = o.untroubled; whole = o.whole; frames = o.frames; started = o.started; each_frame = o.each_frame; all_frames = o.all_frames; readable = o.readable }

    ends : (r : Result Report Failure) → EndsWell r → simple.EndsWell r
    ends (Ok report) e = e
    ends (Err OutOfMemory) e = e
    ends (Err _) e = e
