-- A plan that answers what any commands sent, where they sent no Flush, answers each request by one reply.
use Rattle.std.proofs.Common.{◌≡◌, ◌≤◌, ◌-◌, ℕ, zero, suc, List, [], ◌∷◌, length, take, drop, Bool, true, false, refl, sym, ap, subst, ◌∙◌, arith}
use Rattle.std.specs.List.{AllByRecursion}
use Rattle.std.proofs.lemmas.List.{length-drop}
use Rattle.pg_promises.specs.Calls.{Call, apart}
use Rattle.pg_promises.specs.Completeness.{AreReplies, Conforms, flushes}
use Rattle.pg_promises.specs.FailedLanded.{has_flush}
use Rattle.pg_promises.proofs.NoFlush.{NoneIs, flushes-many, flushes-none}
use Rattle.pg_promises.specs.Promises.{IsOneReply}
use Rattle.pg_spec.specs.Links.{Plan}
use Rattle.pg_spec.specs.Sent.{turns_given}
use Rattle.pg_spec.specs.Settings.{Settings}
use Rattle.pg_session.proofs.Complete.{IsAnswered}

none-left : (k : ℕ) (fs : List Bool) → NoneIs fs → NoneIs (drop k fs)
none-left zero fs h = h
none-left (suc k) [] h = tt
none-left (suc k) (f ∷ fs) h = none-left k fs h.1

-- each frame has its entry, which is one reply
record HaveReplies (many : ℕ) (entries : List (List ℕ)) : Type 0 where
  few : many ≤ length entries
  replies : AllByRecursion IsOneReply (take many entries)

have-replies : (fs : List Bool) (entries : List (List ℕ)) → NoneIs fs → AreReplies fs entries → HaveReplies (length fs) entries
have-replies [] entries none h = record { few = omega arith; replies = tt }
have-replies (f ∷ fs) [] none h = absurd h
have-replies (true ∷ fs) (e ∷ entries) none h = absurd (let no : true ≡ false = none.0 in cc)
have-replies (false ∷ fs) (e ∷ entries) none h =
    let rest = have-replies fs entries none.1 h.1 in
    record { few = (let few = rest.few in omega (arith, few)); replies = (h.0, rest.replies) }

-- the front of what is left is what is left of the front
left-front : {X : Type 0} (k n : ℕ) (xs : List X) → drop k (take n xs) ≡ take (n - k) (drop k xs)
left-front zero n xs = let same : n - zero ≡ n = omega arith in ap (λ (m : ℕ). take m xs) (sym same)
left-front {X} (suc k) n [] = nothing n ∙ sym (nothing-left (n - suc k))
  where
    nothing : (n : ℕ) → ◌≡◌ {A = List X} (drop (suc k) (take n [])) []
    nothing zero = refl
    nothing (suc n) = refl

    nothing-left : (m : ℕ) → ◌≡◌ {A = List X} (take m (drop (suc k) [])) []
    nothing-left zero = refl
    nothing-left (suc m) = refl
left-front (suc k) zero (x ∷ xs) =
    let none : zero - suc k ≡ zero = omega arith in
    ap (λ (m : ℕ). take m (drop k xs)) (sym none)
left-front (suc k) (suc n) (x ∷ xs) =
    let same : suc n - suc k ≡ n - k = omega arith in
    left-front k n xs ∙ ap (λ (m : ℕ). take m (drop k xs)) (sym same)

pub answers : {C : Type 0} (call : Call C) (s : Settings) (plan : Plan) (t : List ℕ) → has_flush t ≡ false → Conforms call s plan t → IsAnswered (apart call) s plan t
answers call s plan t none c =
    let k = c.opens.frames in
    let left : length (drop k (flushes t)) ≡ turns_given t - k = length-drop k (flushes t) ∙ ap (λ (n : ℕ). n - k) (flushes-many t) in
    let h = have-replies (drop k (flushes t)) (drop k plan.entries) (none-left k (flushes t) (flushes-none t none)) c.later in
    let few = h.few in
    record {
      opens = c.opens;
      few = omega (arith, few, left, length-drop k plan.entries);
      replies = subst (λ (l : List (List ℕ)). AllByRecursion IsOneReply l) (sym (left-front k (turns_given t) plan.entries))
          (subst (λ (n : ℕ). AllByRecursion IsOneReply (take n (drop k plan.entries))) left h.replies);
    }
