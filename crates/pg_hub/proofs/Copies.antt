-- What a part more of a copy does to a pipeline, and why one is refused.
use Rattle.std.proofs.Common.{◌≡◌, ◌⊎◌, ◌<◌, ◌≤◌, ◌+◌, ◌++◌, ℕ, List, [], ◌∷◌, length, true, false, refl, sym, ◌∙◌, subst, inl, inr, slice_set}
use Rattle.pg_desk.specs.declared.event.Event.TheVariants as call
use Rattle.pg_desk.specs.declared.event.Put.TheVariants as putting
use Rattle.pg_desk.specs.History.{State, is_running}
use Rattle.pg_hub.specs.Copies.{IsCopy, IsNoCopy}
use Rattle.pg_hub.specs.Fits.{PipelineFits, PipelineBecomes}
use Rattle.pg_hub.specs.Rests.{rest_at}
use Rattle.pg_hub.specs.Standing.{InFlight, with_book}
use Rattle.pg_hub.proofs.Simulation.{outgoing-length, waiting-is, running, not-booked, not-copying, gone-not-running, put-fits, end-fits}

-- each request has a mailbox, and something left of it or nothing
sizes : (s : State) (q : InFlight) → PipelineFits s q → length q.outgoing ≡ length q.mail
sizes s q f = outgoing-length s (with_book s.book q) f ∙ sym f.standing.mail

-- a copy runs
runs : (s : State) (q : InFlight) (id : ℕ) → PipelineFits s q → IsCopy q id → is_running s id ≡ true
runs s q id f c = running s (with_book s.book q) id f (subst (λ (n : ℕ). id < n) (sym (sizes s q f)) c.booked) c.copies c.here

-- and what is none doesn't, or the hub failed
runs-not : (s : State) (q : InFlight) (id : ℕ) → PipelineFits s q → IsNoCopy q id → (s.failed ≡ true) ⊎ (is_running s id ≡ false)
runs-not s q id f (inl failed) = inl (sym f.failed ∙ failed)
runs-not s q id f (inr (inl past)) = inr (not-booked s (with_book s.book q) id f (subst (λ (n : ℕ). n ≤ id) (sym (sizes s q f)) past))
runs-not s q id f (inr (inr (inl ended))) = inr (not-copying s (with_book s.book q) id f ended)
runs-not s q id f (inr (inr (inr (low, gone)))) = inr (gone-not-running s (with_book s.book q) id f (subst (λ (n : ℕ). id < n) (sym (sizes s q f)) low) gone)

-- ---- put

pub put-gone : (q : InFlight) (id : ℕ) (part : List ℕ) → IsNoCopy q id → PipelineBecomes q (call.Put id part (putting.Gone part) ∷ []) q
put-gone q id part none = record { stands = λ s f. (((refl, runs-not s q id f none), tt, tt), f); touched = λ s f. refl }

pub put-full : (q : InFlight) (id : ℕ) (part : List ℕ) → IsCopy q id → 2 ≤ length (rest_at q.outgoing id).parts → PipelineBecomes q (call.Put id part (putting.Full part) ∷ []) q
put-full q id part c full = record {
  stands = λ s f. (((refl, sym f.failed ∙ c.going, runs s q id f c, subst (λ (n : ℕ). 2 ≤ n) (waiting-is s (with_book s.book q) id f) full), tt, tt), f);
  touched = λ s f. refl;
}

pub put-unmade : (q : InFlight) (id : ℕ) (part : List ℕ) → IsCopy q id → length (rest_at q.outgoing id).parts < 2 → PipelineBecomes q (call.Put id part (putting.OutOfMemory part) ∷ []) q
put-unmade q id part c room = record {
  stands = λ s f. ((refl, (sym f.failed ∙ c.going, runs s q id f c, subst (λ (n : ℕ). n < 2) (waiting-is s (with_book s.book q) id f) room), tt), f);
  touched = λ s f. refl;
}

pub put-took : (q : InFlight) (id : ℕ) (part : List ℕ) (unsent : ℕ) → IsCopy q id → length (rest_at q.outgoing id).parts < 2 → unsent ≡ q.unsent + (length part + 1) →
    PipelineBecomes q (call.Put id part putting.Took ∷ []) (record q { outgoing = slice_set q.outgoing id (record { parts = (rest_at q.outgoing id).parts ++ part ∷ []; copying = true }); unsent = unsent; touched = true })
put-took q id part unsent c room eu = record {
  stands = λ s f.
      let r = runs s q id f c in (
        ((sym f.failed ∙ c.going, r, subst (λ (n : ℕ). n < 2) (waiting-is s (with_book s.book q) id f) room), tt, tt),
        put-fits s (with_book s.book q) id part _ unsent f r (subst (λ (n : ℕ). id < n) (sym (sizes s q f)) c.booked) refl eu,
      );
  touched = λ s f. refl;
}

-- ---- end_copy

pub end-gone : (q : InFlight) (id : ℕ) (part : List ℕ) → IsNoCopy q id → PipelineBecomes q (call.EndCopy id part (putting.Gone part) ∷ []) q
end-gone q id part none = record { stands = λ s f. (((refl, runs-not s q id f none), tt, tt), f); touched = λ s f. refl }

pub end-unmade : (q : InFlight) (id : ℕ) (part : List ℕ) → IsCopy q id → PipelineBecomes q (call.EndCopy id part (putting.OutOfMemory part) ∷ []) q
end-unmade q id part c = record {
  stands = λ s f. ((refl, (sym f.failed ∙ c.going, runs s q id f c), tt), f);
  touched = λ s f. refl;
}

pub end-took : (q : InFlight) (id : ℕ) (part : List ℕ) (unsent : ℕ) → IsCopy q id → unsent ≡ q.unsent + (length part + 1) →
    PipelineBecomes q (call.EndCopy id part putting.Took ∷ []) (record q { outgoing = slice_set q.outgoing id (record { parts = (rest_at q.outgoing id).parts ++ part ∷ []; copying = false }); unsent = unsent; touched = true })
end-took q id part unsent c eu = record {
  stands = λ s f.
      let r = runs s q id f c in (
        ((sym f.failed ∙ c.going, r), tt, tt),
        end-fits s (with_book s.book q) id part _ unsent f r (subst (λ (n : ℕ). id < n) (sym (sizes s q f)) c.booked) refl eu,
      );
  touched = λ s f. refl;
}
