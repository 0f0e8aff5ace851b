-- The flags of copies, one for each request.
use Rattle.std.proofs.Common.{◌≡◌, ◌≢◌, ◌<◌, ℕ, zero, suc, ◌+◌, List, [], ◌∷◌, ◌++◌, length, slice_set, Bool, true, false, refl, sym, ap, subst, ◌∙◌, arith}
use Rattle.std.proofs.lemmas.List.{length_push, length-set}
use Rattle.pg_desk.specs.declared.event.Booking.{Booking}
use Rattle.pg_desk.specs.declared.event.Event.{Event}
use Rattle.pg_desk.specs.History.{State, Change, Booked, Added, Ended, change_of, changed, after, is_copying}
use Rattle.pg_desk.proofs.Parts.{extended-length}
use Rattle.pg_desk.proofs.Soundness.{legal-kept}
use Rattle.pg_core.specs.Lists.{IsReached}

-- one flag for each request
abbrev pub AreFlagged : State → Type 0
AreFlagged s = length s.copying ≡ length s.book

flagged-by : (s : State) (c : Change) → AreFlagged s → AreFlagged (changed s c)
flagged-by s (Booked stamp part copying) h =
    let b : Booking = record { stamp = stamp; parts = part ∷ [] } in
    length_push s.copying copying ∙ ap (λ (n : ℕ). n + 1) h ∙ sym (length_push s.book b)
flagged-by s (Added id part) h = h ∙ sym (extended-length id part s.book)
flagged-by s (Ended id part) h = length-set s.copying id false ∙ h ∙ sym (extended-length id part s.book)
flagged-by s c h = h

pub flagged-one : (s : State) (e : Event) → AreFlagged s → AreFlagged (after s e)
flagged-one s e h = flagged-by s (change_of e) h

pub flagged : (s : State) → IsReached s → AreFlagged s
flagged s h = subst AreFlagged (sym h.is) (legal-kept h.statements h.portals h.before h.legal).order.flags

-- a request that is a copy is one of those that have a flag
pub copying-within : (k : ℕ) (cs : List Bool) → is_copying k cs ≡ true → k < length cs
copying-within k [] h = absurd cc
copying-within zero (c ∷ cs) h = omega arith
copying-within (suc k) (c ∷ cs) h = let lt = copying-within k cs h in omega (arith, lt)

-- the flag of a new request
pub copying-new : (k : ℕ) (cs : List Bool) (c : Bool) → k ≡ length cs → is_copying k (cs ++ c ∷ []) ≡ c
copying-new zero [] c e = refl
copying-new (suc k) [] c e = absurd (omega (arith, e))
copying-new zero (x ∷ cs) c e = absurd (omega (arith, e))
copying-new (suc k) (x ∷ cs) c e = copying-new k cs c (omega (arith, e))

-- it stays where another is booked
pub copying-more : (k : ℕ) (cs : List Bool) (c : Bool) → k < length cs → is_copying k (cs ++ c ∷ []) ≡ is_copying k cs
copying-more k [] c lt = absurd (omega (arith, lt))
copying-more zero (x ∷ cs) c lt = refl
copying-more (suc k) (x ∷ cs) c lt = copying-more k cs c (omega (arith, lt))

-- and where another copy is ended
pub copying-other : (k id : ℕ) (cs : List Bool) → id ≢ k → is_copying k (slice_set cs id false) ≡ is_copying k cs
copying-other k id [] apart = refl
copying-other zero zero (x ∷ cs) apart = absurd (apart refl)
copying-other zero (suc id) (x ∷ cs) apart = refl
copying-other (suc k) zero (x ∷ cs) apart = refl
copying-other (suc k) (suc id) (x ∷ cs) apart = copying-other k id cs (λ same. apart (ap suc same))

-- a copy that is ended is open no more
pub copying-ended : (k : ℕ) (cs : List Bool) → is_copying k (slice_set cs k false) ≡ false
copying-ended k [] = refl
copying-ended zero (x ∷ cs) = refl
copying-ended (suc k) (x ∷ cs) = copying-ended k cs
