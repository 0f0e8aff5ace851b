-- How many parts were put, by what the hub holds.
use Rattle.std.proofs.Common.{◌≡◌, ℕ, zero, suc, ◌+◌, ◌-◌, List, [], ◌∷◌, ◌++◌, length, Bool, true, false, Ok, Err, refl, sym, ap, ◌∙◌, subst, arith, slice_set}
use Rattle.std.proofs.lemmas.List.{length_push, length-set}
use Rattle.pg_connect.specs.Passed.{IsEngineCall, AllEngineCalls}
use Rattle.pg_desk.specs.declared.event.Booking.{Booking}
use Rattle.pg_desk.specs.declared.event.Deliver.TheVariants as delivering
use Rattle.pg_desk.specs.declared.event.Event.{Event}
use Rattle.pg_desk.specs.declared.event.Event.TheVariants.{Book, Put as PutEvent, EndCopy, Take as TakeEvent, HangUp, NextStatement, NextPortal, Catalog as CatalogEvent, NextOut, Deliver as DeliverEvent, CloseRequests, Fail}
use Rattle.pg_desk.specs.declared.event.Out.TheVariants as out
use Rattle.pg_desk.specs.declared.event.Put.TheVariants as putting
use Rattle.pg_desk.specs.declared.event.Take.TheVariants as taking
use Rattle.pg_spec.specs.declared.stamps.Stamp.{Stamp}
use Rattle.pg_desk.specs.History.{State, extended, first_flag, is_copying, rest_flags, after, after_all, Allows, IsLegal}
use Rattle.pg_desk.specs.Kept.{legal-if-exact}
use Rattle.pg_desk.specs.Order.{AllParts}
use Rattle.pg_desk.proofs.Parts.{all-extended, all-more, extended-length}
use Rattle.pg_desk.proofs.Soundness.{running-copies}
use Rattle.pg_hub.specs.Fits.{Fits, HubBecomes}
use Rattle.pg_hub.specs.Rests.{Rest, rests}
use Rattle.pg_hub.specs.Standing.{Standing}
use Rattle.pg_session.specs.Measure.{put_in, put_of, put_to}
use Rattle.pg_session.proofs.Nearer.Puts.{puts_by, puts_in}

-- ---- in requests with these flags

-- the parts that were put in them
abbrev pub put_by : List Booking → List Bool → ℕ
put_by [] cs = 0
put_by (b ∷ bs) cs = put_to b (first_flag cs) + put_by bs (rest_flags cs)

-- a hub has as many as the state that it stands for
put-rests : (n : ℕ) (bs : List Booking) (cs : List Bool) → put_in bs (rests n bs cs) ≡ put_by bs cs
put-rests n [] cs = refl
put-rests n (b ∷ bs) cs = ap (λ (m : ℕ). put_to b (first_flag cs) + m) (put-rests (n - length b.parts) bs (rest_flags cs))

pub hub-put : (s : State) (h : Standing) → Fits s h → put_of h ≡ put_by s.book s.copying
hub-put s h fits =
    ap (λ (rs : List Rest). put_in h.book rs) fits.parts.rest ∙ ap (λ (bs : List Booking). put_in bs (rests (length s.gone_out) s.book s.copying)) fits.book
    ∙ put-rests (length s.gone_out) s.book s.copying

-- a request that was only booked has none
none-put : (b : Booking) (c : Bool) → length b.parts ≡ 1 → put_to b c + 0 ≡ 0
none-put b true one = omega (arith, one)
none-put b false one = omega (arith, one)

put-booked : (bs : List Booking) (cs : List Bool) (b : Booking) (c : Bool) → length cs ≡ length bs → length b.parts ≡ 1 → put_by (bs ++ b ∷ []) (cs ++ c ∷ []) ≡ put_by bs cs
put-booked [] [] b c e one = none-put b c one
put-booked [] (y ∷ cs) b c e one = absurd cc
put-booked (x ∷ bs) [] b c e one = absurd cc
put-booked (x ∷ bs) (y ∷ cs) b c e one = ap (λ (m : ℕ). put_to x y + m) (put-booked bs cs b c (omega (arith, e)) one)

-- a part more of a copy that isn't ended
put-added : (k : ℕ) (part : List ℕ) (bs : List Booking) (cs : List Bool) → is_copying k cs ≡ true → length cs ≡ length bs → AllParts bs → put_by (extended k part bs) cs ≡ put_by bs cs + 1
put-added k part bs [] c e all = absurd cc
put-added k part [] (x ∷ cs) c e all = absurd cc
put-added zero part (b ∷ bs) (true ∷ cs) c e all =
    let more : length (b.parts ++ part ∷ []) ≡ length b.parts + 1 = length_push b.parts part in
    let some = all.0 in
    omega (arith, more, some)
put-added zero part (b ∷ bs) (false ∷ cs) c e all = absurd cc
put-added (suc k) part (b ∷ bs) (x ∷ cs) c e all = let more = put-added k part bs cs c (omega (arith, e)) all.1 in omega (arith, more)

-- its end is none
put-ended : (k : ℕ) (part : List ℕ) (bs : List Booking) (cs : List Bool) → is_copying k cs ≡ true → length cs ≡ length bs → AllParts bs →
    put_by (extended k part bs) (slice_set cs k false) ≡ put_by bs cs
put-ended k part bs [] c e all = absurd cc
put-ended k part [] (x ∷ cs) c e all = absurd cc
put-ended zero part (b ∷ bs) (true ∷ cs) c e all =
    let more : length (b.parts ++ part ∷ []) ≡ length b.parts + 1 = length_push b.parts part in
    let some = all.0 in
    omega (arith, more, some)
put-ended zero part (b ∷ bs) (false ∷ cs) c e all = absurd cc
put-ended (suc k) part (b ∷ bs) (x ∷ cs) c e all = ap (λ (m : ℕ). put_to b x + m) (put-ended k part bs cs c (omega (arith, e)) all.1)

-- ---- by calls

-- each request has a flag and a part
pub record HasFlags (s : State) : Type 0 where
  pub flags : length s.copying ≡ length s.book
  pub all : AllParts s.book

-- so many parts more
pub record Counted (s t : State) (put : ℕ) : Type 0 where
  pub counted : put_by t.book t.copying ≡ put_by s.book s.copying + put
  pub keeps : HasFlags t

-- the same requests
same-counted : (s t : State) → t.book ≡ s.book → t.copying ≡ s.copying → HasFlags s → Counted s t 0
same-counted s t book copying h =
    let one = ap (λ (bs : List Booking). put_by bs t.copying) book in
    let other = ap (λ (cs : List Bool). put_by s.book cs) copying in
    record {
      counted = omega (arith, one, other);
      keeps = record {
        flags = ap (λ (cs : List Bool). length cs) copying ∙ h.flags ∙ sym (ap (λ (bs : List Booking). length bs) book);
        all = subst (λ (bs : List Booking). AllParts bs) (sym book) h.all;
      };
    }

booked-counted : (s : State) (stamp : Stamp) (part : List ℕ) (copying : Bool) (id : ℕ) → HasFlags s → Counted s (after s (Book stamp part copying (Ok id))) 0
booked-counted s stamp part copying id h =
    let b : Booking = record { stamp = stamp; parts = part ∷ [] } in
    let put = put-booked s.book s.copying b copying h.flags refl in
    record {
      counted = omega (arith, put);
      keeps = record {
        flags = length_push s.copying copying ∙ ap (λ (n : ℕ). n + 1) h.flags ∙ sym (length_push s.book b);
        all = all-more s.book b (omega arith) h.all;
      };
    }

added-counted : (s : State) (id : ℕ) (part : List ℕ) → is_copying id s.copying ≡ true → HasFlags s → Counted s (after s (PutEvent id part putting.Took)) 1
added-counted s id part copies h = record {
  counted = put-added id part s.book s.copying copies h.flags h.all;
  keeps = record { flags = h.flags ∙ sym (extended-length id part s.book); all = all-extended id part s.book h.all };
}

ended-counted : (s : State) (id : ℕ) (part : List ℕ) → is_copying id s.copying ≡ true → HasFlags s → Counted s (after s (EndCopy id part putting.Took)) 0
ended-counted s id part copies h =
    let put = put-ended id part s.book s.copying copies h.flags h.all in
    record {
      counted = omega (arith, put);
      keeps = record {
        flags = length-set s.copying id false ∙ h.flags ∙ sym (extended-length id part s.book);
        all = all-extended id part s.book h.all;
      };
    }

call-counted : (s : State) (e : Event) → Allows s e → HasFlags s → Counted s (after s e) (puts_by e)
call-counted s (Book stamp part copying (Ok id)) a h = booked-counted s stamp part copying id h
call-counted s (Book stamp part copying (Err e)) a h = same-counted s s refl refl h
call-counted s (PutEvent id part putting.Took) a h = added-counted s id part (running-copies s id a.1) h
call-counted s (PutEvent id part (putting.Full back)) a h = same-counted s s refl refl h
call-counted s (PutEvent id part (putting.Gone back)) a h = same-counted s s refl refl h
call-counted s (PutEvent id part (putting.OutOfMemory back)) a h = same-counted s s refl refl h
call-counted s (EndCopy id part putting.Took) a h = ended-counted s id part (running-copies s id a.1) h
call-counted s (EndCopy id part (putting.Full back)) a h = same-counted s s refl refl h
call-counted s (EndCopy id part (putting.Gone back)) a h = same-counted s s refl refl h
call-counted s (EndCopy id part (putting.OutOfMemory back)) a h = same-counted s s refl refl h
call-counted s (TakeEvent id (Ok (taking.Batch ms))) a h = same-counted s (after s (TakeEvent id (Ok (taking.Batch ms)))) refl refl h
call-counted s (TakeEvent id (Ok taking.Empty)) a h = same-counted s s refl refl h
call-counted s (TakeEvent id (Ok taking.Over)) a h = same-counted s s refl refl h
call-counted s (TakeEvent id (Ok taking.Gone)) a h = same-counted s s refl refl h
call-counted s (TakeEvent id (Err e)) a h = same-counted s s refl refl h
call-counted s (HangUp id (Ok x)) a h = same-counted s (after s (HangUp id (Ok x))) refl refl h
call-counted s (HangUp id (Err e)) a h = same-counted s s refl refl h
call-counted s (NextStatement (Ok n)) a h = same-counted s (after s (NextStatement (Ok n))) refl refl h
call-counted s (NextStatement (Err e)) a h = same-counted s s refl refl h
call-counted s (NextPortal (Ok n)) a h = same-counted s (after s (NextPortal (Ok n))) refl refl h
call-counted s (NextPortal (Err e)) a h = same-counted s s refl refl h
call-counted s (CatalogEvent call) a h = same-counted s (after s (CatalogEvent call)) refl refl h
call-counted s (NextOut (Ok (out.Part part))) a h = same-counted s (after s (NextOut (Ok (out.Part part)))) refl refl h
call-counted s (NextOut (Ok out.CopyWaits)) a h = same-counted s s refl refl h
call-counted s (NextOut (Ok out.Nothing)) a h = same-counted s s refl refl h
call-counted s (NextOut (Ok out.NoMore)) a h = same-counted s s refl refl h
call-counted s (NextOut (Err e)) a h = same-counted s s refl refl h
call-counted s (DeliverEvent batch complete delivering.Taken) a h = same-counted s (after s (DeliverEvent batch complete delivering.Taken)) refl refl h
call-counted s (DeliverEvent batch complete (delivering.Full back)) a h = same-counted s s refl refl h
call-counted s (DeliverEvent batch complete (delivering.NoRequest back)) a h = same-counted s s refl refl h
call-counted s (DeliverEvent batch complete (delivering.OutOfMemory back)) a h = same-counted s s refl refl h
call-counted s (CloseRequests (Ok x)) a h = same-counted s (after s (CloseRequests (Ok x))) refl refl h
call-counted s (CloseRequests (Err e)) a h = same-counted s s refl refl h
call-counted s (Fail (Ok x)) a h = same-counted s (after s (Fail (Ok x))) refl refl h
call-counted s (Fail (Err e)) a h = same-counted s s refl refl h

-- and several
calls-counted : (s : State) (es : List Event) → IsLegal s es → HasFlags s → Counted s (after_all s es) (puts_in es)
calls-counted s [] legal h = same-counted s s refl refl h
calls-counted s (e ∷ es) legal h =
    let one = call-counted s e legal.0 h in
    let more = calls-counted (after s e) es legal.1 one.keeps in
    let here = one.counted in
    let later = more.counted in
    record { counted = omega (arith, here, later); keeps = more.keeps }

-- so many parts more were put in a hub as events put
pub becomes-counted : (s : State) (a : Standing) (es : List Event) (b : Standing) → Fits s a → HubBecomes a es b → put_of b ≡ put_of a + puts_in es
becomes-counted s a es b fits became =
    let next = became.stands s fits in
    let all = (calls-counted s es (legal-if-exact s es next.0) (record { flags = fits.in_order.flags; all = fits.in_order.all })).counted in
    let before = hub-put s a fits in
    let behind = hub-put (after_all s es) b next.1 in
    omega (arith, all, before, behind)

-- ---- the connection's calls put none

engine-puts : (e : Event) → IsEngineCall e → puts_by e ≡ 0
engine-puts (NextOut answer) call = refl
engine-puts (DeliverEvent batch complete answer) call = refl
engine-puts e call = absurd call

pub engine-puts-none : (es : List Event) → AllEngineCalls es → puts_in es ≡ 0
engine-puts-none [] calls = refl
engine-puts-none (e ∷ es) calls = let one = engine-puts e calls.0 in let more = engine-puts-none es calls.1 in omega (arith, one, more)

-- a session that begins has put none
pub none-put-yet : (h : Standing) → h.book ≡ [] → put_of h ≡ 0
none-put-yet h none = ap (λ (bs : List Booking). put_in bs h.outgoing) none
