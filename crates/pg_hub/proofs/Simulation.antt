-- What each call of the plain hub does to the states that it stands for.
use Rattle.std.proofs.Common.{◌≡◌, ◌≢◌, ◌⊎◌, ◌<◌, ◌≤◌, ℕ, zero, suc, ◌+◌, ◌==◌, List, [], ◌∷◌, ◌++◌, length, drop, Bool, true, false, not, ◌&&◌, if◌then◌else◌, Some, None, Ok, refl, sym, ◌∙◌, ap, subst, inl, inr, arith, nat_lt, ◌||◌, slice_set}
use Rattle.std.proofs.lemmas.List.{get_or_append_left, get_or_push, drop-append-le, length-set, length_push}
use Rattle.std.proofs.lemmas.Bool.Decides.{nat_tests, eqb_tells}
use Rattle.std.proofs.lemmas.Bool.{false≢true}
use Rattle.pg_spec.specs.RawMessages.{RawMessage}
use Rattle.pg_desk.specs.declared.event.Booking.{Booking}
use Rattle.pg_spec.specs.declared.stamps.Stamp.{Stamp}
use Rattle.pg_desk.specs.declared.event.Take.TheVariants as taking
use Rattle.pg_desk.specs.declared.event.Put.TheVariants as putting
use Rattle.pg_desk.specs.declared.event.Out.TheVariants as out
use Rattle.pg_desk.specs.declared.event.Deliver.TheVariants as delivering
use Rattle.pg_desk.specs.declared.event.Event.TheVariants as call
use Rattle.pg_spec.specs.Batches.{is_batch}
use Rattle.pg_desk.specs.History.{GoesInOrder, State, Delivery, Taken, started, started_of, is_copying, is_running, parts_waiting, extended, first_part, last_out, finished, has_ended, may_let_go, has_open, next_owner, out_answer, waiting, given, taken, is_in, is_hung_up, take_answer, take_of_waiting, after, Allows}
use Rattle.pg_desk.proofs.Owners.{given-own, given-other, finished-more, less-open, ended-counted, open-counted, owner-counted}
use Rattle.pg_desk.proofs.Soundness.{taken-own, taken-other, order-same, order-book, order-put, order-end, order-out, order-deliver, running-copies, let-go-none}
use Rattle.pg_desk.specs.Order.{AllParts, InOrder}
use Rattle.pg_desk.proofs.Parts.{extended-length, started-low, started-more, started-extended}
use Rattle.pg_hub.specs.declared.mailbox.Mailbox.{Mailbox}
use Rattle.pg_hub.specs.declared.mailbox.Mailbox.TheVariants.{Empty, HungUp}
use Rattle.pg_hub.specs.Standing.{Standing, StandsOut}
use Rattle.pg_hub.specs.Mail.{waits, is_gone, first_of, rest_of, received_by, at}
use Rattle.pg_hub.specs.Rests.{Rest, rest_at, rests, weight_of, weight_in, whole_of}
use Rattle.pg_hub.specs.Waiting.{parts_in}
use Rattle.pg_hub.specs.Fits.{Fits, MailFits, PartsFit}
use Rattle.pg_hub.proofs.Going.{rests-more, whole-more, rests-extended, whole-extended, flag-same, no-flag, length-rests, copying-at, waits-at, next-none, next-some, went}
use Rattle.pg_hub.proofs.Mailing.{all-set, takes-first, nothing-waits, receives, no-room, drop-one-more, more-left}

drop-none : {A : Type 0} (n : ℕ) → drop {A = A} n [] ≡ []
drop-none zero = refl
drop-none (suc n) = refl

pub neither : (a b : Bool) → a ≡ false → b ≡ false → a || b ≡ false
neither a b p q = cc

-- ---- what parts weigh

pub weight-more : (outgoing : List Rest) (r : Rest) → weight_in (outgoing ++ r ∷ []) ≡ weight_in outgoing + weight_of r.parts
weight-more [] r = omega arith
weight-more (x ∷ xs) r = let h : weight_in (xs ++ r ∷ []) ≡ weight_in xs + weight_of r.parts = weight-more xs r in omega arith

pub weight-set : (outgoing : List Rest) (k : ℕ) (r : Rest) → k < length outgoing →
    weight_in (slice_set outgoing k r) + weight_of (rest_at outgoing k).parts ≡ weight_in outgoing + weight_of r.parts
weight-set [] k r low = absurd (omega arith)
weight-set (x ∷ xs) zero r low = omega arith
weight-set (x ∷ xs) (suc k) r low = let h : weight_in (slice_set xs k r) + weight_of (rest_at xs k).parts ≡ weight_in xs + weight_of r.parts = weight-set xs k r (omega arith) in omega arith

pub weight-push : (parts : List (List ℕ)) (part : List ℕ) → weight_of (parts ++ part ∷ []) ≡ weight_of parts + (length part + 1)
weight-push [] part = omega arith
weight-push (x ∷ xs) part = let h : weight_of (xs ++ part ∷ []) ≡ weight_of xs + (length part + 1) = weight-push xs part in omega arith

-- what waits weighs so much more where a request has one part more
pub weight-put : (outgoing : List Rest) (k : ℕ) (part : List ℕ) (on : Bool) → k < length outgoing →
    weight_in (slice_set outgoing k (record { parts = (rest_at outgoing k).parts ++ part ∷ []; copying = on })) ≡ weight_in outgoing + (length part + 1)
weight-put outgoing k part on low =
    let set = weight-set outgoing k (record { parts = (rest_at outgoing k).parts ++ part ∷ []; copying = on }) low in
    let push = weight-push (rest_at outgoing k).parts part in
    omega (arith, set, push)

-- and so much less where one went out
pub weight-less : (outgoing : List Rest) (k : ℕ) (part : List ℕ) (left : Rest) → k < length outgoing → (rest_at outgoing k).parts ≡ part ∷ left.parts →
    weight_in (slice_set outgoing k left) + (length part + 1) ≡ weight_in outgoing
weight-less outgoing k part left low e =
    let set = weight-set outgoing k left low in
    let first : weight_of (rest_at outgoing k).parts ≡ length part + 1 + weight_of left.parts = ap weight_of e in
    omega (arith, set, first)

-- what hasn't gone out, where a request is booked
pub stands-booked : (booked : ℕ) (outgoing outgoing' : List Rest) (unsent unsent' whole started : ℕ) (part : List ℕ) (copying : Bool) → StandsOut booked outgoing unsent whole started →
    outgoing' ≡ outgoing ++ record { parts = part ∷ []; copying = copying } ∷ [] → unsent' ≡ unsent + (length part + 1) → StandsOut (booked + 1) outgoing' unsent' whole started
stands-booked booked outgoing outgoing' unsent unsent' whole started part copying o eo eu =
    let r : Rest = record { parts = part ∷ []; copying = copying } in
    let lo : length outgoing' ≡ length outgoing + 1 = ap length eo ∙ length_push outgoing r in
    record {
      all = omega (arith, o.all, lo);
      unsent = let w : weight_in outgoing' ≡ weight_in outgoing + weight_of (part ∷ []) = ap weight_in eo ∙ weight-more outgoing r in let u = o.unsent in omega (arith, eu, w, u);
      whole = omega (arith, o.whole);
      started = omega (arith, o.started);
      near = o.near;
    }

-- and where a request has one part more
pub stands-put : (booked : ℕ) (outgoing outgoing' : List Rest) (unsent unsent' whole started id : ℕ) (part : List ℕ) (on : Bool) → StandsOut booked outgoing unsent whole started → id < length outgoing →
    outgoing' ≡ slice_set outgoing id (record { parts = (rest_at outgoing id).parts ++ part ∷ []; copying = on }) → unsent' ≡ unsent + (length part + 1) → StandsOut booked outgoing' unsent' whole started
stands-put booked outgoing outgoing' unsent unsent' whole started id part on o low eo eu = record {
  all = ap length eo ∙ length-set outgoing id _ ∙ o.all;
  unsent = let w : weight_in outgoing' ≡ weight_in outgoing + (length part + 1) = ap weight_in eo ∙ weight-put outgoing id part on low in let u = o.unsent in omega (arith, eu, w, u);
  whole = o.whole;
  started = o.started;
  near = o.near;
}

-- ---- what of each request hasn't gone out

-- the parts of a request more
pub parts-booked : (gone_out : List (List ℕ)) (book : List Booking) (copying : List Bool) (outgoing outgoing' : List Rest) (whole begun : ℕ) (stamp : Stamp) (part : List ℕ) (copies : Bool) →
    length copying ≡ length book → GoesInOrder (length gone_out) book copying → PartsFit gone_out book copying outgoing whole begun → outgoing' ≡ outgoing ++ record { parts = part ∷ []; copying = copies } ∷ [] →
    PartsFit gone_out (book ++ record { stamp = stamp; parts = part ∷ [] } ∷ []) (copying ++ copies ∷ []) outgoing' whole begun
parts-booked gone_out book copying outgoing outgoing' whole begun stamp part copies flags order f eo =
    let b : Booking = record { stamp = stamp; parts = part ∷ [] } in
    let n : ℕ = length gone_out in
    record {
      rest = eo ∙ ap (λ (l : List Rest). l ++ record { parts = part ∷ []; copying = copies } ∷ []) f.rest ∙ sym (rests-more n book copying b copies flags order);
      wholes = f.wholes ∙ sym (whole-more n book copying b copies flags (omega arith) order);
      started = f.started ∙ sym (started-more n book copying b order);
    }

-- those of a copy that has one more
pub parts-put : (gone_out : List (List ℕ)) (book : List Booking) (copying : List Bool) (outgoing outgoing' : List Rest) (whole begun k : ℕ) (part : List ℕ) →
    GoesInOrder (length gone_out) book copying → PartsFit gone_out book copying outgoing whole begun → is_copying k copying ≡ true →
    outgoing' ≡ slice_set outgoing k (record { parts = (rest_at outgoing k).parts ++ part ∷ []; copying = true }) →
    PartsFit gone_out (extended k part book) copying outgoing' whole begun
parts-put gone_out book copying outgoing outgoing' whole begun k part order f c eo =
    let n : ℕ = length gone_out in
    let same = flag-same k copying c in
    record {
      rest = eo ∙ ap (λ (l : List Rest). slice_set l k (record { parts = (rest_at l k).parts ++ part ∷ []; copying = true })) f.rest ∙ sym (rests-extended n k part true book copying order c)
          ∙ ap (λ (l : List Bool). rests n (extended k part book) l) same;
      wholes = f.wholes ∙ sym (whole-extended n k part true book copying order c) ∙ ap (λ (l : List Bool). whole_of n (extended k part book) l) same;
      started = f.started ∙ sym (started-extended n k part book copying order c);
    }

-- and of one that ends
pub parts-end : (gone_out : List (List ℕ)) (book : List Booking) (copying : List Bool) (outgoing outgoing' : List Rest) (whole begun k : ℕ) (part : List ℕ) →
    GoesInOrder (length gone_out) book copying → PartsFit gone_out book copying outgoing whole begun → is_copying k copying ≡ true →
    outgoing' ≡ slice_set outgoing k (record { parts = (rest_at outgoing k).parts ++ part ∷ []; copying = false }) →
    PartsFit gone_out (extended k part book) (slice_set copying k false) outgoing' whole begun
parts-end gone_out book copying outgoing outgoing' whole begun k part order f c eo =
    let n : ℕ = length gone_out in
    record {
      rest = eo ∙ ap (λ (l : List Rest). slice_set l k (record { parts = (rest_at l k).parts ++ part ∷ []; copying = false })) f.rest ∙ sym (rests-extended n k part false book copying order c);
      wholes = f.wholes ∙ sym (whole-extended n k part false book copying order c);
      started = f.started ∙ sym (started-extended n k part book copying order c);
    }

-- a part goes out
pub parts-went : (gone_out : List (List ℕ)) (book : List Booking) (copying : List Bool) (outgoing outgoing' : List Rest) (whole whole' begun : ℕ) (part : List ℕ) (left : Rest) →
    AllParts book → PartsFit gone_out book copying outgoing whole begun → whole < length book → (rest_at outgoing whole).parts ≡ part ∷ left.parts → left.copying ≡ (rest_at outgoing whole).copying →
    outgoing' ≡ slice_set outgoing whole left →
    ((left ≡ record { parts = []; copying = false }) × (whole' ≡ whole + 1)) ⊎ ((left ≡ record { parts = []; copying = false } → ⊥) × (whole' ≡ whole)) →
    PartsFit (gone_out ++ part ∷ []) book copying outgoing' whole' (whole + 1)
parts-went gone_out book copying outgoing outgoing' whole whole' begun part left all f low ep ec eo ew =
    let n : ℕ = length gone_out in
    let more : length (gone_out ++ part ∷ []) ≡ n + 1 = length_push gone_out part in
    let low' : whole_of n book copying < length book = subst (λ (w : ℕ). w < length book) f.wholes low in
    let at-rest : (rest_at (rests n book copying) (whole_of n book copying)).parts ≡ part ∷ left.parts =
    subst (λ (w : ℕ). (rest_at (rests n book copying) w).parts ≡ part ∷ left.parts) f.wholes (subst (λ (l : List Rest). (rest_at l whole).parts ≡ part ∷ left.parts) f.rest ep) in
    let at-copying : left.copying ≡ (rest_at (rests n book copying) (whole_of n book copying)).copying =
    subst (λ (w : ℕ). left.copying ≡ (rest_at (rests n book copying) w).copying) f.wholes (subst (λ (l : List Rest). left.copying ≡ (rest_at l whole).copying) f.rest ec) in
    let g = went n book copying part left all low' at-rest at-copying in
    record {
      rest = eo ∙ ap (λ (l : List Rest). slice_set l whole left) f.rest ∙ ap (λ (w : ℕ). slice_set (rests n book copying) w left) f.wholes ∙ sym g.rests ∙ ap (λ (m : ℕ). rests m book copying) (sym more);
      wholes = elim ew [
        | inl w ↦ w.1 ∙ ap (λ (m : ℕ). m + 1) f.wholes ∙ sym (g.whole w.0) ∙ ap (λ (m : ℕ). whole_of m book copying) (sym more)
        | inr w ↦ w.1 ∙ f.wholes ∙ sym (g.not_whole w.0) ∙ ap (λ (m : ℕ). whole_of m book copying) (sym more)
      ];
      started = ap (λ (m : ℕ). m + 1) f.wholes ∙ sym g.started ∙ ap (λ (m : ℕ). started m book) (sym more);
    }

-- the parts that wait, where a write changed those of one request
pub parts-set : (outgoing : List Rest) (k : ℕ) (r : Rest) → k < length outgoing → parts_in (slice_set outgoing k r) + length (rest_at outgoing k).parts ≡ parts_in outgoing + length r.parts
parts-set [] k r low = absurd (omega arith)
parts-set (x ∷ xs) zero r low = omega arith
parts-set (x ∷ xs) (suc k) r low = let h : parts_in (slice_set xs k r) + length (rest_at xs k).parts ≡ parts_in xs + length r.parts = parts-set xs k r (omega arith) in omega arith

-- a request more
pub booked : (s : State) (h : Standing) (stamp : Stamp) (part : List ℕ) (copying : Bool) (book' : List Booking) (mail' : List Mailbox) (outgoing' : List Rest) (unsent' : ℕ) →
    Fits s h → book' ≡ h.book ++ record { stamp = stamp; parts = part ∷ [] } ∷ [] → mail' ≡ h.mail ++ Empty ∷ [] →
    outgoing' ≡ h.outgoing ++ record { parts = part ∷ []; copying = copying } ∷ [] → unsent' ≡ h.unsent + (length part + 1) →
    Fits (after s (call.Book stamp part copying (Ok 0))) (record h { book = book'; mail = mail'; outgoing = outgoing'; unsent = unsent'; touched = true })
booked s h stamp part copying book' mail' outgoing' unsent' f eb em eo eu =
    let b : Booking = record { stamp = stamp; parts = part ∷ [] } in
    let same_length : length h.mail ≡ length s.book = f.standing.mail ∙ ap length f.book in
    let lb : length book' ≡ length h.book + 1 = ap length eb ∙ length_push h.book b in
    let lm : length mail' ≡ length h.mail + 1 = ap length em ∙ length_push h.mail Empty in
    let ls : length (s.book ++ b ∷ []) ≡ length s.book + 1 = length_push s.book b in
    let few : started_of s ≤ length s.book = started-low (length s.gone_out) s.book in
    let same : started_of (after s (call.Book stamp part copying (Ok 0))) ≡ started_of s = started-more (length s.gone_out) s.book s.copying b f.in_order.out in
    let own : (k : ℕ) → MailFits s k (at h.mail k) → MailFits (after s (call.Book stamp part copying (Ok 0))) k (at h.mail k) = λ k m. record { gone = m.gone; waits = m.waits } in
    record {
      standing = record {
        mail = let a = f.standing.mail in omega arith;
        out = subst (λ (n : ℕ). StandsOut n outgoing' unsent' h.whole h.started) (sym lb) (stands-booked (length h.book) h.outgoing outgoing' h.unsent unsent' h.whole h.started part copying f.standing.out eo eu);
        finished = f.standing.finished;
      };
      book = eb ∙ ap (λ (l : List Booking). l ++ b ∷ []) f.book;
      mail = λ k inside. elim (eqb_tells k (length h.mail)) [
        | inl same ↦ subst (MailFits (after s (call.Book stamp part copying (Ok 0))) k)
            (sym (ap (λ (l : List Mailbox). at l k) em ∙ get_or_push h.mail Empty Empty k (sym same.1)))
            (record {
              gone = sym (f.none_hung_up k (omega arith));
              waits = λ here. sym (ap (λ (l : List (List RawMessage)). drop (length (taken k s.takes)) l) (f.none_given k (omega arith)) ∙ drop-none (length (taken k s.takes)));
            })
        | inr apart ↦ subst (MailFits (after s (call.Book stamp part copying (Ok 0))) k)
            (sym (ap (λ (l : List Mailbox). at l k) em ∙ get_or_append_left h.mail (Empty ∷ []) Empty k (omega arith)))
            (own k (f.mail k (omega arith)))
      ];
      parts = parts-booked s.gone_out s.book s.copying h.outgoing outgoing' h.whole h.started stamp part copying f.in_order.flags f.in_order.out f.parts eo;
      finished = f.finished;
      statements = f.statements;
      portals = f.portals;
      catalog = f.catalog;
      closed = f.closed;
      failed = f.failed;
      none_invented = f.none_invented;
      none_given = λ k beyond. f.none_given k (omega (arith, beyond, same));
      none_hung_up = λ k beyond. f.none_hung_up k (omega arith);
      in_order = order-book s stamp part copying 0 f.in_order;
    }

-- ---- copies

pub outgoing-length : (s : State) (h : Standing) → Fits s h → length h.outgoing ≡ length s.book
outgoing-length s h f = ap length f.parts.rest ∙ length-rests (length s.gone_out) s.book s.copying

pub copying-is : (s : State) (h : Standing) (id : ℕ) → Fits s h → (rest_at h.outgoing id).copying ≡ is_copying id s.copying
copying-is s h id f = ap (λ (l : List Rest). (rest_at l id).copying) f.parts.rest ∙ copying-at (length s.gone_out) id s.book s.copying f.in_order.flags

pub waiting-is : (s : State) (h : Standing) (id : ℕ) → Fits s h → length (rest_at h.outgoing id).parts ≡ parts_waiting s id
waiting-is s h id f = ap (λ (l : List Rest). length (rest_at l id).parts) f.parts.rest ∙ waits-at (length s.gone_out) id s.book s.copying

-- a copy that takes parts
pub running : (s : State) (h : Standing) (id : ℕ) → Fits s h → id < length h.outgoing → (rest_at h.outgoing id).copying ≡ true → is_gone (at h.mail id) ≡ false → is_running s id ≡ true
running s h id f low c here =
    let n = outgoing-length s h f in
    let m = f.mail id (omega arith) in
    by_both (is_copying id s.copying) (is_hung_up s id) (sym (copying-is s h id f) ∙ c) (sym m.gone ∙ here)
  where
    by_both : (a b : Bool) → a ≡ true → b ≡ false → a && not b ≡ true
    by_both true false p q = refl
    by_both true true p q = sym q
    by_both false b p q = p

none-running : (a b : Bool) → a ≡ false → a && not b ≡ false
none-running true b p = absurd cc
none-running false b p = refl

pub not-copying : (s : State) (h : Standing) (id : ℕ) → Fits s h → (rest_at h.outgoing id).copying ≡ false → is_running s id ≡ false
not-copying s h id f c = none-running (is_copying id s.copying) (is_hung_up s id) (sym (copying-is s h id f) ∙ c)

pub not-booked : (s : State) (h : Standing) (id : ℕ) → Fits s h → length h.outgoing ≤ id → is_running s id ≡ false
not-booked s h id f past = let n = outgoing-length s h f in let e = f.in_order.flags in none-running (is_copying id s.copying) (is_hung_up s id) (no-flag id s.copying (omega arith))

pub gone-not-running : (s : State) (h : Standing) (id : ℕ) → Fits s h → id < length h.outgoing → is_gone (at h.mail id) ≡ true → is_running s id ≡ false
gone-not-running s h id f low gone =
    let n = outgoing-length s h f in
    let m = f.mail id (omega arith) in
    by_both (is_copying id s.copying) (is_hung_up s id) (sym m.gone ∙ gone)
  where
    by_both : (a b : Bool) → b ≡ true → a && not b ≡ false
    by_both true true p = refl
    by_both false b p = refl
    by_both true false p = absurd cc

-- mailboxes don't see parts
mail-of-parts : (s t : State) (h : Standing) → s.deliveries ≡ t.deliveries → s.takes ≡ t.takes → s.hung_up ≡ t.hung_up → (k : ℕ) (m : Mailbox) → MailFits s k m → MailFits t k m
mail-of-parts s t h a b c k m f = record {
  gone = f.gone ∙ ap (λ (l : List ℕ). is_in k l) c;
  waits = λ here. f.waits (ap (λ (l : List ℕ). is_in k l) c ∙ here)
      ∙ ap (λ (l : List Taken). drop (length (taken k l)) (given k s.deliveries)) b ∙ ap (λ (l : List Delivery). drop (length (taken k t.takes)) (given k l)) a;
}

-- ---- a part more of a copy

-- what it gives the state: as much began, and the book has as many requests
pub record PutsPart (s t : State) : Type 0 where
  pub started : started_of t ≡ started_of s
  pub booked : length t.book ≡ length s.book
  pub order : InOrder t
  pub deliveries : s.deliveries ≡ t.deliveries
  pub takes : s.takes ≡ t.takes
  pub hung_up : s.hung_up ≡ t.hung_up

-- the hub where one of its copies has a part more, and goes on as one or not
part-fits : (s t : State) (h : Standing) (id : ℕ) (part : List ℕ) (on : Bool) (outgoing' : List Rest) (unsent' : ℕ) → Fits s h → PutsPart s t → t.book ≡ extended id part s.book →
    PartsFit t.gone_out t.book t.copying outgoing' h.whole h.started → id < length h.outgoing →
    outgoing' ≡ slice_set h.outgoing id (record { parts = (rest_at h.outgoing id).parts ++ part ∷ []; copying = on }) → unsent' ≡ h.unsent + (length part + 1) →
    s.statements ≡ t.statements → s.portals ≡ t.portals → s.catalog ≡ t.catalog → s.closed ≡ t.closed → s.failed ≡ t.failed →
    Fits t (record h { book = extended id part h.book; outgoing = outgoing'; unsent = unsent'; touched = true })
part-fits s t h id part on outgoing' unsent' f p eb parts low eo eu es ep ek ec ef =
    let lb : length (extended id part h.book) ≡ length h.book = extended-length id part h.book in
    record {
      standing = record {
        mail = omega (arith, f.standing.mail, lb);
        out = subst (λ (n : ℕ). StandsOut n outgoing' unsent' h.whole h.started) (sym lb) (stands-put (length h.book) h.outgoing outgoing' h.unsent unsent' h.whole h.started id part on f.standing.out low eo eu);
        finished = f.standing.finished;
      };
      book = ap (λ (l : List Booking). extended id part l) f.book ∙ sym eb;
      mail = λ k inside. mail-of-parts s t h p.deliveries p.takes p.hung_up k (at h.mail k) (f.mail k (omega (arith, inside, p.booked)));
      parts = parts;
      finished = f.finished ∙ ap finished p.deliveries;
      statements = f.statements ∙ es;
      portals = f.portals ∙ ep;
      catalog = f.catalog ∙ ek;
      closed = f.closed ∙ ec;
      failed = f.failed ∙ ef;
      none_invented = λ k. subst (λ (l : List Delivery). length (taken k t.takes) ≤ length (given k l)) p.deliveries (subst (λ (l : List Taken). length (taken k l) ≤ length (given k s.deliveries)) p.takes (f.none_invented k));
      none_given = λ k beyond. ap (λ (l : List Delivery). given k l) (sym p.deliveries) ∙ f.none_given k (omega (arith, beyond, p.started));
      none_hung_up = λ k beyond. ap (λ (l : List ℕ). is_in k l) (sym p.hung_up) ∙ f.none_hung_up k (omega (arith, beyond, p.booked));
      in_order = p.order;
    }

pub put-fits : (s : State) (h : Standing) (id : ℕ) (part : List ℕ) (outgoing' : List Rest) (unsent' : ℕ) → Fits s h → is_running s id ≡ true → id < length h.outgoing →
    outgoing' ≡ slice_set h.outgoing id (record { parts = (rest_at h.outgoing id).parts ++ part ∷ []; copying = true }) → unsent' ≡ h.unsent + (length part + 1) →
    Fits (after s (call.Put id part putting.Took)) (record h { book = extended id part h.book; outgoing = outgoing'; unsent = unsent'; touched = true })
put-fits s h id part outgoing' unsent' f runs low eo eu =
    let t : State = after s (call.Put id part putting.Took) in
    let copies = running-copies s id runs in
    part-fits s t h id part true outgoing' unsent' f (record {
      started = started-extended (length s.gone_out) id part s.book s.copying f.in_order.out copies;
      booked = extended-length id part s.book;
      order = order-put s id part f.in_order runs;
      deliveries = refl;
      takes = refl;
      hung_up = refl;
    }) refl (parts-put s.gone_out s.book s.copying h.outgoing outgoing' h.whole h.started id part f.in_order.out f.parts copies eo) low eo eu refl refl refl refl refl

-- its last one
pub end-fits : (s : State) (h : Standing) (id : ℕ) (part : List ℕ) (outgoing' : List Rest) (unsent' : ℕ) → Fits s h → is_running s id ≡ true → id < length h.outgoing →
    outgoing' ≡ slice_set h.outgoing id (record { parts = (rest_at h.outgoing id).parts ++ part ∷ []; copying = false }) → unsent' ≡ h.unsent + (length part + 1) →
    Fits (after s (call.EndCopy id part putting.Took)) (record h { book = extended id part h.book; outgoing = outgoing'; unsent = unsent'; touched = true })
end-fits s h id part outgoing' unsent' f runs low eo eu =
    let t : State = after s (call.EndCopy id part putting.Took) in
    let copies = running-copies s id runs in
    part-fits s t h id part false outgoing' unsent' f (record {
      started = started-extended (length s.gone_out) id part s.book s.copying f.in_order.out copies;
      booked = extended-length id part s.book;
      order = order-end s id part f.in_order runs;
      deliveries = refl;
      takes = refl;
      hung_up = refl;
    }) refl (parts-end s.gone_out s.book s.copying h.outgoing outgoing' h.whole h.started id part f.in_order.out f.parts copies eo) low eo eu refl refl refl refl refl

-- the same over the hub that shows the part already
pub puts : (s : State) (h m : Standing) (id : ℕ) (part : List ℕ) (outgoing' : List Rest) (unsent' : ℕ) → Fits s h → m ≡ record h { book = extended id part h.book } → is_running s id ≡ true → id < length h.outgoing →
    outgoing' ≡ slice_set m.outgoing id (record { parts = (rest_at m.outgoing id).parts ++ part ∷ []; copying = true }) → unsent' ≡ h.unsent + (length part + 1) →
    Fits (after s (call.Put id part putting.Took)) (record m { outgoing = outgoing'; unsent = unsent'; touched = true })
puts s h m id part outgoing' unsent' f e runs low eo eu =
    subst (λ (m : Standing). outgoing' ≡ slice_set m.outgoing id (record { parts = (rest_at m.outgoing id).parts ++ part ∷ []; copying = true }) →
    Fits (after s (call.Put id part putting.Took)) (record m { outgoing = outgoing'; unsent = unsent'; touched = true })) (sym e) (λ eo. put-fits s h id part outgoing' unsent' f runs low eo eu) eo

pub ends : (s : State) (h m : Standing) (id : ℕ) (part : List ℕ) (outgoing' : List Rest) (unsent' : ℕ) → Fits s h → m ≡ record h { book = extended id part h.book } → is_running s id ≡ true → id < length h.outgoing →
    outgoing' ≡ slice_set m.outgoing id (record { parts = (rest_at m.outgoing id).parts ++ part ∷ []; copying = false }) → unsent' ≡ h.unsent + (length part + 1) →
    Fits (after s (call.EndCopy id part putting.Took)) (record m { outgoing = outgoing'; unsent = unsent'; touched = true })
ends s h m id part outgoing' unsent' f e runs low eo eu =
    subst (λ (m : Standing). outgoing' ≡ slice_set m.outgoing id (record { parts = (rest_at m.outgoing id).parts ++ part ∷ []; copying = false }) →
    Fits (after s (call.EndCopy id part putting.Took)) (record m { outgoing = outgoing'; unsent = unsent'; touched = true })) (sym e) (λ eo. end-fits s h id part outgoing' unsent' f runs low eo eu) eo

-- ---- what the hub counts

-- which replies have ended
pub ended-is : (s : State) (h : Standing) (k : ℕ) → Fits s h → has_ended k s.deliveries ≡ nat_lt k h.finished
ended-is s h k f = ended-counted s.deliveries f.in_order.owners k ∙ ap (λ (n : ℕ). nat_lt k n) (sym f.finished)

-- whether some request is open
pub open-is : (s : State) (h : Standing) → Fits s h → has_open s ≡ nat_lt h.finished h.started
open-is s h f = open-counted s f.in_order ∙ ap (λ (n : ℕ). nat_lt n (started_of s)) (sym f.finished) ∙ ap (λ (n : ℕ). nat_lt h.finished n) (sym f.parts.started)

less : (a b : ℕ) → a < b → nat_lt a b ≡ true
less a b low = grind (arith, nat_tests)

pub not-less : (a b : ℕ) → b ≤ a → nat_lt a b ≡ false
not-less a b high = grind (arith, nat_tests)

-- ---- what goes out

-- all has gone out
pub out-last : (s : State) (h : Standing) → Fits s h → length h.outgoing ≤ h.whole → out_answer s ≡ last_out s
out-last s h f all = let n = outgoing-length s h f in next-none (last_out s) (length s.gone_out) s.book s.copying (let w = f.parts.wholes in omega arith)

last-by : (s : State) (a b : Bool) → has_open s ≡ a → s.closed ≡ b → last_out s ≡ (if a then out.Nothing else (if b then out.NoMore else out.Nothing))
last-by s a b p q = ap (λ (t : Bool). if t then out.Nothing else (if s.closed then out.NoMore else out.Nothing)) p ∙ ap (λ (t : Bool). if a then out.Nothing else (if t then out.NoMore else out.Nothing)) q

pub last-open : (s : State) (h : Standing) → Fits s h → h.finished < h.started → last_out s ≡ out.Nothing
last-open s h f low = last-by s true s.closed (open-is s h f ∙ less h.finished h.started low) refl

pub last-closed : (s : State) (h : Standing) → Fits s h → h.started ≤ h.finished → h.closed ≡ true → last_out s ≡ out.NoMore
last-closed s h f low c = last-by s false true (open-is s h f ∙ not-less h.finished h.started low) (sym f.closed ∙ c)

pub last-waits : (s : State) (h : Standing) → Fits s h → h.started ≤ h.finished → h.closed ≡ false → last_out s ≡ out.Nothing
last-waits s h f low c = last-by s false false (open-is s h f ∙ not-less h.finished h.started low) (sym f.closed ∙ c)

-- what the oldest request that hasn't gone out whole says
pub out-first : (s : State) (h : Standing) → Fits s h → h.whole < length h.outgoing → out_answer s ≡ first_part (rest_at h.outgoing h.whole).parts out.CopyWaits
out-first s h f low =
    let n = outgoing-length s h f in
    next-some (last_out s) (length s.gone_out) s.book s.copying (let w = f.parts.wholes in omega arith)
    ∙ ap (λ (w : ℕ). first_part (rest_at (rests (length s.gone_out) s.book s.copying) w).parts out.CopyWaits) (sym f.parts.wholes)
    ∙ ap (λ (l : List Rest). first_part (rest_at l h.whole).parts out.CopyWaits) (sym f.parts.rest)

-- what hasn't gone out, where one part more did
pub stands-went : (booked : ℕ) (outgoing outgoing' : List Rest) (unsent unsent' whole whole' started : ℕ) (part : List ℕ) (left : Rest) → StandsOut booked outgoing unsent whole started → whole < length outgoing →
    (rest_at outgoing whole).parts ≡ part ∷ left.parts → outgoing' ≡ slice_set outgoing whole left → unsent' + (length part + 1) ≡ unsent → (whole' ≡ whole + 1) ⊎ (whole' ≡ whole) →
    StandsOut booked outgoing' unsent' whole' (whole + 1)
stands-went booked outgoing outgoing' unsent unsent' whole whole' started part left o low ep eo eu ew =
    let lo : length outgoing' ≡ length outgoing = ap length eo ∙ length-set outgoing whole left in
    let above : whole ≤ whole' = elim ew [ inl e ↦ omega arith | inr e ↦ omega arith ] in
    let below : whole' ≤ whole + 1 = elim ew [ inl e ↦ omega arith | inr e ↦ omega arith ] in
    record {
      all = omega (arith, o.all, lo);
      unsent = let w : weight_in outgoing' + (length part + 1) ≡ weight_in outgoing = ap (λ (n : ℕ). n + (length part + 1)) (ap weight_in eo) ∙ weight-less outgoing whole part left low ep in let u = o.unsent in omega (arith, eu, w, u);
      whole = omega (arith, below, low, o.all);
      started = omega (arith, low, o.all);
      near = omega (arith, above);
    }

-- a part goes out
pub went-fits : (s : State) (h : Standing) (part : List ℕ) (left : Rest) (outgoing' : List Rest) (unsent' whole' : ℕ) → Fits s h → h.failed ≡ false → h.whole < length h.outgoing →
    (rest_at h.outgoing h.whole).parts ≡ part ∷ left.parts → left.copying ≡ (rest_at h.outgoing h.whole).copying → outgoing' ≡ slice_set h.outgoing h.whole left → unsent' + (length part + 1) ≡ h.unsent →
    ((left ≡ record { parts = []; copying = false }) × (whole' ≡ h.whole + 1)) ⊎ ((left ≡ record { parts = []; copying = false } → ⊥) × (whole' ≡ h.whole)) →
    (((s.failed ≡ false) × (out.Part part ≡ out_answer s)) × Unit {0} × Unit {0})
    × Fits (after s (call.NextOut (Ok (out.Part part)))) (record h { outgoing = outgoing'; unsent = unsent'; whole = whole'; started = h.whole + 1; touched = true })
went-fits s h part left outgoing' unsent' whole' f open_ low ep ec eo eu ew =
    let n = outgoing-length s h f in
    let t : State = after s (call.NextOut (Ok (out.Part part))) in
    let st = f.standing in
    let o = st.out in
    let says : out.Part part ≡ out_answer s = sym (out-first s h f low ∙ ap (λ (l : List (List ℕ)). first_part l out.CopyWaits) ep) in
    let next : (whole' ≡ h.whole + 1) ⊎ (whole' ≡ h.whole) = elim ew [ inl w ↦ inl w.1 | inr w ↦ inr w.1 ] in
    let p = parts-went s.gone_out s.book s.copying h.outgoing outgoing' h.whole whole' h.started part left f.in_order.all f.parts (omega arith) ep ec eo ew in
    let more : started_of s ≤ started_of t = let a = p.started in let b = f.parts.started in let e = o.near in omega arith in (
      ((sym f.failed ∙ open_, says), tt, tt),
      record {
        standing = record {
          mail = st.mail;
          out = stands-went (length h.book) h.outgoing outgoing' h.unsent unsent' h.whole whole' h.started part left o low ep eo eu next;
          finished = omega (arith, st.finished, o.near);
        };
        book = f.book;
        mail = λ k inside. mail-of-parts s t h refl refl refl k (at h.mail k) (f.mail k inside);
        parts = p;
        finished = f.finished;
        statements = f.statements;
        portals = f.portals;
        catalog = f.catalog;
        closed = f.closed;
        failed = f.failed;
        none_invented = f.none_invented;
        none_given = λ k beyond. f.none_given k (omega (arith, beyond, more));
        none_hung_up = f.none_hung_up;
        in_order = order-out s part f.in_order says;
      },
    )

-- a hub whose list of what hasn't gone out is the same
pub same-outgoing : (s : State) (h : Standing) (outgoing' : List Rest) → Fits s h → outgoing' ≡ h.outgoing → Fits s (record h { outgoing = outgoing' })
same-outgoing s h outgoing' f e = subst (λ (l : List Rest). Fits s (record h { outgoing = l })) (sym e) f

-- ---- mailboxes

-- what take answers of a request that is known and that its reader didn't hang up
pub take-known : (s : State) (id : ℕ) → id < length s.book → is_hung_up s id ≡ false → take_answer s id ≡ take_of_waiting s id (waiting s id)
take-known s id low here = by_tests (nat_lt id (length s.book)) (is_hung_up s id) (grind (arith, nat_tests)) here
  where
    by_tests : (a b : Bool) → a ≡ true → b ≡ false → (if a then (if b then taking.Gone else take_of_waiting s id (waiting s id)) else taking.Gone) ≡ take_of_waiting s id (waiting s id)
    by_tests true false p q = refl
    by_tests true true p q = absurd cc
    by_tests false b p q = absurd cc

-- the oldest batch is taken
pub took : (s : State) (h : Standing) (id : ℕ) (batch : List RawMessage) (mail' : List Mailbox) → Fits s h → id < length h.mail →
    first_of (at h.mail id) ≡ Some batch → mail' ≡ slice_set h.mail id (rest_of (at h.mail id)) →
    ((taking.Batch batch ≡ take_answer s id) × Unit {0} × Unit {0}) × Fits (after s (call.Take id (Ok (taking.Batch batch)))) (record h { mail = mail'; touched = true })
took s h id batch mail' f low first em =
    let known : id < length s.book = let a = f.standing.mail in let q = ap length f.book in omega arith in
    let t = takes-first (at h.mail id) batch first in
    let m = f.mail id known in
    let here : is_hung_up s id ≡ false = sym m.gone ∙ t.here in
    let waited : waiting s id ≡ batch ∷ waits (rest_of (at h.mail id)) = sym (m.waits here) ∙ t.waited in
    let new : Taken = record { id = id; messages = batch } in (
      (sym (take-known s id known here ∙ ap (take_of_waiting s id) waited), tt, tt),
      record {
        standing = record { mail = ap length em ∙ length-set h.mail id (rest_of (at h.mail id)) ∙ f.standing.mail; out = f.standing.out; finished = f.standing.finished };
        book = f.book;
        mail = all-set (MailFits (after s (call.Take id (Ok (taking.Batch batch))))) h.mail mail' (length s.book) id (rest_of (at h.mail id)) em low
            (λ k inside apart. let o = f.mail k inside in record {
              gone = o.gone;
              waits = λ still. o.waits still ∙ ap (λ (l : List (List RawMessage)). drop (length l) (given k s.deliveries)) (sym (taken-other k s.takes new (λ e. apart (sym e))));
            })
            (record {
              gone = t.still_here ∙ sym here;
              waits = λ still. sym (ap (λ (l : List (List RawMessage)). drop (length l) (given id s.deliveries)) (taken-own id s.takes new refl)
                  ∙ ap (λ (n : ℕ). drop n (given id s.deliveries)) (length_push (taken id s.takes) batch)
                  ∙ drop-one-more (length (taken id s.takes)) (given id s.deliveries) batch _ waited);
            });
        parts = f.parts;
        finished = f.finished;
        statements = f.statements;
        portals = f.portals;
        catalog = f.catalog;
        closed = f.closed;
        failed = f.failed;
        none_invented = λ k. elim (eqb_tells k id) [
          | inl same ↦ subst (λ (n : ℕ). length (taken n (s.takes ++ new ∷ [])) ≤ length (given n s.deliveries)) (sym same.1)
              (let a = ap length (taken-own id s.takes new refl) ∙ length_push (taken id s.takes) batch in let b = more-left (length (taken id s.takes)) (given id s.deliveries) batch _ waited in omega arith)
          | inr apart ↦ subst (λ (l : List (List RawMessage)). length l ≤ length (given k s.deliveries)) (sym (taken-other k s.takes new (λ e. apart.1 (sym e)))) (f.none_invented k)
        ];
        none_given = f.none_given;
        none_hung_up = f.none_hung_up;
        in_order = order-same s (after s (call.Take id (Ok (taking.Batch batch)))) refl refl refl refl f.in_order;
      },
    )

-- a write that leaves what waits
pub waited-on : (s : State) (h : Standing) (id : ℕ) (mail' : List Mailbox) → Fits s h → id < length h.mail → is_gone (at h.mail id) ≡ false →
    first_of (at h.mail id) ≡ None → mail' ≡ slice_set h.mail id (rest_of (at h.mail id)) →
    (take_answer s id ≡ take_of_waiting s id []) × Fits s (record h { mail = mail' })
waited-on s h id mail' f low here none em =
    let known : id < length s.book = let a = f.standing.mail in let q = ap length f.book in omega arith in
    let t = nothing-waits (at h.mail id) none here in
    let m = f.mail id known in
    let here' : is_hung_up s id ≡ false = sym m.gone ∙ here in (
      take-known s id known here' ∙ ap (take_of_waiting s id) (sym (m.waits here') ∙ t.0),
      record {
        standing = record { mail = ap length em ∙ length-set h.mail id (rest_of (at h.mail id)) ∙ f.standing.mail; out = f.standing.out; finished = f.standing.finished };
        book = f.book;
        mail = all-set (MailFits s) h.mail mail' (length s.book) id (rest_of (at h.mail id)) em low (λ k inside apart. f.mail k inside) (subst (MailFits s id) (sym t.1) m);
        parts = f.parts;
        finished = f.finished;
        statements = f.statements;
        portals = f.portals;
        catalog = f.catalog;
        closed = f.closed;
        failed = f.failed;
        none_invented = f.none_invented;
        none_given = f.none_given;
        none_hung_up = f.none_hung_up;
        in_order = f.in_order;
      },
    )

pub in-last : (k x : ℕ) (xs : List ℕ) → k ≡ x → is_in k (xs ++ x ∷ []) ≡ true
in-last k x [] e = grind (arith, nat_tests)
in-last k x (y ∷ ys) e = let h : is_in k (ys ++ x ∷ []) ≡ true = in-last k x ys e in grind (arith, nat_tests)

pub in-other : (k x : ℕ) (xs : List ℕ) → k ≢ x → is_in k (xs ++ x ∷ []) ≡ is_in k xs
in-other k x [] e = grind (arith, nat_tests)
in-other k x (y ∷ ys) e = ap (λ (b : Bool). (y == k) || b) (in-other k x ys e)

-- a reader that is there may hang up
pub may-let-go : (s : State) (h : Standing) (id : ℕ) → Fits s h → id < length h.mail → is_gone (at h.mail id) ≡ false → may_let_go s id ≡ true
may-let-go s h id f low here =
    let known : id < length s.book = let a = f.standing.mail in let q = ap length f.book in omega arith in
    by_tests (nat_lt id (length s.book)) (is_hung_up s id) (grind (arith, nat_tests)) (sym (f.mail id known).gone ∙ here)
  where
    by_tests : (a b : Bool) → a ≡ true → b ≡ false → a && not b ≡ true
    by_tests true false p q = refl
    by_tests true true p q = absurd cc
    by_tests false b p q = absurd cc

-- and one that isn't booked, or hung up, may not
pub may-not : (s : State) (h : Standing) (id : ℕ) → Fits s h → (length h.mail ≤ id) ⊎ (id < length h.mail) × (is_gone (at h.mail id) ≡ true) → may_let_go s id ≡ false
may-not s h id f (inl high) = by_first (nat_lt id (length s.book)) (let a = f.standing.mail in let q = ap length f.book in grind (arith, nat_tests))
  where
    by_first : (a : Bool) → a ≡ false → a && not (is_hung_up s id) ≡ false
    by_first true e = absurd cc
    by_first false e = refl
may-not s h id f (inr (low, gone)) =
    let known : id < length s.book = let a = f.standing.mail in let q = ap length f.book in omega arith in
    by_second (nat_lt id (length s.book)) (is_hung_up s id) (sym (f.mail id known).gone ∙ gone)
  where
    by_second : (a b : Bool) → b ≡ true → a && not b ≡ false
    by_second true true e = refl
    by_second true false e = absurd cc
    by_second false b e = refl

-- then nothing changes
pub not-hung-up : (s : State) (h : Standing) (id : ℕ) → Fits s h → may_let_go s id ≡ false → Fits (after s (call.HangUp id (Ok tt))) h
not-hung-up s h id f e = subst (λ (t : State). Fits t h) (sym (let-go-none s id e)) f

-- a reader hangs up
pub hung-up : (s : State) (h : Standing) (id : ℕ) (mail' : List Mailbox) → Fits s h → id < length h.mail → is_gone (at h.mail id) ≡ false → mail' ≡ slice_set h.mail id HungUp →
    Fits (after s (call.HangUp id (Ok tt))) (record h { mail = mail'; touched = true })
hung-up s h id mail' f low here em =
    let known : id < length s.book = let a = f.standing.mail in let q = ap length f.book in omega arith in
    let more : (if may_let_go s id then s.hung_up ++ id ∷ [] else s.hung_up) ≡ s.hung_up ++ id ∷ [] =
    ap (λ (b : Bool). if b then s.hung_up ++ id ∷ [] else s.hung_up) (may-let-go s h id f low here) in
    record {
      standing = record { mail = ap length em ∙ length-set h.mail id HungUp ∙ f.standing.mail; out = f.standing.out; finished = f.standing.finished };
      book = f.book;
      mail = all-set (MailFits (after s (call.HangUp id (Ok tt)))) h.mail mail' (length s.book) id HungUp em low
          (λ k inside apart. let o = f.mail k inside in let same : is_hung_up (after s (call.HangUp id (Ok tt))) k ≡ is_hung_up s k = ap (λ (l : List ℕ). is_in k l) more ∙ in-other k id s.hung_up apart in
          record { gone = o.gone ∙ sym same; waits = λ here. o.waits (sym same ∙ here) })
          (let now : is_hung_up (after s (call.HangUp id (Ok tt))) id ≡ true = ap (λ (l : List ℕ). is_in id l) more ∙ in-last id id s.hung_up refl in
          record { gone = sym now; waits = λ here. absurd (false≢true (sym here ∙ now)) });
      parts = f.parts;
      finished = f.finished;
      statements = f.statements;
      portals = f.portals;
      catalog = f.catalog;
      closed = f.closed;
      failed = f.failed;
      none_invented = f.none_invented;
      none_given = f.none_given;
      none_hung_up = λ k beyond. ap (λ (l : List ℕ). is_in k l) more ∙ in-other k id s.hung_up (λ e. absurd (omega arith)) ∙ f.none_hung_up k beyond;
      in_order = order-same s (after s (call.HangUp id (Ok tt))) refl refl refl refl f.in_order;
    }

-- a batch is delivered
pub delivered : (s : State) (h : Standing) (batch : List RawMessage) (complete : Bool) (m : Mailbox) (mail' : List Mailbox) (finished' : ℕ) → Fits s h →
    is_batch complete batch ≡ true → h.finished < h.started → received_by (at h.mail h.finished) batch ≡ Some m → mail' ≡ slice_set h.mail h.finished m →
    finished' ≡ (if complete then 1 else 0) + h.finished → finished' ≤ h.started →
    (Allows s (call.Deliver batch complete delivering.Taken) × Unit {0} × Unit {0}) × Fits (after s (call.Deliver batch complete delivering.Taken)) (record h { mail = mail'; finished = finished'; touched = true })
delivered s h batch complete m mail' finished' f cut open_ received em ef bound =
    let id : ℕ = h.finished in
    let known : id < length s.book = let a = f.standing.out.started in let q = ap length f.book in omega arith in
    let low : id < length h.mail = let a = f.standing.mail in let q = ap length f.book in omega arith in
    let r = receives (at h.mail id) batch m received in
    let o = f.mail id known in
    let some_open : has_open s ≡ true = less-open s f.in_order (subst (λ (n : ℕ). n < started_of s) f.finished (subst (λ (n : ℕ). id < n) f.parts.started open_)) in
    let owner : id ≡ next_owner s = f.finished ∙ sym (owner-counted s f.in_order some_open) in
    let d : Delivery = record { owner = next_owner s; messages = batch; complete = complete } in
    let own : given id (s.deliveries ++ d ∷ []) ≡ given id s.deliveries ++ batch ∷ [] = given-own id s.deliveries d (sym owner) in
    let other : (k : ℕ) → k ≢ id → given k (s.deliveries ++ d ∷ []) ≡ given k s.deliveries = λ k apart. given-other k s.deliveries d (λ e. apart (sym e ∙ sym owner)) in
    let gone : is_gone (at h.mail id) ≡ is_hung_up s id = o.gone in
    let room : (is_hung_up s id ≡ true) ⊎ (length (waiting s id) < 2) = by_gone (is_gone (at h.mail id)) (is_hung_up s id) gone (λ e. subst (λ (l : List (List RawMessage)). length l < 2) (o.waits (sym gone ∙ e)) (r.waits e).1) in (
      ((cut, some_open, subst (λ (n : ℕ). (is_hung_up s n ≡ true) ⊎ (length (waiting s n) < 2)) owner room), tt, tt),
      record {
        standing = record { mail = ap length em ∙ length-set h.mail id m ∙ f.standing.mail; out = f.standing.out; finished = bound };
        book = f.book;
        mail = all-set (MailFits (after s (call.Deliver batch complete delivering.Taken))) h.mail mail' (length s.book) id m em low
            (λ k inside apart. let p = f.mail k inside in record {
              gone = p.gone;
              waits = λ here. p.waits here ∙ ap (λ (l : List (List RawMessage)). drop (length (taken k s.takes)) l) (sym (other k apart));
            })
            (record {
              gone = r.gone ∙ gone;
              waits = λ here. (r.waits (gone ∙ here)).0 ∙ ap (λ (l : List (List RawMessage)). l ++ batch ∷ []) (o.waits here)
                  ∙ sym (ap (λ (l : List (List RawMessage)). drop (length (taken id s.takes)) l) own ∙ drop-append-le (length (taken id s.takes)) (given id s.deliveries) (batch ∷ []) (f.none_invented id));
            });
        parts = f.parts;
        finished = ef ∙ ap (λ (n : ℕ). (if complete then 1 else 0) + n) f.finished ∙ sym (finished-more s.deliveries d);
        statements = f.statements;
        portals = f.portals;
        catalog = f.catalog;
        closed = f.closed;
        failed = f.failed;
        none_invented = λ k. elim (eqb_tells k id) [
          | inl same ↦ subst (λ (n : ℕ). length (taken n s.takes) ≤ length (given n (s.deliveries ++ d ∷ []))) (sym same.1)
              (let a = ap length own ∙ length_push (given id s.deliveries) batch in let b = f.none_invented id in omega arith)
          | inr apart ↦ subst (λ (l : List (List RawMessage)). length (taken k s.takes) ≤ length l) (sym (other k apart.1)) (f.none_invented k)
        ];
        none_given = λ k beyond. other k (λ e. let g = f.parts.started in absurd (omega arith)) ∙ f.none_given k beyond;
        none_hung_up = f.none_hung_up;
        in_order = order-deliver s batch complete f.in_order some_open;
      },
    )
  where
    by_gone : (a b : Bool) {A : Type 0} → a ≡ b → (a ≡ false → A) → (b ≡ true) ⊎ A
    by_gone true b e g = inl (sym e)
    by_gone false b e g = inr (g refl)

-- where nothing waits, a reply that has ended is over
pub none-over : (s : State) (h : Standing) (id : ℕ) → Fits s h → h.failed ≡ false → id < h.finished → taking.Over ≡ take_of_waiting s id []
none-over s h id f here low = by_tests s.failed (has_ended id s.deliveries) (sym f.failed ∙ here) (ended-is s h id f ∙ grind (arith, nat_tests))
  where
    by_tests : (a b : Bool) → a ≡ false → b ≡ true → taking.Over ≡ (if a then taking.Gone else (if b then taking.Over else taking.Empty))
    by_tests true b p q = absurd cc
    by_tests false true p q = refl
    by_tests false false p q = absurd cc

-- and the mailbox of another is empty
pub none-empty : (s : State) (h : Standing) (id : ℕ) → Fits s h → h.failed ≡ false → h.finished ≤ id → taking.Empty ≡ take_of_waiting s id []
none-empty s h id f here high = by_tests s.failed (has_ended id s.deliveries) (sym f.failed ∙ here) (ended-is s h id f ∙ grind (arith, nat_tests))
  where
    by_tests : (a b : Bool) → a ≡ false → b ≡ false → taking.Empty ≡ (if a then taking.Gone else (if b then taking.Over else taking.Empty))
    by_tests true b p q = absurd cc
    by_tests false false p q = refl
    by_tests false true p q = absurd cc

-- the same mailboxes under another name
pub refits : (s : State) (h : Standing) (mail' : List Mailbox) → Fits s h → mail' ≡ h.mail → Fits s (record h { mail = mail' })
refits s h mail' f em = subst (λ (l : List Mailbox). Fits s (record h { mail = l })) (sym em) f

-- a batch for which there is no room
pub full : (s : State) (h : Standing) (batch : List RawMessage) (complete : Bool) (back : List RawMessage) → Fits s h → h.finished < h.started →
    back ≡ batch → received_by (at h.mail h.finished) batch ≡ None → Allows s (call.Deliver batch complete (delivering.Full back))
full s h batch complete back f open_ same none =
    let known : h.finished < length s.book = let a = f.standing.out.started in let q = ap length f.book in omega arith in
    let some_open : has_open s ≡ true = open-is s h f ∙ grind (arith, nat_tests) in
    let owner : h.finished ≡ next_owner s = f.finished ∙ sym (owner-counted s f.in_order some_open) in
    let m = f.mail h.finished known in
    let r = no-room (at h.mail h.finished) batch none in
    let here : is_hung_up s h.finished ≡ false = sym m.gone ∙ r.0 in
    let two : 2 ≤ length (waiting s h.finished) = subst (λ (l : List (List RawMessage)). 2 ≤ length l) (m.waits here) r.1 in
    (same, some_open, subst (λ (n : ℕ). is_hung_up s n ≡ false) owner here, subst (λ (n : ℕ). 2 ≤ length (waiting s n)) owner two)
