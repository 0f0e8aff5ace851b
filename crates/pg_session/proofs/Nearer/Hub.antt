-- What events leave in a hub: batches that readers haven't taken, and parts that haven't gone out.
use Rattle.std.proofs.Common.{◌≡◌, ◌≢◌, ℕ, zero, suc, ◌+◌, ◌<◌, ◌≤◌, List, [], ◌∷◌, ◌++◌, length, drop, Bool, true, false, if◌then◌else◌, Ok, Err, refl, sym, ap, ◌∙◌, subst, arith, nat_lt, length-append, length-drop}
use Rattle.std.specs.List.{list_any}
use Rattle.std.proofs.lemmas.Bool.Decides.{nat_tests}
use Rattle.std.proofs.lemmas.List.{length_push}
use Rattle.pg_spec.specs.RawMessages.{RawMessage}
use Rattle.pg_connect.specs.Passed.{IsEngineCall, AllEngineCalls, delivered_in, delivered_by, bytes_out_in, bytes_out_by, parts_out_in, parts_out_by, moves_in}
use Rattle.pg_desk.specs.declared.event.Booking.{Booking}
use Rattle.pg_desk.specs.declared.event.Deliver.TheVariants as delivering
use Rattle.pg_desk.specs.declared.event.Event.{Event}
use Rattle.pg_desk.specs.declared.event.Event.TheVariants.{Book, Put as PutEvent, EndCopy, Take as TakeEvent, HangUp, NextStatement, NextPortal, Catalog as CatalogEvent, NextOut, Deliver as DeliverEvent, CloseRequests, Fail}
use Rattle.pg_desk.specs.declared.event.Out.TheVariants as out
use Rattle.pg_spec.specs.declared.stamps.Stamp.{Stamp}
use Rattle.pg_desk.specs.declared.event.Put.TheVariants as putting
use Rattle.pg_desk.specs.declared.event.Take.TheVariants as taking
use Rattle.pg_desk.specs.History.{State, Delivery, Taken, wire, given, has_ended, may_let_go, next_owner, taken, waiting, is_in, is_hung_up, extended, after, after_all, take_answer, take_of_waiting, Allows, IsLegal}
use Rattle.pg_desk.proofs.Owners.{given-own, given-other}
use Rattle.pg_desk.proofs.Soundness.{taken-own, taken-other, in-more-if, part-goes-out}
use Rattle.pg_desk.proofs.Parts.{extended-length, started-low}
use Rattle.pg_hub.specs.declared.mailbox.Mailbox.{Mailbox}
use Rattle.pg_hub.specs.declared.mailbox.Mailbox.TheVariants.{Empty, One, Two, HungUp}
use Rattle.pg_hub.specs.Fits.{Fits, MailFits}
use Rattle.pg_hub.specs.Mail.{waits, is_gone, at}
use Rattle.pg_hub.specs.Rests.{weight_in}
use Rattle.pg_hub.specs.Standing.{Standing}
use Rattle.pg_hub.specs.Waiting.{undelivered_in, undelivered_of}
use Rattle.pg_session.proofs.Nearer.Falling.{one_if, one-or}
use Rattle.pg_session.proofs.Nearer.Sums.{total, total-more, total-less, total-falls, total-grows, undelivered-total, parts_left, weight-rests}

-- ---- what a state leaves to do

-- the batches that wait for a reader, if it didn't hang up
abbrev pub waits_for : State → ℕ → ℕ
waits_for s k = if is_hung_up s k then 0 else length (waiting s k)

-- all of them
abbrev pub batches_left : State → ℕ
batches_left s = total (waits_for s) (length s.book)

-- the parts that haven't gone out
abbrev pub wire_left : State → ℕ
wire_left s = parts_left (drop (length s.gone_out) (wire s.book))

none-waits : (m : Mailbox) → is_gone m ≡ true → length (waits m) ≡ 0
none-waits Empty h = absurd cc
none-waits (One a) h = absurd cc
none-waits (Two a b) h = absurd cc
none-waits HungUp h = refl

-- a mailbox has as many
mail-waits : (s : State) (k : ℕ) (m : Mailbox) → MailFits s k m → length (waits m) ≡ waits_for s k
mail-waits s k m fits = by (is_hung_up s k) refl
  where
    by : (b : Bool) → is_hung_up s k ≡ b → length (waits m) ≡ (if b then 0 else length (waiting s k))
    by true is = none-waits m (fits.gone ∙ is)
    by false is = ap (λ (l : List (List RawMessage)). length l) (fits.waits is)

-- a hub has as many of each as the state that it stands for
pub hub-batches : (s : State) (h : Standing) → Fits s h → undelivered_of h ≡ batches_left s
hub-batches s h fits =
    let long : length h.mail ≡ length s.book = fits.standing.mail ∙ ap (λ (b : List Booking). length b) fits.book in
    let mail : undelivered_in h.mail ≡ total (waits_for s) (length h.mail) =
    undelivered-total h.mail (waits_for s) (λ k lt. mail-waits s k (at h.mail k) (fits.mail k (omega (arith, lt, long)))) in
    let same : total (waits_for s) (length h.mail) ≡ total (waits_for s) (length s.book) = ap (total (waits_for s)) long in
    mail ∙ same

pub hub-parts : (s : State) (h : Standing) → Fits s h → h.unsent ≡ wire_left s
hub-parts s h fits = fits.standing.out.unsent ∙ ap weight_in fits.parts.rest ∙ weight-rests (length s.gone_out) s.book s.copying

-- ---- a booking

-- nothing came for a request that isn't booked
abbrev pub NoneGiven : State → Type 0
NoneGiven s = (k : ℕ) → length s.book ≤ k → given k s.deliveries ≡ []

pub none-given : (s : State) (h : Standing) → Fits s h → NoneGiven s
none-given s h fits k le = fits.none_given k (omega (arith, le, started-low (length s.gone_out) s.book))

none-behind : (n : ℕ) → length (drop n (let none : List (List RawMessage) = [] in none)) ≡ 0
none-behind zero = refl
none-behind (suc n) = refl

none-waits-for : (s : State) (k : ℕ) → given k s.deliveries ≡ [] → waits_for s k ≡ 0
none-waits-for s k none = by (is_hung_up s k)
  where
    by : (b : Bool) → (if b then 0 else length (waiting s k)) ≡ 0
    by true = refl
    by false = ap (λ (l : List (List RawMessage)). length (drop (length (taken k s.takes)) l)) none ∙ none-behind (length (taken k s.takes))

-- no batch more waits, and nothing came for a request that isn't booked
pub record AddsNone (s t : State) : Type 0 where
  pub left : batches_left t ≤ batches_left s
  pub none : NoneGiven t

-- a request that is booked has no batches
booked-adds-none : (s : State) (stamp : Stamp) (part : List ℕ) (copying : Bool) (id : ℕ) → NoneGiven s → AddsNone s (after s (Book stamp part copying (Ok id)))
booked-adds-none s stamp part copying id none =
    let booking : Booking = record { stamp = stamp; parts = part ∷ [] } in
    let long : length (s.book ++ booking ∷ []) ≡ suc (length s.book) = length_push s.book booking ∙ omega arith in
    let new : waits_for s (length s.book) ≡ 0 = none-waits-for s (length s.book) (none (length s.book) (omega arith)) in
    let batches : total (waits_for s) (length (s.book ++ booking ∷ [])) ≡ total (waits_for s) (length s.book) + waits_for s (length s.book) =
    ap (total (waits_for s)) long ∙ total-more (waits_for s) (length s.book) in
    record {
      left = omega (arith, new, batches);
      none = λ k le. none k (omega (arith, le, long));
    }

-- a part more leaves as many requests
extended-adds-none : (s t : State) (id : ℕ) (part : List ℕ) → NoneGiven s → t.book ≡ extended id part s.book → t.deliveries ≡ s.deliveries → t.takes ≡ s.takes → t.hung_up ≡ s.hung_up → AddsNone s t
extended-adds-none s t id part none book deliveries takes hung_up =
    let long : length t.book ≡ length s.book = ap (λ (b : List Booking). length b) book ∙ extended-length id part s.book in
    let waits : (k : ℕ) → waits_for t k ≤ waits_for s k =
    λ k. let same = ap (λ (ds : List Delivery). if is_in k t.hung_up then 0 else length (drop (length (taken k t.takes)) (given k ds))) deliveries
    ∙ ap (λ (ts : List Taken). if is_in k t.hung_up then 0 else length (drop (length (taken k ts)) (given k s.deliveries))) takes
    ∙ ap (λ (hs : List ℕ). if is_in k hs then 0 else length (drop (length (taken k s.takes)) (given k s.deliveries))) hung_up in omega (arith, same) in
    let less = total-less (waits_for s) (waits_for t) (length t.book) waits in
    let same : total (waits_for s) (length t.book) ≡ total (waits_for s) (length s.book) = ap (total (waits_for s)) long in
    record {
      left = omega (arith, less, same);
      none = λ k le. ap (λ (ds : List Delivery). given k ds) deliveries ∙ none k (omega (arith, le, long));
    }

-- ---- a take

first-waits : (s : State) (id : ℕ) (ms : List RawMessage) (l : List (List RawMessage)) → taking.Batch ms ≡ take_of_waiting s id l → 0 < length l
first-waits s id ms (x ∷ l) h = omega arith
first-waits s id ms [] h = by s.failed (has_ended id s.deliveries) h
  where
    by : (b c : Bool) → taking.Batch ms ≡ (if b then taking.Gone else (if c then taking.Over else taking.Empty)) → 0 < 0
    by true c h = absurd cc
    by false true h = absurd cc
    by false false h = absurd cc

-- a batch that is taken waited for a reader that didn't hang up
record TakesFirst (s : State) (id : ℕ) : Type 0 where
  booked : id < length s.book
  reads : is_hung_up s id ≡ false
  some : 0 < length (waiting s id)

takes-first : (s : State) (id : ℕ) (ms : List RawMessage) → taking.Batch ms ≡ take_answer s id → TakesFirst s id
takes-first s id ms h = by (nat_lt id (length s.book)) (is_hung_up s id) refl refl h
  where
    by : (b c : Bool) → nat_lt id (length s.book) ≡ b → is_hung_up s id ≡ c →
        taking.Batch ms ≡ (if b then (if c then taking.Gone else take_of_waiting s id (waiting s id)) else taking.Gone) → TakesFirst s id
    by false c p q h = absurd cc
    by true true p q h = absurd cc
    by true false p q h = record { booked = grind (arith, nat_tests); reads = q; some = first-waits s id ms (waiting s id) h }

shorter : {A : Type 0} (n : ℕ) (xs : List A) → 0 < length (drop n xs) → length (drop (n + 1) xs) + 1 ≤ length (drop n xs)
shorter n xs some = omega (arith, length-drop n xs, length-drop (n + 1) xs, some)

pub take-left : (s : State) (id : ℕ) (ms : List RawMessage) → Allows s (TakeEvent id (Ok (taking.Batch ms))) →
    batches_left (after s (TakeEvent id (Ok (taking.Batch ms)))) + 1 ≤ batches_left s
take-left s id ms allows =
    let t = after s (TakeEvent id (Ok (taking.Batch ms))) in
    let first = takes-first s id ms allows in
    let entry : Taken = record { id = id; messages = ms } in
    let own : length (taken id (s.takes ++ entry ∷ [])) ≡ length (taken id s.takes) + 1 =
    ap (λ (l : List (List RawMessage)). length l) (taken-own id s.takes entry refl) ∙ length-append (taken id s.takes) (ms ∷ []) in
    let here : waits_for t id + 1 ≤ waits_for s id =
    subst (λ (b : Bool). (if b then 0 else length (waiting t id)) + 1 ≤ (if b then 0 else length (waiting s id))) (sym first.reads)
    (subst (λ (n : ℕ). length (drop n (given id s.deliveries)) + 1 ≤ length (waiting s id)) (sym own)
    (shorter (length (taken id s.takes)) (given id s.deliveries) first.some)) in
    let others : (k : ℕ) → k ≢ id → waits_for t k ≤ waits_for s k =
    λ k apart. let same = ap (λ (l : List (List RawMessage)). if is_hung_up s k then 0 else length (drop (length l) (given k s.deliveries)))
    (taken-other k s.takes entry (λ e. apart (sym e))) in omega (arith, same) in
    total-falls (waits_for s) (waits_for t) id (length s.book) first.booked others here

-- ---- a reader hangs up

gone-less : (b c : Bool) (n : ℕ) → (c ≡ false → b ≡ false) → (if c then 0 else n) ≤ (if b then 0 else n)
gone-less b true n h = omega arith
gone-less true false n h = let no : true ≡ false = h refl in absurd cc
gone-less false false n h = omega arith

hang-up-left : (s : State) (id : ℕ) → batches_left (after s (HangUp id (Ok tt))) ≤ batches_left s
hang-up-left s id =
    let t = after s (HangUp id (Ok tt)) in
    total-less (waits_for s) (waits_for t) (length s.book)
    (λ k. gone-less (is_hung_up s k) (is_hung_up t k) (length (waiting s k)) (in-more-if (may_let_go s id) k id s.hung_up))

-- ---- a handle's calls

-- a handle's call
abbrev pub IsHandleCall : Event → Type 0
IsHandleCall (Book stamp part copying r) = Unit {0}
IsHandleCall (PutEvent id part r) = Unit {0}
IsHandleCall (EndCopy id part r) = Unit {0}
IsHandleCall (TakeEvent id r) = Unit {0}
IsHandleCall (HangUp id r) = Unit {0}
IsHandleCall (NextStatement r) = Unit {0}
IsHandleCall (NextPortal r) = Unit {0}
IsHandleCall (CatalogEvent c) = Unit {0}
IsHandleCall _ = ⊥

abbrev pub AreHandleCalls : List Event → Type 0
AreHandleCalls [] = Unit {0}
AreHandleCalls (e ∷ es) = IsHandleCall e × AreHandleCalls es

call-adds-none : (s : State) (e : Event) → IsHandleCall e → Allows s e → NoneGiven s → AddsNone s (after s e)
call-adds-none s (Book stamp part copying (Ok id)) call a none = booked-adds-none s stamp part copying id none
call-adds-none s (Book stamp part copying (Err e)) call a none = record { left = omega arith; none = none }
call-adds-none s (PutEvent id part putting.Took) call a none = extended-adds-none s (after s (PutEvent id part putting.Took)) id part none refl refl refl refl
call-adds-none s (PutEvent id part (putting.Full back)) call a none = record { left = omega arith; none = none }
call-adds-none s (PutEvent id part (putting.Gone back)) call a none = record { left = omega arith; none = none }
call-adds-none s (PutEvent id part (putting.OutOfMemory back)) call a none = record { left = omega arith; none = none }
call-adds-none s (EndCopy id part putting.Took) call a none = extended-adds-none s (after s (EndCopy id part putting.Took)) id part none refl refl refl refl
call-adds-none s (EndCopy id part (putting.Full back)) call a none = record { left = omega arith; none = none }
call-adds-none s (EndCopy id part (putting.Gone back)) call a none = record { left = omega arith; none = none }
call-adds-none s (EndCopy id part (putting.OutOfMemory back)) call a none = record { left = omega arith; none = none }
call-adds-none s (TakeEvent id (Ok (taking.Batch ms))) call a none = record { left = let h = take-left s id ms a in omega (arith, h); none = none }
call-adds-none s (TakeEvent id (Ok taking.Empty)) call a none = record { left = omega arith; none = none }
call-adds-none s (TakeEvent id (Ok taking.Over)) call a none = record { left = omega arith; none = none }
call-adds-none s (TakeEvent id (Ok taking.Gone)) call a none = record { left = omega arith; none = none }
call-adds-none s (TakeEvent id (Err e)) call a none = record { left = omega arith; none = none }
call-adds-none s (HangUp id (Ok x)) call a none = record { left = hang-up-left s id; none = none }
call-adds-none s (HangUp id (Err e)) call a none = record { left = omega arith; none = none }
call-adds-none s (NextStatement (Ok n)) call a none = record { left = omega arith; none = none }
call-adds-none s (NextStatement (Err e)) call a none = record { left = omega arith; none = none }
call-adds-none s (NextPortal (Ok n)) call a none = record { left = omega arith; none = none }
call-adds-none s (NextPortal (Err e)) call a none = record { left = omega arith; none = none }
call-adds-none s (CatalogEvent c) call a none = record { left = omega arith; none = none }
call-adds-none s (NextOut r) call a none = absurd call
call-adds-none s (DeliverEvent batch complete r) call a none = absurd call
call-adds-none s (CloseRequests r) call a none = absurd call
call-adds-none s (Fail r) call a none = absurd call

-- and several
pub calls-add-none : (s : State) (es : List Event) → AreHandleCalls es → IsLegal s es → NoneGiven s → AddsNone s (after_all s es)
calls-add-none s [] calls legal none = record { left = omega arith; none = none }
calls-add-none s (e ∷ es) calls legal none =
    let one = call-adds-none s e calls.0 legal.0 none in
    let more = calls-add-none (after s e) es calls.1 legal.1 one.none in
    record { left = omega (arith, one.left, more.left); none = more.none }

-- ---- a delivery

one-behind : {A : Type 0} (n : ℕ) (xs : List A) (x : A) → length (drop n (xs ++ x ∷ [])) ≤ length (drop n xs) + 1
one-behind n xs x = omega (arith, length-drop n (xs ++ x ∷ []), length-drop n xs, length_push xs x)

deliver-left : (s : State) (batch : List RawMessage) (complete : Bool) →
    batches_left (after s (DeliverEvent batch complete delivering.Taken)) ≤ batches_left s + 1
deliver-left s batch complete =
    let t = after s (DeliverEvent batch complete delivering.Taken) in
    let place = next_owner s in
    let entry : Delivery = record { owner = place; messages = batch; complete = complete } in
    let own : given place t.deliveries ≡ given place s.deliveries ++ batch ∷ [] = given-own place s.deliveries entry refl in
    let here : waits_for t place ≤ waits_for s place + 1 =
    by (length (waiting t place)) (length (waiting s place)) (is_hung_up s place) (subst (λ (l : List (List RawMessage)). length (drop (length (taken place s.takes)) l) ≤ length (waiting s place) + 1) (sym own)
    (one-behind (length (taken place s.takes)) (given place s.deliveries) batch)) in
    let others : (k : ℕ) → k ≢ place → waits_for t k ≤ waits_for s k =
    λ k apart. let same = ap (λ (l : List (List RawMessage)). if is_hung_up s k then 0 else length (drop (length (taken k s.takes)) l))
    (given-other k s.deliveries entry (λ e. apart (sym e))) in omega (arith, same) in
    total-grows (waits_for s) (waits_for t) place (length s.book) others here
  where
    by : (m n : ℕ) (b : Bool) → m ≤ n + 1 → (if b then 0 else m) ≤ (if b then 0 else n) + 1
    by m n true h = omega arith
    by m n false h = h

-- ---- a part goes out

one-out : (n : ℕ) (ps : List (List ℕ)) (p : List ℕ) (more : List (List ℕ)) → drop n ps ≡ p ∷ more → parts_left (drop (suc n) ps) + suc (length p) ≡ parts_left (drop n ps)
one-out n [] p more h = let none = ap (λ (l : List (List ℕ)). length l) h in absurd (omega (arith, none, length-drop n (let no : List (List ℕ) = [] in no)))
one-out zero (q ∷ ps) p more h = let same : q ≡ p = cc in let long = ap (λ (l : List ℕ). length l) same in omega (arith, long)
one-out (suc n) (q ∷ ps) p more h = one-out n ps p more h

out-left : (s : State) (part : List ℕ) → Allows s (NextOut (Ok (out.Part part))) →
    wire_left (after s (NextOut (Ok (out.Part part)))) + suc (length part) ≤ wire_left s
out-left s part allows =
    let first = part-goes-out s part allows.1 in
    let long : length (s.gone_out ++ part ∷ []) ≡ suc (length s.gone_out) = length_push s.gone_out part ∙ omega arith in
    let parts = one-out (length s.gone_out) (wire s.book) part first.more first.next in
    let same = ap (λ (n : ℕ). parts_left (drop n (wire s.book))) long in
    omega (arith, parts, same)

-- ---- a connection's calls

-- They bring batches of those that are delivered, one message or more each, and take out parts.
pub record Passed (s t : State) (delivered out parts moved : ℕ) : Type 0 where
  pub batches : batches_left t ≤ batches_left s + delivered
  pub wire : wire_left t + (out + parts) ≤ wire_left s
  pub moves : moved ≤ delivered + parts

call-passed : (s : State) (e : Event) → IsEngineCall e → Allows s e →
    Passed s (after s e) (length (delivered_in e)) (length (bytes_out_in e)) (length (parts_out_in e)) (one_if (moves_in e))
call-passed s (NextOut (Ok (out.Part part))) call a = record { batches = omega arith; wire = let h = out-left s part a in omega (arith, h); moves = omega arith }
call-passed s (NextOut (Ok out.CopyWaits)) call a = record { batches = omega arith; wire = omega arith; moves = omega arith }
call-passed s (NextOut (Ok out.Nothing)) call a = record { batches = omega arith; wire = omega arith; moves = omega arith }
call-passed s (NextOut (Ok out.NoMore)) call a = record { batches = omega arith; wire = omega arith; moves = omega arith }
call-passed s (NextOut (Err e)) call a = record { batches = omega arith; wire = omega arith; moves = omega arith }
call-passed s (DeliverEvent batch complete delivering.Taken) call a =
    let h = deliver-left s batch complete in
    let some : 0 < length batch = call in
    record { batches = omega (arith, h, some); wire = omega arith; moves = omega (arith, some) }
call-passed s (DeliverEvent batch complete (delivering.Full back)) call a = record { batches = omega arith; wire = omega arith; moves = omega arith }
call-passed s (DeliverEvent batch complete (delivering.NoRequest back)) call a = record { batches = omega arith; wire = omega arith; moves = omega arith }
call-passed s (DeliverEvent batch complete (delivering.OutOfMemory back)) call a = record { batches = omega arith; wire = omega arith; moves = omega arith }
call-passed s (Book stamp part copying r) call a = absurd call
call-passed s (TakeEvent id r) call a = absurd call
call-passed s (HangUp id r) call a = absurd call
call-passed s (NextStatement r) call a = absurd call
call-passed s (NextPortal r) call a = absurd call
call-passed s (CatalogEvent c) call a = absurd call
call-passed s (PutEvent which part r) call a = absurd call
call-passed s (EndCopy which part r) call a = absurd call
call-passed s (CloseRequests r) call a = absurd call
call-passed s (Fail r) call a = absurd call

pub calls-passed : (s : State) (es : List Event) → AllEngineCalls es → IsLegal s es →
    Passed s (after_all s es) (length (delivered_by es)) (length (bytes_out_by es)) (length (parts_out_by es)) (one_if (list_any moves_in es))
calls-passed s [] calls legal = record { batches = omega arith; wire = omega arith; moves = omega arith }
calls-passed s (e ∷ es) calls legal =
    let one = call-passed s e calls.0 legal.0 in
    let more = calls-passed (after s e) es calls.1 legal.1 in
    let bytes = length-append (bytes_out_in e) (bytes_out_by es) in
    let parts = length-append (parts_out_in e) (parts_out_by es) in
    let batches = length-append (delivered_in e) (delivered_by es) in
    let moved = one-or (moves_in e) (list_any moves_in es) in
    record {
      batches = omega (arith, one.batches, more.batches, batches);
      wire = omega (arith, one.wire, more.wire, bytes, parts);
      moves = omega (arith, one.moves, more.moves, moved, batches, parts);
    }
