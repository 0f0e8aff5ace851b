-- Sums over places, and what is left of scripts and parts.
use Rattle.std.proofs.Common.{◌≡◌, ◌≢◌, ℕ, zero, suc, ◌+◌, ◌-◌, ◌<◌, ◌≤◌, List, [], ◌∷◌, ◌++◌, length, drop, Bool, Some, refl, ap, ◌∙◌, subst, arith}
use Rattle.std.specs.Prelude.{slice_get, slice_set}
use Rattle.pg_hub.specs.declared.mailbox.Mailbox.{Mailbox}
use Rattle.pg_hub.specs.Mail.{waits, at}
use Rattle.pg_desk.specs.declared.event.Booking.{Booking}
use Rattle.pg_desk.specs.History.{rest_flags, wire}
use Rattle.pg_hub.specs.Rests.{rests, weight_in, weight_of}
use Rattle.pg_hub.specs.Waiting.{undelivered_in}
use Rattle.pg_session.specs.Measure.{script_left, scripts_left, RunWaits, AllWait}
use Rattle.pg_session.specs.Handles.{HandleState}

-- ---- sums over places

-- the sum at the first places
abbrev pub total : (ℕ → ℕ) → ℕ → ℕ
total f zero = 0
total f (suc n) = f 0 + total (λ k. f (suc k)) n

-- one place more
pub total-more : (f : ℕ → ℕ) (n : ℕ) → total f (suc n) ≡ total f n + f n
total-more f zero = omega arith
total-more f (suc n) = let h = total-more (λ k. f (suc k)) n in omega (arith, h)

-- less at each place
pub total-less : (f g : ℕ → ℕ) (n : ℕ) → ((k : ℕ) → g k ≤ f k) → total g n ≤ total f n
total-less f g zero h = omega arith
total-less f g (suc n) h = let more = total-less (λ k. f (suc k)) (λ k. g (suc k)) n (λ k. h (suc k)) in omega (arith, more, h 0)

-- one less at one place, and no more at any
pub total-falls : (f g : ℕ → ℕ) (place n : ℕ) → place < n → ((k : ℕ) → k ≢ place → g k ≤ f k) → g place + 1 ≤ f place → total g n + 1 ≤ total f n
total-falls f g place zero lt h one = absurd (omega (arith, lt))
total-falls f g zero (suc n) lt h one =
    let more = total-less (λ k. f (suc k)) (λ k. g (suc k)) n (λ k. h (suc k) (λ e. absurd cc)) in
    omega (arith, more, one)
total-falls f g (suc place) (suc n) lt h one =
    let more = total-falls (λ k. f (suc k)) (λ k. g (suc k)) place n (omega (arith, lt)) (λ k apart. h (suc k) (λ e. apart (omega (arith, e)))) one in
    omega (arith, more, h 0 (λ e. absurd cc))

-- one more at one place, and no more at any other
pub total-grows : (f g : ℕ → ℕ) (place n : ℕ) → ((k : ℕ) → k ≢ place → g k ≤ f k) → g place ≤ f place + 1 → total g n ≤ total f n + 1
total-grows f g place zero h one = omega arith
total-grows f g zero (suc n) h one =
    let more = total-less (λ k. f (suc k)) (λ k. g (suc k)) n (λ k. h (suc k) (λ e. absurd cc)) in
    omega (arith, more, one)
total-grows f g (suc place) (suc n) h one =
    let more = total-grows (λ k. f (suc k)) (λ k. g (suc k)) place n (λ k apart. h (suc k) (λ e. apart (omega (arith, e)))) one in
    omega (arith, more, h 0 (λ e. absurd cc))

-- the batches in mailboxes, mailbox by mailbox
pub undelivered-total : (mail : List Mailbox) (f : ℕ → ℕ) → ((k : ℕ) → k < length mail → length (waits (at mail k)) ≡ f k) → undelivered_in mail ≡ total f (length mail)
undelivered-total [] f h = refl
undelivered-total (m ∷ mail) f h =
    let more = undelivered-total mail (λ k. f (suc k)) (λ k lt. h (suc k) (omega (arith, lt))) in
    let first : length (waits m) ≡ f 0 = h 0 (omega arith) in
    omega (arith, more, first)

-- ---- parts

-- a part that is to go out: its bytes, and one more
abbrev pub part_left : List ℕ → ℕ
part_left part = suc (length part)

-- parts that are to go out
abbrev pub parts_left : List (List ℕ) → ℕ
parts_left [] = 0
parts_left (part ∷ parts) = part_left part + parts_left parts

pub parts-joined : (ps qs : List (List ℕ)) → parts_left (ps ++ qs) ≡ parts_left ps + parts_left qs
parts-joined [] qs = omega arith
parts-joined (p ∷ ps) qs = let h = parts-joined ps qs in omega (arith, h)

weighs : (ps : List (List ℕ)) → weight_of ps ≡ parts_left ps
weighs [] = refl
weighs (p ∷ ps) = let h = weighs ps in omega (arith, h)

drop-both : {A : Type 0} (n : ℕ) (xs ys : List A) → drop n (xs ++ ys) ≡ drop n xs ++ drop (n - length xs) ys
drop-both {A} zero xs ys = ap (λ (m : ℕ). xs ++ drop m ys) (let e : 0 ≡ 0 - length xs = omega arith in e)
drop-both {A} (suc n) [] ys = ap (λ (m : ℕ). drop m ys) (let e : suc n ≡ suc n - 0 = omega arith in e)
drop-both {A} (suc n) (x ∷ xs) ys = drop-both n xs ys ∙ ap (λ (m : ℕ). drop n xs ++ drop m ys) (let e : n - length xs ≡ suc n - suc (length xs) = omega arith in e)

-- what waits of all requests weighs what is left of the wire
pub weight-rests : (n : ℕ) (bs : List Booking) (cs : List Bool) → weight_in (rests n bs cs) ≡ parts_left (drop n (wire bs))
weight-rests zero [] cs = refl
weight-rests (suc n) [] cs = refl
weight-rests n (b ∷ bs) cs =
    let here = weighs (drop n b.parts) in
    let later = weight-rests (n - length b.parts) bs (rest_flags cs) in
    let both = ap parts_left (drop-both n b.parts (wire bs)) ∙ parts-joined (drop n b.parts) (drop (n - length b.parts) (wire bs)) in
    omega (arith, here, later, both)

-- ---- scripts

-- a handle's share changes, and with it all
pub scripts-changed : {C T A E : Type 0} (scripts : List (List C)) (handles : List (HandleState T A E)) (turn : ℕ) (script : List C) (old new : HandleState T A E) →
    slice_get scripts turn ≡ Some script → slice_get handles turn ≡ Some old →
    scripts_left scripts (slice_set handles turn new) + script_left script old.running (length old.answers)
    ≡ scripts_left scripts handles + script_left script new.running (length new.answers)
scripts-changed [] handles turn script old new is at = absurd cc
scripts-changed (x ∷ scripts) [] turn script old new is at = absurd cc
scripts-changed {C} {T} {A} {E} (x ∷ scripts) (h ∷ handles) zero script old new is at =
    let same : x ≡ script = cc in
    let here : h ≡ old = cc in
    let there = ap (λ (s : List C). script_left s new.running (length new.answers)) same in
    let before = ap (λ (s : List C). script_left s h.running (length h.answers)) same ∙ ap (λ (g : HandleState T A E). script_left script g.running (length g.answers)) here in
    omega (arith, there, before)
scripts-changed (x ∷ scripts) (h ∷ handles) (suc turn) script old new is at =
    let more = scripts-changed scripts handles turn script old new is at in omega (arith, more)

-- ---- what runs

pub waits-at : {T A E : Type 0} (handles : List (HandleState T A E)) (i : ℕ) (h : HandleState T A E) → AllWait handles → slice_get handles i ≡ Some h → RunWaits h.running
waits-at [] i h all e = absurd cc
waits-at {T} {A} {E} (x ∷ handles) zero h all e = let same : x ≡ h = cc in subst (λ (g : HandleState T A E). RunWaits g.running) same all.0
waits-at (x ∷ handles) (suc i) h all e = waits-at handles i h all.1 e

pub waits-set : {T A E : Type 0} (handles : List (HandleState T A E)) (i : ℕ) (h : HandleState T A E) → AllWait handles → RunWaits h.running → AllWait (slice_set handles i h)
waits-set [] i h all q = tt
waits-set (x ∷ handles) zero h all q = (q, all.1)
waits-set (x ∷ handles) (suc i) h all q = (all.0, waits-set handles i h all.1 q)
