-- Mailboxes that are kept, and what is seen of all by them.
use Rattle.std.proofs.Common.{◌≡◌, ◌≢◌, ◌<◌, ◌≤◌, ℕ, zero, suc, ◌+◌, ◌-◌, ◌==◌, List, [], ◌∷◌, ◌++◌, length, Bool, true, false, not, ◌&&◌, ◌||◌, if◌then◌else◌, get_or, slice_set, nat_lt, Option, Some, None, OnSome, refl, sym, ◌∙◌, ap, subst, arith, inl, inr}
use Rattle.std.specs.List.{remove}
use Rattle.std.proofs.lemmas.Bool.Decides.{eqb_tells, leb_tells}
use Rattle.std.proofs.lemmas.List.{get_or_past, get_or_push, get_or_append_left, length_push, length-set, get_or-set_same, get_or-set_other}
use Rattle.pg_spec.specs.RawMessages.{RawMessage}
use Rattle.pg_hub.specs.declared.mailbox.Mailbox.{Mailbox}
use Rattle.pg_hub.specs.declared.mailbox.Mailbox.TheVariants.{Empty, One, Two, HungUp}
use Rattle.pg_hub.specs.declared.mailbox.Kept.{Kept}
use Rattle.pg_hub.specs.Mail.{Mail, at, first_of, rest_of, received_by, is_gone, found, has, box, boxes_from, is_held, held_from, Ascending, KeepsHeld}
use Rattle.pg_hub.specs.Places.{IsAt, kept_at, mailbox_at, less_at, taken_at}

-- ---- tests

same : (k : ℕ) → (k == k) ≡ true
same k = elim (eqb_tells k k) [ inl e ↦ e.0 | inr e ↦ absurd (e.1 refl) ]

apart : (a b : ℕ) → a ≢ b → (a == b) ≡ false
apart a b h = elim (eqb_tells a b) [ inl e ↦ absurd (h e.1) | inr e ↦ e.0 ]

or-true : (b : Bool) → (b || true) ≡ true
or-true true = refl
or-true false = refl

both : (g h : Bool) → true ≡ (not g && h) → (g ≡ false) × (h ≡ true)
both true h e = absurd cc
both false true e = (refl, refl)
both false false e = absurd cc

-- ---- one among those that are kept

found-here : (m : Kept) (ms : List Kept) (k : ℕ) → m.id ≡ k → found k (m ∷ ms) ≡ m.mailbox
found-here m ms k e = ap (λ (b : Bool). if b then m.mailbox else found k ms) (ap (λ (n : ℕ). n == k) e ∙ same k)

found-there : (m : Kept) (ms : List Kept) (k : ℕ) → m.id ≢ k → found k (m ∷ ms) ≡ found k ms
found-there m ms k h = ap (λ (b : Bool). if b then m.mailbox else found k ms) (apart m.id k h)

has-here : (m : Kept) (ms : List Kept) (k : ℕ) → m.id ≡ k → has k (m ∷ ms) ≡ true
has-here m ms k e = ap (λ (b : Bool). b || has k ms) (ap (λ (n : ℕ). n == k) e ∙ same k)

pub has-there : (m : Kept) (ms : List Kept) (k : ℕ) → m.id ≢ k → has k (m ∷ ms) ≡ has k ms
has-there m ms k h = ap (λ (b : Bool). b || has k ms) (apart m.id k h)

has-later : (m : Kept) (ms : List Kept) (k : ℕ) → has k ms ≡ true → has k (m ∷ ms) ≡ true
has-later m ms k h = ap (λ (b : Bool). (m.id == k) || b) h ∙ or-true (m.id == k)

-- one that isn't kept is seen as empty
found-absent : (k : ℕ) (ms : List Kept) → has k ms ≡ false → found k ms ≡ Empty
found-absent k [] h = refl
found-absent k (m ∷ ms) h = elim (eqb_tells m.id k) [
  | inl e ↦ absurd (let t : true ≡ false = sym (has-here m ms k e.1) ∙ h in cc)
  | inr e ↦ found-there m ms k e.1 ∙ found-absent k ms (sym (has-there m ms k e.1) ∙ h)
]

-- none stands before the first
has-before : (k j : ℕ) (ms : List Kept) → Ascending k ms → j < k → has j ms ≡ false
has-before k j [] a low = refl
has-before k j (m ∷ ms) a low = has-there m ms j (λ e. absurd (omega (arith, e, a.0, low))) ∙ has-before (suc m.id) j ms a.1 (omega (arith, a.0, low))

-- ---- one at a place

pub at-low : (id : ℕ) (ms : List Kept) (i : ℕ) → IsAt id ms i → i < length ms
at-low id [] i h = absurd h
at-low id (m ∷ ms) zero h = omega arith
at-low id (m ∷ ms) (suc i) h = let r : i < length ms = at-low id ms i h in omega arith

pub at-id : (id : ℕ) (ms : List Kept) (i : ℕ) → IsAt id ms i → (kept_at ms i).id ≡ id
at-id id [] i h = absurd h
at-id id (m ∷ ms) zero h = h
at-id id (m ∷ ms) (suc i) h = at-id id ms i h

pub is-at : (id : ℕ) (ms : List Kept) (i : ℕ) → i < length ms → (kept_at ms i).id ≡ id → IsAt id ms i
is-at id [] i low e = absurd (omega arith)
is-at id (m ∷ ms) zero low e = e
is-at id (m ∷ ms) (suc i) low e = is-at id ms i (omega arith) e

low-at : (k id : ℕ) (ms : List Kept) (i : ℕ) → Ascending k ms → IsAt id ms i → k ≤ id
low-at k id [] i a h = absurd h
low-at k id (m ∷ ms) zero a h = omega (arith, a.0, h)
low-at k id (m ∷ ms) (suc i) a h = let r : suc m.id ≤ id = low-at (suc m.id) id ms i a.1 h in omega (arith, a.0, r)

-- the one before it is of another request
before : (id : ℕ) (m : Kept) (ms : List Kept) (i : ℕ) → Ascending (suc m.id) ms → IsAt id ms i → m.id ≢ id
before id m ms i a h = λ e. let r : suc m.id ≤ id = low-at (suc m.id) id ms i a h in absurd (omega (arith, e, r))

pub has-at : (id : ℕ) (ms : List Kept) (i : ℕ) → IsAt id ms i → has id ms ≡ true
has-at id [] i h = absurd h
has-at id (m ∷ ms) zero h = has-here m ms id h
has-at id (m ∷ ms) (suc i) h = has-later m ms id (has-at id ms i h)

pub found-at : (k id : ℕ) (ms : List Kept) (i : ℕ) → Ascending k ms → IsAt id ms i → found id ms ≡ mailbox_at ms i
found-at k id [] i a h = absurd h
found-at k id (m ∷ ms) zero a h = found-here m ms id h
found-at k id (m ∷ ms) (suc i) a h = found-there m ms id (before id m ms i a.1 h) ∙ found-at (suc m.id) id ms i a.1 h

-- ---- it is written to

found-set-own : (k id : ℕ) (ms : List Kept) (i : ℕ) (new : Mailbox) → Ascending k ms → IsAt id ms i → found id (slice_set ms i (record { id = id; mailbox = new })) ≡ new
found-set-own k id [] i new a h = absurd h
found-set-own k id (m ∷ ms) zero new a h = found-here (record { id = id; mailbox = new }) ms id refl
found-set-own k id (m ∷ ms) (suc i) new a h = found-there m (slice_set ms i (record { id = id; mailbox = new })) id (before id m ms i a.1 h) ∙ found-set-own (suc m.id) id ms i new a.1 h

found-set-other : (j id : ℕ) (ms : List Kept) (i : ℕ) (new : Mailbox) → IsAt id ms i → j ≢ id → found j (slice_set ms i (record { id = id; mailbox = new })) ≡ found j ms
found-set-other j id [] i new h other = absurd h
found-set-other j id (m ∷ ms) zero new h other = found-there (record { id = id; mailbox = new }) ms j (λ e. other (sym e)) ∙ sym (found-there m ms j (λ e. other (sym e ∙ h)))
found-set-other j id (m ∷ ms) (suc i) new h other = ap (λ (x : Mailbox). if m.id == j then m.mailbox else x) (found-set-other j id ms i new h other)

has-set : (j id : ℕ) (ms : List Kept) (i : ℕ) (new : Mailbox) → IsAt id ms i → has j (slice_set ms i (record { id = id; mailbox = new })) ≡ has j ms
has-set j id [] i new h = absurd h
has-set j id (m ∷ ms) zero new h = ap (λ (n : ℕ). (n == j) || has j ms) (sym h)
has-set j id (m ∷ ms) (suc i) new h = ap (λ (b : Bool). (m.id == j) || b) (has-set j id ms i new h)

ascending-set : (k id : ℕ) (ms : List Kept) (i : ℕ) (new : Mailbox) → Ascending k ms → IsAt id ms i → Ascending k (slice_set ms i (record { id = id; mailbox = new }))
ascending-set k id [] i new a h = absurd h
ascending-set k id (m ∷ ms) zero new a h = (omega (arith, a.0, h), subst (λ (n : ℕ). Ascending (suc n) ms) h a.1)
ascending-set k id (m ∷ ms) (suc i) new a h = (a.0, ascending-set (suc m.id) id ms i new a.1 h)

-- ---- it is let go

ascending-lower : (j k : ℕ) (ms : List Kept) → j ≤ k → Ascending k ms → Ascending j ms
ascending-lower j k [] low a = tt
ascending-lower j k (m ∷ ms) low a = (omega (arith, low, a.0), a.1)

ascending-remove : (k id : ℕ) (ms : List Kept) (i : ℕ) → Ascending k ms → IsAt id ms i → Ascending k (remove ms i)
ascending-remove k id [] i a h = absurd h
ascending-remove k id (m ∷ ms) zero a h = ascending-lower k (suc m.id) ms (omega (arith, a.0)) a.1
ascending-remove k id (m ∷ ms) (suc i) a h = (a.0, ascending-remove (suc m.id) id ms i a.1 h)

found-remove-other : (j id : ℕ) (ms : List Kept) (i : ℕ) → IsAt id ms i → j ≢ id → found j (remove ms i) ≡ found j ms
found-remove-other j id [] i h other = absurd h
found-remove-other j id (m ∷ ms) zero h other = sym (found-there m ms j (λ e. other (sym e ∙ h)))
found-remove-other j id (m ∷ ms) (suc i) h other = ap (λ (x : Mailbox). if m.id == j then m.mailbox else x) (found-remove-other j id ms i h other)

has-remove-other : (j id : ℕ) (ms : List Kept) (i : ℕ) → IsAt id ms i → j ≢ id → has j (remove ms i) ≡ has j ms
has-remove-other j id [] i h other = absurd h
has-remove-other j id (m ∷ ms) zero h other = sym (has-there m ms j (λ e. other (sym e ∙ h)))
has-remove-other j id (m ∷ ms) (suc i) h other = ap (λ (b : Bool). (m.id == j) || b) (has-remove-other j id ms i h other)

has-remove-own : (k id : ℕ) (ms : List Kept) (i : ℕ) → Ascending k ms → IsAt id ms i → has id (remove ms i) ≡ false
has-remove-own k id [] i a h = absurd h
has-remove-own k id (m ∷ ms) zero a h = has-before (suc m.id) id ms a.1 (omega (arith, h))
has-remove-own k id (m ∷ ms) (suc i) a h = has-there m (remove ms i) id (before id m ms i a.1 h) ∙ has-remove-own (suc m.id) id ms i a.1 h

-- ---- one more

found-push-other : (j : ℕ) (ms : List Kept) (m : Kept) → m.id ≢ j → found j (ms ++ m ∷ []) ≡ found j ms
found-push-other j [] m h = found-there m [] j h
found-push-other j (x ∷ ms) m h = ap (λ (y : Mailbox). if x.id == j then x.mailbox else y) (found-push-other j ms m h)

has-push-other : (j : ℕ) (ms : List Kept) (m : Kept) → m.id ≢ j → has j (ms ++ m ∷ []) ≡ has j ms
has-push-other j [] m h = has-there m [] j h
has-push-other j (x ∷ ms) m h = ap (λ (b : Bool). (x.id == j) || b) (has-push-other j ms m h)

has-push-own : (ms : List Kept) (m : Kept) → has m.id (ms ++ m ∷ []) ≡ true
has-push-own [] m = has-here m [] m.id refl
has-push-own (x ∷ ms) m = has-later x (ms ++ m ∷ []) m.id (has-push-own ms m)

found-push-own : (ms : List Kept) (m : Kept) → has m.id ms ≡ false → found m.id (ms ++ m ∷ []) ≡ m.mailbox
found-push-own [] m h = found-here m [] m.id refl
found-push-own (x ∷ ms) m h = elim (eqb_tells x.id m.id) [
  | inl e ↦ absurd (let t : true ≡ false = sym (has-here x ms m.id e.1) ∙ h in cc)
  | inr e ↦ found-there x (ms ++ m ∷ []) m.id e.1 ∙ found-push-own ms m (sym (has-there x ms m.id e.1) ∙ h)
]

ascending-push : (k : ℕ) (ms : List Kept) (m : Kept) → Ascending k ms → k ≤ m.id → ((j : ℕ) → has j ms ≡ true → j < m.id) → Ascending k (ms ++ m ∷ [])
ascending-push k [] m a low below = (low, tt)
ascending-push k (x ∷ ms) m a low below =
    let first : x.id < m.id = below x.id (has-here x ms x.id refl) in
    (a.0, ascending-push (suc x.id) ms m a.1 first (λ j h. below j (has-later x ms j h)))

-- ---- what is seen of all

pub length-boxes-from : (k : ℕ) (gone : List Bool) (ms : List Kept) → length (boxes_from k gone ms) ≡ length gone
length-boxes-from k [] ms = refl
length-boxes-from k (g ∷ gone) ms = ap suc (length-boxes-from (suc k) gone ms)

at-box : (k : ℕ) (gone : List Bool) (ms : List Kept) (i : ℕ) → i < length gone → at (boxes_from k gone ms) i ≡ box (get_or gone i true) (found (k + i) ms)
at-box k [] ms i low = absurd (omega arith)
at-box k (g ∷ gone) ms zero low = let e : k ≡ k + zero = omega arith in ap (λ (n : ℕ). box g (found n ms)) e
at-box k (g ∷ gone) ms (suc i) low = let e : suc k + i ≡ k + suc i = omega arith in at-box (suc k) gone ms i (omega arith) ∙ ap (λ (n : ℕ). box (get_or gone i true) (found n ms)) e

pub at-first : (gone : List Bool) (ms : List Kept) (id : ℕ) → id < length gone → at (boxes_from 0 gone ms) id ≡ box (get_or gone id true) (found id ms)
at-first gone ms id low = let e : 0 + id ≡ id = omega arith in at-box 0 gone ms id low ∙ ap (λ (n : ℕ). box (get_or gone id true) (found n ms)) e

boxes-same : (k : ℕ) (gone : List Bool) (ms ms' : List Kept) → ((j : ℕ) → k ≤ j → found j ms' ≡ found j ms) → boxes_from k gone ms' ≡ boxes_from k gone ms
boxes-same k [] ms ms' h = refl
boxes-same k (g ∷ gone) ms ms' h =
    ap (λ (m : Mailbox). box g m ∷ boxes_from (suc k) gone ms') (h k (omega arith))
    ∙ ap (λ (l : List Mailbox). box g (found k ms) ∷ l) (boxes-same (suc k) gone ms ms' (λ j low. h j (omega (arith, low))))

-- where one is another than before
boxes-set : (k : ℕ) (gone : List Bool) (ms ms' : List Kept) (i : ℕ) (g : Bool) (new : Mailbox) → i < length gone → ((j : ℕ) → j ≢ k + i → found j ms' ≡ found j ms) → box g (found (k + i) ms') ≡ new →
    boxes_from k (slice_set gone i g) ms' ≡ slice_set (boxes_from k gone ms) i new
boxes-set k [] ms ms' i g new low others own = absurd (omega arith)
boxes-set k (x ∷ gone) ms ms' zero g new low others own =
    let e : k + zero ≡ k = omega arith in
    ap (λ (m : Mailbox). m ∷ boxes_from (suc k) gone ms') (subst (λ (n : ℕ). box g (found n ms') ≡ new) e own)
    ∙ ap (λ (l : List Mailbox). new ∷ l) (boxes-same (suc k) gone ms ms' (λ j high. others j (λ is. absurd (omega (arith, is, high)))))
boxes-set k (x ∷ gone) ms ms' (suc i) g new low others own =
    let e : k + suc i ≡ suc k + i = omega arith in
    ap (λ (m : Mailbox). box x m ∷ boxes_from (suc k) (slice_set gone i g) ms') (others k (λ is. absurd (omega (arith, is))))
    ∙ ap (λ (l : List Mailbox). box x (found k ms) ∷ l) (boxes-set (suc k) gone ms ms' i g new (omega arith) (λ j other. others j (λ is. other (is ∙ e))) (subst (λ (n : ℕ). box g (found n ms') ≡ new) e own))

-- where there is one more
boxes-push : (k : ℕ) (gone : List Bool) (ms ms' : List Kept) → ((j : ℕ) → j ≢ k + length gone → found j ms' ≡ found j ms) → found (k + length gone) ms' ≡ Empty →
    boxes_from k (gone ++ false ∷ []) ms' ≡ boxes_from k gone ms ++ Empty ∷ []
boxes-push k [] ms ms' others own = let e : k + 0 ≡ k = omega arith in ap (λ (m : Mailbox). m ∷ []) (subst (λ (n : ℕ). found n ms' ≡ Empty) e own)
boxes-push k (x ∷ gone) ms ms' others own =
    let e : k + suc (length gone) ≡ suc k + length gone = omega arith in
    ap (λ (m : Mailbox). box x m ∷ boxes_from (suc k) (gone ++ false ∷ []) ms') (others k (λ is. absurd (omega (arith, is))))
    ∙ ap (λ (l : List Mailbox). box x (found k ms) ∷ l) (boxes-push (suc k) gone ms ms' (λ j other. others j (λ is. other (is ∙ e))) (subst (λ (n : ℕ). found n ms' ≡ Empty) e own))

flags-same : (gone : List Bool) (i : ℕ) (g : Bool) → get_or gone i true ≡ g → slice_set gone i g ≡ gone
flags-same [] i g e = refl
flags-same (x ∷ gone) zero g e = ap (λ (b : Bool). b ∷ gone) (sym e)
flags-same (x ∷ gone) (suc i) g e = ap (λ (l : List Bool). x ∷ l) (flags-same gone i g e)

-- what stands there is written there
pub write-same : {X : Type 0} (xs : List X) (k : ℕ) (x d : X) → x ≡ get_or xs k d → slice_set xs k x ≡ xs
write-same {X = X} [] k x d e = refl
write-same {X = X} (y ∷ xs) zero x d e = ap (λ (z : X). z ∷ xs) e
write-same {X = X} (y ∷ xs) (suc k) x d e = ap (λ (l : List X). y ∷ l) (write-same xs k x d e)

-- as one value
abbrev pub mail_of : List Bool → List Kept → ℕ → Mail
mail_of gone ms finished = record { boxes = boxes_from 0 gone ms; finished = finished }

pub booked-is : (mail : Mail) (gone : List Bool) (ms : List Kept) (finished : ℕ) → mail_of gone ms finished ≡ mail → length mail.boxes ≡ length gone
booked-is mail gone ms finished is = ap (λ (m : Mail). length m.boxes) (sym is) ∙ length-boxes-from 0 gone ms

-- what holds where something was found
pub at-some : {X : Type 0} (r : Option X) (x : X) (P : Type 0) → r ≡ Some x → OnSome r P → P
at-some (Some y) x P e h = h
at-some None x P e h = absurd cc

-- ---- what being kept tells

pub kept-is : (gone : List Bool) (ms : List Kept) (finished id : ℕ) → KeepsHeld gone ms finished → has id ms ≡ true → (get_or gone id true ≡ false) × (is_held id finished (found id ms) ≡ true)
kept-is gone ms finished id k h = both (get_or gone id true) (is_held id finished (found id ms)) (sym h ∙ k.held id)

pub kept-inside : (gone : List Bool) (ms : List Kept) (finished id : ℕ) → KeepsHeld gone ms finished → has id ms ≡ true → id < length gone
kept-inside gone ms finished id k h = elim (leb_tells (length gone) id) [
  | inl past ↦ absurd (let t : true ≡ false = sym (get_or_past gone id true past.1) ∙ (kept-is gone ms finished id k h).0 in cc)
  | inr low ↦ low.1
]

not-below : (k n : ℕ) → n ≤ k → not (nat_lt k n) ≡ true
not-below k n h = elim (leb_tells (suc k) n) [ inl e ↦ absurd (omega (arith, e.1, h)) | inr e ↦ ap not e.0 ]

-- the reader of one that isn't kept hung up, where its reply isn't over
pub absent-gone : (gone : List Bool) (ms : List Kept) (finished id : ℕ) → KeepsHeld gone ms finished → has id ms ≡ false → finished ≤ id → get_or gone id true ≡ true
absent-gone gone ms finished id k h low =
    let is : false ≡ (not (get_or gone id true) && is_held id finished (found id ms)) = sym h ∙ k.held id in
    let waits : is_held id finished (found id ms) ≡ true = ap (is_held id finished) (found-absent id ms h) ∙ not-below id finished low in
    by_flag (get_or gone id true) (is_held id finished (found id ms)) is waits
  where
    by_flag : (g b : Bool) → false ≡ (not g && b) → b ≡ true → g ≡ true
    by_flag true b e w = refl
    by_flag false true e w = absurd cc
    by_flag false false e w = absurd cc

-- what is seen of one that is kept, and of one that isn't
pub seen-kept : (gone : List Bool) (ms : List Kept) (finished id i : ℕ) → KeepsHeld gone ms finished → IsAt id ms i → at (boxes_from 0 gone ms) id ≡ mailbox_at ms i
seen-kept gone ms finished id i k h =
    let there = has-at id ms i h in
    at-first gone ms id (kept-inside gone ms finished id k there) ∙ ap (λ (g : Bool). box g (found id ms)) (kept-is gone ms finished id k there).0 ∙ found-at 0 id ms i k.ascending h

pub seen-absent : (gone : List Bool) (ms : List Kept) (id : ℕ) → has id ms ≡ false → id < length gone → at (boxes_from 0 gone ms) id ≡ box (get_or gone id true) Empty
seen-absent gone ms id h low = at-first gone ms id low ∙ ap (box (get_or gone id true)) (found-absent id ms h)

-- ---- and what keeps it so

keeps-set : (gone : List Bool) (ms : List Kept) (finished id i : ℕ) (new : Mailbox) → KeepsHeld gone ms finished → IsAt id ms i → is_held id finished new ≡ true →
    KeepsHeld gone (slice_set ms i (record { id = id; mailbox = new })) finished
keeps-set gone ms finished id i new k h held =
    let ms' : List Kept = slice_set ms i (record { id = id; mailbox = new }) in
    let there = has-at id ms i h in
    record {
      ascending = ascending-set 0 id ms i new k.ascending h;
      held = λ j. elim (eqb_tells j id) [
        | inl e ↦ subst (λ (n : ℕ). has n ms' ≡ (not (get_or gone n true) && is_held n finished (found n ms'))) (sym e.1)
            (has-set id id ms i new h ∙ there ∙ sym (ap (λ (g : Bool). not g && is_held id finished (found id ms')) (kept-is gone ms finished id k there).0
            ∙ ap (is_held id finished) (found-set-own 0 id ms i new k.ascending h) ∙ held))
        | inr e ↦ has-set j id ms i new h ∙ k.held j ∙ ap (λ (m : Mailbox). not (get_or gone j true) && is_held j finished m) (sym (found-set-other j id ms i new h e.1))
      ];
      few = k.few;
    }

keeps-remove : (gone gone' : List Bool) (ms : List Kept) (finished id i : ℕ) → KeepsHeld gone ms finished → IsAt id ms i → length gone' ≡ length gone → ((j : ℕ) → j ≢ id → get_or gone' j true ≡ get_or gone j true) →
    (not (get_or gone' id true) && is_held id finished Empty) ≡ false → KeepsHeld gone' (remove ms i) finished
keeps-remove gone gone' ms finished id i k h size others over =
    let ms' : List Kept = remove ms i in
    let none : has id ms' ≡ false = has-remove-own 0 id ms i k.ascending h in
    record {
      ascending = ascending-remove 0 id ms i k.ascending h;
      held = λ j. elim (eqb_tells j id) [
        | inl e ↦ subst (λ (n : ℕ). has n ms' ≡ (not (get_or gone' n true) && is_held n finished (found n ms'))) (sym e.1)
            (none ∙ sym (ap (λ (m : Mailbox). not (get_or gone' id true) && is_held id finished m) (found-absent id ms' none) ∙ over))
        | inr e ↦ has-remove-other j id ms i h e.1 ∙ k.held j ∙ ap (λ (m : Mailbox). not (get_or gone j true) && is_held j finished m) (sym (found-remove-other j id ms i h e.1))
            ∙ ap (λ (g : Bool). not g && is_held j finished (found j ms')) (sym (others j e.1))
      ];
      few = subst (λ (n : ℕ). finished ≤ n) (sym size) k.few;
    }

-- where the replies to one request more are over
keeps-over : (gone : List Bool) (ms : List Kept) (finished : ℕ) → KeepsHeld gone ms finished → finished < length gone →
    (not (get_or gone finished true) && is_held finished (finished + 1) (found finished ms)) ≡ (not (get_or gone finished true) && is_held finished finished (found finished ms)) →
    KeepsHeld gone ms (finished + 1)
keeps-over gone ms finished k low own = record {
  ascending = k.ascending;
  held = λ j. elim (eqb_tells j finished) [
    | inl e ↦ subst (λ (n : ℕ). has n ms ≡ (not (get_or gone n true) && is_held n (finished + 1) (found n ms))) (sym e.1) (k.held finished ∙ sym own)
    | inr e ↦ k.held j ∙ ap (λ (b : Bool). not (get_or gone j true) && b) (by_box j (found j ms) e.1)
  ];
  few = omega (arith, low);
}
  where
    one_more : (j : ℕ) → j ≢ finished → not (nat_lt j finished) ≡ not (nat_lt j (finished + 1))
    one_more j other = elim (leb_tells (suc j) finished) [
      | inl e ↦ elim (leb_tells (suc j) (finished + 1)) [ inl e' ↦ ap not (e.0 ∙ sym e'.0) | inr e' ↦ absurd (omega (arith, e.1, e'.1)) ]
      | inr e ↦ elim (leb_tells (suc j) (finished + 1)) [ inl e' ↦ absurd (other (omega (arith, e.1, e'.1))) | inr e' ↦ ap not (e.0 ∙ sym e'.0) ]
    ]

    by_box : (j : ℕ) (m : Mailbox) → j ≢ finished → is_held j finished m ≡ is_held j (finished + 1) m
    by_box j Empty other = one_more j other
    by_box j (One a) other = refl
    by_box j (Two a b) other = refl
    by_box j HungUp other = refl

-- ---- each call

-- one more
pub one-more : (gone : List Bool) (ms : List Kept) (finished : ℕ) → KeepsHeld gone ms finished →
    (boxes_from 0 (gone ++ false ∷ []) (ms ++ record { id = length gone; mailbox = Empty } ∷ []) ≡ boxes_from 0 gone ms ++ Empty ∷ [])
    × KeepsHeld (gone ++ false ∷ []) (ms ++ record { id = length gone; mailbox = Empty } ∷ []) finished
one-more gone ms finished k =
    let n : ℕ = length gone in
    let m : Kept = record { id = n; mailbox = Empty } in
    let new : has n ms ≡ false = by_has (has n ms) refl in
    let zero_more : 0 + n ≡ n = omega arith in
    let own : found n (ms ++ m ∷ []) ≡ Empty = found-push-own ms m new in (
      boxes-push 0 gone ms (ms ++ m ∷ []) (λ j other. found-push-other j ms m (λ e. other (sym e ∙ sym zero_more))) (subst (λ (x : ℕ). found x (ms ++ m ∷ []) ≡ Empty) (sym zero_more) own),
      record {
        ascending = ascending-push 0 ms m k.ascending (omega arith) (λ j h. kept-inside gone ms finished j k h);
        held = λ j. elim (eqb_tells j n) [
          | inl e ↦ subst (λ (x : ℕ). has x (ms ++ m ∷ []) ≡ (not (get_or (gone ++ false ∷ []) x true) && is_held x finished (found x (ms ++ m ∷ [])))) (sym e.1)
              (has-push-own ms m ∙ sym (ap (λ (g : Bool). not g && is_held n finished (found n (ms ++ m ∷ []))) (get_or_push gone false true n refl)
              ∙ ap (is_held n finished) own ∙ not-below n finished k.few))
          | inr e ↦ has-push-other j ms m (λ x. e.1 (sym x)) ∙ k.held j
              ∙ ap (λ (x : Mailbox). not (get_or gone j true) && is_held j finished x) (sym (found-push-other j ms m (λ x. e.1 (sym x))))
              ∙ ap (λ (g : Bool). not g && is_held j finished (found j (ms ++ m ∷ []))) (flag j e.1)
        ];
        few = let l = length_push gone false in omega (arith, k.few, l);
      },
    )
  where
    by_has : (b : Bool) → has (length gone) ms ≡ b → has (length gone) ms ≡ false
    by_has true e = absurd (omega (arith, kept-inside gone ms finished (length gone) k e))
    by_has false e = e

    flag : (j : ℕ) → j ≢ length gone → get_or gone j true ≡ get_or (gone ++ false ∷ []) j true
    flag j other = elim (leb_tells (length gone) j) [
      | inl past ↦ get_or_past gone j true past.1 ∙ sym (get_or_past (gone ++ false ∷ []) j true (let l = length_push gone false in omega (arith, past.1, other, l)))
      | inr low ↦ sym (get_or_append_left gone (false ∷ []) true j low.1)
    ]

-- the same where they have other names
pub one-more-named : (gone gone' : List Bool) (ms ms' : List Kept) (n finished : ℕ) → KeepsHeld gone ms finished → gone' ≡ gone ++ false ∷ [] → n ≡ length gone → ms' ≡ ms ++ record { id = n; mailbox = Empty } ∷ [] →
    (boxes_from 0 gone' ms' ≡ boxes_from 0 gone ms ++ Empty ∷ []) × KeepsHeld gone' ms' finished
one-more-named gone gone' ms ms' n finished k eg en em =
    let named : ms' ≡ ms ++ record { id = length gone; mailbox = Empty } ∷ [] = em ∙ ap (λ (x : ℕ). ms ++ record { id = x; mailbox = Empty } ∷ []) en in
    subst (λ (g : List Bool). (boxes_from 0 g ms' ≡ boxes_from 0 gone ms ++ Empty ∷ []) × KeepsHeld g ms' finished) (sym eg)
    (subst (λ (l : List Kept). (boxes_from 0 (gone ++ false ∷ []) l ≡ boxes_from 0 gone ms ++ Empty ∷ []) × KeepsHeld (gone ++ false ∷ []) l finished) (sym named) (one-more gone ms finished k))

-- the mailbox at a place is another, and let go where it isn't held
less : (gone : List Bool) (ms : List Kept) (finished id i : ℕ) (new : Mailbox) → KeepsHeld gone ms finished → IsAt id ms i → (is_held id finished new ≡ false → new ≡ Empty) →
    (boxes_from 0 gone (less_at ms i finished (record { id = id; mailbox = new })) ≡ slice_set (boxes_from 0 gone ms) id new)
    × KeepsHeld gone (less_at ms i finished (record { id = id; mailbox = new })) finished
less gone ms finished id i new k h none = by_test (is_held id finished new) refl
  where
    there : has id ms ≡ true
    there = has-at id ms i h

    flag : get_or gone id true ≡ false
    flag = (kept-is gone ms finished id k there).0

    same_flags : slice_set gone id false ≡ gone
    same_flags = flags-same gone id false flag

    inside : id < length gone
    inside = kept-inside gone ms finished id k there

    no_more : 0 + id ≡ id
    no_more = omega arith

    boxes : (ms' : List Kept) → ((j : ℕ) → j ≢ id → found j ms' ≡ found j ms) → found id ms' ≡ new → boxes_from 0 gone ms' ≡ slice_set (boxes_from 0 gone ms) id new
    boxes ms' others own =
        ap (λ (l : List Bool). boxes_from 0 l ms') (sym same_flags)
        ∙ boxes-set 0 gone ms ms' id false new inside (λ j other. others j (λ e. other (e ∙ sym no_more))) (subst (λ (n : ℕ). found n ms' ≡ new) (sym no_more) own)

    by_test : (b : Bool) → is_held id finished new ≡ b →
        (boxes_from 0 gone (if b then slice_set ms i (record { id = id; mailbox = new }) else remove ms i) ≡ slice_set (boxes_from 0 gone ms) id new)
        × KeepsHeld gone (if b then slice_set ms i (record { id = id; mailbox = new }) else remove ms i) finished
    by_test true e = (
      boxes (slice_set ms i (record { id = id; mailbox = new })) (λ j other. found-set-other j id ms i new h other) (found-set-own 0 id ms i new k.ascending h),
      keeps-set gone ms finished id i new k h e,
    )
    by_test false e =
        let empty : new ≡ Empty = none e in
        let gone_own : has id (remove ms i) ≡ false = has-remove-own 0 id ms i k.ascending h in (
          boxes (remove ms i) (λ j other. found-remove-other j id ms i h other) (found-absent id (remove ms i) gone_own ∙ sym empty),
          keeps-remove gone gone ms finished id i k h refl (λ j other. refl)
              (ap (λ (g : Bool). not g && is_held id finished Empty) flag ∙ ap (is_held id finished) (sym empty) ∙ e),
        )

rest-empty : (id finished : ℕ) (m : Mailbox) → is_held id finished m ≡ true → is_held id finished (rest_of m) ≡ false → rest_of m ≡ Empty
rest-empty id finished Empty h e = refl
rest-empty id finished (One a) h e = refl
rest-empty id finished (Two a b) h e = absurd cc
rest-empty id finished HungUp h e = absurd cc

-- its oldest batch is taken
pub taken : (gone : List Bool) (ms : List Kept) (finished id i : ℕ) → KeepsHeld gone ms finished → IsAt id ms i →
    (boxes_from 0 gone (taken_at ms i finished) ≡ slice_set (boxes_from 0 gone ms) id (rest_of (at (boxes_from 0 gone ms) id))) × KeepsHeld gone (taken_at ms i finished) finished
taken gone ms finished id i k h =
    let held : is_held id finished (mailbox_at ms i) ≡ true = sym (ap (is_held id finished) (found-at 0 id ms i k.ascending h)) ∙ (kept-is gone ms finished id k (has-at id ms i h)).1 in
    let l = less gone ms finished id i (rest_of (mailbox_at ms i)) k h (rest-empty id finished (mailbox_at ms i) held) in
    let named : less_at ms i finished (record { id = id; mailbox = rest_of (mailbox_at ms i) }) ≡ taken_at ms i finished
    = ap (λ (n : ℕ). less_at ms i finished (record { id = n; mailbox = rest_of (mailbox_at ms i) })) (sym (at-id id ms i h)) in (
      ap (boxes_from 0 gone) (sym named) ∙ l.0 ∙ ap (λ (m : Mailbox). slice_set (boxes_from 0 gone ms) id (rest_of m)) (sym (seen-kept gone ms finished id i k h)),
      subst (λ (x : List Kept). KeepsHeld gone x finished) named l.1,
    )

-- where none is kept there is nothing to take
pub nothing-taken : (gone : List Bool) (ms : List Kept) (id : ℕ) → has id ms ≡ false → id < length gone →
    (None ≡ first_of (at (boxes_from 0 gone ms) id)) × (boxes_from 0 gone ms ≡ slice_set (boxes_from 0 gone ms) id (rest_of (at (boxes_from 0 gone ms) id)))
nothing-taken gone ms id h low =
    let is : at (boxes_from 0 gone ms) id ≡ box (get_or gone id true) Empty = seen-absent gone ms id h low in (
      none (get_or gone id true) ∙ sym (ap first_of is),
      sym (write-same (boxes_from 0 gone ms) id (rest_of (at (boxes_from 0 gone ms) id)) Empty (ap rest_of is ∙ rests (get_or gone id true) ∙ sym is)),
    )
  where
    none : (g : Bool) → None ≡ first_of (box g Empty)
    none true = refl
    none false = refl

    rests : (g : Bool) → rest_of (box g Empty) ≡ box g Empty
    rests true = refl
    rests false = refl

-- its reader hangs up
pub hung-kept : (gone : List Bool) (ms : List Kept) (finished id i : ℕ) → KeepsHeld gone ms finished → IsAt id ms i →
    (boxes_from 0 (slice_set gone id true) (remove ms i) ≡ slice_set (boxes_from 0 gone ms) id HungUp) × KeepsHeld (slice_set gone id true) (remove ms i) finished
hung-kept gone ms finished id i k h =
    let inside : id < length gone = kept-inside gone ms finished id k (has-at id ms i h) in
    let no_more : 0 + id ≡ id = omega arith in (
      boxes-set 0 gone ms (remove ms i) id true HungUp inside (λ j other. found-remove-other j id ms i h (λ e. other (e ∙ sym no_more))) refl,
      keeps-remove gone (slice_set gone id true) ms finished id i k h (length-set gone id true) (λ j other. get_or-set_other gone id j true true other)
          (ap (λ (g : Bool). not g && is_held id finished Empty) (get_or-set_same gone id true true inside)),
    )

pub hung-absent : (gone : List Bool) (ms : List Kept) (finished id : ℕ) → KeepsHeld gone ms finished → has id ms ≡ false → id < length gone →
    (boxes_from 0 (slice_set gone id true) ms ≡ slice_set (boxes_from 0 gone ms) id HungUp) × KeepsHeld (slice_set gone id true) ms finished
hung-absent gone ms finished id k h inside = (
  boxes-set 0 gone ms ms id true HungUp inside (λ j other. refl) refl,
  record {
    ascending = k.ascending;
    held = λ j. elim (eqb_tells j id) [
      | inl e ↦ subst (λ (n : ℕ). has n ms ≡ (not (get_or (slice_set gone id true) n true) && is_held n finished (found n ms))) (sym e.1)
          (h ∙ sym (ap (λ (g : Bool). not g && is_held id finished (found id ms)) (get_or-set_same gone id true true inside)))
      | inr e ↦ k.held j ∙ ap (λ (g : Bool). not g && is_held j finished (found j ms)) (sym (get_or-set_other gone id j true true e.1))
    ];
    few = subst (λ (n : ℕ). finished ≤ n) (sym (length-set gone id true)) k.few;
  },
)

-- ---- a batch more

received-held : (m : Mailbox) (batch : List RawMessage) (new : Mailbox) → received_by m batch ≡ Some new → is_gone m ≡ false → (k n : ℕ) → is_held k n new ≡ true
received-held Empty batch new e here k n = let s : One batch ≡ new = cc in ap (is_held k n) (sym s)
received-held (One a) batch new e here k n = let s : Two a batch ≡ new = cc in ap (is_held k n) (sym s)
received-held (Two a b) batch new e here k n = absurd cc
received-held HungUp batch new e here k n = absurd cc

held-here : (k n : ℕ) (m : Mailbox) → is_held k n m ≡ true → is_gone m ≡ false
held-here k n Empty h = refl
held-here k n (One a) h = refl
held-here k n (Two a b) h = refl
held-here k n HungUp h = absurd cc

-- of the oldest reply that isn't over
pub put-kept : (gone : List Bool) (ms : List Kept) (finished i : ℕ) (new : Kept) (batch : List RawMessage) (complete : Bool) → KeepsHeld gone ms finished → IsAt finished ms i →
    new.id ≡ (kept_at ms i).id → received_by (mailbox_at ms i) batch ≡ Some new.mailbox →
    (received_by (at (boxes_from 0 gone ms) finished) batch ≡ Some new.mailbox)
    × (boxes_from 0 gone (slice_set ms i new) ≡ slice_set (boxes_from 0 gone ms) finished new.mailbox)
    × KeepsHeld gone (slice_set ms i new) (finished + (if complete then 1 else 0))
put-kept gone ms finished i new batch complete k h same_id got =
    let is : record { id = finished; mailbox = new.mailbox } ≡ new = ap (λ (n : ℕ). record { id = n; mailbox = new.mailbox }) (sym (same_id ∙ at-id finished ms i h)) in
    let there = has-at finished ms i h in
    let inside : finished < length gone = kept-inside gone ms finished finished k there in
    let held_before : is_held finished finished (mailbox_at ms i) ≡ true = sym (ap (is_held finished finished) (found-at 0 finished ms i k.ascending h)) ∙ (kept-is gone ms finished finished k there).1 in
    let held : (a b : ℕ) → is_held a b new.mailbox ≡ true = received-held (mailbox_at ms i) batch new.mailbox got (held-here finished finished (mailbox_at ms i) held_before) in
    let l = less gone ms finished finished i new.mailbox k h (λ e. absurd (let t : true ≡ false = sym (held finished finished) ∙ e in cc)) in
    let named : less_at ms i finished (record { id = finished; mailbox = new.mailbox }) ≡ slice_set ms i new =
    ap (λ (b : Bool). if b then slice_set ms i (record { id = finished; mailbox = new.mailbox }) else remove ms i) (held finished finished) ∙ ap (λ (m : Kept). slice_set ms i m) is in
    let keeps : KeepsHeld gone (slice_set ms i new) finished = subst (λ (x : List Kept). KeepsHeld gone x finished) named l.1 in
    let own : found finished (slice_set ms i new) ≡ new.mailbox = ap (λ (m : Kept). found finished (slice_set ms i m)) (sym is) ∙ found-set-own 0 finished ms i new.mailbox k.ascending h in (
      ap (λ (m : Mailbox). received_by m batch) (seen-kept gone ms finished finished i k h) ∙ got,
      ap (boxes_from 0 gone) (sym named) ∙ l.0,
      by_end complete keeps inside own held,
    )
  where
    by_end : (b : Bool) → KeepsHeld gone (slice_set ms i new) finished → finished < length gone → found finished (slice_set ms i new) ≡ new.mailbox → ((x y : ℕ) → is_held x y new.mailbox ≡ true) →
        KeepsHeld gone (slice_set ms i new) (finished + (if b then 1 else 0))
    by_end true keeps inside own held = keeps-over gone (slice_set ms i new) finished keeps inside
        (ap (λ (t : Bool). not (get_or gone finished true) && t) (ap (is_held finished (finished + 1)) own ∙ held finished (finished + 1) ∙ sym (held finished finished) ∙ sym (ap (is_held finished finished) own)))
    by_end false keeps inside own held = let e : finished ≡ finished + 0 = omega arith in subst (λ (n : ℕ). KeepsHeld gone (slice_set ms i new) n) e keeps

-- and where its reader hung up
pub put-gone : (gone : List Bool) (ms : List Kept) (finished : ℕ) (batch : List RawMessage) (complete : Bool) → KeepsHeld gone ms finished → has finished ms ≡ false → finished < length gone →
    (received_by (at (boxes_from 0 gone ms) finished) batch ≡ Some HungUp)
    × (boxes_from 0 gone ms ≡ slice_set (boxes_from 0 gone ms) finished HungUp)
    × KeepsHeld gone ms (finished + (if complete then 1 else 0))
put-gone gone ms finished batch complete k h inside =
    let flag : get_or gone finished true ≡ true = absent-gone gone ms finished finished k h (omega arith) in
    let is : at (boxes_from 0 gone ms) finished ≡ HungUp = seen-absent gone ms finished h inside ∙ ap (λ (g : Bool). box g Empty) flag in (
      ap (λ (m : Mailbox). received_by m batch) is,
      sym (write-same (boxes_from 0 gone ms) finished HungUp Empty (sym is)),
      by_end complete flag,
    )
  where
    by_end : (b : Bool) → get_or gone finished true ≡ true → KeepsHeld gone ms (finished + (if b then 1 else 0))
    by_end true flag = keeps-over gone ms finished k inside
        (ap (λ (g : Bool). not g && is_held finished (finished + 1) (found finished ms)) flag ∙ sym (ap (λ (g : Bool). not g && is_held finished finished (found finished ms)) flag))
    by_end false flag = let e : finished ≡ finished + 0 = omega arith in subst (λ (n : ℕ). KeepsHeld gone ms n) e k

-- whether its reader hung up
pub gone-is : (gone : List Bool) (ms : List Kept) (finished id : ℕ) → KeepsHeld gone ms finished → id < length gone → get_or gone id true ≡ is_gone (at (boxes_from 0 gone ms) id)
gone-is gone ms finished id k inside = by_has (has id ms) refl ∙ sym (ap is_gone (at-first gone ms id inside))
  where
    by_flag : (g : Bool) (m : Mailbox) → is_gone m ≡ false → g ≡ is_gone (box g m)
    by_flag true m h = refl
    by_flag false m h = sym h

    by_has : (b : Bool) → has id ms ≡ b → get_or gone id true ≡ is_gone (box (get_or gone id true) (found id ms))
    by_has true e = by_flag (get_or gone id true) (found id ms) (held-here id finished (found id ms) (kept-is gone ms finished id k e).1)
    by_has false e = by_flag (get_or gone id true) (found id ms) (ap is_gone (found-absent id ms e))

-- ---- how many are kept

abbrev Agrees : ℕ → ℕ → List Bool → List Kept → Type 0
Agrees k finished gone ms = (i : ℕ) → has (k + i) ms ≡ (not (get_or gone i true) && is_held (k + i) finished (found (k + i) ms))

-- of the first request, and of those behind it
agrees-first : (k finished : ℕ) (g : Bool) (gone : List Bool) (ms : List Kept) → Agrees k finished (g ∷ gone) ms → is_held k finished (box g (found k ms)) ≡ has k ms
agrees-first k finished g gone ms h =
    let e : k + zero ≡ k = omega arith in
    sym (subst (λ (n : ℕ). has n ms ≡ (not g && is_held n finished (found n ms))) e (h zero) ∙ by_flag g (found k ms))
  where
    by_flag : (g : Bool) (m : Mailbox) → (not g && is_held k finished m) ≡ is_held k finished (box g m)
    by_flag true m = refl
    by_flag false m = refl

agrees-later : (k finished : ℕ) (g : Bool) (gone : List Bool) (ms : List Kept) → Agrees k finished (g ∷ gone) ms → Agrees (suc k) finished gone ms
agrees-later k finished g gone ms h i =
    let n : k + suc i ≡ suc k + i = omega arith in
    subst (λ (x : ℕ). has x ms ≡ (not (get_or gone i true) && is_held x finished (found x ms))) n (h (suc i))

-- without one that stands before them all
agrees-behind : (k finished : ℕ) (gone : List Bool) (m : Kept) (ms : List Kept) → m.id < k → Agrees k finished gone (m ∷ ms) → Agrees k finished gone ms
agrees-behind k finished gone m ms low h i =
    let other : m.id ≢ k + i = λ e. absurd (omega (arith, e, low)) in
    sym (has-there m ms (k + i) other) ∙ h i ∙ ap (λ (x : Mailbox). not (get_or gone i true) && is_held (k + i) finished x) (found-there m ms (k + i) other)

-- what is counted, by whether the first is
first-counted : (k finished n rest : ℕ) (b c : Bool) → b ≡ c → n ≡ (if c then 1 else 0) + rest → n ≡ (if b then 1 else 0) + rest
first-counted k finished n rest b c e h = h ∙ ap (λ (t : Bool). (if t then 1 else 0) + rest) (sym e)

counted : (k finished : ℕ) (gone : List Bool) (ms : List Kept) → Ascending k ms → Agrees k finished gone ms → length ms ≡ held_from k finished (boxes_from k gone ms)
counted k finished [] [] a h = refl
counted k finished [] (m ∷ ms) a h =
    let e : k + (m.id - k) ≡ m.id = omega (arith, a.0) in
    absurd (let t : true ≡ false = sym (has-here m ms m.id refl) ∙ subst (λ (n : ℕ). has n (m ∷ ms) ≡ false) e (h (m.id - k)) in cc)
counted k finished (g ∷ gone) [] a h =
    let rest : 0 ≡ held_from (suc k) finished (boxes_from (suc k) gone []) = counted (suc k) finished gone [] tt (agrees-later k finished g gone [] h) in
    first-counted k finished 0 (held_from (suc k) finished (boxes_from (suc k) gone [])) (is_held k finished (box g Empty)) false (agrees-first k finished g gone [] h) (omega (arith, rest))
counted k finished (g ∷ gone) (m ∷ ms) a h = elim (eqb_tells m.id k) [
  | inl e ↦
      let later = agrees-later k finished g gone (m ∷ ms) h in
      let rest : length ms ≡ held_from (suc k) finished (boxes_from (suc k) gone ms) =
      counted (suc k) finished gone ms (subst (λ (n : ℕ). Ascending (suc n) ms) e.1 a.1) (agrees-behind (suc k) finished gone m ms (omega (arith, e.1)) later) in
      let same_boxes : boxes_from (suc k) gone (m ∷ ms) ≡ boxes_from (suc k) gone ms = boxes-same (suc k) gone ms (m ∷ ms) (λ j high. found-there m ms j (λ x. absurd (omega (arith, x, e.1, high)))) in
      let same_count : held_from (suc k) finished (boxes_from (suc k) gone (m ∷ ms)) ≡ held_from (suc k) finished (boxes_from (suc k) gone ms) = ap (held_from (suc k) finished) same_boxes in
      first-counted k finished (suc (length ms)) (held_from (suc k) finished (boxes_from (suc k) gone (m ∷ ms))) (is_held k finished (box g (found k (m ∷ ms)))) true
      (agrees-first k finished g gone (m ∷ ms) h ∙ has-here m ms k e.1) (omega (arith, rest, same_count))
  | inr e ↦
      let above : k < m.id = omega (arith, e.1, a.0) in
      let rest : suc (length ms) ≡ held_from (suc k) finished (boxes_from (suc k) gone (m ∷ ms)) =
      counted (suc k) finished gone (m ∷ ms) (omega (arith, above), a.1) (agrees-later k finished g gone (m ∷ ms) h) in
      first-counted k finished (suc (length ms)) (held_from (suc k) finished (boxes_from (suc k) gone (m ∷ ms))) (is_held k finished (box g (found k (m ∷ ms)))) false
      (agrees-first k finished g gone (m ∷ ms) h ∙ has-there m ms k e.1 ∙ has-before (suc m.id) k ms a.1 (omega (arith, above))) (omega (arith, rest))
]

pub count-is : (gone : List Bool) (ms : List Kept) (finished : ℕ) → KeepsHeld gone ms finished → length ms ≡ held_from 0 finished (boxes_from 0 gone ms)
count-is gone ms finished k = counted 0 finished gone ms k.ascending (λ i.
    let e : i ≡ 0 + i = omega arith in
    subst (λ (n : ℕ). has n ms ≡ (not (get_or gone i true) && is_held n finished (found n ms))) e (k.held i))
