-- A command that decides in time is never told that its reply is over.
use Rattle.std.proofs.Common.{◌≡◌, ◌⊎◌, inl, inr, ℕ, zero, suc, ◌+◌, ◌<◌, List, [], ◌∷◌, ◌++◌, length, take, drop, Bool, true, false, ◌||◌, if◌then◌else◌, Option, Some, None, Result, Ok, Err, refl, sym, ap, subst, ◌∙◌, arith}
use Rattle.std.specs.List.{list_any}
use Rattle.std.proofs.lemmas.List.{append-nil, take-append-drop, length-take-le}
use Rattle.pg_spec.specs.Batches.{is_batch}
use Rattle.pg_spec.specs.RawMessages.{RawMessage, is_ready, is_aside, ends_in}
use Rattle.pg_desk.specs.History.{Delivery, finished, between_ends, joined}
use Rattle.pg_desk.proofs.Soundness.{AllCut}
use Rattle.pg_types.specs.declared.error.Error.{Error}
use Rattle.pg_query.specs.Dialogue.{Dialogue, Answer, Ask, Send, Leave, Read, Put, Finish, Close, HangUp, Call, Hear}
use Rattle.pg_query.specs.declared.desk_call.Cleanup.{Cleanup}
use Rattle.pg_query.specs.declared.desk_call.DeskCall.{DeskCall}
use Rattle.pg_query.specs.declared.desk_call.Reply.{Reply}
use Rattle.pg_spec.specs.Courses.{Asked, Request}
use Rattle.pg_spec.specs.Dialogues.{decided_after}
use Rattle.pg_types.specs.declared.error.Error.TheVariants.{Closed}
use Rattle.pg_core.specs.Deeds.{Addition, granted}
use Rattle.pg_core.specs.Runs.{Ran, of_request, stays, if_gone, run}
use Rattle.pg_core.specs.Times.{ReadsNo, IsTimely}
use Rattle.pg_core.proofs.Fed.{still-decides, front-decides}
use Rattle.pg_core.proofs.Fitting.{AreFitting, first-asked}

-- what came doesn't decide where it reads
abbrev pub IsUndecided : {T : Type 0} → (ℕ → List RawMessage) → Option ℕ → ℕ → Dialogue T → Type 0
IsUndecided came at n (Read cleanup decides next) = decided_after decides (drop n (of_request came at)) ≡ None
IsUndecided came at n d = Unit {0}

any-append : (xs ys : List RawMessage) → list_any is_ready xs ≡ false → list_any is_ready ys ≡ false → list_any is_ready (xs ++ ys) ≡ false
any-append [] ys e f = f
any-append (x ∷ xs) ys e f = by (is_ready x) e (any-append xs ys)
  where
    by : (b : Bool) → (b || list_any is_ready xs) ≡ false → (list_any is_ready xs ≡ false → list_any is_ready ys ≡ false → list_any is_ready (xs ++ ys) ≡ false) → (b || list_any is_ready (xs ++ ys)) ≡ false
    by true e h = absurd cc
    by false e h = h e f

take-more : (n k : ℕ) (xs : List RawMessage) → take (n + k) xs ≡ take n xs ++ take k (drop n xs)
take-more zero k xs = ap (λ (m : ℕ). take m xs) (let e : zero + k ≡ k = omega arith in e)
take-more (suc n) zero [] = ap (λ (m : ℕ). take {A = RawMessage} m []) (let e : suc n + zero ≡ suc n = omega arith in e)
take-more (suc n) (suc k) [] = ap (λ (m : ℕ). take {A = RawMessage} m []) (let e : suc n + suc k ≡ suc (n + suc k) = omega arith in e)
take-more (suc n) k (x ∷ xs) = ap (λ (m : ℕ). take m (x ∷ xs)) (let e : suc n + k ≡ suc (n + k) = omega arith in e) ∙ ap (λ (l : List RawMessage). x ∷ l) (take-more n k xs)

-- where an end was refused
time-if : {T : Type 0} (came : ℕ → List RawMessage) (qs : List (Result (Asked DeskCall Reply) Error)) (f : Error) (s t : Ran T) → (s.asked ≡ granted qs → IsTimely came s.at s.read s.left) → IsTimely came t.at t.read t.left →
    (if_gone f s t).asked ≡ granted qs → IsTimely came (if_gone f s t).at (if_gone f s t).read (if_gone f s t).left
time-if came qs Closed s t h g e = h e
time-if came qs f s t h g e = g

undecided-if : {T : Type 0} (came : ℕ → List RawMessage) (f : Error) (s t : Ran T) → IsUndecided came s.at s.read s.left → IsUndecided came t.at t.read t.left →
    IsUndecided came (if_gone f s t).at (if_gone f s t).read (if_gone f s t).left
undecided-if came Closed s t h g = h
undecided-if came f s t h g = g

-- the function keeps to time, where it asked what it was told and that fits
pub in-time : {T : Type 0} (came : ℕ → List RawMessage) (at : Option ℕ) (n : ℕ) (d : Dialogue T) (rs : List (Result Request Error)) (qs : List (Result (Asked DeskCall Reply) Error)) (ps : List (Result Addition Error)) →
    AreFitting (granted qs) → (run came at n d rs qs ps).asked ≡ granted qs → IsTimely came at n d →
    IsTimely came (run came at n d rs qs ps).at (run came at n d rs qs ps).read (run came at n d rs qs ps).left
in-time came at n (Answer r) rs qs ps fit e h = h
in-time came at n (Ask copying part d) [] qs ps fit e h = h
in-time came at n (Ask copying part d) (Ok r ∷ rs) qs ps fit e h = in-time came (Some r.number) 0 d rs qs ps fit e (h.0, inr refl)
in-time came at n (Ask copying part d) (Err f ∷ rs) qs ps fit e h = (tt, inl tt)
in-time came at n (Send part refused d) [] qs ps fit e h = h
in-time came at n (Send part refused d) (Ok r ∷ rs) qs ps fit e (timely, inl reads_no) = in-time came at n d rs qs ps fit e (timely.1, inl reads_no.1)
in-time came at n (Send part refused d) (Ok r ∷ rs) qs ps fit e (timely, inr none) = in-time came at n d rs qs ps fit e (timely.1, inr none)
in-time came at n (Send part refused d) (Err f ∷ rs) qs ps fit e (timely, inl reads_no) = in-time came at n (refused f) rs qs ps fit e (timely.0 f, inl (reads_no.0 f))
in-time came at n (Send part refused d) (Err f ∷ rs) qs ps fit e (timely, inr none) = in-time came at n (refused f) rs qs ps fit e (timely.0 f, inr none)
in-time came at n (Leave id d) rs qs ps fit e h = in-time came at n d rs qs ps fit e h
in-time came at n (Read cleanup decides next) rs qs ps fit e (timely, inl no_read) = absurd no_read
in-time {T} came at n (Read cleanup decides next) rs qs ps fit asks (timely, inr none) =
    by (decided_after decides (drop n (of_request came at))) refl (λ k e h. in-time came at (n + k) (next (take k (drop n (of_request came at)))) rs qs ps fit e h) asks
  where
    xs : List RawMessage
    xs = drop n (of_request came at)

    chosen : Option ℕ → Ran T
    chosen o = elim o [ None ↦ stays at n (Read cleanup decides next) | Some k ↦ run came at (n + k) (next (take k (drop n (of_request came at)))) rs qs ps ]

    after_k : (k : ℕ) → decided_after decides xs ≡ Some k → IsTimely came at (n + k) (next (take k xs))
    after_k k e =
        let alone : decided_after decides (take k xs) ≡ Some (length (take k xs)) = front-decides decides xs k e ∙ ap (λ (x : ℕ). Some x) (sym (length-take-le k xs (still-decides decides xs [] k e).within)) in
        let t = timely.1 (take k xs) alone in
        (t.1, choose (list_any is_ready (take k xs)) refl t.0)
      where
        choose : (b : Bool) → list_any is_ready (take k xs) ≡ b → (list_any is_ready (take k xs) ≡ true → ReadsNo (next (take k xs))) → ReadsNo (next (take k xs)) ⊎ (list_any is_ready (take (n + k) (of_request came at)) ≡ false)
        choose true e f = inl (f e)
        choose false e f = inr (ap (list_any is_ready) (take-more n k (of_request came at)) ∙ any-append (take n (of_request came at)) (take k xs) none e)

    by : (o : Option ℕ) → decided_after decides xs ≡ o →
        ((k : ℕ) → (run came at (n + k) (next (take k xs)) rs qs ps).asked ≡ granted qs → IsTimely came at (n + k) (next (take k xs)) →
        IsTimely came (run came at (n + k) (next (take k xs)) rs qs ps).at (run came at (n + k) (next (take k xs)) rs qs ps).read (run came at (n + k) (next (take k xs)) rs qs ps).left) →
        (chosen o).asked ≡ granted qs → IsTimely came (chosen o).at (chosen o).read (chosen o).left
    by None e h asks = (timely, inr none)
    by (Some k) e h asks = h k asks (after_k k e)
in-time came None n (Put cleanup part d) rs qs ps fit e h = h
in-time came (Some k) n (Put cleanup part d) rs qs [] fit e h = h
in-time came (Some k) n (Put cleanup part d) rs qs (Ok a ∷ ps) fit e h = in-time came (Some k) n d rs qs ps fit e h
in-time came (Some k) n (Put cleanup part d) rs qs (Err f ∷ ps) fit e h = (tt, inl tt)
in-time came None n (Finish part d) rs qs ps fit e h = h
in-time came (Some k) n (Finish part d) rs qs [] fit e h = h
in-time came (Some k) n (Finish part d) rs qs (Ok a ∷ ps) fit e h = in-time came (Some k) n d rs qs ps fit e h
in-time came (Some k) n (Finish part d) rs qs (Err f ∷ ps) fit e h = (tt, inl tt)
in-time came None n (Close part d) rs qs ps fit e h = h
in-time came (Some k) n (Close part d) rs qs [] fit e h = h
in-time came (Some k) n (Close part d) rs qs (Ok a ∷ ps) fit e h = in-time came (Some k) n d rs qs ps fit e h
in-time came (Some k) n (Close part d) rs qs (Err f ∷ ps) fit e h =
    time-if came qs f (run came (Some k) n d rs qs ps) (stays (Some k) n (Answer (Err f))) (λ e. in-time came (Some k) n d rs qs ps fit e h) (tt, inl tt) e
in-time came at n (HangUp d) rs qs ps fit e h = in-time came at n d rs qs ps fit e h
in-time came at n (Call q refused next) rs [] ps fit e h = h
in-time came at n (Call q refused next) rs (Ok a ∷ qs) ps fit e (timely, inl reads_no) =
    let k = first-asked q a (run came at n (next a.reply) rs qs ps).asked (granted qs) e fit.0 in
    in-time came at n (next a.reply) rs qs ps fit.1 k.1 (timely.1 a.reply k.0, inl (reads_no.1 a.reply k.0))
in-time came at n (Call q refused next) rs (Ok a ∷ qs) ps fit e (timely, inr none) =
    let k = first-asked q a (run came at n (next a.reply) rs qs ps).asked (granted qs) e fit.0 in
    in-time came at n (next a.reply) rs qs ps fit.1 k.1 (timely.1 a.reply k.0, inr none)
in-time came at n (Call q refused next) rs (Err f ∷ qs) ps fit e (timely, inl reads_no) = in-time came at n (refused f) rs qs ps fit e (timely.0 f, inl (reads_no.0 f))
in-time came at n (Call q refused next) rs (Err f ∷ qs) ps fit e (timely, inr none) = in-time came at n (refused f) rs qs ps fit e (timely.0 f, inr none)
in-time came at n (Hear next) rs qs ps fit e h = h

-- where it reads, what came decides nothing
pub undecided : {T : Type 0} (came : ℕ → List RawMessage) (at : Option ℕ) (n : ℕ) (d : Dialogue T) (rs : List (Result Request Error)) (qs : List (Result (Asked DeskCall Reply) Error)) (ps : List (Result Addition Error)) →
    IsUndecided came (run came at n d rs qs ps).at (run came at n d rs qs ps).read (run came at n d rs qs ps).left
undecided came at n (Answer r) rs qs ps = tt
undecided came at n (Ask copying part d) [] qs ps = tt
undecided came at n (Ask copying part d) (Ok r ∷ rs) qs ps = undecided came (Some r.number) 0 d rs qs ps
undecided came at n (Ask copying part d) (Err e ∷ rs) qs ps = tt
undecided came at n (Send part refused d) [] qs ps = tt
undecided came at n (Send part refused d) (Ok r ∷ rs) qs ps = undecided came at n d rs qs ps
undecided came at n (Send part refused d) (Err e ∷ rs) qs ps = undecided came at n (refused e) rs qs ps
undecided came at n (Leave id d) rs qs ps = undecided came at n d rs qs ps
undecided {T} came at n (Read cleanup decides next) rs qs ps =
    by (decided_after decides (drop n (of_request came at))) refl (λ k. undecided came at (n + k) (next (take k (drop n (of_request came at)))) rs qs ps)
  where
    chosen : Option ℕ → Ran T
    chosen o = elim o [ None ↦ stays at n (Read cleanup decides next) | Some k ↦ run came at (n + k) (next (take k (drop n (of_request came at)))) rs qs ps ]

    by : (o : Option ℕ) → decided_after decides (drop n (of_request came at)) ≡ o →
        ((k : ℕ) → IsUndecided came (run came at (n + k) (next (take k (drop n (of_request came at)))) rs qs ps).at (run came at (n + k) (next (take k (drop n (of_request came at)))) rs qs ps).read (run came at (n + k) (next (take k (drop n (of_request came at)))) rs qs ps).left) →
        IsUndecided came (chosen o).at (chosen o).read (chosen o).left
    by None e h = e
    by (Some k) e h = h k
undecided came None n (Put cleanup part d) rs qs ps = tt
undecided came (Some k) n (Put cleanup part d) rs qs [] = tt
undecided came (Some k) n (Put cleanup part d) rs qs (Ok a ∷ ps) = undecided came (Some k) n d rs qs ps
undecided came (Some k) n (Put cleanup part d) rs qs (Err f ∷ ps) = tt
undecided came None n (Finish part d) rs qs ps = tt
undecided came (Some k) n (Finish part d) rs qs [] = tt
undecided came (Some k) n (Finish part d) rs qs (Ok a ∷ ps) = undecided came (Some k) n d rs qs ps
undecided came (Some k) n (Finish part d) rs qs (Err f ∷ ps) = tt
undecided came None n (Close part d) rs qs ps = tt
undecided came (Some k) n (Close part d) rs qs [] = tt
undecided came (Some k) n (Close part d) rs qs (Ok a ∷ ps) = undecided came (Some k) n d rs qs ps
undecided came (Some k) n (Close part d) rs qs (Err f ∷ ps) = undecided-if came f (run came (Some k) n d rs qs ps) (stays (Some k) n (Answer (Err f))) (undecided came (Some k) n d rs qs ps) tt
undecided came at n (HangUp d) rs qs ps = undecided came at n d rs qs ps
undecided came at n (Call q refused next) rs [] ps = tt
undecided came at n (Call q refused next) rs (Ok a ∷ qs) ps = undecided came at n (next a.reply) rs qs ps
undecided came at n (Call q refused next) rs (Err e ∷ qs) ps = undecided came at n (refused e) rs qs ps
undecided came at n (Hear next) rs qs ps = tt

-- ---- a group that ended

batch-ends : (ms : List RawMessage) → is_batch true ms ≡ true → ends_in is_ready ms ≡ true
batch-ends [] h = absurd cc
batch-ends (m ∷ []) h = by (is_aside m) (is_ready m) h
  where
    by : (a b : Bool) → (if a then false else (if b then true else false)) ≡ true → b ≡ true
    by true b h = absurd cc
    by false true h = refl
    by false false h = absurd cc
batch-ends (m ∷ n ∷ ms) h = by (is_aside m) (is_ready m) h (batch-ends (n ∷ ms))
  where
    by : (a b : Bool) → (if a then false else (if b then false else is_batch true (n ∷ ms))) ≡ true →
        (is_batch true (n ∷ ms) ≡ true → ends_in is_ready (n ∷ ms) ≡ true) →
        ends_in is_ready (n ∷ ms) ≡ true
    by true b h f = absurd cc
    by false true h f = absurd cc
    by false false h f = f h

ends-behind : (xs ys : List RawMessage) → ends_in is_ready ys ≡ true → ends_in is_ready (xs ++ ys) ≡ true
ends-behind [] ys h = h
ends-behind (x ∷ []) [] h = absurd cc
ends-behind (x ∷ []) (y ∷ ys) h = h
ends-behind (x ∷ z ∷ xs) ys h = ends-behind (z ∷ xs) ys h

pub group-ends : (k : ℕ) (ds : List Delivery) → AllCut ds → k < finished ds → ends_in is_ready (joined (between_ends k ds)) ≡ true
group-ends k [] cut lt = absurd (omega (arith, lt))
group-ends zero (d ∷ ds) cut lt = first d.complete d.messages cut.0 lt (group-ends zero ds cut.1)
  where
    first : (b : Bool) (ms : List RawMessage) → is_batch b ms ≡ true → zero < (if b then suc (finished ds) else finished ds) →
        (zero < finished ds → ends_in is_ready (joined (between_ends zero ds)) ≡ true) → ends_in is_ready (ms ++ joined (if b then [] else between_ends zero ds)) ≡ true
    first true ms c lt f = subst (λ (l : List RawMessage). ends_in is_ready l ≡ true) (sym (append-nil ms)) (batch-ends ms c)
    first false ms c lt f = ends-behind ms (joined (between_ends zero ds)) (f lt)
group-ends (suc k) (d ∷ ds) cut lt = later d.complete lt (group-ends k ds cut.1) (group-ends (suc k) ds cut.1)
  where
    later : (b : Bool) → suc k < (if b then suc (finished ds) else finished ds) → (k < finished ds → ends_in is_ready (joined (between_ends k ds)) ≡ true) →
        (suc k < finished ds → ends_in is_ready (joined (between_ends (suc k) ds)) ≡ true) → ends_in is_ready (joined (between_ends (if b then k else suc k) ds)) ≡ true
    later true lt f g = f (omega (arith, lt))
    later false lt f g = g lt

-- what is left of messages that end in a ReadyForQuery ends in it, where none is before
last-any : (x : RawMessage) (xs : List RawMessage) → ends_in is_ready (x ∷ xs) ≡ true → list_any is_ready (x ∷ xs) ≡ true
last-any x [] h = ap (λ (b : Bool). b || false) h
last-any x (y ∷ xs) h = by (is_ready x) (last-any y xs h)
  where
    by : (b : Bool) → list_any is_ready (y ∷ xs) ≡ true → (b || list_any is_ready (y ∷ xs)) ≡ true
    by true h = refl
    by false h = h

rest-ends : (xs ys : List RawMessage) → list_any is_ready xs ≡ false → ends_in is_ready (xs ++ ys) ≡ true → ends_in is_ready ys ≡ true
rest-ends [] ys e h = h
rest-ends (x ∷ xs) [] e h = let any : list_any is_ready (x ∷ xs) ≡ true = last-any x xs (ap (ends_in is_ready) (sym (append-nil (x ∷ xs))) ∙ h) in let no_way : true ≡ false = sym any ∙ e in absurd cc
rest-ends (x ∷ []) (y ∷ ys) e h = h
rest-ends (x ∷ z ∷ xs) (y ∷ ys) e h = by (is_ready x) e (rest-ends (z ∷ xs) (y ∷ ys)) h
  where
    by : (b : Bool) → (b || list_any is_ready (z ∷ xs)) ≡ false → (list_any is_ready (z ∷ xs) ≡ false → ends_in is_ready (z ∷ xs ++ y ∷ ys) ≡ true → ends_in is_ready (y ∷ ys) ≡ true) →
        ends_in is_ready (z ∷ xs ++ y ∷ ys) ≡ true → ends_in is_ready (y ∷ ys) ≡ true
    by true e f h = absurd cc
    by false e f h = f e h

-- So a command that reads isn't over: its group would have decided.
pub never-over : {T : Type 0} (came : ℕ → List RawMessage) (at : Option ℕ) (n : ℕ) (cleanup : List Cleanup) (decides : List RawMessage → Bool) (next : List RawMessage → Dialogue T) →
    IsTimely came at n (Read cleanup decides next) → IsUndecided came at n (Read cleanup decides next) → ends_in is_ready (of_request came at) ≡ true → ⊥
never-over came at n cleanup decides next (timely, inl no_read) none ended = no_read
never-over came at n cleanup decides next (timely, inr clear) none ended =
    let whole : ends_in is_ready (take n (of_request came at) ++ drop n (of_request came at)) ≡ true = ap (ends_in is_ready) (take-append-drop n (of_request came at)) ∙ ended in
    let d = timely.0 (drop n (of_request came at)) (rest-ends (take n (of_request came at)) (drop n (of_request came at)) clear whole) in
    let no_way : Some d.0 ≡ None = sym d.1 ∙ none in
    absurd cc
