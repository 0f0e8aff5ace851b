-- Where a session stalls, all that was asked went out, and each script that asks at once has a request of its own.
use Rattle.std.proofs.Common.{◌≡◌, inl, inr, ◌<◌, ◌≤◌, ◌+◌, ◌^◌, ℕ, zero, suc, List, [], ◌∷◌, ◌++◌, length, map, drop, Bool, true, false, cond, ◌&&◌, ◌==◌, if◌then◌else◌, nat_lt, Option, Some, Result, Ok, Err, refl, sym, ap, subst, ◌∙◌, arith, slice_get}
use Rattle.std.specs.Prelude.{All, count_by, filter}
use Rattle.std.proofs.lemmas.Bool.Decides.{nat_tests}
use Rattle.std.proofs.lemmas.List.{length-map}
use Rattle.std.proofs.lemmas.List.Elements.{All-head, All-tail}
use Rattle.std.proofs.lemmas.List.Sums.{sum_by-cons}
use Rattle.std.proofs.lemmas.Option.{same_Some}
use Rattle.pg_spec.specs.Book as said
use Rattle.pg_spec.specs.Book.{Booking, is_of}
use Rattle.pg_spec.specs.Faults as faults
use Rattle.pg_spec.specs.Links.{LinkView}
use Rattle.pg_spec.specs.RawMessages.{RawMessage, messages}
use Rattle.pg_spec.specs.Settings.{Settings}
use Rattle.pg_spec.specs.Startup.{Outcome, Done, More}
use Rattle.pg_promises.specs.Causes.{NeedsNoTls, startup_after}
use Rattle.pg_promises.specs.ConnectionStrings.{Means}
use Rattle.pg_spec.specs.Courses.{Asked, Course, Given, Point, Request, Unfolds, Who, begun_in, nowhere, numbered, requests_of}
use Rattle.pg_spec.specs.Dialogues.{Dialogue, Answers, Asks, Sends, Reads, Puts, Closes, Calls, behind}
use Rattle.pg_promises.specs.Calls.{Call, apart}
use Rattle.pg_promises.specs.Kept.{AllWentOut, AsksAtOnce, BeginsWithRequest, NoneKeptBack}
use Rattle.pg_promises.specs.Sent.{SentInOrder}
use Rattle.pg_types.specs.declared.error.Error.{Error}
use Rattle.pg_types.specs.declared.error.Error.TheVariants as error
use Rattle.pg_desk.proofs.Soundness.{legal-sound}
use Rattle.pg_desk.specs.History.{State, start, after_all, joined, wire}
use Rattle.pg_desk.specs.declared.event.Booking.{Booking as Asking}
use Rattle.pg_desk.specs.declared.event.Event.{Event}
use Rattle.pg_query.specs.Dialogue as code
use Rattle.pg_query.specs.Meaning.{Place}
use Rattle.pg_query.specs.declared.desk_call.DeskCall.{DeskCall}
use Rattle.pg_query.specs.declared.desk_call.Reply.{Reply}
use Rattle.pg_core.specs.Counters.{tells}
use Rattle.pg_core.specs.Deeds.{AreGranted}
use Rattle.pg_core.specs.Outcomes.{asked}
use Rattle.pg_core.specs.Runs.{MayWait, ReadsNothing, run}
use Rattle.pg_core.specs.Times.{Free, IsSane}
use Rattle.pg_core.specs.Trails.{AreTurnsOf, Moment, goes_on, ran_by, said_booking}
use Rattle.pg_core.proofs.Extended.{holds-now}
use Rattle.pg_wire.specs.LinkCalls.{Keeps}
use Rattle.pg_connect.specs.Answers.{fresh, left_open}
use Rattle.pg_connect.specs.Faults.{error_of}
use Rattle.pg_connect.specs.Passed.{delivered_by}
use Rattle.pg_connect.specs.Passes.{waiting}
use Rattle.pg_connect.specs.Polls.{TurnFails}
use Rattle.pg_connect.specs.declared.fault.ConnectionFault.{ConnectionFault}
use Rattle.pg_connect.specs.declared.fault.ConnectionFault.TheVariants as fault
use Rattle.pg_connect.specs.declared.streams.Streams.{Streams}
use Rattle.pg_startup.specs.declared.startup.Startup.{Startup}
use Rattle.pg_session.specs.Calls.{calls_in}
use Rattle.pg_session.specs.Handles.{HandleState}
use Rattle.pg_session.specs.Sessions.{IsNewSession, MakesAll}
use Rattle.pg_session.specs.Speeches.{AreCommands, BookWhole, Speech, meaning_of}
use Rattle.pg_session.specs.States.{SessionState}
use Rattle.pg_session.specs.Kept.{Does, HandleKept, Now, Past, Runs, book_of, states_of}
use Rattle.pg_session.proofs.Session.{past-there}
use Rattle.pg_session.specs.Failures.{StopsOpening}
use Rattle.pg_session.proofs.Caused.Asks.{AsksWhole, asks-out, asks-wire, tame-in}
use Rattle.pg_session.proofs.Caused.Bytes.{of-batch, IsOfAnswer}
use Rattle.pg_session.proofs.Caused.Start.{of_grown}
use Rattle.pg_session.proofs.Crossing.Chain.{StoodIn}
use Rattle.pg_session.proofs.Crossing.End.{whole-front, wire-bytes}
use Rattle.pg_session.proofs.LivesLink.{CameSo}
use Rattle.pg_session.proofs.Opening.{IsDone, is-started}
use Rattle.pg_session.proofs.SentSoFar.Parts.{no-request}
use Rattle.pg_session.proofs.Quiet.Handles.{IsQuiet, Done as AllDone, Awaits, HoldsBack}
use Rattle.pg_session.proofs.Quiet.Polls.{none-moved}
use Rattle.pg_session.proofs.Quiet.{QuietRound}
use Rattle.pg_session.proofs.Readers.HubStates.{state_of}
use Rattle.pg_session.proofs.SentSoFar.{all-ended, asks, came-here, front-taken, kept-by, sent-by}
use Rattle.pg_session.proofs.Stalled.{units-are, quiet-out, dropped, taken-is, went-quietly}
use Rattle.pg_session.proofs.Stalled.Start.{rests-so, waits-more}

-- ---- how many requests there are

-- how many a handle has
abbrev own : ℕ → List Booking → ℕ
own k [] = 0
own k (b ∷ bs) = (if b.stamp.owner == k then 1 else 0) + own k bs

-- and the handles from one on
abbrev later : ℕ → List Booking → ℕ
later k [] = 0
later k (b ∷ bs) = (if nat_lt b.stamp.owner k then 0 else 1) + later k bs

split-one : (o k : ℕ) → (if o == k then 1 else 0) + (if nat_lt o (suc k) then 0 else 1) ≡ (if nat_lt o k then 0 else 1)
split-one o k = grind (arith, nat_tests)

split : (k : ℕ) (bs : List Booking) → own k bs + later (suc k) bs ≡ later k bs
split k [] = refl
split k (b ∷ bs) = omega (arith, split-one b.stamp.owner k, split k bs)

one-at-most : (b : Bool) → (if b then 0 else 1) ≤ 1
one-at-most true = omega arith
one-at-most false = omega arith

later-within : (k : ℕ) (bs : List Booking) → later k bs ≤ length bs
later-within k [] = omega arith
later-within k (b ∷ bs) = omega (arith, one-at-most (nat_lt b.stamp.owner k), later-within k bs)

-- those of one command are some of them
some-of : (k j n : ℕ) (bs : List Booking) → length (filter (λ r. is_of k j r.booking) (numbered n bs)) ≤ own k bs
some-of k j n [] = omega arith
some-of k j n (b ∷ bs) = by (b.stamp.owner == k) (b.stamp.command == j) (some-of k j (n + 1) bs)
  where
    by : (x y : Bool) → length (filter (λ r. is_of k j r.booking) (numbered (n + 1) bs)) ≤ own k bs →
        length (cond (x && y) (record { number = n; booking = b } ∷ filter (λ r. is_of k j r.booking) (numbered (n + 1) bs)) (filter (λ r. is_of k j r.booking) (numbered (n + 1) bs)))
        ≤ (if x then 1 else 0) + own k bs
    by true true rest = omega (arith, rest)
    by true false rest = omega (arith, rest)
    by false y rest = omega (arith, rest)

module _ {C : Type 0} where
  abbrev is_some_script : List C → Bool
  is_some_script script = nat_lt 0 (length script)

  counted : (script : List C) (scripts : List (List C)) → count_by is_some_script (script ∷ scripts) ≡ cond (is_some_script script) 1 0 + count_by is_some_script scripts
  counted script scripts = sum_by-cons (λ (s : List C). cond (is_some_script s) 1 0) script scripts

  is-some : (c : C) (cs : List C) → is_some_script (c ∷ cs) ≡ true
  is-some c cs = grind (arith, nat_tests)

  counted-some : (c : C) (cs : List C) (scripts : List (List C)) → count_by is_some_script ((c ∷ cs) ∷ scripts) ≡ 1 + count_by is_some_script scripts
  counted-some c cs scripts = counted (c ∷ cs) scripts ∙ ap (λ (b : Bool). cond b 1 0 + count_by is_some_script scripts) (is-some c cs)

  -- a request for each script that holds a command
  one-each : (k : ℕ) (scripts : List (List C)) (book : List Booking) →
      ((i : ℕ) (script : List C) → slice_get scripts i ≡ Some script → 0 < length script → 1 ≤ own (k + i) book) → count_by is_some_script scripts ≤ later k book
  one-each k [] book h = omega arith
  one-each k ([] ∷ scripts) book h =
      let rest = one-each (suc k) scripts book (λ i script e lt. let next : k + suc i ≡ suc k + i = omega arith in subst (λ (n : ℕ). 1 ≤ own n book) next (h (suc i) script e lt)) in
      omega (arith, counted [] scripts, rest, split k book)
  one-each k ((c ∷ cs) ∷ scripts) book h =
      let rest = one-each (suc k) scripts book (λ i script e lt. let next : k + suc i ≡ suc k + i = omega arith in subst (λ (n : ℕ). 1 ≤ own n book) next (h (suc i) script e lt)) in
      let here : k + 0 ≡ k = omega arith in
      let first = subst (λ (n : ℕ). 1 ≤ own n book) here (h 0 (c ∷ cs) refl (omega arith)) in
      omega (arith, counted-some c cs scripts, rest, split k book, first)

all-get : {X : Type 0} (P : X → Type 0) (xs : List X) (i : ℕ) (x : X) → slice_get xs i ≡ Some x → All P xs → P x
all-get P [] i x e h = absurd cc
all-get P (y ∷ ys) zero x e h = let same : y ≡ x = cc in subst P same (All-head P y ys h)
all-get P (y ∷ ys) (suc i) x e h = all-get P ys i x e (All-tail P y ys h)

-- ---- a command that asks at once

-- one that answered booked a request
some-booked : {Q R A : Type 0} (course : Course Q R) (handle : ℕ) (at : Point) (d : Dialogue Q R A) (requests : List Request) (asks : List (Asked Q R)) (given : Given A) →
    BeginsWithRequest d → Unfolds course handle at d requests asks given → 1 ≤ length requests
some-booked course handle at (Asks copying part d) [] asks given begins h = absurd h
some-booked course handle at (Asks copying part d) (r ∷ requests) asks given begins h = omega arith
some-booked course handle at (Answers a) requests asks given begins h = absurd begins
some-booked course handle at (Sends part d) requests asks given begins h = absurd begins
some-booked course handle at (Reads decides next) requests asks given begins h = absurd begins
some-booked course handle at (Puts part d) requests asks given begins h = absurd begins
some-booked course handle at (Closes part d) requests asks given begins h = absurd begins
some-booked course handle at (Calls q next) requests asks given begins h = absurd begins

-- it begins so in the words of its states too
abbrev IsAsk : {T : Type 0} → code.Dialogue T → Type 0
IsAsk (code.Ask copying part d) = Unit {0}
IsAsk other = ⊥

asks-first : {T B : Type 0} (d : code.Dialogue T) (f : Result T Error → B) → IsSane Free d → ReadsNothing d → BeginsWithRequest (behind (asked d) (λ r. Answers (f r))) → IsAsk d
asks-first (code.Answer r) f sane nothing begins = absurd begins
asks-first (code.Ask copying part d) f sane nothing begins = tt
asks-first (code.Send part refused d) f sane nothing begins = absurd begins
asks-first (code.Leave id d) f sane nothing begins = absurd sane
asks-first (code.Read cleanup decides next) f sane nothing begins = absurd nothing
asks-first (code.Put cleanup part d) f sane nothing begins = absurd nothing
asks-first (code.Finish part d) f sane nothing begins = absurd nothing
asks-first (code.Close part d) f sane nothing begins = absurd nothing
asks-first (code.HangUp d) f sane nothing begins = absurd nothing
asks-first (code.Call q refused next) f sane nothing begins = absurd begins
asks-first (code.Hear next) f sane nothing begins = absurd nothing

-- a turn in which it booked nothing left it where it was
none-booked : {T : Type 0} (m : Moment) (at : Option ℕ) (n : ℕ) (d : code.Dialogue T) → IsAsk d → AreGranted m.bookings → (run m.came at n d m.bookings m.answers m.additions).requests ≡ [] → IsAsk (run m.came at n d m.bookings m.answers m.additions).left
none-booked {T} m at n (code.Ask copying part d) is granted none = by m.bookings granted none
  where
    by : (bs : List (Result Request Error)) → AreGranted bs → (run m.came at n (code.Ask copying part d) bs m.answers m.additions).requests ≡ [] → IsAsk (run m.came at n (code.Ask copying part d) bs m.answers m.additions).left
    by [] granted none = tt
    by (Ok r ∷ bs) granted none = absurd (omega (arith, ap length none))
    by (Err e ∷ bs) granted none = absurd granted
none-booked m at n (code.Answer r) is granted none = absurd is
none-booked m at n (code.Send part refused d) is granted none = absurd is
none-booked m at n (code.Leave id d) is granted none = absurd is
none-booked m at n (code.Read cleanup decides next) is granted none = absurd is
none-booked m at n (code.Put cleanup part d) is granted none = absurd is
none-booked m at n (code.Finish part d) is granted none = absurd is
none-booked m at n (code.Close part d) is granted none = absurd is
none-booked m at n (code.HangUp d) is granted none = absurd is
none-booked m at n (code.Call q refused next) is granted none = absurd is
none-booked m at n (code.Hear next) is granted none = absurd is

both-none : {X : Type 0} (xs ys : List X) → xs ++ ys ≡ [] → (xs ≡ []) × (ys ≡ [])
both-none [] ys e = (refl, e)
both-none (x ∷ xs) ys e = absurd (omega (arith, ap length e))

still-asks : {T : Type 0} (course : Course DeskCall Reply) (who : Who) (d : code.Dialogue T) (trail : List Moment) → IsAsk d → AreTurnsOf tells course who d trail → (ran_by d trail).requests ≡ [] → IsAsk (ran_by d trail).left
still-asks course who d [] is made none = is
still-asks course who d (m ∷ before) is (number, former, t, ts) none =
    let s = ran_by d before in
    let none-of-both = both-none s.requests (goes_on s m).requests none in
    none-booked m s.at s.read s.left (still-asks course who d before is ts none-of-both.0) t.booked none-of-both.1

never-waits : {T : Type 0} (d : code.Dialogue T) → IsAsk d → MayWait d → ⊥
never-waits (code.Ask copying part d) is (inl reads) = reads
never-waits (code.Ask copying part d) is (inr puts) = puts
never-waits (code.Answer r) is waits = is
never-waits (code.Send part refused d) is waits = is
never-waits (code.Leave id d) is waits = is
never-waits (code.Read cleanup decides next) is waits = is
never-waits (code.Put cleanup part d) is waits = is
never-waits (code.Finish part d) is waits = is
never-waits (code.Close part d) is waits = is
never-waits (code.HangUp d) is waits = is
never-waits (code.Call q refused next) is waits = is
never-waits (code.Hear next) is waits = is

drop-many : {X : Type 0} (n : ℕ) (xs : List X) → length xs ≤ n → drop n xs ≡ []
drop-many zero [] h = refl
drop-many zero (x ∷ xs) h = absurd (omega (arith, h))
drop-many (suc n) [] h = refl
drop-many (suc n) (x ∷ xs) h = drop-many n xs (omega (arith, h))

some-or-none : {X : Type 0} (xs : List X) → (xs ≡ [] → ⊥) → 1 ≤ length xs
some-or-none [] h = absurd (h refl)
some-or-none (x ∷ xs) h = omega arith

-- ---- in the startup

not-done : (o : Outcome) (used : ℕ) → o ≡ More → o ≡ Done used → ⊥
not-done o used more done = let no : More ≡ Done used = sym more ∙ done in absurd cc

-- ---- a poll of the connection doesn't answer so

-- no other error is meant
abbrev is_stalled : Error → Bool
is_stalled (error.Stalled before after) = true
is_stalled _ = false

pub never-stalled : (s t : Streams) (l m : LinkView) (f : ConnectionFault) (events : List Event) (before after : ℕ) → TurnFails s t l m f events → error.Stalled before after ≡ error_of f → ⊥
never-stalled s t l m (fault.Unasked e) events before after fails is =
    subst (λ (x : Error). IsOfAnswer x) (sym is) (of-batch (waiting t.held) e fails.1)
never-stalled s t l m fault.Link events before after fails is = absurd (let no : true ≡ false = ap is_stalled is in cc)
never-stalled s t l m fault.Closed events before after fails is = absurd (let no : true ≡ false = ap is_stalled is in cc)
never-stalled s t l m fault.Ended events before after fails is = absurd (let no : true ≡ false = ap is_stalled is in cc)
never-stalled s t l m fault.BadLength events before after fails is = absurd (let no : true ≡ false = ap is_stalled is in cc)
never-stalled s t l m fault.Layout events before after fails is = absurd (let no : true ≡ false = ap is_stalled is in cc)
never-stalled s t l m (fault.Unreadable c) events before after fails is = absurd (let no : true ≡ false = ap is_stalled is in cc)
never-stalled s t l m (fault.LimitReached given limit) events before after fails is = absurd (let no : true ≡ false = ap is_stalled is in cc)
never-stalled s t l m fault.OutOfMemory events before after fails is = absurd (let no : true ≡ false = ap is_stalled is in cc)

module _ {C T A E : Type 0} (speech : Speech C T A E) where
  -- all that was asked went out
  abbrev AllSent : Call C → Settings → List ℕ → List ℕ → Type 0
  AllSent call settings g t = AllWentOut (meaning_of speech) call settings g t

  -- a startup that is stalled isn't done
  pub stopped-kept : (call : Call C) (settings : Settings) (s : Startup) (before after : ℕ) → Means call.config settings →
      StopsOpening settings call.nonce call.before call.after s (error.Stalled before after) → NoneKeptBack {T = Unit {0}} (meaning_of speech) call (Err (faults.Stalled before after))
  stopped-kept call settings s before after means h steady none =
      let rests = rests-so h.waited h.polled call.after h.fails.2 in
      let o = h.opening in
      let idle = h.goes_on.idle (h.keeps.steady steady) in (
        settings,
        means,
        of_grown call.before call.after o.got o.sent
            (λ g t. ((used : ℕ) × ((startup_after (apart call) settings g).outcome ≡ Done used)) → AllSent call settings g t)
            (rests.bytes.given ∙ o.given) (rests.bytes.taken ∙ o.taken)
            (λ started. absurd (not-done (startup_after (apart call) settings o.got).outcome started.0 (waits-more (apart call) settings s h.polled o idle) started.1)),
      )

  -- ---- where the session stalls behind its startup

  module _ (commands : AreCommands speech) (books : BookWhole speech) where
    -- a first one that runs booked a request
    runs-asked : (course : Course DeskCall Reply) (script : List C) (i : ℕ) (own_state : E) (past : List (Past A E)) (now : Now) (p : Place T) (c : C) → past ≡ [] → slice_get script 0 ≡ Some c → BeginsWithRequest ((meaning_of speech).asks own_state c) →
        Runs speech course script i own_state past now p → 1 ≤ length (requests_of (book_of now) i 0)
    runs-asked course script i own_state past now p c none at at_once runs =
        let none-yet : length past ≡ 0 = ap length none in
        let same : runs.command ≡ c = same_Some runs.command c (sym runs.stands ∙ ap (slice_get script) none-yet ∙ at) in
        let d = speech.says own_state runs.command in
        let u = runs.under_way in
        let who : Who = record { handle = i; command = length past } in
        let k = commands own_state runs.command in
        let first = asks-first d (speech.ends own_state runs.command) k.sane k.nothing (subst (λ (x : C). BeginsWithRequest ((meaning_of speech).asks own_state x)) (sym same) at_once) in
        let some : 1 ≤ length (requests_of (book_of now) i (length past)) =
        some-or-none (requests_of (book_of now) i (length past)) (λ empty. never-waits (ran_by d (u.last ∷ u.before)).left
        (still-asks course who d (u.last ∷ u.before) first u.ready.turns
        (no-request course who d (u.last ∷ u.before) u.ready.turns (sym (holds-now who (book_of now) (ran_by d (u.last ∷ u.before)) u.ready.requests) ∙ empty))) u.stands) in
        subst (λ (n : ℕ). 1 ≤ length (requests_of (book_of now) i n)) none-yet some

    -- so the first command of a script did
    first-asked : (course : Course DeskCall Reply) (script : List C) (i : ℕ) (h : HandleState T A E) (past : List (Past A E)) (now : Now) (s : State) (c : C) → slice_get script 0 ≡ Some c → BeginsWithRequest ((meaning_of speech).asks speech.begins c) →
        0 < length script → IsQuiet speech script s h → HandleKept speech course script i h past now → 1 ≤ length (requests_of (book_of now) i 0)
    first-asked course script i h past now s c at at_once some quiet k = by past refl
      where
        answered : length h.answers ≡ length past
        answered = ap length k.answers ∙ length-map past (λ (x : Past A E). x.ending.answer)

        -- it runs by what a script has before its first command
        asks-so : past ≡ [] → BeginsWithRequest ((meaning_of speech).asks h.own c)
        asks-so none =
            let new : speech.begins ≡ h.own = same_Some speech.begins h.own (subst (λ (p : List (Past A E)). slice_get (states_of speech.begins p) (length p) ≡ Some h.own) none k.own) in
            subst (λ (own : E). BeginsWithRequest ((meaning_of speech).asks own c)) new at_once

        waits : past ≡ [] → IsQuiet speech script s h → 1 ≤ length (requests_of (book_of now) i 0)
        waits none (AllDone idle whole) = absurd (omega (arith, some, whole, answered, ap length none))
        waits none (Awaits place is empty) = runs-asked course script i h.own past now place c none at (asks-so none)
            (subst (λ (o : Option (Place T)). Does speech course script i h.own past now o) is k.does)
        waits none (HoldsBack place is puts two) = runs-asked course script i h.own past now place c none at (asks-so none)
            (subst (λ (o : Option (Place T)). Does speech course script i h.own past now o) is k.does)

        by : (p : List (Past A E)) → past ≡ p → 1 ≤ length (requests_of (book_of now) i 0)
        by [] none = waits none quiet
        by (x ∷ xs) is =
            let d = k.done 0 x (ap (λ (p : List (Past A E)). slice_get p 0) is) in
            let same : d.command ≡ c = same_Some d.command c (sym d.stands ∙ at) in
            let new : speech.begins ≡ d.before = same_Some speech.begins d.before d.had in
            some-booked course i (begun_in nowhere x.times.begins) ((meaning_of speech).asks d.before d.command) _ _ _
            (subst (λ (y : C). BeginsWithRequest ((meaning_of speech).asks d.before y)) (sym same)
            (subst (λ (own : E). BeginsWithRequest ((meaning_of speech).asks own c)) new at_once)) d.unfolds

    first-of : (script : List C) → 0 < length script → AsksAtOnce (meaning_of speech) script → (c : C) × ((slice_get script 0 ≡ Some c) × BeginsWithRequest ((meaning_of speech).asks speech.begins c))
    first-of [] some h = absurd (omega (arith, some))
    first-of (c ∷ cs) some h = (c, (refl, h.first))

    pub none-kept : (call : Call C) (settings : Settings) (opening : List ℕ) (first : List RawMessage) (new : SessionState T A E) (link : LinkView) (turns : List ℕ) → IsNewSession speech call.scripts new →
        new.streams.closing ≡ false → new.streams.delivered ≡ 0 → (s : SessionState T A E) (l : LinkView) (t : SessionState T A E) (m : LinkView) → (made : MakesAll speech call.scripts turns new link t m) → (before after : ℕ) →
        Means call.config settings → NeedsNoTls settings → IsDone settings call.nonce opening first → Keeps call.before l → StoodIn speech opening first call.before t m → AsksWhole speech t → QuietRound speech call.scripts s l t m →
        CameSo first call.before m t.streams (delivered_by (calls_in speech call.scripts turns new link t m made)) → t.streams.given < 2 ^ 64 → call.after.given ≡ m.given → call.after.taken ≡ m.taken →
        NoneKeptBack {T = Unit {0}} (meaning_of speech) call (Err (faults.Stalled before after))
    unfolding came-here sent-by Rattle.pg_session.proofs.SentSoFar.sent-behind
    none-kept call settings opening first new link turns is_new active none s l t m made before after means plain done keeps h whole q came low given taken steady copies =
        let goes = q.polled.turns.goes in
        let settled = (went-quietly speech (fresh s.streams) (left_open t.streams) l m goes.events q.unmoved q.not_full goes.ended (λ closing. goes.passes.still_closing closing)).settled (keeps.steady steady) in
        let st = state_of q.reached in
        let tame = tame-in st t.hub q.reached.fits whole.hub.tame in
        let now = after_all (start 0 0) h.events in
        let out = quiet-out st goes.events tame.ended goes.calls (none-moved q.hub t.hub s.streams t.streams l m _ false q.polled q.unmoved) (goes.became.stands st q.before).0 settled.none_left settled.not_over in
        let k = kept-by speech commands books call.scripts turns new link t m is_new active none made first call.before came low [] in
        let so : Now = record { turns = length t.trace; asked = asks speech commands books call.scripts turns new link t m is_new active none made first call.before came low; state = k.state } in
        let book : List Booking = map said_booking t.hub.book in
        let same : book_of so ≡ book = ap (map said_booking) (sym k.fits.book) in
        -- all parts went out
        let many_out : length (wire now.book) ≤ length now.gone_out =
        omega (
          arith,
          dropped (length st.gone_out) (wire st.book) out.parts,
          asks-wire st.book tame.asks,
          asks-out st q.reached.fits.in_order tame.asks,
          q.reached.fits.parts.started,
          asks-out now h.fits.in_order (tame-in now t.hub h.fits whole.hub.tame).asks,
          asks-wire now.book (tame-in now t.hub h.fits whole.hub.tame).asks,
          h.fits.parts.started,
          ap length q.reached.fits.book,
          ap length h.fits.book,
        ) in
        let all_out : now.gone_out ≡ wire now.book = whole-front now.gone_out (wire now.book) (legal-sound 0 0 h.events h.legal).out_is_front (drop-many (length now.gone_out) (wire now.book) many_out) in
        let bytes : h.taken ≡ opening ++ said.wire book =
        taken-is speech (apart call) settings opening first t l m goes.events done h whole settled
        ∙ ap (λ (parts : List (List ℕ)). opening ++ joined parts) all_out
        ∙ ap (λ (x : List ℕ). opening ++ x) (wire-bytes now.book ∙ ap (λ (bs : List Asking). said.wire (map said_booking bs)) (sym h.fits.book)) in
        let c = came-here first call.before m call.after t.streams (delivered_by (calls_in speech call.scripts turns new link t m made)) came given in
        let sent : SentInOrder (meaning_of speech) call settings c.got h.taken =
        sent-by speech commands books call.scripts turns new link t m is_new active none made first call.before came low call settings opening c.got h.taken c.others refl plain done c.are whole.hub.tame.asks
        (front-taken opening h.taken t.streams.unsent t.streams.closing h.events t.hub.book h.legal h.out h.spent h.fits.book) in
        let frames = (is-started settings call.nonce opening first (came.passed ++ c.others) (messages c.got) done c.are).frames in
        -- each script that asks at once has one of its own
        let own_one : (i : ℕ) (script : List C) → slice_get call.scripts i ≡ Some script → 0 < length script → AsksAtOnce (meaning_of speech) script → 1 ≤ length (requests_of (book_of so) i 0) = λ i script at some at_once.
        let handle = past-there call.scripts t.handles i script k.many at in
        let past = past-there call.scripts k.all.pasts i script k.all.as_many at in
        let quiet = q.quiet i handle.0 handle.1 in
        let such : quiet.0 ≡ script = same_Some quiet.0 script (sym quiet.1 ∙ at) in
        let c = first-of script some at_once in
        first-asked _ script i handle.0 past.0 so st c.0 c.1.0 c.1.1 some (subst (λ (x : List C). IsQuiet speech x st handle.0) such quiet.2) (k.all.each i script handle.0 past.0 at handle.1 past.1) in
        let units = units-are speech (apart call) settings opening first t l m goes.events done h whole settled in
        let result : AllSent call settings c.got h.taken = record {
          asked = sent;
          whole = bytes ∙ ap (λ (x : List ℕ). x ++ said.wire book) (sym frames);
          ended = all-ended t.hub.book whole.hub.tame.asks;
          own = λ i script at some at_once. subst (λ (bs : List Booking). 1 ≤ length (requests_of bs i 0)) same (own_one i script at some at_once);
          count = λ at_once.
              let many : count_by is_some_script call.scripts ≤ later 0 (book_of so) =
              one-each 0 call.scripts (book_of so) (λ i script at some.
              let booked = own_one i script at some (all-get (AsksAtOnce (meaning_of speech)) call.scripts i script at at_once) in
              let here : i ≡ 0 + i = omega arith in
              subst (λ (n : ℕ). 1 ≤ own n (book_of so)) here (omega (arith, booked, some-of i 0 0 (book_of so)))) in
              omega (
                arith,
                many,
                later-within 0 (book_of so),
                units,
                many_out,
                asks-wire now.book (tame-in now t.hub h.fits whole.hub.tame).asks,
                ap length h.fits.book,
                ap length k.fits.book,
                length-map k.state.book said_booking,
              );
        } in (
          settings,
          means,
          of_grown call.before call.after c.got h.taken
              (λ g t. ((used : ℕ) × ((startup_after (apart call) settings g).outcome ≡ Done used)) → AllSent call settings g t)
              c.given (taken ∙ h.took) (λ started. result),
        )
