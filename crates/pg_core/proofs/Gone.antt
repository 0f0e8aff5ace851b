-- A command that hangs up last never asks for a request that is gone.
use Rattle.std.proofs.Common.{◌≡◌, ◌≢◌, ◌⊎◌, inl, inr, ℕ, suc, ◌+◌, ◌<◌, ◌==◌, ◌||◌, ◌&&◌, not, ◌≤◌, nat_lt, List, [], ◌∷◌, ◌++◌, length, slice_set, Bool, true, false, if◌then◌else◌, Some, option_map, Result, Ok, Err, refl, sym, ap, subst, ◌∙◌, arith, append_assoc}
use Rattle.std.proofs.lemmas.Bool.Decides.{nat_tests}
use Rattle.std.proofs.lemmas.List.{append-nil, length-append}
use Rattle.pg_spec.specs.RawMessages.{RawMessage}
use Rattle.pg_spec.specs.declared.stamps.Stamp.{Stamp}
use Rattle.pg_desk.specs.declared.event.DeskFault.{DeskFault}
use Rattle.pg_desk.specs.declared.event.Put.TheVariants as putting
use Rattle.pg_desk.specs.declared.event.Take.TheVariants as taking
use Rattle.pg_desk.specs.declared.event.Out.TheVariants as out
use Rattle.pg_desk.specs.declared.event.Deliver.TheVariants as delivering
use Rattle.pg_desk.specs.declared.event.Event.{Event}
use Rattle.pg_desk.specs.declared.event.Event.TheVariants.{Book, Put as PutEvent, EndCopy, Take as TakeEvent, HangUp, NextStatement, NextPortal, Catalog as CatalogEvent, NextOut, Deliver as DeliverEvent, CloseRequests, Fail}
use Rattle.pg_desk.specs.History.{State, Change, Booked, Added, Ended, LetGo, change_of, changed, start, extended, has_ended, is_in, is_hung_up, may_let_go, is_copying, is_running, waiting, after, after_all, take_answer, take_of_waiting, Allows, IsLegal, Taken, joined, taken}
use Rattle.pg_desk.specs.Asking.{IsAsking}
use Rattle.pg_desk.proofs.Parts.{extended-length}
use Rattle.pg_types.specs.declared.error.Error.{Error}
use Rattle.pg_query.specs.Faults.{of_fault}
use Rattle.pg_query.specs.Dialogue as code
use Rattle.pg_query.specs.Dialogue.{Dialogue, Answer, feed, feed_one, after_reply, fits, Told, Steps}
use Rattle.pg_query.specs.Lives.{Deed, Leads}
use Rattle.pg_query.specs.declared.desk_call.DeskCall.{DeskCall}
use Rattle.pg_query.specs.declared.desk_call.Reply.{Reply}
use Rattle.pg_query.proofs.LeavingLaws.{told-fits}
use Rattle.pg_query.proofs.Questions.{told-asks}
use Rattle.pg_spec.specs.Copies.{is_opened}
use Rattle.pg_spec.specs.Dialogues.{decided_after}
use Rattle.pg_core.specs.Deeds.{taken_from}
use Rattle.pg_core.specs.Lists.{events_of, got_of, IsReached, SparesAll}
use Rattle.pg_core.specs.Runs.{ReadsNothing}
use Rattle.pg_core.proofs.Answering.{decided-alike, decided-behind, decides-as, opened-more}
use Rattle.pg_core.proofs.Lists.{NoneAhead, ahead-one, spared-one, takes-one}
use Rattle.pg_core.proofs.Steps.{none-ahead}
use Rattle.pg_core.proofs.Flags.{AreFlagged, flagged, flagged-one, copying-ended, copying-new, copying-more, copying-other}
use Rattle.pg_core.specs.Times.{ReadsNo, Stage, Free, Opening, Open, stage_of, takes_parts, IsOpen, IsUnended, IsSane, HasCome, IsThere, IsKept, IsKeptBeside, Fits, IsNoHangUp, HangsUpNone}

-- only requests that are booked are hung up
abbrev pub NoneHungAhead : State → Type 0
NoneHungAhead s = (k : ℕ) → length s.book ≤ k → is_hung_up s k ≡ false

-- no event tells that a request, or a copy, is gone
abbrev pub IsNotGone : Event → Type 0
IsNotGone (TakeEvent id (Ok taking.Gone)) = ⊥
IsNotGone (PutEvent id part (putting.Gone back)) = ⊥
IsNotGone (EndCopy id part (putting.Gone back)) = ⊥
IsNotGone _ = Unit {0}

-- none of them does
abbrev pub NoneGone : List Deed → Type 0
NoneGone [] = Unit {0}
NoneGone (a ∷ ds) = IsNotGone a.event × NoneGone ds

-- ---- what messages leave as it is

-- what reads and hangs up nothing reads nothing
pub no-reads : {T : Type 0} (d : Dialogue T) → ReadsNothing d → ReadsNo d
no-reads (Answer r) h = tt
no-reads (code.Ask copying part d) h = tt
no-reads (code.Send part refused d) h = (λ e. no-reads (refused e) (h.0 e), no-reads d h.1)
no-reads (code.Leave id d) h = no-reads d h
no-reads (code.Read cleanup decides next) h = absurd h
no-reads (code.Put cleanup part d) h = absurd h
no-reads (code.Finish part d) h = absurd h
no-reads (code.Close part d) h = absurd h
no-reads (code.HangUp d) h = absurd h
no-reads (code.Call q refused next) h = (λ e. no-reads (refused e) (h.0 e), λ r fit. no-reads (next r) (h.1 r fit))
no-reads (code.Hear next) h = absurd h

reads-no-one : {T : Type 0} (m : RawMessage) (d : Dialogue T) → ReadsNo d → ReadsNo (feed_one m d)
reads-no-one m (code.Answer r) h = tt
reads-no-one m (code.Ask c p d) h = tt
reads-no-one m (code.Send p refused d) h = (λ e. reads-no-one m (refused e) (h.0 e), reads-no-one m d h.1)
reads-no-one m (code.Leave k d) h = reads-no-one m d h
reads-no-one m (code.Read cleanup decides next) h = absurd h
reads-no-one m (code.Put cleanup p d) h = reads-no-one m d h
reads-no-one m (code.Finish p d) h = reads-no-one m d h
reads-no-one m (code.Close p d) h = reads-no-one m d h
reads-no-one m (code.HangUp d) h = h
reads-no-one m (code.Call q refused next) h = (λ e. reads-no-one m (refused e) (h.0 e), λ r fit. reads-no-one m (next r) (h.1 r fit))
reads-no-one m (code.Hear next) h = tt

decided-first : (decides : List RawMessage → Bool) (m : RawMessage) → decides (m ∷ []) ≡ true → decided_after decides (m ∷ []) ≡ Some (length (m ∷ []))
decided-first decides m e = ap (λ (b : Bool). if b then Some 1 else option_map (λ n. n + 1) (decided_after (λ l. decides (m ∷ l)) [])) e

behind-one : (decides : List RawMessage → Bool) (m : RawMessage) (ms : List RawMessage) → decides (m ∷ []) ≡ false →
    decided_after (λ l. decides (m ∷ l)) ms ≡ Some (length ms) → decided_after decides (m ∷ ms) ≡ Some (length (m ∷ ms))
behind-one decides m ms e decided =
    let more : length ms + 1 ≡ suc (length ms) = omega arith in
    ap (λ (b : Bool). if b then Some 1 else option_map (λ n. n + 1) (decided_after (λ l. decides (m ∷ l)) ms)) e
    ∙ ap (option_map (λ n. n + 1)) decided ∙ ap (λ (n : ℕ). Some n) more

-- ---- what messages that come leave sane

sane-free : {T : Type 0} (m : RawMessage) (d : Dialogue T) → IsSane Free d → IsSane Free (feed_one m d)
sane-free m (code.Answer r) h = h
sane-free m (code.Ask c p d) h = h
sane-free m (code.Send p refused d) h = (λ e. sane-free m (refused e) (h.0 e), sane-free m d h.1)
sane-free m (code.Leave k d) h = absurd h
sane-free {T} m (code.Read cleanup decides next) (first, h) = by (decides (m ∷ [])) refl
  where
    by : (b : Bool) → decides (m ∷ []) ≡ b → IsSane Free (if b then next (m ∷ []) else code.Read cleanup (λ ms. decides (m ∷ ms)) (λ ms. next (m ∷ ms)))
    by true e = h (m ∷ []) (decided-first decides m e)
    by false e = (first, λ ms decided. h (m ∷ ms) (behind-one decides m ms e decided))
sane-free m (code.Put cleanup p d) h = absurd h.0
sane-free m (code.Finish p d) h = absurd h.0
sane-free m (code.Close p d) h = absurd h.0
sane-free m (code.HangUp d) h = h
sane-free m (code.Call q refused next) h = (λ e. sane-free m (refused e) (h.0 e), λ r fit. sane-free m (next r) (h.1 r fit))
sane-free m (code.Hear next) h = tt

sane-open : {T : Type 0} (m : RawMessage) (d : Dialogue T) → IsSane Open d → IsSane Open (feed_one m d)
sane-open m (code.Answer r) h = absurd h
sane-open m (code.Ask c p d) h = absurd h.0
sane-open m (code.Send p refused d) h = (λ e. sane-open m (refused e) (h.0 e), sane-open m d h.1)
sane-open m (code.Leave k d) h = absurd h
sane-open m (code.Read cleanup decides next) h = absurd h
sane-open m (code.Put cleanup p d) h = (h.0, h.1, sane-open m d h.2)
sane-open m (code.Finish p d) h = (h.0, sane-free m d h.1)
sane-open m (code.Close p d) h = (h.0, reads-no-one m d h.1, sane-free m d h.2)
sane-open m (code.HangUp d) h = absurd h.0
sane-open m (code.Call q refused next) h = (λ e. sane-open m (refused e) (h.0 e), λ r fit. sane-open m (next r) (h.1 r fit))
sane-open m (code.Hear next) h = tt

-- Once these came it is sane at a stage at which the desk's copy is as it was, and which tells of what was taken with them.
abbrev StaysSane : {T : Type 0} → List RawMessage → Stage → Dialogue T → Type 0
StaysSane ms stage d = (later : Stage) × (takes_parts later ≡ takes_parts stage) × IsSane later d × ((got : List RawMessage) → HasCome got stage → HasCome (got ++ ms) later)

-- where nothing of an opening is read, but more of it came
come-on : (m : RawMessage) (came : List RawMessage) → (later : Stage) × (takes_parts later ≡ true) × IsUnended later × ((got : List RawMessage) → HasCome got (Opening came) → HasCome (got ++ m ∷ []) later)
come-on m came = by (is_opened (came ++ m ∷ [])) refl
  where
    by : (b : Bool) → is_opened (came ++ m ∷ []) ≡ b → (later : Stage) × (takes_parts later ≡ true) × IsUnended later × ((got : List RawMessage) → HasCome got (Opening came) → HasCome (got ++ m ∷ []) later)
    by true e = (Open, refl, tt, λ got come. ap (λ (x : List RawMessage). is_opened (x ++ m ∷ [])) come.0 ∙ e)
    by false e = (Opening (came ++ m ∷ []), refl, tt, λ got come. (ap (λ (x : List RawMessage). x ++ m ∷ []) come.0, e))

sane-opening : {T : Type 0} (m : RawMessage) (came : List RawMessage) (d : Dialogue T) → IsSane (Opening came) d → StaysSane (m ∷ []) (Opening came) (feed_one m d)
sane-opening m came (code.Answer r) h = absurd h
sane-opening m came (code.Ask c p d) h = absurd h.0
sane-opening m came (code.Send p refused d) h = absurd h
sane-opening m came (code.Leave k d) h = absurd h
sane-opening {T} m came (code.Read cleanup decides next) (first, exact, h) = by (decides (m ∷ [])) refl
  where
    answers : is_opened (came ++ m ∷ []) ≡ decides (m ∷ [])
    answers = decides-as decides (λ front. is_opened (came ++ front)) m exact

    by : (b : Bool) → decides (m ∷ []) ≡ b → StaysSane (m ∷ []) (Opening came) (if b then next (m ∷ []) else code.Read cleanup (λ ms. decides (m ∷ ms)) (λ ms. next (m ∷ ms)))
    by true e = (Open, refl, h (m ∷ []) (decided-first decides m e), λ got come. ap (λ (x : List RawMessage). is_opened (x ++ m ∷ [])) come.0 ∙ answers ∙ e)
    by false e = (
      Opening (came ++ m ∷ []),
      refl,
      (
        first,
        λ ms. decided-behind decides (λ front. is_opened (came ++ front)) m exact e ms
            ∙ decided-alike (λ front. is_opened (came ++ m ∷ front)) (λ front. is_opened ((came ++ m ∷ []) ++ front)) (λ front. ap is_opened (sym (append_assoc came (m ∷ []) front))) ms,
        λ ms decided. h (m ∷ ms) (behind-one decides m ms e decided),
      ),
      λ got come. (ap (λ (x : List RawMessage). x ++ m ∷ []) come.0, answers ∙ e),
    )
sane-opening m came (code.Put cleanup p d) h = absurd h.0
sane-opening m came (code.Finish p d) h = absurd h.0
sane-opening m came (code.Close p d) h = let o = come-on m came in (o.0, o.1, (o.2, reads-no-one m d h.1, sane-free m d h.2), o.3)
sane-opening m came (code.HangUp d) h = absurd h.0
sane-opening m came (code.Call q refused next) h = absurd h
sane-opening m came (code.Hear next) h = let o = come-on m came in (o.0, o.1, tt, o.3)

sane-one : {T : Type 0} (m : RawMessage) (stage : Stage) (d : Dialogue T) → IsSane stage d → StaysSane (m ∷ []) stage (feed_one m d)
sane-one m Free d h = (Free, refl, sane-free m d h, λ got come. tt)
sane-one m (Opening came) d h = sane-opening m came d h
sane-one m Open d h = (Open, refl, sane-open m d h, λ got come. opened-more got (m ∷ []) come)

pub sane-fed : {T : Type 0} (ms : List RawMessage) (stage : Stage) (d : Dialogue T) → IsSane stage d → StaysSane ms stage (feed ms d)
sane-fed [] stage d h = (stage, refl, h, λ got come. subst (λ (x : List RawMessage). HasCome x stage) (sym (append-nil got)) come)
sane-fed (m ∷ ms) stage d h =
    let one = sane-one m stage d h in
    let all = sane-fed ms one.0 (feed_one m d) one.2 in
    (all.0, all.1 ∙ one.1, all.2, λ got come. subst (λ (x : List RawMessage). HasCome x all.0) (append_assoc got (m ∷ []) ms) (all.3 (got ++ m ∷ []) (one.3 got come)))

-- what a request that is sent meanwhile leads to is sane at the same stage
pub sent-sane : {T : Type 0} (stage : Stage) (p : List ℕ) (refused : Error → Dialogue T) (d : Dialogue T) → IsSane stage (code.Send p refused d) → ((e : Error) → IsSane stage (refused e)) × IsSane stage d
sent-sane Free p refused d h = h
sent-sane (Opening came) p refused d h = absurd h
sent-sane Open p refused d h = h

-- so is what a question leads to
pub asked-sane : {T : Type 0} (stage : Stage) (q : DeskCall) (refused : Error → Dialogue T) (next : Reply → Dialogue T) → IsSane stage (code.Call q refused next) →
    ((e : Error) → IsSane stage (refused e)) × ((r : Reply) → fits q r ≡ true → IsSane stage (next r))
asked-sane Free q refused next h = h
asked-sane (Opening came) q refused next h = absurd h
asked-sane Open q refused next h = h

-- ---- where it stands

-- a request that is booked as a copy takes parts
begins-so : (copying : Bool) → copying ≡ takes_parts (stage_of copying)
begins-so true = refl
begins-so false = refl

unended-so : (stage : Stage) → IsOpen stage → IsUnended stage
unended-so Free h = absurd h
unended-so (Opening came) h = absurd h
unended-so Open h = tt

-- what a copy that isn't ended owes is owed where it is known to take parts
kept-open : {T : Type 0} (s : State) (id : ℕ) (stage : Stage) (x : Dialogue T) → IsUnended stage → IsKept s id (takes_parts stage) x → IsThere s id × (is_copying id s.copying ≡ true)
kept-open s id Free x e h = absurd e
kept-open s id (Opening came) x e h = h
kept-open s id Open x e h = h

-- of a copy that is open what was taken answers the opening
come-open : (got : List RawMessage) (stage : Stage) → IsOpen stage → HasCome got stage → HasCome got Open
come-open got Free h come = absurd h
come-open got (Opening came) h come = absurd h
come-open got Open h come = come

pub fits-so : {T : Type 0} (s : State) (stage : Stage) (d : Dialogue T) (id : ℕ) → IsSane stage d → IsKept s id (takes_parts stage) d → HasCome (got_of s id) stage → Fits s d id
fits-so s stage (code.Answer r) id sane kept come = tt
fits-so s stage (code.Ask c p d) id sane kept come = sane.1
fits-so s stage (code.Send p refused d) id sane kept come = (stage, sane, kept, come)
fits-so s stage (code.Leave k d) id sane kept come = absurd sane
fits-so s stage (code.Read cleanup decides next) id sane kept come = (stage, sane, kept, come)
fits-so s stage (code.Put cleanup p d) id sane kept come = (sane.1, sane.2, kept-open s id stage (code.Put cleanup p d) (unended-so stage sane.0) kept, come-open (got_of s id) stage sane.0 come)
fits-so s stage (code.Finish p d) id sane kept come = (sane.1, kept-open s id stage (code.Finish p d) (unended-so stage sane.0) kept)
fits-so s stage (code.Close p d) id sane kept come = (sane.2, kept-open s id stage (code.Close p d) sane.0 kept)
fits-so s stage (code.HangUp d) id sane kept come = (sane.1, sane.2)
fits-so s stage (code.Call q refused next) id sane kept come = (stage, sane, kept, come)
fits-so s stage (code.Hear next) id sane kept come = tt

pub fits-none : {T : Type 0} (s : State) (d : Dialogue T) (id : ℕ) → IsSane Free d → ReadsNo d → Fits s d id
fits-none s d id sane none = fits-so s Free d id sane (inl none) tt

-- where it is there and open still, or not, it is kept
kept-move : {T : Type 0} (s t : State) (id : ℕ) (opened : Bool) (x y : Dialogue T) → (IsThere s id → IsThere t id) → (IsThere s id → is_copying id t.copying ≡ is_copying id s.copying) → (ReadsNo x → ReadsNo y) →
    IsKept s id opened x → IsKept t id opened y
kept-move s t id true x y there copying reads (h, c) = (there h, copying h ∙ c)
kept-move s t id false x y there copying reads (inl h) = inl (reads h)
kept-move s t id false x y there copying reads (inr (h, c)) = inr (there h, copying h ∙ c)

kept-beside : {T : Type 0} (s t : State) (id sent : ℕ) (opened : Bool) (x y : Dialogue T) → (IsThere s id → IsThere t id) → (IsThere s id → is_copying id t.copying ≡ is_copying id s.copying) → (ReadsNo x → ReadsNo y) →
    (IsThere s id → sent ≢ id) → IsKept s id opened x → IsKeptBeside t id sent opened y
kept-beside s t id sent true x y there copying reads apart (h, c) = (there h, copying h ∙ c, apart h)
kept-beside s t id sent false x y there copying reads apart (inl h) = inl (reads h)
kept-beside s t id sent false x y there copying reads apart (inr (h, c)) = inr (there h, copying h ∙ c, apart h)

-- where another was hung up
kept-left : {T : Type 0} (s t : State) (id sent : ℕ) (opened : Bool) (x : Dialogue T) → (sent ≢ id → IsThere s id → IsThere t id) → (is_copying id t.copying ≡ is_copying id s.copying) →
    IsKeptBeside s id sent opened x → IsKept t id opened x
kept-left s t id sent true x there copying (h, c, apart) = (there apart h, copying ∙ c)
kept-left s t id sent false x there copying (inl h) = inl h
kept-left s t id sent false x there copying (inr (h, c, apart)) = inr (there apart h, copying ∙ c)

-- a request that is read is there
kept-there : {T : Type 0} (s : State) (id : ℕ) (opened : Bool) (x : Dialogue T) → (ReadsNo x → ⊥) → IsKept s id opened x → IsThere s id
kept-there s id true x reads (h, c) = h
kept-there s id false x reads (inl h) = absurd (reads h)
kept-there s id false x reads (inr (h, c)) = h

-- ---- requests that were hung up

in-other : (j k : ℕ) (xs : List ℕ) → j ≢ k → is_in j (xs ++ k ∷ []) ≡ is_in j xs
in-other j k [] h = grind (arith, nat_tests)
in-other j k (x ∷ xs) h = ap (λ (b : Bool). (x == j) || b) (in-other j k xs h)

in-other-if : (b : Bool) (j k : ℕ) (xs : List ℕ) → (b ≡ true → j ≢ k) → is_in j (if b then xs ++ k ∷ [] else xs) ≡ is_in j xs
in-other-if true j k xs h = in-other j k xs (h refl)
in-other-if false j k xs h = refl

booked-first : (b c : Bool) (k n : ℕ) → nat_lt k n ≡ b → (b && not c) ≡ true → k < n
booked-first true c k n e h = grind (arith, nat_tests, e)
booked-first false c k n e h = absurd cc

hung-hang : (s : State) (id : ℕ) → NoneHungAhead s → NoneHungAhead (after s (HangUp id (Ok tt)))
hung-hang s id h k le = in-other-if (may_let_go s id) k id s.hung_up (λ e same. (let lt : id < length s.book = booked-first (nat_lt id (length s.book)) (is_hung_up s id) id (length s.book) refl e in let is : k ≡ id = same in omega (arith, lt, is, le))) ∙ h k le

hung-by : (s : State) (c : Change) → NoneHungAhead s → NoneHungAhead (changed s c)
hung-by s (Booked given part copying) h = λ k le. h k (let e = length-append s.book (record { stamp = given; parts = part ∷ [] } ∷ []) in omega (arith, le, e))
hung-by s (Added id part) h = λ k le. h k (let e = extended-length id part s.book in omega (arith, le, e))
hung-by s (Ended id part) h = λ k le. h k (let e = extended-length id part s.book in omega (arith, le, e))
hung-by s (LetGo id) h = hung-hang s id h
hung-by s c h = h

hung-one : (s : State) (e : Event) → NoneHungAhead s → NoneHungAhead (after s e)
hung-one s e h = hung-by s (change_of e) h

pub hung-on : (s : State) (es : List Event) → NoneHungAhead s → NoneHungAhead (after_all s es)
hung-on s [] h = h
hung-on s (e ∷ es) h = hung-on (after s e) es (hung-one s e h)

-- nobody hung up a request that isn't booked
pub none-hung : (s : State) → IsReached s → NoneHungAhead s
none-hung s h = subst NoneHungAhead (sym h.is) (hung-on (start h.statements h.portals) h.before (λ k le. refl))

there-booked : (s : State) (stamp : Stamp) (part : List ℕ) (copying : Bool) (new id : ℕ) → IsThere s id → IsThere (after s (Book stamp part copying (Ok new))) id
there-booked s stamp part copying new id h = record {
  booked = (let lt = h.booked in let e = length-append s.book (record { stamp = stamp; parts = part ∷ [] } ∷ []) in omega (arith, lt, e));
  kept_up = h.kept_up;
}

there-new : (s : State) (stamp : Stamp) (part : List ℕ) (copying : Bool) (new : ℕ) → new ≡ length s.book → NoneHungAhead s → IsThere (after s (Book stamp part copying (Ok new))) new
there-new s stamp part copying new is none = record {
  booked = (let e = length-append s.book (record { stamp = stamp; parts = part ∷ [] } ∷ []) in omega (arith, is, e));
  kept_up = none new (omega (arith, is));
}

kept-new : {T : Type 0} (s : State) (stamp : Stamp) (part : List ℕ) (copying opened : Bool) (new : ℕ) (d : Dialogue T) → copying ≡ opened → new ≡ length s.book → NoneHungAhead s → AreFlagged s → IsKept (after s (Book stamp part copying (Ok new))) new opened d
kept-new s stamp part copying true new d same is none flags = (there-new s stamp part copying new is none, copying-new new s.copying copying (is ∙ sym flags) ∙ same)
kept-new s stamp part copying false new d same is none flags = inr (there-new s stamp part copying new is none, copying-new new s.copying copying (is ∙ sym flags) ∙ same)

-- a part more
there-extended : (s t : State) (which id : ℕ) (part : List ℕ) → t.book ≡ extended which part s.book → t.hung_up ≡ s.hung_up → IsThere s id → IsThere t id
there-extended s t which id part book hung h = record {
  booked = (let lt = h.booked in let e = ap length book ∙ extended-length which part s.book in omega (arith, lt, e));
  kept_up = ap (is_in id) hung ∙ h.kept_up;
}

-- a copy that is there and open takes parts
runs : (s : State) (id which : ℕ) → which ≡ id → s.failed ≡ false → IsThere s id → is_copying id s.copying ≡ true → (s.failed ≡ true) ⊎ (is_running s which ≡ false) → ⊥
runs s id which same whole there copying (inl failed) = let e : true ≡ false = sym failed ∙ whole in absurd cc
runs s id which same whole there copying (inr off) =
    let on : is_running s id ≡ true = ap (λ (b : Bool). b && not (is_hung_up s id)) copying ∙ ap (λ (b : Bool). true && not b) there.kept_up in
    let e : true ≡ false = sym on ∙ ap (is_running s) (sym same) ∙ off in absurd cc

-- a copy that is ended there is open no more
ended-there : (which id : ℕ) (cs : List Bool) → which ≡ id → is_copying id (slice_set cs which false) ≡ false
ended-there which id cs same = ap (λ (k : ℕ). is_copying id (slice_set cs k false)) same ∙ copying-ended id cs

there-hung : (s : State) (which id : ℕ) → which ≢ id → IsThere s id → IsThere (after s (HangUp which (Ok tt))) id
there-hung s which id apart h = record { booked = h.booked; kept_up = in-other-if (may_let_go s which) id which s.hung_up (λ e same. apart (sym same)) ∙ h.kept_up }

-- ---- one event

gone-waits : (s : State) (k : ℕ) (w : List (List RawMessage)) → taking.Gone ≡ take_of_waiting s k w → s.failed ≡ true
gone-waits s k (ms ∷ w) h = absurd cc
gone-waits s k [] h = by s.failed (has_ended k s.deliveries) h
  where
    by : (b c : Bool) → taking.Gone ≡ (if b then taking.Gone else (if c then taking.Over else taking.Empty)) → b ≡ true
    by true c h = refl
    by false true h = absurd cc
    by false false h = absurd cc

never-gone : (s : State) (k : ℕ) → taking.Gone ≡ take_answer s k → IsThere s k → s.failed ≡ false → ⊥
never-gone s k h there whole = by (nat_lt k (length s.book)) refl (is_hung_up s k) there.kept_up h
  where
    by : (b : Bool) → nat_lt k (length s.book) ≡ b → (c : Bool) → c ≡ false →
        taking.Gone ≡ (if b then (if c then taking.Gone else take_of_waiting s k (waiting s k)) else taking.Gone) → ⊥
    by false is c open_ h = let lt = there.booked in grind (arith, nat_tests)
    by true is true open_ h = absurd cc
    by true is false open_ h = let e : true ≡ false = sym (gone-waits s k (waiting s k) h) ∙ whole in absurd cc

-- one event leads from where it fits to where it fits, and isn't Gone
record Kept {T : Type 0} (s : State) (e : Event) (d' : Dialogue T) (id' : ℕ) : Type 0 where
  fits : Fits (after s e) d' id'
  failed : (after s e).failed ≡ false
  not_gone : IsNotGone e

kept-as : {T : Type 0} (s : State) (e : Event) (d d' : Dialogue T) (id id' : ℕ) → d' ≡ d → id' ≡ id → Fits (after s e) d id → (after s e).failed ≡ false → IsNotGone e → Kept s e d' id'
kept-as {T} s e d d' id id' is same fits whole not = record {
  fits = subst (λ (x : Dialogue T). Fits (after s e) x id') (sym is) (subst (λ (k : ℕ). Fits (after s e) d k) (sym same) fits);
  failed = whole;
  not_gone = not;
}

-- where nothing more was taken
come-as : (s t : State) (id : ℕ) (stage : Stage) → t.takes ≡ s.takes → HasCome (got_of s id) stage → HasCome (got_of t id) stage
come-as s t id stage takes come = subst (λ (ts : List Taken). HasCome (joined (taken id ts)) stage) (sym takes) come

-- of a request that is new nothing was taken
come-new : (s : State) (new : ℕ) (copying : Bool) → new ≡ length s.book → NoneAhead s → HasCome (got_of s new) (stage_of copying)
come-new s new true is none = (ap (λ (l : List (List RawMessage)). joined l) (none new (omega (arith, is))), refl)
come-new s new false is none = tt

own-taken : (which id : ℕ) (ms : List RawMessage) → which ≡ id → taken_from id (TakeEvent which (Ok (taking.Batch ms))) ≡ ms
own-taken which id ms same = let e : (which == id) ≡ true = grind (arith, nat_tests) in ap (λ (b : Bool). if b then ms else []) e

-- a question changes nothing of requests
data Asks (s : State) (e : Event) : Type 0 where
  Quiet : ((id : ℕ) → IsThere s id → IsThere (after s e) id) → (after s e).copying ≡ s.copying → (after s e).takes ≡ s.takes → (after s e).failed ≡ s.failed → IsNotGone e → Asks s e

asks : (s : State) (e : Event) → IsAsking e → Asks s e
asks s (NextStatement (Ok n)) h = Quiet (λ id there. record { booked = there.booked; kept_up = there.kept_up }) refl refl refl tt
asks s (NextStatement (Err f)) h = Quiet (λ id there. there) refl refl refl tt
asks s (NextPortal (Ok n)) h = Quiet (λ id there. record { booked = there.booked; kept_up = there.kept_up }) refl refl refl tt
asks s (NextPortal (Err f)) h = Quiet (λ id there. there) refl refl refl tt
asks s (CatalogEvent call) h = Quiet (λ id there. record { booked = there.booked; kept_up = there.kept_up }) refl refl refl tt
asks s e h = absurd h

call-kept : {T : Type 0} (s : State) (q : DeskCall) (refused : Error → Dialogue T) (next : Reply → Dialogue T) (id : ℕ) (e : Event) (r : Result Reply DeskFault) (d' : Dialogue T) (id' : ℕ) → Told q e r → Fits s (code.Call q refused next) id → s.failed ≡ false → Asks s e →
    d' ≡ after_reply r refused next → id' ≡ id → Kept s e d' id'
call-kept s q refused next id e (Ok r) d' id' told (stage, sane, keeps, come) whole (Quiet there flags takes failed not) is same =
    let fit = told-fits q e r told in
    kept-as s e (next r) d' id id' is same
    (fits-so (after s e) stage (next r) id ((asked-sane stage q refused next sane).1 r fit) (kept-move s (after s e) id (takes_parts stage) (code.Call q refused next) (next r) (there id) (λ h. ap (is_copying id) flags) (λ h. h.1 r fit) keeps) (come-as s (after s e) id stage takes come)) (failed ∙ whole) not
call-kept s q refused next id e (Err f) d' id' told (stage, sane, keeps, come) whole (Quiet there flags takes failed not) is same =
    kept-as s e (refused (of_fault f)) d' id id' is same
    (fits-so (after s e) stage (refused (of_fault f)) id ((asked-sane stage q refused next sane).0 (of_fault f)) (kept-move s (after s e) id (takes_parts stage) (code.Call q refused next) (refused (of_fault f)) (there id) (λ h. ap (is_copying id) flags) (λ h. h.0 (of_fault f)) keeps) (come-as s (after s e) id stage takes come)) (failed ∙ whole) not

kept : {T : Type 0} (s : State) (stamp : Stamp) (d : Dialogue T) (id : ℕ) (e : Event) (d' : Dialogue T) (id' : ℕ) → Fits s d id → NoneHungAhead s → NoneAhead s → AreFlagged s → s.failed ≡ false → Allows s e → Steps stamp d id e d' id' → Kept s e d' id'
kept s stamp (code.Answer r) id e d' id' fits hung ahead flags whole a st = absurd st
kept s stamp (code.Ask c p d) id (Book given part copying (Ok new)) d' id' fits hung ahead flags whole a st =
    kept-as s (Book given part copying (Ok new)) d d' new id' st.3 st.4 (fits-so _ (stage_of c) d new fits (kept-new s given part copying (takes_parts (stage_of c)) new d (st.2 ∙ begins-so c) a.1 hung flags) (come-new s new c a.1 ahead)) whole tt
kept s stamp (code.Ask c p d) id (Book given part copying (Err f)) d' id' fits hung ahead flags whole a st = kept-as s (Book given part copying (Err f)) (Answer _) d' id id' st.3 st.4 tt whole tt
kept s stamp (code.Ask c p d) id e d' id' fits hung ahead flags whole a st = absurd st
kept s stamp (code.Send p refused d) id (Book given part copying (Ok new)) d' id' (stage, sane, keeps, come) hung ahead flags whole a st =
    kept-as s (Book given part copying (Ok new)) (code.Leave new d) d' id id' st.3 st.4 (
      stage,
      (sent-sane stage p refused d sane).1,
      kept-beside s (after s (Book given part copying (Ok new))) id new (takes_parts stage) (code.Send p refused d) d (there-booked s given part copying new id) (λ h. copying-more id s.copying copying (subst (λ (n : ℕ). id < n) (sym flags) h.booked)) (λ h. h.1)
          (λ there same. (let is : new ≡ id = same in let number : new ≡ length s.book = a.1 in let lt = there.booked in omega (arith, is, number, lt))) keeps,
      come,
    ) whole tt
kept s stamp (code.Send p refused d) id (Book given part copying (Err f)) d' id' (stage, sane, keeps, come) hung ahead flags whole a st =
    kept-as s (Book given part copying (Err f)) (refused (of_fault f)) d' id id' st.3 st.4
    (fits-so _ stage (refused (of_fault f)) id ((sent-sane stage p refused d sane).0 (of_fault f)) (kept-move s s id (takes_parts stage) (code.Send p refused d) (refused (of_fault f)) (λ h. h) (λ h. refl) (λ h. h.0 (of_fault f)) keeps) come) whole tt
kept s stamp (code.Send p refused d) id e d' id' fits hung ahead flags whole a st = absurd st
kept s stamp (code.Leave sent d) id (HangUp which (Ok x)) d' id' (stage, sane, keeps, come) hung ahead flags whole a st =
    kept-as s (HangUp which (Ok x)) d d' id id' st.1 st.2
    (fits-so _ stage d id sane (kept-left s (after s (HangUp which (Ok x))) id sent (takes_parts stage) d (λ apart there. there-hung s which id (λ same. apart (sym st.0 ∙ same)) there) refl keeps) come) whole tt
kept s stamp (code.Leave sent d) id (HangUp which (Err f)) d' id' fits hung ahead flags whole a st = kept-as s (HangUp which (Err f)) (Answer _) d' id id' st.1 st.2 tt whole tt
kept s stamp (code.Leave sent d) id e d' id' fits hung ahead flags whole a st = absurd st
kept s stamp (code.Read cleanup decides next) id (TakeEvent which (Ok (taking.Batch ms))) d' id' (stage, sane, keeps, come) hung ahead flags whole a st =
    let fed = sane-fed ms stage (code.Read cleanup decides next) sane in
    kept-as s (TakeEvent which (Ok (taking.Batch ms))) (feed ms (code.Read cleanup decides next)) d' id id' st.1 st.2
    (fits-so _ fed.0 (feed ms (code.Read cleanup decides next)) id fed.2
    (subst (λ (b : Bool). IsKept (after s (TakeEvent which (Ok (taking.Batch ms)))) id b (feed ms (code.Read cleanup decides next))) (sym fed.1)
    (kept-move s (after s (TakeEvent which (Ok (taking.Batch ms)))) id (takes_parts stage) (code.Read cleanup decides next) (feed ms (code.Read cleanup decides next)) (λ there. record { booked = there.booked; kept_up = there.kept_up }) (λ h. refl) (λ h. absurd h) keeps))
    (subst (λ (x : List RawMessage). HasCome x fed.0)
    (sym (takes-one s (TakeEvent which (Ok (taking.Batch ms))) id ∙ ap (λ (x : List RawMessage). got_of s id ++ x) (own-taken which id ms st.0))) (fed.3 (got_of s id) come))) whole tt
kept s stamp (code.Read cleanup decides next) id (TakeEvent which (Ok taking.Empty)) d' id' fits hung ahead flags whole a st = kept-as s (TakeEvent which (Ok taking.Empty)) (code.Read cleanup decides next) d' id id' st.1 st.2 fits whole tt
kept s stamp (code.Read cleanup decides next) id (TakeEvent which (Ok taking.Over)) d' id' fits hung ahead flags whole a st = kept-as s (TakeEvent which (Ok taking.Over)) (Answer _) d' id id' st.1 st.2 tt whole tt
kept s stamp (code.Read cleanup decides next) id (TakeEvent which (Ok taking.Gone)) d' id' (stage, sane, keeps, come) hung ahead flags whole a st =
    absurd (never-gone s id (a ∙ ap (take_answer s) st.0) (kept-there s id (takes_parts stage) (code.Read cleanup decides next) (λ h. h) keeps) whole)
kept s stamp (code.Read cleanup decides next) id (TakeEvent which (Err f)) d' id' fits hung ahead flags whole a st = kept-as s (TakeEvent which (Err f)) (Answer _) d' id id' st.1 st.2 tt whole tt
kept s stamp (code.Read cleanup decides next) id e d' id' fits hung ahead flags whole a st = absurd st
kept s stamp (code.Put cleanup p d) id (PutEvent which part putting.Took) d' id' (first, sane, keeps, come) hung ahead flags whole a st =
    kept-as s (PutEvent which part putting.Took) d d' id id' st.2 st.3
    (fits-so _ Open d id sane (there-extended s (after s (PutEvent which part putting.Took)) which id part refl refl keeps.0, keeps.1) come) whole tt
kept s stamp (code.Put cleanup p d) id (PutEvent which part (putting.Full back)) d' id' fits hung ahead flags whole a st = kept-as s (PutEvent which part (putting.Full back)) (code.Put cleanup p d) d' id id' st.2 st.3 fits whole tt
kept s stamp (code.Put cleanup p d) id (PutEvent which part (putting.Gone back)) d' id' (first, sane, keeps, come) hung ahead flags whole a st = absurd (runs s id which st.0 whole keeps.0 keeps.1 a.1)
kept s stamp (code.Put cleanup p d) id (PutEvent which part (putting.OutOfMemory back)) d' id' fits hung ahead flags whole a st = kept-as s (PutEvent which part (putting.OutOfMemory back)) (Answer _) d' id id' st.2 st.3 tt whole tt
kept s stamp (code.Put cleanup p d) id e d' id' fits hung ahead flags whole a st = absurd st
kept s stamp (code.Finish p d) id (EndCopy which part putting.Took) d' id' (sane, keeps) hung ahead flags whole a st =
    kept-as s (EndCopy which part putting.Took) d d' id id' st.2 st.3
    (fits-so _ Free d id sane (inr (there-extended s (after s (EndCopy which part putting.Took)) which id part refl refl keeps.0, ended-there which id s.copying st.0)) tt) whole tt
kept s stamp (code.Finish p d) id (EndCopy which part (putting.Gone back)) d' id' (sane, keeps) hung ahead flags whole a st = absurd (runs s id which st.0 whole keeps.0 keeps.1 a.1)
kept s stamp (code.Finish p d) id (EndCopy which part (putting.OutOfMemory back)) d' id' fits hung ahead flags whole a st = kept-as s (EndCopy which part (putting.OutOfMemory back)) (Answer _) d' id id' st.2 st.3 tt whole tt
kept s stamp (code.Finish p d) id e d' id' fits hung ahead flags whole a st = absurd st
kept s stamp (code.Close p d) id (EndCopy which part putting.Took) d' id' (sane, keeps) hung ahead flags whole a st =
    kept-as s (EndCopy which part putting.Took) d d' id id' st.2 st.3
    (fits-so _ Free d id sane (inr (there-extended s (after s (EndCopy which part putting.Took)) which id part refl refl keeps.0, ended-there which id s.copying st.0)) tt) whole tt
kept s stamp (code.Close p d) id (EndCopy which part (putting.Gone back)) d' id' (sane, keeps) hung ahead flags whole a st = absurd (runs s id which st.0 whole keeps.0 keeps.1 a.1)
kept s stamp (code.Close p d) id (EndCopy which part (putting.OutOfMemory back)) d' id' fits hung ahead flags whole a st = kept-as s (EndCopy which part (putting.OutOfMemory back)) (Answer _) d' id id' st.2 st.3 tt whole tt
kept s stamp (code.Close p d) id e d' id' fits hung ahead flags whole a st = absurd st
kept s stamp (code.HangUp d) id (HangUp which (Ok x)) d' id' (none, sane) hung ahead flags whole a st = kept-as s (HangUp which (Ok x)) d d' id id' st.1 st.2 (fits-none _ d id sane none) whole tt
kept s stamp (code.HangUp d) id (HangUp which (Err f)) d' id' fits hung ahead flags whole a st = kept-as s (HangUp which (Err f)) (Answer _) d' id id' st.1 st.2 tt whole tt
kept s stamp (code.HangUp d) id e d' id' fits hung ahead flags whole a st = absurd st
kept s stamp (code.Call q refused next) id e d' id' fits hung ahead flags whole a (r, told, is, same) = call-kept s q refused next id e r d' id' told fits whole (asks s e (told-asks q e r told)) is same
kept s stamp (code.Hear next) id e d' id' fits hung ahead flags whole a st = absurd st

-- ---- a walk

pub record Stays {T : Type 0} (s : State) (ds : List Deed) (q : Dialogue T) (end : ℕ) : Type 0 where
  pub none_gone : NoneGone ds
  pub fits : Fits (after_all s (events_of ds)) q end
  pub hung : NoneHungAhead (after_all s (events_of ds))

stays : {T : Type 0} (s : State) (d : Dialogue T) (id : ℕ) (ds : List Deed) (q : Dialogue T) (end : ℕ) → Fits s d id → NoneHungAhead s → NoneAhead s → AreFlagged s → s.failed ≡ false → IsLegal s (events_of ds) → Leads d id ds q end → Stays s ds q end
stays {T} s d id [] q end fits hung ahead flags whole legal l = record {
  none_gone = tt;
  fits = subst (λ (x : Dialogue T). Fits s x end) (sym l.0) (subst (λ (k : ℕ). Fits s d k) (sym l.1) fits);
  hung = hung;
}
stays s d id (a ∷ ds) q end fits hung ahead flags whole legal (mid, n, st, l) =
    let k = kept s a.stamp d id a.event mid n fits hung ahead flags whole legal.0 st in
    let h = stays (after s a.event) mid n ds q end k.fits (hung-one s a.event hung) (ahead-one s a.event legal.0 ahead) (flagged-one s a.event flags) k.failed legal.1 l in
    record { none_gone = (k.not_gone, h.none_gone); fits = h.fits; hung = h.hung }

pub none-gone : {T : Type 0} (s : State) (d : Dialogue T) (id : ℕ) (ds : List Deed) (q : Dialogue T) (end : ℕ) → IsReached s → Fits s d id → s.failed ≡ false → IsLegal s (events_of ds) → Leads d id ds q end → Stays s ds q end
none-gone s d id ds q end reached fits whole legal l = stays s d id ds q end fits (none-hung s reached) (none-ahead s reached) (flagged s reached) whole legal l

-- ---- turns of others

there-one : (s : State) (k : ℕ) (e : Event) → IsNoHangUp k e → IsThere s k → IsThere (after s e) k
there-one s k (Book given part copying (Ok id)) none h = there-booked s given part copying id k h
there-one s k (PutEvent id part putting.Took) none h = record { booked = subst (λ (n : ℕ). k < n) (sym (extended-length id part s.book)) h.booked; kept_up = h.kept_up }
there-one s k (EndCopy id part putting.Took) none h = record { booked = subst (λ (n : ℕ). k < n) (sym (extended-length id part s.book)) h.booked; kept_up = h.kept_up }
there-one s k (TakeEvent id (Ok (taking.Batch ms))) none h = record { booked = h.booked; kept_up = h.kept_up }
there-one s k (HangUp id (Ok x)) none h = there-hung s id k none h
there-one s k (NextStatement (Ok n)) none h = record { booked = h.booked; kept_up = h.kept_up }
there-one s k (NextPortal (Ok n)) none h = record { booked = h.booked; kept_up = h.kept_up }
there-one s k (CatalogEvent call) none h = record { booked = h.booked; kept_up = h.kept_up }
there-one s k (NextOut (Ok (out.Part part))) none h = record { booked = h.booked; kept_up = h.kept_up }
there-one s k (DeliverEvent batch complete delivering.Taken) none h = record { booked = h.booked; kept_up = h.kept_up }
there-one s k (CloseRequests (Ok x)) none h = record { booked = h.booked; kept_up = h.kept_up }
there-one s k (Fail (Ok x)) none h = record { booked = h.booked; kept_up = h.kept_up }
there-one s k e none h = h

pub there-on : (s : State) (k : ℕ) (L : List Deed) → HangsUpNone k L → IsThere s k → IsThere (after_all s (events_of L)) k
there-on s k [] none h = h
there-on s k (a ∷ L) none h = there-on (after s a.event) k L none.1 (there-one s k a.event none.0 h)

copying-one : (s : State) (k : ℕ) (e : Event) → AreFlagged s → k < length s.book → IsNoHangUp k e → is_copying k (after s e).copying ≡ is_copying k s.copying
copying-one s k (Book given part copying (Ok id)) flags lt none = copying-more k s.copying copying (subst (λ (n : ℕ). k < n) (sym flags) lt)
copying-one s k (PutEvent id part putting.Took) flags lt none = refl
copying-one s k (EndCopy id part putting.Took) flags lt none = copying-other k id s.copying none
copying-one s k (TakeEvent id (Ok (taking.Batch ms))) flags lt none = refl
copying-one s k (HangUp id (Ok x)) flags lt none = refl
copying-one s k (NextStatement (Ok n)) flags lt none = refl
copying-one s k (NextPortal (Ok n)) flags lt none = refl
copying-one s k (CatalogEvent call) flags lt none = refl
copying-one s k (NextOut (Ok (out.Part part))) flags lt none = refl
copying-one s k (DeliverEvent batch complete delivering.Taken) flags lt none = refl
copying-one s k (CloseRequests (Ok x)) flags lt none = refl
copying-one s k (Fail (Ok x)) flags lt none = refl
copying-one s k e flags lt none = refl

copying-on : (s : State) (k : ℕ) (L : List Deed) → AreFlagged s → HangsUpNone k L → IsThere s k → is_copying k (after_all s (events_of L)).copying ≡ is_copying k s.copying
copying-on s k [] flags none h = refl
copying-on s k (a ∷ L) flags none h = copying-on (after s a.event) k L (flagged-one s a.event flags) none.1 (there-one s k a.event none.0 h) ∙ copying-one s k a.event flags h.booked none.0

kept-on : {T : Type 0} (s : State) (id : ℕ) (L : List Deed) (opened : Bool) (x : Dialogue T) → AreFlagged s → HangsUpNone id L → IsKept s id opened x → IsKept (after_all s (events_of L)) id opened x
kept-on s id L opened x flags none h = kept-move s (after_all s (events_of L)) id opened x x (there-on s id L none) (copying-on s id L flags none) (λ h. h) h

kept-beside-on : {T : Type 0} (s : State) (id sent : ℕ) (L : List Deed) (opened : Bool) (x : Dialogue T) → AreFlagged s → HangsUpNone id L → IsKeptBeside s id sent opened x → IsKeptBeside (after_all s (events_of L)) id sent opened x
kept-beside-on s id sent L true x flags none (h, c, apart) = (there-on s id L none h, copying-on s id L flags none h ∙ c, apart)
kept-beside-on s id sent L false x flags none (inl h) = inl h
kept-beside-on s id sent L false x flags none (inr (h, c, apart)) = inr (there-on s id L none h, copying-on s id L flags none h ∙ c, apart)

-- others took nothing of it
got-on : (s : State) (k : ℕ) (L : List Deed) → SparesAll k L → got_of (after_all s (events_of L)) k ≡ got_of s k
got-on s k [] h = refl
got-on s k (a ∷ L) h =
    let own : (k == k) ≡ true = grind (arith, nat_tests) in
    got-on (after s a.event) k L h.1 ∙ takes-one s a.event k ∙ ap (λ (x : List RawMessage). got_of s k ++ x) (spared-one a.event (λ j. j == k) k h.0 own) ∙ append-nil (got_of s k)

come-spared : (s : State) (id : ℕ) (L : List Deed) (stage : Stage) → SparesAll id L → HasCome (got_of s id) stage → HasCome (got_of (after_all s (events_of L)) id) stage
come-spared s id L stage spares come = subst (λ (x : List RawMessage). HasCome x stage) (sym (got-on s id L spares)) come

fits-flagged : {T : Type 0} (s : State) (d : Dialogue T) (id : ℕ) (L : List Deed) → AreFlagged s → SparesAll id L → HangsUpNone id L → Fits s d id → Fits (after_all s (events_of L)) d id
fits-flagged s (code.Leave sent d) id L flags spares none (stage, sane, h, come) = (stage, sane, kept-beside-on s id sent L (takes_parts stage) d flags none h, come-spared s id L stage spares come)
fits-flagged s (code.Answer r) id L flags spares none h = tt
fits-flagged s (code.Ask c p d) id L flags spares none h = h
fits-flagged s (code.Send p refused d) id L flags spares none (stage, sane, h, come) = (stage, sane, kept-on s id L (takes_parts stage) (code.Send p refused d) flags none h, come-spared s id L stage spares come)
fits-flagged s (code.Read cleanup decides next) id L flags spares none (stage, sane, h, come) = (stage, sane, kept-on s id L (takes_parts stage) (code.Read cleanup decides next) flags none h, come-spared s id L stage spares come)
fits-flagged s (code.Put cleanup p d) id L flags spares none (first, sane, h, come) = (first, sane, kept-on s id L true d flags none h, come-spared s id L Open spares come)
fits-flagged s (code.Finish p d) id L flags spares none (sane, h) = (sane, kept-on s id L true d flags none h)
fits-flagged s (code.Close p d) id L flags spares none (sane, h) = (sane, kept-on s id L true d flags none h)
fits-flagged s (code.HangUp d) id L flags spares none h = h
fits-flagged s (code.Call q refused next) id L flags spares none (stage, sane, h, come) = (stage, sane, kept-on s id L (takes_parts stage) (code.Call q refused next) flags none h, come-spared s id L stage spares come)
fits-flagged s (code.Hear next) id L flags spares none h = tt

pub fits-on : {T : Type 0} (s : State) (d : Dialogue T) (id : ℕ) (L : List Deed) → IsReached s → SparesAll id L → HangsUpNone id L → Fits s d id → Fits (after_all s (events_of L)) d id
fits-on s d id L reached spares none h = fits-flagged s d id L (flagged s reached) spares none h
