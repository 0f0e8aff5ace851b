-- Turns of handles in which nothing moved.
use Rattle.std.proofs.Common.{◌≡◌, ℕ, zero, suc, ◌<◌, ◌≤◌, List, [], ◌∷◌, ◌++◌, length, set, Bool, true, false, ◌||◌, Some, None, Ok, refl, sym, ap, ◌∙◌, subst, arith, inl, inr, ◌⊎◌, slice_get}
use Rattle.std.proofs.lemmas.Bool.{cases_eq, cases_lt}
use Rattle.pg_spec.specs.Links.{LinkView}
use Rattle.pg_spec.specs.declared.stamps.Stamp.{Stamp}
use Rattle.pg_desk.proofs.Soundness.{AllCut}
use Rattle.pg_desk.specs.declared.event.Event.{Event}
use Rattle.pg_desk.specs.declared.event.Event.TheVariants as call
use Rattle.pg_desk.specs.declared.event.Put.TheVariants as putting
use Rattle.pg_desk.specs.declared.event.Take.TheVariants as taking
use Rattle.pg_desk.specs.History.{State, after_all, parts_waiting, take_answer, IsExact}
use Rattle.pg_hub.specs.Becomes.{after-joined, fits-touched}
use Rattle.pg_hub.specs.Fits.{Fits, HubBecomes, moves}
use Rattle.pg_hub.specs.Standing.{Standing}
use Rattle.pg_core.proofs.Waiting.{may-wait}
use Rattle.pg_query.specs.Meaning.{ForMessage, ForRoom, Place, WaitsAt}
use Rattle.pg_query.specs.Scripts.{IsPut}
use Rattle.pg_session.proofs.Readers.{AllRead}
use Rattle.pg_session.proofs.Readers.LetGo.{stays-let-go}
use Rattle.pg_session.proofs.Readers.Polls.{AreRead, RunsOn, Mine, Tends, read-then, tends-waits, runs-before}
use Rattle.pg_session.proofs.Readers.HubStates.{state_of, exact-back, reached-cut}
use Rattle.pg_session.proofs.Readers.Walks.{walk-lets, walk-still}
use Rattle.pg_session.proofs.Lists.{set-here, set-there}
use Rattle.pg_session.proofs.Order.{rests_none}
use Rattle.pg_session.specs.declared.handle_turn.Polling.{Polling}
use Rattle.pg_session.specs.declared.handle_turn.Polling.TheVariants as polling
use Rattle.pg_session.specs.Handles.{HandleState}
use Rattle.pg_session.specs.HandleTurns.{Idles, Waits}
use Rattle.pg_session.specs.Sessions.{MakesAll, Rests, StaysAll, numbers}
use Rattle.pg_session.specs.Speeches.{Speech}
use Rattle.pg_session.specs.States.{SessionState}
use Rattle.pg_session.specs.Turns.{untouched, HandleMade, Makes, Turns, moved_by, moved_in}

none-past : {X : Type 0} (xs : List X) (i : ℕ) → slice_get xs i ≡ None → length xs ≤ i
none-past [] i h = omega arith
none-past (x ∷ xs) zero h = absurd cc
none-past (x ∷ xs) (suc i) h = omega (arith, none-past xs i h)

or-none : (b : Bool) → (b || false) ≡ b
or-none true = refl
or-none false = refl

-- where the last of the events gave nothing, the state is that before it
last-empty : (st : State) (n : ℕ) (es before : List Event) → IsExact st es → after_all st es ≡ st → es ≡ before ++ call.Take n (Ok taking.Empty) ∷ [] →
    taking.Empty ≡ take_answer st n
last-empty st n es before exact same is =
    let last = call.Take n (Ok taking.Empty) ∷ [] in
    let told : taking.Empty ≡ take_answer (after_all st before) n = (exact-back st before last (subst (λ (l : List Event). IsExact st l) is exact)).0 in
    let mid : after_all st before ≡ st = sym (after-joined st before last) ∙ ap (after_all st) (sym is) ∙ same in
    told ∙ ap (λ (x : State). take_answer x n) mid

-- and where it told that there is no room for a part, two of that copy wait
last-full : (st : State) (n : ℕ) (part : List ℕ) (es before : List Event) → IsExact st es → after_all st es ≡ st → es ≡ before ++ call.Put n part (putting.Full part) ∷ [] →
    2 ≤ parts_waiting st n
last-full st n part es before exact same is =
    let last = call.Put n part (putting.Full part) ∷ [] in
    let told : 2 ≤ parts_waiting (after_all st before) n = (exact-back st before last (subst (λ (l : List Event). IsExact st l) is exact)).0.3 in
    let mid : after_all st before ≡ st = sym (after-joined st before last) ∙ ap (after_all st) (sym is) ∙ same in
    subst (λ (x : State). 2 ≤ parts_waiting x n) mid told

set-same : {X : Type 0} (xs : List X) (i : ℕ) (x : X) → slice_get xs i ≡ Some x → set xs i x ≡ xs
set-same [] i x e = absurd cc
set-same {X} (y ∷ xs) zero x e = let same : y ≡ x = cc in ap (λ (z : X). z ∷ xs) (sym same)
set-same {X} (y ∷ xs) (suc i) x e = ap (λ (l : List X). y ∷ l) (set-same xs i x e)

module _ {C T A E : Type 0} (speech : Speech C T A E) where
  -- a handle that answered its whole script, or whose command reads a request of which nothing has come that it hasn't taken, or holds back
  -- a part, where two parts of its copy wait
  pub data IsQuiet (script : List C) (s : State) (h : HandleState T A E) : Type 0 where
    Done : h.running ≡ None → length h.answers ≡ length script → IsQuiet script s h
    Awaits : (place : Place T) → h.running ≡ Some place → taking.Empty ≡ take_answer s place.reads → IsQuiet script s h
    HoldsBack : (place : Place T) → h.running ≡ Some place → IsPut place.dialogue → 2 ≤ parts_waiting s place.reads → IsQuiet script s h

  -- ---- one turn

  -- a turn that left the hub's state as it was
  pub record StillTurn (scripts : List (List C)) (turn : ℕ) (s t : SessionState T A E) (st : State) : Type 0 where
    pub fits : Fits st t.hub
    pub are : AreRead t.handles st
    pub streams : t.streams ≡ s.streams
    pub unanswered : t.unanswered ≡ s.unanswered
    pub others : (j : ℕ) → (j ≡ turn → ⊥) → slice_get t.handles j ≡ slice_get s.handles j
    pub quiet : (script : List C) (h : HandleState T A E) → slice_get scripts turn ≡ Some script → slice_get t.handles turn ≡ Some h → IsQuiet script st h

  -- what stands at the place of a handle behind its turn
  here-is : (scripts : List (List C)) (turn : ℕ) (s t : SessionState T A E) (did : Polling) (made : HandleMade speech scripts turn s t did) (h : HandleState T A E) →
      slice_get t.handles turn ≡ Some h → h ≡ made.new
  here-is scripts turn s t did made h at =
      set-here s.handles turn made.old made.new h made.old_at (ap (λ (hs : List (HandleState T A E)). slice_get hs turn) (sym made.handles) ∙ at)

  others-are : (scripts : List (List C)) (turn : ℕ) (s t : SessionState T A E) (did : Polling) (made : HandleMade speech scripts turn s t did) (j : ℕ) → (j ≡ turn → ⊥) →
      slice_get t.handles j ≡ slice_get s.handles j
  others-are scripts turn s t did made j other =
      ap (λ (hs : List (HandleState T A E)). slice_get hs j) made.handles ∙ set-there s.handles turn j made.new other

  same-script : (scripts : List (List C)) (turn : ℕ) (x y : List C) → slice_get scripts turn ≡ Some x → slice_get scripts turn ≡ Some y → x ≡ y
  same-script scripts turn x y h k = let e : Some x ≡ Some y = sym h ∙ k in cc

  module _ (scripts : List (List C)) (turn : ℕ) (s t : SessionState T A E) (st : State) (f : Fits st s.hub) (cut : AllCut st.deliveries) (are : AreRead s.handles st)
      (fewer : (script : List C) (h : HandleState T A E) → slice_get scripts turn ≡ Some script → slice_get s.handles turn ≡ Some h → length h.answers ≤ length script) where
    still-idle : HandleMade speech scripts turn s t polling.Idle → StillTurn scripts turn s t st
    still-idle made =
        let h : Idles made.script (untouched s.hub) made.old made.hub made.new = made.turns in
        let old = made.old in
        let fa = fits-touched st s.hub false f in
        let same : t.handles ≡ s.handles = made.handles ∙ ap (λ (x : HandleState T A E). set s.handles turn x) h.handle ∙ set-same s.handles turn old made.old_at in
        record {
          fits = subst (λ (x : Standing). Fits st x) (sym (made.closes ∙ h.desk)) fa;
          are = subst (λ (hs : List (HandleState T A E)). AreRead hs st) (sym same) are;
          streams = made.streams;
          unanswered = made.unanswered;
          others = others-are scripts turn s t polling.Idle made;
          quiet = λ script g e at.
              let is : g ≡ old = here-is scripts turn s t polling.Idle made g at ∙ h.handle in
              let mine : made.script ≡ script = same-script scripts turn made.script script made.script_at e in
              let le = fewer made.script old made.script_at made.old_at in
              let ge = none-past made.script (length old.answers) h.none_left in
              subst (λ (x : HandleState T A E). IsQuiet script st x) (sym is)
              (Done h.none_runs (omega (arith, le, ge, ap (λ (x : List C). length x) mine)));
        }

    quiet-at : (script : List C) (h : HandleState T A E) (to : Place T) (es : List Event) → h.running ≡ Some to → IsExact st es → after_all st es ≡ st → WaitsAt to es → IsQuiet script st h
    quiet-at script h to es runs exact same (ForMessage reads none) = Awaits to runs (last-empty st to.reads es none.before exact same none.are)
    quiet-at script h to es runs exact same (ForRoom puts part full) = HoldsBack to runs puts (last-full st to.reads part es full.before exact same full.are)

    still-waits : (made : HandleMade speech scripts turn s t polling.Waits) → made.hub.touched ≡ false → StillTurn scripts turn s t st
    still-waits made quiet =
        let old = made.old in
        let a = untouched s.hub in
        let stamp : Stamp = record { owner = turn; command = length old.answers; turn = length s.trace } in
        let h : Waits HubBecomes speech made.script stamp a old made.hub made.new false = made.turns in
        let goes = h.pauses.goes in
        let es = goes.events in
        let fa = fits-touched st s.hub false f in
        let runs : RunsOn (are.holds turn) h.from = are.running turn old h.from made.old_at h.starts in
        let became = goes.became.stands st fa in
        let none : moves st es ≡ false = sym (or-none (moves st es)) ∙ sym (goes.became.touched st fa) ∙ quiet in
        let same : after_all st es ≡ st = walk-still stamp st h.from.dialogue h.from.reads es h.to.dialogue h.to.reads became.0 runs.waits (may-wait h.to es h.pauses.waits) none goes.walked in
        let mine = Mine (are.holds turn) st old in
        let tends : Tends mine (after_all st es) made.new =
        tends-waits mine (after_all st es) made.new h.to (ap (λ (x : HandleState T A E). x.running) h.handle) (may-wait h.to es h.pauses.waits)
        (walk-lets mine stamp st h.from.dialogue h.from.reads es h.to.dialogue h.to.reads cut became.0 (runs-before (are.holds turn) st old h.from h.starts runs) goes.walked) in
        let now : AreRead (set s.handles turn made.new) st =
        subst (λ (x : State). AreRead (set s.handles turn made.new) x) same (read-then s.handles turn st (after_all st es) old made.new made.old_at (stays-let-go st es) are tends) in
        record {
          fits = subst (λ (x : Standing). Fits st x) (sym made.closes) (fits-touched st made.hub false (subst (λ (x : State). Fits x made.hub) same became.1));
          are = subst (λ (hs : List (HandleState T A E)). AreRead hs st) (sym made.handles) now;
          streams = made.streams;
          unanswered = made.unanswered;
          others = others-are scripts turn s t polling.Waits made;
          quiet = λ script g e at.
              let is : g ≡ made.new = here-is scripts turn s t polling.Waits made g at in
              subst (λ (x : HandleState T A E). IsQuiet script st x) (sym is) (quiet-at script made.new h.to es (ap (λ (x : HandleState T A E). x.running) h.handle) became.0 same h.pauses.waits);
        }

    still-turn : (did : Polling) (made : HandleMade speech scripts turn s t did) → moved_by did made.hub ≡ false → StillTurn scripts turn s t st
    still-turn polling.Idle made quiet = still-idle made
    still-turn polling.Began made quiet = absurd cc
    still-turn polling.Waits made quiet = still-waits made quiet
    still-turn polling.Answered made quiet = absurd cc

  -- ---- turns one after another

  -- they are turns
  pub stays-makes : (scripts : List (List C)) (turns : List ℕ) (s : SessionState T A E) (l : LinkView) (t : SessionState T A E) (m : LinkView) → StaysAll speech scripts turns s l t m →
      MakesAll speech scripts turns s l t m
  stays-makes scripts [] s l t m h = (h.0, subst (λ (x : LinkView). Rests l x) (sym h.1) (rests_none l))
  stays-makes scripts (turn ∷ turns) s l t m (mid, passed, now, more) = (l, mid, passed, rests_none l, now.0, stays-makes scripts turns mid passed t m more)

  -- the last of them
  pub record LastStays (scripts : List (List C)) (turns : List ℕ) (turn : ℕ) (s : SessionState T A E) (l : LinkView) (t : SessionState T A E) (m : LinkView) : Type 0 where
    pub mid : SessionState T A E
    pub passed : LinkView
    pub before : StaysAll speech scripts turns s l mid passed
    pub now : Turns speech scripts turn mid t passed m (Some false)

  pub last-stays : (scripts : List (List C)) (turns : List ℕ) (turn : ℕ) (s : SessionState T A E) (l : LinkView) (t : SessionState T A E) (m : LinkView) →
      StaysAll speech scripts (turns ++ turn ∷ []) s l t m → LastStays scripts turns turn s l t m
  last-stays scripts [] turn s l t m (mid, passed, now, more) = record {
    mid = s;
    passed = l;
    before = (refl, refl);
    now = subst (λ (x : SessionState T A E). Turns speech scripts turn s x l m (Some false)) (sym more.0)
        (subst (λ (x : LinkView). Turns speech scripts turn s mid l x (Some false)) (sym more.1) now);
  }
  last-stays scripts (first ∷ turns) turn s l t m (mid, passed, now, more) =
      let last = last-stays scripts turns turn mid passed t m more in
      record { mid = last.mid; passed = last.passed; before = (mid, passed, now, last.before); now = last.now }

  -- the first n handles had a turn each, and nothing moved
  pub record StillTurns (scripts : List (List C)) (n : ℕ) (s t : SessionState T A E) (l m : LinkView) (st : State) : Type 0 where
    pub link : m ≡ l
    pub streams : t.streams ≡ s.streams
    pub unanswered : t.unanswered ≡ s.unanswered
    pub fits : Fits st t.hub
    pub are : AreRead t.handles st
    pub later : (j : ℕ) → n ≤ j → slice_get t.handles j ≡ slice_get s.handles j
    pub quiet : (j : ℕ) (script : List C) (h : HandleState T A E) → j < n → slice_get scripts j ≡ Some script → slice_get t.handles j ≡ Some h → IsQuiet script st h

  still-more : (scripts : List (List C)) (n : ℕ) (s mid t : SessionState T A E) (l passed m : LinkView) (st : State) → m ≡ passed →
      StillTurns scripts n s mid l passed st → StillTurn scripts n mid t st → StillTurns scripts (suc n) s t l m st
  still-more scripts n s mid t l passed m st link h now = record {
    link = link ∙ h.link;
    streams = now.streams ∙ h.streams;
    unanswered = now.unanswered ∙ h.unanswered;
    fits = now.fits;
    are = now.are;
    later = λ j le. now.others j (λ e. omega (arith, le, e)) ∙ h.later j (omega (arith, le));
    quiet = λ j script g lt e at. by j script g lt e at (cases_eq j n);
  }
    where
      by : (j : ℕ) (script : List C) (g : HandleState T A E) → j < suc n → slice_get scripts j ≡ Some script → slice_get t.handles j ≡ Some g →
          (j ≡ n) ⊎ (j ≡ n → ⊥) → IsQuiet script st g
      by j script g lt e at (inl same) = now.quiet script g (ap (slice_get scripts) (sym same) ∙ e) (ap (slice_get t.handles) (sym same) ∙ at)
      by j script g lt e at (inr other) = h.quiet j script g (nat-less j n lt other) e (sym (now.others j other) ∙ at)
        where
          nat-less : (a b : ℕ) → a < suc b → (a ≡ b → ⊥) → a < b
          nat-less a b le apart = elim (cases_lt a b) [ inl less ↦ less | inr ge ↦ absurd (apart (omega (arith, le, ge))) ]

  pub still-turns : (scripts : List (List C)) (n : ℕ) (s : SessionState T A E) (l : LinkView) (t : SessionState T A E) (m : LinkView) → n ≤ length scripts → (h : AllRead s) →
      ((i : ℕ) (script : List C) (g : HandleState T A E) → slice_get scripts i ≡ Some script → slice_get s.handles i ≡ Some g → length g.answers ≤ length script) →
      StaysAll speech scripts (numbers n) s l t m → StillTurns scripts n s t l m (state_of h.reached)
  still-turns scripts zero s l t m le h fewer stays =
      subst (λ (x : SessionState T A E). StillTurns scripts zero s x l m (state_of h.reached)) (sym stays.0)
      (record {
        link = stays.1;
        streams = refl;
        unanswered = refl;
        fits = h.reached.fits;
        are = h.are;
        later = λ j ge. refl;
        quiet = λ j script g lt e at. absurd (omega (arith, lt));
      })
  still-turns scripts (suc n) s l t m le h fewer stays =
      let last = last-stays scripts (numbers n) n s l t m stays in
      by last (still-turns scripts n s l last.mid last.passed (omega (arith, le)) h fewer last.before) last.now.0 last.now.1
    where
      by : (last : LastStays scripts (numbers n) n s l t m) → StillTurns scripts n s last.mid l last.passed (state_of h.reached) →
          (made : Makes speech scripts n last.mid t last.passed m false) → moved_in speech scripts n last.mid t last.passed m false made ≡ false →
          StillTurns scripts (suc n) s t l m (state_of h.reached)
      by last before (inl handle) none =
          let st = state_of h.reached in
          still-more scripts n s last.mid t l last.passed m st handle.link before
          (still-turn scripts n last.mid t st before.fits (reached-cut s.hub h.reached) before.are
          (λ script g e at. fewer n script g e (sym (before.later n (omega arith)) ∙ at)) handle.did handle.made none)
      by last before (inr connection) none = absurd (omega (arith, le, connection.other))
