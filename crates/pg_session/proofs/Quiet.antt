-- A whole round of turns in which nothing moved: each handle's, and then the connection's.
pub mod Handles
pub mod Held
pub mod Polls
use Rattle.std.proofs.Common.{◌≡◌, ℕ, zero, suc, ◌+◌, ◌<◌, ◌≤◌, List, [], ◌∷◌, ◌++◌, length, true, false, Option, Some, Result, refl, sym, ap, ◌∙◌, subst, arith, inl, inr, ◌⊎◌, slice_get}
use Rattle.std.proofs.lemmas.Bool.{cases_lt}
use Rattle.std.proofs.lemmas.Option.{slice_get_within}
use Rattle.futures.specs.declared.task.Poll.{Poll}
use Rattle.futures.specs.declared.task.Poll.TheVariants.{Ready, Pending}
use Rattle.pg_spec.specs.Links.{LinkView}
use Rattle.pg_connect.specs.Answers.{PollAnswers, Turned}
use Rattle.pg_connect.specs.Calm.{MissesFew}
use Rattle.pg_connect.specs.Ends.{some_is}
use Rattle.pg_connect.specs.Reads.{is_full}
use Rattle.pg_connect.specs.declared.ends.TurnEnd.TheVariants as turn_end
use Rattle.pg_connect.specs.declared.streams.Streams.{Streams}
use Rattle.pg_desk.specs.History.{State}
use Rattle.pg_errors.specs.declared.async_message.AsyncMessage.{AsyncMessage}
use Rattle.pg_types.specs.declared.error.Error.{Error}
use Rattle.pg_hub.specs.Fits.{Fits, HubBecomes}
use Rattle.pg_hub.specs.Standing.{Standing}
use Rattle.pg_session.proofs.Quiet.Handles.{IsQuiet, StillTurns, still-turns, stays-makes, LastStays, last-stays}
use Rattle.pg_session.proofs.Quiet.Held.{all-reads, none-held}
use Rattle.pg_session.proofs.Quiet.Polls.{AllQuiet, IsAwaited, NoneHeld, awaited-or-done, fits-behind, not-full}
use Rattle.pg_session.proofs.Nearer.{new-under-way}
use Rattle.pg_session.specs.Measure.{PutNone}
use Rattle.pg_session.proofs.Readers.{AllRead, read-new, read-turns}
use Rattle.pg_session.proofs.Readers.Counted.{Counted, counted-new, counted-turns}
use Rattle.pg_session.proofs.Readers.HubStates.{Reached, state_of}
use Rattle.pg_session.specs.Sessions.{IsNewSession, MakesAll, StaysAll, numbers}
use Rattle.pg_session.specs.Handles.{HandleState}
use Rattle.pg_session.specs.States.{SessionState}
use Rattle.pg_session.specs.Turns.{Makes, moved_in, moved_in_poll}
use Rattle.pg_session.specs.Speeches.{LetGo, Speech}

-- the poll of a connection's turn in which nothing moved
record StillPoll (a b : Standing) (old new : Streams) (l m : LinkView) : Type 0 where
  polled : Turned HubBecomes a b old new l m turn_end.Waits false
  unmoved : new.moved ≡ false

still-poll : (a b : Standing) (old new : Streams) (l m : LinkView) (answer : Poll (Option (Result AsyncMessage Error))) → PollAnswers HubBecomes a b old new l m answer →
    moved_in_poll answer new ≡ false → StillPoll a b old new l m
still-poll a b old new l m Pending p none = record { polled = p; unmoved = none }
still-poll a b old new l m (Ready answer) p none = absurd cc

one-more-turn : (n : ℕ) → numbers (n + 1) ≡ numbers n ++ n ∷ []
one-more-turn n = let e : n + 1 ≡ suc n = omega arith in ap numbers e

module _ {C T A E : Type 0} (speech : Speech C T A E) where
  -- What stands behind such a round.
  pub record QuietRound (scripts : List (List C)) (s : SessionState T A E) (l : LinkView) (t : SessionState T A E) (m : LinkView) : Type 0 where
    -- the hub stands for one state, before the round, before the connection's poll, and behind it
    pub reached : Reached t.hub
    pub started : Fits (state_of reached) s.hub
    pub hub : Standing
    pub before : Fits (state_of reached) hub
    -- the poll
    pub polled : Turned HubBecomes hub t.hub s.streams t.streams l m turn_end.Waits false
    pub unmoved : t.streams.moved ≡ false
    pub misses : MissesFew l m
    pub not_full : some_is is_full polled.turns.goes.events ≡ false
    -- the handles
    pub quiet : AllQuiet speech scripts t.handles (state_of reached)
    pub awaits : IsAwaited speech t.handles (state_of reached) ⊎ ((t.unanswered ≡ 0) × (t.hub.closed ≡ true))
    pub counted : Counted speech scripts t

  -- all handles are quiet behind their turns
  all-quiet : (scripts : List (List C)) (s mid : SessionState T A E) (l passed : LinkView) (st : State) → length s.handles ≡ length scripts →
      StillTurns speech scripts (length scripts) s mid l passed st → AllQuiet speech scripts mid.handles st
  all-quiet scripts s mid l passed st many h i g at = by (cases_lt i (length scripts))
    where
      there : (xs : List (List C)) (i : ℕ) → i < length xs → (script : List C) × (slice_get xs i ≡ Some script)
      there [] i lt = absurd (omega (arith, lt))
      there (x ∷ xs) zero lt = (x, refl)
      there (x ∷ xs) (suc i) lt = there xs i (omega (arith, lt))

      by : (i < length scripts) ⊎ (length scripts ≤ i) → (script : List C) × (slice_get scripts i ≡ Some script) × IsQuiet speech script st g
      by (inl lt) = let r = there scripts i lt in (r.0, r.1, h.quiet i r.0 g lt r.1 at)
      by (inr ge) = absurd (let lt = slice_get_within s.handles i g (sym (h.later i ge) ∙ at) in omega (arith, lt, ge, many))

  round-by : (scripts : List (List C)) (s : SessionState T A E) (l : LinkView) (t : SessionState T A E) (m : LinkView) (h : AllRead s) → Counted speech scripts s →
      AllRead t → Counted speech scripts t → (last : LastStays speech scripts (numbers (length scripts)) (length scripts) s l t m) → NoneHeld speech last.mid.handles → QuietRound scripts s l t m
  round-by scripts s l t m h counted read-t counted-t last held = by last.now.0 last.now.1
    where
      st : State
      st = state_of h.reached

      before : StillTurns speech scripts (length scripts) s last.mid l last.passed st
      before = still-turns speech scripts (length scripts) s l last.mid last.passed (omega arith) h counted.within last.before

      quiet-mid : AllQuiet speech scripts last.mid.handles st
      quiet-mid = all-quiet scripts s last.mid l last.passed st counted.many before

      by : (made : Makes speech scripts (length scripts) last.mid t last.passed m false) → moved_in speech scripts (length scripts) last.mid t last.passed m false made ≡ false →
          QuietRound scripts s l t m
      by (inl handle) none = absurd (omega (arith, handle.own))
      by (inr connection) none =
          let made = connection.made in
          let poll = still-poll last.mid.hub t.hub last.mid.streams t.streams last.passed m made.answer made.polled none in
          let polled = subst (λ (x : Streams). Turned HubBecomes last.mid.hub t.hub x t.streams l m turn_end.Waits false) before.streams
          (subst (λ (x : LinkView). Turned HubBecomes last.mid.hub t.hub last.mid.streams t.streams x m turn_end.Waits false) before.link poll.polled) in
          let quiet-t : AllQuiet speech scripts t.handles st = subst (λ (hs : List (HandleState T A E)). AllQuiet speech scripts hs st) (sym made.handles) quiet-mid in
          record {
            reached = record {
              events = h.reached.events;
              exact = h.reached.exact;
              fits = fits-behind st last.mid.hub t.hub s.streams t.streams l m turn_end.Waits false before.fits polled poll.unmoved;
            };
            started = h.reached.fits;
            hub = last.mid.hub;
            before = before.fits;
            polled = polled;
            unmoved = poll.unmoved;
            misses = subst (λ (x : LinkView). MissesFew x m) before.link made.misses;
            not_full = not-full speech scripts last.mid.handles st last.mid.hub t.hub s.streams t.streams l m turn_end.Waits false before.fits before.are quiet-mid held polled poll.unmoved;
            quiet = quiet-t;
            awaits = elim (awaited-or-done speech scripts t.handles st quiet-t (subst (λ (hs : List (HandleState T A E)). NoneHeld speech hs) (sym made.handles) held)) [
              | inl awaited ↦ inl awaited
              | inr none-left ↦ let none-t = counted-t.unanswered ∙ none-left in inr (none-t, read-t.closes none-t)
            ];
            counted = counted-t;
          }

  pub quiet-round : LetGo speech → PutNone speech → (scripts : List (List C)) (turns : List ℕ) (new : SessionState T A E) (first : LinkView) (s : SessionState T A E) (l : LinkView) (t : SessionState T A E) (m : LinkView) →
      IsNewSession speech scripts new → MakesAll speech scripts turns new first s l → StaysAll speech scripts (numbers (length scripts + 1)) s l t m → QuietRound scripts s l t m
  quiet-round lets none scripts turns new first s l t m is_new made stays =
      let round = numbers (length scripts + 1) in
      let later = stays-makes speech scripts round s l t m stays in
      let counted = counted-turns speech scripts turns new first s l made (counted-new speech scripts new is_new) in
      let read = read-turns speech lets scripts turns new first s l made (read-new speech scripts new is_new) in
      let last = last-stays speech scripts (numbers (length scripts)) (length scripts) s l t m (subst (λ (ts : List ℕ). StaysAll speech scripts ts s l t m) (one-more-turn (length scripts)) stays) in
      let before = stays-makes speech scripts (numbers (length scripts)) s l last.mid last.passed last.before in
      let reads = all-reads speech none scripts turns new first s l made (new-under-way speech scripts new is_new).handles in
      let held = none-held last.mid.handles (all-reads speech none scripts (numbers (length scripts)) s l last.mid last.passed before reads) in
      round-by scripts s l t m read counted (read-turns speech lets scripts round s l t m later read) (counted-turns speech scripts round s l t m later counted) last held
