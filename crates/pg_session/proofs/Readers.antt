-- Between any two turns of a session each request that was booked was let go, or a command that runs reads it.
pub mod HubStates
pub mod LetGo
pub mod Walks
pub mod Polls
pub mod Counted
use Rattle.std.proofs.Common.{◌≡◌, ℕ, zero, suc, ◌-◌, List, [], ◌∷◌, length, set, Bool, true, false, Option, Some, None, Result, Ok, Err, refl, sym, ap, ◌∙◌, subst, arith, inl, inr}
use Rattle.futures.specs.declared.task.Poll.{Poll}
use Rattle.futures.specs.declared.task.Poll.TheVariants.{Ready, Pending}
use Rattle.pg_spec.specs.Links.{LinkView}
use Rattle.pg_spec.specs.declared.stamps.Stamp.{Stamp}
use Rattle.pg_connect.specs.Answers.{PollAnswers}
use Rattle.pg_connect.specs.Passed.{AllEngineCalls}
use Rattle.pg_connect.specs.declared.streams.Streams.{Streams}
use Rattle.pg_desk.specs.declared.event.Event.{Event}
use Rattle.pg_desk.specs.declared.event.Event.TheVariants.{CloseRequests}
use Rattle.pg_desk.specs.History.{State, start, after_all}
use Rattle.pg_errors.specs.declared.async_message.AsyncMessage.{AsyncMessage}
use Rattle.pg_types.specs.declared.error.Error.{Error}
use Rattle.pg_hub.specs.Fits.{HubBecomes}
use Rattle.pg_hub.specs.Standing.{Standing}
use Rattle.pg_query.specs.Leaving.{Nothing}
use Rattle.pg_session.proofs.Readers.Counted.{idle-there}
use Rattle.pg_session.proofs.Readers.LetGo.{stays-let-go}
use Rattle.pg_session.proofs.Readers.Polls.{AreRead, read-on, read-then, poll-tends}
use Rattle.pg_session.proofs.Readers.HubStates.{Reached, state_of, state-more, reached-cut, reached-more, reached-untouched}
use Rattle.pg_session.proofs.Books.{engine-all}
use Rattle.pg_session.specs.declared.handle_turn.Polling.{Polling}
use Rattle.pg_session.specs.declared.handle_turn.Polling.TheVariants as polling
use Rattle.pg_session.specs.Handles.{HandleState}
use Rattle.pg_session.specs.Sessions.{MakesAll, IsNewSession}
use Rattle.pg_session.specs.Speeches.{LetGo as AllLetGo, Speech}
use Rattle.pg_session.specs.States.{SessionState, new_handles, commands_in}
use Rattle.pg_session.specs.Turns.{untouched, Closes, ClosesBehind, left_behind, HandleMade, ConnectionMade, HandsOn, Makes}

-- what was closed stays closed
closed-more : (a b : Standing) (es : List Event) (r : Reached a) → HubBecomes a es b → a.closed ≡ true → b.closed ≡ true
closed-more a b es r h e =
    let f = (h.stands (state_of r) r.fits).1 in
    f.closed ∙ (stays-let-go (state_of r) es).closed (sym r.fits.closed ∙ e)

-- what a poll of the connection called
record Called (a b : Standing) : Type 0 where
  events : List Event
  calls : AllEngineCalls events
  became : HubBecomes a events b

called : (a b : Standing) (old new : Streams) (before after : LinkView) (answer : Poll (Option (Result AsyncMessage Error))) (was now : List AsyncMessage) (over : Bool) →
    PollAnswers HubBecomes a b old new before after answer → HandsOn answer was now over → Called a b
called a b old new before after Pending was now over p hands = record { events = p.turns.goes.events; calls = p.turns.goes.calls; became = p.turns.goes.became }
called a b old new before after (Ready None) was now over p hands = record { events = p.turns.goes.events; calls = p.turns.goes.calls; became = p.turns.goes.became }
called a b old new before after (Ready (Some (Ok message))) was now over p hands =
    record { events = p.turns.goes.events; calls = p.turns.goes.calls; became = p.turns.goes.became }
called a b old new before after (Ready (Some (Err e))) was now over p hands = absurd hands

-- ---- a session

-- the same between two turns, and requests are closed once no command is left
pub record AllRead {T A E : Type 0} (s : SessionState T A E) : Type 0 where
  pub reached : Reached s.hub
  pub are : AreRead s.handles (state_of reached)
  pub closes : s.unanswered ≡ 0 → s.hub.closed ≡ true

-- the hub behind a turn
record Left {T A E : Type 0} (handles : List (HandleState T A E)) (hub : Standing) (unanswered : ℕ) : Type 0 where
  reached : Reached hub
  are : AreRead handles (state_of reached)
  closes : unanswered ≡ 0 → hub.closed ≡ true

more-read : {T A E : Type 0} (handles : List (HandleState T A E)) (a b : Standing) (es : List Event) (r : Reached a) (h : HubBecomes a es b) → AreRead handles (after_all (state_of r) es) →
    AreRead handles (state_of (reached-more a b es r h))
more-read handles a b es r h k = subst (λ (x : State). AreRead handles x) (sym (state-more a b es r h)) k

read-closes : {T A E : Type 0} (handles : List (HandleState T A E)) (n : ℕ) (hub now : Standing) (r : Reached hub) → AreRead handles (state_of r) → Closes n hub now → Left handles now n
read-closes handles zero hub now r h c =
    let s = state_of r in
    let es = CloseRequests (Ok tt) ∷ [] in
    record {
      reached = reached-more hub now es r c;
      are = more-read handles hub now es r c (read-on handles s (after_all s es) refl (stays-let-go s es) h);
      closes = λ e. (c.stands s r.fits).1.closed;
    }
read-closes handles (suc n) hub now r h c =
    subst (λ (x : Standing). Left handles x (suc n)) (sym c) (record { reached = r; are = h; closes = λ e. absurd (omega (arith, e)) })

read-behind : {T A E : Type 0} (handles : List (HandleState T A E)) (did : Polling) (hub now : Standing) (old : ℕ) (r : Reached hub) → AreRead handles (state_of r) →
    (old ≡ 0 → hub.closed ≡ true) → ClosesBehind did old hub now → Left handles now (left_behind did old)
read-behind handles polling.Idle hub now old r h closed c = subst (λ (x : Standing). Left handles x old) (sym c) (record { reached = r; are = h; closes = closed })
read-behind handles polling.Began hub now old r h closed c = subst (λ (x : Standing). Left handles x old) (sym c) (record { reached = r; are = h; closes = closed })
read-behind handles polling.Waits hub now old r h closed c =
    subst (λ (x : Standing). Left handles x old) (sym c) (record { reached = reached-untouched hub r; are = h; closes = closed })
read-behind handles polling.Answered hub now old r h closed c = read-closes handles (old - 1) hub now r h c

read-connection : {T A E : Type 0} (turn : ℕ) (s t : SessionState T A E) (l m : LinkView) (over : Bool) → ConnectionMade turn s t l m over → AllRead s → AllRead t
read-connection {T} {A} {E} turn s t l m over made h =
    let c = called s.hub t.hub s.streams t.streams l m made.answer s.asynchronous t.asynchronous over made.polled made.hands in
    let st = state_of h.reached in
    let same = engine-all st c.events c.calls in
    let next = reached-more s.hub t.hub c.events h.reached c.became in
    record {
      reached = next;
      are = subst (λ (hs : List (HandleState T A E)). AreRead hs (state_of next)) (sym made.handles)
          (more-read s.handles s.hub t.hub c.events h.reached c.became
          (read-on s.handles st (after_all st c.events) same.book (stays-let-go st c.events) h.are));
      closes = λ e. closed-more s.hub t.hub c.events h.reached c.became (h.closes (sym made.unanswered ∙ e));
    }

module _ {C T A E : Type 0} (speech : Speech C T A E) where
  -- a session before its first turn
  pub read-new : (scripts : List (List C)) (s : SessionState T A E) → IsNewSession speech scripts s → AllRead s
  read-new scripts s h =
      let r : Reached h.hub = record { events = []; exact = tt; fits = h.new } in
      let handles : List (HandleState T A E) = new_handles speech.begins scripts in
      let none : AreRead handles (start 0 0) = record {
        holds = λ i. Nothing;
        running = λ i g place at runs.
            absurd (let no_way : None ≡ Some place = ap (λ (x : HandleState T A E). x.running) (sym (idle-there speech.begins scripts i g at)) ∙ runs in cc);
        read = λ k lt. absurd (omega (arith, lt));
      } in
      let left = read-closes handles (commands_in scripts) h.hub s.hub r none h.closes in
      record {
        reached = left.reached;
        are = subst (λ (hs : List (HandleState T A E)). AreRead hs (state_of left.reached)) (sym h.handles) left.are;
        closes = λ e. left.closes (sym h.unanswered ∙ e);
      }

  module _ (lets : AllLetGo speech) where
    read-handle : (scripts : List (List C)) (turn : ℕ) (s t : SessionState T A E) (did : Polling) → HandleMade speech scripts turn s t did → AllRead s → AllRead t
    read-handle scripts turn s t did made h =
        let a = untouched s.hub in
        let ra = reached-untouched s.hub h.reached in
        let st = state_of h.reached in
        let stamp : Stamp = record { owner = turn; command = length made.old.answers; turn = length s.trace } in
        let p = poll-tends speech lets made.script stamp a made.old st ra.fits (reached-cut s.hub h.reached) (h.are.holds turn)
        (λ place e. h.are.running turn made.old place made.old_at e) made.hub made.new did made.turns in
        let next = reached-more a made.hub p.events ra p.became in
        let now : AreRead (set s.handles turn made.new) (state_of next) = more-read (set s.handles turn made.new) a made.hub p.events ra p.became
        (read-then s.handles turn st (after_all st p.events) made.old made.new made.old_at (stays-let-go st p.events) h.are p.tends) in
        let left = read-behind (set s.handles turn made.new) did made.hub t.hub s.unanswered next now
        (λ e. closed-more a made.hub p.events ra p.became (h.closes e)) made.closes in
        record {
          reached = left.reached;
          are = subst (λ (hs : List (HandleState T A E)). AreRead hs (state_of left.reached)) (sym made.handles) left.are;
          closes = λ e. left.closes (sym made.unanswered ∙ e);
        }

    pub read-turn : (scripts : List (List C)) (turn : ℕ) (s t : SessionState T A E) (l m : LinkView) (over : Bool) → Makes speech scripts turn s t l m over → AllRead s → AllRead t
    read-turn scripts turn s t l m over (inl handle) h = read-handle scripts turn s t handle.did handle.made h
    read-turn scripts turn s t l m over (inr connection) h = read-connection turn s t l m over connection.made h

    pub read-turns : (scripts : List (List C)) (turns : List ℕ) (s : SessionState T A E) (l : LinkView) (t : SessionState T A E) (m : LinkView) → MakesAll speech scripts turns s l t m →
        AllRead s → AllRead t
    read-turns scripts [] s l t m made h = subst (λ (x : SessionState T A E). AllRead x) (sym made.0) h
    read-turns scripts (turn ∷ turns) s l t m (rested, mid, passed, rests, makes, more) h =
        read-turns scripts turns mid passed t m more (read-turn scripts turn s mid rested passed false makes h)
