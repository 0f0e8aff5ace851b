-- The link isn't shut down before a session's end.
use Rattle.std.proofs.Common.{◌≡◌, ◌+◌, ◌⊎◌, ◌++◌, ◌∷◌, inl, inr, ℕ, List, [], length, map, true, false, Option, Some, None, Result, Ok, Err, refl, ap, ◌∙◌, arith}
use Rattle.futures.specs.declared.task.Poll.{Poll}
use Rattle.futures.specs.declared.task.Poll.TheVariants.{Ready, Pending}
use Rattle.pg_types.specs.declared.error.Error.{Error}
use Rattle.pg_types.specs.declared.error.Error.TheVariants.{OutOfMemory}
use Rattle.pg_spec.specs.Book as book
use Rattle.pg_spec.specs.Frames.{terminate_frame}
use Rattle.pg_spec.specs.Links.{LinkView}
use Rattle.pg_spec.specs.RawMessages.{RawMessage}
use Rattle.pg_spec.specs.Settings.{Settings}
use Rattle.pg_errors.specs.declared.async_message.AsyncMessage.{AsyncMessage}
use Rattle.pg_hub.specs.Fits.{HubBecomes}
use Rattle.pg_hub.specs.Standing.{Standing}
use Rattle.pg_connect.specs.Answers.{Failed, PollAnswers, StaysClosed}
use Rattle.pg_connect.specs.Calm.{MissesFew}
use Rattle.pg_connect.specs.declared.streams.Streams.{Streams}
use Rattle.pg_core.specs.Trails.{said_booking}
use Rattle.pg_promises.specs.Endings.{Report}
use Rattle.pg_session.specs.Failures.{BreaksOff, GivesOut, HasBroken, HasFailed, IsFine, RunsShort, WasOver, WasPolled}
use Rattle.pg_session.specs.Sessions.{HasPlayed, MakesAll, numbers}
use Rattle.pg_session.specs.States.{SessionState}
use Rattle.pg_session.specs.Turns.{HandsOn, Makes}
use Rattle.pg_session.specs.WholeSession.{IsClosed, LeavesOpen, WasClosed}
use Rattle.pg_session.proofs.Crossing.Chain.{StoodIn, stood-all, stood-turn}
use Rattle.pg_session.proofs.Crossing.End.{all-taken, is-last}
use Rattle.pg_session.proofs.Crossing.Start.{stood-start}
use Rattle.pg_session.proofs.Quiet.Handles.{stays-makes}
use Rattle.pg_session.proofs.Caused.Start.{of_grown}
use Rattle.pg_session.specs.Speeches.{Speech}

-- ---- turns before the end

unshut-poll : (a b : Standing) (s t : Streams) (l m : LinkView) (answer : Poll (Option (Result AsyncMessage Error))) (was now : List AsyncMessage) →
    PollAnswers HubBecomes a b s t l m answer → HandsOn answer was now false → m.shut ≡ l.shut
unshut-poll a b s t l m Pending was now p hands = p.turns.shut
unshut-poll a b s t l m (Ready None) was now p hands = absurd (let no : false ≡ true = hands.1 in cc)
unshut-poll a b s t l m (Ready (Some (Ok message))) was now p hands = p.turns.shut
unshut-poll a b s t l m (Ready (Some (Err e))) was now p hands = absurd hands

-- ---- the last turn

closed-poll : (a b : Standing) (s t : Streams) (l m : LinkView) (answer : Poll (Option (Result AsyncMessage Error))) (was now : List AsyncMessage) →
    PollAnswers HubBecomes a b s t l m answer → HandsOn answer was now true → IsClosed l m
closed-poll a b s t l m Pending was now p hands = absurd (let no : true ≡ false = hands.1 in cc)
closed-poll a b s t l m (Ready None) was now p hands = record { flushed = p.turns.goes.ended.flushed; shut = p.turns.goes.ended.shut }
closed-poll a b s t l m (Ready (Some (Ok message))) was now p hands = absurd (let no : true ≡ false = hands.1 in cc)
closed-poll a b s t l m (Ready (Some (Err e))) was now p hands = absurd hands

-- behind turns that leave the link as it was
closed-since : (base l m : LinkView) → l.shut ≡ base.shut → IsClosed l m → IsClosed base m
closed-since base l m same is = record { flushed = λ unshut. is.flushed (same ∙ unshut); shut = is.shut }

module _ {C T A E : Type 0} (speech : Speech C T A E) where
  unshut-turn : (scripts : List (List C)) (turn : ℕ) (s t : SessionState T A E) (l m : LinkView) → Makes speech scripts turn s t l m false → m.shut ≡ l.shut
  unshut-turn scripts turn s t l m (inl handle) = ap (λ (x : LinkView). x.shut) handle.link
  unshut-turn scripts turn s t l m (inr connection) =
      let made = connection.made in
      unshut-poll s.hub t.hub s.streams t.streams l m made.answer s.asynchronous t.asynchronous made.polled made.hands

  unshut-all : (scripts : List (List C)) (turns : List ℕ) (s : SessionState T A E) (l : LinkView) (t : SessionState T A E) (m : LinkView) → MakesAll speech scripts turns s l t m → m.shut ≡ l.shut
  unshut-all scripts [] s l t m made = made.1.writing.shut
  unshut-all scripts (turn ∷ turns) s l t m made =
      unshut-all scripts turns made.1 made.2 t m made.5 ∙ unshut-turn scripts turn s made.1 made.0 made.2 made.4 ∙ made.3.writing.shut

  closed-turn : (scripts : List (List C)) (turn : ℕ) (s t : SessionState T A E) (l m : LinkView) → Makes speech scripts turn s t l m true → IsClosed l m
  closed-turn scripts turn s t l m (inl handle) = absurd (let no : true ≡ false = handle.goes_on in cc)
  closed-turn scripts turn s t l m (inr connection) =
      let made = connection.made in
      closed-poll s.hub t.hub s.streams t.streams l m made.answer s.asynchronous t.asynchronous made.polled made.hands

  was-closed : (opening : List ℕ) (first : List RawMessage) (base l m : LinkView) (scripts : List (List C)) (turn : ℕ) (s t : SessionState T A E) →
      StoodIn speech opening first base s l → l.shut ≡ base.shut → Makes speech scripts turn s t l m true → WasClosed base m
  was-closed opening first base l m scripts turn s t stood same made =
      let h = stood-turn speech opening first base l m scripts turn s t true stood made in
      let last = is-last speech scripts turn s t l m made in
      let parts = book.wire (map said_booking t.hub.book) in
      let all = all-taken opening first base m t.hub t.streams t.asynchronous h last.closing last.sent in
      record {
        closed = closed-since base l m same (closed-turn scripts turn s t l m made);
        sent = of_grown base m h.given h.taken (λ g sent. (front : List ℕ) × (sent ≡ front ++ terminate_frame)) h.gave h.took (opening ++ parts, all);
      }

  -- a session that was played to its end leaves the link flushed and shut down
  pub is-closed : (settings : Settings) (nonce : List ℕ) (scripts : List (List C)) (given : List ℕ) (before after : LinkView) (report : Report A) →
      HasPlayed speech settings nonce scripts given before after report → IsClosed before after
  is-closed settings nonce scripts given before after report p =
      let ends = p.plays.ends in
      closed-since before ends.link after (unshut-all scripts p.plays.turns p.new p.link ends.state ends.link ends.before ∙ p.opened.shut)
      (closed-turn scripts p.plays.last ends.state p.last ends.link after ends.over)

  -- also where memory lacked for its report
  pub over-closed : (settings : Settings) (nonce : List ℕ) (scripts : List (List C)) (before after : LinkView) → WasOver speech settings nonce scripts before after → WasClosed before after
  over-closed settings nonce scripts before after w =
      let ends = w.plays.ends in
      was-closed w.opening w.opened.read before ends.link after scripts w.plays.last ends.state w.last
      (stood-all speech w.opening w.opened.read before scripts w.plays.turns w.new w.link ends.state ends.link
      (stood-start speech settings nonce scripts before w.link w.startup w.opening w.new w.opened w.fresh w.is_new) ends.before)
      (unshut-all scripts w.plays.turns w.new w.link ends.state ends.link ends.before ∙ w.opened.shut) ends.over

  -- ---- a session that failed behind its startup

  -- the state behind a poll, had it been noted
  abbrev noted : (turn : ℕ) → SessionState T A E → Standing → Streams → SessionState T A E
  noted turn state hub streams = record {
    hub = hub;
    streams = streams;
    handles = state.handles;
    unanswered = state.unanswered;
    trace = state.trace ++ record { turn = turn; delivered = streams.delivered } ∷ [];
    asynchronous = state.asynchronous;
  }

  module _ (settings : Settings) (nonce : List ℕ) (scripts : List (List C)) (before after : LinkView) (e : Error) (b : HasBroken speech settings nonce scripts before after e) where
    so-far : (turns : List ℕ) (state : SessionState T A E) (link : LinkView) → MakesAll speech scripts turns b.new b.link state link → link.shut ≡ before.shut
    so-far turns state link made = unshut-all scripts turns b.new b.link state link made ∙ b.opened.shut

    stood-so : (turns : List ℕ) (state : SessionState T A E) (link : LinkView) → MakesAll speech scripts turns b.new b.link state link → StoodIn speech b.opening b.opened.read before state link
    stood-so turns state link made =
        stood-all speech b.opening b.opened.read before scripts turns b.new b.link state link
        (stood-start speech settings nonce scripts before b.link b.startup b.opening b.new b.opened b.fresh b.is_new) made

    -- memory lacked behind a poll
    polled-open : (turns : List ℕ) (state : SessionState T A E) (link : LinkView) → MakesAll speech scripts turns b.new b.link state link → (hub : Standing) (streams : Streams)
        (answer : Poll (Option (Result AsyncMessage Error))) → e ≡ OutOfMemory → PollAnswers HubBecomes state.hub hub state.streams streams link after answer → MissesFew link after → IsFine answer →
        LeavesOpen before after e
    polled-open turns state link made hub streams Pending lacks p misses fine = inl (p.turns.shut ∙ so-far turns state link made)
    polled-open turns state link made hub streams (Ready None) lacks p misses fine = inr (
      lacks,
      was-closed b.opening b.opened.read before link after scripts (length scripts) state (noted (length scripts) state hub streams) (stood-so turns state link made) (so-far turns state link made)
          (inr (record { other = omega arith; made = record { answer = Ready None; polled = p; misses = misses; hands = (refl, refl); handles = refl; unanswered = refl; trace = refl } })),
    )
    polled-open turns state link made hub streams (Ready (Some (Ok message))) lacks p misses fine = inl (p.turns.shut ∙ so-far turns state link made)
    polled-open turns state link made hub streams (Ready (Some (Err x))) lacks p misses fine = absurd fine

    short-open : RunsShort speech scripts b.new b.link after e → LeavesOpen before after e
    short-open short = by short.lacks.crossed
      where
        by : (after ≡ short.link) ⊎ WasPolled short.state short.link after → LeavesOpen before after e
        by (inl same) = inl (ap (λ (x : LinkView). x.shut) same ∙ so-far short.turns short.state short.link short.before)
        by (inr p) = polled-open short.turns short.state short.link short.before p.hub p.streams p.answer short.lacks.memory p.polled p.misses p.fine

    fails-open : BreaksOff speech scripts b.new b.link after e → LeavesOpen before after e
    fails-open off = by off.fails.polled.1
      where
        by : StaysClosed off.state.hub off.fails.hub off.state.streams off.fails.streams off.link after e
            ⊎ Failed HubBecomes off.state.hub off.fails.hub off.state.streams off.fails.streams off.link after e → LeavesOpen before after e
        by (inl h) = inl (ap (λ (x : LinkView). x.shut) h.link ∙ so-far off.turns off.state off.link off.before)
        by (inr h) = inl (h.turns.shut ∙ so-far off.turns off.state off.link off.before)

    pause-open : GivesOut speech scripts b.new b.link after e → LeavesOpen before after e
    pause-open out =
        let round = stays-makes speech scripts (numbers (length scripts + 1)) out.state out.link out.last out.passed out.round in
        inl (out.writing.shut ∙ unshut-all scripts (numbers (length scripts + 1)) out.state out.link out.last out.passed round ∙ so-far out.turns out.state out.link out.before)

    pub broken-open : LeavesOpen before after e
    broken-open = by b.fails
      where
        by : HasFailed speech scripts b.new b.link after e → LeavesOpen before after e
        by (inl short) = short-open short
        by (inr (inl off)) = fails-open off
        by (inr (inr out)) = pause-open out
