-- Each failure of a session that was opened has its cause.
pub mod StartSent
pub mod Refusals
pub mod Start
pub mod Lists
pub mod Turns
pub mod Frames
pub mod Asks
pub mod Groups
pub mod Bytes
use Rattle.std.proofs.Common.{◌≡◌, inl, inr, ◌⊎◌, ℕ, ◌+◌, List, [], ◌∷◌, ◌++◌, length, Bool, true, false, Option, Some, None, Result, Ok, Err, refl, arith, sym, ap, subst, ◌∙◌, append-nil}
use Rattle.std.specs.Prelude.{is_some, ◌||◌}
use Rattle.pg_promises.specs.Causes.{Call, HasCause, OfDialogue}
use Rattle.pg_spec.specs.Settings.{Settings}
use Rattle.pg_promises.specs.ConnectionStrings.{Means}
use Rattle.pg_spec.specs.Links.{LinkView, Grew}
use Rattle.pg_wire.specs.declared.message.Message.{Message}
use Rattle.futures.specs.declared.task.Poll.{Poll}
use Rattle.futures.specs.declared.task.Poll.TheVariants.{Ready, Pending}
use Rattle.pg_errors.specs.declared.async_message.AsyncMessage.{AsyncMessage}
use Rattle.pg_types.specs.declared.cause.Cause.TheVariants as cause
use Rattle.pg_types.specs.declared.error.Error.{Error}
use Rattle.pg_types.specs.declared.error.Error.TheVariants as error
use Rattle.pg_desk.specs.History.{start, after_all}
use Rattle.pg_hub.specs.Standing.{Standing}
use Rattle.pg_hub.specs.Fits.{HubBecomes}
use Rattle.pg_connect.specs.declared.streams.Streams.{Streams}
use Rattle.pg_connect.specs.Answers.{Failed, PollAnswers, StaysClosed, fresh, left_open}
use Rattle.pg_connect.specs.Calm.{MissesFew}
use Rattle.pg_connect.proofs.Calm.{calm_then}
use Rattle.pg_connect.proofs.Joining.{rose_later}
use Rattle.pg_session.specs.Failures.{BreaksOff, GivesOut, HasBroken, HasFailed, IsFine, PauseFails, RunsShort, WasPolled}
use Rattle.pg_session.specs.Sessions.{MakesAll, numbers}
use Rattle.pg_session.specs.States.{SessionState}
use Rattle.pg_session.specs.Turns.{Makes}
use Rattle.pg_session.proofs.Crossing.{moves-by}
use Rattle.pg_session.proofs.Crossing.Start.{stood-start}
use Rattle.pg_session.proofs.Opening.{IsDone, done-of}
use Rattle.pg_session.proofs.Crossing.Chain.{StoodIn, stood-all, stood-turn}
use Rattle.pg_session.proofs.Caused.Turns.{IsOpen, open-all, takes-on, broke-off}
use Rattle.pg_session.proofs.Caused.Asks.{AsksWhole, asks-all, asks-new, tame-in}
use Rattle.pg_session.proofs.Caused.Bytes.{Fails, cause-of}
use Rattle.pg_session.proofs.LimitsKept.{HoldsLimit, holds-paused, holds-polled}
use Rattle.pg_session.proofs.Order.{makes_all_then}
use Rattle.pg_session.proofs.Quiet.Handles.{stays-makes}
use Rattle.pg_session.proofs.Nearer.Puts.{whole-put-none}
use Rattle.pg_session.proofs.Quiet.{quiet-round}
use Rattle.pg_session.proofs.Stalled.{stalled-round}
use Rattle.pg_session.specs.Speeches.{BookWhole, LetGo, Speech}

first_false : (a b : Bool) → (a || b) ≡ false → a ≡ false
first_false true b e = absurd cc
first_false false b e = refl

module _ {C T A E : Type 0} (speech : Speech C T A E) (lets : LetGo speech) (whole : BookWhole speech) where
  module _ (call : Call) (settings : Settings) (scripts : List (List C)) (e : Error) (means : Means call.config settings)
      (b : HasBroken speech settings call.nonce scripts call.before call.after e) (limit : b.startup.bytes.max_bytes ≡ call.limit) where
    -- behind the startup the connection is open
    pub open-start : IsOpen call.limit b.opening call.before b.new.streams b.link
    open-start = record {
      keeps = b.opened.link;
      more = [];
      took = subst (λ (x : List ℕ). Grew call.before.taken b.link.taken x) (sym b.fresh.frames ∙ sym (append-nil b.opening)) b.opened.taken;
      goes_on = ap (λ (x : Bool). (x || b.new.streams.at_end) || is_some b.new.streams.unread) b.fresh.goes_on
          ∙ ap (λ (x : Bool). x || is_some b.new.streams.unread) b.fresh.more ∙ ap (λ (o : Option Message). is_some o) b.fresh.unread;
      limit = b.fresh.limit ∙ limit;
    }

    pub done-last : IsDone settings call.nonce b.opening b.opened.read
    done-last = done-of settings call.nonce b.opening call.before b.link b.startup b.new.streams b.opened b.fresh

    pub stood-last : (turns : List ℕ) (state : SessionState T A E) (link : LinkView) → MakesAll speech scripts turns b.new b.link state link → StoodIn speech b.opening b.opened.read call.before state link
    stood-last turns state link made =
        stood-all speech b.opening b.opened.read call.before scripts turns b.new b.link state link
        (stood-start speech settings call.nonce scripts call.before b.link b.startup b.opening b.new b.opened b.fresh b.is_new) made

    pub open-last : (turns : List ℕ) (state : SessionState T A E) (link : LinkView) → MakesAll speech scripts turns b.new b.link state link → IsOpen call.limit b.opening call.before state.streams link
    open-last turns state link made = open-all speech call.limit b.opening call.before scripts turns b.new b.link state link open-start made

    pub asks-last : (turns : List ℕ) (state : SessionState T A E) (link : LinkView) → MakesAll speech scripts turns b.new b.link state link → AsksWhole speech state
    asks-last turns state link made = asks-all speech whole scripts turns b.new b.link state link (asks-new speech scripts b.new b.is_new) made

    -- ---- a pause that fails

    module _ (out : GivesOut speech scripts b.new b.link call.after e) where
      -- the round in which nothing moved, behind the turns before
      pub round-made : MakesAll speech scripts (numbers (length scripts + 1)) out.state out.link out.last out.passed
      round-made = stays-makes speech scripts (numbers (length scripts + 1)) out.state out.link out.last out.passed out.round

      pub all-made : MakesAll speech scripts (out.turns ++ numbers (length scripts + 1)) b.new b.link out.last out.passed
      all-made = makes_all_then speech scripts out.turns (numbers (length scripts + 1)) b.new b.link out.state out.link out.last out.passed out.before round-made

      pause-cause : (x : Error) → PauseFails out.link.quiet out.passed.quiet out.waited out.passed call.after x → HasCause call x
      pause-cause (error.Io cause.Link) fails =
          rose_later call.before.faults out.passed.faults call.after.faults
          (open-last (out.turns ++ numbers (length scripts + 1)) out.last out.passed all-made).keeps.counts.faults fails
      pause-cause (error.Stalled before after) fails =
          let turns = out.turns ++ numbers (length scripts + 1) in
          stalled-round speech call settings b.opening b.opened.read scripts out.state out.link out.last out.passed out.waited before after means
          b.no_tls done-last
          (open-last out.turns out.state out.link out.before).keeps (open-last turns out.last out.passed all-made).keeps
          (calm_then call.before b.link out.passed b.calm out.calm).no_lull (stood-last turns out.last out.passed all-made) (asks-last turns out.last out.passed all-made)
          (quiet-round speech lets (whole-put-none speech whole) scripts out.turns b.new b.link out.state out.link out.last out.passed b.is_new out.before out.round) out.promised fails
      pause-cause _ fails = absurd fails

    -- ---- a turn that fails

    turn-cause : (turns : List ℕ) (state : SessionState T A E) (link : LinkView) (hub : Standing) (streams : Streams) → MakesAll speech scripts turns b.new b.link state link →
        (h : Failed HubBecomes state.hub hub state.streams streams link call.after e) → HasCause call e
    turn-cause turns state link hub streams made h =
        let was = open-last turns state link made in
        let goes = h.turns.goes in
        let stood = stood-last turns state link made in
        let fails : Fails settings call stood.events goes.events streams link = record {
          means = means;
          opening = b.opening;
          first = b.opened.read;
          no_tls = b.no_tls;
          done = done-last;
          broke = broke-off b.opening b.opened.read call.before link call.after state.hub h.between state.streams streams state.asynchronous goes.events h.turns.handed
              stood (moves-by state.hub h.between goes.events goes.became) goes.passes;
          keeps = was.keeps;
          limit = goes.passes.limit ∙ was.limit;
          calls = goes.calls;
          tame = tame-in (after_all (start 0 0) stood.events) state.hub stood.fits (asks-last turns state link made).hub.tame;
          more = was.more ++ goes.passes.sent;
          took = takes-on b.opening was.more goes.passes.sent call.before.taken link.taken call.after.taken was.took goes.passes.taken;
        } in
        subst (λ (x : Error). HasCause call x) (sym h.means)
        (cause-of settings call stood.events goes.events state.streams streams link fails h.fault goes.ended.1)

    poll-cause : (turns : List ℕ) (state : SessionState T A E) (link : LinkView) (hub : Standing) (streams : Streams) → MakesAll speech scripts turns b.new b.link state link →
        (h : StaysClosed state.hub hub state.streams streams link call.after e ⊎ Failed HubBecomes state.hub hub state.streams streams link call.after e) →
        HasCause call e
    poll-cause turns state link hub streams made (inl h) =
        absurd (let no : true ≡ false = sym h.was_over ∙ (open-last turns state link made).goes_on in cc)
    poll-cause turns state link hub streams made (inr h) = turn-cause turns state link hub streams made h

    by_case : HasFailed speech scripts b.new b.link call.after e → HasCause call e
    by_case (inl short) = subst (λ (x : Error). HasCause call x) (sym short.lacks.memory) tt
    by_case (inr (inl off)) = poll-cause off.turns off.state off.link off.fails.hub off.fails.streams off.before off.fails.polled.1
    by_case (inr (inr out)) = pause-cause out e out.fails

    pub broken-cause : HasCause call e
    broken-cause = by_case b.fails

    -- ---- the limit

    poll-limit : (off : BreaksOff speech scripts b.new b.link call.after e) → HoldsLimit call e
    poll-limit off = by off.fails.polled.1
      where
        by : StaysClosed off.state.hub off.fails.hub off.state.streams off.fails.streams off.link call.after e
            ⊎ Failed HubBecomes off.state.hub off.fails.hub off.state.streams off.fails.streams off.link call.after e → HoldsLimit call e
        by (inl h) = absurd (let no : true ≡ false = sym h.was_over ∙ (open-last off.turns off.state off.link off.before).goes_on in cc)
        by (inr h) =
            let was = open-last off.turns off.state off.link off.before in
            let goes = h.turns.goes in
            let broke = broke-off b.opening b.opened.read call.before off.link call.after off.state.hub h.between off.state.streams off.fails.streams off.state.asynchronous goes.events h.turns.handed
            (stood-last off.turns off.state off.link off.before) (moves-by off.state.hub h.between goes.events goes.became) goes.passes in
            holds-polled call off.fails.streams e broke.given broke.taken (goes.passes.limit ∙ was.limit)
            (off.fails.kept (first_false off.state.streams.ended off.state.streams.at_end (first_false (off.state.streams.ended || off.state.streams.at_end) (is_some off.state.streams.unread) was.goes_on)))
            broke.count broke.gave broke.took

    pause-limit : (out : GivesOut speech scripts b.new b.link call.after e) → HoldsLimit call e
    pause-limit out =
        let turns = out.turns ++ numbers (length scripts + 1) in
        let made = all-made out in
        let stood = stood-last turns out.last out.passed made in
        holds-paused call out.last.streams e stood.given stood.taken (open-last turns out.last out.passed made).limit out.within stood.count (out.bytes.given ∙ stood.gave) (out.bytes.taken ∙ stood.took)

    pub broken-limit : HoldsLimit call e
    broken-limit = by b.fails
      where
        by : HasFailed speech scripts b.new b.link call.after e → HoldsLimit call e
        by (inl short) = subst (λ (x : Error). HoldsLimit call x) (sym short.lacks.memory) tt
        by (inr (inl off)) = poll-limit off
        by (inr (inr out)) = pause-limit out
