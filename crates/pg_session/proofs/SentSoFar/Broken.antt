-- What a session had sent that was opened and failed.
use Rattle.std.proofs.Common.{◌≡◌, inl, inr, ◌⊎◌, ℕ, ◌+◌, ◌<◌, ◌^◌, List, [], ◌∷◌, ◌++◌, length, map, Bool, true, false, Option, Some, None, Result, Ok, Err, refl, arith, sym, ap, ◌∙◌}
use Rattle.futures.specs.declared.task.Poll.{Poll}
use Rattle.futures.specs.declared.task.Poll.TheVariants.{Ready, Pending}
use Rattle.pg_spec.specs.Book as said
use Rattle.pg_spec.specs.Faults as faults
use Rattle.pg_spec.specs.Frames.{terminate_frame}
use Rattle.pg_spec.specs.Links.{LinkView}
use Rattle.pg_spec.specs.RawMessages.{RawMessage}
use Rattle.pg_spec.specs.Settings.{Settings}
use Rattle.pg_spec.specs.Startup.{plain_login}
use Rattle.pg_promises.specs.Causes.{NeedsNoTls, OfDialogue}
use Rattle.pg_promises.specs.ConnectionStrings.{Means}
use Rattle.pg_promises.specs.Promises.{IsFront}
use Rattle.pg_promises.specs.Calls.{Call, apart}
use Rattle.pg_promises.specs.Kept.{NoneKeptBack}
use Rattle.pg_promises.specs.Sent.{SentInOrder}
use Rattle.pg_errors.specs.declared.async_message.AsyncMessage.{AsyncMessage}
use Rattle.pg_types.specs.declared.error.Error.{Error}
use Rattle.pg_types.specs.declared.error.Error.TheVariants as error
use Rattle.pg_desk.specs.History.{State, start, after_all}
use Rattle.pg_desk.specs.Kept.{legal-joined}
use Rattle.pg_desk.specs.declared.event.Event.{Event}
use Rattle.pg_hub.specs.Becomes.{after-joined}
use Rattle.pg_hub.specs.Fits.{Fits, HubBecomes}
use Rattle.pg_hub.specs.Standing.{Standing}
use Rattle.pg_core.specs.Trails.{said_booking}
use Rattle.pg_connect.specs.declared.streams.Streams.{Streams}
use Rattle.pg_connect.specs.Answers.{Failed, PollAnswers, StaysClosed, fresh, left_open}
use Rattle.pg_connect.specs.Calm.{MissesFew}
use Rattle.pg_connect.specs.Passed.{AllEngineCalls, delivered_by}
use Rattle.pg_connect.specs.Passes.{Passes}
use Rattle.pg_startup.specs.StartupPolls.{IsFresh}
use Rattle.pg_startup.specs.Startups.{Opened}
use Rattle.pg_startup.specs.declared.startup.Startup.{Startup}
use Rattle.pg_session.specs.Calls.{calls_in}
use Rattle.pg_session.specs.Sessions.{IsNewSession, MakesAll, numbers}
use Rattle.pg_session.specs.Speeches.{AreCommands, BookWhole, LetGo, Speech, meaning_of}
use Rattle.pg_session.specs.States.{SessionState}
use Rattle.pg_session.specs.Turns.{HandsOn, Makes}
use Rattle.pg_session.proofs.Books.{engine-all}
use Rattle.pg_session.specs.Failures.{BreaksOff, GivesOut, HasBroken, HasFailed, IsFine, RunsShort, WasOver, WasPolled}
use Rattle.pg_session.proofs.Caused.{all-made, asks-last, done-last, open-last, stood-last}
use Rattle.pg_session.proofs.Caused.Asks.{AllAsk, asks-all, asks-new}
use Rattle.pg_session.proofs.Caused.Start.{of_grown}
use Rattle.pg_session.proofs.Caused.Turns.{broke-off}
use Rattle.pg_session.proofs.Crossing.{moves-by}
use Rattle.pg_session.proofs.Crossing.Chain.{StoodIn, stood-all, stood-turn}
use Rattle.pg_session.proofs.Crossing.Start.{stood-start}
use Rattle.pg_session.proofs.LivesLink.{CameSo, came-first, came-turns}
use Rattle.pg_session.proofs.Opening.{IsDone, done-of}
use Rattle.pg_session.proofs.Nearer.Puts.{whole-put-none}
use Rattle.pg_session.proofs.Quiet.{quiet-round}
use Rattle.pg_session.proofs.SentSoFar.{CameOn, came-here, came-polled, front-taken, sent-by, spent-polled}
use Rattle.pg_session.proofs.SentSoFar.NoneKept.{never-stalled, none-kept}

-- the connection's calls leave the book as it is
same-book : (st : State) (a b : Standing) (es : List Event) → Fits st a → HubBecomes a es b → AllEngineCalls es → b.book ≡ a.book
same-book st a b es f became calls = (became.stands st f).1.book ∙ (engine-all st es calls).book ∙ sym f.book

-- what a poll passed on that answered no error
record PolledSo (a b : Standing) (s t : Streams) (l m : LinkView) : Type 0 where
  events : List Event
  handed : List RawMessage
  passes : Passes (fresh s) (left_open t) l m events handed
  book : b.book ≡ a.book

polled-so : (st : State) (a b : Standing) (s t : Streams) (l m : LinkView) (answer : Poll (Option (Result AsyncMessage Error))) → Fits st a → PollAnswers HubBecomes a b s t l m answer → IsFine answer → PolledSo a b s t l m
polled-so st a b s t l m Pending f p fine = record { events = p.turns.goes.events; handed = p.turns.handed; passes = p.turns.goes.passes; book = same-book st a b p.turns.goes.events f p.turns.goes.became p.turns.goes.calls }
polled-so st a b s t l m (Ready None) f p fine = record { events = p.turns.goes.events; handed = p.turns.handed; passes = p.turns.goes.passes; book = same-book st a b p.turns.goes.events f p.turns.goes.became p.turns.goes.calls }
polled-so st a b s t l m (Ready (Some (Ok message))) f p fine = record { events = p.turns.goes.events; handed = p.turns.handed; passes = p.turns.goes.passes; book = same-book st a b p.turns.goes.events f p.turns.goes.became p.turns.goes.calls }
polled-so st a b s t l m (Ready (Some (Err e))) f p fine = absurd fine

fine-so : (answer : Poll (Option (Result AsyncMessage Error))) (old new : List AsyncMessage) (over : Bool) → HandsOn answer old new over → IsFine answer
fine-so Pending old new over h = tt
fine-so (Ready None) old new over h = tt
fine-so (Ready (Some (Ok message))) old new over h = tt
fine-so (Ready (Some (Err e))) old new over h = absurd h

module _ {C T A E : Type 0} (speech : Speech C T A E) (commands : AreCommands speech) (lets : LetGo speech) (whole : BookWhole speech) where
  -- ---- behind some turns of a session that was opened

  module _ (call : Call C) (settings : Settings) (means : Means call.config settings) (plain : NeedsNoTls settings) (startup : Startup) (link : LinkView)
      (opened : Opened (plain_login settings call.nonce) 0 call.before link startup) (opening : List ℕ) (new : SessionState T A E) (is_fresh : IsFresh startup opening new.streams)
      (is_new : IsNewSession speech call.scripts new) (turns : List ℕ) (s : SessionState T A E) (m : LinkView) (made : MakesAll speech call.scripts turns new link s m) (counted : s.streams.given < 2 ^ 64) where
    abbrev SentSo : Settings → List ℕ → List ℕ → Type 0
    SentSo s g t = SentInOrder (meaning_of speech) call s g t

    done : IsDone settings call.nonce opening opened.read
    done = done-of settings call.nonce opening call.before link startup new.streams opened is_fresh

    stood : StoodIn speech opening opened.read call.before s m
    stood = stood-all speech opening opened.read call.before call.scripts turns new link s m (stood-start speech settings call.nonce call.scripts call.before link startup opening new opened is_fresh is_new) made

    came : CameSo opened.read call.before m s.streams (delivered_by (calls_in speech call.scripts turns new link s m made))
    came = came-turns speech opened.read call.before [] call.scripts turns new link s m made (came-first settings call.nonce call.before link startup opening new.streams opened is_fresh)

    asks : AllAsk s.hub.book
    asks = (asks-all speech whole call.scripts turns new link s m (asks-new speech call.scripts new is_new) made).hub.tame.asks

    -- what was given and taken by then, or by a step more
    by-then : (l : LinkView) (c : CameOn opened.read call.before l came.passed) (taken : List ℕ) → IsFront taken (opening ++ said.wire (map said_booking s.hub.book) ++ terminate_frame) → SentSo settings c.got taken
    by-then l c taken front =
        sent-by speech commands whole call.scripts turns new link s m is_new is_fresh.active is_fresh.delivered made opened.read call.before came counted
        call settings opening c.got taken c.others refl plain done c.are asks front

    -- where nothing moved
    pub sent-paused : call.after.given ≡ m.given → call.after.taken ≡ m.taken → OfDialogue (apart call) SentSo
    sent-paused given taken =
        let c = came-here opened.read call.before m call.after s.streams (delivered_by (calls_in speech call.scripts turns new link s m made)) came given in (
          settings,
          means,
          of_grown call.before call.after c.got stood.taken (SentSo settings) c.given (taken ∙ stood.took)
              (by-then call.after c stood.taken (front-taken opening stood.taken s.streams.unsent s.streams.closing stood.events s.hub.book stood.legal stood.out stood.spent stood.fits.book)),
        )

    -- behind a poll more
    sent-turned : (turn : ℕ) (t : SessionState T A E) (over : Bool) → Makes speech call.scripts turn s t m call.after over → PolledSo s.hub t.hub s.streams t.streams m call.after → OfDialogue (apart call) SentSo
    sent-turned turn t over makes p =
        let c = came-polled opened.read call.before m call.after s.streams t.streams (delivered_by (calls_in speech call.scripts turns new link s m made)) p.events p.handed came p.passes in
        let now = stood-turn speech opening opened.read call.before m call.after call.scripts turn s t over stood makes in (
          settings,
          means,
          of_grown call.before call.after c.got now.taken (SentSo settings) c.given now.took
              (by-then call.after c now.taken (front-taken opening now.taken t.streams.unsent t.streams.closing now.events s.hub.book now.legal now.out now.spent (sym p.book ∙ now.fits.book))),
        )

    -- the state behind the poll, had it been noted
    abbrev noted : Standing → Streams → List AsyncMessage → SessionState T A E
    noted hub streams asides = record {
      hub = hub;
      streams = streams;
      handles = s.handles;
      unanswered = s.unanswered;
      trace = s.trace ++ record { turn = length call.scripts; delivered = streams.delivered } ∷ [];
      asynchronous = asides;
    }

    pub sent-noted : (hub : Standing) (streams : Streams) (answer : Poll (Option (Result AsyncMessage Error))) → PollAnswers HubBecomes s.hub hub s.streams streams m call.after answer → MissesFew m call.after → IsFine answer →
        OfDialogue (apart call) SentSo
    sent-noted hub streams Pending p misses fine =
        sent-turned (length call.scripts) (noted hub streams s.asynchronous) false
        (inr (record { other = omega arith; made = record { answer = Pending; polled = p; misses = misses; hands = (refl, refl); handles = refl; unanswered = refl; trace = refl } }))
        (polled-so (after_all (start 0 0) stood.events) s.hub hub s.streams streams m call.after Pending stood.fits p fine)
    sent-noted hub streams (Ready None) p misses fine =
        sent-turned (length call.scripts) (noted hub streams s.asynchronous) true
        (inr (record { other = omega arith; made = record { answer = Ready None; polled = p; misses = misses; hands = (refl, refl); handles = refl; unanswered = refl; trace = refl } }))
        (polled-so (after_all (start 0 0) stood.events) s.hub hub s.streams streams m call.after (Ready None) stood.fits p fine)
    sent-noted hub streams (Ready (Some (Ok message))) p misses fine =
        sent-turned (length call.scripts) (noted hub streams (s.asynchronous ++ message ∷ [])) false
        (inr (record { other = omega arith; made = record { answer = Ready (Some (Ok message)); polled = p; misses = misses; hands = (refl, refl); handles = refl; unanswered = refl; trace = refl } }))
        (polled-so (after_all (start 0 0) stood.events) s.hub hub s.streams streams m call.after (Ready (Some (Ok message))) stood.fits p fine)
    sent-noted hub streams (Ready (Some (Err x))) p misses fine = absurd fine

    -- behind the last turn, in which the connection was shut down
    pub sent-last : (turn : ℕ) (t : SessionState T A E) → Makes speech call.scripts turn s t m call.after true → OfDialogue (apart call) SentSo
    sent-last turn t (inl handle) = absurd (let no : true ≡ false = handle.goes_on in cc)
    sent-last turn t (inr connection) =
        let made = connection.made in
        sent-turned turn t true (inr connection)
        (polled-so (after_all (start 0 0) stood.events) s.hub t.hub s.streams t.streams m call.after made.answer stood.fits made.polled (fine-so made.answer s.asynchronous t.asynchronous true made.hands))

    -- behind a poll that failed
    pub sent-polled : (e : Error) (hub : Standing) (streams : Streams) → Failed HubBecomes s.hub hub s.streams streams m call.after e → OfDialogue (apart call) SentSo
    sent-polled e hub streams h =
        let goes = h.turns.goes in
        let st = after_all (start 0 0) stood.events in
        let broke = broke-off opening opened.read call.before m call.after s.hub h.between s.streams streams s.asynchronous goes.events h.turns.handed
        stood (moves-by s.hub h.between goes.events goes.became) goes.passes in
        let c = came-polled opened.read call.before m call.after s.streams streams (delivered_by (calls_in speech call.scripts turns new link s m made)) goes.events h.turns.handed came goes.passes in
        let same : s.hub.book ≡ (after_all (start 0 0) (stood.events ++ goes.events)).book =
        stood.fits.book ∙ sym (engine-all st goes.events goes.calls).book ∙ ap (λ (x : State). x.book) (sym (after-joined (start 0 0) stood.events goes.events)) in (
          settings,
          means,
          of_grown call.before call.after c.got broke.taken (SentSo settings) c.given broke.took
              (by-then call.after c broke.taken
              (front-taken opening broke.taken streams.unsent streams.closing (stood.events ++ goes.events) s.hub.book (legal-joined (start 0 0) stood.events goes.events broke.legal broke.legal_now) broke.out
              (spent-polled s.streams streams stood.events goes.events broke.legal_now stood.spent goes.ended.0) same)),
        )

  -- ---- a session that failed behind its startup

  module _ (call : Call C) (settings : Settings) (e : Error) (means : Means call.config settings)
      (b : HasBroken speech settings call.nonce call.scripts call.before call.after e) (limit : b.startup.bytes.max_bytes ≡ call.limit) where
    short-sent : RunsShort speech call.scripts b.new b.link call.after e → OfDialogue (apart call) (λ s g t. SentInOrder (meaning_of speech) call s g t)
    short-sent short = by short.lacks.crossed
      where
        by : (call.after ≡ short.link) ⊎ WasPolled short.state short.link call.after → OfDialogue (apart call) (λ s g t. SentInOrder (meaning_of speech) call s g t)
        by (inl same) =
            sent-paused call settings means b.no_tls b.startup b.link b.opened b.opening b.new b.fresh b.is_new short.turns short.state short.link short.before short.counted
            (ap (λ (l : LinkView). l.given) same) (ap (λ (l : LinkView). l.taken) same)
        by (inr p) =
            sent-noted call settings means b.no_tls b.startup b.link b.opened b.opening b.new b.fresh b.is_new short.turns short.state short.link short.before short.counted
            p.hub p.streams p.answer p.polled p.misses p.fine

    poll-sent : BreaksOff speech call.scripts b.new b.link call.after e → OfDialogue (apart call) (λ s g t. SentInOrder (meaning_of speech) call s g t)
    poll-sent off = by off.fails.polled.1
      where
        by : StaysClosed off.state.hub off.fails.hub off.state.streams off.fails.streams off.link call.after e
            ⊎ Failed HubBecomes off.state.hub off.fails.hub off.state.streams off.fails.streams off.link call.after e → OfDialogue (apart call) (λ s g t. SentInOrder (meaning_of speech) call s g t)
        by (inl h) = absurd (let no : true ≡ false = sym h.was_over ∙ (open-last speech lets whole (apart call) settings call.scripts e means b limit off.turns off.state off.link off.before).goes_on in cc)
        by (inr h) =
            sent-polled call settings means b.no_tls b.startup b.link b.opened b.opening b.new b.fresh b.is_new off.turns off.state off.link off.before off.counted e off.fails.hub off.fails.streams h

    pause-sent : GivesOut speech call.scripts b.new b.link call.after e → OfDialogue (apart call) (λ s g t. SentInOrder (meaning_of speech) call s g t)
    pause-sent out =
        sent-paused call settings means b.no_tls b.startup b.link b.opened b.opening b.new b.fresh b.is_new (out.turns ++ numbers (length call.scripts + 1)) out.last out.passed
        (all-made speech lets whole (apart call) settings call.scripts e means b limit out) out.counted out.bytes.given out.bytes.taken

    pub broken-sent : OfDialogue (apart call) (λ s g t. SentInOrder (meaning_of speech) call s g t)
    broken-sent = by b.fails
      where
        by : HasFailed speech call.scripts b.new b.link call.after e → OfDialogue (apart call) (λ s g t. SentInOrder (meaning_of speech) call s g t)
        by (inl short) = short-sent short
        by (inr (inl off)) = poll-sent off
        by (inr (inr out)) = pause-sent out

    -- ---- what was asked where it stalled

    kept-paused : (before after : ℕ) → GivesOut speech call.scripts b.new b.link call.after e → NoneKeptBack {T = Unit {0}} (meaning_of speech) call (Err (faults.Stalled before after))
    kept-paused before after out =
        let turns = out.turns ++ numbers (length call.scripts + 1) in
        let made = all-made speech lets whole (apart call) settings call.scripts e means b limit out in
        none-kept speech commands whole call settings b.opening b.opened.read b.new b.link turns b.is_new b.fresh.active b.fresh.delivered out.state out.link out.last out.passed made before after means b.no_tls
        (done-last speech lets whole (apart call) settings call.scripts e means b limit)
        (open-last speech lets whole (apart call) settings call.scripts e means b limit out.turns out.state out.link out.before).keeps
        (stood-last speech lets whole (apart call) settings call.scripts e means b limit turns out.last out.passed made)
        (asks-last speech lets whole (apart call) settings call.scripts e means b limit turns out.last out.passed made)
        (quiet-round speech lets (whole-put-none speech whole) call.scripts out.turns b.new b.link out.state out.link out.last out.passed b.is_new out.before out.round)
        (came-turns speech b.opened.read call.before [] call.scripts turns b.new b.link out.last out.passed made (came-first settings call.nonce call.before b.link b.startup b.opening b.new.streams b.opened b.fresh))
        out.counted out.bytes.given out.bytes.taken

    pub broken-kept : (before after : ℕ) → e ≡ error.Stalled before after → NoneKeptBack {T = Unit {0}} (meaning_of speech) call (Err (faults.Stalled before after))
    broken-kept before after is = by b.fails
      where
        not-polled : (off : BreaksOff speech call.scripts b.new b.link call.after e) → StaysClosed off.state.hub off.fails.hub off.state.streams off.fails.streams off.link call.after e
            ⊎ Failed HubBecomes off.state.hub off.fails.hub off.state.streams off.fails.streams off.link call.after e → ⊥
        not-polled off (inl h) =
            let no : true ≡ false = sym h.was_over ∙ (open-last speech lets whole (apart call) settings call.scripts e means b limit off.turns off.state off.link off.before).goes_on in absurd cc
        not-polled off (inr h) =
            never-stalled (fresh off.state.streams) (left_open off.fails.streams) off.link call.after h.fault h.turns.goes.events before after h.turns.goes.ended.1 (sym is ∙ h.means)

        by : HasFailed speech call.scripts b.new b.link call.after e → NoneKeptBack {T = Unit {0}} (meaning_of speech) call (Err (faults.Stalled before after))
        by (inl short) = absurd (let no : error.Stalled before after ≡ error.OutOfMemory = sym is ∙ short.lacks.memory in cc)
        by (inr (inl off)) = absurd (not-polled off off.fails.polled.1)
        by (inr (inr out)) = kept-paused before after out

  -- ---- a session that was played to its end, and wasn't reported

  -- no fewer bytes came by its last turn than by the one before
  counted-before : (s t : Streams) (l m : LinkView) (es : List Event) (hs : List RawMessage) → Passes (fresh s) (left_open t) l m es hs → t.given < 2 ^ 64 → s.given < 2 ^ 64
  counted-before s t l m es hs p low = omega (arith, p.count, low)

  pub sent-over : (call : Call C) (settings : Settings) → Means call.config settings → WasOver speech settings call.nonce call.scripts call.before call.after →
      OfDialogue (apart call) (λ s g t. SentInOrder (meaning_of speech) call s g t)
  sent-over call settings means w =
      let ends = w.plays.ends in
      sent-last call settings means w.no_tls w.startup w.link w.opened w.opening w.new w.fresh w.is_new w.plays.turns ends.state ends.link ends.before (low ends.over) w.plays.last w.last ends.over
    where
      low : Makes speech call.scripts w.plays.last w.plays.ends.state w.last w.plays.ends.link call.after true → w.plays.ends.state.streams.given < 2 ^ 64
      low (inl handle) = absurd (let no : true ≡ false = handle.goes_on in cc)
      low (inr connection) =
          let made = connection.made in
          let stood = stood-all speech w.opening w.opened.read call.before call.scripts w.plays.turns w.new w.link w.plays.ends.state w.plays.ends.link
          (stood-start speech settings call.nonce call.scripts call.before w.link w.startup w.opening w.new w.opened w.fresh w.is_new) w.plays.ends.before in
          let p = polled-so (after_all (start 0 0) stood.events) w.plays.ends.state.hub w.last.hub w.plays.ends.state.streams w.last.streams w.plays.ends.link call.after made.answer stood.fits made.polled
          (fine-so made.answer w.plays.ends.state.asynchronous w.last.asynchronous true made.hands) in
          counted-before w.plays.ends.state.streams w.last.streams w.plays.ends.link call.after p.events p.handed p.passes w.counted
