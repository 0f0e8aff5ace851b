-- Why a session may be stalled behind its startup.
pub mod Groups
pub mod Start
use Rattle.std.proofs.Common.{◌≡◌, ◌<◌, ◌≤◌, ◌⊎◌, ◌||◌, ◌++◌, ◌∷◌, ℕ, zero, suc, Bool, true, false, not, List, [], length, drop, Ok, inl, inr, append-nil, append_assoc, refl, sym, ◌∙◌, ap, subst, arith, nat_lt, if◌then◌else◌}
use Rattle.std.specs.Prelude.{IsTrue, count_by}
use Rattle.std.specs.List.{list_any}
use Rattle.std.proofs.lemmas.Bool.Decides.{nat_tests}
use Rattle.pg_promises.specs.Causes.{Call, IsStalled, NeedsNoTls, whole_groups, IsAwaited as Awaited}
use Rattle.pg_promises.specs.ConnectionStrings.{Means}
use Rattle.pg_spec.specs.Settings.{Settings}
use Rattle.pg_spec.specs.Links.{LinkView, Rose, next_count}
use Rattle.pg_spec.specs.RawMessages.{RawMessage, messages, cut_after, is_ready, is_whole_group, sync_of}
use Rattle.pg_spec.specs.Sent.{whole_units}
use Rattle.pg_wire.specs.LinkCalls.{Keeps, NoLull}
use Rattle.pg_desk.specs.declared.event.Event.{Event}
use Rattle.pg_desk.specs.declared.event.Event.TheVariants.{NextOut}
use Rattle.pg_desk.specs.declared.event.Out.{Out}
use Rattle.pg_desk.specs.declared.event.Out.TheVariants as out
use Rattle.pg_desk.proofs.Owners.{ended-counted, open-less}
use Rattle.pg_desk.proofs.Outs.{AllEnded, Stands, Whole, Waits as WaitsHere, Part, ended-not, stands}
use Rattle.pg_desk.proofs.Parts.{all-began, started-most}
use Rattle.pg_desk.specs.History.{State, start, after, after_all, finished, has_open, joined, last_out, out_answer, received, wire, Allows, IsExact, IsFrontOf}
use Rattle.pg_desk.proofs.Soundness.{legal-sound}
use Rattle.pg_types.specs.declared.error.Error.TheVariants as error
use Rattle.pg_connect.specs.Answers.{fresh, left_open}
use Rattle.pg_connect.specs.Ends.{WasBlocked, last_is, has_none, has_no_more}
use Rattle.pg_connect.specs.Passed.{AllEngineCalls, bytes_out_by, delivered_by, moves_in}
use Rattle.pg_connect.specs.Passes.{goodbye}
use Rattle.pg_connect.specs.Ends.{some_is}
use Rattle.pg_connect.specs.Passes.{waiting}
use Rattle.pg_connect.specs.Polls.{ReadDry, SomeGivesBack, StopsWriting, Waits}
use Rattle.pg_connect.specs.Reads.{is_full}
use Rattle.pg_connect.specs.declared.streams.Streams.{Streams}
use Rattle.pg_connect.proofs.Joining.{none_lost}
use Rattle.pg_session.specs.Failures.{PauseFails}
use Rattle.pg_session.specs.States.{SessionState}
use Rattle.pg_session.proofs.Caused.Asks.{AsksWhole, tame-in, wire-asks}
use Rattle.pg_session.proofs.Caused.Frames.{AreRequests, front-requests}
use Rattle.pg_session.proofs.Crossing.Chain.{StoodIn}
use Rattle.pg_session.proofs.Crossing.End.{of-bytes, added-is}
use Rattle.pg_session.proofs.Crossing.Hub.{Ran, ran-all, ran-start, received-all, out-all}
use Rattle.pg_session.proofs.Opening.{IsDone, done-opening, is-started}
use Rattle.pg_session.proofs.Readers.HubStates.{state_of}
use Rattle.pg_session.proofs.Quiet.Polls.{IsAwaited, none-moved, still-all}
use Rattle.pg_session.proofs.Quiet.{QuietRound}
use Rattle.pg_session.proofs.Stalled.Groups.{groups-ended, units-sent}
use Rattle.pg_session.proofs.Stalled.Start.{exact-so, last-so, lulls-so, rests-so}
use Rattle.pg_session.specs.Speeches.{Speech}

-- ---- the connection's poll

contradicts : {P : Type 0} (b : Bool) → b ≡ true → b ≡ false → P
contradicts b one other = let e : true ≡ false = sym one ∙ other in cc

is-false : (b : Bool) → (b ≡ true → ⊥) → b ≡ false
is-false true f = absurd (f refl)
is-false false f = refl

-- nothing is left to be done: all was read and sent, and the hub has no part and may have more
pub record IsSettled (t : Streams) (l m : LinkView) (events : List Event) : Type 0 where
  pub dry : ReadDry t l m
  pub active : t.closing ≡ false
  pub sent : t.unsent ≡ []
  pub none_left : last_is has_none events ≡ true
  pub not_over : last_is has_no_more events ≡ false

-- what a poll tells of the link in which nothing moved, and which met no full mailbox
pub record WentQuietly (t : Streams) (l m : LinkView) (events : List Event) : Type 0 where
  pub quiet : Rose l.quiet m.quiet
  pub lulls : IsTrue l.promised → Rose l.lulls m.lulls
  pub settled : IsTrue l.steady → IsSettled t l m events

-- ---- the hub's last answer

-- all parts went out, and a request is open or may still come
pub record AllOut (s : State) : Type 0 where
  pub parts : drop (length s.gone_out) (wire s.book) ≡ []
  pub more : (has_open s ≡ true) ⊎ (s.closed ≡ false)

none-out : (s : State) (o : Out) → AllEnded s.book s.copying → o ≡ out_answer s → has_none (NextOut (Ok o)) ≡ true → has_no_more (NextOut (Ok o)) ≡ false → AllOut s
none-out s o ended e none more = by_stands (stands (last_out s) o (length s.gone_out) s.book s.copying e)
  where
    by : (b c : Bool) → has_open s ≡ b → s.closed ≡ c → o ≡ (if b then out.Nothing else (if c then out.NoMore else out.Nothing)) →
        (has_open s ≡ true) ⊎ (s.closed ≡ false)
    by true c less is e = inl less
    by false true less is e = absurd (let no : true ≡ false = ap (λ (x : Out). has_no_more (NextOut (Ok x))) (sym e) ∙ more in cc)
    by false false less is e = inr is

    by_stands : Stands (last_out s) (length s.gone_out) s.book s.copying o → AllOut s
    by_stands (Whole w) = record { parts = w.parts; more = by (has_open s) s.closed refl refl w.is }
    by_stands (WaitsHere is w) = absurd (ended-not w.k s.book s.copying ended w.booked w.copies)
    by_stands (Part part is) = absurd (let no : false ≡ true = ap (λ (x : Out). has_none (NextOut (Ok x))) (sym is) ∙ none in cc)

one-out : (s : State) (e : Event) → AllEnded s.book s.copying → Allows s e → has_none e ≡ true → has_no_more e ≡ false → AllOut s
one-out s (NextOut (Ok o)) ended allows none more = none-out s o ended allows.1 none more
one-out s _ ended allows none more = absurd cc

pub quiet-out : (s : State) (es : List Event) → AllEnded s.book s.copying → AllEngineCalls es → list_any moves_in es ≡ false → IsExact s es → last_is has_none es ≡ true → last_is has_no_more es ≡ false → AllOut s
quiet-out s [] ended calls still exact none more = absurd cc
quiet-out s (e ∷ []) ended calls still exact none more = one-out s e ended exact.0 none more
quiet-out s (e ∷ f ∷ es) ended calls still exact none more =
    let n = neither (moves_in e) (list_any moves_in (f ∷ es)) still in
    let same : after s e ≡ s = still-all s (e ∷ []) (calls.0, tt) (ap (λ (b : Bool). b || false) n.0) in
    subst AllOut same (quiet-out (after s e) (f ∷ es) (subst (λ (x : State). AllEnded x.book x.copying) (sym same) ended) calls.1 n.1 exact.2 none more)
  where
    neither : (b c : Bool) → (b || c) ≡ false → (b ≡ false) × (c ≡ false)
    neither true c h = absurd cc
    neither false c h = (refl, h)

pub dropped : {X : Type 0} (n : ℕ) (xs : List X) → drop n xs ≡ [] → length xs ≤ n
dropped zero [] e = omega arith
dropped zero (x ∷ xs) e = absurd cc
dropped (suc n) [] e = omega arith
dropped (suc n) (x ∷ xs) e = let rest = dropped n xs e in omega (arith, rest)

not-less : (a b : ℕ) → nat_lt a b ≡ false → b ≤ a
not-less a b e = grind (arith, nat_tests)

module _ {C T A E : Type 0} (speech : Speech C T A E) where
  module _ (s t : Streams) (l m : LinkView) (events : List Event) (unmoved : t.moved ≡ false) (not_full : some_is is_full events ≡ false) (w : Waits s t l m events) where
    never : IsTrue l.steady → WasBlocked t.moved l m → ⊥
    never steady was = was.not_steady steady

    settles : ReadDry t l m → IsTrue l.steady → IsSettled t l m events
    settles dry steady =
        let active = is-false t.closing (λ closing. never steady (w.closing closing)) in
        let all = written w.writing in
        record {
          dry = dry;
          active = active;
          sent = all.0;
          none_left = all.1;
          not_over = is-false (last_is has_no_more events) (λ none. over active (w.must (ap not not_full) none));
        }
      where
        written : StopsWriting t l m events → (t.unsent ≡ []) × (last_is has_none events ≡ true)
        written (inl blocked) = absurd (never steady blocked)
        written (inr all) = (all.0, all.1)

        over : t.closing ≡ false → (t.closing ≡ true) ⊎ WasBlocked t.moved l m → ⊥
        over active (inl closing) = contradicts t.closing closing active
        over active (inr blocked) = never steady blocked

    blocks : WasBlocked t.moved l m → WentQuietly t l m events
    blocks was = record { quiet = was.quiet; lulls = was.lulls unmoved; settled = λ steady. absurd (never steady was) }

    pub went-quietly : (s.closing ≡ true → t.closing ≡ true) → WentQuietly t l m events
    went-quietly stays = by w.reading
      where
        by : (s.closing ≡ true) ⊎ (((some_is is_full events ≡ true) × SomeGivesBack (waiting t.held) events) ⊎ ReadDry t l m) → WentQuietly t l m events
        by (inl closing) = blocks (w.closing (stays closing))
        by (inr (inl full)) = contradicts (some_is is_full events) full.0 not_full
        by (inr (inr dry)) = record { quiet = dry.quiet; lulls = dry.lulls unmoved; settled = settles dry }

  -- a request went out whose group hasn't ended
  open-request : (scripts : List (List C)) (s : SessionState T A E) (l : LinkView) (t : SessionState T A E) (m : LinkView) (q : QuietRound speech scripts s l t m) →
      AllOut (state_of q.reached) → t.hub.finished < t.hub.started
  open-request scripts s l t m q all = by q.awaits all.more
    where
      by : IsAwaited speech t.handles (state_of q.reached) ⊎ ((t.unanswered ≡ 0) × (t.hub.closed ≡ true)) →
          (has_open (state_of q.reached) ≡ true) ⊎ ((state_of q.reached).closed ≡ false) →
          t.hub.finished < t.hub.started
      by (inl awaited) more =
          let st = state_of q.reached in
          let order = q.before.in_order in
          let unended : finished st.deliveries ≤ awaited.place.reads =
          not-less awaited.place.reads (finished st.deliveries) (sym (ended-counted st.deliveries order.owners awaited.place.reads) ∙ awaited.unended) in
          omega (arith, awaited.booked, unended, all-began (length st.gone_out) st.book q.reached.fits.in_order.all (dropped (length st.gone_out) (wire st.book) all.parts), q.reached.fits.finished, q.reached.fits.parts.started)
      by (inr done) (inl less) = omega (arith, open-less (state_of q.reached) q.before.in_order less, q.reached.fits.finished, q.reached.fits.parts.started)
      by (inr done) (inr active) = contradicts t.hub.closed done.1 (q.reached.fits.closed ∙ active)

  -- ---- the bytes

  module _ (call : Call) (settings : Settings) (opening : List ℕ) (first : List RawMessage) (t : SessionState T A E) (l m : LinkView) (events : List Event)
      (done : IsDone settings call.nonce opening first)
      (h : StoodIn speech opening first call.before t m) (asks : AsksWhole speech t) (settled : IsSettled (left_open t.streams) l m events) where
    abbrev st : State
    st = after_all (start 0 0) h.events

    abbrev later : List RawMessage
    later = h.read ++ (h.lost ++ messages t.streams.buffer.items)

    later-is : later ≡ h.read
    later-is =
        ap (λ (x : List RawMessage). h.read ++ (x ++ messages t.streams.buffer.items)) (none_lost t.streams.unread h.lost settled.dry.cleared.unread h.unread)
        ∙ ap (λ (x : List RawMessage). h.read ++ x) settled.dry.decoded.none_whole ∙ append-nil h.read

    ran : Ran st
    ran = ran-all (start 0 0) h.events (ran-start 0 0) h.legal

    sync-is : sync_of h.read ≡ received st.deliveries
    sync-is = h.delivered ∙ ap (λ (x : List RawMessage). delivered_by h.events ++ x) settled.dry.cleared.held ∙ append-nil (delivered_by h.events) ∙ sym (received-all (start 0 0) h.events)

    groups-are : whole_groups later ≡ finished st.deliveries
    groups-are =
        ap (λ (x : List RawMessage). whole_groups x) later-is
        ∙ ap (λ (x : List RawMessage). count_by is_whole_group (cut_after is_ready x)) sync-is ∙ groups-ended st.deliveries ran.cut

    requests : AreRequests st.gone_out
    requests =
        let front : IsFrontOf st.gone_out (wire st.book) = (legal-sound 0 0 h.events h.legal).out_is_front in
        let tame = tame-in st t.hub h.fits asks.hub.tame in
        front-requests st.gone_out front.0 (subst AreRequests (sym front.1) (wire-asks st.book tame.asks))

    pub taken-is : h.taken ≡ opening ++ joined st.gone_out
    taken-is =
        sym (append-nil h.taken) ∙ ap (λ (x : List ℕ). h.taken ++ x) (sym settled.sent) ∙ sym h.out
        ∙ ap (λ (c : Bool). (opening ++ bytes_out_by h.events) ++ goodbye false c) settled.active ∙ append-nil (opening ++ bytes_out_by h.events)
        ∙ ap (λ (x : List ℕ). opening ++ x) (sym (out-all (start 0 0) h.events))

    pub units-are : whole_units h.taken ≡ length st.gone_out
    units-are = ap whole_units taken-is ∙ units-sent settings opening st.gone_out (done-opening settings call.nonce opening first done) requests

    -- a request was taken whole whose reply isn't whole
    pub request-awaited : NeedsNoTls settings → t.hub.finished < t.hub.started → Awaited call settings h.given h.taken
    request-awaited plain less =
        let all : messages h.given ≡ first ++ later = h.came_off ∙ append_assoc first h.read (h.lost ++ messages t.streams.buffer.items) in
        let started = is-started settings call.nonce opening first later (messages h.given) done all in
        let few = started-most (length st.gone_out) st.book h.fits.in_order.all in
        let fewer : whole_groups later < whole_units h.taken = omega (arith, groups-are, units-are, less, h.fits.finished, h.fits.parts.started, few) in
        inr (inr (plain, (length first, started.outcome, subst (λ (ms : List RawMessage). whole_groups ms < whole_units h.taken) (sym started.rest) fewer)))

  -- ---- the round

  pub stalled-round : (call : Call) (settings : Settings) (opening : List ℕ) (first : List RawMessage) (scripts : List (List C)) (s : SessionState T A E) (l : LinkView) (t : SessionState T A E) (m : LinkView)
      (waited : Bool) (before after : ℕ) → Means call.config settings → NeedsNoTls settings → IsDone settings call.nonce opening first →
      Keeps call.before l → Keeps call.before m → NoLull call.before m → (h : StoodIn speech opening first call.before t m) → AsksWhole speech t → QuietRound speech scripts s l t m →
      (waited ≡ true → IsTrue l.promised) → PauseFails l.quiet m.quiet waited m call.after (error.Stalled before after) → IsStalled call before after
  stalled-round call settings opening first scripts s l t m waited before after means plain done keeps-l keeps-m calm h asks q promised fails =
      let rests = rests-so waited m call.after fails.2 in
      let from : before ≡ l.quiet = fails.0 in
      let to : after ≡ m.quiet = fails.1 in
      let goes = q.polled.turns.goes in
      let went = went-quietly (fresh s.streams) (left_open t.streams) l m goes.events q.unmoved q.not_full goes.ended (λ closing. goes.passes.still_closing closing) in
      record {
        lulls = lulls-so waited call.before l m call.after keeps-l.counts.lulls keeps-m.counts.lulls promised went.lulls fails.2;
        from = omega (arith, keeps-l.counts.quiet, from);
        to = omega (arith, rests.keeps.counts.quiet, to);
        rose = subst (λ (n : ℕ). Rose n after) (sym from) (subst (λ (n : ℕ). Rose l.quiet n) (sym to) went.quiet);
        round = (
          omega (arith, q.misses.two, from, to),
          λ steady. let few = q.misses.steady (keeps-l.steady steady) in omega (arith, few, from, to),
        );
        last = omega (arith, last-so waited m call.after fails.2, to);
        exact = λ steady low. subst (λ (n : ℕ). call.after.quiet ≡ next_count n) (sym to)
            (exact-so waited call.before l m call.after keeps-l.counts.lulls (calm steady) low promised went.lulls fails.2);
        awaited = λ steady.
            let is_steady = keeps-l.steady steady in
            let settled = went.settled is_steady in
            let st = state_of q.reached in
            let exact = (goes.became.stands st q.before).0 in
            let still = none-moved q.hub t.hub s.streams t.streams l m _ false q.polled q.unmoved in
            let less = open-request scripts s l t m q (quiet-out st goes.events (tame-in st t.hub q.reached.fits asks.hub.tame).ended goes.calls still exact settled.none_left settled.not_over) in
            let awaits = request-awaited call settings opening first t l m goes.events done h asks settled plain less in (
              rests.bytes.due ∙ settled.dry.empty q.unmoved is_steady,
              (
                settings,
                means,
                of-bytes call.before call.after (Awaited call settings) (λ g tk e d.
                    subst (λ (x : List ℕ). Awaited call settings x tk) (sym (added-is call.before.given call.after.given h.given g (rests.bytes.given ∙ h.gave) e))
                    (subst (λ (x : List ℕ). Awaited call settings h.given x) (sym (added-is call.before.taken call.after.taken h.taken tk (rests.bytes.taken ∙ h.took) d)) awaits)),
              ),
            );
      }
