-- A session's events, the trace and the replies.
pub mod HubMoves
use Rattle.std.proofs.Common.{◌≡◌, ℕ, zero, suc, ◌^◌, ◌<◌, ◌≤◌, List, [], ◌∷◌, ◌++◌, length, take, drop, Bool, true, false, Some, cond, unwrap_or, slice_get, refl, sym, ap, ◌∙◌, subst, arith, not}
use Rattle.std.specs.Prelude.{filter}
use Rattle.std.proofs.lemmas.List.{append-nil, append_assoc, length-append, take-append-drop, take_at}
use Rattle.pg_promises.specs.Endings.{Report, Session, later_messages, replies}
use Rattle.pg_spec.specs.Links.{LinkView, added}
use Rattle.pg_spec.specs.RawMessages.{RawMessage, cut_after, is_aside, is_ready, sync_of}
use Rattle.pg_spec.specs.Settings.{Settings}
use Rattle.pg_spec.specs.Turns.{delivered_after, delivered_before}
use Rattle.pg_spec.specs.declared.stamps.TurnMark.{TurnMark}
use Rattle.pg_connect.proofs.Joining.{delivered_by-append}
use Rattle.pg_connect.specs.Passed.{delivered_by}
use Rattle.pg_connect.specs.Passes.{risen}
use Rattle.pg_desk.proofs.Soundness.{legal-sound}
use Rattle.pg_desk.specs.History.{State, start, after_all, joined, received, reply, taken, IsFrontOf, IsLegal}
use Rattle.pg_desk.specs.declared.event.Event.{Event}
use Rattle.pg_hub.specs.Fits.{Fits}
use Rattle.pg_session.proofs.Crossing.All.{all-crossed}
use Rattle.pg_session.proofs.Crossing.Hub.{received-all}
use Rattle.pg_session.proofs.Crossing.{Moves}
use Rattle.pg_session.proofs.EndsWell.{came-so}
use Rattle.pg_session.proofs.Histories.HubMoves.{Counts, Traced, close-moves, close-none, moves-then, traced-turns, turn-delivers, turn-marks, turn-moves, turns-deliver, turns-move}
use Rattle.pg_session.specs.Crossed.{session_of}
use Rattle.pg_session.specs.Events.{AreEvents, ReadsItsReply, events_by, events_in, events_in_close, events_in_turn, turn_events}
use Rattle.pg_session.proofs.Came.{counted-last}
use Rattle.pg_session.proofs.Takes.{taken-front}
use Rattle.pg_session.specs.Calls.{calls_in, calls_in_turn, calls_of}
use Rattle.pg_session.specs.Sessions.{HasPlayed}
use Rattle.pg_session.specs.Speeches.{Speech}
use Rattle.pg_session.specs.States.{commands_in}

-- ---- lists

joined-append : (xs ys : List (List Event)) → joined (xs ++ ys) ≡ joined xs ++ joined ys
joined-append [] ys = refl
joined-append (x ∷ xs) ys = ap (λ (l : List Event). x ++ l) (joined-append xs ys) ∙ sym (append_assoc x (joined xs) (joined ys))

take-all : {X : Type 0} (xs : List X) → take (length xs) xs ≡ xs
take-all [] = refl
take-all {X} (x ∷ xs) = ap (λ (l : List X). x ∷ l) (take-all xs)

pub risen-small : (n : ℕ) → n < 2 ^ 64 → risen 0 n ≡ n
risen-small n h = omega arith

front-short : {A : Type 0} (xs ys : List A) → IsFrontOf xs ys → length xs ≤ length ys
front-short xs ys (more, e) = let long = length-append xs more in let same = ap length e in omega (arith, long, same)

front-take : {A : Type 0} (xs ys : List A) (n : ℕ) → IsFrontOf xs ys → length xs ≡ n → take n ys ≡ xs
front-take xs ys n (more, e) same = ap (take n) (sym e) ∙ take_at xs more n same

-- a front that is as long is all of it
front-whole : {A : Type 0} (xs ys : List A) → IsFrontOf xs ys → length xs ≡ length ys → ys ≡ xs
front-whole {A} xs ys (more, e) same = by more e
  where
    by : (more : List A) → xs ++ more ≡ ys → ys ≡ xs
    by [] e = sym e ∙ append-nil xs
    by (x ∷ more) e = let long = length-append xs (x ∷ more) in let all = ap length e in absurd (omega (arith, long, all, same))

kept-twice : {X : Type 0} (p : X → Bool) (xs : List X) → filter p (filter p xs) ≡ filter p xs
kept-twice p [] = refl
kept-twice {X} p (x ∷ xs) = by (p x) refl (kept-twice p xs)
  where
    by : (t : Bool) → p x ≡ t → filter p (filter p xs) ≡ filter p xs → filter p (cond t (x ∷ filter p xs) (filter p xs)) ≡ cond t (x ∷ filter p xs) (filter p xs)
    by true is h = ap (λ (b : Bool). cond b (x ∷ filter p (filter p xs)) (filter p (filter p xs))) is ∙ ap (λ (l : List X). x ∷ l) h
    by false is h = h

-- ---- the trace

counts-long : (before : List Event) (marks : List TurnMark) (events : List (List Event)) → Counts before marks events → length events ≡ length marks
counts-long before [] [] h = refl
counts-long before [] (es ∷ events) h = absurd h
counts-long before (m ∷ marks) [] h = absurd h
counts-long before (m ∷ marks) (es ∷ events) h = ap suc (counts-long (before ++ es) marks events h.1)

counts-at : (before : List Event) (marks : List TurnMark) (events : List (List Event)) → Counts before marks events → (n : ℕ) → n < length marks →
    delivered_after marks n ≡ risen 0 (length (delivered_by (before ++ joined (take (suc n) events))))
counts-at before [] events h n lt = absurd (omega (arith, lt))
counts-at before (m ∷ marks) [] h n lt = absurd h
counts-at before (m ∷ marks) (es ∷ events) h zero lt = h.0 ∙ ap (λ (l : List Event). risen 0 (length (delivered_by (before ++ l)))) (sym (append-nil es))
counts-at before (m ∷ marks) (es ∷ events) h (suc n) lt =
    counts-at (before ++ es) marks events h.1 n (omega (arith, lt))
    ∙ ap (λ (l : List Event). risen 0 (length (delivered_by l))) (append_assoc before es (joined (take (suc n) events)))

-- what the first turns delivered is a front of what all did
delivered-front : (before : List Event) (events : List (List Event)) (n : ℕ) →
    IsFrontOf (delivered_by (before ++ joined (take n events))) (delivered_by (before ++ joined events))
delivered-front before events n = (
  delivered_by (joined (drop n events)),
  sym (delivered_by-append (before ++ joined (take n events)) (joined (drop n events)))
      ∙ ap delivered_by (append_assoc before (joined (take n events)) (joined (drop n events))
      ∙ ap (λ (l : List Event). before ++ l) (sym (joined-append (take n events) (drop n events)) ∙ ap joined (take-append-drop n events))),
)

module _ {C T A E : Type 0} (speech : Speech C T A E) where
  -- ---- a session that was played

  module _ (settings : Settings) (nonce : List ℕ) (scripts : List (List C)) (given : List ℕ) (before after : LinkView) (report : Report A)
      (p : HasPlayed speech settings nonce scripts given before after report) where
    abbrev pub first : List Event
    first = events_in_close (commands_in scripts)

    abbrev pub events : List (List Event)
    events = turn_events speech scripts given p.new p.link p.last after p.plays

    abbrev pub whole : List Event
    whole = events_by scripts events (length events)

    -- the turns but the last, and the last
    abbrev pub earlier : List (List Event)
    earlier = events_in speech scripts p.plays.turns p.new p.link p.plays.ends.state p.plays.ends.link p.plays.ends.before

    abbrev pub last : List Event
    last = events_in_turn speech scripts p.plays.last p.plays.ends.state p.last p.plays.ends.link after true p.plays.ends.over

    whole-is : whole ≡ first ++ joined events
    whole-is = ap (λ (l : List (List Event)). first ++ joined l) (take-all events)

    parts : joined events ≡ joined earlier ++ last
    parts = joined-append earlier (last ∷ []) ∙ ap (λ (l : List Event). joined earlier ++ l) (append-nil last)

    moves : Moves p.is_new.hub whole p.last.hub
    moves = subst (λ (l : List Event). Moves p.is_new.hub l p.last.hub) (sym (whole-is ∙ ap (λ (l : List Event). first ++ l) parts))
        (moves-then p.is_new.hub p.new.hub p.last.hub first (joined earlier ++ last) (close-moves (commands_in scripts) p.is_new.hub p.new.hub p.is_new.closes)
        (moves-then p.new.hub p.plays.ends.state.hub p.last.hub (joined earlier) last
        (turns-move speech scripts p.plays.turns p.new p.link p.plays.ends.state p.plays.ends.link p.plays.ends.before)
        (turn-moves speech scripts p.plays.last p.plays.ends.state p.last p.plays.ends.link after true p.plays.ends.over)))

    -- the state that its events led to
    abbrev pub at_end : State
    at_end = after_all (start 0 0) whole

    pub legal : IsLegal (start 0 0) whole
    legal = (moves (start 0 0) p.is_new.new).0

    pub fits : Fits at_end p.last.hub
    fits = (moves (start 0 0) p.is_new.new).1

    none-first : delivered_by first ≡ []
    none-first = close-none (commands_in scripts)

    traced : Traced speech first p.new p.last events
    traced = traced-turns speech first scripts p.plays.turns p.new p.link p.plays.ends.state p.plays.ends.link p.plays.ends.before p.plays.last p.last last
        (p.fresh.delivered ∙ started) (turn-marks speech scripts p.plays.last p.plays.ends.state p.last p.plays.ends.link after true p.plays.ends.over)
      where
        started : 0 ≡ risen 0 (length (delivered_by first))
        started = ap (λ (ms : List RawMessage). risen 0 (length ms)) (sym none-first)

    trace-is : report.trace ≡ traced.marks
    trace-is = p.reports.trace ∙ traced.trace ∙ ap (λ (l : List TurnMark). l ++ traced.marks) p.is_new.trace

    -- the connection's calls delivered all of it
    delivers : delivered_by (first ++ joined events) ≡ delivered_by (calls_of speech scripts given p.new p.link p.last after p.plays)
    delivers =
        let es = calls_in speech scripts p.plays.turns p.new p.link p.plays.ends.state p.plays.ends.link p.plays.ends.before in
        let fs = calls_in_turn speech scripts p.plays.last p.plays.ends.state p.last p.plays.ends.link after true p.plays.ends.over in
        delivered_by-append first (joined events) ∙ ap (λ (ms : List RawMessage). ms ++ delivered_by (joined events)) none-first
        ∙ ap delivered_by parts ∙ delivered_by-append (joined earlier) last
        ∙ ap (λ (ms : List RawMessage). ms ++ delivered_by last) (turns-deliver speech scripts p.plays.turns p.new p.link p.plays.ends.state p.plays.ends.link p.plays.ends.before)
        ∙ ap (λ (ms : List RawMessage). delivered_by es ++ ms) (turn-delivers speech scripts p.plays.last p.plays.ends.state p.last p.plays.ends.link after true p.plays.ends.over)
        ∙ sym (delivered_by-append es fs)

    pub came-all : received at_end.deliveries ≡ delivered_by (calls_of speech scripts given p.new p.link p.last after p.plays)
    came-all = received-all (start 0 0) whole ∙ ap delivered_by whole-is ∙ delivers

    -- the trace counts them
    pub counted-all : delivered_before report.trace (length report.trace) ≡ risen 0 (length (delivered_by (calls_of speech scripts given p.new p.link p.last after p.plays)))
    counted-all =
        let mark : TurnMark = record { turn = p.plays.last; delivered = p.last.streams.delivered } in
        let made = turn-marks speech scripts p.plays.last p.plays.ends.state p.last p.plays.ends.link after true p.plays.ends.over in
        ap (λ (l : List TurnMark). delivered_before l (length l)) (p.reports.trace ∙ made.trace) ∙ counted-last p.plays.ends.state.trace mark
        ∙ traced.now ∙ ap (λ (ms : List RawMessage). risen 0 (length ms)) delivers

    pub are-events : AreEvents scripts report events
    are-events = record {
      each_turn = counts-long first traced.marks events traced.counts ∙ ap (λ (l : List TurnMark). length l) (sym trace-is);
      legal = legal;
    }

    -- by the bytes that the link gave
    module _ (g t : List ℕ) (gave : added before.given after.given ≡ Some g) (took : added before.taken after.taken ≡ Some t) where
      abbrev pub s : Session C A
      s = session_of settings nonce scripts given report g

      abbrev pub all : List RawMessage
      all = delivered_by (calls_of speech scripts given p.new p.link p.last after p.plays)

      came-less : length all < 2 ^ 64
      came-less =
          let came = came-so speech settings nonce scripts given before after report p g gave in
          let short = front-short all (sync_of (later_messages s)) came.front in let small = came.small in omega (arith, short, small)

      sync : sync_of (later_messages s) ≡ all
      sync =
          let came = came-so speech settings nonce scripts given before after report p g gave in
          let crossed = all-crossed speech settings nonce scripts given before after report p g t gave took in
          front-whole all (sync_of (later_messages s)) came.front (sym (risen-small (length all) came-less) ∙ sym counted-all ∙ crossed.delivered_all)

      -- the replies are those of the synchronous messages alone
      reply-is : (k : ℕ) → reply k (sync_of (later_messages s)) ≡ unwrap_or (slice_get (replies s) k) []
      reply-is k = ap (λ (l : List RawMessage). unwrap_or (slice_get (cut_after is_ready l) k) []) (kept-twice (λ (m : RawMessage). not (is_aside m)) (later_messages s))

      took-front : (k : ℕ) → IsFrontOf (joined (taken k at_end.takes)) (unwrap_or (slice_get (replies s) k) [])
      took-front k =
          let came : received at_end.deliveries ≡ sync_of (later_messages s) = came-all ∙ sym sync in
          subst (λ (l : List RawMessage). IsFrontOf (joined (taken k at_end.takes)) l) (ap (reply k) came ∙ reply-is k) (taken-front at_end k (legal-sound 0 0 whole legal))

      delivered-at : (place : ℕ) → place < length report.trace →
          received (after_all (start 0 0) (events_by scripts events (suc place))).deliveries ≡ take (delivered_after report.trace place) (sync_of (later_messages s))
      delivered-at place lt =
          let by : List Event = events_by scripts events (suc place) in
          let front : IsFrontOf (delivered_by by) all = subst (λ (l : List RawMessage). IsFrontOf (delivered_by by) l) delivers (delivered-front first events (suc place)) in
          let made : place < length traced.marks = omega (arith, lt, ap (λ (l : List TurnMark). length l) trace-is) in
          let count : delivered_after report.trace place ≡ length (delivered_by by) =
          ap (λ (l : List TurnMark). delivered_after l place) trace-is ∙ counts-at first traced.marks events traced.counts place made
          ∙ risen-small (length (delivered_by by)) (omega (arith, front-short (delivered_by by) all front, came-less)) in
          received-all (start 0 0) by
          ∙ sym (ap (λ (n : ℕ). take n (sync_of (later_messages s))) count ∙ ap (take (length (delivered_by by))) sync ∙ front-take (delivered_by by) all (length (delivered_by by)) front refl)

      pub reads-so : ReadsItsReply scripts s events
      reads-so = record {
        took = took-front;
        delivered = λ place lt. delivered-at place (lt);
      }
