-- A session that was played ended well.
use Rattle.std.proofs.Common.{◌≡◌, ℕ, ◌^◌, ◌<◌, List, length, map, Some, sym, ap, ◌∙◌, subst, arith, not}
use Rattle.std.proofs.lemmas.List.{length-append}
use Rattle.pg_promises.specs.Endings.{EndedWell, Report, Session, course_of, later_messages}
use Rattle.pg_spec.specs.Book as said
use Rattle.pg_spec.specs.Links.{LinkView, added}
use Rattle.pg_spec.specs.RawMessages.{RawMessage, groups, is_aside, messages, sync_of}
use Rattle.pg_spec.specs.Settings.{Settings}
use Rattle.pg_spec.specs.declared.stamps.TurnMark.{TurnMark}
use Rattle.pg_connect.specs.Passed.{delivered_by}
use Rattle.pg_spec.specs.Meanings.{HasRun}
use Rattle.pg_desk.specs.History.{IsFrontOf}
use Rattle.pg_core.specs.Trails.{said_booking}
use Rattle.pg_session.proofs.Ran.{session-has-run}
use Rattle.pg_session.proofs.Crossing.All.{all-crossed, fewer-messages, filter-short}
use Rattle.pg_session.proofs.Crossing.End.{added-is, of-bytes}
use Rattle.pg_session.proofs.LivesLink.{came-behind}
use Rattle.pg_session.proofs.Opening.{done-of, is-started}
use Rattle.pg_session.specs.Crossed.{session_of}
use Rattle.pg_session.specs.WholeSession.{EndsWell}
use Rattle.pg_session.specs.Calls.{asked_of, calls_of}
use Rattle.pg_session.specs.Sessions.{HasPlayed}
use Rattle.pg_session.specs.Speeches.{AreCommands, Speech, meaning_of}

-- ---- what came

-- what came to the hub is a front of the synchronous messages behind the startup, and they are counted by 64 bits
pub record CameSo {C A : Type 0} (s : Session C A) (all : List RawMessage) : Type 0 where
  pub front : IsFrontOf all (sync_of (later_messages s))
  pub small : length (sync_of (later_messages s)) < 2 ^ 64

module _ {C T A E : Type 0} (speech : Speech C T A E) where
  pub came-so : (settings : Settings) (nonce : List ℕ) (scripts : List (List C)) (given : List ℕ) (before after : LinkView) (report : Report A) →
      (p : HasPlayed speech settings nonce scripts given before after report) → (g : List ℕ) → added before.given after.given ≡ Some g →
      CameSo (session_of settings nonce scripts given report g) (delivered_by (calls_of speech scripts given p.new p.link p.last after p.plays))
  came-so settings nonce scripts given before after report p g e =
      let s = session_of settings nonce scripts given report g in
      let cb = came-behind speech settings nonce scripts given before after report p in
      let all = delivered_by (calls_of speech scripts given p.new p.link p.last after p.plays) in
      let g-is : g ≡ cb.got = added-is before.given after.given cb.got g cb.given e in
      let started = is-started settings nonce p.opening p.opened.read cb.more (messages g)
      (done-of settings nonce p.opening before p.link p.startup p.new.streams p.opened p.fresh) (ap messages g-is ∙ cb.behind) in
      let later : later_messages s ≡ cb.more = started.rest in
      record {
        front = subst (λ (ms : List RawMessage). IsFrontOf all (sync_of ms)) (sym later) cb.front;
        small = omega (
          arith,
          filter-short (λ (m : RawMessage). not (is_aside m)) cb.more,
          ap (λ (ms : List RawMessage). length (sync_of ms)) later,
          fewer-messages cb.got,
          ap length cb.behind,
          length-append p.opened.read cb.more,
          cb.counted,
          p.counted,
        );
      }

  -- ---- what its commands did

  -- by any messages of which a front came
  pub has-run-by : AreCommands speech → (settings : Settings) (nonce : List ℕ) (scripts : List (List C)) (given : List ℕ) (before after : LinkView) (report : Report A) →
      (p : HasPlayed speech settings nonce scripts given before after report) → (later : List RawMessage) →
      IsFrontOf (delivered_by (calls_of speech scripts given p.new p.link p.last after p.plays)) (sync_of later) → length (sync_of later) < 2 ^ 64 →
      HasRun (meaning_of speech) scripts given report.answers (course_of report (groups later) (asked_of speech scripts given p.new p.link p.last after p.plays))
  has-run-by commands settings nonce scripts given before after report p later front small =
      let qs = asked_of speech scripts given p.new p.link p.last after p.plays in
      let ran = session-has-run speech commands scripts given p.new p.link p.last after p.is_new p.fresh.active p.fresh.delivered p.plays later front small in
      subst (λ (as_ : List (List A)). HasRun (meaning_of speech) scripts given as_ (course_of report (groups later) qs)) (sym p.reports.answers)
      (subst (λ (bs : List said.Booking). HasRun (meaning_of speech) scripts given (map (λ h. h.answers) p.last.handles) (record { trace = report.trace; book = bs; replies = groups later; asked = qs })) (sym p.reports.book)
      (subst (λ (tr : List TurnMark). HasRun (meaning_of speech) scripts given (map (λ h. h.answers) p.last.handles) (record { trace = tr; book = map said_booking p.last.hub.book; replies = groups later; asked = qs })) (sym p.reports.trace)
      ran))

  -- ---- all of it

  ended : AreCommands speech → (settings : Settings) (nonce : List ℕ) (scripts : List (List C)) (given : List ℕ) (before after : LinkView) (report : Report A) →
      (p : HasPlayed speech settings nonce scripts given before after report) → (g t : List ℕ) →
      added before.given after.given ≡ Some g → added before.taken after.taken ≡ Some t → EndedWell (meaning_of speech) (session_of settings nonce scripts given report g) t
  ended commands settings nonce scripts given before after report p g t e d =
      let c = all-crossed speech settings nonce scripts given before after report p g t e d in
      let came = came-so settings nonce scripts given before after report p g e in
      record {
        asked = asked_of speech scripts given p.new p.link p.last after p.plays;
        has_run = has-run-by commands settings nonce scripts given before after report p (later_messages (session_of settings nonce scripts given report g)) came.front came.small;
        no_tls = c.sends.no_tls;
        started = c.sends.started;
        one_group_each = c.one_group_each;
        whole_groups = c.whole_groups;
        no_bad_header = c.no_bad_header;
        sent = c.sends.sent;
        reported = c.sends.reported;
        delivered_front = c.sends.delivered_front;
        delivered_all = c.delivered_all;
        readable = c.readable;
        asynchronous = c.asynchronous;
        parameters = c.parameters;
        key = c.key;
      }

  pub ends-well : AreCommands speech → (settings : Settings) (nonce : List ℕ) (scripts : List (List C)) (given : List ℕ) (before after : LinkView) (report : Report A) →
      (p : HasPlayed speech settings nonce scripts given before after report) → EndsWell speech settings nonce scripts given before after report
  ends-well commands settings nonce scripts given before after report p =
      of-bytes before after (λ g t. EndedWell (meaning_of speech) (session_of settings nonce scripts given report g) t)
      (λ g t e d. ended commands settings nonce scripts given before after report p g t e d)
