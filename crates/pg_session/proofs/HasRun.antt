-- What the commands of a session that ended did, also where its link tells no bytes.
use Rattle.std.proofs.Common.{◌≡◌, ℕ, ◌^◌, ◌<◌, ◌≤◌, List, [], ◌++◌, length, Bool, true, false, refl, sym, ap, ◌∙◌, subst, arith, not}
use Rattle.std.proofs.lemmas.List.{append-nil, length-append, length-map}
use Rattle.pg_promises.specs.Endings.{IsRun, Report}
use Rattle.pg_spec.specs.Book as said
use Rattle.pg_spec.specs.Links.{LinkView}
use Rattle.pg_spec.specs.RawMessages.{RawMessage, cut_after, groups, is_aside, is_ready, messages, sync_of}
use Rattle.pg_spec.specs.Settings.{Settings}
use Rattle.pg_connect.specs.Passed.{delivered_by}
use Rattle.pg_connect.specs.Passes.{risen}
use Rattle.pg_core.specs.Trails.{said_booking}
use Rattle.pg_desk.proofs.Owners.{none-open}
use Rattle.pg_desk.proofs.Parts.{all-began}
use Rattle.pg_desk.specs.History.{State, start, started_of, after_all, received, finished}
use Rattle.pg_desk.specs.declared.event.Booking.{Booking}
use Rattle.pg_session.proofs.Crossing.All.{fewer-messages, filter-short}
use Rattle.pg_session.proofs.Crossing.End.{Finished, all-out, finished as finish}
use Rattle.pg_session.proofs.Crossing.Groups.{AreWhole, all-whole}
use Rattle.pg_session.proofs.Crossing.Hub.{Ran, ends_whole, ran-all, ran-start}
use Rattle.pg_session.proofs.EndsWell.{has-run-by}
use Rattle.pg_session.proofs.Histories.{at_end, came-all, counted-all, fits, legal, risen-small, whole}
use Rattle.pg_session.proofs.LivesLink.{CameSo, came-last}
use Rattle.pg_session.specs.Calls.{asked_of, calls_of}
use Rattle.pg_session.specs.Sessions.{HasPlayed}
use Rattle.pg_session.specs.Speeches.{AreCommands, Speech, meaning_of}

is-true : (b : Bool) → (b ≡ false → ⊥) → b ≡ true
is-true true f = refl
is-true false f = absurd (f refl)

module _ {C T A E : Type 0} (speech : Speech C T A E) (settings : Settings) (nonce : List ℕ) (scripts : List (List C)) (given : List ℕ) (before after : LinkView) (report : Report A)
    (p : HasPlayed speech settings nonce scripts given before after report) where
  abbrev all : List RawMessage
  all = delivered_by (calls_of speech scripts given p.new p.link p.last after p.plays)

  came : CameSo p.opened.read before after p.last.streams all
  came = came-last speech settings nonce scripts given before after report p

  ends : Finished speech p.opening p.opened.read before after p.plays.ends.state p.last
  ends = finish speech settings nonce scripts given before after report p

  -- nothing is held back
  sync : sync_of came.passed ≡ all
  sync = came.delivered ∙ ap (λ (x : List RawMessage). all ++ x) (ends.stood.emptied ends.is_last.closing).held ∙ append-nil all

  small : length (sync_of came.passed) < 2 ^ 64
  small =
      let few = filter-short (λ (m : RawMessage). not (is_aside m)) came.passed in
      let fewer = fewer-messages came.got in
      let off = ap length came.came_off in
      let whole = length-append (p.opened.read ++ came.passed) (came.lost ++ messages p.last.streams.buffer.items) in
      let long = length-append p.opened.read came.passed in
      let count = came.count in
      let low = p.counted in
      omega (arith, few, fewer, off, whole, long, count, low)

  abbrev st : State
  st = at_end speech settings nonce scripts given before after report p

  -- each request has its reply, whole
  answered : AreWhole (length p.last.hub.book) (groups came.passed)
  answered =
      let now = fits speech settings nonce scripts given before after report p in
      let h = ends.stood in
      let was = after_all (start 0 0) h.events in
      let spent = h.spent ends.is_last.closing in
      let ran : Ran st = ran-all (start 0 0) (whole speech settings nonce scripts given before after report p) (ran-start 0 0) (legal speech settings nonce scripts given before after report p) in
      let none : started_of was ≤ finished was.deliveries = none-open was h.fits.in_order spent.answered in
      let out = ap (λ (x : List (List ℕ)). length x) (all-out p.opening p.opened.read before after p.last.hub p.last.streams p.last.asynchronous h ends.is_last.closing) in
      let began : started_of was ≡ length was.book = all-began (length was.gone_out) was.book h.fits.in_order.all (omega (arith, out)) in
      let few : finished was.deliveries ≤ started_of was = h.fits.in_order.ended in
      let book : length p.last.hub.book ≡ length was.book = ap (λ (x : List Booking). length x) h.fits.book in
      let started : p.last.hub.started ≡ started_of st = now.parts.started in
      let started_was : p.last.hub.started ≡ started_of was = h.fits.parts.started in
      let done : p.last.hub.finished ≡ finished st.deliveries = now.finished in
      let done_was : p.last.hub.finished ≡ finished was.deliveries = h.fits.finished in
      let whole_ends : ends_whole st.deliveries ≡ true =
      is-true (ends_whole st.deliveries) (λ e. let open_ : finished st.deliveries < started_of st = ran.tail e in omega (arith, open_, none, started, started_was, done, done_was)) in
      let count : finished st.deliveries ≡ length p.last.hub.book = omega (arith, none, began, few, book, done, done_was) in
      let same : received st.deliveries ≡ sync_of came.passed = came-all speech settings nonce scripts given before after report p ∙ sym sync in
      subst (λ (n : ℕ). AreWhole n (groups came.passed)) count
      (subst (λ (x : List RawMessage). AreWhole (finished st.deliveries) (cut_after is_ready x)) same (all-whole st.deliveries ran.cut whole_ends))

  pub has-ended : AreCommands speech → IsRun (meaning_of speech) scripts given report
  has-ended commands = record {
    later = came.passed;
    asked = asked_of speech scripts given p.new p.link p.last after p.plays;
    has_run = has-run-by speech commands settings nonce scripts given before after report p came.passed ([], append-nil all ∙ sym sync) small;
    one_group_each = answered.count ∙ sym (length-map p.last.hub.book said_booking) ∙ ap (λ (x : List said.Booking). length x) (sym p.reports.book);
    whole_groups = answered.whole;
    delivered_all = counted-all speech settings nonce scripts given before after report p ∙ ap (λ (ms : List RawMessage). risen 0 (length ms)) (sym sync) ∙ risen-small (length (sync_of came.passed)) small;
  }
