-- What came to a session's hub, by what its link gave.
use Rattle.std.proofs.Common.{◌≡◌, ℕ, arith, length, List, [], ◌∷◌, ◌++◌, Bool, true, false, Option, Some, None, Ok, Err, refl, sym, ap, ◌∙◌, subst, inl, inr, append_assoc}
use Rattle.std.proofs.lemmas.List.{append-nil, length-append}
use Rattle.std.proofs.lemmas.List.Elements.{filter-append}
use Rattle.futures.specs.declared.task.Poll.{Poll}
use Rattle.futures.specs.declared.task.Poll.TheVariants.{Ready, Pending}
use Rattle.pg_spec.specs.Links.{LinkView, Grew}
use Rattle.pg_spec.specs.RawMessages.{RawMessage, messages, bytes_left, sync_of}
use Rattle.pg_spec.specs.Settings.{Settings}
use Rattle.pg_spec.specs.Startup.{plain_login}
use Rattle.pg_connect.proofs.Joining.{grew_then, came_off_then, rest_then, none_lost, relay, delivered_by-append}
use Rattle.pg_connect.specs.Answers.{PollAnswers, fresh, left_open}
use Rattle.pg_connect.specs.Passed.{delivered_by}
use Rattle.pg_connect.specs.Passes.{Passes, IsUnread, waiting}
use Rattle.pg_startup.specs.StartupPolls.{IsFresh}
use Rattle.pg_startup.specs.Startups.{Opened}
use Rattle.pg_startup.specs.declared.startup.Startup.{Startup}
use Rattle.pg_connect.specs.declared.streams.Streams.{Streams}
use Rattle.pg_desk.specs.declared.event.Event.{Event}
use Rattle.pg_errors.specs.declared.async_message.AsyncMessage.{AsyncMessage}
use Rattle.pg_types.specs.declared.error.Error.{Error}
use Rattle.pg_hub.specs.Fits.{HubBecomes}
use Rattle.pg_hub.specs.Standing.{Standing}
use Rattle.pg_promises.specs.Endings.{Report}
use Rattle.pg_wire.specs.declared.message.Message.{Message}
use Rattle.std.specs.Prelude.{Result}
use Rattle.pg_session.specs.Lives.{CameBehind}
use Rattle.pg_session.specs.Calls.{calls_in_poll, calls_in_turn, calls_in, calls_of}
use Rattle.pg_session.specs.Sessions.{MakesAll, HasPlayed, Rests}
use Rattle.pg_session.specs.States.{SessionState}
use Rattle.pg_session.specs.Turns.{HandsOn, Makes}
use Rattle.pg_session.specs.Speeches.{Speech}

-- what the link gave since the startup began was read, or lies there, and this was delivered of it
pub record CameSo (first : List RawMessage) (base l : LinkView) (s : Streams) (all : List RawMessage) : Type 0 where
  pub got : List ℕ
  pub given : Grew base.given l.given got
  pub count : s.given ≡ length got
  pub passed : List RawMessage
  pub lost : List RawMessage
  pub came_off : messages got ≡ (first ++ passed) ++ (lost ++ messages s.buffer.items)
  pub rest : bytes_left got ≡ bytes_left s.buffer.items
  pub unread : IsUnread s.unread lost
  pub delivered : sync_of passed ≡ all ++ waiting s.held

came-passed : (first : List RawMessage) (base l m : LinkView) (s t : Streams) (all : List RawMessage) (es : List Event) (hs : List RawMessage) →
    CameSo first base l s all →
    Passes (fresh s) (left_open t) l m es hs → CameSo first base m t (all ++ delivered_by es)
came-passed first base l m s t all es hs is p = record {
  got = is.got ++ p.got;
  given = grew_then base.given l.given m.given is.got p.got is.given p.given;
  count = omega (arith, p.count, is.count, length-append is.got p.got);
  passed = is.passed ++ p.read;
  lost = p.lost;
  came_off = came_off_then [] s.buffer.items is.got p.got (first ++ is.passed) p.read (p.lost ++ messages t.buffer.items)
      (is.came_off ∙ ap (λ (x : List RawMessage). (first ++ is.passed) ++ (x ++ messages s.buffer.items)) (none_lost s.unread is.lost p.all_read is.unread)) is.rest p.came_off
      ∙ ap (λ (x : List RawMessage). x ++ (p.lost ++ messages t.buffer.items)) (append_assoc first is.passed p.read);
  rest = rest_then [] s.buffer.items t.buffer.items is.got p.got is.rest p.rest;
  unread = p.unread;
  delivered = filter-append _ is.passed p.read
      ∙ relay [] (sync_of is.passed) all (waiting s.held) (sync_of p.read) (delivered_by es) (waiting t.held) is.delivered p.delivered;
}

came-rested : (first : List RawMessage) (base l m : LinkView) (s : Streams) (all : List RawMessage) → Rests l m → CameSo first base l s all →
    CameSo first base m s all
came-rested first base l m s all r is = record {
  got = is.got;
  given = r.bytes.given ∙ is.given;
  count = is.count;
  passed = is.passed;
  lost = is.lost;
  came_off = is.came_off;
  rest = is.rest;
  unread = is.unread;
  delivered = is.delivered;
}

came-polled : (first : List RawMessage) (base l m : LinkView) (a b : Standing) (s t : Streams) (all : List RawMessage)
    (answer : Poll (Option (Result AsyncMessage Error))) (p : PollAnswers HubBecomes a b s t l m answer) →
    (was now : List AsyncMessage) (over : Bool) → HandsOn answer was now over → CameSo first base l s all →
    CameSo first base m t (all ++ delivered_by (calls_in_poll a b s t l m answer p))
came-polled first base l m a b s t all Pending p was now over hands is = came-passed first base l m s t all p.turns.goes.events p.turns.handed is p.turns.goes.passes
came-polled first base l m a b s t all (Ready None) p was now over hands is = came-passed first base l m s t all p.turns.goes.events p.turns.handed is p.turns.goes.passes
came-polled first base l m a b s t all (Ready (Some (Ok message))) p was now over hands is = came-passed first base l m s t all p.turns.goes.events p.turns.handed is p.turns.goes.passes
came-polled first base l m a b s t all (Ready (Some (Err e))) p was now over hands is = absurd hands

-- where the session begins
pub came-first : (settings : Settings) (nonce : List ℕ) (before link : LinkView) (startup : Startup) (opening : List ℕ) (s : Streams) →
    (o : Opened (plain_login settings nonce) 0 before link startup) → IsFresh startup opening s →
    CameSo o.read before link s []
came-first settings nonce before link startup opening s o f = record {
  got = o.got;
  given = o.given;
  count = omega (arith, f.given, o.count);
  passed = [];
  lost = [];
  came_off = o.came.messages ∙ ap (λ (l : List ℕ). o.read ++ messages l) (sym f.buffer) ∙ ap (λ (l : List RawMessage). l ++ messages s.buffer.items) (sym (append-nil o.read));
  rest = o.came.left ∙ ap bytes_left (sym f.buffer);
  unread = subst (λ (x : Option Message). IsUnread x []) (sym f.unread) refl;
  delivered = sym (ap waiting f.held);
}

module _ {C T A E : Type 0} (speech : Speech C T A E) where
  pub came-turn : (first : List RawMessage) (base : LinkView) (all : List RawMessage) (scripts : List (List C)) (turn : ℕ) (s t : SessionState T A E)
      (l m : LinkView) (over : Bool) → (made : Makes speech scripts turn s t l m over) →
      CameSo first base l s.streams all → CameSo first base m t.streams (all ++ delivered_by (calls_in_turn speech scripts turn s t l m over made))
  came-turn first base all scripts turn s t l m over (inl handle) is =
      subst (λ (ms : List RawMessage). CameSo first base m t.streams ms) (sym (append-nil all))
      (subst (λ (x : LinkView). CameSo first base x t.streams all) (sym handle.link)
      (subst (λ (x : Streams). CameSo first base l x all) (sym handle.made.streams) is))
  came-turn first base all scripts turn s t l m over (inr connection) is =
      let made = connection.made in
      came-polled first base l m s.hub t.hub s.streams t.streams all made.answer made.polled s.asynchronous t.asynchronous over made.hands is

  pub came-turns : (first : List RawMessage) (base : LinkView) (all : List RawMessage) (scripts : List (List C)) (turns : List ℕ) (s : SessionState T A E)
      (l : LinkView) (t : SessionState T A E) (m : LinkView) →
      (made : MakesAll speech scripts turns s l t m) → CameSo first base l s.streams all →
      CameSo first base m t.streams (all ++ delivered_by (calls_in speech scripts turns s l t m made))
  came-turns first base all scripts [] s l t m made is =
      subst (λ (ms : List RawMessage). CameSo first base m t.streams ms) (sym (append-nil all))
      (subst (λ (x : SessionState T A E). CameSo first base m x.streams all) (sym made.0) (came-rested first base l m s.streams all made.1 is))
  came-turns first base all scripts (turn ∷ turns) s l t m (rested, mid, passed, rests, makes, more) is =
      let now = calls_in_turn speech scripts turn s mid rested passed false makes in
      let later = calls_in speech scripts turns mid passed t m more in
      let one = came-turn first base all scripts turn s mid rested passed false makes (came-rested first base l rested s.streams all rests is) in
      subst (λ (ms : List RawMessage). CameSo first base m t.streams ms)
      (append_assoc all (delivered_by now) (delivered_by later) ∙ ap (λ (ms : List RawMessage). all ++ ms) (sym (delivered_by-append now later)))
      (came-turns first base (all ++ delivered_by now) scripts turns mid passed t m more one)

  -- at the end of a session
  pub came-last : (settings : Settings) (nonce : List ℕ) (scripts : List (List C)) (given : List ℕ) (before after : LinkView) (report : Report A) →
      (p : HasPlayed speech settings nonce scripts given before after report) →
      CameSo p.opened.read before after p.last.streams (delivered_by (calls_of speech scripts given p.new p.link p.last after p.plays))
  came-last settings nonce scripts given before after report p =
      let ends = p.plays.ends in
      let first = p.opened.read in
      let es = calls_in speech scripts p.plays.turns p.new p.link ends.state ends.link ends.before in
      let fs = calls_in_turn speech scripts p.plays.last ends.state p.last ends.link after true ends.over in
      let begun = came-turns first before [] scripts p.plays.turns p.new p.link ends.state ends.link ends.before
      (came-first settings nonce before p.link p.startup p.opening p.new.streams p.opened p.fresh) in
      subst (λ (ms : List RawMessage). CameSo first before after p.last.streams ms) (sym (delivered_by-append es fs))
      (came-turn first before (delivered_by es) scripts p.plays.last ends.state p.last ends.link after true ends.over begun)

  -- what came to the hub is a front of what the link gave
  pub came-behind : (settings : Settings) (nonce : List ℕ) (scripts : List (List C)) (given : List ℕ) (before after : LinkView) (report : Report A) →
      (p : HasPlayed speech settings nonce scripts given before after report) →
      CameBehind p.opened.read before after (delivered_by (calls_of speech scripts given p.new p.link p.last after p.plays)) p.last.streams.given
  came-behind settings nonce scripts given before after report p =
      let all = delivered_by (calls_of speech scripts given p.new p.link p.last after p.plays) in
      let c = came-last settings nonce scripts given before after report p in
      let rest = c.lost ++ messages p.last.streams.buffer.items in
      record {
        got = c.got;
        given = c.given;
        counted = c.count;
        more = c.passed ++ rest;
        behind = c.came_off ∙ append_assoc p.opened.read c.passed rest;
        front = (
          waiting p.last.streams.held ++ sync_of rest,
          sym (append_assoc all (waiting p.last.streams.held) (sync_of rest)) ∙ ap (λ (ms : List RawMessage). ms ++ sync_of rest) (sym c.delivered) ∙ sym (filter-append _ c.passed rest),
        );
      }
