-- What stands where a turn of a session fails.
use Rattle.std.proofs.Common.{◌≡◌, inl, inr, ℕ, List, [], ◌∷◌, ◌++◌, length, true, false, Option, Some, None, Result, Ok, Err, sym, ap, subst, ◌∙◌, arith, append_assoc, length-append}
use Rattle.std.proofs.lemmas.List.Elements.{filter-append}
use Rattle.futures.specs.declared.task.Poll.{Poll}
use Rattle.futures.specs.declared.task.Poll.TheVariants.{Ready, Pending}
use Rattle.pg_spec.specs.Links.{LinkView, Grew}
use Rattle.pg_spec.specs.RawMessages.{RawMessage, messages, bytes_left, sync_of, async_of}
use Rattle.pg_wire.specs.LinkCalls.{Keeps}
use Rattle.pg_errors.specs.declared.async_message.AsyncMessage.{AsyncMessage}
use Rattle.pg_types.specs.declared.error.Error.{Error}
use Rattle.pg_desk.specs.declared.event.Event.{Event}
use Rattle.pg_desk.specs.History.{start, after_all, IsLegal}
use Rattle.pg_hub.specs.Standing.{Standing}
use Rattle.pg_hub.specs.Fits.{HubBecomes}
use Rattle.pg_connect.specs.declared.streams.Streams.{Streams}
use Rattle.pg_connect.specs.Answers.{PollAnswers, is_over, fresh, left_open}
use Rattle.pg_connect.specs.Passed.{delivered_by, bytes_out_by}
use Rattle.pg_connect.specs.Passes.{Passes, waiting, delayed_in, IsUnread, goodbye}
use Rattle.pg_connect.proofs.Joining.{relay, grew_then, came_off_then, rest_then, out_then, delivered_by-append, bytes_out_by-append, none_lost, keeps_then}
use Rattle.pg_session.specs.Sessions.{MakesAll, Rests}
use Rattle.pg_session.specs.States.{SessionState}
use Rattle.pg_session.specs.Turns.{HandsOn, Makes}
use Rattle.pg_session.proofs.Crossing.{Moves, Stood}
use Rattle.pg_session.specs.Speeches.{Speech}

-- ---- between two turns

-- Since the link was so it was kept, and took this and more. The connection is open, and may be given so many bytes.
pub record IsOpen (most : ℕ) (opening : List ℕ) (base : LinkView) (s : Streams) (l : LinkView) : Type 0 where
  pub keeps : Keeps base l
  pub more : List ℕ
  pub took : Grew base.taken l.taken (opening ++ more)
  pub goes_on : is_over s ≡ false
  pub limit : s.max_bytes ≡ most

-- the link took more
pub takes-on : (opening more sent : List ℕ) (a b c : Option (List ℕ)) → Grew a b (opening ++ more) → Grew b c sent → Grew a c (opening ++ (more ++ sent))
takes-on opening more sent a b c took then = subst (λ (x : List ℕ). Grew a c x) (append_assoc opening more sent) (grew_then a b c (opening ++ more) sent took then)

still-open : (most : ℕ) (opening : List ℕ) (base l m : LinkView) (s t : Streams) (es : List Event) (hs : List RawMessage) → IsOpen most opening base s l → is_over t ≡ false →
    Passes (fresh s) (left_open t) l m es hs → IsOpen most opening base t m
still-open most opening base l m s t es hs h goes_on p = record {
  keeps = keeps_then base l m h.keeps p.link;
  more = h.more ++ p.sent;
  took = takes-on opening h.more p.sent base.taken l.taken m.taken h.took p.taken;
  goes_on = goes_on;
  limit = p.limit ∙ h.limit;
}

open-poll : (most : ℕ) (opening : List ℕ) (base l m : LinkView) (a b : Standing) (s t : Streams) (old new : List AsyncMessage) (answer : Poll (Option (Result AsyncMessage Error))) →
    IsOpen most opening base s l → PollAnswers HubBecomes a b s t l m answer → HandsOn answer old new false → IsOpen most opening base t m
open-poll most opening base l m a b s t old new Pending h p hands = still-open most opening base l m s t p.turns.goes.events p.turns.handed h p.stands p.turns.goes.passes
open-poll most opening base l m a b s t old new (Ready None) h p hands = absurd (let no : false ≡ true = hands.1 in cc)
open-poll most opening base l m a b s t old new (Ready (Some (Ok message))) h p hands =
    still-open most opening base l m s t p.turns.goes.events p.turns.handed h p.stands p.turns.goes.passes
open-poll most opening base l m a b s t old new (Ready (Some (Err e))) h p hands = absurd hands

open-rests : (most : ℕ) (opening : List ℕ) (base l m : LinkView) (s : Streams) → IsOpen most opening base s l → Rests l m → IsOpen most opening base s m
open-rests most opening base l m s h rests = record {
  keeps = keeps_then base l m h.keeps rests.keeps;
  more = h.more;
  took = subst (λ (o : Option (List ℕ)). Grew base.taken o (opening ++ h.more)) (sym rests.bytes.taken) h.took;
  goes_on = h.goes_on;
  limit = h.limit;
}

-- ---- the turn that fails

-- Since the startup read these messages and sent this, all that passed: by these events of the hub before the
-- turn, and those in it.
pub record Broke (opening : List ℕ) (startup : List RawMessage) (base : LinkView) (former now : List Event) (t : Streams) (m : LinkView) : Type 0 where
  pub legal : IsLegal (start 0 0) former
  pub legal_now : IsLegal (after_all (start 0 0) former) now
  pub read : List RawMessage
  pub lost : List RawMessage
  pub handed : List RawMessage
  pub given : List ℕ
  pub taken : List ℕ
  pub gave : Grew base.given m.given given
  pub took : Grew base.taken m.taken taken
  pub came_off : messages given ≡ (startup ++ read) ++ (lost ++ messages t.buffer.items)
  pub rest : bytes_left given ≡ bytes_left t.buffer.items
  pub unread : IsUnread t.unread lost
  pub out : (opening ++ bytes_out_by (former ++ now)) ++ goodbye false t.closing ≡ taken ++ t.unsent
  pub delivered : sync_of read ≡ delivered_by (former ++ now) ++ waiting t.held
  pub handed_out : async_of (startup ++ read) ≡ handed ++ delayed_in t
  pub count : t.given ≡ length given

pub broke-off : (opening : List ℕ) (startup : List RawMessage) (base l m : LinkView) (a b : Standing) (s t : Streams) (asides : List AsyncMessage) (es : List Event) (hs : List RawMessage) →
    (h : Stood opening startup base a s asides l) → Moves a es b → Passes (fresh s) (left_open t) l m es hs → Broke opening startup base h.events es t m
broke-off opening startup base l m a b s t asides es hs h moves p = record {
  legal = h.legal;
  legal_now = (moves (after_all (start 0 0) h.events) h.fits).0;
  read = h.read ++ p.read;
  lost = p.lost;
  handed = h.handed ++ hs;
  given = h.given ++ p.got;
  taken = h.taken ++ p.sent;
  gave = grew_then base.given l.given m.given h.given p.got h.gave p.given;
  took = grew_then base.taken l.taken m.taken h.taken p.sent h.took p.taken;
  came_off = came_off_then [] s.buffer.items h.given p.got (startup ++ h.read) p.read (p.lost ++ messages t.buffer.items)
      (h.came_off ∙ ap (λ (x : List RawMessage). (startup ++ h.read) ++ (x ++ messages s.buffer.items)) (none_lost s.unread h.lost p.all_read h.unread)) h.rest p.came_off
      ∙ ap (λ (x : List RawMessage). x ++ (p.lost ++ messages t.buffer.items)) (append_assoc startup h.read p.read);
  rest = rest_then [] s.buffer.items t.buffer.items h.given p.got h.rest p.rest;
  unread = p.unread;
  out = ap (λ (x : List ℕ). (opening ++ x) ++ goodbye false t.closing) (bytes_out_by-append h.events es)
      ∙ out_then false s.closing t.closing opening (bytes_out_by h.events) h.taken s.unsent (bytes_out_by es) p.sent t.unsent
      (λ x. absurd (let no : false ≡ true = x in cc)) p.still_closing (λ x. p.nothing_more x) h.out p.out;
  delivered = filter-append _ h.read p.read
      ∙ relay [] (sync_of h.read) (delivered_by h.events) (waiting s.held) (sync_of p.read) (delivered_by es) (waiting t.held) h.delivered p.delivered
      ∙ ap (λ x. x ++ waiting t.held) (sym (delivered_by-append h.events es));
  handed_out = ap async_of (sym (append_assoc startup h.read p.read)) ∙ filter-append _ (startup ++ h.read) p.read
      ∙ relay [] (async_of (startup ++ h.read)) h.handed (delayed_in s) (async_of p.read) hs (delayed_in t) h.handed_out p.handed_out;
  count = omega (arith, p.count, h.count, length-append h.given p.got);
}

module _ {C T A E : Type 0} (speech : Speech C T A E) where
  open-turn : (most : ℕ) (opening : List ℕ) (base l m : LinkView) (scripts : List (List C)) (turn : ℕ) (s t : SessionState T A E) →
      IsOpen most opening base s.streams l → Makes speech scripts turn s t l m false → IsOpen most opening base t.streams m
  open-turn most opening base l m scripts turn s t h (inl made) =
      subst (λ (x : LinkView). IsOpen most opening base t.streams x) (sym made.link)
      (subst (λ (x : Streams). IsOpen most opening base x l) (sym made.made.streams) h)
  open-turn most opening base l m scripts turn s t h (inr made) =
      open-poll most opening base l m s.hub t.hub s.streams t.streams s.asynchronous t.asynchronous made.made.answer h made.made.polled made.made.hands

  pub open-all : (most : ℕ) (opening : List ℕ) (base : LinkView) (scripts : List (List C)) (turns : List ℕ) (s : SessionState T A E) (l : LinkView) (t : SessionState T A E) (m : LinkView) →
      IsOpen most opening base s.streams l → MakesAll speech scripts turns s l t m → IsOpen most opening base t.streams m
  open-all most opening base scripts [] s l t m h made =
      subst (λ (x : SessionState T A E). IsOpen most opening base x.streams m) (sym made.0) (open-rests most opening base l m s.streams h made.1)
  open-all most opening base scripts (turn ∷ turns) s l t m h made =
      open-all most opening base scripts turns made.1 made.2 t m
      (open-turn most opening base made.0 made.2 scripts turn s made.1 (open-rests most opening base l made.0 s.streams h made.3) made.4) made.5
