-- What passed through the connection and its hub, carried from turn to turn of a session.
pub mod Hub
pub mod Chain
pub mod Groups
pub mod Start
pub mod Front
pub mod End
pub mod All
use Rattle.std.proofs.Common.{◌≡◌, inl, inr, ℕ, List, [], ◌++◌, length, map, true, false, IsTrue, Option, Some, None, sym, ap, subst, ◌∙◌, arith, append_assoc, append-nil, length-append, ◌&&◌, Bool}
use Rattle.std.proofs.lemmas.List.{map-append}
use Rattle.std.proofs.lemmas.List.Elements.{filter-append, filter_map-append}
use Rattle.std.proofs.lemmas.List.Folds.{list_all-append}
use Rattle.std.proofs.lemmas.List.Sums.{fold-append}
use Rattle.std.specs.List.{list_all}
use Rattle.pg_spec.specs.Asides.{is_readable}
use Rattle.pg_spec.specs.Links.{LinkView, Grew}
use Rattle.pg_spec.specs.Parameters.{parameter_reports}
use Rattle.pg_spec.specs.RawMessages.{RawMessage, messages, bytes_left, has_bad_header, sync_of, async_of}
use Rattle.pg_spec.specs.Report as said
use Rattle.pg_errors.specs.declared.async_message.AsyncMessage.{AsyncMessage}
use Rattle.pg_errors.specs.Views.{async_of as aside_of}
use Rattle.pg_desk.specs.declared.event.Event.{Event}
use Rattle.pg_desk.specs.History.{State, start, after_all, IsLegal}
use Rattle.pg_desk.specs.Kept.{legal-if-exact, legal-joined}
use Rattle.pg_hub.specs.Standing.{Standing}
use Rattle.pg_hub.specs.Fits.{Fits, HubBecomes}
use Rattle.pg_hub.specs.Becomes.{after-joined}
use Rattle.pg_connect.specs.declared.streams.Streams.{Streams}
use Rattle.pg_connect.specs.Answers.{fresh, left_open}
use Rattle.pg_connect.specs.Kept.{keep, keep_all}
use Rattle.pg_connect.specs.Passed.{delivered_by, bytes_out_by}
use Rattle.pg_connect.specs.Passes.{Passes, OnlySends, waiting, delayed_in, IsUnread, goodbye, risen}
use Rattle.pg_connect.specs.Polls.{BeganToClose}
use Rattle.pg_connect.proofs.Clearing.{still_cleared}
use Rattle.pg_connect.proofs.Joining.{relay, grew_then, came_off_then, rest_then, out_then, delivered_by-append, bytes_out_by-append, none_lost, risen_then}
use Rattle.pg_session.proofs.Crossing.Hub.{Spent, spent-all, no-more-spent}

-- ---- the hub

-- From every state that the hub stands for, the events are legal, and lead to one that it stands for then.
abbrev pub Moves : Standing → List Event → Standing → Type 0
Moves a es b = (s : State) → Fits s a → IsLegal s es × Fits (after_all s es) b

pub moves-by : (a b : Standing) (es : List Event) → HubBecomes a es b → Moves a es b
moves-by a b es h s f = let x = h.stands s f in (legal-if-exact s es x.0, x.1)

-- Events by which nothing was delivered and nothing went out.
pub record Quiet (es : List Event) : Type 0 where
  pub none_in : delivered_by es ≡ []
  pub none_out : bytes_out_by es ≡ []

-- ---- what is carried

-- nothing that was read or given is left behind
pub record Emptied (s : Streams) : Type 0 where
  pub held : waiting s.held ≡ []
  pub delayed : delayed_in s ≡ []
  pub unread : s.unread ≡ None
  pub decoded : messages s.buffer.items ≡ []
  pub header : has_bad_header s.buffer.items ≡ false

-- the reports of these messages, as far as they can be read
abbrev pub shown : List AsyncMessage → List (Option said.AsyncMessage)
shown ms = map (λ m. Some (aside_of m)) ms

-- Since the startup read these messages and sent this, all that passed.
pub record Stood (opening : List ℕ) (startup : List RawMessage) (base : LinkView)
    (hub : Standing) (s : Streams) (asides : List AsyncMessage) (l : LinkView) : Type 0 where
  pub events : List Event
  pub legal : IsLegal (start 0 0) events
  pub fits : Fits (after_all (start 0 0) events) hub
  pub read : List RawMessage
  pub lost : List RawMessage
  pub handed : List RawMessage
  pub given : List ℕ
  pub taken : List ℕ
  pub gave : Grew base.given l.given given
  pub took : Grew base.taken l.taken taken
  pub came_off : messages given ≡ (startup ++ read) ++ (lost ++ messages s.buffer.items)
  pub rest : bytes_left given ≡ bytes_left s.buffer.items
  pub unread : IsUnread s.unread lost
  pub out : (opening ++ bytes_out_by events) ++ goodbye false s.closing ≡ taken ++ s.unsent
  pub delivered : sync_of read ≡ delivered_by events ++ waiting s.held
  pub handed_out : async_of (startup ++ read) ≡ handed ++ delayed_in s
  pub readable : list_all is_readable read ≡ true
  pub kept : s.parameters ≡ keep_all [] (parameter_reports (startup ++ read))
  pub count : s.given ≡ length given
  pub counted : s.delivered ≡ risen 0 (length (delivered_by events))
  pub shows : shown asides ≡ map said.async_of_raw handed
  pub spent : s.closing ≡ true → Spent (after_all (start 0 0) events)
  pub emptied : s.closing ≡ true → Emptied s

-- ---- a step of the hub alone

none-more : {A : Type 0} (xs ys : List A) → ys ≡ [] → xs ++ ys ≡ xs
none-more {A} xs ys none = ap (λ (l : List A). xs ++ l) none ∙ append-nil xs

same-in : (es fs : List Event) → Quiet fs → delivered_by (es ++ fs) ≡ delivered_by es
same-in es fs q = delivered_by-append es fs ∙ none-more (delivered_by es) (delivered_by fs) q.none_in

same-out : (es fs : List Event) → Quiet fs → bytes_out_by (es ++ fs) ≡ bytes_out_by es
same-out es fs q = bytes_out_by-append es fs ∙ none-more (bytes_out_by es) (bytes_out_by fs) q.none_out

pub stood-quiet : (opening : List ℕ) (startup : List RawMessage) (base l : LinkView) (a b : Standing) (s : Streams) (asides : List AsyncMessage) (es : List Event) →
    Stood opening startup base a s asides l → Moves a es b → Quiet es → Stood opening startup base b s asides l
stood-quiet opening startup base l a b s asides es h moves q =
    let now = moves (after_all (start 0 0) h.events) h.fits in
    record {
      events = h.events ++ es;
      legal = legal-joined (start 0 0) h.events es h.legal now.0;
      fits = subst (λ (t : State). Fits t b) (sym (after-joined (start 0 0) h.events es)) now.1;
      read = h.read;
      lost = h.lost;
      handed = h.handed;
      given = h.given;
      taken = h.taken;
      gave = h.gave;
      took = h.took;
      came_off = h.came_off;
      rest = h.rest;
      unread = h.unread;
      out = ap (λ (x : List ℕ). (opening ++ x) ++ goodbye false s.closing) (same-out h.events es q) ∙ h.out;
      delivered = h.delivered ∙ ap (λ (x : List RawMessage). x ++ waiting s.held) (sym (same-in h.events es q));
      handed_out = h.handed_out;
      readable = h.readable;
      kept = h.kept;
      count = h.count;
      counted = h.counted ∙ ap (λ (x : List RawMessage). risen 0 (length x)) (sym (same-in h.events es q));
      shows = h.shows;
      spent = λ c. subst Spent (sym (after-joined (start 0 0) h.events es)) (spent-all (after_all (start 0 0) h.events) es (h.spent c) now.0);
      emptied = h.emptied;
    }

-- between turns the link may be another, with the same bytes
pub stood-rests : (opening : List ℕ) (startup : List RawMessage) (base l m : LinkView) (a : Standing) (s : Streams) (asides : List AsyncMessage) →
    m.given ≡ l.given → m.taken ≡ l.taken → Stood opening startup base a s asides l → Stood opening startup base a s asides m
stood-rests opening startup base l m a s asides given taken h = record {
  events = h.events;
  legal = h.legal;
  fits = h.fits;
  read = h.read;
  lost = h.lost;
  handed = h.handed;
  given = h.given;
  taken = h.taken;
  gave = subst (λ (o : Option (List ℕ)). Grew base.given o h.given) (sym given) h.gave;
  took = subst (λ (o : Option (List ℕ)). Grew base.taken o h.taken) (sym taken) h.took;
  came_off = h.came_off;
  rest = h.rest;
  unread = h.unread;
  out = h.out;
  delivered = h.delivered;
  handed_out = h.handed_out;
  readable = h.readable;
  kept = h.kept;
  count = h.count;
  counted = h.counted;
  shows = h.shows;
  spent = h.spent;
  emptied = h.emptied;
}

-- ---- a turn of the connection

absurd_true : {X : Type 0} → IsTrue false → X
absurd_true e = absurd (let no_way : false ≡ true = e in cc)

-- a connection that was closing reads nothing, and so nothing is left behind still
still-empty : (s t : Streams) (l m : LinkView) (es : List Event) (hs : List RawMessage) → Passes (fresh s) (left_open t) l m es hs →
    OnlySends (fresh s) (left_open t) l m → Emptied s → Emptied t
still-empty s t l m es hs p only was =
    let clear = still_cleared (fresh s) (left_open t) l m only (record { held = was.held; delayed = was.delayed; unread = was.unread }) in
    record {
      held = clear.held;
      delayed = clear.delayed;
      unread = clear.unread;
      decoded = ap messages only.buffer ∙ was.decoded;
      header = ap has_bad_header only.buffer ∙ was.header;
    }

-- how it comes that a connection closes: it did so before, or began in the turn
pub closed-before : (s t : Streams) (l m : LinkView) (es : List Event) (st : State) → BeganToClose (fresh s) (left_open t) l m es → IsLegal st es →
    (s.closing ≡ true → Spent st) → t.closing ≡ true → Spent (after_all st es)
closed-before s t l m es st began legal before c = elim (began c) [
  | inl old ↦ spent-all st es (before old) legal
  | inr new ↦ no-more-spent st es new.1 legal
]

-- where a connection closes, nothing is left behind
emptied-behind : (s t : Streams) (l m : LinkView) (es : List Event) (hs : List RawMessage) → Passes (fresh s) (left_open t) l m es hs →
    BeganToClose (fresh s) (left_open t) l m es → (s.closing ≡ true → OnlySends (fresh s) (left_open t) l m) → (s.closing ≡ true → Emptied s) → t.closing ≡ true → Emptied t
emptied-behind s t l m es hs p began still before c = elim (began c) [
  | inl old ↦ still-empty s t l m es hs p (still old) (before old)
  | inr new ↦ record {
    held = new.0.cleared.held;
    delayed = new.0.cleared.delayed;
    unread = new.0.cleared.unread;
    decoded = new.0.decoded.none_whole;
    header = new.0.decoded.no_bad_header;
  }
]

-- what a turn of the connection passed on
pub record Passing (a b : Standing) (s t : Streams) (old new : List AsyncMessage) (l m : LinkView) : Type 0 where
  pub events : List Event
  pub handed : List RawMessage
  pub moves : Moves a events b
  pub passes : Passes (fresh s) (left_open t) l m events handed
  pub began : BeganToClose (fresh s) (left_open t) l m events
  pub still : s.closing ≡ true → OnlySends (fresh s) (left_open t) l m
  pub shows : shown new ≡ shown old ++ map said.async_of_raw handed

pub stood-passing : (opening : List ℕ) (startup : List RawMessage) (base l m : LinkView) (a b : Standing) (s t : Streams) (old new : List AsyncMessage) →
    Stood opening startup base a s old l → Passing a b s t old new l m → Stood opening startup base b t new m
stood-passing opening startup base l m a b s t old new h turn =
    let es = turn.events in
    let hs = turn.handed in
    let p = turn.passes in
    let st = after_all (start 0 0) h.events in
    let now = turn.moves st h.fits in
    record {
      events = h.events ++ es;
      legal = legal-joined (start 0 0) h.events es h.legal now.0;
      fits = subst (λ (x : State). Fits x b) (sym (after-joined (start 0 0) h.events es)) now.1;
      read = h.read ++ p.read;
      lost = p.lost;
      handed = h.handed ++ hs;
      given = h.given ++ p.got;
      taken = h.taken ++ p.sent;
      gave = grew_then base.given l.given m.given h.given p.got h.gave p.given;
      took = grew_then base.taken l.taken m.taken h.taken p.sent h.took p.taken;
      came_off = came_off_then [] s.buffer.items h.given p.got (startup ++ h.read) p.read (p.lost ++ messages t.buffer.items)
          (h.came_off ∙ ap (λ (x : List RawMessage). (startup ++ h.read) ++ (x ++ messages s.buffer.items)) (none_lost s.unread h.lost p.all_read h.unread)) h.rest p.came_off
          ∙ ap (λ (x : List RawMessage). x ++ (p.lost ++ messages t.buffer.items)) (append_assoc startup h.read p.read);
      rest = rest_then [] s.buffer.items t.buffer.items h.given p.got h.rest p.rest;
      unread = p.unread;
      out = ap (λ (x : List ℕ). (opening ++ x) ++ goodbye false t.closing) (bytes_out_by-append h.events es)
          ∙ out_then false s.closing t.closing opening (bytes_out_by h.events) h.taken s.unsent (bytes_out_by es) p.sent t.unsent
          (λ x. absurd_true x) p.still_closing (λ x. p.nothing_more x) h.out p.out;
      delivered = filter-append _ h.read p.read
          ∙ relay [] (sync_of h.read) (delivered_by h.events) (waiting s.held) (sync_of p.read) (delivered_by es) (waiting t.held) h.delivered p.delivered
          ∙ ap (λ x. x ++ waiting t.held) (sym (delivered_by-append h.events es));
      handed_out = ap async_of (sym (append_assoc startup h.read p.read)) ∙ filter-append _ (startup ++ h.read) p.read
          ∙ relay [] (async_of (startup ++ h.read)) h.handed (delayed_in s) (async_of p.read) hs (delayed_in t) h.handed_out p.handed_out;
      readable = list_all-append is_readable h.read p.read ∙ ap (λ (b : Bool). b && list_all is_readable p.read) h.readable ∙ p.readable;
      kept = p.kept ∙ ap (λ x. keep_all x (parameter_reports p.read)) h.kept
          ∙ sym (fold-append keep [] (parameter_reports (startup ++ h.read)) (parameter_reports p.read))
          ∙ ap (keep_all []) (sym (filter_map-append _ (startup ++ h.read) p.read))
          ∙ ap (λ (x : List RawMessage). keep_all [] (parameter_reports x)) (append_assoc startup h.read p.read);
      count = omega (arith, p.count, h.count, length-append h.given p.got);
      counted = risen_then 0 s.delivered t.delivered (length (delivered_by h.events)) (length (delivered_by es)) _ h.counted p.delivered_count
          (ap length (delivered_by-append h.events es) ∙ length-append (delivered_by h.events) (delivered_by es));
      shows = turn.shows ∙ ap (λ (x : List (Option said.AsyncMessage)). x ++ map said.async_of_raw hs) h.shows ∙ sym (map-append said.async_of_raw h.handed hs);
      spent = λ c. subst Spent (sym (after-joined (start 0 0) h.events es)) (closed-before s t l m es st turn.began now.0 h.spent c);
      emptied = λ c. emptied-behind s t l m es hs p turn.began turn.still h.emptied c;
    }
