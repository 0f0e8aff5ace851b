-- A turn of the connection leaves less to do where something moved in it.
use Rattle.std.proofs.Common.{◌≡◌, ℕ, ◌+◌, ◌-◌, ◌*◌, ◌≤◌, List, [], ◌∷◌, ◌++◌, length, Bool, true, false, not, ◌||◌, cond, Option, Some, None, is_some, Result, Ok, Err, refl, sym, ap, subst, ◌∙◌, arith, length-append}
use Rattle.std.specs.Prelude.{IsTrue}
use Rattle.std.specs.List.{list_any}
use Rattle.futures.specs.declared.task.Poll.{Poll}
use Rattle.futures.specs.declared.task.Poll.TheVariants.{Ready, Pending}
use Rattle.pg_spec.specs.Batches.{is_nothing}
use Rattle.pg_spec.specs.Links.{LinkView}
use Rattle.pg_spec.specs.RawMessages.{RawMessage, messages, bytes_left, is_async, is_parameter, sync_of, async_of}
use Rattle.pg_errors.specs.declared.async_message.AsyncMessage.{AsyncMessage}
use Rattle.pg_types.specs.declared.error.Error.{Error}
use Rattle.pg_connect.specs.declared.ends.TurnEnd.{TurnEnd}
use Rattle.pg_connect.specs.declared.streams.Streams.{Streams}
use Rattle.pg_connect.specs.Answers.{PollAnswers, Turned, fresh, left_open}
use Rattle.pg_connect.specs.Passed.{AllEngineCalls, delivered_by, bytes_out_by, parts_out_by, moves_in}
use Rattle.pg_connect.specs.Passes.{Passes, waiting, delayed_in, goodbye}
use Rattle.pg_connect.specs.Passes as passes
use Rattle.pg_connect.proofs.Sizes.{sizes, sized}
use Rattle.pg_desk.specs.declared.event.Event.{Event}
use Rattle.pg_desk.specs.History.{State, after_all, IsLegal}
use Rattle.pg_desk.specs.Kept.{legal-if-exact}
use Rattle.pg_hub.specs.Fits.{Fits, HubBecomes}
use Rattle.pg_hub.specs.Standing.{Standing}
use Rattle.pg_hub.specs.Waiting.{undelivered_of}
use Rattle.pg_session.specs.Measure.{Left, put_of, unsent_left, reading_left}
use Rattle.pg_session.specs.Turns.{HandsOn, moved_in_poll}
use Rattle.pg_session.proofs.Nearer.Counted.{becomes-counted, engine-puts-none}
use Rattle.pg_session.proofs.Nearer.Falling.{one_if, one-or, Falls, falls-either}
use Rattle.pg_session.proofs.Nearer.Hub.{batches_left, wire_left, hub-batches, hub-parts, calls-passed}

-- ---- bytes and messages

sizes-joined : (xs ys : List RawMessage) → sizes (xs ++ ys) ≡ sizes xs + sizes ys
sizes-joined [] ys = omega arith
sizes-joined (x ∷ xs) ys = let h = sizes-joined xs ys in omega (arith, h)

-- a message weighs less than its bytes: two where it is delivered, one where it is handed out
weigh : (ms : List RawMessage) → 2 * length (sync_of ms) + length (async_of ms) ≤ sizes ms
weigh [] = omega arith
weigh (m ∷ ms) = by (is_async m) (is_parameter m) (weigh ms)
  where
    by : (a p : Bool) → 2 * length (sync_of ms) + length (async_of ms) ≤ sizes ms →
        2 * length (cond (not (a || p)) (m ∷ sync_of ms) (sync_of ms)) + length (cond a (m ∷ async_of ms) (async_of ms)) ≤ sizes (m ∷ ms)
    by true p h = omega (arith, h)
    by false true h = omega (arith, h)
    by false false h = omega (arith, h)

-- the bytes of the messages that came off left the buffer
came-off : (buffer got later : List ℕ) (read lost : List RawMessage) → messages (buffer ++ got) ≡ read ++ (lost ++ messages later) → bytes_left (buffer ++ got) ≡ bytes_left later →
    sizes read + length later ≤ length buffer + length got
came-off buffer got later read lost came rest =
    let before = sized (buffer ++ got) in
    let long = length-append buffer got in
    let off = ap sizes came in
    let left = ap (λ (l : List ℕ). length l) rest in
    omega (arith, before, long, off, left, sized later, sizes-joined read (lost ++ messages later), sizes-joined lost (messages later))

-- Terminate is queued once
goodbye-left : (old new : Bool) → (IsTrue old → IsTrue new) → length (goodbye old new) + length (goodbye new true) ≡ length (goodbye old true)
goodbye-left true true h = refl
goodbye-left true false h = let no : false ≡ true = h refl in absurd cc
goodbye-left false true h = refl
goodbye-left false false h = refl

something : {X : Type 0} (xs : List X) → one_if (not (is_nothing xs)) ≤ length xs
something [] = omega arith
something (x ∷ xs) = omega arith

-- what moved was a byte, a message that was handed out, or a batch or a part
moved-something : (got sent : List ℕ) (handed : List RawMessage) (es : List Event) →
    one_if (passes.moves got sent handed es) ≤ (length got + length sent) + (length handed + one_if (list_any moves_in es))
moved-something got sent handed es = omega (
  arith,
  one-or (not (is_nothing got) || not (is_nothing sent)) (not (is_nothing handed) || list_any moves_in es),
  one-or (not (is_nothing got)) (not (is_nothing sent)),
  one-or (not (is_nothing handed)) (list_any moves_in es),
  something got,
  something sent,
  something handed,
)

-- ---- what was passed on

-- What is left to be read, less what was given, delivered and handed out; and what is left to be sent, less what was sent and the parts that
-- went out.
pub record PassedLess (s t : State) (old new : Streams) (got delivered handed sent parts : ℕ) : Type 0 where
  pub unread : (batches_left t + reading_left new) + (got + (delivered + handed)) ≤ batches_left s + reading_left old
  pub unsent : (wire_left t + unsent_left new) + (sent + parts) ≤ wire_left s + unsent_left old

pub passed-less : (st : State) (old new : Streams) (before after : LinkView) (es : List Event) (handed : List RawMessage) →
    (p : Passes old new before after es handed) → AllEngineCalls es → IsLegal st es → new.given ≤ new.max_bytes →
    PassedLess st (after_all st es) old new (length p.got) (length (delivered_by es)) (length handed) (length p.sent) (length (parts_out_by es))
passed-less st old new before after es handed p calls legal within =
    let hub = calls-passed st es calls legal in
    let off = came-off old.buffer.items p.got new.buffer.items p.read p.lost p.came_off p.rest in
    let weighs = weigh p.read in
    let delivered : length (waiting old.held) + length (sync_of p.read) ≡ length (delivered_by es) + length (waiting new.held) =
    sym (length-append (waiting old.held) (sync_of p.read)) ∙ ap (λ (l : List RawMessage). length l) p.delivered ∙ length-append (delivered_by es) (waiting new.held) in
    let given_out : length (delayed_in old) + length (async_of p.read) ≡ length handed + length (delayed_in new) =
    sym (length-append (delayed_in old) (async_of p.read)) ∙ ap (λ (l : List RawMessage). length l) p.handed_out ∙ length-append handed (delayed_in new) in
    let sends : (length old.unsent + length (bytes_out_by es)) + length (goodbye old.closing new.closing) ≡ length p.sent + length new.unsent =
    ap (λ (n : ℕ). n + length (goodbye old.closing new.closing)) (sym (length-append old.unsent (bytes_out_by es)))
    ∙ sym (length-append (old.unsent ++ bytes_out_by es) (goodbye old.closing new.closing)) ∙ ap (λ (l : List ℕ). length l) p.out ∙ length-append p.sent new.unsent in
    let farewell = goodbye-left old.closing new.closing p.still_closing in
    record {
      unread = read-up (batches_left (after_all st es)) (batches_left st) (length old.buffer.items) (length new.buffer.items) (length p.got) (sizes p.read)
          (length (sync_of p.read)) (length (async_of p.read)) (length (waiting old.held)) (length (waiting new.held)) (length (delayed_in old)) (length (delayed_in new))
          (length (delivered_by es)) (length handed) old.given new.given old.max_bytes new.max_bytes
          hub.batches off weighs delivered given_out p.count p.limit within;
      unsent = send-up (wire_left (after_all st es)) (wire_left st) (length p.sent) (length (bytes_out_by es)) (length (parts_out_by es)) (length old.unsent) (length new.unsent)
          (length (goodbye old.closing new.closing)) (length (goodbye old.closing true)) (length (goodbye new.closing true)) hub.wire sends farewell;
    }
  where
    read-up : (after before buffer later got size sync async held holds delays delayed delivers hands given gives most limit : ℕ) →
        after ≤ before + delivers → size + later ≤ buffer + got → 2 * sync + async ≤ size →
        held + sync ≡ delivers + holds → delays + async ≡ hands + delayed → gives ≡ given + got → limit ≡ most → gives ≤ limit →
        (after + (2 * (limit - gives) + (later + (2 * holds + delayed)))) + (got + (delivers + hands)) ≤ before + (2 * (most - given) + (buffer + (2 * held + delays)))
    read-up after before buffer later got size sync async held holds delays delayed delivers hands given gives most limit a b c d e f g h = omega (arith, a, b, c, d, e, f, g, h)

    send-up : (after before sent out parts unsent unsends bye leave left : ℕ) → after + (out + parts) ≤ before → (unsent + out) + bye ≡ sent + unsends → bye + left ≡ leave →
        (after + (unsends + left)) + (sent + parts) ≤ before + (unsent + leave)
    send-up after before sent out parts unsent unsends bye leave left a b c = omega (arith, a, b, c)

-- ---- a poll

-- what a turn of the connection leaves
abbrev pub left_of_link : (commands : ℕ) → Standing → Streams → Left
left_of_link commands hub s = record { unread = undelivered_of hub + reading_left s; commands = commands; unsent = hub.unsent + unsent_left s }

-- of its hub and its streams
pub record LinkLess (commands : ℕ) (a b : Standing) (s t : Streams) (moved : Bool) : Type 0 where
  pub state : State
  pub fits : Fits state b
  pub put : put_of b ≡ put_of a
  pub falls : Falls (one_if moved) (left_of_link commands b t) (left_of_link commands a s)

-- a connection that isn't over wasn't given the link's end
open-still : (ended at_end unread : Bool) → (ended || at_end) || unread ≡ false → at_end ≡ false
open-still true at_end unread h = absurd cc
open-still false true unread h = absurd cc
open-still false false unread h = refl

no-end : (before over : Bool) → before || over ≡ false → over ≡ false
no-end true over h = absurd cc
no-end false over h = h

or-none : (b over : Bool) → over ≡ false → one_if (b || over) ≡ one_if b
or-none true over h = refl
or-none false over h = ap one_if h

record TurnedLess (commands : ℕ) (a b : Standing) (s t : Streams) (handed : List RawMessage) : Type 0 where
  state : State
  fits : Fits state b
  put : put_of b ≡ put_of a
  moves : Falls (one_if t.moved) (left_of_link commands b t) (left_of_link commands a s)
  hands : Falls (length handed) (left_of_link commands b t) (left_of_link commands a s)

turned-less : (commands : ℕ) (st : State) (a b : Standing) (s t : Streams) (l m : LinkView) (end : TurnEnd) → Fits st a → (h : Turned HubBecomes a b s t l m end false) →
    t.given ≤ t.max_bytes → TurnedLess commands a b s t h.turns.handed
turned-less commands st a b s t l m end fits h within =
    let goes = h.turns.goes in
    let p = goes.passes in
    let next = goes.became.stands st fits in
    let legal = legal-if-exact st goes.events next.0 in
    let hub = calls-passed st goes.events goes.calls legal in
    let less = passed-less st (fresh s) (left_open t) l m goes.events h.turns.handed p goes.calls legal within in
    let batches = hub-batches st a fits in
    let batches_behind = hub-batches (after_all st goes.events) b next.1 in
    let parts = hub-parts st a fits in
    let parts_behind = hub-parts (after_all st goes.events) b next.1 in
    let at_end : t.at_end ≡ false = open-still t.ended t.at_end (is_some t.unread) h.stands in
    let over : p.over ≡ false = no-end s.at_end p.over (sym p.at_end ∙ at_end) in
    let moved : one_if t.moved ≡ one_if (passes.moves p.got p.sent h.turns.handed goes.events) =
    ap one_if p.moved ∙ or-none (passes.moves p.got p.sent h.turns.handed goes.events) p.over over in
    let some = moved-something p.got p.sent h.turns.handed goes.events in
    let read = length p.got + (length (delivered_by goes.events) + length h.turns.handed) in
    let sent = length p.sent + length (parts_out_by goes.events) in
    let counted = becomes-counted st a goes.events b fits goes.became in
    let none = engine-puts-none goes.events goes.calls in
    let unread : (undelivered_of b + reading_left t) + read ≤ undelivered_of a + reading_left s = omega (arith, less.unread, batches, batches_behind) in
    let unsent : (b.unsent + unsent_left t) + sent ≤ a.unsent + unsent_left s = omega (arith, less.unsent, parts, parts_behind) in
    record {
      state = after_all st goes.events;
      fits = next.1;
      put = omega (arith, counted, none);
      moves = falls-either (one_if t.moved) read sent (left_of_link commands b t) (left_of_link commands a s) unread refl unsent (omega (arith, moved, some, hub.moves));
      hands = falls-either (length h.turns.handed) read sent (left_of_link commands b t) (left_of_link commands a s) unread refl unsent (omega arith);
    }

pub poll-less : (commands : ℕ) (st : State) (a b : Standing) (s t : Streams) (l m : LinkView) (old new : List AsyncMessage) (answer : Poll (Option (Result AsyncMessage Error))) → Fits st a →
    PollAnswers HubBecomes a b s t l m answer → HandsOn answer old new false → t.given ≤ t.max_bytes → LinkLess commands a b s t (moved_in_poll answer t)
poll-less commands st a b s t l m old new Pending fits h hands within =
    let less = turned-less commands st a b s t l m _ fits h within in
    record { state = less.state; fits = less.fits; put = less.put; falls = less.moves }
poll-less commands st a b s t l m old new (Ready None) fits h hands within = let no : false ≡ true = hands.1 in absurd cc
poll-less commands st a b s t l m old new (Ready (Some (Ok message))) fits h hands within =
    let less = turned-less commands st a b s t l m _ fits h within in
    let one : length h.turns.handed ≡ 1 = ap (λ (l : List RawMessage). length l) h.turns.which.alone in
    record { state = less.state; fits = less.fits; put = less.put; falls = subst (λ (n : ℕ). Falls n (left_of_link commands b t) (left_of_link commands a s)) one less.hands }
poll-less commands st a b s t l m old new (Ready (Some (Err e))) fits h hands within = absurd hands
