-- What single calls pass on, on the way in.
use Rattle.std.proofs.Common.{◌≡◌, ℕ, ◌+◌, Bool, true, false, not, ◌||◌, List, [], ◌∷◌, ◌++◌, length, Option, Some, None, Ok, refl, sym, ap, subst, ◌∙◌, arith, inl, inr}
use Rattle.std.specs.List.{list_all}
use Rattle.std.proofs.lemmas.List.{append-nil}
use Rattle.pg_spec.specs.Batches.{is_nothing}
use Rattle.pg_spec.specs.Asides.{is_readable}
use Rattle.pg_spec.specs.Links.{LinkView, Grew, Rose}
use Rattle.pg_spec.specs.Messages.{message_of}
use Rattle.pg_spec.specs.Parameters.{parameter_reports}
use Rattle.pg_spec.specs.RawMessages.{RawMessage, messages, bytes_left, sync_of, async_of, is_aside}
use Rattle.pg_wire.specs.declared.message.Message.{Message}
use Rattle.pg_wire.specs.Decode.{CutsOff, CutsBatch}
use Rattle.pg_wire.specs.LinkCalls.{Keeps, SameBytes}
use Rattle.pg_wire.specs.Messages.{message_view}
use Rattle.pg_desk.specs.declared.event.Event.{Event}
use Rattle.pg_connect.specs.declared.streams.Streams.{Streams}
use Rattle.pg_connect.specs.Kept.{keep_all}
use Rattle.pg_connect.specs.Passed.{delivered_in, delivered_by, bytes_out_in, bytes_out_by, last_part, moves_in, parts_out_in, parts_out_by}
use Rattle.pg_connect.specs.Passes.{Passes, HoldsLast, Untouched, waiting, delayed_in, IsUnread, farewell, goodbye, moves, risen}
use Rattle.pg_connect.proofs.Joining.{grew_same, goodbye_same, keeps_same, untouched_same}
use Rattle.pg_connect.proofs.LastParts.{farewell_same}
use Rattle.pg_connect.proofs.Sends.{or_false, or_true}
use Rattle.pg_connect.proofs.Sorting.{batch_calm, calm_sync, calm_async, calm_readable, calm_reports, Sorted}

-- Nothing is sent.
pub record SameSent (s t : Streams) : Type 0 where
  pub unsent : t.unsent ≡ s.unsent
  pub closing : t.closing ≡ s.closing
  pub limit : t.max_bytes ≡ s.max_bytes
  pub ended : t.ended ≡ s.ended

-- The same, but for what is read: nothing is sent, and the link didn't give its end.
pub record SameWay (s t : Streams) : Type 0 where
  pub unsent : t.unsent ≡ s.unsent
  pub closing : t.closing ≡ s.closing
  pub limit : t.max_bytes ≡ s.max_bytes
  pub ended : t.ended ≡ s.ended
  pub at_end : t.at_end ≡ s.at_end

pub sent_in : (s t : Streams) → SameWay s t → SameSent s t
sent_in s t way = record { unsent = way.unsent; closing = way.closing; limit = way.limit; ended = way.ended }

pub no_end : (s t : Streams) → SameWay s t → t.at_end ≡ (s.at_end || false)
no_end s t way = way.at_end ∙ or_false s.at_end

-- something moved
pub stirred : {P : Type 0} (b : Bool) → b ≡ true → b ≡ false → P
stirred b one other = let no : true ≡ false = sym one ∙ other in cc

-- the end wasn't given
pub not_there : {P : Type 0} → false ≡ true → P
not_there never = cc

-- calls that send nothing
abbrev pub reads : (s t : Streams) (before after : LinkView) (got : List ℕ) (read lost : List RawMessage) (over : Bool) (events : List Event) (handed : List RawMessage) →
    s.unread ≡ None → IsUnread t.unread lost → list_all is_readable read ≡ true → HoldsLast (waiting s.held) (waiting t.held) (read ++ lost) →
    Grew before.given after.given got → after.taken ≡ before.taken →
    messages (s.buffer.items ++ got) ≡ read ++ (lost ++ messages t.buffer.items) → bytes_left (s.buffer.items ++ got) ≡ bytes_left t.buffer.items →
    waiting s.held ++ sync_of read ≡ delivered_by events ++ waiting t.held →
    delayed_in s ++ async_of read ≡ handed ++ delayed_in t →
    t.parameters ≡ keep_all s.parameters (parameter_reports read) →
    SameSent s t → bytes_out_by events ≡ [] → parts_out_by events ≡ [] → t.given ≡ s.given + length got → t.delivered ≡ risen s.delivered (length (delivered_by events)) →
    t.moved ≡ (s.moved || (moves got [] handed events || over)) → t.at_end ≡ (s.at_end || over) → (t.moved ≡ false → Untouched before after) →
    (over ≡ true → Rose before.ends after.ends) → Keeps before after → Passes s t before after events handed
reads s t before after got read lost over events handed all_read unread readable last given taken off left delivered out kept same none no_part count counted moved at_end still ended link = record {
  got = got;
  sent = [];
  read = read;
  lost = lost;
  over = over;
  given = given;
  taken = grew_same before.taken after.taken taken;
  came_off = off;
  rest = left;
  all_read = all_read;
  unread = unread;
  readable = readable;
  delivered = delivered;
  held_last = last;
  handed_out = out;
  kept = kept;
  out = ap (λ x. (s.unsent ++ x) ++ goodbye s.closing t.closing) none ∙ ap (λ x. (s.unsent ++ []) ++ goodbye s.closing x) same.closing
      ∙ ap (λ x. (s.unsent ++ []) ++ x) (goodbye_same s.closing) ∙ append-nil (s.unsent ++ []) ∙ append-nil s.unsent ∙ sym same.unsent;
  one_part = (
    [],
    ap (λ (x : List (List ℕ)). last_part s.unsent (x ++ farewell s.closing t.closing)) no_part ∙ ap (λ (x : Bool). last_part s.unsent (farewell s.closing x)) same.closing
        ∙ ap (last_part s.unsent) (farewell_same s.closing) ∙ sym same.unsent,
  );
  still_closing = λ is. same.closing ∙ is;
  nothing_more = λ is. none;
  count = count;
  delivered_count = counted;
  limit = same.limit;
  flag = same.ended;
  moved = moved;
  at_end = at_end;
  ended_there = ended;
  still = still;
  link = link;
}

-- What is read and what is kept of it are as before.
pub record SameRead (s t : Streams) : Type 0 where
  pub buffer : t.buffer.items ≡ s.buffer.items
  pub unread : t.unread ≡ None
  pub held : waiting t.held ≡ waiting s.held
  pub delayed : delayed_in t ≡ delayed_in s
  pub parameters : t.parameters ≡ s.parameters
  pub given : t.given ≡ s.given
  pub delivered : t.delivered ≡ s.delivered

pub unread_none : (o : Option Message) → o ≡ None → IsUnread o []
unread_none o none = subst (λ (x : Option Message). IsUnread x []) (sym none) refl

pub not_risen : (a b : ℕ) → b ≡ a → b ≡ risen a 0
not_risen a b same = omega (arith, same)

-- the batch that is held still is
pub still_last : (s t : Streams) → waiting t.held ≡ waiting s.held → HoldsLast (waiting s.held) (waiting t.held) []
still_last s t held = inl (held, refl)

-- a message came off, and no batch is held
alone_last : (s t : Streams) (raw : RawMessage) → waiting s.held ≡ [] → waiting t.held ≡ waiting s.held → HoldsLast (waiting s.held) (waiting t.held) (raw ∷ [])
alone_last s t raw free held = inr (raw ∷ [], ap (λ (x : List RawMessage). raw ∷ x) (sym (held ∙ free)))

-- nothing was read or passed on
abbrev pub reads_nothing : (s t : Streams) (before after : LinkView) → s.unread ≡ None → Untouched before after → SameRead s t → SameWay s t → t.moved ≡ s.moved →
    Keeps before after → Passes s t before after [] []
reads_nothing s t before after read still same way moved link =
    reads s t before after [] [] [] false [] [] read (unread_none t.unread same.unread) refl (still_last s t same.held) (grew_same before.given after.given still.bytes.given) still.bytes.taken
    (ap messages (append-nil s.buffer.items ∙ sym same.buffer)) (ap bytes_left (append-nil s.buffer.items ∙ sym same.buffer))
    (append-nil (waiting s.held) ∙ sym same.held) (append-nil (delayed_in s) ∙ sym same.delayed) same.parameters
    (sent_in s t way) refl refl (omega (arith, same.given)) (not_risen s.delivered t.delivered same.delivered) (moved ∙ or_false s.moved) (no_end s t way) (λ none. still) not_there link

-- the link gave its end
abbrev pub reads_end : (s t : Streams) (before after : LinkView) → s.unread ≡ None → SameBytes before after → SameRead s t → SameSent s t → t.moved ≡ true →
    t.at_end ≡ true → Rose before.ends after.ends → Keeps before after → Passes s t before after [] []
reads_end s t before after read bytes same way moved at_end rose link =
    reads s t before after [] [] [] true [] [] read (unread_none t.unread same.unread) refl (still_last s t same.held) (grew_same before.given after.given bytes.given) bytes.taken
    (ap messages (append-nil s.buffer.items ∙ sym same.buffer)) (ap bytes_left (append-nil s.buffer.items ∙ sym same.buffer))
    (append-nil (waiting s.held) ∙ sym same.held) (append-nil (delayed_in s) ∙ sym same.delayed) same.parameters
    way refl refl (omega (arith, same.given)) (not_risen s.delivered t.delivered same.delivered) (moved ∙ or_true s.moved) (at_end ∙ or_true s.at_end) (λ none. stirred t.moved moved none) (λ is. rose) link

-- a batch came off, and is held
pub reads_batch : (s t : Streams) (l : LinkView) (batch : List RawMessage) (complete : Bool) → s.unread ≡ None → t.unread ≡ None →
    CutsBatch s.buffer.items t.buffer.items batch complete → waiting s.held ≡ [] → waiting t.held ≡ batch → delayed_in t ≡ delayed_in s →
    t.parameters ≡ s.parameters → t.given ≡ s.given → t.delivered ≡ s.delivered → SameWay s t → t.moved ≡ s.moved → Passes s t l l [] []
reads_batch s t l batch complete read unread cut none held delayed parameters given delivered way moved =
    let calm = batch_calm complete batch cut.batch in
    reads s t l l [] batch [] false [] [] read (unread_none t.unread unread) (calm_readable batch calm)
    (inr ([], append-nil batch ∙ sym held)) (grew_same l.given l.given refl) refl
    (ap messages (append-nil s.buffer.items) ∙ cut.cuts.messages) (ap bytes_left (append-nil s.buffer.items) ∙ cut.cuts.left)
    (ap (λ x. x ++ sync_of batch) none ∙ calm_sync batch calm ∙ sym held)
    (ap (λ x. delayed_in s ++ x) (calm_async batch calm) ∙ append-nil (delayed_in s) ∙ sym delayed)
    (parameters ∙ ap (keep_all s.parameters) (sym (calm_reports batch calm)))
    (sent_in s t way) refl refl (omega (arith, given)) (not_risen s.delivered t.delivered delivered) (moved ∙ or_false s.moved) (no_end s t way) (λ none. untouched_same l) not_there (keeps_same l)

-- a message aside came off, and is kept or handed out
pub reads_aside : (s t : Streams) (l : LinkView) (raw : RawMessage) (async : List RawMessage) (reports : List (List ℕ × List ℕ)) → s.unread ≡ None → t.unread ≡ None →
    CutsOff s.buffer.items t.buffer.items (raw ∷ []) → Sorted raw async reports → waiting s.held ≡ [] → waiting t.held ≡ waiting s.held → delayed_in s ≡ [] → delayed_in t ≡ delayed_in s →
    t.parameters ≡ keep_all s.parameters reports → t.given ≡ s.given → t.delivered ≡ s.delivered → SameWay s t → t.moved ≡ (s.moved || not (is_nothing async)) →
    Passes s t l l [] async
reads_aside s t l raw async reports read unread cuts sorted free held none delayed parameters given delivered way moved =
    reads s t l l [] (raw ∷ []) [] false [] async read (unread_none t.unread unread) sorted.readable (alone_last s t raw free held) (grew_same l.given l.given refl) refl
    (ap messages (append-nil s.buffer.items) ∙ cuts.messages) (ap bytes_left (append-nil s.buffer.items) ∙ cuts.left)
    (ap (λ x. waiting s.held ++ x) sorted.sync ∙ append-nil (waiting s.held) ∙ sym held)
    (ap (λ x. x ++ async_of (raw ∷ [])) none ∙ sorted.async_is ∙ sym (append-nil async) ∙ ap (λ x. async ++ x) (sym (delayed ∙ none)))
    (parameters ∙ ap (keep_all s.parameters) (sym sorted.reports_are))
    (sent_in s t way) refl refl (omega (arith, given)) (not_risen s.delivered t.delivered delivered) (moved ∙ ap (λ x. s.moved || x) (or_false (not (is_nothing async)) ∙ or_false (not (is_nothing async) || false))) (no_end s t way) (λ none. untouched_same l) not_there (keeps_same l)

-- a message aside came off, and can't be read
pub reads_lost : (s t : Streams) (l : LinkView) (raw : RawMessage) (message : Message) → s.unread ≡ None → t.unread ≡ Some message →
    CutsOff s.buffer.items t.buffer.items (raw ∷ []) → is_aside raw ≡ true → message_of raw ≡ Ok (message_view message) → waiting s.held ≡ [] →
    waiting t.held ≡ waiting s.held → delayed_in t ≡ delayed_in s → t.parameters ≡ s.parameters → t.given ≡ s.given → t.delivered ≡ s.delivered →
    SameWay s t → t.moved ≡ s.moved → Passes s t l l [] []
reads_lost s t l raw message read unread cuts aside means free held delayed parameters given delivered way moved =
    reads s t l l [] [] (raw ∷ []) false [] [] read
    (subst (λ (x : Option Message). IsUnread x (raw ∷ [])) (sym unread) (record { raw = raw; alone = refl; aside = aside; means = means })) refl (alone_last s t raw free held)
    (grew_same l.given l.given refl) refl
    (ap messages (append-nil s.buffer.items) ∙ cuts.messages) (ap bytes_left (append-nil s.buffer.items) ∙ cuts.left)
    (append-nil (waiting s.held) ∙ sym held) (append-nil (delayed_in s) ∙ sym delayed) parameters
    (sent_in s t way) refl refl (omega (arith, given)) (not_risen s.delivered t.delivered delivered) (moved ∙ or_false s.moved) (no_end s t way) (λ none. untouched_same l) not_there (keeps_same l)

-- the hub answered to the batch that is held
pub delivers : (s t : Streams) (l : LinkView) (e : Event) → s.unread ≡ None → t.unread ≡ None → waiting s.held ≡ delivered_in e ++ waiting t.held → HoldsLast (waiting s.held) (waiting t.held) [] → bytes_out_in e ≡ [] → parts_out_in e ≡ [] →
    t.buffer.items ≡ s.buffer.items → delayed_in t ≡ delayed_in s → t.parameters ≡ s.parameters → t.given ≡ s.given → t.delivered ≡ risen s.delivered (length (delivered_in e)) →
    SameWay s t → t.moved ≡ (s.moved || moves_in e) → Passes s t l l (e ∷ []) []
delivers s t l e read unread held last none no_part buffer delayed parameters given delivered way moved =
    reads s t l l [] [] [] false (e ∷ []) [] read (unread_none t.unread unread) refl last (grew_same l.given l.given refl) refl
    (ap messages (append-nil s.buffer.items ∙ sym buffer)) (ap bytes_left (append-nil s.buffer.items ∙ sym buffer))
    (append-nil (waiting s.held) ∙ held ∙ ap (λ x. x ++ waiting t.held) (sym (append-nil (delivered_in e))))
    (append-nil (delayed_in s) ∙ sym delayed) parameters (sent_in s t way) (ap (λ x. x ++ []) none) (ap (λ x. x ++ []) no_part) (omega (arith, given))
    (delivered ∙ ap (λ x. risen s.delivered (length x)) (sym (append-nil (delivered_in e))))
    (moved ∙ ap (λ x. s.moved || x) (or_false (moves_in e) ∙ or_false (moves_in e || false))) (no_end s t way) (λ none. untouched_same l) not_there (keeps_same l)

-- the link gave a piece
abbrev pub reads_piece : (s t : Streams) (before after : LinkView) (piece : List ℕ) → s.unread ≡ None → t.unread ≡ None → Grew before.given after.given piece → after.taken ≡ before.taken →
    t.buffer.items ≡ s.buffer.items ++ piece → waiting t.held ≡ waiting s.held → delayed_in t ≡ delayed_in s → t.parameters ≡ s.parameters →
    t.given ≡ s.given + length piece → t.delivered ≡ s.delivered → SameWay s t → is_nothing piece ≡ false → t.moved ≡ true → Keeps before after → Passes s t before after [] []
reads_piece s t before after piece read unread given taken buffer held delayed parameters count delivered way some moved link =
    reads s t before after piece [] [] false [] [] read (unread_none t.unread unread) refl (still_last s t held) given taken (ap messages (sym buffer)) (ap bytes_left (sym buffer))
    (append-nil (waiting s.held) ∙ sym held) (append-nil (delayed_in s) ∙ sym delayed) parameters (sent_in s t way) refl refl count (not_risen s.delivered t.delivered delivered)
    (moved ∙ or_true s.moved ∙ ap (λ x. s.moved || (((not x || false) || (false || false)) || false)) (sym some)) (no_end s t way) (λ none. stirred t.moved moved none) not_there link

-- a notice that was delayed is handed out
pub reads_delayed : (s t : Streams) (l : LinkView) (raw : RawMessage) → s.unread ≡ None → t.unread ≡ None → t.buffer.items ≡ s.buffer.items → waiting t.held ≡ waiting s.held →
    delayed_in s ≡ raw ∷ delayed_in t → t.parameters ≡ s.parameters → t.given ≡ s.given → t.delivered ≡ s.delivered → SameWay s t → t.moved ≡ true →
    Passes s t l l [] (raw ∷ [])
reads_delayed s t l raw read unread buffer held delayed parameters given delivered way moved =
    reads s t l l [] [] [] false [] (raw ∷ []) read (unread_none t.unread unread) refl (still_last s t held) (grew_same l.given l.given refl) refl
    (ap messages (append-nil s.buffer.items ∙ sym buffer)) (ap bytes_left (append-nil s.buffer.items ∙ sym buffer))
    (append-nil (waiting s.held) ∙ sym held) (append-nil (delayed_in s) ∙ delayed) parameters (sent_in s t way) refl refl (omega (arith, given)) (not_risen s.delivered t.delivered delivered)
    (moved ∙ or_true s.moved) (no_end s t way) (λ none. untouched_same l) not_there (keeps_same l)
