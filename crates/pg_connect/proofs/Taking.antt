-- What is taken off the front of the bytes.
use Rattle.std.proofs.lemmas.List.{append-nil, length-take}
use Rattle.std.proofs.Common.{◌≡◌, ℕ, zero, suc, ◌≤◌, ◌<◌, ◌+◌, Bool, true, false, not, List, [], ◌∷◌, ◌++◌, length, map, take, drop, Option, Some, None, Result, Ok, Err, refl, sym, ap, subst, ◌∙◌, arith, Vec}
use Rattle.std.specs.declared.alloc.Global.{Global}
use Rattle.bytes.specs.declared.unique.BytesMut.{BytesMut}
use Rattle.pg_spec.specs.Batches.{is_nothing}
use Rattle.pg_spec.specs.Bytes.{◌>>=◌}
use Rattle.pg_spec.specs.Links.{LinkView, Rose}
use Rattle.pg_spec.specs.Report as said
use Rattle.pg_wire.specs.LinkCalls.{Keeps, Gives, SameBytes}
use Rattle.pg_errors.specs.declared.async_message.AsyncMessage.TheVariants.{Notice}
use Rattle.pg_types.specs.declared.db_error.DbError.{DbError}
use Rattle.pg_wire.specs.declared.message.Message.{Message}
use Rattle.pg_types.specs.declared.faults.WireFault.{WireFault}
use Rattle.pg_types.specs.declared.faults.WireFault.TheVariants as wire
use Rattle.pg_wire.specs.Decode.{CutsAside, Decodes}
use Rattle.pg_wire.specs.Messages.{message_view}
use Rattle.pg_errors.specs.Views as errors
use Rattle.pg_connect.specs.declared.fault.ConnectionFault.{ConnectionFault}
use Rattle.pg_connect.specs.declared.ends.Off.{Off}
use Rattle.pg_connect.specs.declared.ends.Off.TheVariants as off
use Rattle.pg_connect.specs.declared.streams.Streams.{Streams}
use Rattle.pg_connect.specs.Kept.{keep}
use Rattle.pg_connect.specs.Passes.{Passes, PassesOn, Untouched, notice_of, delayed_in, waiting}
use Rattle.pg_spec.specs.RawMessages.{messages}
use Rattle.pg_connect.specs.Reads.{TakesAside, TakesIn, HandedOff, OffEnds, Carries, FirstReads}
use Rattle.pg_connect.specs.declared.fault.ConnectionFault.TheVariants as fault
use Rattle.pg_connect.proofs.Dues.{due_none, due_front}
use Rattle.pg_connect.proofs.Sends.{or_false, or_true, some_taken}
use Rattle.pg_connect.proofs.Sorting.{sorted_handed, kept_aside}
use Rattle.pg_connect.proofs.Arriving.{reads_nothing, reads_end, reads_aside, reads_lost, reads_piece, reads_delayed}

-- a message aside was passed on, or is left unread
pub aside_taken : (s mid t : Streams) (l : LinkView) (message : Message) (r : Result Off ConnectionFault) → s.unread ≡ None → waiting s.held ≡ [] → delayed_in s ≡ [] →
    CutsAside s.buffer.items mid.buffer.items message → mid ≡ record s { buffer = mid.buffer } → TakesAside mid t message r → PassesOn s t l l [] (HandedOff r)
aside_taken s mid t l message (Ok (off.Handed handed)) read free none cut same takes =
    let is : t ≡ record s { buffer = mid.buffer; moved = true } = takes.1 ∙ ap (λ (x : Streams). record x { moved = true }) same in
    let sorted = sorted_handed cut.raw (message_view message) (errors.async_of handed) cut.aside cut.means takes.0 in
    record {
      handed = cut.raw ∷ [];
      is = record { raw = cut.raw; alone = refl; means = sorted.1 };
      passes = subst (λ (x : Streams). Passes s x l l [] (cut.raw ∷ [])) (sym is)
          (reads_aside s (record s { buffer = mid.buffer; moved = true }) l cut.raw (cut.raw ∷ []) [] read read cut.cuts sorted.0 free refl none refl refl refl refl
          (record { unsent = refl; closing = refl; limit = refl; ended = refl; at_end = refl }) (or_true s.moved));
    }
aside_taken s mid t l message (Ok off.Kept) read free none cut same takes =
    let kept = kept_aside mid t message cut.raw cut.aside cut.means takes in
    let is : t ≡ record s { buffer = mid.buffer; parameters = keep s.parameters kept.report } =
    kept.same ∙ ap (λ (x : Streams). record x { parameters = keep x.parameters kept.report }) same in
    record {
      handed = [];
      is = refl;
      passes = subst (λ (x : Streams). Passes s x l l [] []) (sym is)
          (reads_aside s (record s { buffer = mid.buffer; parameters = keep s.parameters kept.report }) l cut.raw [] (kept.report ∷ []) read read cut.cuts kept.sorted free refl none refl refl refl refl
          (record { unsent = refl; closing = refl; limit = refl; ended = refl; at_end = refl }) (or_false s.moved));
    }
aside_taken s mid t l message (Ok off.Held) read free none cut same takes = absurd takes
aside_taken s mid t l message (Ok off.Nothing) read free none cut same takes = absurd takes
aside_taken s mid t l message (Err e) read free none cut same takes =
    let is : t ≡ record s { buffer = mid.buffer; unread = Some message } = takes.1 ∙ ap (λ (x : Streams). record x { unread = Some message }) same in
    record {
      handed = [];
      is = refl;
      passes = subst (λ (x : Streams). Passes s x l l [] []) (sym is)
          (reads_lost s (record s { buffer = mid.buffer; unread = Some message }) l cut.raw message read refl cut.cuts cut.aside cut.means free refl refl refl refl refl
          (record { unsent = refl; closing = refl; limit = refl; ended = refl; at_end = refl }) refl);
    }

-- how taking a message aside off ended
pub aside_ends : (s mid t : Streams) (message : Message) (r : Result Off ConnectionFault) → s.held ≡ None → delayed_in s ≡ [] → CutsAside s.buffer.items mid.buffer.items message →
    mid ≡ record s { buffer = mid.buffer } → TakesAside mid t message r → OffEnds s t r
aside_ends s mid t message (Ok (off.Handed handed)) none late cut same takes =
    let left : mid.buffer.items ≡ t.buffer.items = sym (ap (λ (x : Streams). x.buffer.items) takes.1) in
    record {
      front = [];
      raw = cut.raw;
      is = cut.cuts.messages ∙ ap (λ (x : List ℕ). cut.raw ∷ messages x) left;
      means = (sorted_handed cut.raw (message_view message) (errors.async_of handed) cut.aside cut.means takes.0).1;
    }
aside_ends s mid t message (Ok off.Kept) none late cut same takes =
    let kept = kept_aside mid t message cut.raw cut.aside cut.means takes in (
      subst (λ (x : Streams). length x.buffer.items < length s.buffer.items) (sym kept.same) cut.cuts.shorter,
      ap (λ (x : Streams). x.held) kept.same ∙ ap (λ (x : Streams). x.held) same ∙ none,
    )
aside_ends s mid t message (Ok off.Held) none late cut same takes = absurd takes
aside_ends s mid t message (Ok off.Nothing) none late cut same takes = absurd takes
aside_ends s mid t message (Err (fault.Unreadable c)) none late cut same takes = record {
  message = message;
  unread = ap (λ (x : Streams). x.unread) takes.1;
  means = takes.0;
  held = ap (λ (x : Streams). waiting x.held) takes.1 ∙ ap (λ (x : Streams). waiting x.held) same ∙ ap waiting none;
  delayed = ap delayed_in takes.1 ∙ ap delayed_in same ∙ late;
}
aside_ends s mid t message (Err fault.OutOfMemory) none late cut same takes = tt
aside_ends s mid t message (Err _) none late cut same takes = absurd takes.0

-- a refusal leaves the bytes
pub decode_refused : (old new : List ℕ) (e : WireFault) → Decodes old new (Err e) → new ≡ old
decode_refused old new wire.OutOfMemory is = is
decode_refused old new wire.BadLength is = is.same
decode_refused old new wire.Layout is = is.same
decode_refused old new wire.UnknownTag is = absurd is
decode_refused old new wire.NotUtf8 is = absurd is

not_true : (b : Bool) → not b ≡ true → b ≡ false
not_true true e = absurd cc
not_true false e = refl

-- bytes that were written over the front of others, in front
pub front_over : (n room : ℕ) (out more : List ℕ) → n ≤ length out → n ≤ room → take n (take room (out ++ more)) ≡ take n out
front_over zero room out more fits within = refl
front_over (suc n) room [] more fits within = absurd (omega (arith, fits))
front_over (suc n) zero (x ∷ out) more fits within = absurd (omega (arith, within))
front_over (suc n) (suc room) (x ∷ out) more fits within = ap (λ (l : List ℕ). x ∷ l) (front_over n room out more (omega (arith, fits)) (omega (arith, within)))

-- the link gave a piece, and it was taken in
pub piece_taken : (s t : Streams) (p : Vec ℕ Global) (l m : LinkView) (out : List ℕ) (n : ℕ) → s.unread ≡ None → Gives l m out n → Keeps l m →
    t.buffer.items ≡ s.buffer.items ++ take n out → t ≡ record s { buffer = t.buffer; piece = p; given = s.given + n; moved = true } → TakesIn s t l m
piece_taken s t p l m out n read gives keeps buffer same =
    subst (λ (x : Streams). TakesIn s x l m) (sym same)
    (record {
      passes = reads_piece s (record s { buffer = t.buffer; piece = p; given = s.given + n; moved = true }) l m (take n out) read read gives.given gives.taken buffer
          refl refl refl (omega (arith, length-take n out, gives.fits)) refl (record { unsent = refl; closing = refl; limit = refl; ended = refl; at_end = refl }) (not_true (is_nothing (take n out)) (some_taken n out gives.some gives.fits)) refl keeps;
      buffer = buffer;
      due = due_front l.due m.due n (take n out) gives.front gives.due;
    })

-- nothing was read: the bytes are as before, wherever they stand
pub piece_none : (s : Streams) (b : BytesMut Global) (p : Vec ℕ Global) (l m : LinkView) → s.unread ≡ None → b.items ≡ s.buffer.items → Untouched l m → Keeps l m →
    Passes s (record s { buffer = b; piece = p }) l m [] []
piece_none s b p l m read same bytes keeps =
    reads_nothing s (record s { buffer = b; piece = p }) l m read bytes
    (record { buffer = same; unread = read; held = refl; delayed = refl; parameters = refl; given = refl; delivered = refl })
    (record { unsent = refl; closing = refl; limit = refl; ended = refl; at_end = refl }) refl keeps

-- the same of a read
pub piece_still : (s : Streams) (b : BytesMut Global) (p : Vec ℕ Global) (l m : LinkView) → s.unread ≡ None → b.items ≡ s.buffer.items → Untouched l m → Keeps l m →
    TakesIn s (record s { buffer = b; piece = p }) l m
piece_still s b p l m read same bytes keeps = record {
  passes = reads_nothing s (record s { buffer = b; piece = p }) l m read bytes
      (record { buffer = same; unread = read; held = refl; delayed = refl; parameters = refl; given = refl; delivered = refl })
      (record { unsent = refl; closing = refl; limit = refl; ended = refl; at_end = refl }) refl keeps;
  buffer = same ∙ sym (append-nil s.buffer.items);
  due = due_none l.due m.due [] bytes.bytes.due refl;
}

-- the link gave its end
pub piece_end : (s : Streams) (b : BytesMut Global) (p : Vec ℕ Global) (l m : LinkView) → s.unread ≡ None → b.items ≡ s.buffer.items → SameBytes l m → Rose l.ends m.ends → Keeps l m →
    TakesIn s (record s { buffer = b; piece = p; moved = true; at_end = true }) l m
piece_end s b p l m read same bytes rose keeps = record {
  passes = reads_end s (record s { buffer = b; piece = p; moved = true; at_end = true }) l m read bytes
      (record { buffer = same; unread = read; held = refl; delayed = refl; parameters = refl; given = refl; delivered = refl })
      (record { unsent = refl; closing = refl; limit = refl; ended = refl }) refl refl rose keeps;
  buffer = same ∙ sym (append-nil s.buffer.items);
  due = due_none l.due m.due [] bytes.due refl;
}

-- a notice that was delayed is handed out
pub delayed_taken : (s t : Streams) (l : LinkView) (e : DbError) → s.unread ≡ None → FirstReads s e → t.delayed.items ≡ drop 1 s.delayed.items →
    t ≡ record s { delayed = t.delayed; moved = true } → PassesOn s t l l [] (λ handed. Carries handed (Notice e))
delayed_taken s t l e read first left same =
    let rest : t.delayed.items ≡ first.others = left ∙ ap (drop 1) first.first in
    record {
      handed = notice_of first.notice ∷ [];
      is = record { raw = notice_of first.notice; alone = refl; means = ap (λ (o : Option _). o >>= (λ notice. Some (said.Notice notice))) first.means };
      passes = subst (λ (x : Streams). Passes s x l l [] (notice_of first.notice ∷ [])) (sym same)
          (reads_delayed s (record s { delayed = t.delayed; moved = true }) l (notice_of first.notice) read read refl refl
          (ap (map notice_of) first.first ∙ ap (λ x. notice_of first.notice ∷ map notice_of x) (sym rest)) refl refl refl
          (record { unsent = refl; closing = refl; limit = refl; ended = refl; at_end = refl }) refl);
    }
