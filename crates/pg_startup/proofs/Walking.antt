-- Messages that are heard one after another.
use Rattle.std.proofs.Common.{◌≡◌, ℕ, ◌&&◌, inl, inr, if◌then◌else◌, Bool, true, false, List, [], ◌∷◌, ◌++◌, Option, Some, None, Result, Ok, Err, append-nil, append_assoc, refl, sym, ◌∙◌, ap, subst, ℤ}
use Rattle.std.specs.Prelude.{IfErr, IfOk}
use Rattle.std.specs.declared.alloc.Global.{Global}
use Rattle.bytes.specs.declared.unique.BytesMut.{BytesMut}
use Rattle.pg_spec.specs.Batches.{is_batch, is_nothing}
use Rattle.pg_spec.specs.Faults as spec
use Rattle.pg_spec.specs.Messages as said
use Rattle.pg_spec.specs.Messages.{message_of}
use Rattle.pg_spec.specs.RawMessages.{RawMessage, messages, bytes_left, has_bad_header, is_aside, is_ready}
use Rattle.pg_spec.specs.Startup.{Login, Phase, Refuses, key_of, startup_message, startup_move}
use Rattle.pg_types.specs.declared.cause.Cause.TheVariants as cause
use Rattle.pg_types.specs.declared.error.Error.{Error}
use Rattle.pg_types.specs.declared.error.Error.TheVariants as error
use Rattle.pg_types.specs.declared.faults.WireFault as wire_faults
use Rattle.pg_types.specs.declared.faults.WireFault.TheVariants as wire
use Rattle.pg_wire.specs.Backend.{RefusedBy}
use Rattle.pg_wire.specs.Decode.{Decodes}
use Rattle.pg_wire.specs.Faults.{wire_fault}
use Rattle.pg_wire.specs.Messages.{message_view}
use Rattle.pg_wire.specs.declared.message.Message.{Message}
use Rattle.pg_startup.proofs.Batches.{IsRest}
use Rattle.pg_startup.specs.declared.startup.Heard.{Heard}
use Rattle.pg_startup.specs.declared.startup.Heard.TheVariants as heard
use Rattle.pg_startup.specs.declared.startup.Startup.{Startup}
use Rattle.pg_startup.specs.declared.transfer.Transfer.{Transfer}
use Rattle.pg_startup.specs.Startups.{HasPlace, Hears, HearsAll, HearsBuffer, HearsOnly, IsRefusedNext, IsStop, IsTold, KeepsAside, KeepsOnly, Leads, MarksEnd, Noted, Queues, Speaks, StandsAt, Stops, TellsOnly, WasLast, refusal_of, sends_left, with_key}
use Rattle.pg_startup.proofs.Starting.{not-aside, noted-aside, noted-calm, noted-same}
use Rattle.pg_startup.proofs.Telling.{phase-of, refused-stop, speaks-same}

-- ---- one message

-- telling keeps what was noted
pub noted-told : (read : List RawMessage) (s t : Startup) → Noted read s → TellsOnly s t → Noted read t
noted-told read s t noted same =
    noted-same read s t noted (ap (λ (x : Startup). x.delayed) same) (ap (λ (x : Startup). x.parameters) same) (ap (λ (x : Startup). x.process_id) same) (ap (λ (x : Startup). x.secret_key) same)

pub key-speaks : (l : Login) (first : List ℕ) (read : List RawMessage) (s : Startup) (o : Option (ℤ × ℤ)) → Speaks l first read s → Speaks l first read (with_key s o)
key-speaks l first read s None p = p
key-speaks l first read s (Some key) p = record { wrote = p.wrote; opening = p.opening; reaches = p.reaches }

pub key-done : (s : Startup) (o : Option (ℤ × ℤ)) → (with_key s o).done ≡ s.done
key-done s None = refl
key-done s (Some key) = refl

-- a message of a batch was told, and is kept where it is the key
pub heard-calm : (l : Login) (first : List ℕ) (read : List RawMessage) (raw : RawMessage) (m : said.Message) (s t u : Startup) (h : Heard) → StandsAt l first read s → TellsOnly s t →
    is_aside raw ≡ false → message_of raw ≡ Ok m → IsTold l first read raw t (Ok h) → u ≡ with_key t (key_of m) → Hears l first read (raw ∷ []) [] [] u (Ok h)
heard-calm l first read raw m s t u heard.More at same calm means told is =
    subst (λ (x : Startup). Hears l first read (raw ∷ []) [] [] x (Ok heard.More)) (sym is) (
      refl,
      key-done t (key_of m) ∙ told.0,
      record { speaks = key-speaks l first (read ++ raw ∷ []) t (key_of m) told.1; noted = noted-calm read t raw m (noted-told read s t at.noted same) calm means },
    )
heard-calm l first read raw m s t u heard.Done at same calm means told is =
    subst (λ (x : Startup). Hears l first read (raw ∷ []) [] [] x (Ok heard.Done)) (sym is) (
      raw ∷ [],
      refl,
      key-done t (key_of m) ∙ told.0,
      record { speaks = key-speaks l first (read ++ raw ∷ []) t (key_of m) told.1; noted = noted-calm read t raw m (noted-told read s t at.noted same) calm means },
    )

keeps-speaks : (l : Login) (first : List ℕ) (read : List RawMessage) (t u : Startup) → Speaks l first read t → KeepsOnly t u → Speaks l first read u
keeps-speaks l first read t u p same =
    speaks-same l first read t u p (ap (λ (x : Startup). x.dialogue) same) (ap (λ (x : Startup). x.done) same) (ap (λ (x : Startup). x.opening.items) same)

-- a message aside was told and kept
pub heard-aside : (l : Login) (first : List ℕ) (read : List RawMessage) (raw : RawMessage) (m : said.Message) (s t u : Startup) → StandsAt l first read s → TellsOnly s t →
    is_aside raw ≡ true → message_of raw ≡ Ok m → HasPlace m → IsTold l first read raw t (Ok heard.More) → KeepsOnly t u → KeepsAside t u m → Hears l first read (raw ∷ []) [] [] u (Ok heard.More)
heard-aside l first read raw m s t u at same aside means place told only keeps = (
  refl,
  ap (λ (x : Startup). x.done) only ∙ told.0,
  record {
    speaks = keeps-speaks l first (read ++ raw ∷ []) t u told.1 only;
    noted = noted-aside read t u raw m (noted-told read s t at.noted same) aside means place keeps;
  },
)

-- memory lacked behind it
pub aside-short : (l : Login) (first : List ℕ) (read : List RawMessage) (raw : RawMessage) (t u : Startup) → IsTold l first read raw t (Ok heard.More) → KeepsOnly t u →
    Hears l first read (raw ∷ []) [] [] u (Err error.OutOfMemory)
aside-short l first read raw t u told only =
    let at = phase-of l first (read ++ raw ∷ []) t told.1 told.0 in
    record {
      front = raw ∷ [];
      rest = [];
      stands = refl;
      at = at.0;
      wrote = told.1.wrote;
      opening = ap (λ (x : Startup). x.opening.items) only ∙ told.1.opening;
      leads = at.1;
      why = tt;
    }

-- a message aside never ends it
pub aside-goes-on : (raw : RawMessage) (message : Message) → is_aside raw ≡ true → message_of raw ≡ Ok (message_view message) → WasLast message (Ok heard.Done) → ⊥
aside-goes-on raw message aside means last = not-aside raw (said.ReadyForQuery last.0) refl aside (means ∙ ap (λ (m : said.Message). Ok m) last.1)

-- ---- some messages

-- These messages were heard, those are left, and it waits for more.
pub record Walked (l : Login) (first : List ℕ) (read all left : List RawMessage) (s : Startup) : Type 0 where
  pub front : List RawMessage
  pub is : all ≡ front ++ left
  pub going : s.done ≡ false
  pub stands : StandsAt l first (read ++ front) s

pub walked-none : (l : Login) (first : List ℕ) (read all : List RawMessage) (s : Startup) → StandsAt l first read s → s.done ≡ false → Walked l first read all all s
walked-none l first read all s stands going = record {
  front = [];
  is = refl;
  going = going;
  stands = subst (λ (r : List RawMessage). StandsAt l first r s) (sym (append-nil read)) stands;
}

joins : (all front some left mid : List RawMessage) → all ≡ front ++ mid → mid ≡ some ++ left → all ≡ (front ++ some) ++ left
joins all front some left mid e h = e ∙ ap (λ (l : List RawMessage). front ++ l) h ∙ sym (append_assoc front some left)

-- some more were heard
pub walked-on : (l : Login) (first : List ℕ) (read all mid some left : List RawMessage) (s t : Startup) (w : Walked l first read all mid s) → mid ≡ some ++ left →
    Hears l first (read ++ w.front) some [] [] t (Ok heard.More) → Walked l first read all left t
walked-on l first read all mid some left s t w e h = record {
  front = w.front ++ some;
  is = joins all w.front some left mid w.is e;
  going = h.1;
  stands = subst (λ (r : List RawMessage). StandsAt l first r t) (append_assoc read w.front some) h.2;
}

-- with these bytes buffered
abbrev pub with_buffer : Startup → BytesMut Global → Startup
with_buffer s b = record s { bytes = record s.bytes { buffer = b } }

-- it stands there whatever is buffered
pub walked-buffer : (l : Login) (first : List ℕ) (read all left : List RawMessage) (s : Startup) (b : BytesMut Global) → Walked l first read all left s → Walked l first read all left (with_buffer s b)
walked-buffer l first read all left s b w = record {
  front = w.front;
  is = w.is;
  going = w.going;
  stands = record {
    speaks = record { wrote = w.stands.speaks.wrote; opening = w.stands.speaks.opening; reaches = w.stands.speaks.reaches };
    noted = record { delayed = w.stands.noted.delayed; parameters = w.stands.noted.parameters; key = w.stands.noted.key };
  };
}

-- and so is what is queued and changed
pub queues-buffer : (s t : Startup) (b : BytesMut Global) → Queues s t → Queues s (with_buffer t b)
queues-buffer s t b q = (q.0, record { opening = q.1.opening; unsent = q.1.unsent; flushed = q.1.flushed })

pub buffer-changed : (s t : Startup) (b : BytesMut Global) → HearsBuffer s t → HearsBuffer s (with_buffer t b)
buffer-changed s t b same = ap (λ (x : Transfer). record x { buffer = b }) same

-- all were heard
pub walked-all : (l : Login) (first : List ℕ) (read all left : List RawMessage) (s : Startup) → Walked l first read all left s → left ≡ [] → Hears l first read all [] [] s (Ok heard.More)
walked-all l first read all left s w e = (
  refl,
  w.going,
  subst (λ (r : List RawMessage). StandsAt l first (read ++ r) s) (sym (w.is ∙ ap (λ (r : List RawMessage). w.front ++ r) e ∙ append-nil w.front)) w.stands,
)

-- those that are left end it
pub walked-ends : (l : Login) (first : List ℕ) (read all mid some left : List RawMessage) (s t : Startup) (w : Walked l first read all mid s) → mid ≡ some ++ left →
    Hears l first (read ++ w.front) some [] [] t (Ok heard.Done) → Hears l first read all left [] t (Ok heard.Done)
walked-ends l first read all mid some left s t w e h = (
  w.front ++ h.0,
  joins all w.front h.0 left mid w.is (e ∙ ap (λ (x : List RawMessage). x ++ left) (h.1 ∙ append-nil h.0)),
  h.2,
  subst (λ (x : List RawMessage). StandsAt l first x t) (append_assoc read w.front h.0) h.3,
)

refused-more : (l : Login) (at : Phase) (rest more : List RawMessage) (e : Error) → IsRefusedNext l at rest e → IsRefusedNext l at (rest ++ more) e
refused-more l at [] more e why = absurd why
refused-more l at (m ∷ rest) more e why = why

stop-more : (l : Login) (at : Phase) (rest more : List RawMessage) (left : List ℕ) (e : Error) → IsStop l at rest [] e → IsStop l at (rest ++ more) left e
stop-more l at rest more left error.OutOfMemory why = tt
stop-more l at rest more left (error.Io (cause.Wire wire.BadLength)) why = absurd (let no : false ≡ true = why.1 in cc)
stop-more l at rest more left e why = refused-more l at rest more e why

-- it stopped among some of those that are left
pub stops-later : (l : Login) (first : List ℕ) (read all mid some more : List RawMessage) (left : List ℕ) (s t : Startup) (e : Error) (w : Walked l first read all mid s) → mid ≡ some ++ more →
    Stops l first (read ++ w.front) some [] t e → Stops l first read all left t e
stops-later l first read all mid some more left s t e w is h = record {
  front = w.front ++ h.front;
  rest = h.rest ++ more;
  stands = joins all w.front h.front (h.rest ++ more) mid w.is
      (is ∙ ap (λ (l : List RawMessage). l ++ more) h.stands ∙ append_assoc h.front h.rest more);
  at = h.at;
  wrote = h.wrote;
  opening = h.opening;
  leads = subst (λ (r : List RawMessage). Leads l r h.at h.wrote) (append_assoc read w.front h.front) h.leads;
  why = stop-more l h.at h.rest more left e h.why;
}

-- it stops in front of those that are left
stops-here : (l : Login) (first : List ℕ) (read all mid : List RawMessage) (left : List ℕ) (s t : Startup) (e : Error) (w : Walked l first read all mid s) → t.opening.items ≡ s.opening.items →
    ((at : Phase) → IsStop l at mid left e) → Stops l first read all left t e
stops-here l first read all mid left s t e w same why =
    let at = phase-of l first (read ++ w.front) s w.stands.speaks w.going in
    record {
      front = w.front;
      rest = mid;
      stands = w.is;
      at = at.0;
      wrote = w.stands.speaks.wrote;
      opening = same ∙ w.stands.speaks.opening;
      leads = at.1;
      why = why at.0;
    }

malformed-move : (l : Login) (at : Phase) (raw : RawMessage) (fault : wire_faults.WireFault) → message_of raw ≡ Err fault → startup_move l at raw ≡ Refuses (spec.Io (spec.Wire fault))
malformed-move l at raw fault means =
    ap (λ (r : Result said.Message wire_faults.WireFault). elim r [ Ok message ↦ startup_message l at message | Err f ↦ Refuses (spec.Io (spec.Wire f)) ]) means

malformed-stop : (l : Login) (at : Phase) (mid rest : List RawMessage) (left : List ℕ) (raw : RawMessage) (fault : wire_faults.WireFault) → mid ≡ raw ∷ rest → message_of raw ≡ Err fault →
    IsStop l at mid left (error.Io (cause.Wire fault))
malformed-stop l at mid rest left raw fault front means =
    subst (λ (ms : List RawMessage). IsStop l at ms left (error.Io (cause.Wire fault))) (sym front)
    (refused-stop l at raw rest left (error.Io (cause.Wire fault)) (malformed-move l at raw fault means))

-- the next one of a batch can't be read
pub malformed-later : (l : Login) (first : List ℕ) (read all mid new : List RawMessage) (s : Startup) (fault : wire_faults.WireFault) → Walked l first read all mid s →
    RefusedBy mid new (wire_fault fault) → Stops l first read all [] s (refusal_of fault)
malformed-later l first read all mid new s wire.OutOfMemory w r = stops-here l first read all mid [] s s error.OutOfMemory w refl (λ at. tt)
malformed-later l first read all mid new s wire.BadLength w r = stops-here l first read all mid [] s s (error.Io (cause.Wire wire.BadLength)) w refl (λ at. malformed-stop l at mid r.rest [] r.raw wire.BadLength r.front r.means)
malformed-later l first read all mid new s wire.UnknownTag w r = stops-here l first read all mid [] s s (error.Io (cause.Wire wire.UnknownTag)) w refl (λ at. malformed-stop l at mid r.rest [] r.raw wire.UnknownTag r.front r.means)
malformed-later l first read all mid new s wire.Layout w r = stops-here l first read all mid [] s s (error.Io (cause.Wire wire.Layout)) w refl (λ at. malformed-stop l at mid r.rest [] r.raw wire.Layout r.front r.means)
malformed-later l first read all mid new s wire.NotUtf8 w r = stops-here l first read all mid [] s s (error.Io (cause.Wire wire.NotUtf8)) w refl (λ at. malformed-stop l at mid r.rest [] r.raw wire.NotUtf8 r.front r.means)

-- what stands in front of the buffer can't be taken off
pub refused-all : (l : Login) (first : List ℕ) (read : List RawMessage) (old mid new : List ℕ) (s t : Startup) (fault : wire_faults.WireFault) → bytes_left mid ≡ bytes_left old → t.opening.items ≡ s.opening.items →
    Walked l first read (messages old) (messages mid) s → Decodes mid new (Err fault) → HearsAll l first read old new t (Err (refusal_of fault))
refused-all l first read old mid new s t wire.OutOfMemory left same w d = stops-here l first read (messages old) (messages mid) (bytes_left old) s t error.OutOfMemory w same (λ at. tt)
refused-all l first read old mid new s t wire.BadLength left same w d =
    stops-here l first read (messages old) (messages mid) (bytes_left old) s t (error.Io (cause.Wire wire.BadLength)) w same (λ at. (d.none, ap has_bad_header (sym left ∙ d.left) ∙ d.header))
refused-all l first read old mid new s t wire.Layout left same w d =
    stops-here l first read (messages old) (messages mid) (bytes_left old) s t (error.Io (cause.Wire wire.Layout)) w same (λ at. malformed-stop l at (messages mid) d.rest (bytes_left old) d.raw wire.Layout d.front d.broken)
refused-all l first read old mid new s t wire.UnknownTag left same w d = absurd d
refused-all l first read old mid new s t wire.NotUtf8 left same w d = absurd d

-- ---- what is queued

none-front : (xs ys : List ℕ) → xs ≡ [] → ys ≡ [] → xs ++ ys ≡ []
none-front xs ys e h = ap (λ (l : List ℕ). l ++ ys) e ∙ h

-- some frames, and then others
pub queues-then : (s t u : Startup) → Queues s t → Queues t u → Queues s u
queues-then s t u q r = (
  q.0 ++ r.0,
  record {
    opening = r.1.opening ∙ ap (λ (l : List ℕ). l ++ r.0) q.1.opening ∙ append_assoc s.opening.items q.0 r.0;
    unsent = r.1.unsent ∙ ap (λ (l : List ℕ). l ++ r.0) q.1.unsent ∙ append_assoc s.bytes.unsent.items q.0 r.0;
    flushed = λ is.
        let later = r.1.flushed is in
        let before = q.1.flushed later.1 in
        (none-front q.0 r.0 before.0 later.0, before.1);
  },
)

-- none
pub queues-none : (s t : Startup) → t.opening.items ≡ s.opening.items → t.bytes.unsent.items ≡ s.bytes.unsent.items → t.bytes.flushed ≡ s.bytes.flushed → Queues s t
queues-none s t opening unsent flushed = (
  [],
  record {
    opening = opening ∙ sym (append-nil s.opening.items);
    unsent = unsent ∙ sym (append-nil s.bytes.unsent.items);
    flushed = λ is. (refl, sym flushed ∙ is);
  },
)

-- what is told or kept on the way changes nothing of them
pub queues-kept : (s t u : Startup) → Queues s t → u.opening ≡ t.opening → u.bytes ≡ t.bytes → Queues s u
queues-kept s t u q opening bytes = (
  q.0,
  record {
    opening = ap (λ o. o.items) opening ∙ q.1.opening;
    unsent = ap (λ b. b.unsent.items) bytes ∙ q.1.unsent;
    flushed = λ is. q.1.flushed (sym (ap (λ b. b.flushed) bytes) ∙ is);
  },
)

pub key-bytes : (s : Startup) (o : Option (ℤ × ℤ)) → (with_key s o).bytes ≡ s.bytes
key-bytes s None = refl
key-bytes s (Some key) = refl

pub key-opening : (s : Startup) (o : Option (ℤ × ℤ)) → (with_key s o).opening ≡ s.opening
key-opening s None = refl
key-opening s (Some key) = refl

-- ---- what is changed

pub hears-told : (s t : Startup) → TellsOnly s t → HearsOnly s t
hears-told s t same = ap (λ (x : Startup). x.bytes) same

pub hears-kept : (s t u : Startup) → HearsOnly s t → u.bytes ≡ t.bytes → HearsOnly s u
hears-kept s t u same kept = subst (λ (b : Transfer). b ≡ record s.bytes { unsent = b.unsent; flushed = b.flushed }) (sym kept) same

pub hears-then : (s t u : Startup) → HearsOnly s t → HearsOnly t u → HearsOnly s u
hears-then s t u first next = next ∙ ap (λ (b : Transfer). record b { unsent = u.bytes.unsent; flushed = u.bytes.flushed }) first

pub buffer-then : (s t u : Startup) → HearsBuffer s t → HearsBuffer t u → HearsBuffer s u
buffer-then s t u first next = next ∙ ap (λ (b : Transfer). record b { buffer = u.bytes.buffer; unsent = u.bytes.unsent; flushed = u.bytes.flushed }) first

pub buffer-hears : (s t : Startup) → HearsOnly s t → HearsBuffer s t
buffer-hears s t same = same ∙ ap (λ (b : Transfer). record s.bytes { buffer = b.buffer; unsent = t.bytes.unsent; flushed = t.bytes.flushed }) (sym same)

pub buffer-of : (s t : Startup) → HearsOnly s t → t.bytes.buffer ≡ s.bytes.buffer
buffer-of s t same = ap (λ (b : Transfer). b.buffer) same

-- ---- batches

by-aside : (a b c : Bool) (rest : List RawMessage) → (if a then false else (if b then c && is_nothing rest else is_batch c rest)) ≡ true → a ≡ false
by-aside true b c rest e = absurd cc
by-aside false b c rest e = refl

-- no message aside stands in a batch
pub calm-first : (complete : Bool) (m : RawMessage) (ms : List RawMessage) → IsRest complete (m ∷ ms) → is_aside m ≡ false
calm-first complete m ms (inl e) = by-aside (is_aside m) (is_ready m) complete ms e
calm-first complete m ms (inr e) = absurd cc

-- ---- the key is noted

pub key-sends : (s : Startup) (o : Option (ℤ × ℤ)) → sends_left (with_key s o) ≡ sends_left s
key-sends s None = refl
key-sends s (Some key) = refl

pub key-marks : (s t u : Startup) (o : Option (ℤ × ℤ)) (h : Heard) → u ≡ with_key t o → MarksEnd s t (Ok h) → MarksEnd s u (Ok h)
key-marks s t u o heard.More is end = ap (λ (x : Startup). x.done) is ∙ key-done t o ∙ end
key-marks s t u o heard.Done is end = ap (λ (x : Startup). x.done) is ∙ key-done t o ∙ end

-- ---- a message aside is kept

-- a message aside was told, and kept unless memory lacked
pub aside-kept : (l : Login) (first : List ℕ) (read : List RawMessage) (raw : RawMessage) (m : said.Message) (s t u : Startup) (r : Result Heard Error) → StandsAt l first read s → TellsOnly s t →
    is_aside raw ≡ true → message_of raw ≡ Ok m → HasPlace m → IsTold l first read raw t (Ok heard.More) → KeepsOnly t u →
    IfOk r (λ h. (h ≡ heard.More) × KeepsAside t u m) → IfErr r (λ e. e ≡ error.OutOfMemory) → Hears l first read (raw ∷ []) [] [] u r
aside-kept l first read raw m s t u (Ok h) at same aside means place told only kept err =
    subst (λ (x : Heard). Hears l first read (raw ∷ []) [] [] u (Ok x)) (sym kept.0) (heard-aside l first read raw m s t u at same aside means place told only kept.1)
aside-kept l first read raw m s t u (Err e) at same aside means place told only kept err =
    subst (λ (x : Error). Hears l first read (raw ∷ []) [] [] u (Err x)) (sym err) (aside-short l first read raw t u told only)

pub aside-marks : (s t u : Startup) (P : Type 0) (r : Result Heard Error) → t.done ≡ s.done → KeepsOnly t u → IfOk r (λ h. (h ≡ heard.More) × P) → MarksEnd s u r
aside-marks s t u P (Ok h) same only kept = subst (λ (x : Heard). MarksEnd s u (Ok x)) (sym kept.0) (ap (λ (x : Startup). x.done) only ∙ same)
aside-marks s t u P (Err e) same only kept = ap (λ (x : Startup). x.done) only ∙ same

pub kept-sends : (t u : Startup) → KeepsOnly t u → sends_left u ≡ sends_left t
kept-sends t u only = ap sends_left only
