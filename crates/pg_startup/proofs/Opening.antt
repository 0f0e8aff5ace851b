-- Where a startup stands behind each step of a poll.
use Rattle.std.proofs.Common.{◌≡◌, ◌≢◌, inl, inr, ℕ, ◌+◌, ◌<◌, ◌≤◌, Bool, true, false, List, [], ◌∷◌, ◌++◌, length, map, Option, Some, None, Result, Ok, Err, append-nil, append_assoc, length-append, arith, refl, sym, ◌∙◌, ap, subst}
use Rattle.std.specs.Prelude.{ℤ, pos}
use Rattle.pg_spec.specs.Links.{LinkView, Grew}
use Rattle.pg_spec.specs.RawMessages.{RawMessage, messages, bytes_left, has_bad_header}
use Rattle.pg_spec.specs.Startup.{Login, Phase, First}
use Rattle.pg_spec.proofs.MessageLaws.{messages-append, bytes_left-append}
use Rattle.pg_types.specs.declared.cause.Cause.TheVariants as cause
use Rattle.pg_types.specs.declared.error.Error.{Error}
use Rattle.pg_types.specs.declared.error.Error.TheVariants as error
use Rattle.pg_types.specs.declared.faults.WireFault.TheVariants as wire
use Rattle.pg_wire.specs.LinkCalls.{Keeps}
use Rattle.pg_startup.specs.Stages.{Stage}
use Rattle.pg_startup.specs.Steps.{frame_of}
use Rattle.pg_connect.specs.Ends.{IsFlushedFrom}
use Rattle.pg_connect.specs.Passes.{notice_of}
use Rattle.pg_connect.specs.Reads.{piece_size}
use Rattle.pg_connect.proofs.Joining.{grew_none, grew_then, keeps_same, keeps_then, rose_later}
use Rattle.pg_startup.specs.Transfers.{Gets, IsFlushed, IsWithinLimit, PieceEnds, Sends, SentEnds}
use Rattle.pg_startup.specs.declared.transfer.Transfer.{Transfer}
use Rattle.pg_startup.specs.declared.startup.Heard.{Heard}
use Rattle.pg_startup.specs.declared.startup.Heard.TheVariants as heard
use Rattle.pg_startup.specs.declared.startup.Startup.{Startup}
use Rattle.pg_startup.specs.Startups.{Came, Failed, FailsBy, HasNone, HearsAll, HearsBuffer, IsAt, IsRefusedNext, IsStop, LastPiece, Leads, Opened, Opening, Queues, Reaches, Speaks, StandsAt}
use Rattle.pg_startup.proofs.Refusals.{refusal-is}
use Rattle.pg_startup.proofs.Starting.{leads-none, pair}
use Rattle.pg_startup.proofs.Telling.{ends-of, phase-of}

-- ---- before the first poll

-- nothing was given
last-none : (l : Login) (first : List ℕ) (begin : LinkView) → LastPiece l first begin begin [] []
last-none l first begin = record {
  front = [];
  piece = [];
  all = refl;
  fits = omega arith;
  at = First;
  wrote = [];
  leads = leads-none l;
  header = refl;
  answered = inl refl;
}

pub opens : (l : Login) (asked : ℕ) (begin : LinkView) (s : Startup) (d : Stage) (first : List ℕ) → frame_of l.settings ≡ Ok first → s.opening.items ≡ first → s.bytes.unsent.items ≡ first →
    s.bytes.buffer.items ≡ [] → s.bytes.flushed ≡ false → s.bytes.given ≡ asked → s.dialogue ≡ Some d → d.login ≡ l → d.phase ≡ First → s.done ≡ false →
    s.delayed.items ≡ [] → s.parameters ≡ [] → s.process_id ≡ pos 0 → s.secret_key ≡ pos 0 → Opening l asked begin begin s
opens l asked begin s d first frame opening unsent empty not_yet given dialogue login at going delayed parameters process_id secret_key = record {
  got = [];
  sent = [];
  read = [];
  first = first;
  frame = frame;
  given = grew_none begin.given;
  taken = grew_none begin.taken;
  came = record { messages = ap messages (sym empty); left = ap bytes_left (sym empty) };
  last = last-none l first begin;
  out = unsent ∙ sym opening;
  stands = record {
    speaks = record {
      wrote = [];
      opening = opening ∙ sym (append-nil first);
      reaches = subst (λ (b : Bool). Reaches l [] [] b s.dialogue) (sym going)
          (subst (λ (o : Option Stage). Reaches l [] [] false o) (sym dialogue) (login, subst (λ (p : Phase). Leads l [] p []) (sym at) (leads-none l)));
    };
    noted = record { delayed = ap (map notice_of) delayed; parameters = parameters; key = ap (λ (p : ℤ). pair p s.secret_key) process_id ∙ ap (λ (k : ℤ). pair (pos 0) k) secret_key };
  };
  flushed = λ is. absurd (let no : true ≡ false = sym is ∙ not_yet in cc);
  shut = refl;
  count = given ∙ omega arith;
  link = keeps_same begin;
}

-- ---- what a step leaves

-- all that was buffered was heard
abbrev pub IsHeard : Startup → Type 0
IsHeard s = HasNone s.bytes.buffer.items

none-front : (xs ys : List ℕ) → xs ++ ys ≡ [] → xs ≡ []
none-front [] ys e = refl
none-front (x ∷ xs) ys e = absurd cc

none-back : (xs ys : List ℕ) → xs ++ ys ≡ [] → ys ≡ []
none-back [] ys e = e
none-back (x ∷ xs) ys e = absurd cc

-- more was taken since the last piece
last-sends : (l : Login) (first : List ℕ) (begin a b : LinkView) (got sent : List ℕ) (s t : Transfer) → a.shut ≡ begin.shut → (sends : Sends s t a b) →
    LastPiece l first begin a got sent → LastPiece l first begin b got (sent ++ sends.sent)
last-sends l first begin a b got sent s t shut sends last = record {
  front = last.front;
  piece = last.piece;
  all = last.all;
  fits = last.fits;
  at = last.at;
  wrote = last.wrote;
  leads = last.leads;
  header = last.header;
  answered = elim last.answered [
    | inl none ↦ inl none
    | inr w ↦ inr (record {
      later = w.later ++ sends.sent;
      taken = ap (λ (l : List ℕ). l ++ sends.sent) w.taken ∙ append_assoc (first ++ last.wrote) w.later sends.sent;
      flushed = λ none open_.
          sends.stays (none-back w.later sends.sent none) (shut ∙ open_) (w.flushed (none-front w.later sends.sent none) open_);
    })
  ];
}

-- some of the frames were taken
pub opening-sends : (l : Login) (asked : ℕ) (begin a b : LinkView) (s : Startup) (t : Transfer) → Opening l asked begin a s → Sends s.bytes t a b → Opening l asked begin b (record s { bytes = t })
opening-sends l asked begin a b s t o sends = record {
  got = o.got;
  sent = o.sent ++ sends.sent;
  read = o.read;
  first = o.first;
  frame = o.frame;
  given = sends.given ∙ o.given;
  taken = grew_then begin.taken a.taken b.taken o.sent sends.sent o.taken sends.taken;
  came = subst (λ (x : Transfer). Came o.read o.got x.buffer.items) (sym sends.same) o.came;
  last = last-sends l o.first begin a b o.got o.sent s.bytes t o.shut sends o.last;
  out = append_assoc o.sent sends.sent t.unsent.items ∙ ap (λ (l : List ℕ). o.sent ++ l) (sym sends.out) ∙ o.out;
  stands = record {
    speaks = record { wrote = o.stands.speaks.wrote; opening = o.stands.speaks.opening; reaches = o.stands.speaks.reaches };
    noted = record { delayed = o.stands.noted.delayed; parameters = o.stands.noted.parameters; key = o.stands.noted.key };
  };
  flushed = sends.flushed o.flushed;
  shut = sends.shut ∙ o.shut;
  count = ap (λ (x : Transfer). x.given) sends.same ∙ o.count;
  link = keeps_then begin a b o.link sends.link;
}

-- nothing moved yet in a poll
pub opening-again : (l : Login) (asked : ℕ) (begin a : LinkView) (s : Startup) → Opening l asked begin a s → Opening l asked begin a (record s { bytes = record s.bytes { moved = false } })
opening-again l asked begin a s o = record {
  got = o.got;
  sent = o.sent;
  read = o.read;
  first = o.first;
  frame = o.frame;
  given = o.given;
  taken = o.taken;
  came = o.came;
  last = o.last;
  out = o.out;
  stands = record {
    speaks = record { wrote = o.stands.speaks.wrote; opening = o.stands.speaks.opening; reaches = o.stands.speaks.reaches };
    noted = record { delayed = o.stands.noted.delayed; parameters = o.stands.noted.parameters; key = o.stands.noted.key };
  };
  flushed = o.flushed;
  shut = o.shut;
  count = o.count;
  link = o.link;
}

-- all that was written was taken
whole-sent : (l : Login) (asked : ℕ) (begin a : LinkView) (s : Startup) (o : Opening l asked begin a s) → s.bytes.unsent.items ≡ [] → o.sent ≡ s.opening.items
whole-sent l asked begin a s o none = sym (append-nil o.sent) ∙ ap (λ (l : List ℕ). o.sent ++ l) (sym none) ∙ o.out

-- what it is flushed from
flushed-from : (l : Login) (asked : ℕ) (begin a : LinkView) (s : Startup) (o : Opening l asked begin a s) → s.bytes.flushed ≡ true → IsFlushedFrom begin a
flushed-from l asked begin a s o passed open_ = (o.flushed passed).1 (o.shut ∙ open_)

-- a piece came, where all was heard and sent
pub last-reads : (l : Login) (asked : ℕ) (begin a b : LinkView) (s : Startup) (t : Transfer) (o : Opening l asked begin a s) (piece : List ℕ) → s.done ≡ false → IsHeard s → s.bytes.unsent.items ≡ [] → s.bytes.flushed ≡ true →
    length piece ≤ piece_size → b.flushed ≡ a.flushed → LastPiece l o.first begin b (o.got ++ piece) o.sent
last-reads l asked begin a b s t o piece going heard none passed fits flushed =
    let at = phase-of l o.first o.read s o.stands.speaks going in
    let wrote = o.stands.speaks.wrote in
    record {
      front = o.got;
      piece = piece;
      all = refl;
      fits = fits;
      at = at.0;
      wrote = wrote;
      leads = subst (λ (ms : List RawMessage). Leads l ms at.0 wrote) (sym (o.came.messages ∙ ap (λ (ms : List RawMessage). o.read ++ ms) heard.0 ∙ append-nil o.read)) at.1;
      header = ap has_bad_header (o.came.left ∙ heard.1) ∙ heard.2;
      answered = inr (record {
        later = [];
        taken = whole-sent l asked begin a s o none ∙ o.stands.speaks.opening ∙ sym (append-nil (o.first ++ wrote));
        flushed = λ nothing open_. flushed ∙ flushed-from l asked begin a s o passed open_;
      });
    }

pub opening-reads : (l : Login) (asked : ℕ) (begin a b : LinkView) (s : Startup) (t : Transfer) (r : Result Bool Error) (o : Opening l asked begin a s) → s.done ≡ false → IsHeard s → s.bytes.unsent.items ≡ [] → s.bytes.flushed ≡ true →
    Gets s.bytes t a b piece_size r → Opening l asked begin b (record s { bytes = t })
opening-reads l asked begin a b s t r o going heard none passed gets = record {
  got = o.got ++ gets.got;
  sent = o.sent;
  read = o.read;
  first = o.first;
  frame = o.frame;
  given = grew_then begin.given a.given b.given o.got gets.got o.given gets.given;
  taken = gets.taken ∙ o.taken;
  came = record {
    messages = messages-append o.got gets.got ∙ ap (λ (l : List RawMessage). l ++ messages (bytes_left o.got ++ gets.got)) o.came.messages
        ∙ ap (λ (l : List ℕ). (o.read ++ messages s.bytes.buffer.items) ++ messages (l ++ gets.got)) o.came.left
        ∙ append_assoc o.read (messages s.bytes.buffer.items) (messages (bytes_left s.bytes.buffer.items ++ gets.got))
        ∙ ap (λ (l : List RawMessage). o.read ++ l) (sym (messages-append s.bytes.buffer.items gets.got) ∙ ap messages (sym gets.buffer));
    left = bytes_left-append o.got gets.got ∙ ap (λ (l : List ℕ). bytes_left (l ++ gets.got)) o.came.left
        ∙ sym (bytes_left-append s.bytes.buffer.items gets.got) ∙ ap bytes_left (sym gets.buffer);
  };
  last = last-reads l asked begin a b s t o gets.got going heard none passed gets.fits gets.flushed;
  out = ap (λ (x : Transfer). o.sent ++ x.unsent.items) gets.same ∙ o.out;
  stands = record {
    speaks = record { wrote = o.stands.speaks.wrote; opening = o.stands.speaks.opening; reaches = o.stands.speaks.reaches };
    noted = record { delayed = o.stands.noted.delayed; parameters = o.stands.noted.parameters; key = o.stands.noted.key };
  };
  flushed = λ is. (ap (λ (x : Transfer). x.unsent.items) gets.same ∙ none, λ open_. gets.flushed ∙ (o.flushed passed).1 (sym gets.shut ∙ open_));
  shut = gets.shut ∙ o.shut;
  count = gets.count ∙ ap (λ (n : ℕ). n + length gets.got) o.count ∙ omega (arith, length-append o.got gets.got);
  link = keeps_then begin a b o.link gets.link;
}

-- ---- what was buffered is heard

still-flushed : (s t : Startup) (a : LinkView) → IsFlushed s.bytes a → Queues s t → IsFlushed t.bytes a
still-flushed s t a was q is =
    let none = q.1.flushed is in
    let before = was none.1 in
    (q.1.unsent ∙ ap (λ (l : List ℕ). l ++ q.0) before.0 ∙ none.0, before.1)

queued-out : (sent : List ℕ) (s t : Startup) → sent ++ s.bytes.unsent.items ≡ s.opening.items → (q : Queues s t) → sent ++ t.bytes.unsent.items ≡ t.opening.items
queued-out sent s t out q =
    ap (λ (l : List ℕ). sent ++ l) q.1.unsent ∙ sym (append_assoc sent s.bytes.unsent.items q.0) ∙ ap (λ (l : List ℕ). l ++ q.0) out ∙ sym q.1.opening

-- behind these messages
heard-to : (l : Login) (asked : ℕ) (begin a : LinkView) (s t : Startup) (read : List RawMessage) (o : Opening l asked begin a s) → Queues s t → HearsBuffer s t →
    Came read o.got t.bytes.buffer.items → StandsAt l o.first read t → Opening l asked begin a t
heard-to l asked begin a s t read o q same came stands = record {
  got = o.got;
  sent = o.sent;
  read = read;
  first = o.first;
  frame = o.frame;
  given = o.given;
  taken = o.taken;
  came = came;
  last = o.last;
  out = queued-out o.sent s t o.out q;
  stands = stands;
  flushed = still-flushed s t a o.flushed q;
  shut = o.shut;
  count = ap (λ (x : Transfer). x.given) same ∙ o.count;
  link = o.link;
}

pub opening-heard : (l : Login) (asked : ℕ) (begin a : LinkView) (s t : Startup) (h : Heard) (o : Opening l asked begin a s) → Queues s t → HearsBuffer s t →
    HearsAll l o.first o.read s.bytes.buffer.items t.bytes.buffer.items t (Ok h) → Opening l asked begin a t
opening-heard l asked begin a s t heard.More o q same h =
    heard-to l asked begin a s t (o.read ++ messages s.bytes.buffer.items) o q same
    (record {
      messages = o.came.messages ∙ sym (append-nil (o.read ++ messages s.bytes.buffer.items)) ∙ ap (λ (l : List RawMessage). (o.read ++ messages s.bytes.buffer.items) ++ l) (sym h.none);
      left = o.came.left ∙ sym h.left;
    })
    h.stands
opening-heard l asked begin a s t heard.Done o q same h =
    heard-to l asked begin a s t (o.read ++ h.1.0) o q same
    (record {
      messages = o.came.messages ∙ ap (λ (l : List RawMessage). o.read ++ l) h.1.1 ∙ sym (append_assoc o.read h.1.0 (messages t.bytes.buffer.items));
      left = o.came.left ∙ sym h.0;
    })
    h.1.3

-- ---- failures

pub within-any : (e : Error) (given limit : ℕ) → given ≤ limit → IsWithinLimit e given limit
within-any (error.LimitReached counted most) given limit is = tt
within-any _ given limit is = is

pub never-refused : (l : Login) (at : Phase) (rest : List RawMessage) (e : Error) → ((m : RawMessage) → (more : List RawMessage) → IsRefusedNext l at (m ∷ more) e → ⊥) → IsRefusedNext l at rest e → ⊥
never-refused l at [] e never is = is
never-refused l at (m ∷ more) e never is = never m more is

-- a message that ended it
stop-fails : (l : Login) (asked most : ℕ) (begin now : LinkView) (got : List ℕ) (at : Phase) (rest : List RawMessage) (left : List ℕ) (e : Error) → bytes_left got ≡ left → IsStop l at rest left e →
    FailsBy l asked most begin now got false at rest e
stop-fails l asked most begin now got at rest left error.OutOfMemory came why = tt
stop-fails l asked most begin now got at rest left (error.Io (cause.Wire wire.BadLength)) came why = (refl, why.0, ap has_bad_header came ∙ why.1)
stop-fails l asked most begin now got at rest left (error.Io cause.Link) came why = absurd (never-refused l at rest (error.Io cause.Link) (λ m more is. refusal-is l at m (error.Io cause.Link) is) why)
stop-fails l asked most begin now got at rest left (error.Io cause.Ended) came why = absurd (never-refused l at rest (error.Io cause.Ended) (λ m more is. refusal-is l at m (error.Io cause.Ended) is) why)
stop-fails l asked most begin now got at rest left error.Closed came why = absurd (never-refused l at rest error.Closed (λ m more is. refusal-is l at m error.Closed is) why)
stop-fails l asked most begin now got at rest left (error.LimitReached given limit) came why = absurd (never-refused l at rest (error.LimitReached given limit) (λ m more is. refusal-is l at m (error.LimitReached given limit) is) why)
stop-fails l asked most begin now got at rest left _ came why = (refl, why)

pub failed-heard : (l : Login) (asked : ℕ) (begin a : LinkView) (s t : Startup) (e : Error) (o : Opening l asked begin a s) → Queues s t → HearsBuffer s t → s.bytes.given ≤ s.bytes.max_bytes →
    HearsAll l o.first o.read s.bytes.buffer.items t.bytes.buffer.items t (Err e) → Failed l asked begin a t e
failed-heard l asked begin a s t e o q same within h = record {
  got = o.got;
  sent = o.sent;
  unsent = t.bytes.unsent.items;
  read = o.read ++ h.front;
  rest = h.rest;
  first = o.first;
  wrote = h.wrote;
  done = false;
  at = h.at;
  frame = o.frame;
  given = o.given;
  taken = o.taken;
  came = o.came.messages ∙ ap (λ (l : List RawMessage). o.read ++ l) h.stands ∙ sym (append_assoc o.read h.front h.rest);
  last = o.last;
  out = queued-out o.sent s t o.out q ∙ h.opening;
  stands = h.leads;
  shut = o.shut;
  count = ap (λ (x : Transfer). x.given) same ∙ o.count;
  link = o.link;
  fails = stop-fails l asked t.bytes.max_bytes begin a o.got h.at h.rest (bytes_left s.bytes.buffer.items) e o.came.left h.why;
  within = within-any e (asked + length o.got) t.bytes.max_bytes
      (omega (arith, o.count, ap (λ (x : Transfer). x.max_bytes) same, within));
}

is-at : (l : Login) (first : List ℕ) (read : List RawMessage) (s : Startup) → (p : Speaks l first read s) → (at : Phase) × IsAt l read p.wrote s.done at
is-at l first read s p = by s.done s.dialogue p.reaches
  where
    by : (done : Bool) (o : Option Stage) → Reaches l read p.wrote done o → (at : Phase) × IsAt l read p.wrote done at
    by true None is = (First, is)
    by true (Some d) is = absurd is
    by false None is = absurd is
    by false (Some d) is = (d.phase, is.1)

-- it failed where it stands, by the link
pub opening-failed : (l : Login) (asked : ℕ) (begin a : LinkView) (s : Startup) (e : Error) (o : Opening l asked begin a s) →
    ((at : Phase) → FailsBy l asked s.bytes.max_bytes begin a o.got s.done at (messages s.bytes.buffer.items) e) → IsWithinLimit e (asked + length o.got) s.bytes.max_bytes → Failed l asked begin a s e
opening-failed l asked begin a s e o fails within =
    let at = is-at l o.first o.read s o.stands.speaks in
    record {
      got = o.got;
      sent = o.sent;
      unsent = s.bytes.unsent.items;
      read = o.read;
      rest = messages s.bytes.buffer.items;
      first = o.first;
      wrote = o.stands.speaks.wrote;
      done = s.done;
      at = at.0;
      frame = o.frame;
      given = o.given;
      taken = o.taken;
      came = o.came.messages;
      last = o.last;
      out = o.out ∙ o.stands.speaks.opening;
      stands = at.1;
      shut = o.shut;
      count = o.count;
      link = o.link;
      fails = fails at.0;
      within = within;
    }

-- frames couldn't be sent
pub sends-fail : (l : Login) (asked most : ℕ) (begin a b : LinkView) (got : List ℕ) (done : Bool) (at : Phase) (rest : List RawMessage) (t : Transfer) (e : Error) → Keeps begin a → SentEnds t a b (Err e) →
    FailsBy l asked most begin b got done at rest e
sends-fail l asked most begin a b got done at rest t (error.Io cause.Link) keeps was = rose_later begin.faults a.faults b.faults keeps.counts.faults was
sends-fail l asked most begin a b got done at rest t error.OutOfMemory keeps was = tt
sends-fail l asked most begin a b got done at rest t _ keeps was = absurd was

not-none : (l : List ℕ) → 0 < length l → l ≢ []
not-none [] some = λ e. omega (arith, some)
not-none (x ∷ xs) some = λ e. absurd cc

-- no piece could be read, where all was heard
pub reads-fail : (l : Login) (asked : ℕ) (begin a b : LinkView) (s : Startup) (t : Transfer) (e : Error) (at : Phase) (o : Opening l asked begin b (record s { bytes = t })) → Keeps begin a → s.done ≡ false → IsHeard s →
    PieceEnds s.bytes t a b piece_size (Err e) → FailsBy l asked t.max_bytes begin b o.got s.done at (messages t.buffer.items) e
reads-fail l asked begin a b s t (error.Io cause.Link) at o keeps going heard was = rose_later begin.faults a.faults b.faults keeps.counts.faults was
reads-fail l asked begin a b s t error.Closed at o keeps going heard was =
    (going, ap messages was.1, rose_later begin.ends a.ends b.ends keeps.counts.ends was.0, o.came.left ∙ ap bytes_left was.1)
reads-fail l asked begin a b s t (error.Io cause.Ended) at o keeps going heard was =
    let left : bytes_left o.got ≡ t.buffer.items = o.came.left ∙ ap bytes_left was.2 ∙ heard.1 ∙ sym was.2 in (
      going,
      ap messages was.2 ∙ heard.0,
      rose_later begin.ends a.ends b.ends keeps.counts.ends was.0,
      subst (λ (l : List ℕ). l ≢ []) (sym left) (not-none t.buffer.items was.1),
      ap has_bad_header (left ∙ was.2) ∙ heard.2,
    )
reads-fail l asked begin a b s t (error.LimitReached given limit) at o keeps going heard was = (going, was.0 ∙ o.count, was.1, was.2, was.3)
reads-fail l asked begin a b s t error.OutOfMemory at o keeps going heard was = tt
reads-fail l asked begin a b s t _ at o keeps going heard was = absurd was

-- ---- the end

-- ReadyForQuery was heard, and all was sent
pub opened : (l : Login) (asked : ℕ) (begin a : LinkView) (s : Startup) → Opening l asked begin a s → s.done ≡ true → s.bytes.unsent.items ≡ [] → s.bytes.flushed ≡ true → s.bytes.given ≤ s.bytes.max_bytes →
    Opened l asked begin a s
opened l asked begin a s o over none passed within =
    let whole = whole-sent l asked begin a s o none in
    record {
      got = o.got;
      read = o.read;
      first = o.first;
      wrote = o.stands.speaks.wrote;
      frame = o.frame;
      opening = o.stands.speaks.opening;
      given = o.given;
      taken = subst (λ (l : List ℕ). Grew begin.taken a.taken l) whole o.taken;
      came = o.came;
      last = subst (λ (x : List ℕ). LastPiece l o.first begin a o.got x) whole o.last;
      done = ends-of l o.first o.read s o.stands.speaks over;
      noted = o.stands.noted;
      flushed = flushed-from l asked begin a s o passed;
      shut = o.shut;
      count = o.count;
      within = within;
      link = o.link;
    }
