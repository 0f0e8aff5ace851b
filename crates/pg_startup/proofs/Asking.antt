-- Where a request for TLS stands behind each step of a poll.
use Rattle.std.proofs.Common.{◌≡◌, inl, inr, ℕ, ◌+◌, ◌<◌, ◌≤◌, Bool, true, false, List, [], ◌∷◌, ◌++◌, length, Option, Result, Ok, Err, append-nil, append_assoc, length-append, arith, refl, sym, ◌∙◌, ap, subst}
use Rattle.pg_spec.specs.Frames.{ssl_request}
use Rattle.pg_spec.specs.Links.{LinkView, Grew}
use Rattle.pg_types.specs.declared.cause.Cause.TheVariants as cause
use Rattle.pg_types.specs.declared.error.Error.{Error}
use Rattle.pg_types.specs.declared.error.Error.TheVariants as error
use Rattle.pg_wire.specs.LinkCalls.{Keeps}
use Rattle.pg_connect.specs.Ends.{IsFlushedFrom}
use Rattle.pg_connect.proofs.Joining.{grew_then, keeps_then, rose_later}
use Rattle.pg_startup.specs.SslRequests.{AskFailed, AskFailsBy, Asked, Asking, inside_of}
use Rattle.pg_startup.specs.Transfers.{Gets, IsFlushed, IsWithinLimit, PieceEnds, Sends, SentEnds}
use Rattle.pg_startup.specs.declared.ssl_request.SslRequest.{SslRequest}
use Rattle.pg_startup.specs.declared.transfer.Transfer.{Transfer}
use Rattle.pg_startup.proofs.Opening.{within-any}

-- nothing moved yet in a poll
pub asks-again : (begin a : LinkView) (s : SslRequest) → Asking begin a s → Asking begin a (record s { bytes = record s.bytes { moved = false } })
asks-again begin a s o = record {
  sent = o.sent;
  given = o.given;
  taken = o.taken;
  out = o.out;
  empty = o.empty;
  flushed = o.flushed;
  shut = o.shut;
  count = o.count;
  link = o.link;
}

-- some of the request was taken
pub asks-sends : (begin a b : LinkView) (s : SslRequest) (t : Transfer) → Asking begin a s → Sends s.bytes t a b → Asking begin b (record s { bytes = t })
asks-sends begin a b s t o sends = record {
  sent = o.sent ++ sends.sent;
  given = sends.given ∙ o.given;
  taken = grew_then begin.taken a.taken b.taken o.sent sends.sent o.taken sends.taken;
  out = append_assoc o.sent sends.sent t.unsent.items ∙ ap (λ (l : List ℕ). o.sent ++ l) (sym sends.out) ∙ o.out;
  empty = ap (λ (x : Transfer). x.buffer.items) sends.same ∙ o.empty;
  flushed = sends.flushed o.flushed;
  shut = sends.shut ∙ o.shut;
  count = ap (λ (x : Transfer). x.given) sends.same ∙ o.count;
  link = keeps_then begin a b o.link sends.link;
}

-- all of it was taken
whole-request : (begin a : LinkView) (s : SslRequest) (o : Asking begin a s) → s.bytes.unsent.items ≡ [] → o.sent ≡ ssl_request
whole-request begin a s o none = sym (append-nil o.sent) ∙ ap (λ (l : List ℕ). o.sent ++ l) (sym none) ∙ o.out

-- sending it failed
pub asks-failed : (begin a b : LinkView) (s : SslRequest) (t : Transfer) (e : Error) → Asking begin a s → Sends s.bytes t a b → SentEnds t a b (Err e) → s.bytes.given ≤ s.bytes.max_bytes →
    AskFailed begin b (record s { bytes = t }) e
unfolding asks-sends
asks-failed begin a b s t e o sends end within =
    let p = asks-sends begin a b s t o sends in
    record {
      got = [];
      sent = p.sent;
      unsent = t.unsent.items;
      given = p.given;
      taken = p.taken;
      out = p.out;
      one = omega arith;
      behind = inl refl;
      shut = p.shut;
      count = p.count;
      link = p.link;
      fails = by e end;
      within = within-any e 0 t.max_bytes (omega arith);
    }
  where
    by : (e : Error) → SentEnds t a b (Err e) → AskFailsBy t.max_bytes begin b [] (o.sent ++ sends.sent) e
    by (error.Io cause.Link) end = rose_later begin.faults a.faults b.faults o.link.counts.faults end
    by error.OutOfMemory end = tt
    by _ end = absurd end

-- ---- the byte is read

no-length : (xs : List ℕ) → length xs ≡ 0 → xs ≡ []
no-length [] e = refl
no-length (x ∷ xs) e = absurd (omega (arith, e))

-- the link had nothing to give
pub asks-on : (begin a b : LinkView) (s : SslRequest) (t : Transfer) (r : Result Bool Error) → Asking begin a s → s.bytes.unsent.items ≡ [] → s.bytes.flushed ≡ true →
    (gets : Gets s.bytes t a b 1 r) → t.given ≡ s.bytes.given → Asking begin b (record s { bytes = t })
asks-on begin a b s t r o none passed gets same =
    let nothing : gets.got ≡ [] = no-length gets.got (omega (arith, gets.count, same)) in
    record {
      sent = o.sent;
      given = subst (λ (l : List ℕ). Grew begin.given b.given l) nothing (grew_then begin.given a.given b.given [] gets.got o.given gets.given);
      taken = gets.taken ∙ o.taken;
      out = ap (λ (x : Transfer). o.sent ++ x.unsent.items) gets.same ∙ o.out;
      empty = gets.buffer ∙ ap (λ (l : List ℕ). s.bytes.buffer.items ++ l) nothing ∙ append-nil s.bytes.buffer.items ∙ o.empty;
      flushed = λ is. (ap (λ (x : Transfer). x.unsent.items) gets.same ∙ none, λ open_. gets.flushed ∙ (o.flushed passed).1 (sym gets.shut ∙ open_));
      shut = gets.shut ∙ o.shut;
      count = same ∙ o.count;
      link = keeps_then begin a b o.link gets.link;
    }

-- the request was flushed
flushed-ask : (begin a b : LinkView) (s : SslRequest) (t : Transfer) (r : Result Bool Error) → Asking begin a s → s.bytes.flushed ≡ true → Gets s.bytes t a b 1 r → IsFlushedFrom begin b
flushed-ask begin a b s t r o passed gets open_ = gets.flushed ∙ (o.flushed passed).1 (o.shut ∙ open_)

one-of : (xs : List ℕ) → 0 < length xs → length xs ≤ 1 → (x : ℕ) × (xs ≡ x ∷ [])
one-of [] some few = absurd (omega (arith, some))
one-of (x ∷ []) some few = (x, refl)
one-of (x ∷ y ∷ xs) some few = absurd (omega (arith, few))

-- the byte came
pub asks-done : (begin a b : LinkView) (s : SslRequest) (t : Transfer) (r : Result Bool Error) (x : ℕ) → Asking begin a s → s.bytes.unsent.items ≡ [] → s.bytes.flushed ≡ true →
    (gets : Gets s.bytes t a b 1 r) → s.bytes.given < t.given → t.given ≤ t.max_bytes → ((y : ℕ) → t.buffer.items ≡ y ∷ [] → x ≡ y) → Asked begin b (record s { bytes = t }) x
asks-done begin a b s t r x o none passed gets more within is =
    let one = one-of gets.got (omega (arith, gets.count, more)) gets.fits in
    let buffered : t.buffer.items ≡ one.0 ∷ [] = gets.buffer ∙ ap (λ (l : List ℕ). l ++ gets.got) o.empty ∙ one.1 in
    let got : gets.got ≡ x ∷ [] = one.1 ∙ ap (λ (y : ℕ). y ∷ []) (sym (is one.0 buffered)) in
    record {
      given = subst (λ (l : List ℕ). Grew begin.given b.given l) got (grew_then begin.given a.given b.given [] gets.got o.given gets.given);
      taken = subst (λ (l : List ℕ). Grew begin.taken b.taken l) (whole-request begin a s o none) (gets.taken ∙ o.taken);
      flushed = flushed-ask begin a b s t r o passed gets;
      shut = gets.shut ∙ o.shut;
      count = omega (arith, gets.count, o.count, ap length got);
      within = within;
      link = keeps_then begin a b o.link gets.link;
    }

-- no byte came: the link failed, or gave more than the limit
pub asks-stopped : (begin a b : LinkView) (s : SslRequest) (t : Transfer) (r : Result Bool Error) (e : Error) → Asking begin a s → s.bytes.unsent.items ≡ [] → s.bytes.flushed ≡ true →
    (gets : Gets s.bytes t a b 1 r) → AskFailsBy t.max_bytes begin b gets.got ssl_request e → IsWithinLimit e t.given t.max_bytes → AskFailed begin b (record s { bytes = t }) e
asks-stopped begin a b s t r e o none passed gets fails within =
    let count : t.given ≡ length gets.got = omega (arith, gets.count, o.count) in
    record {
      got = gets.got;
      sent = ssl_request;
      unsent = [];
      given = grew_then begin.given a.given b.given [] gets.got o.given gets.given;
      taken = subst (λ (l : List ℕ). Grew begin.taken b.taken l) (whole-request begin a s o none) (gets.taken ∙ o.taken);
      out = refl;
      one = gets.fits;
      behind = inr (refl, flushed-ask begin a b s t r o passed gets);
      shut = gets.shut ∙ o.shut;
      count = count;
      link = keeps_then begin a b o.link gets.link;
      fails = fails;
      within = subst (λ (n : ℕ). IsWithinLimit e n t.max_bytes) count within;
    }

-- nothing lies in the buffer, so the end came in place of the byte
no-rest : (xs ys : List ℕ) → xs ++ ys ≡ [] → ys ≡ []
no-rest [] ys e = e
no-rest (x ∷ xs) ys e = absurd cc

-- why it failed
fails-inside : (begin a b : LinkView) (s : SslRequest) (t : Transfer) (e : Error) → Asking begin a s → IsFlushedFrom begin b →
    (gets : Gets s.bytes t a b 1 (Err e)) → PieceEnds s.bytes t a b 1 (Err e) → AskFailsBy t.max_bytes begin b gets.got ssl_request (inside_of e)
fails-inside begin a b s t (error.Io cause.Link) o passed gets end = rose_later begin.faults a.faults b.faults o.link.counts.faults end
fails-inside begin a b s t (error.Io cause.Ended) o passed gets end = absurd (omega (arith, end.1, ap length end.2, ap length o.empty))
fails-inside begin a b s t error.Closed o passed gets end =
    (rose_later begin.ends a.ends b.ends o.link.counts.ends end.0, no-rest s.bytes.buffer.items gets.got (sym gets.buffer ∙ end.1), refl, passed)
fails-inside begin a b s t (error.LimitReached given limit) o passed gets end = (omega (arith, end.0, gets.count, o.count), end.1, end.2)
fails-inside begin a b s t error.OutOfMemory o passed gets end = tt
fails-inside begin a b s t _ o passed gets end = absurd end

within-inside : (e : Error) (given limit : ℕ) → IsWithinLimit e given limit → IsWithinLimit (inside_of e) given limit
within-inside error.Closed given limit is = is
within-inside _ given limit is = is

pub asks-refused : (begin a b : LinkView) (s : SslRequest) (t : Transfer) (e : Error) → Asking begin a s → s.bytes.unsent.items ≡ [] → s.bytes.flushed ≡ true →
    Gets s.bytes t a b 1 (Err e) → PieceEnds s.bytes t a b 1 (Err e) → IsWithinLimit e t.given t.max_bytes → AskFailed begin b (record s { bytes = t }) (inside_of e)
asks-refused begin a b s t e o none passed gets end within =
    asks-stopped begin a b s t (Err e) (inside_of e) o none passed gets (fails-inside begin a b s t e o (flushed-ask begin a b s t (Err e) o passed gets) gets end)
    (within-inside e t.given t.max_bytes within)
