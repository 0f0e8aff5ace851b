-- How much is left to do, and what a poll kept.
use Rattle.std.proofs.Common.{◌≡◌, ℕ, ◌+◌, ◌<◌, ◌≤◌, Bool, true, false, not, ◌||◌, List, [], ◌∷◌, ◌++◌, length, length-append, append-nil, append_assoc, Result, Ok, Err, arith, refl, sym, ◌∙◌, ap, subst}
use Rattle.pg_spec.specs.Batches.{is_nothing}
use Rattle.pg_spec.specs.Links.{LinkView}
use Rattle.pg_spec.specs.RawMessages.{messages}
use Rattle.pg_spec.specs.Startup.{Login}
use Rattle.pg_types.specs.declared.error.Error.{Error}
use Rattle.pg_connect.specs.Passes.{Untouched}
use Rattle.pg_connect.specs.Reads.{piece_size}
use Rattle.pg_connect.proofs.Sends.{or_false}
use Rattle.pg_connect.proofs.Joining.{keeps_same, unmoved_before, untouched_same}
use Rattle.pg_startup.specs.Transfers.{Gets, IsWithinLimit, PieceEnds, Sends, SentEnds}
use Rattle.pg_startup.specs.declared.transfer.Transfer.{Transfer}
use Rattle.pg_startup.specs.declared.startup.Heard.{Heard}
use Rattle.pg_startup.specs.declared.startup.Heard.TheVariants as heard
use Rattle.pg_startup.specs.declared.startup.Startup.{Startup}
use Rattle.pg_startup.specs.Startups.{Failed, HasNone, HearsAll, HearsBuffer, LeavesNone, MarksEnd, Opening, Queues, sends_left}
use Rattle.pg_startup.specs.StartupPolls.{CatchEnds, CatchesUp, CaughtUp, SameStart, start_left, step_of}
use Rattle.pg_startup.proofs.Opening.{failed-heard, opening-failed, opening-heard, opening-reads, opening-sends, reads-fail, sends-fail, within-any}

-- ---- steps

-- what is buffered was heard
pub catches-heard : (s t : Startup) (a : LinkView) → HearsBuffer s t → sends_left t ≤ sends_left s → CatchesUp s t a a
catches-heard s t a same lower = record {
  limit = ap (λ (x : Transfer). x.max_bytes) same;
  given = ap (λ (x : Transfer). x.given) same;
  nearer =
      let moved : step_of t.bytes.moved ≡ step_of s.bytes.moved = ap (λ (x : Transfer). step_of x.moved) same in
      let limit : t.bytes.max_bytes ≡ s.bytes.max_bytes = ap (λ (x : Transfer). x.max_bytes) same in
      let given : t.bytes.given ≡ s.bytes.given = ap (λ (x : Transfer). x.given) same in
      omega (arith, lower, moved, limit, given);
  still = λ none. (sym (ap (λ (x : Transfer). x.moved) same) ∙ none, untouched_same a);
  keeps = keeps_same a;
}

-- bytes that were taken are fewer to be sent
taken-less : (m : Bool) (sent old new : List ℕ) → old ≡ sent ++ new → length new + step_of (m || not (is_nothing sent)) ≤ length old + step_of m
taken-less true sent old new is = omega (arith, ap (λ (l : List ℕ). length l) is, length-append sent new)
taken-less false [] old new is = omega (arith, ap (λ (l : List ℕ). length l) is)
taken-less false (x ∷ sent) old new is = omega (arith, ap (λ (l : List ℕ). length l) is, length-append sent new)

pub sends-nearer : (s : Startup) (t : Transfer) (a b : LinkView) → Sends s.bytes t a b → start_left (record s { bytes = t }) + step_of t.moved ≤ start_left s + step_of s.bytes.moved
sends-nearer s t a b sends =
    let less = taken-less s.bytes.moved sends.sent s.bytes.unsent.items t.unsent.items sends.out in
    let moved : step_of t.moved ≡ step_of (s.bytes.moved || not (is_nothing sends.sent)) = ap step_of sends.moved in
    let limit : t.max_bytes ≡ s.bytes.max_bytes = ap (λ (x : Transfer). x.max_bytes) sends.same in
    let given : t.given ≡ s.bytes.given = ap (λ (x : Transfer). x.given) sends.same in
    omega (arith, less, moved, limit, given)

-- frames were sent behind that
pub catches-sent : (s t : Startup) (u : Transfer) (a b : LinkView) → CatchesUp s t a a → Sends t.bytes u a b → CatchesUp s (record t { bytes = u }) a b
catches-sent s t u a b c sends = record {
  limit = ap (λ (x : Transfer). x.max_bytes) sends.same ∙ c.limit;
  given = ap (λ (x : Transfer). x.given) sends.same ∙ c.given;
  nearer =
      let next = sends-nearer t u a b sends in
      omega (arith, next, c.nearer);
  still = λ none. ((c.still (unmoved_before t.bytes.moved u.moved (not (is_nothing sends.sent)) sends.moved none)).0, sends.still none);
  keeps = sends.link;
}

-- ---- frames are only added

pub start-queues : (s t : Startup) → HearsBuffer s t → Queues s t → SameStart s t
start-queues s t same q = record { limit = ap (λ (x : Transfer). x.max_bytes) same; more = q.0; opening = q.1.opening }

pub start-bytes : (s t : Startup) (u : Transfer) → SameStart s t → u.max_bytes ≡ t.bytes.max_bytes → SameStart s (record t { bytes = u })
start-bytes s t u same limit = record { limit = limit ∙ same.limit; more = same.more; opening = same.opening }

pub start-same : (s : Startup) → SameStart s (record s { bytes = record s.bytes { moved = false } })
start-same s = record { limit = refl; more = []; opening = sym (append-nil s.opening.items) }

pub start-then : (s t u : Startup) → SameStart s t → SameStart t u → SameStart s u
start-then s t u first next = record {
  limit = next.limit ∙ first.limit;
  more = first.more ++ next.more;
  opening = next.opening ∙ ap (λ (l : List ℕ). l ++ next.more) first.opening ∙ append_assoc s.opening.items first.more next.more;
}

-- ---- hearing and sending

-- where it waits for more, all was heard
pub rest-none : (old new : Startup) (left : List ℕ) (h : Heard) → LeavesNone left (Ok h) → MarksEnd old new (Ok h) → new.done ≡ false → HasNone left
rest-none old new left heard.More none end going = none
rest-none old new left heard.Done none end going = absurd (let no : true ≡ false = sym end ∙ going in cc)

-- what sending came to
pub caught-up : (l : Login) (asked : ℕ) (begin a b : LinkView) (s : Startup) (t : Transfer) (r : Result Bool Error) → Opening l asked begin a s → Sends s.bytes t a b → SentEnds t a b r → s.bytes.given ≤ s.bytes.max_bytes →
    CaughtUp l asked begin b (record s { bytes = t }) r
caught-up l asked begin a b s t (Ok x) o sends end within = opening-sends l asked begin a b s t o sends
caught-up l asked begin a b s t (Err e) o sends end within =
    let p = opening-sends l asked begin a b s t o sends in
    let given : t.given ≡ s.bytes.given = ap (λ (x : Transfer). x.given) sends.same in
    let limit : t.max_bytes ≡ s.bytes.max_bytes = ap (λ (x : Transfer). x.max_bytes) sends.same in
    let counted : t.given ≡ asked + length p.got = p.count in
    opening-failed l asked begin b (record s { bytes = t }) e p
    (λ at. sends-fail l asked t.max_bytes begin a b p.got s.done at (messages t.buffer.items) t e o.link end)
    (within-any e (asked + length p.got) t.max_bytes (omega (arith, counted, given, limit, within)))

pub catch-ends : (s : Startup) (t : Transfer) (a b : LinkView) (r : Result Bool Error) → Sends s.bytes t a b → SentEnds t a b r → (s.done ≡ false → HasNone s.bytes.buffer.items) → CatchEnds (record s { bytes = t }) a b r
catch-ends s t a b (Ok true) sends end none = record {
  sent = end.0;
  flushed = end.1;
  heard = λ going. subst (λ (x : Transfer). HasNone x.buffer.items) (sym sends.same) (none going);
}
catch-ends s t a b (Ok false) sends end none = end
catch-ends s t a b (Err e) sends end none = tt

-- ---- what is buffered is heard, unless it is done

-- a message ended it
pub failed-rest : (l : Login) (asked : ℕ) (begin a : LinkView) (s t : Startup) (e : Error) (o : Opening l asked begin a s) → Queues s t → HearsBuffer s t → s.bytes.given ≤ s.bytes.max_bytes →
    (s.done ≡ true → ⊥) → (s.done ≡ false → HearsAll l o.first o.read s.bytes.buffer.items t.bytes.buffer.items t (Err e)) → Failed l asked begin a t e
failed-rest l asked begin a s t e o q same within never heard = by s.done refl
  where
    by : (b : Bool) → s.done ≡ b → Failed l asked begin a t e
    by true is = absurd (never is)
    by false is = failed-heard l asked begin a s t e o q same within (heard is)

-- it was heard, or it is done
pub opening-rest : (l : Login) (asked : ℕ) (begin a : LinkView) (s t : Startup) (o : Opening l asked begin a s) → Queues s t → HearsBuffer s t →
    (s.done ≡ true → t ≡ s) → (s.done ≡ false → (h : Heard) × HearsAll l o.first o.read s.bytes.buffer.items t.bytes.buffer.items t (Ok h)) → Opening l asked begin a t
opening-rest l asked begin a s t o q same over heard = by s.done refl
  where
    by : (b : Bool) → s.done ≡ b → Opening l asked begin a t
    by true is = subst (λ (x : Startup). Opening l asked begin a x) (sym (over is)) o
    by false is = let h = heard is in opening-heard l asked begin a s t h.0 o q same h.1

pub still-within : (s t : Startup) → HearsBuffer s t → s.bytes.given ≤ s.bytes.max_bytes → t.bytes.given ≤ t.bytes.max_bytes
still-within s t same within = omega (arith, ap (λ (x : Transfer). x.given) same, ap (λ (x : Transfer). x.max_bytes) same, within)

-- ---- a piece was read

-- some bytes came, so fewer may come
pub reads-nearer : (s : Startup) (t : Transfer) (a b : LinkView) (r : Result Bool Error) → Gets s.bytes t a b piece_size r → s.bytes.given < t.given → t.given ≤ t.max_bytes →
    start_left (record s { bytes = t }) + step_of t.moved ≤ start_left s + step_of s.bytes.moved
reads-nearer s t a b r gets more within =
    let limit : t.max_bytes ≡ s.bytes.max_bytes = ap (λ (x : Transfer). x.max_bytes) gets.same in
    let unsent : length t.unsent.items ≡ length s.bytes.unsent.items = ap (λ (x : Transfer). length x.unsent.items) gets.same in
    let one = at-most-one t.moved in
    omega (arith, limit, unsent, more, within, one)
  where
    at-most-one : (m : Bool) → step_of m ≤ 1
    at-most-one true = omega arith
    at-most-one false = omega arith

no-length : (xs : List ℕ) → length xs ≡ 0 → xs ≡ []
no-length [] e = refl
no-length (x ∷ xs) e = absurd (omega (arith, e))

-- none came
pub dry-moved : (s t : Transfer) (a b : LinkView) → Gets s t a b piece_size (Ok false) → t.given ≡ s.given → t.moved ≡ s.moved
dry-moved s t a b gets same =
    let none : gets.got ≡ [] = no-length gets.got (omega (arith, gets.count, same)) in
    gets.moved ∙ ap (λ (x : List ℕ). s.moved || (not (is_nothing x) || false)) none ∙ sym (or_false s.moved)

pub dry-nearer : (s : Startup) (t : Transfer) (a b : LinkView) → Gets s.bytes t a b piece_size (Ok false) → t.given ≡ s.bytes.given →
    start_left (record s { bytes = t }) + step_of t.moved ≤ start_left s + step_of s.bytes.moved
dry-nearer s t a b gets same =
    let limit : t.max_bytes ≡ s.bytes.max_bytes = ap (λ (x : Transfer). x.max_bytes) gets.same in
    let unsent : length t.unsent.items ≡ length s.bytes.unsent.items = ap (λ (x : Transfer). length x.unsent.items) gets.same in
    let moved : step_of t.moved ≡ step_of s.bytes.moved = ap step_of (dry-moved s.bytes t a b gets same) in
    omega (arith, limit, unsent, moved, same)

-- what was untouched in a read was so in the steps before
pub reads-still : (s : Startup) (t : Transfer) (a b : LinkView) (r : Result Bool Error) → Gets s.bytes t a b piece_size r → t.moved ≡ false → (s.bytes.moved ≡ false) × Untouched a b
reads-still s t a b r gets none = (unmoved_before s.bytes.moved t.moved _ gets.moved none, gets.still none)

pub start-reads : (s : Startup) (t : Transfer) (a b : LinkView) (r : Result Bool Error) → Gets s.bytes t a b piece_size r → SameStart s (record s { bytes = t })
start-reads s t a b r gets = record { limit = ap (λ (x : Transfer). x.max_bytes) gets.same; more = []; opening = sym (append-nil s.opening.items) }

pub start-none : (s : Startup) → SameStart s s
start-none s = record { limit = refl; more = []; opening = sym (append-nil s.opening.items) }

-- a read failed, where all was heard and sent
pub failed-reads : (l : Login) (asked : ℕ) (begin a b : LinkView) (s : Startup) (t : Transfer) (e : Error) → Opening l asked begin a s → s.done ≡ false → HasNone s.bytes.buffer.items → s.bytes.unsent.items ≡ [] → s.bytes.flushed ≡ true →
    Gets s.bytes t a b piece_size (Err e) → PieceEnds s.bytes t a b piece_size (Err e) → IsWithinLimit e t.given t.max_bytes → Failed l asked begin b (record s { bytes = t }) e
failed-reads l asked begin a b s t e o going heard none passed gets end within =
    let p = opening-reads l asked begin a b s t (Err e) o going heard none passed gets in
    opening-failed l asked begin b (record s { bytes = t }) e p
    (λ at. reads-fail l asked begin a b s t e at p o.link going heard end)
    (subst (λ (n : ℕ). IsWithinLimit e n t.max_bytes) p.count within)
