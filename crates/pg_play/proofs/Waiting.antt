-- How a startup that is polled until it answers ends.
use Rattle.std.proofs.Common.{◌≡◌, ◌≤◌, ◌<◌, ℕ, ◌+◌, ◌*◌, Bool, true, false, not, if◌then◌else◌, List, [], ◌∷◌, ◌++◌, Result, Ok, Err, sym, ap, ◌∙◌, subst, append_assoc, arith}
use Rattle.std.specs.Prelude.{IsTrue}
use Rattle.pg_promises.specs.Causes.{NeedsNoTls}
use Rattle.pg_spec.specs.Links.{LinkView, Rose}
use Rattle.pg_spec.specs.RawMessages.{RawMessage, messages}
use Rattle.pg_spec.specs.Settings.{Settings}
use Rattle.pg_spec.specs.Startup.{Login, Phase, plain_login}
use Rattle.pg_wire.specs.LinkCalls.{Keeps, SameBytes, SameWriting, Continues}
use Rattle.pg_connect.specs.Calm.{MissesOne, StaysCalm}
use Rattle.pg_types.specs.declared.cause.Cause.TheVariants as cause
use Rattle.pg_types.specs.declared.error.Error.{Error}
use Rattle.pg_types.specs.declared.error.Error.TheVariants as error
use Rattle.pg_startup.specs.declared.startup.Startup.{Startup}
use Rattle.pg_startup.specs.StartupPolls.{GoesOn, SameStart}
use Rattle.pg_startup.specs.Startups.{IsRefusedNext, Opening, Opened, Failed}
use Rattle.pg_connect.proofs.Joining.{rose_later}
use Rattle.pg_session.specs.Failures.{PauseFails}
use Rattle.pg_session.proofs.Caused.Refusals.{startup-failure}
use Rattle.pg_session.proofs.Stalled.Start.{rests-so, stands-at}
use Rattle.pg_play.specs.Openings.{OpenEnds}
use Rattle.pg_play.proofs.Following.{opening_waits, continues_grown, continues_still, continues_then}

-- Where something moved less is left to do, and else a pause may come once: the number falls.
pub fewer_left : (moved next waited : Bool) (a b : ℕ) → b + (if moved then 1 else 0) ≤ a → next ≡ not moved → (next ≡ true → waited ≡ false) →
    2 * b + (if next then 0 else 1) < 2 * a + (if waited then 0 else 1)
fewer_left true next waited a b nearer is pauses =
    subst (λ (x : Bool). 2 * b + (if x then 0 else 1) < 2 * a + (if waited then 0 else 1)) (sym is) (omega (arith, nearer))
fewer_left false next waited a b nearer is pauses =
    subst (λ (x : Bool). 2 * b + (if x then 0 else 1) < 2 * a + (if waited then 0 else 1)) (sym is)
    (subst (λ (w : Bool). 2 * b + 0 < 2 * a + (if w then 0 else 1)) (sym (pauses is)) (omega (arith, nearer)))

-- the counts that were read are the link's
pub counted_so : (before from after to : ℕ) (waited : Bool) (l m : LinkView) (e : Error) → before ≡ from → after ≡ to → PauseFails before after waited l m e → PauseFails from to waited l m e
counted_so before from after to waited l m e p q fails =
    subst (λ (x : ℕ). PauseFails x to waited l m e) p (subst (λ (y : ℕ). PauseFails before y waited l m e) q fails)

-- frames were added, and then more
pub same_then : (a b c : Startup) → SameStart a b → SameStart b c → SameStart a c
same_then a b c first second = record {
  limit = second.limit ∙ first.limit;
  more = first.more ++ second.more;
  opening = second.opening ∙ ap (λ (l : List ℕ). l ++ second.more) first.opening ∙ append_assoc a.opening.items first.more second.more;
}

-- no message of a startup means that it is stalled
never_stalled : (l : Login) (at : Phase) (rest : List RawMessage) (before after : ℕ) → IsRefusedNext l at rest (error.Stalled before after) → ⊥
never_stalled l at [] before after h = h
never_stalled l at (m ∷ rest) before after h = startup-failure l at m (error.Stalled before after) h

-- where it waits, a call of the link failed
link_failed : (settings : Settings) (nonce : List ℕ) (begin now : LinkView) (s : Startup) → Opening (plain_login settings nonce) 0 begin now s → Rose begin.faults now.faults →
    s.bytes.given ≤ s.bytes.max_bytes → Failed (plain_login settings nonce) 0 begin now s (error.Io cause.Link)
link_failed settings nonce begin now s o rose within =
    let stands = stands-at settings nonce begin now s o in
    record {
      got = o.got;
      sent = o.sent;
      unsent = s.bytes.unsent.items;
      read = o.read;
      rest = messages s.bytes.buffer.items;
      first = o.first;
      wrote = o.stands.speaks.wrote;
      done = s.done;
      at = stands.0;
      frame = o.frame;
      given = o.given;
      taken = o.taken;
      came = o.came.messages;
      last = o.last;
      out = o.out ∙ o.stands.speaks.opening;
      stands = stands.1;
      shut = o.shut;
      count = o.count;
      link = o.link;
      fails = rose;
      within = omega (arith, o.count, within);
    }

-- a poll failed; it doesn't answer Stalled
pub open_fails : (settings : Settings) (nonce : List ℕ) (begin now : LinkView) (s : Startup) (e : Error) → Failed (plain_login settings nonce) 0 begin now s e →
    OpenEnds settings nonce begin now s (Err e)
open_fails settings nonce begin now s (error.Stalled before after) f = absurd (never_stalled (plain_login settings nonce) f.at f.rest before after f.fails.1)
open_fails settings nonce begin now s _ f = f

-- behind a poll that moved nothing, a pause ended it
pub open_stops : (settings : Settings) (nonce : List ℕ) (begin l a b : LinkView) (s : Startup) (waited : Bool) (e : Error) → NeedsNoTls settings → Keeps begin l →
    Opening (plain_login settings nonce) 0 begin a s → s.bytes.given ≤ s.bytes.max_bytes → GoesOn s l a → MissesOne l a → StaysCalm begin a → s.bytes.moved ≡ false →
    (waited ≡ true → IsTrue l.promised) → SameBytes a b → SameWriting a b → Keeps a b → PauseFails l.quiet a.quiet waited a b e → OpenEnds settings nonce begin b s (Err e)
open_stops settings nonce begin l a b s waited (error.Stalled x y) plain keeps-l o within goes_on misses calm unmoved promised bytes writing keeps fails = record {
  no_tls = plain;
  link = l;
  keeps = keeps-l;
  polled = a;
  opening = o;
  within = within;
  goes_on = goes_on;
  misses = misses;
  calm = calm;
  unmoved = unmoved;
  waited = waited;
  promised = promised;
  fails = fails;
}
open_stops settings nonce begin l a b s waited (error.Io cause.Link) plain keeps-l o within goes_on misses calm unmoved promised bytes writing keeps fails =
    link_failed settings nonce begin b s (opening_waits (plain_login settings nonce) 0 begin a b s o bytes writing keeps)
    (rose_later begin.faults a.faults b.faults o.link.counts.faults fails) within
open_stops settings nonce begin l a b s waited _ plain keeps-l o within goes_on misses calm unmoved promised bytes writing keeps fails = absurd fails

-- however it ends, the link goes on from where it stood
pub open_continues : (settings : Settings) (nonce : List ℕ) (begin now : LinkView) (s : Startup) (r : Result (Unit {0}) Error) → OpenEnds settings nonce begin now s r → Continues begin now
open_continues settings nonce begin now s (Ok x) o = continues_grown begin now o.got s.opening.items o.given o.taken o.link
open_continues settings nonce begin now s (Err (error.Stalled before after)) h =
    let rests = rests-so h.waited h.polled now h.fails.2 in
    let o = h.opening in
    continues_then begin h.polled now (continues_grown begin h.polled o.got o.sent o.given o.taken o.link) (continues_still h.polled now rests.bytes rests.keeps)
open_continues settings nonce begin now s (Err _) o = continues_grown begin now o.got o.sent o.given o.taken o.link

-- and where it is done, so does what follows
pub opened_continues : (settings : Settings) (nonce : List ℕ) (begin mid now : LinkView) (s : Startup) → Opened (plain_login settings nonce) 0 begin mid s → Continues mid now → Continues begin now
opened_continues settings nonce begin mid now s o later =
    continues_then begin mid now (continues_grown begin mid o.got s.opening.items o.given o.taken o.link) later
