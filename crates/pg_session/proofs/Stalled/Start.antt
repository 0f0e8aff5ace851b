-- Why a startup may be stalled.
use Rattle.std.proofs.Common.{◌≡◌, ◌≤◌, ◌<◌, ◌+◌, ◌-◌, ◌^◌, ℕ, Bool, true, false, List, [], ◌++◌, Option, Some, None, inl, inr, append-nil, sym, ◌∙◌, ap, subst, arith}
use Rattle.std.specs.Prelude.{IsTrue}
use Rattle.std.specs.List.{concat}
use Rattle.pg_promises.specs.Causes.{Call, IsAwaited, IsStalled, NeedsNoTls}
use Rattle.pg_promises.specs.ConnectionStrings.{Means}
use Rattle.pg_spec.specs.Settings.{Settings}
use Rattle.pg_spec.specs.Links.{LinkView, Rose, next_count}
use Rattle.pg_spec.specs.RawMessages.{RawMessage, messages}
use Rattle.pg_spec.specs.Startup.{Login, More, Phase, First, startup, plain_login}
use Rattle.pg_types.specs.declared.error.Error.TheVariants as error
use Rattle.pg_startup.specs.Stages.{Stage}
use Rattle.pg_startup.specs.StartupPolls.{IsIdle}
use Rattle.pg_startup.specs.declared.startup.Startup.{Startup}
use Rattle.pg_startup.specs.Startups.{IsAt, Leads, Opening, Reaches}
use Rattle.pg_connect.proofs.Joining.{rose_later}
use Rattle.pg_session.specs.Failures.{GivesUp, StopsOpening}
use Rattle.pg_session.specs.Sessions.{Rests}
use Rattle.pg_session.proofs.Order.{rests_none}
use Rattle.pg_session.proofs.Opening.{leads-frames, leads-waits}
use Rattle.pg_session.proofs.Caused.Start.{of_grown}

-- however it gave up, the link rests
pub rests-so : (waited : Bool) (a b : LinkView) → GivesUp waited a b → Rests a b
rests-so waited a b (inl wait) = wait.rests
rests-so waited a b (inr round) = subst (λ (x : LinkView). Rests a x) (sym round.1) (rests_none a)

-- Waiting was in vain, or the round behind a wait was: either is a lull.
pub lulls-so : (waited : Bool) (base l m n : LinkView) → base.lulls ≤ l.lulls → base.lulls ≤ m.lulls → (waited ≡ true → IsTrue l.promised) →
    (IsTrue l.promised → Rose l.lulls m.lulls) → GivesUp waited m n → Rose base.lulls n.lulls
lulls-so waited base l m n before after promised lulls (inl wait) = rose_later base.lulls m.lulls n.lulls after wait.lulls
lulls-so waited base l m n before after promised lulls (inr round) =
    subst (λ (x : LinkView). Rose base.lulls x.lulls) (sym round.1) (rose_later base.lulls l.lulls m.lulls before (lulls (promised round.0)))

-- behind the round at most the wait wasn't ready
pub last-so : (waited : Bool) (m n : LinkView) → GivesUp waited m n → n.quiet ≤ m.quiet + 1
last-so waited m n (inl wait) = omega (arith, wait.quiet)
last-so waited m n (inr round) = omega (arith, ap (λ (x : LinkView). x.quiet) round.1)

-- On a steady link a round behind a wait is a lull, and up to its end there was none: so it was the wait that was in vain.
pub exact-so : (waited : Bool) (base l m n : LinkView) → base.lulls ≤ l.lulls → m.lulls ≡ base.lulls → base.lulls < 2 ^ 64 - 1 → (waited ≡ true → IsTrue l.promised) →
    (IsTrue l.promised → Rose l.lulls m.lulls) → GivesUp waited m n → n.quiet ≡ next_count m.quiet
exact-so waited base l m n before calm low promised lulls (inl wait) = wait.quiet
exact-so waited base l m n before calm low promised lulls (inr round) =
    absurd (let rose : Rose l.lulls m.lulls = lulls (promised round.0) in omega (arith, before, calm, low, rose))

-- where the dialogue stands
reaches-at : (l : Login) (read : List RawMessage) (wrote : List ℕ) (done : Bool) (d : Option Stage) → Reaches l read wrote done d → (at : Phase) × IsAt l read wrote done at
reaches-at l read wrote true None h = (First, h)
reaches-at l read wrote true (Some stage) h = absurd h
reaches-at l read wrote false None h = absurd h
reaches-at l read wrote false (Some stage) h = (stage.phase, h.1)

pub stands-at : (settings : Settings) (nonce : List ℕ) (begin link : LinkView) (s : Startup) (o : Opening (plain_login settings nonce) 0 begin link s) →
    (at : Phase) × IsAt (plain_login settings nonce) o.read o.stands.speaks.wrote s.done at
stands-at settings nonce begin link s o = reaches-at (plain_login settings nonce) o.read o.stands.speaks.wrote s.done s.dialogue o.stands.speaks.reaches

module _ (call : Call) (settings : Settings) (s : Startup) (link : LinkView) (o : Opening (plain_login settings call.nonce) 0 call.before link s) (idle : IsIdle s link) where
  abbrev l : Login
  l = plain_login settings call.nonce

  read-all : messages o.got ≡ o.read
  read-all = o.came.messages ∙ ap (λ (ms : List RawMessage). o.read ++ ms) idle.heard ∙ append-nil o.read

  waiting : (at : Phase) × Leads l o.read at o.stands.speaks.wrote
  waiting =
      let stands = stands-at settings call.nonce call.before link s o in
      (stands.0, subst (λ (b : Bool). IsAt l o.read o.stands.speaks.wrote b stands.0) idle.going stands.1)

  -- it waits for more
  pub waits-more : (startup settings call.nonce (messages o.got)).outcome ≡ More
  waits-more =
      ap (λ (ms : List RawMessage). (startup settings call.nonce ms).outcome) read-all
      ∙ leads-waits settings call.nonce o.first o.frame o.read waiting.0 o.stands.speaks.wrote waiting.1

  -- all that it writes was taken
  all-sent : o.sent ≡ concat (startup settings call.nonce (messages o.got)).frames
  all-sent =
      sym (append-nil o.sent) ∙ ap (λ (b : List ℕ). o.sent ++ b) (sym idle.sent) ∙ o.out ∙ o.stands.speaks.opening ∙ sym (append-nil (o.first ++ o.stands.speaks.wrote))
      ∙ sym (leads-frames settings call.nonce o.first o.frame o.read waiting.0 o.stands.speaks.wrote waiting.1 [])
      ∙ ap (λ (ms : List RawMessage). concat (startup settings call.nonce ms).frames) (append-nil o.read ∙ sym read-all)

  -- all that it writes was taken, and it waits for more
  pub waits-so : NeedsNoTls settings → IsAwaited call settings o.got o.sent
  waits-so plain = inl (plain, waits-more, all-sent)

-- the startup was stalled for a cause
pub stalled-start : (call : Call) (settings : Settings) (s : Startup) (before after : ℕ) → Means call.config settings →
    StopsOpening settings call.nonce call.before call.after s (error.Stalled before after) → IsStalled call before after
stalled-start call settings s before after means h =
    let rests = rests-so h.waited h.polled call.after h.fails.2 in
    let o = h.opening in
    let from : before ≡ h.link.quiet = h.fails.0 in
    let to : after ≡ h.polled.quiet = h.fails.1 in
    record {
      lulls = lulls-so h.waited call.before h.link h.polled call.after h.keeps.counts.lulls o.link.counts.lulls h.promised (h.goes_on.lulls h.unmoved) h.fails.2;
      from = omega (arith, h.keeps.counts.quiet, from);
      to = omega (arith, rests.keeps.counts.quiet, to);
      rose = subst (λ (n : ℕ). Rose n after) (sym from) (subst (λ (n : ℕ). Rose h.link.quiet n) (sym to) h.goes_on.quiet);
      round = (omega (arith, h.misses, from, to), λ steady. omega (arith, h.misses, from, to));
      last = omega (arith, last-so h.waited h.polled call.after h.fails.2, to);
      exact = λ steady low. subst (λ (n : ℕ). call.after.quiet ≡ next_count n) (sym to)
          (exact-so h.waited call.before h.link h.polled call.after h.keeps.counts.lulls (h.calm.no_lull steady) low h.promised (h.goes_on.lulls h.unmoved) h.fails.2);
      awaited = λ steady.
          let idle = h.goes_on.idle (h.keeps.steady steady) in (
            rests.bytes.due ∙ idle.empty,
            (settings, means, of_grown call.before call.after o.got o.sent (IsAwaited call settings) (rests.bytes.given ∙ o.given) (rests.bytes.taken ∙ o.taken) (waits-so call settings s h.polled o idle h.no_tls)),
          );
    }
