-- No more bytes than the limit were given, unless the session failed for that, or memory lacked.
use Rattle.std.proofs.Common.{◌≡◌, ℕ, ◌+◌, ◌≤◌, List, [], length, Some, Err, ap, subst, ◌∙◌, arith}
use Rattle.futures.specs.declared.task.Poll.TheVariants.{Ready}
use Rattle.pg_promises.specs.Causes.{Call}
use Rattle.pg_spec.specs.Links.{LinkView, Grew, OfBytes}
use Rattle.pg_spec.specs.RawMessages.{RawMessage}
use Rattle.pg_spec.specs.Settings.{Settings}
use Rattle.pg_spec.specs.Startup.{plain_login}
use Rattle.pg_types.specs.declared.error.Error.{Error}
use Rattle.pg_types.specs.declared.error.Error.TheVariants as error
use Rattle.pg_connect.specs.Answers.{IsWithinPoll}
use Rattle.pg_startup.specs.Startups.{Failed}
use Rattle.pg_startup.specs.Transfers.{IsWithinLimit}
use Rattle.pg_startup.specs.declared.startup.Startup.{Startup}
use Rattle.pg_connect.specs.declared.streams.Streams.{Streams}
use Rattle.pg_connect.proofs.Joining.{grew_same}
use Rattle.pg_promises.specs.Endings.{Report}
use Rattle.pg_session.specs.Failures.{StopsOpening}
use Rattle.pg_session.specs.Sessions.{HasPlayed}
use Rattle.pg_session.specs.States.{SessionState}
use Rattle.pg_session.proofs.Crossing.Chain.{StoodIn}
use Rattle.pg_session.proofs.Crossing.End.{finished}
use Rattle.pg_session.proofs.Stalled.Start.{rests-so}
use Rattle.pg_session.proofs.Caused.Start.{of_grown}
use Rattle.pg_session.specs.Speeches.{Speech}

-- what is told of the bytes by an error: no more than the limit, unless it speaks of that or memory lacked
abbrev pub HoldsLimit : Call → Error → Type 0
HoldsLimit call (error.LimitReached given limit) = Unit {0}
HoldsLimit call error.OutOfMemory = Unit {0}
HoldsLimit call _ = OfBytes call.before call.after (λ g t. length g ≤ call.limit)

within-any : (e : Error) (given limit : ℕ) → given ≤ limit → IsWithinLimit e given limit
within-any (error.LimitReached counted most) given limit low = tt
within-any _ given limit low = low

holds-by : (call : Call) (e : Error) (n : ℕ) → IsWithinLimit e n call.limit → (n ≤ call.limit → OfBytes call.before call.after (λ g t. length g ≤ call.limit)) → HoldsLimit call e
holds-by call (error.LimitReached given limit) n within f = tt
holds-by call error.OutOfMemory n within f = tt
holds-by call _ n within f = f within

-- where no byte crossed
pub holds-untouched : (call : Call) (e : Error) → call.after ≡ call.before → HoldsLimit call e
holds-untouched call e same =
    holds-by call e 0 (within-any e 0 call.limit (omega arith))
    (λ within. of_grown call.before call.after [] [] (λ g t. length g ≤ call.limit) (grew_same call.before.given call.after.given (ap (λ (l : LinkView). l.given) same))
    (grew_same call.before.taken call.after.taken (ap (λ (l : LinkView). l.taken) same)) (omega arith))

-- where the startup failed
pub holds-failed : (call : Call) (settings : Settings) (s : Startup) (e : Error) → s.bytes.max_bytes ≡ call.limit → Failed (plain_login settings call.nonce) 0 call.before call.after s e → HoldsLimit call e
holds-failed call settings s e limit f =
    let same : 0 + length f.got ≡ length f.got = omega arith in
    holds-by call e (length f.got) (subst (λ (n : ℕ). IsWithinLimit e n call.limit) same (subst (λ (n : ℕ). IsWithinLimit e (0 + length f.got) n) limit f.within))
    (λ within. of_grown call.before call.after f.got f.sent (λ g t. length g ≤ call.limit) f.given f.taken within)

-- where it moved nothing any more
pub holds-stopped : (call : Call) (settings : Settings) (s : Startup) (before after : ℕ) → s.bytes.max_bytes ≡ call.limit →
    StopsOpening settings call.nonce call.before call.after s (error.Stalled before after) → HoldsLimit call (error.Stalled before after)
holds-stopped call settings s before after limit h =
    let rests = rests-so h.waited h.polled call.after h.fails.2 in
    of_grown call.before call.after h.opening.got h.opening.sent (λ g t. length g ≤ call.limit) (rests.bytes.given ∙ h.opening.given) (rests.bytes.taken ∙ h.opening.taken)
    (omega (arith, h.within, limit, h.opening.count))

-- where a poll of the connection failed
poll-within : (s : Streams) (e : Error) (limit : ℕ) → s.max_bytes ≡ limit → IsWithinPoll s (Ready (Some (Err e))) → IsWithinLimit e s.given limit
poll-within s (error.LimitReached given most) limit is within = tt
poll-within s _ limit is within = subst (λ (n : ℕ). s.given ≤ n) is within

pub holds-polled : (call : Call) (s : Streams) (e : Error) (given taken : List ℕ) → s.max_bytes ≡ call.limit → IsWithinPoll s (Ready (Some (Err e))) → s.given ≡ length given →
    Grew call.before.given call.after.given given → Grew call.before.taken call.after.taken taken → HoldsLimit call e
holds-polled call s e given taken limit within count gave took =
    holds-by call e s.given (poll-within s e call.limit limit within)
    (λ less. of_grown call.before call.after given taken (λ g t. length g ≤ call.limit) gave took (omega (arith, less, count)))

-- where a pause failed behind a round
pub holds-paused : (call : Call) (s : Streams) (e : Error) (given taken : List ℕ) → s.max_bytes ≡ call.limit → s.given ≤ s.max_bytes → s.given ≡ length given →
    Grew call.before.given call.after.given given → Grew call.before.taken call.after.taken taken → HoldsLimit call e
holds-paused call s e given taken limit within count gave took =
    holds-by call e s.given (within-any e s.given call.limit (omega (arith, within, limit)))
    (λ less. of_grown call.before call.after given taken (λ g t. length g ≤ call.limit) gave took (omega (arith, less, count)))

module _ {C T A E : Type 0} (speech : Speech C T A E) where
  -- a session whose count is within its limit was given no more than that
  pub limit_kept : (opening : List ℕ) (first : List RawMessage) (base l : LinkView) (s : SessionState T A E) (limit : ℕ) → StoodIn speech opening first base s l →
      s.streams.given ≤ limit → OfBytes base l (λ g t. length g ≤ limit)
  limit_kept opening first base l s limit h within =
      of_grown base l h.given h.taken (λ g t. length g ≤ limit) h.gave h.took (subst (λ (n : ℕ). n ≤ limit) h.count within)

  -- where the session ended well
  pub holds-ended : (settings : Settings) (nonce : List ℕ) (scripts : List (List C)) (given : List ℕ) (before after : LinkView) (report : Report A) (limit : ℕ)
      (p : HasPlayed speech settings nonce scripts given before after report) → p.startup.bytes.max_bytes ≡ limit → OfBytes before after (λ g t. length g ≤ limit)
  holds-ended settings nonce scripts given before after report limit p is =
      limit_kept p.opening p.opened.read before after p.last limit (finished speech settings nonce scripts given before after report p).stood
      (subst (λ (n : ℕ). p.last.streams.given ≤ n) is p.within)
