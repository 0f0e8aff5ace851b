-- More bytes than the limit are given only where a session fails for that.
use Rattle.std.proofs.Common.{◌≡◌, ◌<◌, ◌≤◌, ℕ, List, length, Option, Some, None, Result, Ok, Err, IfOk, IfErr, inl, inr, sym, ap, subst, ◌∙◌, arith}
use Rattle.std.specs.Prelude.{IfSome}
use Rattle.pg_promises.specs.Causes.{Call, HasCause, Unless}
use Rattle.pg_promises.specs.ConnectionStrings.{Means}
use Rattle.pg_spec.specs.Settings.{Settings}
use Rattle.pg_spec.specs.Faults.{LimitReached}
use Rattle.pg_spec.specs.Links.{LinkView, OfBytes, added}
use Rattle.pg_promises.specs.Calls as any
use Rattle.pg_promises.specs.Calls.{apart}
use Rattle.pg_promises.specs.Endings as ending
use Rattle.pg_text.specs.declared.command.Answer.{Answer}
use Rattle.pg_types.specs.declared.error.Error.{Error}
use Rattle.pg_types.specs.declared.error.Error.TheVariants as error
use Rattle.pg_startup.specs.declared.startup.Startup.{Startup}
use Rattle.pg_session.proofs.LimitsKept.{HoldsLimit, holds-failed, holds-stopped, holds-untouched}
use Rattle.pg_text.specs.declared.command.Command.{Command}
use Rattle.pg_text.specs.declared.report.Report.{Report}
use Rattle.pg_table.specs.Headlines.{told_in}
use Rattle.pg_tool.specs.Fails.{PlaysWithin, SessionFails}
use Rattle.pg_play.specs.Openings.{OpenEnds}
use Rattle.pg_tool.specs.TableContract.{KeepsLimit, TableResult, table_result}
use Rattle.pg_tool.proofs.AtTable.{broken-limit, holds-ended}

-- what follows of told bytes
map_some : {X : Type 0} (o : Option X) (P Q : X → Type 0) → ((x : X) → P x → Q x) → IfSome o P → IfSome o Q
map_some None P Q f p = tt
map_some (Some x) P Q f p = f x p

pub map_bytes : (a b : LinkView) (P Q : List ℕ → List ℕ → Type 0) → ((g t : List ℕ) → P g t → Q g t) → OfBytes a b P → OfBytes a b Q
map_bytes a b P Q f p =
    map_some (added a.given b.given) (λ g. IfSome (added a.taken b.taken) (λ t. P g t)) (λ g. IfSome (added a.taken b.taken) (λ t. Q g t))
    (λ g. map_some (added a.taken b.taken) (λ t. P g t) (λ t. Q g t) (f g)) p

any_bytes : (a b : LinkView) (Q : List ℕ → List ℕ → Type 0) → ((g t : List ℕ) → Q g t) → OfBytes a b Q
any_bytes a b Q f = by (added a.given b.given)
  where
    all : (g : List ℕ) (o : Option (List ℕ)) → IfSome o (λ t. Q g t)
    all g None = tt
    all g (Some t) = f g t

    by : (o : Option (List ℕ)) → IfSome o (λ g. IfSome (added a.taken b.taken) (λ t. Q g t))
    by None = tt
    by (Some g) = all g (added a.taken b.taken)

-- no more were given
within_so : (call : any.Call Command) (r : TableResult) → OfBytes call.before call.after (λ g t. length g ≤ call.limit) → KeepsLimit call r
within_so call r within =
    map_bytes call.before call.after (λ g t. length g ≤ call.limit) (λ g t. call.limit < length g → Unless {R = ending.Report Answer} (λ failure. failure ≡ LimitReached (length g) call.limit) r)
    (λ g t less more. absurd (omega (arith, less, more))) within

failed_so : (call : any.Call Command) (e : Error) → HoldsLimit (apart call) e → HasCause (apart call) e → KeepsLimit call (Err e)
failed_so call (error.LimitReached given limit) holds cause =
    map_bytes call.before call.after (λ g t. length g ≡ given) (λ g t. call.limit < length g → Unless {R = ending.Report Answer} (λ failure. failure ≡ LimitReached (length g) call.limit) (Err (LimitReached given limit)))
    (λ g t count more. ap (λ (n : ℕ). LimitReached n limit) (sym count) ∙ ap (λ (n : ℕ). LimitReached (length g) n) cause.asked) cause.counted
failed_so call error.OutOfMemory holds cause =
    any_bytes call.before call.after (λ g t. call.limit < length g → Unless {R = ending.Report Answer} (λ failure. failure ≡ LimitReached (length g) call.limit) (Err error.OutOfMemory)) (λ g t more. tt)
failed_so call e holds cause = within_so call (Err e) holds

-- by what a session answered
pub keeps_limit : (call : any.Call Command) (r : Result Report Error) → IfOk r (λ report. OfBytes call.before call.after (λ g t. length g ≤ call.limit)) → IfErr r (HoldsLimit (apart call)) →
    IfErr r (HasCause (apart call)) → KeepsLimit call (table_result r)
keeps_limit call (Ok report) ended holds causes = within_so call (table_result (Ok report)) ended
keeps_limit call (Err e) ended holds causes = failed_so call e holds causes

-- ---- a session that ended well

pub ended_within : (settings : Settings) (nonce : List ℕ) (scripts : List (List Command)) (given : List ℕ) (limit : ℕ) (before after : LinkView) (r : Result Report Error) →
    IfOk r (PlaysWithin settings nonce scripts given limit before after) → IfOk r (λ report. OfBytes before after (λ g t. length g ≤ limit))
ended_within settings nonce scripts given limit before after (Err e) played = tt
ended_within settings nonce scripts given limit before after (Ok report) played = holds-ended settings nonce scripts given before after (told_in report) limit played.0 played.1

-- ---- a session that failed

start_holds : (call : Call) (settings : Settings) (s : Startup) (e : Error) → s.bytes.max_bytes ≡ call.limit → OpenEnds settings call.nonce call.before call.after s (Err e) → HoldsLimit call e
start_holds call settings s (error.Stalled before after) limit ends = holds-stopped call settings s before after limit ends
start_holds call settings s _ limit ends = holds-failed call settings s _ limit ends

holds_by : (call : Call) (settings : Settings) (scripts : List (List Command)) (e : Error) → Means call.config settings → SessionFails settings call.nonce scripts call.limit call.before call.after e → HoldsLimit call e
holds_by call settings scripts e means (inl lacks) = subst (λ (x : Error). HoldsLimit call x) (sym lacks.memory) tt
holds_by call settings scripts e means (inr (inl made)) = holds-untouched call e made.1
holds_by call settings scripts e means (inr (inr (inl start))) = start_holds call settings start.startup e start.limited start.ends
holds_by call settings scripts e means (inr (inr (inr later))) = broken-limit call settings scripts e means later.broken later.limited

pub holds_all : (call : Call) (settings : Settings) (scripts : List (List Command)) (r : Result Report Error) → Means call.config settings →
    IfErr r (SessionFails settings call.nonce scripts call.limit call.before call.after) → IfErr r (HoldsLimit call)
holds_all call settings scripts (Ok report) means fails = tt
holds_all call settings scripts (Err e) means fails = holds_by call settings scripts e means fails
