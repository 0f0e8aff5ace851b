-- Each failure of a session has its cause.
use Rattle.std.proofs.Common.{◌≡◌, List, IfErr, Result, Ok, Err, inl, inr, sym, subst}
use Rattle.pg_promises.specs.Causes.{Call, HasCause, NeedsNoTls}
use Rattle.pg_promises.specs.ConnectionStrings.{Means}
use Rattle.pg_spec.specs.Settings.{Settings}
use Rattle.pg_startup.specs.declared.startup.Startup.{Startup}
use Rattle.pg_types.specs.declared.error.Error.{Error}
use Rattle.pg_types.specs.declared.error.Error.TheVariants as error
use Rattle.pg_session.proofs.Stalled.Start.{stalled-start}
use Rattle.pg_session.proofs.Caused.Start.{made_cause, start_cause}
use Rattle.pg_text.specs.declared.command.Command.{Command}
use Rattle.pg_text.specs.declared.report.Report.{Report}
use Rattle.pg_tool.specs.Fails.{SessionFails}
use Rattle.pg_play.specs.Openings.{OpenEnds}
use Rattle.pg_tool.proofs.AtTable.{broken-cause}

start_ends : (call : Call) (settings : Settings) (s : Startup) (e : Error) → Means call.config settings → NeedsNoTls settings → s.bytes.max_bytes ≡ call.limit →
    OpenEnds settings call.nonce call.before call.after s (Err e) → HasCause call e
start_ends call settings s (error.Stalled a b) means plain limit ends = stalled-start call settings s a b means ends
start_ends call settings s _ means plain limit ends = start_cause call settings s _ means plain limit ends

caused_by : (call : Call) (settings : Settings) (scripts : List (List Command)) (e : Error) → Means call.config settings → NeedsNoTls settings →
    SessionFails settings call.nonce scripts call.limit call.before call.after e → HasCause call e
caused_by call settings scripts e means plain (inl lacks) = subst (λ (x : Error). HasCause call x) (sym lacks.memory) tt
caused_by call settings scripts e means plain (inr (inl made)) = made_cause call settings e means plain made.0
caused_by call settings scripts e means plain (inr (inr (inl start))) = start_ends call settings start.startup e means plain start.limited start.ends
caused_by call settings scripts e means plain (inr (inr (inr later))) = broken-cause call settings scripts e means later.broken later.limited

-- by what a session answered
pub caused : (call : Call) (settings : Settings) (scripts : List (List Command)) (r : Result Report Error) → Means call.config settings → NeedsNoTls settings →
    IfErr r (SessionFails settings call.nonce scripts call.limit call.before call.after) → IfErr r (HasCause call)
caused call settings scripts (Ok report) means plain fails = tt
caused call settings scripts (Err e) means plain fails = caused_by call settings scripts e means plain fails
