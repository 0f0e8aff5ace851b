-- What was sent where a session failed, and how the link stands then.
use Rattle.std.proofs.Common.{◌≡◌, ℕ, List, IfErr, Result, Ok, Err, inl, inr, ap, ◌∙◌}
use Rattle.std.specs.Prelude.{OnOk}
use Rattle.pg_promises.specs.Endings as ending
use Rattle.pg_text.specs.declared.command.Answer.{Answer}
use Rattle.pg_promises.specs.Calls.{Call, apart}
use Rattle.pg_promises.specs.Kept as any
use Rattle.pg_promises.specs.Causes.{HasCause, NeedsNoTls}
use Rattle.pg_promises.specs.ConnectionStrings.{Means}
use Rattle.pg_promises.proofs.Strings.{means_one}
use Rattle.pg_spec.specs.Faults.{Cause}
use Rattle.pg_spec.specs.Settings.{Settings}
use Rattle.pg_spec.specs.Links.{LinkView}
use Rattle.pg_connect.specs.Calm.{StaysCalm}
use Rattle.pg_startup.specs.declared.startup.Startup.{Startup}
use Rattle.pg_types.specs.declared.error.Error.{Error}
use Rattle.pg_types.specs.declared.error.Error.TheVariants as error
use Rattle.pg_session.proofs.Stalled.Start.{rests-so}
use Rattle.pg_session.specs.WholeSession.{LeavesOpen}
use Rattle.pg_text.specs.declared.command.Command.{Command}
use Rattle.pg_text.specs.declared.report.Report.{Report}
use Rattle.pg_session.specs.Speeches.{meaning_of}
use Rattle.pg_table.specs.Table.{table}
use Rattle.pg_tool.specs.Fails.{SessionFails}
use Rattle.pg_play.specs.Openings.{OpenEnds}
use Rattle.pg_tool.specs.TableContract as by_table
use Rattle.pg_tool.specs.TableContract.{table_result}
use Rattle.pg_tool.proofs.AtTable.{IsInOrder, broken-kept, broken-open, broken-sent, over-closed, sent-failed, sent-opened, sent-over, sent-stopped, sent-untouched, stopped-kept}

start_sent : (call : Call Command) (settings : Settings) (s : Startup) (e : Error) → Means call.config settings → NeedsNoTls settings → OpenEnds settings call.nonce call.before call.after s (Err e) → IsInOrder call
start_sent call settings s (error.Stalled a b) means plain ends = sent-stopped call settings s a b means ends
start_sent call settings s _ means plain ends = sent-failed call settings s _ means plain ends

sent_by : (call : Call Command) (settings : Settings) (e : Error) → Means call.config settings → NeedsNoTls settings →
    SessionFails settings call.nonce call.scripts call.limit call.before call.after e → IsInOrder call
sent_by call settings e means plain (inl lacks) = elim lacks.crossed [
  | inl opened ↦ sent-opened call settings means opened
  | inr over ↦ sent-over call settings means over
]
sent_by call settings e means plain (inr (inl made)) = sent-untouched call settings means made.1
sent_by call settings e means plain (inr (inr (inl start))) = start_sent call settings start.startup e means plain start.ends
sent_by call settings e means plain (inr (inr (inr later))) = broken-sent call settings e means later.broken later.limited

-- by what a session answered
pub sends_all : (call : Call Command) (settings : Settings) (r : Result Report Error) → Means call.config settings → NeedsNoTls settings →
    IfErr r (SessionFails settings call.nonce call.scripts call.limit call.before call.after) → by_table.SendsInOrder call (table_result r)
sends_all call settings (Ok report) means plain fails = tt
sends_all call settings (Err e) means plain fails = λ w. sent_by call settings e means plain fails

-- ---- where it ended well or stalled

-- settings that need no TLS give no error of it
not_tls : (call : Call Command) (settings : Settings) (c : Cause) → Means call.config settings → NeedsNoTls settings → HasCause (apart call) (error.Tls c) → ⊥
not_tls call settings c means plain h = plain (ap (λ (x : Settings). x.ssl_mode) (means_one call.config settings h.1.0 means h.1.1) ∙ h.1.2.0)

asks_by : (call : Call Command) (settings : Settings) (e : Error) → Means call.config settings → NeedsNoTls settings → HasCause (apart call) e →
    SessionFails settings call.nonce call.scripts call.limit call.before call.after e → any.NoneKeptBack {T = ending.Report Answer} (meaning_of table) call (Err e)
asks_by call settings (error.Stalled a b) means plain has (inl lacks) = absurd (let no : error.Stalled a b ≡ error.OutOfMemory = lacks.memory in cc)
asks_by call settings (error.Stalled a b) means plain has (inr (inl made)) = absurd made.0
asks_by call settings (error.Stalled a b) means plain has (inr (inr (inl start))) = stopped-kept call settings start.startup a b means start.ends
asks_by call settings (error.Stalled a b) means plain has (inr (inr (inr later))) = broken-kept call settings a b means later.broken later.limited
asks_by call settings (error.Tls c) means plain has fails = absurd (not_tls call settings c means plain has)
asks_by call settings _ means plain has fails = tt

pub asks_all : (call : Call Command) (settings : Settings) (r : Result Report Error) → Means call.config settings → NeedsNoTls settings → OnOk r (StaysCalm call.before call.after) →
    IfErr r (HasCause (apart call)) → IfErr r (SessionFails settings call.nonce call.scripts call.limit call.before call.after) → any.NoneKeptBack (meaning_of table) call (table_result r)
asks_all call settings (Ok report) means plain calm has fails = calm.no_lull
asks_all call settings (Err e) means plain calm has fails = asks_by call settings e means plain has fails

-- ---- the writing side

start_open : (settings : Settings) (nonce : List ℕ) (before after : LinkView) (s : Startup) (e : Error) → OpenEnds settings nonce before after s (Err e) → after.shut ≡ before.shut
start_open settings nonce before after s (error.Stalled a b) ends = (rests-so ends.waited ends.polled after ends.fails.2).writing.shut ∙ ends.opening.shut
start_open settings nonce before after s _ ends = ends.shut

leaves_by : (settings : Settings) (nonce : List ℕ) (scripts : List (List Command)) (limit : ℕ) (before after : LinkView) (e : Error) → SessionFails settings nonce scripts limit before after e → LeavesOpen before after e
leaves_by settings nonce scripts limit before after e (inl lacks) = elim lacks.crossed [
  | inl opened ↦ inl opened.opened.shut
  | inr over ↦ inr (lacks.memory, over-closed settings nonce scripts before after over)
]
leaves_by settings nonce scripts limit before after e (inr (inl made)) = inl (ap (λ (l : LinkView). l.shut) made.1)
leaves_by settings nonce scripts limit before after e (inr (inr (inl start))) = inl (start_open settings nonce before after start.startup e start.ends)
leaves_by settings nonce scripts limit before after e (inr (inr (inr later))) = broken-open settings nonce scripts before after e later.broken

pub leaves_all : (settings : Settings) (nonce : List ℕ) (scripts : List (List Command)) (limit : ℕ) (before after : LinkView) (r : Result Report Error) →
    IfErr r (SessionFails settings nonce scripts limit before after) → IfErr (table_result r) (LeavesOpen before after)
leaves_all settings nonce scripts limit before after (Ok report) fails = tt
leaves_all settings nonce scripts limit before after (Err e) fails = leaves_by settings nonce scripts limit before after e fails
