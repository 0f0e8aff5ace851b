-- What holds of sessions of any commands, of those of the table.
use Rattle.std.proofs.Common.{◌≡◌, ◌≤◌, ℕ, inl, List, [], ◌∷◌, length, Result, Err, refl, sym, arith}
use Rattle.std.specs.Prelude.{IsFalse, IsSome, ⊤}
use Rattle.std.proofs.lemmas.List.Elements.{All-nil}
use Rattle.pg_promises.specs.Calls.{Call, apart}
use Rattle.pg_promises.specs.Completeness.{MustEndWell}
use Rattle.pg_promises.specs.Kept.{NoneKeptBack}
use Rattle.pg_promises.specs.FailedLanded.{has_flush}
use Rattle.pg_promises.specs.Sent.{AskedInOrder, InScriptOrder, SentInOrder, course_so_far}
use Rattle.pg_types.specs.declared.error.Error.{Error}
use Rattle.pg_types.specs.declared.error.Error.TheVariants as error
use Rattle.pg_promises.specs.Endings.{IsRun, Report}
use Rattle.pg_promises.specs.Causes as landed
use Rattle.pg_promises.specs.Causes.{HasCause, NeedsNoTls, OfDialogue, WithSettings}
use Rattle.pg_promises.specs.ConnectionStrings.{Means}
use Rattle.pg_spec.specs.Faults.{Failure, Stalled}
use Rattle.pg_spec.specs.Links.{LinkView, OfBytes}
use Rattle.pg_spec.specs.Settings.{Settings}
use Rattle.pg_spec.specs.Startup.{plain_login}
use Rattle.pg_spec.specs.Turns.{entry_at}
use Rattle.pg_spec.specs.Courses.{Course}
use Rattle.pg_query.specs.declared.desk_call.DeskCall.{DeskCall}
use Rattle.pg_query.specs.declared.desk_call.Reply.{Reply}
use Rattle.pg_startup.specs.Startups.{Failed}
use Rattle.pg_startup.specs.declared.startup.Startup.{Startup}
use Rattle.pg_text.specs.declared.command.Answer.{Answer}
use Rattle.pg_text.specs.declared.command.Command.{Command}
use Rattle.pg_session.specs.Sessions.{HasPlayed}
use Rattle.pg_session.specs.Speeches.{meaning_of}
use Rattle.pg_wire.specs.LinkCalls.{Continues, Tells}
use Rattle.pg_session.specs.Failures.{HasBroken, StopsOpening, WasOpened, WasOver}
use Rattle.pg_session.specs.WholeSession.{EndsWell, IsClosed, LeavesOpen, WasClosed}
use Rattle.pg_session.proofs.Caused as caused
use Rattle.pg_session.proofs.Closing as closing
use Rattle.pg_session.proofs.Complete.Course as course
use Rattle.pg_session.proofs.EndsWell as endings
use Rattle.pg_session.proofs.HasRun as runs
use Rattle.pg_session.proofs.LimitsKept as limits
use Rattle.pg_session.proofs.LimitsKept.{HoldsLimit}
use Rattle.pg_session.proofs.SentSoFar as so_far
use Rattle.pg_session.proofs.SentSoFar.Broken as broken
use Rattle.pg_session.proofs.SentSoFar.NoneKept as kept
use Rattle.pg_session.proofs.SentSoFar.Outcomes.{asks-nothing}
use Rattle.pg_session.proofs.SentSoFar.TurnsAsked as turns
use Rattle.pg_table.specs.Table.{table}
use Rattle.pg_table.proofs.SimpleMeans.{are-commands, book-whole, let-go}

-- what was sent is in order
abbrev pub IsInOrder : Call Command → Type 0
IsInOrder call = OfDialogue (apart call) (λ s g t. SentInOrder (meaning_of table) call s g t)

-- ---- a session that ended

pub ends-well : (settings : Settings) (nonce : List ℕ) (scripts : List (List Command)) (given : List ℕ) (before after : LinkView) (report : Report Answer) →
    HasPlayed table settings nonce scripts given before after report → EndsWell table settings nonce scripts given before after report
ends-well settings nonce scripts given before after report p = endings.ends-well table are-commands settings nonce scripts given before after report p

pub is-run : (settings : Settings) (nonce : List ℕ) (scripts : List (List Command)) (given : List ℕ) (before after : LinkView) (report : Report Answer) →
    HasPlayed table settings nonce scripts given before after report → IsRun (meaning_of table) scripts given report
is-run settings nonce scripts given before after report p = runs.has-ended table settings nonce scripts given before after report p are-commands

pub is-closed : (settings : Settings) (nonce : List ℕ) (scripts : List (List Command)) (given : List ℕ) (before after : LinkView) (report : Report Answer) →
    HasPlayed table settings nonce scripts given before after report → IsClosed before after
is-closed settings nonce scripts given before after report p = closing.is-closed table settings nonce scripts given before after report p

pub holds-ended : (settings : Settings) (nonce : List ℕ) (scripts : List (List Command)) (given : List ℕ) (before after : LinkView) (report : Report Answer) (limit : ℕ)
    (p : HasPlayed table settings nonce scripts given before after report) → p.startup.bytes.max_bytes ≡ limit → OfBytes before after (λ g t. length g ≤ limit)
holds-ended settings nonce scripts given before after report limit p is = limits.holds-ended table settings nonce scripts given before after report limit p is

-- ---- a session that failed behind its startup

module _ (call : landed.Call) (settings : Settings) (scripts : List (List Command)) (e : Error) (means : Means call.config settings)
    (b : HasBroken table settings call.nonce scripts call.before call.after e) (limit : b.startup.bytes.max_bytes ≡ call.limit) where
  pub broken-cause : HasCause call e
  broken-cause = caused.broken-cause table let-go book-whole call settings scripts e means b limit

  pub broken-limit : HoldsLimit call e
  broken-limit = caused.broken-limit table let-go book-whole call settings scripts e means b limit

pub broken-open : (settings : Settings) (nonce : List ℕ) (scripts : List (List Command)) (before after : LinkView) (e : Error) → HasBroken table settings nonce scripts before after e → LeavesOpen before after e
broken-open settings nonce scripts before after e b = closing.broken-open table settings nonce scripts before after e b

pub over-closed : (settings : Settings) (nonce : List ℕ) (scripts : List (List Command)) (before after : LinkView) → WasOver table settings nonce scripts before after → WasClosed before after
over-closed settings nonce scripts before after w = closing.over-closed table settings nonce scripts before after w

-- ---- what it had sent

pub sent-failed : (call : Call Command) (settings : Settings) (s : Startup) (e : Error) → Means call.config settings → NeedsNoTls settings → Failed (plain_login settings call.nonce) 0 call.before call.after s e → IsInOrder call
sent-failed call settings s e means plain f = so_far.sent-failed table call settings s e means plain f

pub sent-stopped : (call : Call Command) (settings : Settings) (s : Startup) (before after : ℕ) → Means call.config settings → StopsOpening settings call.nonce call.before call.after s (error.Stalled before after) → IsInOrder call
sent-stopped call settings s before after means h = so_far.sent-stopped table call settings s before after means h

pub sent-untouched : (call : Call Command) (s : Settings) → Means call.config s → call.after ≡ call.before → IsInOrder call
sent-untouched call s means same = so_far.sent-untouched table call s means same

-- where nothing was booked and nothing asked, that is in order
module _ (call : Call Command) (settings : Settings) (given : List ℕ) where
  abbrev empty_course : Course DeskCall Reply
  empty_course = course_so_far call settings given [] []

  none-begun : (handle : ℕ) (script : List Command) → AskedInOrder (meaning_of table) empty_course handle 0 table.begins script
  none-begun handle [] = tt
  none-begun handle (c ∷ cs) = inl (record {
    requests = tt;
    asked = sym (asks-nothing ((meaning_of table).asks table.begins c) [] []);
    none_later = λ later lt. (refl, refl);
  })

  pub none-in-order : InScriptOrder (meaning_of table) call.scripts empty_course
  none-in-order = record {
    owners = All-nil (λ b. IsSome (entry_at call.scripts b.stamp.owner b.stamp.command));
    askers = All-nil (λ a. IsSome (entry_at call.scripts a.stamp.owner a.stamp.command));
    in_order = λ handle i j d le lt. absurd (omega (arith, lt));
    asked_in_order = λ handle i j d le lt. absurd (omega (arith, lt));
    each = λ handle script at. none-begun handle script;
    told = tt;
    ended = tt;
  }

pub sent-opened : (call : Call Command) (settings : Settings) → Means call.config settings → WasOpened settings call.nonce call.before call.after → IsInOrder call
sent-opened call settings means w = so_far.sent-opened table call settings means w

pub sent-over : (call : Call Command) (settings : Settings) → Means call.config settings → WasOver table settings call.nonce call.scripts call.before call.after → IsInOrder call
sent-over call settings means w = broken.sent-over table are-commands let-go book-whole call settings means w

pub broken-sent : (call : Call Command) (settings : Settings) (e : Error) → Means call.config settings → (b : HasBroken table settings call.nonce call.scripts call.before call.after e) →
    b.startup.bytes.max_bytes ≡ call.limit → IsInOrder call
broken-sent call settings e means b limit = broken.broken-sent table are-commands let-go book-whole call settings e means b limit

pub stopped-kept : (call : Call Command) (settings : Settings) (s : Startup) (before after : ℕ) → Means call.config settings →
    StopsOpening settings call.nonce call.before call.after s (error.Stalled before after) → NoneKeptBack {T = Report Answer} (meaning_of table) call (Err (Stalled before after))
stopped-kept call settings s before after means h = kept.stopped-kept table call settings s before after means h

pub broken-kept : (call : Call Command) (settings : Settings) (before after : ℕ) → Means call.config settings →
    (b : HasBroken table settings call.nonce call.scripts call.before call.after (error.Stalled before after)) → b.startup.bytes.max_bytes ≡ call.limit → NoneKeptBack {T = Report Answer} (meaning_of table) call (Err (Stalled before after))
broken-kept call settings before after means b limit = broken.broken-kept table are-commands let-go book-whole call settings (error.Stalled before after) means b limit before after refl

-- ---- valid input

-- what was sent has no Flush
pub no-flush : (call : Call Command) (settings : Settings) (given taken : List ℕ) → NeedsNoTls settings → SentInOrder (meaning_of table) call settings given taken → IsFalse (has_flush taken)
no-flush call settings given taken plain sent = (turns.few-turns table book-whole call settings given taken plain sent).no_flush

pub must-end-well : (call : Call Command) (failure : Failure) → Tells call.before → Tells call.after → Continues call.before call.after →
    (WithSettings (apart call) (λ s. ⊤) → IsInOrder call) → HasCause (apart call) failure → MustEndWell {T = Report Answer} call (Err failure)
must-end-well call failure before after goes sent cause = course.must-end-well {R = Report Answer} table book-whole call failure (let r : Result (Report Answer) Failure = Err failure in r) before after goes sent cause refl
