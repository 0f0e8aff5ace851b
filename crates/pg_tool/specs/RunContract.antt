-- The contract of the program: what it writes, and its exit status.
use Rattle.std.specs.Prelude.{◌≡◌, ◌≢◌, ℕ, ◌<◌, ◌≤◌, ◌⊎◌, true, false, List, [], ◌++◌, length, take, Ok, Err, Option, Some, None, IfSome, codes, decimal, Result, ⊤}
use Rattle.std.specs.List.{concat}
use Rattle.pg_promises.specs.Calls.{Call, apart}
use Rattle.pg_promises.specs.Completeness.{AnswersRequests}
use Rattle.pg_promises.specs.Sent.{SentInOrder}
use Rattle.pg_promises.specs.Causes as landed
use Rattle.pg_promises.specs.ConnectionStrings.{Means}
use Rattle.pg_promises.specs.Promises.{AnswersStartup, IsFront, IsValid}
use Rattle.pg_spec.specs.Links.{LinkView, Plan, Rose, Grew, course_of}
use Rattle.pg_spec.specs.Sent.{turns_given}
use Rattle.pg_spec.specs.Settings.{Settings}
use Rattle.pg_spec.specs.ReportText.{error_text}
use Rattle.pg_spec.specs.ReportText as simply
use Rattle.pg_spec.specs.SessionText as said
use Rattle.pg_wire.specs.LinkCalls.{Tells}
use Rattle.pg_wire.specs.Streams.{SourceView, SinkView}
use Rattle.pg_session.specs.Sessions.{HasPlayed}
use Rattle.pg_session.specs.Speeches.{meaning_of}
use Rattle.pg_types.specs.declared.error.Error.{Error}
use Rattle.pg_types.specs.declared.error.Error.TheVariants.{OutOfMemory}
use Rattle.pg_table.specs.Headlines.{told_in}
use Rattle.pg_table.specs.Table.{table}
use Rattle.pg_text.specs.ReportText.{report_text}
use Rattle.pg_text.specs.Sessions.{as_session}
use Rattle.pg_text.specs.SessionText.{SessionText, IsSessionText, IsRefusedAt}
use Rattle.pg_text.specs.declared.command.Command.{Command}
use Rattle.pg_text.specs.declared.report.Report.{Report}
use Rattle.pg_tool.specs.Asked as asked
use Rattle.pg_tool.specs.SessionContract.{SessionContract, SessionResult, ToldSimply}
use Rattle.pg_tool.specs.TableContract.{TableContract, table_call, table_result}
use Rattle.pg_tool.specs.Reading.{longest_text}
use Rattle.pg_gen.specs.Generated.{generated}
use Rattle.pg_gen.specs.Laws as made
use Rattle.pg_gen.specs.Summaries.{summary_text}
use Rattle.pg_tool.specs.Words.{AreOthers, Asks, IsGen, play}
use Rattle.pg_tool.specs.declared.numbers.Numbers.{Numbers}
use Rattle.pg_tool.specs.Writing as writing
use Rattle.pg_tool.specs.declared.over.Over.{Over}
use Rattle.pg_tool.specs.declared.over.Over.TheVariants as over

-- what a session answers
abbrev pub SessionAnswer : Type 0
SessionAnswer = Result Report Error

-- one run of the program: its words, and the source and the sink before and after
pub record Run : Type 0 where
  pub words : List (List ℕ)
  pub source_before : SourceView
  pub source_after : SourceView
  pub sink_before : SinkView
  pub sink_after : SinkView
  -- the link handed in
  pub link_before : LinkView
  pub link_after : LinkView
  pub status : ℕ
  pub result : Option SessionAnswer

-- what a text's link will give
abbrev pub plan_of : SessionText → Plan
plan_of text = record { entries = text.plan; ends = text.ends; is_troubled = false }

-- a link in memory, before its first call
abbrev pub new_link : SessionText → LinkView
new_link text = record {
  given = Some [];
  taken = Some [];
  plan = Some (plan_of text);
  course = Some (course_of (plan_of text));
  due = Some [];
  steady = true;
  promised = false;
  flushed = false;
  shut = false;
  faults = 0;
  quiet = 0;
  dry = 0;
  blocked = 0;
  lulls = 0;
  ends = 0;
}

-- the call that plays a text over a link, which is then as told
abbrev pub call_over : SessionText → (before after : LinkView) → Call Command
call_over text before after = table_call text.config text.nonce text.scripts text.turns text.limit before after

-- over the text's own link
abbrev pub call_of : SessionText → LinkView → Call Command
call_of text after = call_over text (new_link text) after

-- where it answered Ok, the text's scripts were played turn by turn over that link, and this is the report
abbrev pub WasPlayed : SessionText → (before after : LinkView) → SessionAnswer → Type 0
WasPlayed text before after (Ok report) = (s : Settings) × Means text.config s × HasPlayed table s text.nonce text.scripts text.turns before after (told_in report)
WasPlayed text before after (Err failure) = ⊤

-- the result is that of the text's session over the text's own link, which tells all bytes that crossed
-- it, gave a front of its plan, and didn't fail
pub record IsPlayed (text : SessionText) (result : SessionAnswer) : Type 0 where
  pub after : LinkView
  pub given : List ℕ
  pub taken : List ℕ
  pub told_given : after.given ≡ Some given
  pub told_taken : after.taken ≡ Some taken
  pub tells : Tells after
  pub rest : List ℕ
  pub front : given ++ rest ≡ concat text.plan
  pub no_fault : after.faults ≡ 0
  -- all that a session promises
  pub by_table : TableContract (call_of text after) (table_result result)
  -- turn by turn
  pub turns : WasPlayed text (new_link text) after result

-- the result is that of the text's session over the link that was handed in: all that a session promises, turn by turn
pub record IsPiped (before after : LinkView) (text : SessionText) (result : SessionAnswer) : Type 0 where
  pub by_table : TableContract (call_over text before after) (table_result result)
  pub turns : WasPlayed text before after result

-- by the link that was asked for; the one handed in isn't used by a text that is played over its own
abbrev pub IsOver : Over → (before after : LinkView) → SessionText → SessionAnswer → Type 0
IsOver over.Own before after text result = IsPlayed text result × (after ≡ before)
IsOver over.Handed before after text result = IsPiped before after text result

-- ---- texts of simple queries alone, in the words of these

-- the call that plays such a text over a link, which is then as told
abbrev pub simple_call_over : said.SessionText → (before after : LinkView) → landed.Call
simple_call_over text before after = asked.call_of text.config text.nonce text.scripts text.turns text.limit before after

-- over the text's own link
abbrev pub simple_call_of : said.SessionText → LinkView → landed.Call
simple_call_of text after = simple_call_over text (new_link (as_session text)) after

-- the result is that of the text's session over the text's own link, which tells all bytes that crossed
-- it, gave a front of its plan, and didn't fail
pub record IsPlayedSimply (text : said.SessionText) (result : SessionResult) : Type 0 where
  pub after : LinkView
  pub given : List ℕ
  pub taken : List ℕ
  pub told_given : after.given ≡ Some given
  pub told_taken : after.taken ≡ Some taken
  pub tells : Tells after
  pub rest : List ℕ
  pub front : given ++ rest ≡ concat text.plan
  pub no_fault : after.faults ≡ 0
  -- all that a session promises
  pub session : SessionContract (simple_call_of text after) result

-- by the link that was asked for; the one handed in isn't used by a text that is played over its own
abbrev pub IsOverSimply : Over → (before after : LinkView) → said.SessionText → SessionResult → Type 0
IsOverSimply over.Own before after text result = IsPlayedSimply text result × (after ≡ before)
IsOverSimply over.Handed before after text result = SessionContract (simple_call_over text before after) result

-- ---- what is written

-- With the status that is due the text was written whole, with 4 or 5 a front of it; and nothing else was.
abbrev pub EndsWith : SinkView → SinkView → List ℕ → (due status : ℕ) → Type 0
EndsWith old new text due status =
    ((status ≡ due) × Grew old.written new.written text)
    ⊎ (((status ≡ 4) ⊎ (status ≡ 5)) × writing.WroteFront old new text)

-- how writing a text ended: with 4 in place of the status that is due only where the sink failed
pub record Written (old new : SinkView) (text : List ℕ) (due status : ℕ) : Type 0 where
  pub ends : EndsWith old new text due status
  pub sink_failed : due ≢ 4 → status ≡ 4 → Rose old.faults new.faults

-- want of memory, before anything was written
abbrev pub WroteNothing : SinkView → SinkView → ℕ → Type 0
WroteNothing old new status = (status ≡ 5) × (new ≡ old)

-- what is written of a session's result, and the status
abbrev pub SaysResult : SinkView → SinkView → ℕ → SessionAnswer → Type 0
SaysResult old new status (Ok report) = EndsWith old new (report_text report) 0 status
SaysResult old new status (Err OutOfMemory) = WroteNothing old new status
SaysResult old new status (Err failure) = EndsWith old new (error_text failure) 1 status

-- the same in the words of simple queries
abbrev pub SaysSimply : SinkView → SinkView → ℕ → SessionResult → Type 0
SaysSimply old new status (Ok report) = EndsWith old new (simply.report_text report) 0 status
SaysSimply old new status (Err OutOfMemory) = WroteNothing old new status
SaysSimply old new status (Err failure) = EndsWith old new (error_text failure) 1 status

-- a session's result was told
pub record Answered (old new : SinkView) (status : ℕ) (result : SessionAnswer) : Type 0 where
  pub says : SaysResult old new status result
  pub sink_failed : status ≡ 4 → Rose old.faults new.faults

-- a session was played so, and its result told
pub record PlayedSession (Is : SessionText → SessionAnswer → Type 0) (text : SessionText) (old new : SinkView) (status : ℕ) (result : SessionAnswer) : Type 0 where
  pub answered : Answered old new status result
  pub played : Is text result

-- what is written of a generated session's result, and the status: its summary where it answered Ok, else nothing, since
-- memory lacked
abbrev pub SaysSummary : SinkView → SinkView → ℕ → SessionAnswer → Type 0
SaysSummary old new status (Ok report) = EndsWith old new (summary_text report) 0 status
SaysSummary old new status (Err failure) = (failure ≡ OutOfMemory) × WroteNothing old new status

-- how writing a summary ended; where there is no report nothing is written, as where memory lacks
abbrev pub WritesSummary : SinkView → SinkView → ℕ → SessionAnswer → Type 0
WritesSummary old new status (Ok report) = Written old new (summary_text report) 0 status
WritesSummary old new status (Err failure) = WroteNothing old new status

-- a generated session's result was told
pub record SummedUp (old new : SinkView) (status : ℕ) (result : SessionAnswer) : Type 0 where
  pub says : SaysSummary old new status result
  pub sink_failed : status ≡ 4 → Rose old.faults new.faults

-- what a generated session came to: it was played over its own link and its result told, or memory lacked for it
abbrev pub SumsUp : Numbers → SinkView → SinkView → ℕ → Option SessionAnswer → Type 0
SumsUp x old new status None = WroteNothing old new status
SumsUp x old new status (Some result) = SummedUp old new status result × IsPlayed (as_session (generated x.commands x.seed)) result

-- why a text is refused: its length, or the first line that breaks the rules
abbrev pub IsRefused : List ℕ → Option ℕ → Type 0
IsRefused text None = longest_text < length text
IsRefused text (Some n) = (length text ≤ longest_text) × IsRefusedAt text n

-- the same of a text that isn't too long
abbrev pub IsRefusedFor : List ℕ → Option ℕ → Type 0
IsRefusedFor text None = longest_text < length text
IsRefusedFor text (Some n) = IsRefusedAt text n

-- what is written then
abbrev pub refusal : Option ℕ → List ℕ
refusal None = codes "refused length\n"
refusal (Some n) = codes "refused " ++ decimal n ++ codes "\n"

-- what is written for other words
abbrev pub usage : List ℕ
usage = codes "usage: pgplay play | pipe FILE REPORT | threads | gen N SEED\n"

-- which line is refused was written, or memory ran out before
abbrev pub RefusedLine : SinkView → SinkView → (number status : ℕ) → Type 0
RefusedLine old new number status = Written old new (refusal (Some number)) 2 status ⊎ WroteNothing old new status

-- what is written where a text was refused, or memory ran out before its session
abbrev pub NotPlayed : List ℕ → SinkView → SinkView → ℕ → Type 0
NotPlayed bytes old new status =
    ((why : Option ℕ) × IsRefusedFor bytes why × Written old new (refusal why) 2 status)
    ⊎ WroteNothing old new status

-- what a text came to, whose session is played so
abbrev pub PlayedText : (SessionText → SessionAnswer → Type 0) → List ℕ → SinkView → SinkView → ℕ → Option SessionAnswer → Type 0
PlayedText Is bytes old new status None = NotPlayed bytes old new status
PlayedText Is bytes old new status (Some result) =
    (text : SessionText) × IsSessionText bytes text × PlayedSession Is text old new status result

-- the status where the text due was written whole, else 4 or 5, and a front of it was written
abbrev pub Ends : Run → ℕ → List ℕ → Type 0
Ends run status text = EndsWith run.sink_before run.sink_after text status run.status

-- why no session was played with `play` or `pipe`: the text is refused, or nothing was written since the source failed or memory ran out
abbrev pub PlaysNothing : Run → Type 0
PlaysNothing run =
    ((why : Option ℕ) × IfSome run.source_before.left (λ text. IsRefused text why) × Ends run 2 (refusal why))
    ⊎ (((run.status ≡ 3) ⊎ (run.status ≡ 5)) × (run.sink_after ≡ run.sink_before))

-- what each exit status says
abbrev pub StatusSays : Run → Option SessionAnswer → Type 0
StatusSays run (Some result) = ((which : Over) × Asks run.words which × SaysResult run.sink_before run.sink_after run.status result)
    ⊎ ((x : Numbers) × IsGen run.words x × SaysSummary run.sink_before run.sink_after run.status result)
-- no session was played: with other words the usage line is due, and nothing is read
StatusSays run None = (AreOthers run.words × (run.source_after ≡ run.source_before) × Ends run 2 usage)
    ⊎ ((which : Over) × Asks run.words which × PlaysNothing run)
    ⊎ ((x : Numbers) × IsGen run.words x × WroteNothing run.sink_before run.sink_after run.status)

-- the session of a text, which is the source's where that tells its bytes, over the link that the words ask for
abbrev pub PlaysText : Run → SessionAnswer → Type 0
PlaysText run result = (which : Over) × Asks run.words which
    × (bytes : List ℕ) × IfSome run.source_before.left (λ left. left ≡ bytes) × (length bytes ≤ longest_text)
    × (text : SessionText) × IsSessionText bytes text × IsOver which run.link_before run.link_after text result

-- A text of simple queries alone was played by the words that ask for this link: this is what was written and promised, in the words
-- of simple queries.
abbrev pub PlaysSimply : Run → Over → said.SessionText → SessionAnswer → Type 0
PlaysSimply run which text result = ToldSimply result (λ told.
    SaysSimply run.sink_before run.sink_after run.status told × IsOverSimply which run.link_before run.link_after text told)

-- A source that tells the bytes of such a text was read and its session played so, unless the source failed or memory lacked.
abbrev pub PlaysSimpleText : Run → Type 0
PlaysSimpleText run = (which : Over) (bytes : List ℕ) (text : said.SessionText) → Asks run.words which → run.source_before.left ≡ Some bytes →
    said.IsSessionText bytes text → IfSome run.result (PlaysSimply run which text)

-- a generated session, over its own link
abbrev pub PlaysNumbers : Run → SessionAnswer → Type 0
PlaysNumbers run result = (x : Numbers) × IsGen run.words x × IsPlayed (as_session (generated x.commands x.seed)) result
    × ToldSimply result (IsPlayedSimply (generated x.commands x.seed)) × (run.source_after ≡ run.source_before) × (run.link_after ≡ run.link_before)

-- Whatever of the plan came behind what was sent, and whatever the scripts may have asked by it: each frame behind the startup that
-- gives the server the turn has its entry.
abbrev pub AnswersAllSent : Call Command → Settings → Plan → (frames : ℕ) → Type 0
AnswersAllSent call s plan frames = (given taken : List ℕ) → IsFront given (concat (take (turns_given taken) plan.entries)) →
    SentInOrder (meaning_of table) call s given taken → AnswersRequests plan frames taken

-- The text's session is valid input, and its plan is what a server that conforms gives it: it answers the startup, and all that the
-- scripts may ask. The text's turns aren't looked at: it answers by every order of bookings, so where two handles may look one type up,
-- it has entries for both of them, though by the turns one of them may find the type kept.
pub record IsWellMade (text : SessionText) : Type 0 where
  pub settings : Settings
  pub means : Means text.config settings
  pub valid : IsValid (apart (call_of text (new_link text))) settings (plan_of text)
  pub opens : AnswersStartup (apart (call_of text (new_link text))) settings (plan_of text)
  pub answers : AnswersAllSent (call_of text (new_link text)) settings (plan_of text) opens.frames

-- the same of a text of simple queries alone, by how many requests its scripts ask
abbrev pub IsSimplyMade : said.SessionText → Type 0
IsSimplyMade text = made.IsWellMade (simple_call_of text (new_link (as_session text))) text

-- With `play` and a text that is well made, where neither the source nor the sink failed, the session ended well, or memory lacked.
abbrev pub MustPlay : Run → Type 0
MustPlay run = (bytes : List ℕ) (text : SessionText) → run.words ≡ play → run.source_before.left ≡ Some bytes → length bytes ≤ longest_text →
    IsSessionText bytes text → IsWellMade text → (Rose run.source_before.faults run.source_after.faults → ⊥) →
    (Rose run.sink_before.faults run.sink_after.faults → ⊥) → (run.status ≡ 0) ⊎ (run.status ≡ 5)

-- what the program promises
pub record RunContract (run : Run) : Type 0 where
  pub status : StatusSays run run.result
  pub source_failed : run.status ≡ 3 → Rose run.source_before.faults run.source_after.faults
  pub sink_failed : run.status ≡ 4 → Rose run.sink_before.faults run.sink_after.faults
  -- with `play` or `pipe` the result is that of a text's session, with `gen` that of a generated one
  pub session : IfSome run.result (λ result. PlaysText run result ⊎ PlaysNumbers run result)
  -- and of a text of simple queries alone, the same in the words of these
  pub simply : PlaysSimpleText run
  -- without a session the link handed in isn't used
  pub link : run.result ≡ None → run.link_after ≡ run.link_before
  -- a text that is well made is played well
  pub must_play : MustPlay run
  -- numbers in range are summed up, unless the sink fails or memory lacks
  pub must_sum : (x : Numbers) → IsGen run.words x → (run.status ≡ 0) ⊎ ((run.status ≡ 4) ⊎ (run.status ≡ 5))
