-- What is promised over any commands, of sessions of simple queries alone in the words of the theorem on these.
use Rattle.std.proofs.Common.{◌≡◌, ℕ, List, [], ◌∷◌, map, false, Option, Some, None, Result, Ok, Err, refl, sym, ap, subst, ◌∙◌}
use Rattle.std.specs.Prelude.{is_some}
use Rattle.pg_spec.specs.Faults.{Failure, FrameFault}
use Rattle.pg_spec.specs.Frames.{query_frame}
use Rattle.pg_spec.specs.RawMessages.{groups}
use Rattle.pg_spec.specs.Report as said
use Rattle.pg_spec.specs.Report.{simple_answer}
use Rattle.pg_spec.specs.Settings.{Settings}
use Rattle.pg_spec.specs.Turns.{Times}
use Rattle.pg_spec.specs.SimpleQuery.{Columns, Complete, Item, Row, SimpleAnswer, simple_reading}
use Rattle.pg_client.specs.Simple.{answer_from, message_from}
use Rattle.pg_query.specs.declared.simple_message.SimpleMessage.{SimpleMessage}
use Rattle.pg_query.specs.declared.desk_call.DeskCall.{DeskCall}
use Rattle.pg_query.specs.declared.desk_call.Reply.{Reply}
use Rattle.pg_text.specs.Views.{as_answer, as_answers, as_command, as_message, as_scripts, item_of}
use Rattle.pg_text.specs.declared.command.Answer.{Answer}
use Rattle.pg_text.specs.declared.command.Answer.TheVariants as answer
use Rattle.pg_text.specs.declared.command.Command.{Command}
use Rattle.pg_spec.specs.Dialogues.{Answers, Asks, Dialogue, Reads, behind}
use Rattle.pg_spec.specs.Courses.{Course}
use Rattle.pg_spec.specs.Meanings.{Ending, HasRun}
use Rattle.pg_spec.specs.Simples.{AreSimple, asks_by, reads_unless, told_or}
use Rattle.pg_promises.proofs.Kept.{kept}
use Rattle.pg_promises.proofs.SentOrder.{sent}
use Rattle.pg_promises.specs.Calls.{Call}
use Rattle.pg_promises.specs.Kept.{NoneKeptBack}
use Rattle.pg_promises.specs.Sent.{SentInOrder}
use Rattle.pg_promises.proofs.Landed.{ended-well, has-run}
use Rattle.pg_promises.specs.Endings.{EndedWell, IsRun, Report, Session, course_of, replies}
use Rattle.pg_promises.specs.Landed.{simply as in_headline_words, report_of as landed_report, session_of as landed_session}
use Rattle.pg_promises.specs.EndedWell as simple
use Rattle.pg_promises.specs.Promises as promised
use Rattle.pg_session.specs.Speeches.{meaning_of}
use Rattle.pg_table.specs.Headlines.{AnsweredSimply, asks_simple, simple_call, simple_meaning, simple_session, simple_words}
use Rattle.pg_table.specs.Mapped.{mapped_answer}
use Rattle.pg_table.specs.declared.own.Own.{Own}
use Rattle.pg_table.specs.Table.{in_messages, kept_answer, table}
use Rattle.pg_table.proofs.Renamed.{answers-back, has-run-back}
use Rattle.pg_table.proofs.RenamedSent.{kept-back, sent-back}
use Rattle.pg_table.proofs.SimpleMeans.{are-simple}

-- ---- the words of answers

message-same : (x : Item) → message_from x ≡ as_message x
message-same (Columns names) = refl
message-same (Row cells) = refl
message-same (Complete n) = refl

messages-same : (xs : List Item) → map message_from xs ≡ map as_message xs
messages-same [] = refl
messages-same (x ∷ xs) = λ i. message-same x i ∷ messages-same xs i

item-back : (x : Item) → item_of (as_message x) ≡ x
item-back (Columns names) = refl
item-back (Row cells) = refl
item-back (Complete n) = refl

items-back : (xs : List Item) → map item_of (map as_message xs) ≡ xs
items-back [] = refl
items-back (x ∷ xs) = λ i. item-back x i ∷ items-back xs i

-- what is kept of an answer is the answer that a simple query is told to give
kept-same : (a : SimpleAnswer) → kept_answer (mapped_answer in_messages (answer_from a)) ≡ as_answer (simple_answer a)
kept-same (Ok items) = ap (λ (xs : List SimpleMessage). answer.Messages xs) (messages-same items)
kept-same (Err e) = refl

-- the answer of a simple query, told back; no simple query gives another
abbrev back_answer : Answer → said.Answer
back_answer (answer.Messages messages) = said.Items (map item_of messages)
back_answer (answer.Failed e) = said.Failed e
back_answer answer.Done = said.Items []
back_answer (answer.Statement statement) = said.Items []
back_answer (answer.Rows statement rows affected) = said.Items []
back_answer (answer.Scalars values) = said.Items []
back_answer (answer.Count n) = said.Items []

answer-back : (a : said.Answer) → back_answer (as_answer a) ≡ a
answer-back (said.Items items) = ap (λ (xs : List Item). said.Items xs) (items-back items)
answer-back (said.Failed e) = refl

all-back : (xs : List said.Answer) → map back_answer (map as_answer xs) ≡ xs
all-back [] = refl
all-back (x ∷ xs) = λ i. answer-back x i ∷ all-back xs i

each-back : (rows : List (List said.Answer)) → map (map back_answer) (as_answers rows) ≡ rows
each-back [] = refl
each-back (row ∷ rows) = λ i. all-back row i ∷ each-back rows i

-- answers are those of simple queries in one way
pub answers-one : (a b : List (List said.Answer)) → as_answers a ≡ as_answers b → a ≡ b
answers-one a b e = sym (each-back a) ∙ ap (λ (rows : List (List Answer)). map (map back_answer) rows) e ∙ each-back b

-- ---- and so of dialogues

abbrev Said : Type 0
Said = Dialogue DeskCall Reply (Ending said.Answer Own)

abbrev Kept : Type 0
Kept = Dialogue DeskCall Reply (Ending Answer Own)

-- what the commands of the table mean
abbrev asks_all : Own → Command → Kept
asks_all = (meaning_of table).asks

abbrev as_kept : Own → SimpleAnswer → Kept
as_kept own a = Answers (record { answer = kept_answer (mapped_answer in_messages (answer_from a)); own = own })

abbrev in_said : Own → SimpleAnswer → Said
in_said own a = Answers (record { answer = simple_answer a; own = own })

abbrev in_all : Ending said.Answer Own → Kept
in_all e = Answers (record { answer = as_answer e.answer; own = e.own })

answers-all : (own : Own) (a : SimpleAnswer) → as_kept own a ≡ in_all (record { answer = simple_answer a; own = own })
answers-all own a = ap (λ (x : Answer). let y : Kept = Answers (record { answer = x; own = own }) in y) (kept-same a)

reads-all : (own : Own) (take : Option ℕ) (o : Option SimpleAnswer) → behind (reads_unless take o) (as_kept own) ≡ behind (behind (reads_unless take o) (in_said own)) in_all
reads-all own take (Some r) = answers-all own r
reads-all own take None = λ i. Reads (λ ms. is_some (simple_reading take ms)) (λ ms. answers-all own (told_or (simple_reading take ms)) i)

asks-as : (own : Own) (take : Option ℕ) (o : Result (List ℕ) FrameFault) → behind (asks_by take o) (as_kept own) ≡ behind (behind (asks_by take o) (in_said own)) in_all
asks-as own take (Err fault) = refl
asks-as own take (Ok frame) = ap (λ (d : Kept). Asks false frame d) (reads-all own take (simple_reading take []))

-- a simple query means in the table what it means alone
means-all : (own : Own) (c : said.Command) → asks_all own (as_command c) ≡ behind (asks_simple own c) in_all
means-all own (said.Simple text take) = are-simple own (as_command (said.Simple text take)) text take refl ∙ asks-as own take (query_frame text)

pub in-headline : AreSimple simple_meaning in_headline_words
in-headline own (said.Simple text take) text' take' e =
    let same : (text, take) ≡ (text', take') = cc in
    ap (λ (t : List ℕ × Option ℕ). behind (asks_by t.1 (query_frame t.0)) (in_said own)) same

-- ---- the main theorem

-- what has run by the table has run by simple queries
module _ (scripts : List (List said.Command)) (turns : List ℕ) (answers : List (List Answer)) (course : Course DeskCall Reply)
    (h : HasRun (meaning_of table) (as_scripts scripts) turns answers course) where
  has-run-simply : HasRun simple_meaning scripts turns (map (map back_answer) answers) course
  has-run-simply = has-run-back simple_meaning asks_all as_command as_answer back_answer answer-back means-all scripts turns answers course h

  answered-simply : answers ≡ as_answers (map (map back_answer) answers)
  answered-simply = answers-back simple_meaning asks_all as_command as_answer back_answer answer-back means-all scripts turns answers course h

-- a session of simple queries that ended well by the table did so by these
pub ended : (s : Session Command Answer) (scripts : List (List said.Command)) (taken : List ℕ) → s.scripts ≡ as_scripts scripts → EndedWell (meaning_of table) s taken →
    AnsweredSimply s.report.answers (λ answers. EndedWell simple_meaning (simple_session s scripts answers) taken)
ended s scripts taken is e =
    let course = course_of s.report (replies s) e.asked in
    let run : HasRun (meaning_of table) (as_scripts scripts) s.turns s.report.answers course = subst (λ (x : List (List Command)). HasRun (meaning_of table) x s.turns s.report.answers course) is e.has_run in
    record {
      simple = map (map back_answer) s.report.answers;
      are = answered-simply scripts s.turns s.report.answers course run;
      holds = record {
        asked = e.asked;
        has_run = has-run-simply scripts s.turns s.report.answers course run;
        no_tls = e.no_tls;
        started = e.started;
        one_group_each = e.one_group_each;
        whole_groups = e.whole_groups;
        no_bad_header = e.no_bad_header;
        sent = e.sent;
        reported = e.reported;
        delivered_front = e.delivered_front;
        delivered_all = e.delivered_all;
        readable = e.readable;
        asynchronous = e.asynchronous;
        parameters = e.parameters;
        key = e.key;
      };
    }

-- and so the theorem on simple queries
pub ended-as-before : (s : Session Command Answer) (scripts : List (List said.Command)) (taken : List ℕ) → s.scripts ≡ as_scripts scripts → EndedWell (meaning_of table) s taken →
    AnsweredSimply s.report.answers (λ answers. simple.EndedWell (landed_session (simple_session s scripts answers)) taken)
ended-as-before s scripts taken is e =
    let h = ended s scripts taken is e in
    record { simple = h.simple; are = h.are; holds = ended-well simple_meaning in-headline (simple_session s scripts h.simple) taken h.holds }

-- over every link what that says without the bytes
pub run-as-before : (scripts : List (List said.Command)) (turns : List ℕ) (report : Report Answer) → IsRun (meaning_of table) (as_scripts scripts) turns report →
    AnsweredSimply report.answers (λ answers. (schedule : List (List Times)) × simple.HasRun scripts turns (landed_report (simple_words report answers)) schedule)
run-as-before scripts turns report run =
    let course = course_of report (groups run.later) run.asked in
    let answers = map (map back_answer) report.answers in
    let h = has-run-simply scripts turns report.answers course run.has_run in
    record {
      simple = answers;
      are = answered-simply scripts turns report.answers course run.has_run;
      holds = (h.schedule, has-run simple_meaning in-headline scripts turns (simple_words report answers) (groups run.later) run.asked h);
    }

-- ---- what was sent where it failed

-- the call, where its commands are these
abbrev with_scripts : {C D : Type 0} → Call C → List (List D) → Call D
with_scripts call scripts = record { config = call.config; nonce = call.nonce; scripts = scripts; turns = call.turns; limit = call.limit; before = call.before; after = call.after }

-- in order by the table it is so by simple queries
pub sent-as-before : (call : Call Command) (scripts : List (List said.Command)) (s : Settings) (given taken : List ℕ) → call.scripts ≡ as_scripts scripts →
    SentInOrder (meaning_of table) call s given taken → promised.SentInOrder (simple_call call scripts) s given taken
sent-as-before call scripts s given taken is h =
    sent simple_meaning in-headline (simple_call call scripts) s given taken
    (sent-back simple_meaning asks_all as_command as_answer means-all (with_scripts call scripts) s given taken
    (subst (λ (x : List (List Command)). SentInOrder (meaning_of table) (with_scripts call x) s given taken) is h))

-- and so that no request is kept back
pub kept-as-before : (call : Call Command) (scripts : List (List said.Command)) (result : Result said.Report Failure) → call.scripts ≡ as_scripts scripts →
    NoneKeptBack (meaning_of table) call result → promised.NoneKeptBack (simple_call call scripts) result
kept-as-before call scripts result is h =
    kept simple_meaning in-headline (simple_call call scripts) result
    (kept-back simple_meaning asks_all as_command as_answer means-all (with_scripts call scripts) result
    (subst (λ (x : List (List Command)). NoneKeptBack (meaning_of table) (with_scripts call x) result) is h))
