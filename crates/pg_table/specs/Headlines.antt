-- Sessions of simple queries alone, by the words over any commands and by those of the theorem on simple queries.
use Rattle.std.specs.Prelude.{◌≡◌, List, map}
use Rattle.pg_spec.specs.Report as said
use Rattle.pg_spec.specs.Report.{simple_answer}
use Rattle.pg_query.specs.declared.desk_call.DeskCall.{DeskCall}
use Rattle.pg_query.specs.declared.desk_call.Reply.{Reply}
use Rattle.pg_text.specs.Views.{as_answers}
use Rattle.pg_text.specs.declared.command.Answer.{Answer}
use Rattle.pg_text.specs.declared.command.Command.{Command}
use Rattle.pg_text.specs.declared.report.Report.{Report}
use Rattle.pg_errors.specs.Views.{async_of}
use Rattle.pg_spec.specs.Dialogues.{Answers, Dialogue, behind}
use Rattle.pg_spec.specs.Meanings.{Ending, Meaning}
use Rattle.pg_spec.specs.Simples.{simple_query}
use Rattle.pg_core.specs.Counters.{tells}
use Rattle.pg_core.specs.Trails.{said_booking}
use Rattle.pg_promises.specs.Endings as ending
use Rattle.pg_promises.specs.Endings.{Session}
use Rattle.pg_promises.specs.Calls.{Call}
use Rattle.pg_promises.specs.Causes as landed
use Rattle.pg_table.specs.declared.own.Own.{Own}
use Rattle.pg_table.specs.Table.{table}

-- what a simple query asks and answers; it leaves what its script keeps as it is
abbrev pub asks_simple : Own → said.Command → Dialogue DeskCall Reply (Ending said.Answer Own)
asks_simple own (said.Simple text take) = behind (simple_query text take) (λ a. Answers (record { answer = simple_answer a; own = own }))

-- the meaning of simple queries
abbrev pub simple_meaning : Meaning said.Command said.Answer Own DeskCall Reply
simple_meaning = record { begins = table.begins; asks = asks_simple; tells = tells }

-- what a session reported, in the words over any commands
abbrev pub told_in : Report → ending.Report Answer
told_in report = record {
  answers = report.answers;
  asynchronous = map async_of report.asynchronous;
  parameters = map (λ p. (p.name, p.value)) report.parameters;
  process_id = report.process_id;
  secret_key = report.secret_key;
  book = map said_booking report.book;
  trace = report.trace;
  sent = report.sent;
}

-- the same report, where its answers are these
abbrev pub simple_words : ending.Report Answer → List (List said.Answer) → ending.Report said.Answer
simple_words r answers = record {
  answers = answers;
  asynchronous = r.asynchronous;
  parameters = r.parameters;
  process_id = r.process_id;
  secret_key = r.secret_key;
  book = r.book;
  trace = r.trace;
  sent = r.sent;
}

-- the same session, where its commands and answers are these
abbrev pub simple_session : Session Command Answer → List (List said.Command) → List (List said.Answer) → Session said.Command said.Answer
simple_session s scripts answers = record { settings = s.settings; nonce = s.nonce; scripts = scripts; turns = s.turns; given = s.given; report = simple_words s.report answers }

-- the same call, where its commands are these
abbrev pub simple_call : Call Command → List (List said.Command) → landed.Call
simple_call call scripts = record { config = call.config; nonce = call.nonce; scripts = scripts; turns = call.turns; limit = call.limit; before = call.before; after = call.after }

-- Its answers are those of simple queries, and this holds of them.
pub record AnsweredSimply (answers : List (List Answer)) (P : List (List said.Answer) → Type 0) : Type 0 where
  pub simple : List (List said.Answer)
  pub are : answers ≡ as_answers simple
  pub holds : P simple
