-- What scripts and reports stand for, and the words of simple queries in those of all commands.
use Rattle.std.specs.Prelude.{List, map}
use Rattle.pg_spec.specs.Book as book
use Rattle.pg_spec.specs.Report as said
use Rattle.pg_spec.specs.SimpleQuery as simple
use Rattle.pg_errors.specs.Views.{async_of}
use Rattle.pg_desk.specs.declared.event.Booking.{Booking}
use Rattle.pg_query.specs.declared.simple_message.SimpleMessage.{SimpleMessage}
use Rattle.pg_query.specs.declared.simple_message.SimpleMessage.TheVariants as message
use Rattle.pg_text.specs.declared.command.Command.{Command}
use Rattle.pg_text.specs.declared.command.Command.TheVariants as command
use Rattle.pg_text.specs.declared.command.Answer.{Answer}
use Rattle.pg_text.specs.declared.command.Answer.TheVariants as answer
use Rattle.pg_text.specs.declared.report.Report.{Report}

-- a part of the reply to a simple query
abbrev pub item_of : SimpleMessage → simple.Item
item_of (message.Columns names) = simple.Columns names
item_of (message.Row cells) = simple.Row cells
item_of (message.Complete affected) = simple.Complete affected

-- a request with its stamp
abbrev pub booking_of : Booking → book.Booking
booking_of b = record { stamp = b.stamp; parts = b.parts }

-- ---- simple queries

-- the command that a simple query is
abbrev pub as_command : said.Command → Command
as_command (said.Simple text take) = command.Simple text take

-- scripts of simple queries alone
abbrev pub as_scripts : List (List said.Command) → List (List Command)
as_scripts scripts = map (map as_command) scripts

-- the part of an answer that stands for an item
abbrev pub as_message : simple.Item → SimpleMessage
as_message (simple.Columns names) = message.Columns names
as_message (simple.Row cells) = message.Row cells
as_message (simple.Complete affected) = message.Complete affected

-- the answer of a simple query
abbrev pub as_answer : said.Answer → Answer
as_answer (said.Items items) = answer.Messages (map as_message items)
as_answer (said.Failed e) = answer.Failed e

-- the answers of such scripts
abbrev pub as_answers : List (List said.Answer) → List (List Answer)
as_answers answers = map (map as_answer) answers

-- a report whose answers are these
abbrev pub simple_report : Report → List (List said.Answer) → said.Report
simple_report r answers = record {
  answers = answers;
  asynchronous = map async_of r.asynchronous;
  parameters = map (λ p. (p.name, p.value)) r.parameters;
  process_id = r.process_id;
  secret_key = r.secret_key;
  book = map booking_of r.book;
  trace = r.trace;
  sent = r.sent;
}
