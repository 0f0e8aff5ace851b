-- A worked session, and what a report on it comes to.
use Rattle.std.specs.Prelude.{ℕ, List, [], ◌∷◌, Some, None, codes, pos}
use Rattle.pg_spec.specs.Examples.{accepted, hex}
use Rattle.pg_spec.specs.Report.{Command, Simple}
use Rattle.pg_spec.specs.Stamps.{stamped}
use Rattle.pg_desk.specs.declared.event.Booking.{Booking}
use Rattle.pg_errors.specs.declared.async_message.AsyncMessage.TheVariants.{Notification}
use Rattle.pg_query.specs.declared.simple_message.SimpleMessage.TheVariants.{Columns, Row, Complete}
use Rattle.pg_text.specs.declared.command.Answer.TheVariants.{Messages}
use Rattle.pg_text.specs.declared.report.Report.{Report}

-- the plan of two commands from the seed 0: a notification and no row, then a row
abbrev pub two_replies : List (List ℕ)
two_replies =
    accepted
    ∷ hex (codes "41 0000000c 00000001 6300 3000 54 0000001a 0001 7600 00000000 0000 00000017 0004 ffffffff 0000 43 0000000d 53454c454354203000 5a0000000549")
    ∷ hex (codes "54 0000001a 0001 7600 00000000 0000 00000017 0004 ffffffff 0000 44 0000000b 0001 00000001 31 43 0000000d 53454c454354203100 5a0000000549")
    ∷ []

-- its scripts
abbrev pub two_scripts : List (List Command)
two_scripts = (Simple (codes "q0") None ∷ []) ∷ (Simple (codes "q1") None ∷ []) ∷ [] ∷ [] ∷ [] ∷ [] ∷ [] ∷ [] ∷ []

-- a request of it
abbrev pub booked : ℕ → List ℕ → Booking
booked owner query = record { stamp = stamped owner 0 0; parts = query ∷ [] }

-- a report on it
abbrev pub two_answered : Report
two_answered = record {
  answers = (Messages (Columns (codes "v" ∷ []) ∷ Complete 0 ∷ []) ∷ [])
      ∷ (Messages (Columns (codes "v" ∷ []) ∷ Row (Some (codes "1") ∷ []) ∷ Complete 1 ∷ []) ∷ []) ∷ [] ∷ [] ∷ [] ∷ [] ∷ [] ∷ [] ∷ [];
  asynchronous = Notification (record { process_id = pos 1; channel = codes "c"; payload = codes "0" }) ∷ [];
  parameters = [];
  process_id = pos 0;
  secret_key = pos 0;
  book = booked 0 (hex (codes "5100000007713000")) ∷ booked 1 (hex (codes "5100000007713100")) ∷ [];
  trace = [];
  sent = hex (codes "00000025 00030000 636c69656e745f656e636f64696e6700 5554463800 7573657200 6100 00 5100000007713000 5100000007713100 5800000004");
}

-- its summary
abbrev pub two_summed : List ℕ
two_summed = codes "commands 2\nfailed 0\nmessages 5\nrows 1\ncomplete 1\nasync 1\nrequests 2\nsent 58\n"
