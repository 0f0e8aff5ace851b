use Rattle.std.proofs.Common.{List, ap}
use Rattle.pg_spec.specs.RawMessages.{RawMessage}
use Rattle.pg_streams.specs.declared.heads.Heads.{Heads}
use Rattle.pg_streams.proofs.Streams.{booked, not-booked, not-written}
use Rattle.pg_streams.proofs.state.ask.Goals as goal

pub returns-in-Ok-book-clause-books : goal.returns-in-Ok-book-clause-books
returns-in-Ok-book-clause-books g c text count types vs said = booked g.D.Desk.becomes c.args.stamp c.args.desk.now text count types vs c.book.new.self c.in-Ok.request c.in-Ok-book.id (record { id = c.in-Ok-book.id; batch = c.empty.result }) (rw c.in-Ok.is at said) c.in-Ok-book.ensures.event
    (ap (λ (l : List RawMessage). let s : Heads = record { id = c.in-Ok-book.id; batch = l } in s) c.empty.ensures)

pub returns-in-Err-book-clause-books : goal.returns-in-Err-book-clause-books
returns-in-Err-book-clause-books g c text count types vs said = not-booked g.D.Desk.becomes c.args.stamp c.args.desk.now text count types vs c.book.new.self c.in-Ok.request c.in-Err-book.fault c.error_of.result (rw c.in-Ok.is at said) c.in-Err-book.ensures.event c.error_of.ensures

pub returns-in-Err-clause-books : goal.returns-in-Err-clause-books
returns-in-Err-clause-books g c text count types vs said = not-written g.D.Desk.becomes c.args.stamp c.args.desk.now text count types vs g.met.D.Desk.stays c.in-Err.error (rw c.in-Err.is at said)
