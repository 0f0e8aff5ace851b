use Rattle.pg_wire.specs.Messages.{message_view}
use Rattle.pg_streams.proofs.Rows.{opens-seen, opening-heard}
use Rattle.pg_streams.proofs.row_giving.RowOpeningGiving.message.Goals as goal

pub returns-clause-gives : goal.returns-clause-gives
returns-clause-gives c raw means = opens-seen c.args.self.now c.see.new.self raw (message_view c.args.message) means c.if-self.false c.in_ok-see.field-0 c.in_ok-see.ensures.shows

pub returns-clause-hears : goal.returns-clause-hears
returns-clause-hears c raw means = opening-heard c.args.self.now c.see.new.self raw (message_view c.args.message) means c.in_ok-see.field-0 c.in_ok-see.ensures.shows
