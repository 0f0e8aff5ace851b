use Rattle.pg_wire.specs.Messages.{message_view}
use Rattle.pg_streams.proofs.Rows.{gives-seen, rows-heard}
use Rattle.pg_streams.proofs.row_giving.RowGivingGiving.message.Goals as goal

pub returns-clause-gives : goal.returns-clause-gives
returns-clause-gives c raw means = gives-seen c.args.self.now c.see.new.self raw (message_view c.args.message) means c.see.result c.see.ensures.shows

pub returns-clause-hears : goal.returns-clause-hears
returns-clause-hears c raw means = rows-heard c.args.self.now c.see.new.self raw (message_view c.args.message) means c.see.result c.see.ensures.shows
