use Rattle.pg_wire.specs.Messages.{message_view}
use Rattle.pg_streams.proofs.Parts.{gives-seen, parts-heard}
use Rattle.pg_streams.proofs.simple_giving.SimpleGivingGiving.message.Goals as goal

pub returns-clause-gives : goal.returns-clause-gives
returns-clause-gives c raw means = gives-seen c.args.self.now c.see.new.self raw (message_view c.args.message) means c.in_ok-see.field-0 c.in_ok-see.ensures

pub returns-clause-hears : goal.returns-clause-hears
returns-clause-hears c raw means = parts-heard c.args.self.now c.see.new.self raw (message_view c.args.message) means c.in_ok-see.field-0 c.in_ok-see.ensures
