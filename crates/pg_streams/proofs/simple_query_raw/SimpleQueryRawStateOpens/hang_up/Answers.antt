use Rattle.std.proofs.Common.{option_map}
use Rattle.pg_types.specs.Texts.{sql_text}
use Rattle.pg_streams.specs.SimpleStates.{asks_text}
use Rattle.pg_streams.proofs.Asking.{nothing-left, text-cleanup}
use Rattle.pg_streams.proofs.simple_query_raw.SimpleQueryRawStateOpens.hang_up.Goals as goal

pub returns : goal.returns
returns g c =
    let text = option_map sql_text c.args.self.text in
    nothing-left g.D.Desk.becomes g.met.D.Desk.stays c.args.stamp c.args.desk.now (asks_text text) 0 (text-cleanup text)
