use Rattle.pg_text.specs.declared.command.Command.{Command}
use Rattle.pg_served.specs.Runs.{AskedOf}
use Rattle.pg_served.proofs.Played.{machine-session}
use Rattle.pg_served.proofs.served.run_over_machine.Goals as goal

pub returns : goal.returns
returns c =
    let asked : AskedOf Command = record {
      config = c.args.config.now;
      nonce = c.args.nonce.now;
      scripts = c.args.scripts.now;
      turns = c.args.turns.now;
      limit = c.args.max_bytes;
    } in
    machine-session asked c.args.link.now c.run_session.new.link c.run_session.result c.rules_law.ensures c.run_session.ensures.simply c.run_session.ensures.by_table c.run_session.ensures.played
