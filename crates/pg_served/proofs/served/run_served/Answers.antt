use Rattle.pg_server.specs.ServerLinks.{served_of}
use Rattle.pg_text.specs.declared.command.Command.{Command}
use Rattle.pg_served.specs.Runs.{AskedOf}
use Rattle.pg_served.proofs.Played.{server-session}
use Rattle.pg_served.proofs.served.run_served.Goals as goal

pub returns : goal.returns
returns g c =
    let asked : AskedOf Command = record {
      config = c.args.config.now;
      nonce = c.args.nonce.now;
      scripts = c.args.scripts.now;
      turns = c.args.turns.now;
      limit = c.args.max_bytes;
    } in
    server-session g.H.Handler.step asked (served_of g.H.Handler.state c.args.link.now) (served_of g.H.Handler.state c.run_session-result.new.link) c.run_session-result.result
    c.fault_law.ensures c.bytes_law.ensures c.run_session-result.ensures.simply c.run_session-result.ensures.by_table c.run_session-result.ensures.played
