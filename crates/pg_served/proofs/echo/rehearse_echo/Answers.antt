use Rattle.pg_server.specs.Echoes.{echo_step}
use Rattle.pg_server.specs.ServerLinks.{Served, served_of}
use Rattle.pg_served.specs.Rehearsals.{Around}
use Rattle.pg_served.proofs.Faulting.{fails-by-server, its-fault}
use Rattle.pg_served.proofs.echo.rehearse_echo.Goals as goal

pub returns-clause-fault : goal.returns-clause-fault
returns-clause-fault g c =
    let old : Served (Unit {0}) = served_of (λ _. tt) c.args.link.now in
    let new : Served (Unit {0}) = served_of (λ _. tt) c.rehearse-outcome.new.link in
    let around : Around = record {
      source_before = g.S.Source.state c.args.source.now;
      source_after = g.S.Source.state c.rehearse-outcome.new.source;
      sink_before = g.K.Sink.state c.args.sink.now;
      sink_after = g.K.Sink.state c.rehearse-outcome.new.sink;
      status = c.rehearse-outcome.result.status;
      result = c.rehearse-outcome.result.result;
    } in
    fails-by-server echo_step old new around c.fault_law.ensures c.rehearse-outcome.ensures

pub returns-clause-its_fault : goal.returns-clause-its_fault
returns-clause-its_fault g c =
    let old : Served (Unit {0}) = served_of (λ _. tt) c.args.link.now in
    let new : Served (Unit {0}) = served_of (λ _. tt) c.rehearse-outcome.new.link in
    let around : Around = record {
      source_before = g.S.Source.state c.args.source.now;
      source_after = g.S.Source.state c.rehearse-outcome.new.source;
      sink_before = g.K.Sink.state c.args.sink.now;
      sink_after = g.K.Sink.state c.rehearse-outcome.new.sink;
      status = c.rehearse-outcome.result.status;
      result = c.rehearse-outcome.result.result;
    } in
    its-fault echo_step old new around c.bytes_law.ensures c.rehearse-outcome.ensures
