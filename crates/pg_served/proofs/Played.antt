-- What a session over a link promises, said of a link to a server, or to a machine.
use Rattle.std.proofs.Common.{◌≡◌, true, List, Result, Ok, Err, subst}
use Rattle.pg_types.specs.declared.error.Error.{Error}
use Rattle.pg_promises.specs.Calls.{apart}
use Rattle.pg_promises.specs.Causes.{HasCause}
use Rattle.pg_spec.specs.Faults as errors
use Rattle.pg_spec.specs.Report as said
use Rattle.pg_text.specs.Views.{as_scripts}
use Rattle.pg_text.specs.declared.command.Command.{Command}
use Rattle.pg_text.specs.declared.report.Report.{Report}
use Rattle.pg_wire.specs.Memory.{as_count}
use Rattle.pg_machine.specs.Machines.{IsMachine}
use Rattle.pg_machine.specs.MachineLinks as machine_links
use Rattle.pg_server.specs.ByteLists.{are_bytes}
use Rattle.pg_server.specs.Handlers.{Step}
use Rattle.pg_server.specs.ServerLinks as server_links
use Rattle.pg_tool.specs.SessionContract.{SessionContract, ToldSimply}
use Rattle.pg_tool.specs.TableContract.{table_call}
use Rattle.pg_served.specs.Promised.{OverMachine, OverServer}
use Rattle.pg_served.specs.Runs.{AskedOf, FailsByServer, TableSession, WasPlayed, call_over_machine, call_over_server, with_scripts}
use Rattle.pg_served.proofs.EndingMachine.{machine-ends}
use Rattle.pg_served.proofs.EndingServer.{has-fault, its-fault, server-calm, server-ends}
use Rattle.pg_served.proofs.Running.{machine-alone, serves-alone}

any-fails : {S : Type 0} (step : Step S) (asked : AskedOf Command) (old new : server_links.Served S) (result : Result Report Error) → server_links.FailsByFault new →
    TableSession asked (server_links.link_of step old) (server_links.link_of step new) result → FailsByServer new result
any-fails step asked old new (Ok report) fails by_table is = absurd cc
any-fails step asked old new (Err f) fails by_table is =
    let same : f ≡ errors.Io errors.Link = cc in
    has-fault new (as_count old.crossed.faults) fails
    (subst (HasCause (apart (table_call asked.config asked.nonce asked.scripts asked.turns asked.limit (server_links.link_of step old) (server_links.link_of step new)))) same by_table.cause)

pub server-session : {S : Type 0} (step : Step S) (asked : AskedOf Command) (old new : server_links.Served S) (result : Result Report Error) → server_links.FailsByFault new → are_bytes new.crossed.taken ≡ true →
    ((scripts : List (List said.Command)) → asked.scripts ≡ as_scripts scripts → ToldSimply result (SessionContract (call_over_server step (with_scripts asked scripts) old new))) →
    TableSession asked (server_links.link_of step old) (server_links.link_of step new) result → WasPlayed asked (server_links.link_of step old) (server_links.link_of step new) result →
    OverServer step asked old new result
server-session step asked old new result fails bytes simply by_table played = record {
  session = record { by_table = by_table; played = played };
  fault = any-fails step asked old new result fails by_table;
  its_fault = its-fault step old new bytes by_table.link;
  simply = λ scripts are.
      let told = simply scripts are in
      let mine = with_scripts asked scripts in
      record {
        simple = told.simple;
        said_so = told.said_so;
        holds = record {
          session = told.holds;
          replies = serves-alone step mine old new told.simple told.holds;
          no_fault = server-calm step mine old new told.simple bytes told.holds;
          must_end_well = server-ends step mine old new told.simple fails bytes told.holds;
        };
      };
}

pub machine-session : (asked : AskedOf Command) (old new : machine_links.Served) (result : Result Report Error) → IsMachine old.table →
    ((scripts : List (List said.Command)) → asked.scripts ≡ as_scripts scripts → ToldSimply result (SessionContract (call_over_machine (with_scripts asked scripts) old new))) →
    TableSession asked (machine_links.link_of old) (machine_links.link_of new) result → WasPlayed asked (machine_links.link_of old) (machine_links.link_of new) result →
    OverMachine asked old new result
machine-session asked old new result is simply by_table played = record {
  session = record { by_table = by_table; played = played };
  simply = λ scripts are.
      let told = simply scripts are in
      let mine = with_scripts asked scripts in
      record {
        simple = told.simple;
        said_so = told.said_so;
        holds = record {
          session = told.holds;
          replies = machine-alone mine old new told.simple is told.holds;
          must_end_well = machine-ends mine old new told.simple is told.holds;
        };
      };
}
