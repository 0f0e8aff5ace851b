-- All that a session over a server of the repository promises.
use Rattle.std.specs.Prelude.{◌≡◌, List, Result, IfOk}
use Rattle.pg_types.specs.declared.error.Error.{Error}
use Rattle.pg_spec.specs.Report as said
use Rattle.pg_text.specs.Views.{as_scripts}
use Rattle.pg_text.specs.declared.command.Command.{Command}
use Rattle.pg_text.specs.declared.report.Report as told
use Rattle.pg_machine.specs.MachineLinks as machine_links
use Rattle.pg_server.specs.Handlers.{Step}
use Rattle.pg_server.specs.ServerLinks as server_links
use Rattle.pg_tool.specs.SessionContract.{SessionContract, SessionResult, ToldSimply}
use Rattle.pg_served.specs.Conforming.{HasNoneBehind, MachineMustEndWell, ServerMustEndWell}
use Rattle.pg_served.specs.Runs.{Asked, AskedOf, FailsByServer, HasItsFault, IsSession, MachineOneAtATime, ServesOneAtATime, call_over_machine, call_over_server, with_scripts}

-- A session of simple queries over a link to a server, before it and behind it.
pub record SimplyOverServer {S : Type 0} (step : Step S) (asked : Asked) (old new : server_links.Served S) (result : SessionResult) : Type 0 where
  -- all that any session of these promises of its link
  pub session : SessionContract (call_over_server step asked old new) result
  pub replies : IfOk result (ServesOneAtATime step asked old new)
  pub no_fault : IfOk result (HasNoneBehind step asked old new)
  pub must_end_well : ServerMustEndWell step asked old new result

-- A session over a link to a server, before it and behind it.
pub record OverServer {S : Type 0} (step : Step S) (asked : AskedOf Command) (old new : server_links.Served S) (result : Result told.Report Error) : Type 0 where
  -- all that any session promises of its link
  pub session : IsSession asked (server_links.link_of step old) (server_links.link_of step new) result
  -- it fails for its link only where the server has a fault, which follows from the bytes taken
  pub fault : FailsByServer new result
  pub its_fault : HasItsFault step old new
  pub simply : (scripts : List (List said.Command)) → asked.scripts ≡ as_scripts scripts → ToldSimply result (SimplyOverServer step (with_scripts asked scripts) old new)

-- A session of simple queries over a link to a machine, before it and behind it.
pub record SimplyOverMachine (asked : Asked) (old new : machine_links.Served) (result : SessionResult) : Type 0 where
  pub session : SessionContract (call_over_machine asked old new) result
  pub replies : IfOk result (MachineOneAtATime asked old new)
  pub must_end_well : MachineMustEndWell asked old new result

-- A session over a link to a machine, before it and behind it.
pub record OverMachine (asked : AskedOf Command) (old new : machine_links.Served) (result : Result told.Report Error) : Type 0 where
  pub session : IsSession asked (machine_links.link_of old) (machine_links.link_of new) result
  pub simply : (scripts : List (List said.Command)) → asked.scripts ≡ as_scripts scripts → ToldSimply result (SimplyOverMachine (with_scripts asked scripts) old new)
