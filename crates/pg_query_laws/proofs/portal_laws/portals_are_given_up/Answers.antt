use Rattle.pg_execute.specs.Executes.{close_part}
use Rattle.pg_query_laws.proofs.PortalCommands.{bind-closed, bind-released, rows-released}
use Rattle.pg_query_laws.proofs.portal_laws.portals_are_given_up.Goals as goal

pub returns-clause-binds : goal.returns-clause-binds
returns-clause-binds c = bind-released

pub returns-clause-text_binds : goal.returns-clause-text_binds
returns-clause-text_binds c = λ closes vs s part is. bind-closed closes vs s part (close_part s.name) is

pub returns-clause-queries : goal.returns-clause-queries
returns-clause-queries c = rows-released
