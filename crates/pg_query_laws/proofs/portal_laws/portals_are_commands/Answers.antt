use Rattle.pg_query_laws.proofs.PortalCommands.{bind-taken, binds-taken, closes-taken, queries-taken}
use Rattle.pg_query_laws.proofs.portal_laws.portals_are_commands.Goals as goal

pub returns-clause-binds : goal.returns-clause-binds
returns-clause-binds c = binds-taken

pub returns-clause-targets : goal.returns-clause-targets
returns-clause-targets c = bind-taken

pub returns-clause-queries : goal.returns-clause-queries
returns-clause-queries c = queries-taken

pub returns-clause-closes : goal.returns-clause-closes
returns-clause-closes c = closes-taken
