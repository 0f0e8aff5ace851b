use Rattle.pg_table.proofs.SimpleMeans.{are-commands}
use Rattle.pg_table.proofs.SimpleMeans.{book-whole}
use Rattle.pg_table.proofs.SimpleMeans.{are-simple}
use Rattle.pg_table.proofs.SimpleMeans.{let-go}
use Rattle.pg_table.proofs.laws.the_table_is_of_commands.Goals as goal

pub returns-clause-commands : goal.returns-clause-commands
returns-clause-commands c = are-commands

pub returns-clause-whole : goal.returns-clause-whole
returns-clause-whole c = book-whole

pub returns-clause-let_go : goal.returns-clause-let_go
returns-clause-let_go c = let-go

pub returns-clause-simple : goal.returns-clause-simple
returns-clause-simple c = are-simple
