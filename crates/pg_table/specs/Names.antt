-- What each command of the table names of what its script keeps: the statement in the slot that it reads, and the levels of its transaction.
use Rattle.std.specs.Prelude.{[], Option, None}
use Rattle.pg_desk.specs.declared.statement.Described.{Described as Statement}
use Rattle.pg_text.specs.declared.command.Command.{Command}
use Rattle.pg_text.specs.declared.command.Command.TheVariants.{Abandon, Batch, Begin, Check, Clear, Close, Commit, Execute, ExecuteTyped, Prepare, Query, QueryOne, QueryOneScalar, QueryOpt, QueryOptScalar, QueryRaw, QueryScalar, QueryTyped, QueryTypedOne, QueryTypedOpt, Rollback, Savepoint, Simple}
use Rattle.pg_text.specs.declared.command.CommandTarget.{CommandTarget}
use Rattle.pg_text.specs.declared.command.CommandTarget.TheVariants.{Slot, Text}
use Rattle.pg_table.specs.Levels.{Levels}
use Rattle.pg_table.specs.Slots.{Slots, statement_in}
use Rattle.pg_table.specs.declared.own.Own.{Own}

-- the statement that a target names
abbrev pub named_by : CommandTarget → Slots → Option Statement
named_by (Slot slot) own = statement_in own slot
named_by (Text text) own = None

-- the statement that a command names: a line for each
abbrev pub named_statement : Command → Slots → Option Statement
named_statement (Simple text take) own = None
named_statement (Batch text) own = None
named_statement Check own = None
named_statement (Prepare slot text types) own = None
named_statement Clear own = None
named_statement (Query to values) own = named_by to own
named_statement (QueryOne to values) own = named_by to own
named_statement (QueryOpt to values) own = named_by to own
named_statement (QueryRaw to take values) own = named_by to own
named_statement (QueryScalar to values) own = named_by to own
named_statement (QueryOneScalar to values) own = named_by to own
named_statement (QueryOptScalar to values) own = named_by to own
named_statement (Execute to values) own = named_by to own
named_statement (QueryTyped asked) own = None
named_statement (QueryTypedOne asked) own = None
named_statement (QueryTypedOpt asked) own = None
named_statement (ExecuteTyped asked) own = None
named_statement (Close slot) own = statement_in own slot
named_statement (Begin modes) own = None
named_statement (Savepoint name) own = None
named_statement Commit own = None
named_statement Rollback own = None
named_statement Abandon own = None

-- the levels that it names: all that are open
abbrev pub named_levels : Command → Levels → Levels
named_levels (Savepoint name) levels = levels
named_levels Commit levels = levels
named_levels Rollback levels = levels
named_levels Abandon levels = levels
named_levels other levels = []

-- what a command names
pub record Named : Type 0 where
  pub statement : Option Statement
  pub levels : Levels

abbrev pub named : Command → Own → Named
named c own = record { statement = named_statement c own.slots; levels = named_levels c own.levels }
