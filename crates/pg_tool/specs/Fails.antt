-- How a session of the table fails, and that it was played.
use Rattle.std.specs.Prelude.{◌≡◌, ℕ, List}
use Rattle.pg_spec.specs.Links.{LinkView}
use Rattle.pg_spec.specs.Settings.{Settings}
use Rattle.pg_types.specs.declared.error.Error.{Error}
use Rattle.pg_text.specs.declared.command.Command.{Command}
use Rattle.pg_text.specs.declared.report.Report.{Report}
use Rattle.pg_table.specs.Headlines.{told_in}
use Rattle.pg_table.specs.Table.{table}
use Rattle.pg_play.specs.Fails as any

abbrev pub SessionFails : (settings : Settings) (nonce : List ℕ) (scripts : List (List Command)) (limit : ℕ) (before after : LinkView) → Error → Type 0
SessionFails settings nonce scripts limit before after e = any.SessionFails table settings nonce scripts limit before after e

abbrev pub PlaysWithin : (settings : Settings) (nonce : List ℕ) (scripts : List (List Command)) (given : List ℕ) (limit : ℕ) (before after : LinkView) → Report → Type 0
PlaysWithin settings nonce scripts given limit before after report = any.PlaysWithin table settings nonce scripts given limit before after (told_in report)
