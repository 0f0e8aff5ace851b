-- What a script keeps between its commands: its prepared statements by the numbers of their slots, and the levels of its transaction that are open.
use Rattle.std.specs.Prelude.{[]}
use Rattle.pg_table.specs.declared.own.Own.{Own}

-- nothing, before its first command
abbrev pub nothing_kept : Own
nothing_kept = record { slots = []; levels = [] }
