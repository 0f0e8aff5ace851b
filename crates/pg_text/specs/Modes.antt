-- The modes of a transaction, as words of a line.
use Rattle.std.specs.Prelude.{ℕ, Bool, true, false, List, ◌++◌, codes}
use Rattle.pg_steps.specs.Transactions.{spelled}
use Rattle.pg_steps.specs.declared.modes.IsolationLevel.{IsolationLevel}
use Rattle.pg_steps.specs.declared.modes.IsolationLevel.TheVariants.{ReadUncommitted, ReadCommitted, RepeatableRead, Serializable}
use Rattle.pg_steps.specs.declared.modes.Modes.{Modes}

-- the word of a level of isolation
abbrev pub level_word : IsolationLevel → List ℕ
level_word ReadUncommitted = codes "uncommitted"
level_word ReadCommitted = codes "committed"
level_word RepeatableRead = codes "repeatable"
level_word Serializable = codes "serializable"

-- whether the transaction may write
abbrev pub access_word : (read_only : Bool) → List ℕ
access_word true = codes "ro"
access_word false = codes "rw"

-- whether it waits at its begin
abbrev pub deferral_word : (deferrable : Bool) → List ℕ
deferral_word true = codes "def"
deferral_word false = codes "notdef"

-- the words of the modes that are given, in this order
abbrev pub mode_words : Modes → List (List ℕ)
mode_words m = spelled level_word m.isolation_level ++ spelled access_word m.read_only ++ spelled deferral_word m.deferrable
