-- Commands that leave nothing to choose.
use Rattle.std.specs.Prelude.{List}
use Rattle.pg_spec.specs.RawMessages.{RawMessage}
use Rattle.pg_spec.specs.Dialogues.{Dialogue, Answers, Asks, Sends, Reads, Puts, Closes, Calls}

-- no part waits for room, whatever is read and whatever the desk may tell
abbrev pub PutsNone : {Q R A : Type 0} → (tells : List Q → Q → R) → Dialogue Q R A → Type 0
PutsNone tells (Answers a) = Unit {0}
PutsNone tells (Asks copying part d) = PutsNone tells d
PutsNone tells (Sends part d) = PutsNone tells d
PutsNone tells (Reads decides next) = (ms : List RawMessage) → PutsNone tells (next ms)
PutsNone tells (Puts part d) = ⊥
PutsNone tells (Closes part d) = PutsNone tells d
PutsNone {Q = Q} tells (Calls q next) = (before : List Q) → PutsNone tells (next (tells before q))
