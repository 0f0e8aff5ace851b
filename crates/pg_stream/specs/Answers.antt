-- What a reader or a writer answered, and what a link answers by it.
use Rattle.std.specs.Prelude.{◌≡◌, ◌≢◌, ◌+◌, ◌≤◌, ◌==◌, if◌then◌else◌, ℕ, Bool, false, List, [], length, take, Ok, Err, Option, Result}
use Rattle.std.specs.Option.{ForSome}
use Rattle.std.specs.Io.KnownBytes.{Appends, Consumes, Keeps}
use Rattle.pg_spec.specs.Links.{next_count}
use Rattle.std.specs.IoError.{error_kind}
use Rattle.std.specs.declared.io.Error.{Error}
use Rattle.std.specs.declared.io.ErrorKind.{ErrorKind}
use Rattle.std.specs.declared.io.ErrorKind.TheVariants as kinds
use Rattle.pg_stream.specs.declared.heard.Heard.{Heard}
use Rattle.pg_stream.specs.declared.heard.Heard.TheVariants.{Nothing, Done, WouldBlock, Interrupted, Failed}
use Rattle.pg_wire.specs.declared.link.LinkWrite.{LinkWrite}
use Rattle.pg_wire.specs.declared.link.LinkWrite.TheVariants as writes
use Rattle.pg_wire.specs.declared.link.LinkStep.{LinkStep}
use Rattle.pg_wire.specs.declared.link.LinkStep.TheVariants as steps
use Rattle.pg_wire.specs.declared.link.LinkWait.{LinkWait}
use Rattle.pg_wire.specs.declared.link.LinkWait.TheVariants as waits

-- an error of this kind is heard as this
abbrev pub IsHeardAs : ErrorKind → Heard → Type 0
IsHeardAs kind Nothing = ⊥
IsHeardAs kind (Done n) = ⊥
IsHeardAs kind WouldBlock = kind ≡ kinds.WouldBlock
IsHeardAs kind Interrupted = kind ≡ kinds.Interrupted
IsHeardAs kind Failed = (kind ≢ kinds.WouldBlock) × (kind ≢ kinds.Interrupted)

-- an answer is heard as this
abbrev pub Hears : {T : Type 0} → (T → ℕ) → Result T Error → Heard → Type 0
Hears count (Ok value) heard = heard ≡ Done (count value)
Hears count (Err e) heard = IsHeardAs (error_kind e) heard

-- a read came to the end: it gave no byte
abbrev pub is_end : Heard → Bool
is_end (Done n) = n == 0
is_end other = false

-- what a write answers: one that takes nothing failed, and one that was interrupted isn't ready
abbrev pub write_answer : Heard → LinkWrite
write_answer (Done n) = if n == 0 then writes.Failed else writes.Took n
write_answer WouldBlock = writes.NotReady
write_answer Interrupted = writes.NotReady
write_answer other = writes.Failed

-- what a flush or a shutdown answers
abbrev pub step_answer : Heard → LinkStep
step_answer (Done n) = steps.Done
step_answer WouldBlock = steps.NotReady
step_answer Interrupted = steps.NotReady
step_answer other = steps.Failed

-- what a wait answers: bytes and the end are ready
abbrev pub wait_answer : Heard → LinkWait
wait_answer (Done n) = waits.Ready
wait_answer WouldBlock = waits.Idle
wait_answer other = waits.Failed

-- a reader whose bytes are known has none left
abbrev pub IsEmptied : Option (List ℕ) → Type 0
IsEmptied left = ForSome left (λ bytes. bytes ≡ [])

-- A read that was heard so gave a front of what the reader had left, none only at its end; else nothing was read.
abbrev pub GivesHeard : (old new : Option (List ℕ)) → Heard → (out : List ℕ) → Type 0
GivesHeard old new (Done n) out = (n ≤ length out) × Consumes old new (take n out) × (n ≡ 0 → IsEmptied new)
GivesHeard old new other out = Keeps old new

-- A write that was heard so took a front of the bytes, or nothing.
abbrev pub TakesHeard : (old new : Option (List ℕ)) → Heard → (bytes : List ℕ) → Type 0
TakesHeard old new (Done n) bytes = (n ≤ length bytes) × Appends old new (take n bytes)
TakesHeard old new other bytes = Keeps old new

-- how often a wait was interrupted
abbrev pub interrupted_by : Heard → ℕ → ℕ
interrupted_by Interrupted n = next_count n
interrupted_by other n = n

-- Of the reads of one wait all but the last were interrupted; seventeen are made at most, and all of these where the
-- last one was interrupted too.
abbrev pub IsSettled : (asked interrupted : ℕ) → Heard → Type 0
IsSettled asked interrupted Interrupted = (asked ≡ 17) × (interrupted ≡ 17)
IsSettled asked interrupted other = (asked ≡ interrupted + 1) × (asked ≤ 17)

-- a reader gave these bytes, none only at its end; else there are none, and nothing was read
abbrev pub HoldsHeard : (old new : Option (List ℕ)) → Heard → (held : List ℕ) → Type 0
HoldsHeard old new (Done n) held = (length held ≡ n) × Consumes old new held × (n ≡ 0 → IsEmptied new)
HoldsHeard old new other held = (held ≡ []) × Keeps old new
