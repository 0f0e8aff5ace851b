-- What is said to a frame, part by part.
use Rattle.std.specs.Prelude.{ℕ, Bool, true, false, not, ◌&&◌, ◌==◌, List, [], ◌++◌, if◌then◌else◌}
use Rattle.std.specs.Str.{byte}
use Rattle.pg_machine.specs.declared.serving.Turn.{Turn}
use Rattle.pg_machine.specs.declared.serving.Turn.TheVariants.{Silent, Ready}
use Rattle.pg_machine.specs.declared.tags.Tags.{Tags}
use Rattle.pg_machine.specs.ServingSteps.{ready_bytes}
use Rattle.pg_machine.specs.Tags as tags
use Rattle.pg_server.specs.declared.answer.Answer.{Answer}

-- the handler is asked in this turn
abbrev pub asks : Turn → Bool
asks Silent = false
asks Ready = false
asks turn = true

-- the bytes of an answer
abbrev pub answer_bytes : Answer → List ℕ
answer_bytes answer = answer.reply ++ (if answer.ready then ready_bytes else [])

-- an effect whose reply has these tags may be given to a frame of this tag
abbrev pub sounds : Tags → (tag : ℕ) → (opens : Bool) → Bool
sounds t tag opens = tags.sounds t (tag == byte "E") opens && not (opens && t.again)
