-- A command of whose value something is made.
use Rattle.std.specs.Prelude.{◌≡◌, ◌⊎◌, Result, Ok, Err}
use Rattle.pg_types.specs.declared.error.Error.{Error}
use Rattle.pg_types.specs.declared.error.Error.TheVariants.{OutOfMemory}
use Rattle.pg_query.specs.Dialogue.{Dialogue, Answer, Ask, Send, Leave, Read, Put, Finish, Close, HangUp, Call, Hear}
use Rattle.pg_query.specs.Meaning.{Place}

-- what is made of a value is the answer; an error stays as it is
abbrev pub made_answer : {T U : Type 0} → (T → Result U Error) → Result T Error → Result U Error
made_answer f (Ok x) = f x
made_answer f (Err e) = Err e

-- a dialogue that asks the same, and answers what is made of its value
abbrev pub made : {T U : Type 0} → (T → Result U Error) → Dialogue T → Dialogue U
made f (Answer r) = Answer (made_answer f r)
made f (Ask copying part d) = Ask copying part (made f d)
made f (Send part refused d) = Send part (λ e. made f (refused e)) (made f d)
made f (Leave id d) = Leave id (made f d)
made f (Read cleanup decides next) = Read cleanup decides (λ ms. made f (next ms))
made f (Put cleanup part d) = Put cleanup part (made f d)
made f (Finish part d) = Finish part (made f d)
made f (Close part d) = Close part (made f d)
made f (HangUp d) = HangUp (made f d)
made f (Call q refused next) = Call q (λ e. made f (refused e)) (λ r. made f (next r))
made f (Hear next) = Hear (λ r. made f (next r))

-- where it stands
abbrev pub made_place : {T U : Type 0} → (T → Result U Error) → Place T → Place U
made_place f p = record { dialogue = made f p.dialogue; reads = p.reads }

-- this is told, or memory lacks
abbrev pub TellsOrLacks : {A : Type 0} → (wanted told : Result A Error) → Type 0
TellsOrLacks wanted told = (told ≡ wanted) ⊎ (told ≡ Err OutOfMemory)
