-- A command whose answer is told in other words.
use Rattle.std.specs.Prelude.{Result, Ok, Err}
use Rattle.pg_types.specs.declared.error.Error.{Error}
use Rattle.pg_query.specs.Dialogue.{Dialogue, Answer, Ask, Send, Leave, Read, Put, Finish, Close, HangUp, Call, Hear}
use Rattle.pg_query.specs.Meaning.{Place}

-- an answer in these words; an error stays as it is
abbrev pub mapped_answer : {T U : Type 0} → (T → U) → Result T Error → Result U Error
mapped_answer f (Ok x) = Ok (f x)
mapped_answer f (Err e) = Err e

-- a dialogue that asks the same, and answers in these words
abbrev pub mapped : {T U : Type 0} → (T → U) → Dialogue T → Dialogue U
mapped f (Answer r) = Answer (mapped_answer f r)
mapped f (Ask copying part d) = Ask copying part (mapped f d)
mapped f (Send part refused d) = Send part (λ e. mapped f (refused e)) (mapped f d)
mapped f (Leave id d) = Leave id (mapped f d)
mapped f (Read cleanup decides next) = Read cleanup decides (λ ms. mapped f (next ms))
mapped f (Put cleanup part d) = Put cleanup part (mapped f d)
mapped f (Finish part d) = Finish part (mapped f d)
mapped f (Close part d) = Close part (mapped f d)
mapped f (HangUp d) = HangUp (mapped f d)
mapped f (Call q refused next) = Call q (λ e. mapped f (refused e)) (λ r. mapped f (next r))
mapped f (Hear next) = Hear (λ r. mapped f (next r))

-- where it stands
abbrev pub mapped_place : {T U : Type 0} → (T → U) → Place T → Place U
mapped_place f p = record { dialogue = mapped f p.dialogue; reads = p.reads }
