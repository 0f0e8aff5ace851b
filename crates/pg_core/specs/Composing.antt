-- Questions and requests of a dialogue. How one stands behind another's value says `Behind`.
use Rattle.std.specs.Prelude.{ℕ, List, false, Result, Ok, Err}
use Rattle.pg_spec.specs.Faults.{FrameFault, Encode, Frame}
use Rattle.pg_types.specs.declared.error.Error.{Error}
use Rattle.pg_query.specs.declared.desk_call.DeskCall.{DeskCall}
use Rattle.pg_query.specs.declared.desk_call.Reply.{Reply}
use Rattle.pg_query.specs.Dialogue.{Dialogue, Answer, Ask, Call}

-- a question to the desk; where the desk refuses it, the error is the answer
abbrev pub asks_desk : {T : Type 0} → DeskCall → (Reply → Dialogue T) → Dialogue T
asks_desk q told = Call q (λ e. Answer (Err e)) told

-- a request whose reply is read from here on; where it can't be made, the error is the answer
abbrev pub asks_for : {T : Type 0} → Result (List ℕ) Error → Dialogue T → Dialogue T
asks_for (Ok request) d = Ask false request d
asks_for (Err e) d = Answer (Err e)

-- a request, or the error of a frame that can't be written
abbrev pub or_encode : Result (List ℕ) FrameFault → Result (List ℕ) Error
or_encode (Ok request) = Ok request
or_encode (Err f) = Err (Encode (Frame f))
