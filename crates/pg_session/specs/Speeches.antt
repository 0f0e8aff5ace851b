-- What the commands of scripts say: their dialogues, and what is kept of their answers.
use Rattle.std.specs.Prelude.{◌≡◌, ℕ, Bool, false, true, IsTrue, IsFalse, ◌==◌, List, [], ◌∷◌, Result}
use Rattle.std.specs.Str.{byte}
use Rattle.pg_types.specs.declared.error.Error.{Error}
use Rattle.pg_spec.specs.RawMessages.{RawMessage, bytes_left, messages}
use Rattle.pg_spec.specs.Sent.{ends_unit, gives_turn, is_terminate}
use Rattle.pg_query.specs.Dialogue.{Dialogue, Answer, Ask, Send, Leave, Read, Put, Finish, Close, HangUp, Call, Hear, fits}
use Rattle.pg_query.specs.Leaving.{LetsGo, Nothing}
use Rattle.pg_query.specs.declared.desk_call.DeskCall.{DeskCall}
use Rattle.pg_query.specs.declared.desk_call.Reply.{Reply}
use Rattle.pg_spec.specs.Dialogues.{Answers, behind}
use Rattle.pg_spec.specs.Meanings.{Ending, Meaning}
use Rattle.pg_core.specs.Counters.{tells}
use Rattle.pg_core.specs.Outcomes.{asked}
use Rattle.pg_core.specs.Times.{IsCommand}

-- What commands `C` say, as their states do: states answer `T`, of which a session keeps `A`, and a script keeps `E` between its commands.
pub record Speech (C T A E : Type 0) : Type 0 where
  -- what a script keeps before its first command
  pub begins : E
  -- the dialogue of a command, by what its script keeps
  pub says : E → C → Dialogue T
  -- what is kept of its answer
  pub ends : E → C → Result T Error → Ending A E

-- the meaning of its commands, in the words of a course
abbrev pub meaning_of : {C T A E : Type 0} → Speech C T A E → Meaning C A E DeskCall Reply
meaning_of speech = record {
  begins = speech.begins;
  asks = λ own c. behind (asked (speech.says own c)) (λ r. Answers (speech.ends own c r));
  tells = tells;
}

-- Each of its dialogues is one that the core takes.
abbrev pub AreCommands : {C T A E : Type 0} → Speech C T A E → Type 0
AreCommands {C} {T} {A} {E} speech = (own : E) (c : C) → IsCommand (speech.says own c)

-- FunctionCall, which has a ReadyForQuery of its own (PostgreSQL documentation, "Message Flow": "Function Call")
abbrev pub calls_function : RawMessage → Bool
calls_function frame = frame.tag == byte "F"

-- Of these frames the last is Sync, and no other gives the server the turn, is Terminate or FunctionCall. A server that refuses one of
-- them skips up to that Sync, and answers it by one ReadyForQuery, where none of them opens a copy from the client (PostgreSQL
-- documentation, "Message Flow": "Extended Query").
abbrev pub EndsInSync : List RawMessage → Type 0
EndsInSync [] = ⊥
EndsInSync (frame ∷ []) = IsTrue (frame.tag == byte "S")
EndsInSync (frame ∷ next ∷ frames) = IsFalse (gives_turn frame) × IsFalse (is_terminate frame) × IsFalse (calls_function frame) × EndsInSync (next ∷ frames)

-- Query or Sync alone, or frames that end in Sync (PostgreSQL documentation, "Message Flow": "Simple Query", "Extended Query")
abbrev pub EndsAlone : List RawMessage → Type 0
EndsAlone [] = ⊥
EndsAlone (frame ∷ []) = IsTrue (ends_unit frame)
EndsAlone (frame ∷ next ∷ frames) = EndsInSync (frame ∷ next ∷ frames)

-- a request that is booked whole
pub record IsWholeRequest (part : List ℕ) : Type 0 where
  pub whole : bytes_left part ≡ []
  pub frames : EndsAlone (messages part)

-- every request of a dialogue is one, and none is a copy
abbrev pub BooksWhole : {T : Type 0} → Dialogue T → Type 0
BooksWhole (Answer r) = Unit {0}
BooksWhole (Ask copying part d) = IsWholeRequest part × (copying ≡ false) × BooksWhole d
BooksWhole (Send part refused d) = IsWholeRequest part × ((e : Error) → BooksWhole (refused e)) × BooksWhole d
BooksWhole (Leave id d) = BooksWhole d
BooksWhole (Read cleanup decides next) = (ms : List RawMessage) → BooksWhole (next ms)
BooksWhole (Put cleanup part d) = ⊥
BooksWhole (Finish part d) = ⊥
BooksWhole (Close part d) = ⊥
BooksWhole (HangUp d) = BooksWhole d
BooksWhole (Call q refused next) = ((e : Error) → BooksWhole (refused e)) × ((r : Reply) → fits q r ≡ true → BooksWhole (next r))
BooksWhole (Hear next) = (r : Reply) → BooksWhole (next r)

-- and so of each command
abbrev pub BookWhole : {C T A E : Type 0} → Speech C T A E → Type 0
BookWhole {C} {T} {A} {E} speech = (own : E) (c : C) → BooksWhole (speech.says own c)

-- each request that a command books is let go
abbrev pub LetGo : {C T A E : Type 0} → Speech C T A E → Type 0
LetGo {C} {T} {A} {E} speech = (own : E) (c : C) → LetsGo Nothing (speech.says own c)
