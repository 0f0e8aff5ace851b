-- How the worked commands read replies. None is a failure; which one doesn't matter here.
use Rattle.std.specs.Prelude.{ℕ, List, [], ◌∷◌, ◌++◌, map, Option, Some, None, is_some, option_map, Result, Ok, Err}
use Rattle.pg_spec.specs.Bodies.{Field, fields_of, cells_of}
use Rattle.pg_spec.specs.Faults.{WireFault}
use Rattle.pg_spec.specs.Messages.{Message, ReadyForQuery, RowDescription, DataRow, CommandComplete, ParseComplete, BindComplete, NoData, ParameterDescription, CopyInResponse, message_of}
use Rattle.pg_spec.specs.RawMessages.{RawMessage}
use Rattle.pg_spec.specs.Readings.{Next, GoesOn, Answers, decision}
use Rattle.pg_spec.specs.SimpleQuery.{affected}
use Rattle.pg_spec.specs.Dialogues as dialogue
use Rattle.pg_promises.specs.Words.{Question, Told}

-- a dialogue that ends in a value or a failure
abbrev pub Talk : Type 0 → Type 0
Talk T = dialogue.Dialogue Question Told (Option T)

-- a row's values
abbrev pub Cells : Type 0
Cells = List (Option (List ℕ))

-- a message that can't be read is a failure
abbrev pub of_raw : {S A : Type 0} → (S → Message → Next S (Option A)) → S → RawMessage → Next S (Option A)
of_raw next state raw = elim (message_of raw) [ Ok message ↦ next state message | Err fault ↦ Answers None ]

-- what the messages tell by these steps, once they tell it
abbrev pub told_by : {S A : Type 0} → (S → Message → Next S (Option A)) → S → List RawMessage → Option (Option A)
told_by next state ms = option_map (λ d. d.answer) (decision (λ s. None) (of_raw next) state ms)

-- a failure, where nothing was told
abbrev pub told_or : {A : Type 0} → Option (Option A) → Option A
told_or None = None
told_or (Some r) = r

-- a reply is read by these steps
abbrev pub reads : {S A : Type 0} → (S → Message → Next S (Option A)) → S → Talk A
reads next state = dialogue.Reads (λ ms. is_some (told_by next state ms)) (λ ms. dialogue.Answers (told_or (told_by next state ms)))

-- ---- the steps

-- the oids of a statement's columns
abbrev pub oids_in : Result (List Field) WireFault → Option (List ℕ)
oids_in (Ok fields) = Some (map (λ f. f.type_oid) fields)
oids_in (Err fault) = None

-- a statement is described
abbrev pub described : Unit {0} → Message → Next (Unit {0}) (Option (List ℕ))
described u ParseComplete = GoesOn tt
described u (ParameterDescription count oids) = GoesOn tt
described u (RowDescription count fields) = Answers (oids_in (fields_of count fields))
described u NoData = Answers (Some [])
described u other = Answers None

-- a row more
abbrev pub with_row : List Cells → Result Cells WireFault → Next (List Cells) (Option (List Cells))
with_row rows (Ok cells) = GoesOn (rows ++ cells ∷ [])
with_row rows (Err fault) = Answers None

-- rows, up to ReadyForQuery
abbrev pub all_rows : List Cells → Message → Next (List Cells) (Option (List Cells))
all_rows rows BindComplete = GoesOn rows
all_rows rows (DataRow count cells) = with_row rows (cells_of count cells)
all_rows rows (CommandComplete tag) = GoesOn rows
all_rows rows (ReadyForQuery status) = Answers (Some rows)
all_rows rows other = Answers None

-- the text in a row's first column
abbrev pub first_text : Result Cells WireFault → Option (List ℕ)
first_text (Ok (Some text ∷ cells)) = Some text
first_text other = None

-- a type's name, in the first row
abbrev pub found : Unit {0} → Message → Next (Unit {0}) (Option (List ℕ))
found u (RowDescription count fields) = GoesOn tt
found u (DataRow count cells) = Answers (first_text (cells_of count cells))
found u other = Answers None

-- a copy is opened
abbrev pub opened : Unit {0} → Message → Next (Unit {0}) (Option (Unit {0}))
opened u BindComplete = GoesOn tt
opened u CopyInResponse = Answers (Some tt)
opened u other = Answers None

-- the rows that a command affected
abbrev pub counted : Unit {0} → Message → Next (Unit {0}) (Option ℕ)
counted u (CommandComplete tag) = Answers (Some (affected tag))
counted u other = Answers None
