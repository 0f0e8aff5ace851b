-- Where the stream of a simple query stands, and the state that hands it on.
use Rattle.std.specs.Prelude.{◌∷◌, ◌++◌, ℕ, List, [], Bool, Option, Some, None, Result, Err}
use Rattle.pg_spec.specs.RawMessages.{RawMessage}
use Rattle.pg_types.specs.declared.error.Error.{Error}
use Rattle.pg_types.specs.declared.error.Error.TheVariants.{Closed}
use Rattle.pg_query.specs.Dialogue.{Dialogue, Answer}
use Rattle.pg_query.specs.Meaning.{Place}
use Rattle.pg_streams.specs.Collecting.{family_of, place_of}
use Rattle.pg_streams.specs.Families.{Family}
use Rattle.pg_streams.specs.Hearing.{First}
use Rattle.pg_streams.specs.PartTelling.{parts_heard}
use Rattle.pg_streams.specs.SimpleStreams.{parts_from, simple_query_raw}
use Rattle.pg_streams.specs.declared.simple_giving.SimpleGiving.{SimpleGiving}
use Rattle.pg_streams.specs.declared.simple_query_message.SimpleQueryMessage.{SimpleQueryMessage}
use Rattle.pg_streams.specs.declared.simple_query_stream.SimpleQueryStream.{SimpleQueryStream}

-- what the messages from here on tell
abbrev pub parts_told : SimpleGiving → List RawMessage → Option (Result (List SimpleQueryMessage) Error)
parts_told g = parts_from g.columns

-- a part in front of others
abbrev pub with_part : SimpleQueryMessage → List SimpleQueryMessage → List SimpleQueryMessage
with_part part parts = part ∷ parts

-- no part comes behind the end
abbrev pub no_parts : SimpleGiving → List SimpleQueryMessage
no_parts g = []

-- where each stands who has had something before
abbrev pub parts_behind : SimpleQueryStream → Family (List SimpleQueryMessage → List SimpleQueryMessage) (List SimpleQueryMessage) SimpleGiving SimpleQueryMessage
parts_behind s = family_of parts_told parts_heard s.items

-- where one stands who has had nothing yet
abbrev pub parts_place : SimpleQueryStream → Place (List SimpleQueryMessage)
parts_place s = place_of parts_told s.items

-- nothing was told before, and all messages are read next
abbrev pub parts_opened : SimpleQueryStream → List RawMessage → First (Unit {0}) (Unit {0})
parts_opened s more = record { told = None; giving = tt; left = s.items.batch ++ more }

-- the end or an error was given
abbrev pub parts_over : SimpleQueryStream → Bool
parts_over s = s.items.over

-- what is asked for a text
abbrev pub asks_text : Option (List ℕ) → Dialogue (List SimpleQueryMessage)
asks_text (Some text) = simple_query_raw text
asks_text None = Answer (Err Closed)

-- nothing was done yet
abbrev pub IsNew : {A : Type 0} → Option A → Type 0
IsNew (Some x) = Unit {0}
IsNew None = ⊥
