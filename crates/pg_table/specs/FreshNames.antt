-- The names that a session gives what it has the server prepare (PostgreSQL documentation, "Extended Query"; "Message Formats").
use Rattle.std.specs.Prelude.{◌≢◌, ℕ, List, [], ◌∷◌, Option, Some, None, ◌==◌, if◌then◌else◌, AllPairs, filter_map}
use Rattle.std.specs.Str.{byte}
use Rattle.pg_spec.specs.Book.{Booking, wire}
use Rattle.pg_spec.specs.Bytes.{text0_at}
use Rattle.pg_spec.specs.RawMessages.{RawMessage, messages}

-- no two names are equal
abbrev pub AreDistinct : List (List ℕ) → Type 0
AreDistinct names = AllPairs (λ a b. a ≢ b) names

-- a name; the empty one stands for what has none
abbrev pub if_named : Option (List ℕ × List ℕ) → Option (List ℕ)
if_named None = None
if_named (Some ([], rest)) = None
if_named (Some (b ∷ name, rest)) = Some (b ∷ name)

-- the name with which the body of a frame begins: the bytes up to the first zero byte
abbrev pub name_of : RawMessage → Option (List ℕ)
name_of frame = if_named (text0_at frame.body)

-- the name that a frame of this tag gives; another frame gives none
abbrev pub name_by : (tag : ℕ) → RawMessage → Option (List ℕ)
name_by tag frame = if frame.tag == tag then name_of frame else None

-- the names that the frames of this tag in some bytes give, in order
abbrev pub names_by : (tag : ℕ) → List ℕ → List (List ℕ)
names_by tag bytes = filter_map (name_by tag) (messages bytes)

-- the names of statements in their Parse frames
abbrev pub statement_names : List ℕ → List (List ℕ)
statement_names bytes = names_by (byte "P") bytes

-- the same of all that was booked
abbrev pub parse_names : List Booking → List (List ℕ)
parse_names book = statement_names (wire book)
