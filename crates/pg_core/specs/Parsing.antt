-- A text that is sent under its number.
use Rattle.std.specs.Prelude.{ℕ, List, ◌++◌, true, Result, Ok}
use Rattle.std.specs.Str.{byte}
use Rattle.pg_spec.specs.Faults.{◌>>=◌, FrameFault}
use Rattle.pg_spec.specs.Frames.{parse_frame, describe_frame, sync_frame}
use Rattle.pg_query.specs.Dialogue.{Dialogue, Answer}
use Rattle.pg_query.specs.Reading.{reads}
use Rattle.pg_core.specs.Sequences.{then_do}
use Rattle.pg_core.specs.Composing.{asks_for, or_encode}
use Rattle.pg_core.specs.Descriptions.{description}
use Rattle.pg_core.specs.Prepares.{NewStatement, prepare_request}

-- Parse, Describe and Sync, under this name
abbrev pub prepare_frames : (name : List ℕ) → (text : List ℕ) → (oids : List ℕ) → Result (List ℕ) FrameFault
prepare_frames name text oids =
    parse_frame name text oids >>= λ parse.
    describe_frame (byte "S") name >>= λ describe.
    Ok (parse ++ describe ++ sync_frame)

-- the text is sent, and the server describes it
abbrev pub parses : (text : List ℕ) → (oids : List ℕ) → (n : ℕ) → Dialogue NewStatement
parses text oids n =
    then_do (asks_for (or_encode (prepare_request n text oids)) (reads true description)) (λ d. Answer (Ok (record { number = n; described = d })))
