-- What passed from a connection to the hub and back in a list of events.
use Rattle.std.specs.Prelude.{ℕ, ◌<◌, Bool, true, false, List, [], ◌∷◌, ◌++◌, length, Ok}
use Rattle.pg_spec.specs.RawMessages.{RawMessage}
use Rattle.pg_desk.specs.declared.event.Out.TheVariants.{Part}
use Rattle.pg_desk.specs.declared.event.Deliver.TheVariants.{Taken}
use Rattle.pg_desk.specs.declared.event.Event.{Event}
use Rattle.pg_desk.specs.declared.event.Event.TheVariants.{NextOut, Deliver}

-- the messages that the hub took, or discarded for a reader that hung up
abbrev pub delivered_in : Event → List RawMessage
delivered_in (Deliver batch complete Taken) = batch
delivered_in _ = []

-- the same of all events, in order
abbrev pub delivered_by : List Event → List RawMessage
delivered_by [] = []
delivered_by (e ∷ es) = delivered_in e ++ delivered_by es

-- the bytes of a part that went out
abbrev pub bytes_out_in : Event → List ℕ
bytes_out_in (NextOut (Ok (Part part))) = part
bytes_out_in _ = []

-- the bytes of the parts that went out, in order
abbrev pub bytes_out_by : List Event → List ℕ
bytes_out_by [] = []
bytes_out_by (e ∷ es) = bytes_out_in e ++ bytes_out_by es

-- a part that went out
abbrev pub parts_out_in : Event → List (List ℕ)
parts_out_in (NextOut (Ok (Part part))) = part ∷ []
parts_out_in _ = []

-- the parts that went out, in order
abbrev pub parts_out_by : List Event → List (List ℕ)
parts_out_by [] = []
parts_out_by (e ∷ es) = parts_out_in e ++ parts_out_by es

-- the last of some parts, or else these bytes
abbrev pub last_part : List ℕ → List (List ℕ) → List ℕ
last_part bytes [] = bytes
last_part bytes (part ∷ parts) = last_part part parts

-- the hub took or discarded a batch, or handed a part out
abbrev pub moves_in : Event → Bool
moves_in (NextOut (Ok (Part part))) = true
moves_in (Deliver batch complete Taken) = true
moves_in _ = false

-- a call that hands a part out or takes a batch in, which is never empty
abbrev pub IsEngineCall : Event → Type 0
IsEngineCall (NextOut answer) = Unit {0}
IsEngineCall (Deliver batch complete answer) = 0 < length batch
IsEngineCall _ = ⊥

-- no other calls
abbrev pub AllEngineCalls : List Event → Type 0
AllEngineCalls [] = Unit {0}
AllEngineCalls (e ∷ es) = IsEngineCall e × AllEngineCalls es
