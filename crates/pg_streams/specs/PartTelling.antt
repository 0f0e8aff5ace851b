-- What a message of the reply to a simple query tells a stream of its parts.
use Rattle.std.specs.Prelude.{◌≡◌, ℕ, List, Option, Some, Result, Ok, Err}
use Rattle.pg_spec.specs.RawMessages.{RawMessage}
use Rattle.pg_spec.specs.Bodies.{Field, fields_of}
use Rattle.pg_spec.specs.Faults.{WireFault}
use Rattle.pg_spec.specs.SimpleQuery.{unreadable}
use Rattle.pg_types.specs.declared.error.Error.{Error}
use Rattle.pg_types.specs.declared.faults.WireFault as wire
use Rattle.pg_wire.specs.Faults.{wire_fault}
use Rattle.pg_query.specs.Replies.{IsRefusedFor}
use Rattle.pg_rows.specs.declared.simple_column.SimpleColumn.{SimpleColumn}
use Rattle.pg_streams.specs.Hearing.{Heard}
use Rattle.pg_streams.specs.SimpleStreams.{Said, Part, Ready, Wrong, named, said_by}
use Rattle.pg_streams.specs.declared.giving.Told.{Told}
use Rattle.pg_streams.specs.declared.giving.Told.TheVariants.{Item, Ends, Fails}
use Rattle.pg_streams.specs.declared.simple_giving.SimpleGiving.{SimpleGiving}
use Rattle.pg_streams.specs.declared.simple_query_message.SimpleQueryMessage.{SimpleQueryMessage}

-- what is told by what a message says, and how the parts go on
abbrev pub part_heard : SimpleGiving → Said → Heard SimpleGiving SimpleQueryMessage
part_heard g (Part columns part) = record { told = Some (Item part); giving = record { columns = columns } }
part_heard g Ready = record { told = Some Ends; giving = g }
part_heard g (Wrong e) = record { told = Some (Fails e); giving = g }

-- the same of a message that may be malformed
abbrev pub parts_heard : SimpleGiving → RawMessage → Heard SimpleGiving SimpleQueryMessage
parts_heard g raw = part_heard g (said_by g.columns raw)

-- By what a message says it shows this, and the parts go on from there.
abbrev pub Shows : Said → SimpleGiving → Option (Told SimpleQueryMessage) → SimpleGiving → Type 0
Shows (Part columns part) old (Some (Item given)) new = (given ≡ part) × (new ≡ record { columns = columns })
Shows Ready old (Some Ends) new = new ≡ old
Shows (Wrong e) old (Some (Fails error)) new = (error ≡ e) × (new ≡ old)
Shows said old told new = ⊥

-- the columns of these fields, or why they can't be read
abbrev pub ColumnsRead : Result (List Field) WireFault → Result (List SimpleColumn) Error → Type 0
ColumnsRead (Ok fields) (Ok columns) = columns ≡ named fields
ColumnsRead (Err fault) (Err e) = e ≡ unreadable fault
ColumnsRead fields read = ⊥

-- the columns of a RowDescription
abbrev pub ReadsColumns : ℕ → List ℕ → Result (List SimpleColumn) wire.WireFault → Type 0
ReadsColumns count bytes (Ok columns) = (fields : List Field) × (fields_of count bytes ≡ Ok fields) × (columns ≡ named fields)
ReadsColumns count bytes (Err fault) = IsRefusedFor (fields_of count bytes) (wire_fault fault)
