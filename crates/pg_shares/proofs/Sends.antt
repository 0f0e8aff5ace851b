-- An event may cross threads: it is too large for one search, so each kind of its fields is searched for by itself.
use denote.Builtin.{unit, u32, u64}
use denote.RattleType.{RattleType}
use denote.Param.Send.{IsSend, sendable}
use denote.Param.SendFields.{variants_send, as_row_send}
use denote.Hole.{as_row}
use denote.Struct.Field.{bool-field, u32-field, u64-field}
use Rattle.std.proofs.Crossing as owners
use Rattle.std.proofs.option.Option.TheSendSync as optional
use Rattle.std.proofs.result.Result.TheSendSync as either
use Rattle.std.specs.contracts.option.Option as option
use Rattle.std.specs.contracts.result.Result as result
use Rattle.pg_types.proofs.pg_type.Kind.TheLaws.TheKnot as kind
use Rattle.pg_types.specs.contracts.pg_type.PgType as pg_type
use Rattle.pg_desk.specs.contracts.statement.Lookup as lookup
use Rattle.pg_desk.specs.contracts.statement.Statement as statement
use Rattle.std.specs.contracts.alloc.Global as heap
use Rattle.std.specs.contracts.impls.GlobalAllocator.TheImpl.{ghosts}
use Rattle.bytes.proofs.shared.Bytes.TheSendSync as shared_bytes
use Rattle.bytes.specs.contracts.shared.Bytes as shared
use Rattle.pg_spec.specs.contracts.stamps.Stamp as stamp
use Rattle.pg_wire.specs.contracts.backend.BackendMessages as batch
use Rattle.pg_desk.specs.contracts.event.Deliver as delivering
use Rattle.pg_desk.specs.contracts.event.DeskFault as fault
use Rattle.pg_desk.specs.contracts.event.Out as out
use Rattle.pg_desk.specs.contracts.event.Put as putting
use Rattle.pg_desk.specs.contracts.event.Take as taking
use Rattle.pg_desk.specs.contracts.event.CatalogCall as call
use Rattle.pg_desk.specs.contracts.event.Event as event

oid_send : IsSend (as_row u32-field)
oid_send = search sendable

unit_send : IsSend unit
unit_send = search sendable

type_send : IsSend pg_type.the_row
type_send = search (owners.crosses, kind.crosses, sendable) depth 60 fits 20000

type_field : IsSend (as_row pg_type.the_field)
type_field = search (owners.crosses, kind.crosses, sendable) depth 60 fits 20000

statement_send : IsSend statement.the_row
statement_send = search (owners.crosses, kind.crosses, sendable) depth 60 fits 20000

statement_field : IsSend (as_row statement.the_field)
statement_field = search (owners.crosses, kind.crosses, sendable) depth 60 fits 20000

lookup_send : IsSend (as_row lookup.the_field)
lookup_send = search sendable depth 20

fault_send : IsSend fault.the_row
fault_send = search sendable depth 20

answer_send : (R : RattleType) → IsSend R → IsSend (as_row (result.the_field R fault.the_row))
answer_send R r = as_row_send (result.the_field R fault.the_row) (either.the_field_send R fault.the_row r fault_send)

catalog_send : IsSend call.the_row
catalog_send = variants_send call.enum (
  (oid_send, (answer_send (option.the_row pg_type.the_row) (optional.the_send pg_type.the_row type_send), tt)),
  (
    (oid_send, (type_field, (answer_send unit unit_send, tt))),
    (
      (answer_send unit unit_send, tt),
      (
        (lookup_send, (answer_send (option.the_row statement.the_row) (optional.the_send statement.the_row statement_send), tt)),
        ((lookup_send, (statement_field, (answer_send unit unit_send, tt))), tt),
      ),
    ),
  ),
)

truth_send : IsSend (as_row bool-field)
truth_send = search sendable

number_send : IsSend (as_row u64-field)
number_send = search sendable

u32_send : IsSend u32
u32_send = search sendable

u64_send : IsSend u64
u64_send = search sendable

stamp_send : IsSend (as_row stamp.the_field)
stamp_send = search sendable depth 20

part_send : IsSend (as_row (shared.the_field heap.the_row ghosts))
part_send = search (shared_bytes.the_send, owners.crosses, sendable) depth 60 fits 20000

batch_send : IsSend (as_row batch.the_field)
batch_send = search (shared_bytes.the_send, owners.crosses, sendable) depth 60 fits 20000

put_send : IsSend (as_row putting.the_field)
put_send = search (shared_bytes.the_send, owners.crosses, sendable) depth 60 fits 20000

take_send : IsSend taking.the_row
take_send = search (shared_bytes.the_send, owners.crosses, sendable) depth 60 fits 20000

out_send : IsSend out.the_row
out_send = search (shared_bytes.the_send, owners.crosses, sendable) depth 60 fits 20000

deliver_send : IsSend (as_row delivering.the_field)
deliver_send = search (shared_bytes.the_send, owners.crosses, sendable) depth 60 fits 20000

pub event_send : IsSend event.the_row
event_send = variants_send event.enum (
  (stamp_send, (part_send, (truth_send, (answer_send u64 u64_send, tt)))),
  (
    (number_send, (part_send, (put_send, tt))),
    (
      (number_send, (part_send, (put_send, tt))),
      (
        (number_send, (answer_send taking.the_row take_send, tt)),
        (
          (number_send, (answer_send unit unit_send, tt)),
          (
            (answer_send u32 u32_send, tt),
            (
              (answer_send u32 u32_send, tt),
              (
                (catalog_send, tt),
                (
                  (answer_send out.the_row out_send, tt),
                  ((batch_send, (truth_send, (deliver_send, tt))), ((answer_send unit unit_send, tt), ((answer_send unit unit_send, tt), tt))),
                ),
              ),
            ),
          ),
        ),
      ),
    ),
  ),
)
