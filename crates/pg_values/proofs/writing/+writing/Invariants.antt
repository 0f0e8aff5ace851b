use Rattle.std.proofs.Common.{◌≡◌, drop}
use Rattle.pg_types.proofs.KindLaws.{row_of}
use Rattle.pg_values.specs.Sending.{kind_send, fields_send, items_send}
use Rattle.pg_values.proofs.SendLaws.{StandsBefore}
use Rattle.pg_values.proofs.writing.+writing.Given as goal

abbrev pub invariant-write_items-loop-item : goal.invariant-write_items-loop-item
invariant-write_items-loop-item l =
    StandsBefore (items_send l.nullable (kind_send l.ty.oid l.ty.kind) (drop l.item-index l.items)) (items_send l.nullable (kind_send l.ty.oid l.ty.kind) l.items) l.initial.out.items l.out.items

abbrev pub invariant-write_fields-loop-field : goal.invariant-write_fields-loop-field
invariant-write_fields-loop-field l = record {
  place_is : l.place ≡ l.field-index;
  before : StandsBefore (fields_send (row_of (drop l.field-index l.fields)) (drop l.field-index l.values)) (fields_send (row_of l.fields) l.values) l.initial.out.items l.out.items;
}
