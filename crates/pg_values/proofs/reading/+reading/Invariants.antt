use Rattle.std.proofs.Common.{◌≡◌, ◌-◌, ◌++◌, List, ℕ, false, length, drop}
use Rattle.pg_types.proofs.KindLaws.{row_of}
use Rattle.pg_values.specs.declared.datum.Datum.{Datum}
use Rattle.pg_values.specs.Parts.{SpellItems, AreItems}
use Rattle.pg_values.specs.Spelling.{SpellsKind, SpellFields}
use Rattle.pg_values.proofs.reading.+reading.Given as goal

abbrev pub invariant-read_items-loop : goal.invariant-read_items-loop
invariant-read_items-loop l =
    let S : Datum → List ℕ → Type 0 = SpellsKind false l.ty.oid l.ty.kind in
    record {
      count_is : length l.items ≡ l.counter;
      whole : (tail : List Datum) → SpellItems l.nullable S tail l.rest → SpellItems l.nullable S (l.items ++ tail) l.bytes;
      others : (vs : List Datum) → AreItems l.nullable S l.count vs l.bytes → (ws : List Datum) × AreItems l.nullable S (l.count - l.counter) ws l.rest;
    }

abbrev pub invariant-read_fields-loop-field : goal.invariant-read_fields-loop-field
invariant-read_fields-loop-field l = record {
  whole : (tail : List Datum) → SpellFields false (row_of (drop l.field-index l.fields)) tail l.rest → SpellFields false (row_of l.fields) (l.values ++ tail) l.bytes;
  others : (vs : List Datum) → SpellFields false (row_of l.fields) vs l.bytes → (ws : List Datum) × SpellFields false (row_of (drop l.field-index l.fields)) ws l.rest;
}
