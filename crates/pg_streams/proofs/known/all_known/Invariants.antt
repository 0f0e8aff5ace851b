use Rattle.std.proofs.Common.{Bool, List, [], length}
use Rattle.pg_spec.specs.RawMessages.{RawMessage}
use Rattle.pg_spec.specs.declared.stamps.Stamp.{Stamp}
use Rattle.pg_types.specs.declared.pg_type.PgType.{PgType}
use Rattle.pg_query.specs.Dialogue.{Dialogue}
use Rattle.pg_execute.specs.Typed.{all_known}
use Rattle.pg_streams.specs.Families.{GoesFor}
use Rattle.pg_streams.specs.Handing.{alone}
use Rattle.pg_streams.specs.Hearing.{First}
use Rattle.pg_streams.specs.Known.{stands_behind}
use Rattle.pg_streams.specs.TypedRaw.{Asked}
use Rattle.pg_streams.proofs.known.all_known.Given as goal

-- the types so far were found, and the other oids are left
abbrev pub invariant-loop-oid : goal.invariant-loop-oid
invariant-loop-oid g l = (rows : Bool) (stamp : Stamp) (ms : List RawMessage) (first : List RawMessage → First (Unit {0}) (Unit {0})) (later : Dialogue (Asked rows)) (next : List PgType → Dialogue (Asked rows)) →
    GoesFor g.D.Desk.becomes stamp l.initial.desk (alone (stands_behind ms (all_known later next l.fn.oids.items []) l.fn.id) first) l.desk (alone (stands_behind ms (all_known later next l.oids.items l.found) l.fn.id) first)

abbrev pub decreases-loop-oid : goal.decreases-loop-oid
decreases-loop-oid g l = length l.oids.items
