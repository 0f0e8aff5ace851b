-- Types of columns that are asked for at the desk while their request is read.
use Rattle.std.specs.Prelude.{ℕ, List, [], Option, Some, None, Result, Ok, Err}
use Rattle.pg_spec.specs.RawMessages.{RawMessage}
use Rattle.pg_spec.specs.declared.stamps.Stamp.{Stamp}
use Rattle.pg_desk.specs.declared.event.Event.{Event}
use Rattle.pg_types.specs.BuiltIns.{built_in_type}
use Rattle.pg_types.specs.declared.pg_type.PgType.{PgType}
use Rattle.pg_types.specs.declared.error.Error.{Error}
use Rattle.pg_query.specs.Dialogue.{Dialogue, feed}
use Rattle.pg_query.specs.Meaning.{GoesToAnswer, Place}
use Rattle.pg_execute.specs.Typed.{all_known, known_or}
use Rattle.pg_streams.specs.Families.{GoesFor}
use Rattle.pg_streams.specs.Handing.{alone}
use Rattle.pg_streams.specs.Hearing.{First}

-- one stands there behind these messages, which are read later
abbrev pub stands_behind : {T : Type 0} → List RawMessage → Dialogue T → ℕ → Place T
stands_behind ms d id = record { dialogue = feed ms d; reads = id }

-- All of them are known, or one isn't.
abbrev pub known_next : {T : Type 0} → Dialogue T → (List PgType → Dialogue T) → Option (List PgType) → Dialogue T
known_next later next (Some types) = next types
known_next later next None = later

-- The events led to where the type of this oid is known, or isn't; or to an error. They bring nothing of the reply.
abbrev pub KnowsOne : {D T : Type 0} → (D → List Event → D → Type 0) → Stamp → D → List RawMessage → ℕ → (List RawMessage → First (Unit {0}) (Unit {0})) → (Option PgType → Dialogue T) → (oid : ℕ) → D → Result (Option PgType) Error → Type 0
KnowsOne becomes stamp a ms id first next oid b (Ok found) = GoesFor becomes stamp a (alone (stands_behind ms (known_or oid (built_in_type oid) next) id) first) b (alone (stands_behind ms (next found) id) first)
KnowsOne becomes stamp a ms id first next oid b (Err e) = GoesToAnswer becomes stamp a (stands_behind ms (known_or oid (built_in_type oid) next) id) b (Err e)

-- The same of these oids, behind types that were found.
abbrev pub KnowsAll : {D T : Type 0} → (D → List Event → D → Type 0) → Stamp → D → List RawMessage → ℕ → (List RawMessage → First (Unit {0}) (Unit {0})) → Dialogue T → (List PgType → Dialogue T) → (oids : List ℕ) → D → Result (Option (List PgType)) Error → Type 0
KnowsAll becomes stamp a ms id first later next oids b (Ok known) =
    GoesFor becomes stamp a (alone (stands_behind ms (all_known later next oids []) id) first) b (alone (stands_behind ms (known_next later next known) id) first)
KnowsAll becomes stamp a ms id first later next oids b (Err e) = GoesToAnswer becomes stamp a (stands_behind ms (all_known later next oids []) id) b (Err e)
