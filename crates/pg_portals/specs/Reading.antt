-- What the reading of a bind tells.
use Rattle.std.specs.Prelude.{List, Option, Result}
use Rattle.pg_spec.specs.RawMessages.{RawMessage}
use Rattle.pg_types.specs.declared.error.Error.{Error}
use Rattle.pg_portals.specs.Portals.{bound}
use Rattle.pg_portals.specs.declared.bound.Bound.{Bound}
use Rattle.pg_portals.specs.declared.portal.Portal.{Portal}

-- the reply
abbrev pub reading_of_bound : Bound → List RawMessage → Option (Result Portal Error)
reading_of_bound r = bound r.portal
