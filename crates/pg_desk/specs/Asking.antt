-- Calls by which a desk is asked something besides requests: for a number, or on the catalog.
use Rattle.pg_desk.specs.declared.event.Event.{Event}
use Rattle.pg_desk.specs.declared.event.Event.TheVariants.{NextStatement, NextPortal, Catalog as CatalogEvent}
use Rattle.pg_desk.specs.History.{Change, DrewStatement, DrewPortal, Catalogued}

-- such a call
abbrev pub IsAsking : Event → Type 0
IsAsking (NextStatement answer) = Unit {0}
IsAsking (NextPortal answer) = Unit {0}
IsAsking (CatalogEvent call) = Unit {0}
IsAsking _ = ⊥

-- a change of neither a counter nor the catalog
abbrev pub IsOfRequests : Change → Type 0
IsOfRequests DrewStatement = ⊥
IsOfRequests DrewPortal = ⊥
IsOfRequests (Catalogued call) = ⊥
IsOfRequests _ = Unit {0}
