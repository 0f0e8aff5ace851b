-- The hub as contracts see it.
use Rattle.pg_hub.specs.declared.hub.Hub.TheInside.{Inside}
use Rattle.pg_hub.specs.Standing.{Standing, with_book}

-- what its fields hold
abbrev pub standing : Inside → Standing
standing h = with_book h.book h.pipeline
