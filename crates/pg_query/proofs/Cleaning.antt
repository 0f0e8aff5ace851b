-- What is left to do where a command is given up reads nothing.
use Rattle.std.proofs.Common.{List, [], ◌∷◌}
use Rattle.pg_query.specs.declared.desk_call.Cleanup.{Cleanup}
use Rattle.pg_query.specs.declared.desk_call.Cleanup.TheVariants.{Release, Close, Post}
use Rattle.pg_query.specs.Dialogue.{cleaning}
use Rattle.pg_query.specs.Scripts.{IsRead}

pub not-read : (cs : List Cleanup) → IsRead (cleaning cs) → ⊥
not-read [] h = h
not-read (Close part ∷ cs) h = h
not-read (Release ∷ cs) h = h
not-read (Post part ∷ cs) h = h
