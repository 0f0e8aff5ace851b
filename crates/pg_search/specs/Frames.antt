-- What waits for the types of others, as it stands in memory.
use Rattle.std.specs.Prelude.{List, [], ◌∷◌}
use Rattle.pg_search.specs.declared.frame.Frame.{Frame}
use Rattle.pg_search.specs.declared.frame.Frame.TheVariants.{Wrapped, Part}
use Rattle.pg_core.specs.Searches as seen
use Rattle.pg_search.specs.Sorts.{wrap_of}

-- what waits for one type
abbrev pub frame_of : Frame → seen.Frame
frame_of (Wrapped oid row wrap) = seen.Wrapped oid row (wrap_of wrap)
frame_of (Part c name) = seen.Part c.oid c.row c.statement.columns name c.left.items c.found

-- all that waits, the last one first
abbrev pub frames_of : List Frame → List seen.Frame
frames_of [] = []
frames_of (f ∷ fs) = frame_of f ∷ frames_of fs
