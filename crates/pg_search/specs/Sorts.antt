-- What a row says of the kind of its type, as it stands in memory.
use Rattle.pg_search.specs.declared.sort.Wrap.{Wrap}
use Rattle.pg_search.specs.declared.sort.Wrap.TheVariants as wrap
use Rattle.pg_search.specs.declared.sort.Sort.{Sort}
use Rattle.pg_search.specs.declared.sort.Sort.TheVariants as sort
use Rattle.pg_core.specs.Lookups as seen

-- how a type is made of one other
abbrev pub wrap_of : Wrap → seen.Wrap
wrap_of wrap.Over = seen.Over
wrap_of wrap.ArrayOf = seen.ArrayOf
wrap_of wrap.RangeOf = seen.RangeOf

-- what a row says of the kind
abbrev pub sort_said : Sort → seen.Sort
sort_said (sort.Is kind) = seen.Is kind
sort_said sort.Labels = seen.Labels
sort_said (sort.Of how oid) = seen.Of (wrap_of how) oid
sort_said (sort.Fields relation) = seen.Fields relation
