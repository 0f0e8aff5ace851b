use Rattle.std.proofs.Common.{◌∷◌, [], Some}
use Rattle.pg_types.specs.Values.{oid_bytes}
use Rattle.pg_search.proofs.request.bind_oid.Goals as goal

pub returns : goal.returns
returns c = c.bind.ensures (Some (oid_bytes c.args.oid) ∷ []) c.oid_value-value.ensures
