use Rattle.std.proofs.Common.{◌≡◌, ◌++◌, take}
use Rattle.pg_core.proofs.description.Description.add_params.Given as goal

-- the oids so far were added
abbrev pub invariant-loop-oid : goal.invariant-loop-oid
invariant-loop-oid l = l.oids.items ≡ l.fn.oids.items ++ take l.oid-index l.self.params
