-- Calls of a link that are no lull, one after another.
use Rattle.std.proofs.Common.{Bool, refl, ◌∙◌}
use Rattle.pg_spec.specs.Links.{LinkView}
use Rattle.pg_wire.specs.LinkCalls.{Keeps, KeepsPromise}
use Rattle.pg_connect.specs.Calm.{StaysCalm}

pub calm_same : (a : LinkView) → StaysCalm a a
calm_same a = record { steady = λ h. h; no_lull = λ h. refl }

pub calm_then : (a b c : LinkView) → StaysCalm a b → StaysCalm b c → StaysCalm a c
calm_then a b c h k = record { steady = λ s. k.steady (h.steady s); no_lull = λ s. k.no_lull (h.steady s) ∙ h.no_lull s }

-- one call
pub calm_call : (a b : LinkView) (moved : Bool) → Keeps a b → KeepsPromise a b moved → StaysCalm a b
calm_call a b moved keeps promise = record { steady = keeps.steady; no_lull = promise.no_lull }

-- and one behind others
pub calm_more : (a b c : LinkView) (moved : Bool) → StaysCalm a b → Keeps b c → KeepsPromise b c moved → StaysCalm a c
calm_more a b c moved h keeps promise = calm_then a b c h (calm_call b c moved keeps promise)

-- for the calls of a function, one behind the other
pub ruleset no_lulls = (calm_then, calm_call, calm_more, calm_same)
