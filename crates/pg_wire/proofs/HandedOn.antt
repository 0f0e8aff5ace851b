-- An error that a `?` hands on.
use Rattle.std.proofs.Common.{◌≡◌, Result, Ok, Err, ap}
use Rattle.std.specs.Result.{IsErrAnd}

-- it is the one that was met
pub handed-on : {A E : Type 0} (r : Result A E) (e : E) → IsErrAnd r (λ x. x ≡ e) → r ≡ Err e
handed-on (Ok x) e is = absurd is
handed-on (Err x) e is = ap (λ y. Err y) is
