-- The simple query among the commands is the headline's.
use Rattle.std.proofs.Common.{ℕ, List, Option, ap}
use Rattle.std.proofs.lemmas.Option.{same_Some}
use Rattle.pg_spec.specs.Dialogues.{behind}
use Rattle.pg_spec.specs.Simples.{AreSimple, simple_query}
use Rattle.pg_promises.specs.Rows.{Begin, Commit, CopyIn, Line, Messages, Prepare, Query, Simple, keeps, meaning, simply}

pub are-simple : AreSimple meaning simply
are-simple own (Simple t k) text take e = ap (λ (p : List ℕ × Option ℕ). let d : Line = behind (simple_query p.0 p.1) (λ r. keeps own (Messages r)) in d) (same_Some (t, k) (text, take) e)
are-simple own (Prepare slot t) text take e = absurd cc
are-simple own (Query slot) text take e = absurd cc
are-simple own (CopyIn slot pieces) text take e = absurd cc
are-simple own Begin text take e = absurd cc
are-simple own Commit text take e = absurd cc
