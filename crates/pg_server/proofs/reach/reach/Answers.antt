use Rattle.std.proofs.Common.{ℕ, ap, ◌∙◌, length}
use Rattle.std.specs.Prelude.{min}
use Rattle.pg_server.proofs.ReachLaws.{reach-none, reach-some}
use Rattle.pg_server.proofs.reach.reach.Goals as goal

pub returns-in-Some-clause-reach : goal.returns-in-Some-clause-reach
returns-in-Some-clause-reach c =
    c.min.ensures ∙ ap (λ (k : ℕ). min k (length c.args.bytes.now)) c.saturating_sub.ensures ∙ reach-some c.args.left.now c.args.bytes.now c.in-Some.len c.in-Some.ensures

pub returns-in-None-clause-reach : goal.returns-in-None-clause-reach
returns-in-None-clause-reach c = reach-none c.args.left.now c.args.bytes.now c.in-None.ensures
