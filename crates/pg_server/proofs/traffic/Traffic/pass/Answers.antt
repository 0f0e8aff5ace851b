use Rattle.std.proofs.Common.{ℕ, ◌-◌, ap, ◌∙◌}
use Rattle.std.specs.Prelude.{min}
use Rattle.pg_server.proofs.TrafficLaws.{passed}
use Rattle.pg_server.proofs.traffic.Traffic.pass.Goals as goal

pub returns : goal.returns
returns c =
    passed c.args.self.now c.args.n c.min-first.result c.min-self.result c.last_len-last.result c.requires
    (c.min-first.ensures ∙ ap (λ (k : ℕ). min c.args.n (k - c.args.self.now.gave)) c.len.ensures.value) c.last_len-last.ensures c.min-self.ensures
