use Rattle.std.proofs.Common.{List, ℕ, ◌++◌, [], sym, ap, ◌∙◌}
use Rattle.pg_server.proofs.TrafficLaws.{settled_same, matched_ok}
use Rattle.pg_server.proofs.traffic.Traffic.settle.Goals as goal

pub returns-clause-same : goal.returns-clause-same
returns-clause-same c =
    settled_same c.args.self.now c.put.new.out.items (c.new-2.result ++ []) c.min-self.result c.len-len.result
    (matched_ok c.put.result _ _ c.put.ensures (sym c.is_err.ensures.value ∙ c.if-is_err.false)) c.len-len.ensures.value c.min-self.ensures
    (ap (λ (b : List ℕ). b ++ []) (c.new-2.ensures ∙ c.new.ensures.items))
