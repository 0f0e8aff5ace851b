use Rattle.std.proofs.Common.{subst}
use Rattle.pg_config.specs.Outcomes.{Becomes}
use Rattle.pg_config.proofs.Decoded.{no_host}
use Rattle.pg_config.proofs.config.Config.url_param.Goals as goal

pub returns : goal.returns
returns c =
    subst (λ said. Becomes said c.param.new.self c.param.result)
    (no_host c.args.key.now c.args.value.now c.in_ok-key.key c.in_ok-value.value c.as_str.result.now c.as_str-2.result.now c.as_str-3.result.now c.args.self.now
    c.in_ok-key.ensures c.in_ok-value.ensures c.as_str.ensures c.as_str-2.ensures c.as_str-3.ensures c.if-eq.ensures)
    c.param.ensures
