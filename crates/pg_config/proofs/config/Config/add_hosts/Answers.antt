use Rattle.std.proofs.Common.{option_map, ap}
use Rattle.pg_config.proofs.ReadAll.{host_added}
use Rattle.pg_config.proofs.config.Config.add_hosts.Goals as goal

pub loop-rest-preserved : goal.loop-rest-preserved
loop-rest-preserved c =
    host_added c.loop-rest.self c.host.new.self (option_map (λ t. t.now) c.loop-rest.rest) c.in-Some.text.now c.cut_text.result.0.now (option_map (λ t. t.now) c.cut_text.result.1) _
    c.cut_text.ensures (ap (option_map (λ t. t.now)) c.in-Some.is) c.in_ok-host.ensures.ok c.loop-rest.invariant
