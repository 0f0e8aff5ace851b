use Rattle.std.proofs.Common.{option_map, sym, ap}
use Rattle.pg_config.specs.Options.{port_of}
use Rattle.pg_config.proofs.ReadAll.{piece_read, piece_refused}
use Rattle.pg_config.proofs.option.read_ports.Goals as goal

pub returns-in_default-read_port : goal.returns-in_default-read_port
returns-in_default-read_port c =
    piece_refused port_of 44 c.loop-rest.ports.items (option_map (λ t. t.now) c.loop-rest.rest) c.in-Some.text.now c.cut.result.0.now (option_map (λ t. t.now) c.cut.result.1) _
    c.cut.ensures.cut (sym c.in_default-read_port.ensures) (ap (option_map (λ t. t.now)) c.in-Some.is) c.loop-rest.invariant

pub loop-rest-preserved : goal.loop-rest-preserved
loop-rest-preserved c =
    let longer = c.in_ok-push.ensures.items in
    piece_read port_of 44 c.loop-rest.ports.items c.push.new.self.items (option_map (λ t. t.now) c.loop-rest.rest) c.in-Some.text.now c.cut.result.0.now (option_map (λ t. t.now) c.cut.result.1) _ _
    c.cut.ensures.cut (sym c.in-Some-read_port.ensures) longer (ap (option_map (λ t. t.now)) c.in-Some.is) c.loop-rest.invariant
