use Rattle.std.proofs.Common.{option_map, sym, ap}
use Rattle.pg_config.specs.Addresses.{ipv4_part}
use Rattle.pg_config.proofs.ReadAll.{piece_read, piece_refused}
use Rattle.pg_config.proofs.address.read_parts.Goals as goal

pub returns-in_default-read_part : goal.returns-in_default-read_part
returns-in_default-read_part c =
    piece_refused ipv4_part 46 c.loop-rest.parts.items (option_map (λ t. t.now) c.loop-rest.rest) c.in-Some.text.now c.cut.result.0.now (option_map (λ t. t.now) c.cut.result.1) _
    c.cut.ensures.cut (sym c.in_default-read_part.ensures) (ap (option_map (λ t. t.now)) c.in-Some.is) c.loop-rest.invariant

pub loop-rest-preserved : goal.loop-rest-preserved
loop-rest-preserved c =
    let longer = c.in_ok-push.ensures.items in
    piece_read ipv4_part 46 c.loop-rest.parts.items c.push.new.self.items (option_map (λ t. t.now) c.loop-rest.rest) c.in-Some.text.now c.cut.result.0.now (option_map (λ t. t.now) c.cut.result.1) _ _
    c.cut.ensures.cut (sym c.in-Some-read_part.ensures) longer (ap (option_map (λ t. t.now)) c.in-Some.is) c.loop-rest.invariant
