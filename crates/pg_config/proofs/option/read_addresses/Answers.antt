use Rattle.std.proofs.Common.{option_map, sym, ap, ◌∙◌}
use Rattle.pg_config.specs.Addresses.{address_of}
use Rattle.pg_config.proofs.ReadAll.{piece_read, piece_refused}
use Rattle.pg_config.proofs.option.read_addresses.Goals as goal

pub returns-in_default-2 : goal.returns-in_default-2
returns-in_default-2 c =
    piece_refused address_of 44 c.loop-rest.addresses.items (option_map (λ t. t.now) c.loop-rest.rest) c.in-Some.text.now c.cut.result.0.now (option_map (λ t. t.now) c.cut.result.1) _
    c.cut.ensures.cut (sym c.in_ok-address.ensures ∙ c.in_default-2.is) (ap (option_map (λ t. t.now)) c.in-Some.is) c.loop-rest.invariant

pub loop-rest-preserved : goal.loop-rest-preserved
loop-rest-preserved c =
    let longer = c.in_ok-push.ensures.items in
    piece_read address_of 44 c.loop-rest.addresses.items c.push.new.self.items (option_map (λ t. t.now) c.loop-rest.rest) c.in-Some.text.now c.cut.result.0.now (option_map (λ t. t.now) c.cut.result.1) _ _
    c.cut.ensures.cut (sym c.in_ok-address.ensures ∙ c.in-Some-2.is) longer (ap (option_map (λ t. t.now)) c.in-Some.is) c.loop-rest.invariant
