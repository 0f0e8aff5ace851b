use Rattle.std.proofs.Common.{[], ◌++◌, Some, cond, option_map, sym, ap, ◌∙◌}
use Rattle.pg_config.specs.Addresses.{groups_in, piece_groups}
use Rattle.pg_config.specs.Pieces.{pieces}
use Rattle.pg_config.proofs.GroupLaws.{groups_read, groups_refused}
use Rattle.pg_config.proofs.address.read_groups.Goals as goal

pub returns-in_default-2 : goal.returns-in_default-2
returns-in_default-2 c =
    let whole = groups_in c.args.tail (pieces 58 c.args.text.now) in
    let nonempty = sym c.is_empty.ensures ∙ c.if-is_empty.false in
    let told = rw c.in_default-2.is at c.in_ok-more.ensures in
    groups_refused c.args.tail c.loop-rest.groups.items (option_map (λ t. t.now) c.loop-rest.rest) c.in-Some.text.now c.cut.result.0.now (option_map (λ t. t.now) c.cut.result.1) whole
    c.cut.ensures.cut (ap (λ b. piece_groups b c.cut.result.0.now) (sym c.is_last.ensures) ∙ sym told) (ap (option_map (λ t. t.now)) c.in-Some.is) c.loop-rest.invariant
    ∙ sym (ap (λ b. cond b (Some []) whole) nonempty)

pub loop-rest-preserved : goal.loop-rest-preserved
loop-rest-preserved c =
    let longer = c.in_ok-extend_from_slice.ensures.items in
    let told = rw c.in-Some-2.is at c.in_ok-more.ensures in
    groups_read c.args.tail c.loop-rest.groups.items c.extend_from_slice.new.self.items c.in-Some-2.more.items (option_map (λ t. t.now) c.loop-rest.rest) c.in-Some.text.now c.cut.result.0.now (option_map (λ t. t.now) c.cut.result.1) _
    c.cut.ensures.cut (ap (λ b. piece_groups b c.cut.result.0.now) (sym c.is_last.ensures) ∙ sym told) (longer ∙ ap (λ t. c.loop-rest.groups.items ++ t) c.as_slice.ensures.value)
    (ap (option_map (λ t. t.now)) c.in-Some.is) c.loop-rest.invariant
