use Rattle.std.proofs.Common.{◌++◌, List, ℕ, ap, ◌∙◌, arith}
use Rattle.pg_values.proofs.GroupLaws.{unit_is, digit_small, digit_more}
use Rattle.pg_values.proofs.numeric_written.put_digits.Goals as goal

pub nonzero_div-rest : goal.nonzero_div-rest
nonzero_div-rest c =
    (digit_small c.args.len c.loop-place.place c.loop-place.rest c.power-unit.result c.loop-place-test.true c.loop-place.invariant.small
    (c.power-unit.ensures ∙ unit_is c.args.len c.loop-place.place)).0

pub overflow_cast-rest : goal.overflow_cast-rest
overflow_cast-rest c =
    let sizes = digit_small c.args.len c.loop-place.place c.loop-place.rest c.power-unit.result c.loop-place-test.true c.loop-place.invariant.small
    (c.power-unit.ensures ∙ unit_is c.args.len c.loop-place.place) in
    record { fits = omega (arith, sizes.1) }

pub nonzero_rem-rest : goal.nonzero_rem-rest
nonzero_rem-rest c =
    (digit_small c.args.len c.loop-place.place c.loop-place.rest c.power-unit.result c.loop-place-test.true c.loop-place.invariant.small
    (c.power-unit.ensures ∙ unit_is c.args.len c.loop-place.place)).0

pub loop-place-preserved : goal.loop-place-preserved
loop-place-preserved c =
    digit_more c.args.number c.args.len c.loop-place.place c.args.out.now.items c.loop-place.out.items c.put.new.out.items c.loop-place.rest c.power-unit.result c.loop-place-test.true
    (c.power-unit.ensures ∙ unit_is c.args.len c.loop-place.place) c.loop-place.invariant
    (c.in_ok-put.ensures ∙ ap (λ (l : List ℕ). c.loop-place.out.items ++ l) c.to_be_bytes.ensures)
