use Rattle.std.proofs.Common.{◌<◌, sym, ◌∙◌, length, arith, refl}
use Rattle.pg_config.proofs.NumberLaws.{not_empty, numeral_is, read_to_end, refused_at}
use Rattle.pg_config.proofs.number.read_numeral.Goals as goal

pub returns-in-None-clause-value : goal.returns-in-None-clause-value
returns-in-None-clause-value c =
    let some : 0 < length c.args.digits.now = omega arith in
    sym (refused_at c.args.radix c.args.most c.loop-digit.value _ c.loop-digit.digit-index c.args.digits.now c.loop-digit-test.true refl (sym c.in-None.ensures.value))
    ∙ c.loop-digit.invariant.read
    ∙ numeral_is c.args.radix c.args.most c.args.digits.now c.requires.low some

pub returns-clause-value : goal.returns-clause-value
returns-clause-value c =
    let some = not_empty (length c.args.digits.now) (sym c.is_empty.ensures ∙ c.if-is_empty.false) in
    read_to_end c.args.radix c.args.most c.loop-digit.value c.loop-digit.digit-index c.args.digits.now c.loop-digit-test.false
    ∙ c.loop-digit.invariant.read
    ∙ numeral_is c.args.radix c.args.most c.args.digits.now c.requires.low some
