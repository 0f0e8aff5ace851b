use Rattle.std.proofs.Common.{◌≡◌, take, sym, ◌∙◌, arith}
use Rattle.std.proofs.lemmas.List.{take_all}
use Rattle.pg_scram.proofs.VerdictLaws.{compares-start, compares-more, compared}
use Rattle.pg_scram.proofs.verdict.are_equal.Goals as goal

pub loop-i-init : goal.loop-i-init
loop-i-init c = compares-start c.args.given.now c.args.signature.now

pub loop-i-preserved : goal.loop-i-preserved
loop-i-preserved c = compares-more c.args.given.now c.args.signature.now c.loop-i.i c.loop-i.differing (omega arith) (omega arith) c.loop-i.invariant

pub returns : goal.returns
returns c =
    let whole_given : take c.loop-i.i c.args.given.now ≡ c.args.given.now = take_all c.loop-i.i c.args.given.now (omega arith) in
    let whole_signature : take c.loop-i.i c.args.signature.now ≡ c.args.signature.now = take_all c.loop-i.i c.args.signature.now (omega arith) in
    compared c.args.given.now c.args.signature.now c.loop-i.differing
    (λ e. sym whole_given ∙ c.loop-i.invariant.none e ∙ whole_signature)
    (λ e. c.loop-i.invariant.some (whole_given ∙ e ∙ sym whole_signature))
