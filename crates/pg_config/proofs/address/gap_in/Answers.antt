use Rattle.std.proofs.Common.{ap, sym, ◌∙◌}
use Rattle.std.proofs.lemmas.List.{take_rest}
use Rattle.pg_config.specs.Addresses.{is_gap}
use Rattle.pg_config.proofs.GroupLaws.{gap_here, gap_later}
use Rattle.pg_config.proofs.address.gap_in.Goals as goal

pub returns-then-is_gap : goal.returns-then-is_gap
returns-then-is_gap c =
    gap_here c.loop-at.at c.args.text.now (sym (ap is_gap (take_rest c.args.text.now c.loop-at.at)) ∙ sym c.is_gap.ensures ∙ c.if-is_gap.true) c.loop-at.invariant

pub loop-at-preserved : goal.loop-at-preserved
loop-at-preserved c =
    gap_later c.loop-at.at c.args.text.now c.loop-at-test.true (sym (ap is_gap (take_rest c.args.text.now c.loop-at.at)) ∙ sym c.is_gap.ensures ∙ c.if-is_gap.false) c.loop-at.invariant
