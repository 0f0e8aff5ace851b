use Rattle.std.proofs.Common.{sym, ap, ◌∙◌, List, ℕ, drop, length, eq-eqb}
use Rattle.std.specs.Prelude.{◌==◌}
use Rattle.std.proofs.lemmas.Bool.{ne_eqb}
use Rattle.pg_server.specs.Startups.{is_settled}
use Rattle.pg_machine.proofs.FeedLaws.{rest_is}
use Rattle.pg_server.proofs.StartupLaws.{settled_further, settled_never, settled_now, empties}
use Rattle.pg_server.proofs.startup.is_settled.Goals as goal

pub returns-then-tag-eq90 : goal.returns-then-tag-eq90
returns-then-tag-eq90 c =
    empties (drop c.in-Whole.n c.loop-n.rest.now) c.is_empty.result
    (c.is_empty.ensures ∙ ap (λ (s : List ℕ). length s == 0) (rest_is c.loop-n.rest.now c.in-Whole.n))
    ∙ sym (settled_now c.loop-n.rest.now c.in-Whole.n c.in-Whole.ensures (eq-eqb _ _ c.if-tag-eq90.true)) ∙ sym c.loop-n.invariant

pub returns-then-not-is_report : goal.returns-then-not-is_report
returns-then-not-is_report c =
    sym (settled_never c.loop-n.rest.now c.in-Whole.n c.in-Whole.ensures (ne_eqb _ _ c.if-tag-eq90.false) (sym c.is_report.ensures ∙ c.if-not-is_report.true)) ∙ sym c.loop-n.invariant

pub loop-n-preserved : goal.loop-n-preserved
loop-n-preserved c =
    c.loop-n.invariant ∙ settled_further c.loop-n.rest.now c.in-Whole.n c.in-Whole.ensures (ne_eqb _ _ c.if-tag-eq90.false) (sym c.is_report.ensures ∙ c.if-not-is_report.false)
    ∙ ap is_settled (sym (rest_is c.loop-n.rest.now c.in-Whole.n))
