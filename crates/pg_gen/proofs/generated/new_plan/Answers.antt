use Rattle.std.proofs.Common.{◌%◌, ◌==◌, ℕ, ap, ◌∙◌}
use Rattle.pg_gen.specs.Draws.{drawn, next_number}
use Rattle.pg_gen.proofs.SessionLaws.{entries_more, next_drawn}
use Rattle.pg_gen.proofs.generated.new_plan.Goals as goal

pub loop-k-preserved : goal.loop-k-preserved
loop-k-preserved c = record {
  entries =
      entries_more c.args.seed c.loop-k.k c.loop-k.draws.number (c.draw-rows.result % 4) (c.draw.result % 16 == 1)
      c.loop-k.plan.items c.push-in-loop-k.new.self.items c.in_ok-reply.field-0 c.in_ok-push-2.ensures.items c.loop-k.invariant.entries c.loop-k.invariant.drawn
      (ap (λ (d : ℕ). d % 4) c.draw-rows.ensures.drawn)
      (ap (λ (d : ℕ). d % 16 == 1) (c.draw.ensures.drawn ∙ ap (λ (x : ℕ). drawn (next_number x)) c.draw-rows.ensures.number))
      c.in_ok-reply.ensures;
  drawn = c.draw.ensures.number ∙ ap next_number c.draw-rows.ensures.number ∙ next_drawn c.args.seed c.loop-k.k c.loop-k.draws.number c.loop-k.invariant.drawn;
}
