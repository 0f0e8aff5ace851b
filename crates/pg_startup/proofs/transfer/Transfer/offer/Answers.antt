use Rattle.std.proofs.Common.{refl, ◌∙◌}
use Rattle.pg_connect.proofs.Calm.{calm_more, calm_same}
use Rattle.pg_startup.proofs.Sending.{sends-nothing, sends-piece, sends-then}
use Rattle.pg_startup.proofs.transfer.Transfer.offer.Goals as goal

pub loop-link-init : goal.loop-link-init
loop-link-init g c = record { sends = sends-nothing _ _; calm = calm_same _; quiet = refl }

pub loop-link-preserved : goal.loop-link-preserved
loop-link-preserved g c =
    let before = g.L.Link.view c.args.link.now in
    let after = g.L.Link.view c.write.new.self in
    record {
      sends = sends-then c.args.self.now c.loop-link.self c.took.new.self before (g.L.Link.view c.loop-link.link) after c.loop-link.invariant.sends
          (sends-piece c.loop-link.self c.took.new.self (g.L.Link.view c.loop-link.link) after c.in-Took.n (rw c.as_slice.ensures at c.in-Took.ensures.answer.0) c.write.ensures.keeps
          c.took.ensures.unsent c.took.ensures.same);
      calm = calm_more before (g.L.Link.view c.loop-link.link) after _ c.loop-link.invariant.calm c.in-Took.ensures.keeps c.in-Took.ensures.promise;
      quiet = c.in-Took.ensures.answer.0.quiet ∙ c.loop-link.invariant.quiet;
    }
