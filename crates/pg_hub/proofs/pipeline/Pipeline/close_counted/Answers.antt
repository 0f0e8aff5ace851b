use Rattle.std.proofs.Common.{◌≡◌, ◌<◌, ◌+◌, ℕ, length, false, sym, subst, ◌∙◌, ap}
use Rattle.std.proofs.lemmas.List.{length-set}
use Rattle.pg_hub.specs.Rests.{Outbound}
use Rattle.pg_hub.specs.Standing.{InFlight, StandsOut}
use Rattle.pg_hub.proofs.Simulation.{stands-put}
use Rattle.pg_hub.proofs.pipeline.Pipeline.close_counted.Goals as goal

pub invariant_of-self : goal.invariant_of-self
invariant_of-self c =
    let v = c.self.invariant in
    let out = ap (λ (o : Outbound). o.rests) c.close.ensures in
    let whole = ap (λ (o : Outbound). o.whole) c.close.ensures in
    let size : length c.close.new.self.rests ≡ length c.self.inside.outbox.rests = ap length out ∙ length-set c.self.inside.outbox.rests c.args.id _ in
    let unsent : c.args.unsent ≡ c.self.inside.unsent + (length c.args.part + 1) = c.requires.unsent ∙ ap (λ (q : InFlight). q.unsent + (length c.args.part + 1)) (sym c.self.view_is) in
    let low : c.args.id < length c.self.inside.outbox.rests = subst (λ (n : ℕ). c.args.id < n) (ap (λ (q : InFlight). length q.mail) (sym c.self.view_is) ∙ v.mail) c.requires.copy.booked in
    record {
      mail = v.mail ∙ sym size;
      out = subst (λ (n : ℕ). StandsOut n c.close.new.self.rests c.args.unsent c.close.new.self.whole c.self.inside.started) (sym size)
          (subst (λ (n : ℕ). StandsOut (length c.self.inside.outbox.rests) c.close.new.self.rests c.args.unsent n c.self.inside.started) (sym whole)
          (stands-put (length c.self.inside.outbox.rests) c.self.inside.outbox.rests c.close.new.self.rests c.self.inside.unsent c.args.unsent c.self.inside.outbox.whole c.self.inside.started c.args.id c.args.part false v.out low out unsent));
      finished = v.finished;
    }
