use Rattle.std.proofs.Common.{◌≡◌, Bool, ◌||◌, refl, sym, ◌∙◌, ap}
use Rattle.pg_streams.proofs.Ending.{added}
use Rattle.pg_streams.proofs.rests.Rest.add.Goals.{else-self, then-self}
use Rattle.pg_streams.proofs.rests.Rest.add.Goals as goal

pub returns-clause-adds : goal.returns-clause-adds
returns-clause-adds c =
    let old = c.args.self.now in
    let ends : c.if-self.self ≡ (old.ended || c.in_ok-ended.ended) = elim c.if-self.branch [
      | then-self w ↦ w.self-is ∙ w.if-self.true ∙ ap (λ (b : Bool). b || c.in_ok-ended.ended) (sym w.if-self.true)
      | else-self w ↦ w.self-is ∙ ap (λ (b : Bool). b || c.in_ok-ended.ended) (sym w.if-self.false)
    ] in
    added old c.args.batch (record old { batches = c.push_back.new.self; ended = c.if-self.self }) c.in_ok-ended.ended c.in_ok-push_back.ensures.items c.in_ok-ended.ensures ends refl
