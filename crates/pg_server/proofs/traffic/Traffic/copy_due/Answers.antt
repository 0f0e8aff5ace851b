use Rattle.std.proofs.Common.{List, ℕ, ◌-◌, ◌++◌, ap, ◌∙◌, subst, drop, length}
use Rattle.std.specs.Prelude.{min}
use Rattle.pg_machine.proofs.FeedLaws.{rest_is}
use Rattle.pg_server.specs.Copies.{Copied, Lengthens}
use Rattle.pg_server.proofs.TrafficLaws.{copied_three}
use Rattle.pg_server.proofs.traffic.Traffic.copy_due.Goals as goal

pub returns : goal.returns
returns c =
    let skip : ℕ = c.min-skip.result in
    subst (λ (b : List ℕ). Copied (drop c.args.self.now.gave c.args.self.now.said.items ++ drop c.args.self.now.over (c.args.self.now.last.reply ++ b)) c.copy_more.new.out c.copy_more.result) c.ready.ensures
    (copied_three c.args.self.now.said.items c.args.self.now.last.reply c.ready.result.now c.args.out.now c.copy_more-n.new.out c.copy_more-n-2.new.out c.copy_more.new.out
    c.args.self.now.gave c.args.self.now.over skip c.copy_more-n.result c.copy_more-n-2.result c.copy_more.result
    (c.min-skip.ensures ∙ ap (λ (b : List ℕ). min c.args.self.now.over (length b)) c.as_slice-reply.ensures)
    (subst (λ (b : List ℕ). Lengthens b c.args.out.now 0 c.copy_more-n.new.out c.copy_more-n.result)
    (rest_is c.as_slice.result.now c.args.self.now.gave ∙ ap (drop c.args.self.now.gave) c.as_slice.ensures) c.copy_more-n.ensures.copied)
    (subst (λ (b : List ℕ). Lengthens b c.copy_more-n.new.out c.copy_more-n.result c.copy_more-n-2.new.out c.copy_more-n-2.result)
    (rest_is c.as_slice-reply.result.now skip ∙ ap (drop skip) c.as_slice-reply.ensures) c.copy_more-n-2.ensures.copied)
    (subst (λ (b : List ℕ). Lengthens b c.copy_more-n-2.new.out c.copy_more-n-2.result c.copy_more.new.out c.copy_more.result)
    (rest_is c.ready.result.now (c.args.self.now.over - skip)) c.copy_more.ensures.copied))
