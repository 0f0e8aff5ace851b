use Rattle.std.proofs.Common.{refl, sym, ◌∙◌}
use Rattle.pg_execute.proofs.Taking.{takes-last, takes-more}
use Rattle.pg_execute.proofs.takes_rest.TakesRestScript.message.Goals as goal

pub returns-then-not-ends-clause-goes_on : goal.returns-then-not-ends-clause-goes_on
returns-then-not-ends-clause-goes_on c raw means h =
    let old = c.args.self.now in
    takes-more old c.take.new.self raw (c.in_ok-take.ensures.takes raw means) old.ended refl c.take.ensures.same h (sym (c.ends.ensures.says raw means) ∙ c.if-not-ends.true)

pub returns-clause-goes_on : goal.returns-clause-goes_on
returns-clause-goes_on c raw means h =
    let old = c.args.self.now in
    takes-last old c.take.new.self raw (c.in_ok-take.ensures.takes raw means) old.ended h (sym (c.ends.ensures.says raw means) ∙ c.if-not-ends.false)
