use Rattle.std.proofs.Common.{◌≡◌, ℕ, List, Global, Vec, drop, ap, ◌∙◌}
use Rattle.pg_wire.specs.Giving.{entry_of, entries_of, lists}
use Rattle.pg_wire.proofs.GivingLaws.{has-rest, has-none}
use Rattle.pg_wire.proofs.giving.Giving.has_due.Goals as goal

pub returns-then-self-turns-clause-answer : goal.returns-then-self-turns-clause-answer
returns-then-self-turns-clause-answer c =
    let rest : c.rest_of.result.now ≡ drop c.skip.new.self.at (entry_of (entries_of c.skip.new.self) c.skip.new.self.entry) =
    c.rest_of.ensures ∙ ap (λ (l : List (Vec ℕ Global)). drop c.skip.new.self.at (entry_of (lists l) c.skip.new.self.entry)) c.deref.ensures.value in
    has-rest c.args.turns c.args.self.now c.skip.new.self c.rest_of.result.now c.is_empty.result c.skip.ensures.same c.skip.ensures.stands c.if-self-turns.true rest c.is_empty.ensures

pub returns-else-self-turns-clause-answer : goal.returns-else-self-turns-clause-answer
returns-else-self-turns-clause-answer c = has-none c.args.turns c.args.self.now c.skip.new.self c.skip.ensures.same c.if-self-turns.false
