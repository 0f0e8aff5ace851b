use Rattle.std.proofs.Common.{◌≡◌, ◌<◌, ℕ, List, Global, Vec, length, min, drop, ap, ◌∙◌, arith}
use Rattle.pg_wire.specs.Giving.{entry_of, entries_of, lists}
use Rattle.pg_wire.proofs.GivingLaws.{gave_none, gave_some}
use Rattle.pg_wire.proofs.giving.Giving.piece.Goals as goal

pub returns-then-self-turns : goal.returns-then-self-turns
returns-then-self-turns c = gave_none c.args.turns c.args.self.now c.skip.new.self c.args.out.now c.skip.ensures.same c.if-self-turns.true

pub returns : goal.returns
returns c =
    let rest : c.rest_of.result.now ≡ drop c.skip.new.self.at (entry_of (entries_of c.skip.new.self) c.skip.new.self.entry) =
    c.rest_of.ensures ∙ ap (λ (l : List (Vec ℕ Global)). drop c.skip.new.self.at (entry_of (lists l) c.skip.new.self.entry)) c.deref.ensures.value in
    let len : c.copy_front-n.result ≡ min (length c.rest_of.result.now) (length c.copy_front-n.new.out) = let keep = c.copy_front-n.auto.out in omega arith in
    let room : 0 < length c.copy_front-n.new.out = let keep = c.copy_front-n.auto.out in omega arith in
    gave_some c.args.turns c.args.self.now c.skip.new.self c.pass.new.self c.copy_front-n.new.out c.rest_of.result.now c.copy_front-n.result
    c.skip.ensures.same c.skip.ensures.stands c.if-self-turns.false rest len room c.copy_front-n.ensures.front c.pass.ensures
