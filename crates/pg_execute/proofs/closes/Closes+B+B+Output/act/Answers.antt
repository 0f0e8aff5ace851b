use Rattle.std.proofs.Common.{refl, sym, subst}
use Rattle.pg_query.specs.declared.script.Action.{Action}
use Rattle.pg_query.specs.declared.script.Action.TheVariants.{Put}
use Rattle.pg_query.specs.declared.script.Offer.{Offer}
use Rattle.pg_core.specs.Thens.{IsThrough}
use Rattle.pg_execute.specs.Executes.{posts}
use Rattle.pg_execute.proofs.closes.Closes+B+B+Output.act.Goals as goal

pub returns-in_ok-leave-in-Put : goal.returns-in_ok-leave-in-Put
returns-in_ok-leave-in-Put g c =
    let left : Offer = record { part = c.in-Put.offer.part; cleanup = c.leave.new.left } in
    let put : IsThrough (posts c.args.self.now.part) (Put c.in-Put.offer) (Put left) = (left, refl, refl, c.in_ok-leave-in-Put.ensures) in
    subst (λ (a : Action). IsThrough (posts c.args.self.now.part) a (Put left)) (sym c.in-Put.is) put
