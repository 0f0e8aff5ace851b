use Rattle.std.proofs.Common.{Ok, Err, refl, sym, ap}
use Rattle.std.proofs.Math.Bool.{or-true}
use Rattle.pg_streams.specs.Collecting.{EndFirst, NoItemFirst, family_behind}
use Rattle.pg_streams.specs.declared.giving.Told.{Told}
use Rattle.pg_streams.specs.declared.giving.Told.TheVariants.{Item}
use Rattle.pg_streams.proofs.Closing.{end-settled, error-settled}
use Rattle.pg_streams.proofs.Going.{goes-nowhere}
use Rattle.pg_streams.proofs.items.Items.settle.Goals as goal

pub returns-in-Ok-clause-gives : goal.returns-in-Ok-clause-gives
returns-in-Ok-clause-gives g c = end-settled g.met.D.Desk.stays g.met.D.Desk.joins g.G.Giving.tells g.G.Giving.with_item g.G.Giving.at_end c.args.self.now c.take.result c.take.ensures.value (Ok tt) c.args.told c.in-Ends.is c.in-Ok.ensures (EndFirst c.args.self.now) (refl, refl)

pub returns-in-Err-clause-gives : goal.returns-in-Err-clause-gives
returns-in-Err-clause-gives g c = end-settled g.met.D.Desk.stays g.met.D.Desk.joins g.G.Giving.tells g.G.Giving.with_item g.G.Giving.at_end c.args.self.now c.take.result c.take.ensures.value (Err c.in-Err.error) c.args.told c.in-Ends.is c.in-Err.ensures (NoItemFirst c.args.self.now) (tt, refl)

pub returns-in-Ok-hang_up-clause-gives : goal.returns-in-Ok-hang_up-clause-gives
returns-in-Ok-hang_up-clause-gives g c =
    error-settled g.met.D.Desk.stays g.met.D.Desk.joins g.G.Giving.tells g.G.Giving.with_item g.G.Giving.at_end c.args.self.now c.take-in-Fails.result c.take-in-Fails.ensures.value (Ok tt) c.args.told c.in-Fails.error c.in-Fails.is c.in-Ok-hang_up.ensures (NoItemFirst c.args.self.now) (tt, refl)

pub returns-in-Err-hang_up-clause-gives : goal.returns-in-Err-hang_up-clause-gives
returns-in-Err-hang_up-clause-gives g c =
    error-settled g.met.D.Desk.stays g.met.D.Desk.joins g.G.Giving.tells g.G.Giving.with_item g.G.Giving.at_end c.args.self.now c.take-in-Fails.result c.take-in-Fails.ensures.value (Err c.in-Err-hang_up.error) c.args.told c.in-Fails.error c.in-Fails.is c.in-Err-hang_up.ensures (NoItemFirst c.args.self.now) (tt, refl)

pub returns-in-Item-clause-gives : goal.returns-in-Item-clause-gives
returns-in-Item-clause-gives g c =
    let behind = family_behind g.G.Giving.tells g.G.Giving.with_item g.G.Giving.at_end in
    goes-nowhere g.D.Desk.becomes g.met.D.Desk.stays c.args.stamp c.args.desk.now (behind c.args.told c.args.self.now) (behind (Item c.in-Item.item) c.args.self.now)
    (ap (λ (told : Told _). behind told c.args.self.now) (sym c.in-Item.is))

pub returns-in-Err-hang_up-clause-over : goal.returns-in-Err-hang_up-clause-over
returns-in-Err-hang_up-clause-over g c = sym (or-true c.args.self.now.over)
