use Rattle.pg_streams.proofs.Telling.{none-of, all-read, one-told, none-told, fault-told, keeps-read}
use Rattle.pg_streams.proofs.items.Items.read.Goals as goal

pub returns-in-Ok-None-clause-reads : goal.returns-in-Ok-None-clause-reads
returns-in-Ok-None-clause-reads g c =
    all-read g.G.Giving.tells g.G.Giving.hears g.G.Giving.with_item g.G.Giving.at_end g.G.Giving.known c.args.self.now c.loop-message.self c.next.new.self c.loop-message.invariant.reads c.in-Ok-None.field-0 c.in-Ok-None.field-0-is c.in-Ok-None.ensures

pub returns-in-Some-clause-reads : goal.returns-in-Some-clause-reads
returns-in-Some-clause-reads g c =
    one-told g.G.Giving.tells g.G.Giving.hears g.G.Giving.with_item g.G.Giving.at_end g.G.Giving.known c.args.self.now c.loop-message.self c.next.new.self c.loop-message.invariant.reads
    c.in-Ok-Some.field-0 c.in-Ok-Some.message c.in-Ok-Some.field-0-is c.in-Ok-Some.ensures c.message.new.self c.in_ok-told-in-Ok-Some.field-0 c.in-Some.told c.in-Some.is c.in_ok-told-in-Ok-Some.ensures.gives c.in_ok-told-in-Ok-Some.ensures.hears

pub loop-message-preserved : goal.loop-message-preserved
loop-message-preserved g c = record {
  reads =
      none-told g.G.Giving.tells g.G.Giving.hears g.G.Giving.with_item g.G.Giving.at_end g.G.Giving.known c.args.self.now c.loop-message.self c.next.new.self c.loop-message.invariant.reads
      c.in-Ok-Some.field-0 c.in-Ok-Some.message c.in-Ok-Some.field-0-is c.in-Ok-Some.ensures c.message.new.self c.in_ok-told-in-Ok-Some.field-0 (none-of c.in_ok-told-in-Ok-Some.field-0 c.in_default.not-Some)
      c.in_ok-told-in-Ok-Some.ensures.gives c.in_ok-told-in-Ok-Some.ensures.hears;
  keeps = keeps-read g.G.Giving.known c.args.self.now c.loop-message.self c.next.new.self c.message.new.self c.loop-message.invariant.keeps c.message.ensures.known;
}

pub returns-in-Err-clause-reads : goal.returns-in-Err-clause-reads
returns-in-Err-clause-reads g c =
    fault-told g.G.Giving.tells g.G.Giving.hears g.G.Giving.with_item g.G.Giving.at_end g.G.Giving.known c.args.self.now c.loop-message.self c.next.new.self c.loop-message.invariant.reads
    g.met.G.Giving.malformed g.met.G.Giving.refuses c.in-Err.fault c.in_ok-refused-in-Err.field-0 c.in_ok-refused-in-Err.ensures c.in-Err.ensures
