use Rattle.std.proofs.Common.{refl}
use Rattle.pg_streams.proofs.Telling.{none-of}
use Rattle.pg_streams.proofs.Heading.{all-read, fault-told, more-told, one-told}
use Rattle.pg_streams.proofs.heads.Heads.read.Goals as goal

pub returns-in-Ok-None-clause-reads : goal.returns-in-Ok-None-clause-reads
returns-in-Ok-None-clause-reads c =
    all-read c.args.self.now c.loop-message.self (record c.loop-message.self { batch = c.next.new.self }) refl c.loop-message.invariant.reads c.in-Ok-None.field-0 c.in-Ok-None.field-0-is c.in-Ok-None.ensures

pub returns-in-Some-clause-reads : goal.returns-in-Some-clause-reads
returns-in-Some-clause-reads c =
    one-told c.args.self.now c.loop-message.self (record c.loop-message.self { batch = c.next.new.self }) refl c.loop-message.invariant.reads
    c.in-Ok-Some.field-0 c.in-Ok-Some.message c.in-Ok-Some.field-0-is c.in-Ok-Some.ensures c.in_ok-told-in-Ok-Some.field-0 c.in-Some.told c.in-Some.is c.in_ok-told-in-Ok-Some.ensures

pub loop-message-preserved : goal.loop-message-preserved
loop-message-preserved c = record {
  reads =
      more-told c.args.self.now c.loop-message.self (record c.loop-message.self { batch = c.next.new.self }) refl c.loop-message.invariant.reads
      c.in-Ok-Some.field-0 c.in-Ok-Some.message c.in-Ok-Some.field-0-is c.in-Ok-Some.ensures c.in_ok-told-in-Ok-Some.field-0 (none-of c.in_ok-told-in-Ok-Some.field-0 c.in_default.not-Some) c.in_ok-told-in-Ok-Some.ensures;
  id = c.loop-message.invariant.id;
}

pub returns-in-Err-clause-reads : goal.returns-in-Err-clause-reads
returns-in-Err-clause-reads c =
    fault-told c.args.self.now c.loop-message.self (record c.loop-message.self { batch = c.next.new.self }) refl c.loop-message.invariant.reads c.in-Err.fault c.in_ok-refused-in-Err.field-0 c.in_ok-refused-in-Err.ensures c.in-Err.ensures
