use Rattle.std.proofs.Common.{arith, length, length-drop, ap}
use Rattle.std.proofs.lemmas.List.{take_rest}
use Rattle.pg_tool.proofs.Growing.{grew-next, rose-later, front-of}
use Rattle.pg_tool.proofs.writing.write_all.Goals as goal

pub loop-at-preserved : goal.loop-at-preserved
loop-at-preserved g c = record {
  within = omega (arith, c.in-Took.ensures.answer.fits, ap length (take_rest c.args.text.now c.loop-at.at), length-drop c.loop-at.at c.args.text.now);
  written = grew-next _ _ _ c.args.text.now _ c.loop-at.at c.in-Took.n (take_rest c.args.text.now c.loop-at.at) c.loop-at.invariant.written c.in-Took.ensures.answer.written;
  faults = omega (arith, c.write.ensures.count);
}

pub returns-in-Failed : goal.returns-in-Failed
returns-in-Failed g c = (
  rose-later _ _ _ c.loop-at.invariant.faults c.in-Failed.ensures.answer.0,
  front-of (g.K.Sink.state c.args.sink.now) (g.K.Sink.state c.loop-at.sink) (g.K.Sink.state c.write.new.self) c.args.text.now c.loop-at.at c.loop-at.invariant.written c.in-Failed.ensures.answer.1,
)

pub returns-in-OutOfMemory : goal.returns-in-OutOfMemory
returns-in-OutOfMemory g c = front-of (g.K.Sink.state c.args.sink.now) (g.K.Sink.state c.loop-at.sink) (g.K.Sink.state c.write.new.self) c.args.text.now c.loop-at.at c.loop-at.invariant.written c.in-OutOfMemory.ensures.answer.1
