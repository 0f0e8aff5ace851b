use Rattle.std.proofs.Common.{◌≡◌, ◌<◌, false}
use Rattle.std.specs.Io.KnownBytes.{Keeps}
use Rattle.pg_stream.specs.declared.heard.Heard.TheVariants.{Interrupted}
use Rattle.pg_stream.proofs.inlet.Inlet.read_for_wait.Given as goal

-- each read so far was interrupted
abbrev pub invariant-loop : goal.invariant-loop
invariant-loop g l = record {
  open_ : l.self.over ≡ false;
  asked : l.self.asked ≡ l.counter;
  interrupted : l.self.interrupted ≡ l.counter;
  heard : 0 < l.counter → l.self.heard ≡ Interrupted;
  kept : Keeps (g.R.Read.remaining l.fn.self.reader) (g.R.Read.remaining l.self.reader);
}
