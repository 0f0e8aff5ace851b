use Rattle.std.proofs.Common.{◌≡◌, ◌+◌, ◌-◌, ◌≤◌, ℕ, false}
use Rattle.pg_spec.specs.Links.{LinkView}
use Rattle.pg_spec.specs.Startup.{Login}
use Rattle.pg_wire.specs.LinkCalls.{Keeps}
use Rattle.pg_connect.specs.Calm.{StaysCalm}
use Rattle.pg_connect.specs.Passes.{Untouched}
use Rattle.pg_startup.specs.Startups.{Opening}
use Rattle.pg_startup.specs.StartupPolls.{SameStart, start_left, step_of}
use Rattle.pg_startup.proofs.startup.Startup.poll.Given as goal

abbrev pub invariant-pieces : goal.invariant-pieces
invariant-pieces g l = record {
  within : l.self.bytes.given ≤ l.self.bytes.max_bytes;
  limit : l.self.bytes.max_bytes ≡ l.initial.self.bytes.max_bytes;
  nearer : start_left l.self + step_of l.self.bytes.moved ≤ start_left l.initial.self + step_of l.initial.self.bytes.moved;
  still : l.self.bytes.moved ≡ false → (l.initial.self.bytes.moved ≡ false) × Untouched (g.L.Link.view l.initial.link) (g.L.Link.view l.link);
  link : Keeps (g.L.Link.view l.initial.link) (g.L.Link.view l.link);
  same : SameStart l.initial.self l.self;
  opening : (login : Login) (asked : ℕ) (begin : LinkView) → Opening login asked begin (g.L.Link.view l.initial.link) l.initial.self →
      Opening login asked begin (g.L.Link.view l.link) l.self;
  calm : StaysCalm (g.L.Link.view l.initial.link) (g.L.Link.view l.link);
  quiet : (g.L.Link.view l.link).quiet ≡ (g.L.Link.view l.initial.link).quiet;
}

abbrev pub decreases-pieces : goal.decreases-pieces
decreases-pieces g l = l.self.bytes.max_bytes - l.self.bytes.given
