use Rattle.std.proofs.Common.{◌≡◌, ◌≤◌, ◌+◌, ◌*◌, if◌then◌else◌, true, length}
use Rattle.std.specs.Prelude.{IsTrue}
use Rattle.pg_spec.specs.Links.{LinkView}
use Rattle.pg_wire.specs.LinkCalls.{Keeps}
use Rattle.pg_connect.specs.Calm.{StaysCalm}
use Rattle.pg_startup.specs.SslRequests.{Asking}
use Rattle.pg_tool.proofs.required.ask.Given as goal

abbrev pub invariant-polls : goal.invariant-polls
invariant-polls g l = record {
  same : l.request.bytes.max_bytes ≡ l.initial.request.bytes.max_bytes;
  within : l.request.bytes.given ≤ l.request.bytes.max_bytes;
  asking : (begin : LinkView) → Asking begin (g.L.Link.view l.initial.link) l.initial.request → Asking begin (g.L.Link.view l.link) l.request;
  link : Keeps (g.L.Link.view l.initial.link) (g.L.Link.view l.link);
  promised : l.waited ≡ true → IsTrue (g.L.Link.view l.link).promised;
  calm : StaysCalm (g.L.Link.view l.initial.link) (g.L.Link.view l.link);
}

abbrev pub decreases-polls : goal.decreases-polls
decreases-polls g l = 2 * length l.request.bytes.unsent.items + (if l.waited then 0 else 1)
