-- A pipeline as contracts see it.
use Rattle.pg_hub.specs.declared.pipeline.Pipeline.TheInside.{Inside}
use Rattle.pg_hub.specs.Standing.{InFlight}

-- what its fields hold
abbrev pub in_flight : Inside → InFlight
in_flight p = record {
  mail = p.replies.boxes;
  outgoing = p.outbox.rests;
  unsent = p.unsent;
  whole = p.outbox.whole;
  started = p.started;
  finished = p.replies.finished;
  statements = p.statements;
  portals = p.portals;
  catalog = p.catalog;
  closed = p.closed;
  failed = p.failed;
  touched = p.touched;
}
