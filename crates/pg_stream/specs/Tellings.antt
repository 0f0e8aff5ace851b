-- A link that tells the bytes that crossed it, round one that may tell none.
use Rattle.std.specs.Prelude.{None, Some}
use Rattle.pg_spec.specs.Links.{LinkView}
use Rattle.pg_stream.specs.declared.crossed.Crossed.{Crossed}
use Rattle.pg_stream.specs.declared.told_link.Told.{Told}
use Rattle.pg_wire.specs.LinkCalls.{Tells}

-- what the link inside tells, and the bytes that crossed; neither a plan nor a course
abbrev pub telling : LinkView → (given taken : Crossed) → LinkView
telling view given taken = record view { given = Some given.bytes; taken = Some taken.bytes; plan = None; course = None }

-- what it tells
abbrev pub view_of : {L : Type 0} → (L → LinkView) → Told L → LinkView
view_of view told = telling (view told.link) told.given told.taken

-- what it tells fits together, as what the link inside tells does
pub tells : (view : LinkView) (given taken : Crossed) → Tells view → Tells (telling view given taken)
tells view given taken inside = record {
  by_plan = tt;
  steady = inside.steady;
  no_fault = tt;
  no_end = tt;
  ended = tt;
  counts = record {
    faults = inside.counts.faults;
    quiet = inside.counts.quiet;
    dry = inside.counts.dry;
    blocked = inside.counts.blocked;
    lulls = inside.counts.lulls;
    ends = inside.counts.ends;
  };
}
