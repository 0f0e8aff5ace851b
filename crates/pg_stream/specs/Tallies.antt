-- What a link counts and promises, call by call.
use Rattle.std.specs.Prelude.{ℕ, ◌-◌, ◌^◌, min, true, false, None, if◌then◌else◌}
use Rattle.pg_spec.specs.Links.{LinkView, next_count}
use Rattle.pg_stream.specs.declared.tally.Tally.{Tally}
use Rattle.pg_wire.specs.declared.link.LinkRead.{LinkRead}
use Rattle.pg_wire.specs.declared.link.LinkRead.TheVariants as reads
use Rattle.pg_wire.specs.declared.link.LinkWrite.{LinkWrite}
use Rattle.pg_wire.specs.declared.link.LinkWrite.TheVariants as writes
use Rattle.pg_wire.specs.declared.link.LinkStep.{LinkStep}
use Rattle.pg_wire.specs.declared.link.LinkStep.TheVariants as steps
use Rattle.pg_wire.specs.declared.link.LinkWait.{LinkWait}
use Rattle.pg_wire.specs.declared.link.LinkWait.TheVariants as waits

-- nothing was promised or done, and no call went amiss
abbrev pub new_tally : Tally
new_tally = record { promised = false; flushed = false; shut = false; faults = 0; quiet = 0; dry = 0; blocked = 0; lulls = 0; ends = 0 }

-- a call failed
abbrev pub failed : Tally → Tally
failed t = record t { faults = next_count t.faults }

-- a call wasn't ready, which is a lull where it was promised to be
abbrev pub not_ready : Tally → Tally
not_ready t = record t { quiet = next_count t.quiet; lulls = if t.promised then next_count t.lulls else t.lulls }

-- a write, a flush or a shutdown wasn't ready
abbrev pub held_back : Tally → Tally
held_back t = record (not_ready t) { blocked = next_count t.blocked }

-- what a read leaves by its answer: a promise lasts until bytes are given
abbrev pub after_read : LinkRead → Tally → Tally
after_read (reads.Got n) t = record t { promised = false }
after_read reads.End t = record t { ends = next_count t.ends }
after_read reads.NotReady t = record (not_ready t) { dry = next_count t.dry }
after_read reads.Failed t = failed t

-- what a write leaves by its answer: what was taken isn't flushed yet
abbrev pub after_write : LinkWrite → Tally → Tally
after_write (writes.Took n) t = record t { promised = false; flushed = false }
after_write writes.NotReady t = held_back t
after_write writes.Failed t = failed t
after_write writes.OutOfMemory t = t

-- what a flush leaves by its answer
abbrev pub after_flush : LinkStep → Tally → Tally
after_flush steps.Done t = record t { flushed = true }
after_flush steps.NotReady t = held_back t
after_flush steps.Failed t = failed t

-- what a shutdown leaves by its answer
abbrev pub after_shutdown : LinkStep → Tally → Tally
after_shutdown steps.Done t = record t { shut = true }
after_shutdown steps.NotReady t = held_back t
after_shutdown steps.Failed t = failed t

-- what a wait leaves by its answer: a wait in vain is a lull
abbrev pub after_wait : LinkWait → Tally → Tally
after_wait waits.Ready t = record t { promised = true }
after_wait waits.Idle t = record t { quiet = next_count t.quiet; lulls = next_count t.lulls }
after_wait waits.Failed t = failed t

-- a number as a count, which stays at its last value
abbrev pub as_count : ℕ → ℕ
as_count n = min n (2 ^ 64 - 1)

-- what a link that tells no bytes tells
abbrev pub told : Tally → LinkView
told t = record {
  given = None;
  taken = None;
  plan = None;
  course = None;
  due = None;
  steady = false;
  promised = t.promised;
  flushed = t.flushed;
  shut = t.shut;
  faults = as_count t.faults;
  quiet = as_count t.quiet;
  dry = as_count t.dry;
  blocked = as_count t.blocked;
  lulls = as_count t.lulls;
  ends = as_count t.ends;
}
