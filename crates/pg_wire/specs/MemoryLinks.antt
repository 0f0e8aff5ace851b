-- What the fields of a link in memory hold.
use Rattle.std.specs.Prelude.{◌≡◌, ◌<◌}
use Rattle.pg_spec.specs.Sent.{turns_given}
use Rattle.pg_wire.specs.declared.memory_link.MemoryLink.TheInside.{Inside}
use Rattle.pg_wire.specs.Giving.{entries_of, given_of, IsGiving}
use Rattle.pg_wire.specs.Memory.{Memory, KeepsItsPromise}
use Rattle.pg_wire.specs.Turning.{Counts}

-- what contracts see of it
abbrev pub memory_of : Inside → Memory
memory_of link = record {
  entries = entries_of link.giving;
  ends = link.ends;
  cut = link.cut;
  room = link.room;
  given = given_of link.giving;
  taken = link.taken.items;
  promised = link.promised;
  flushed = link.flushed;
  shut = link.shut;
  quiet = link.quiet;
  dry = link.dry;
  lulls = link.lulls;
  ended = link.ended;
}

-- What is given stands in the plan, the turns of the bytes taken were counted, and a promise is kept.
pub record IsMemory (link : Inside) : Type 0 where
  pub giving : IsGiving link.giving
  pub counts : Counts link.taken.items link.turning
  pub turns : link.turning.turns ≡ turns_given link.taken.items
  pub promise : KeepsItsPromise (memory_of link)
  pub cut : 0 < link.cut
  pub room : 0 < link.room
