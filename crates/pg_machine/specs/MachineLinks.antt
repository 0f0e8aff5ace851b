-- A link to a machine: what it gives follows from the bytes taken; it never fails and never ends, and no call is held back.
use Rattle.std.specs.Prelude.{◌≡◌, ℕ, ◌-◌, ◌^◌, ◌<◌, ◌≤◌, Bool, true, false, not, List, [], ◌++◌, length, take, drop, min, Some, None, refl}
use Rattle.pg_spec.specs.Batches.{is_nothing}
use Rattle.pg_spec.specs.Links.{LinkView, next_count}
use Rattle.pg_wire.specs.LinkCalls.{Tells}
use Rattle.pg_wire.specs.Memory.{as_count}
use Rattle.std.proofs.Math.Nat.{min-le_right, lt-suc_self, zero-lt-suc, lt_of_le_of_lt}
use Rattle.pg_wire.specs.declared.link.LinkRead.{LinkRead}
use Rattle.pg_wire.specs.declared.link.LinkRead.TheVariants as reads
use Rattle.pg_wire.specs.declared.link.LinkWrite.{LinkWrite}
use Rattle.pg_wire.specs.declared.link.LinkWrite.TheVariants as writes
use Rattle.pg_wire.specs.declared.link.LinkStep.{LinkStep}
use Rattle.pg_wire.specs.declared.link.LinkStep.TheVariants as steps
use Rattle.pg_wire.specs.declared.link.LinkWait.{LinkWait}
use Rattle.pg_wire.specs.declared.link.LinkWait.TheVariants as waits
use Rattle.pg_machine.specs.Sessions.{gives}
use Rattle.pg_machine.specs.declared.machine_link.MachineLink.TheInside.{Inside}
use Rattle.pg_machine.specs.Machines.{Table, service_of}
use Rattle.pg_machine.specs.Feeding.{Feeds}

-- what a link to a machine holds
pub record Served : Type 0 where
  pub table : Table
  pub startup : List ℕ
  -- how many bytes a read gives and a write takes, at most
  pub cut : ℕ
  pub room : ℕ
  -- all bytes that were given and taken
  pub given : List ℕ
  pub taken : List ℕ
  -- a wait was ready, and since then nothing was given or taken
  pub promised : Bool
  -- a flush was done, and since then nothing was taken; the writing side was ended
  pub flushed : Bool
  pub shut : Bool
  -- how often a call wasn't ready, a read wasn't, a wait was in vain
  pub quiet : ℕ
  pub dry : ℕ
  pub lulls : ℕ

-- a link to this machine that was just made
abbrev pub new_link : Table → (startup : List ℕ) → (cut room : ℕ) → Served
new_link table startup cut room = record {
  table = table;
  startup = startup;
  cut = cut;
  room = room;
  given = [];
  taken = [];
  promised = false;
  flushed = false;
  shut = false;
  quiet = 0;
  dry = 0;
  lulls = 0;
}

-- all that it gives, by the bytes taken
abbrev pub course_of : Served → List ℕ → List ℕ
course_of m taken = gives (service_of m.table) 0 m.startup taken

-- the bytes that it may give now
abbrev pub due_in : Served → List ℕ
due_in m = drop (length m.given) (course_of m m.taken)

-- it tells its bytes, those that are due and its course, and is steady
abbrev pub link_of : Served → LinkView
link_of m = record {
  given = Some m.given;
  taken = Some m.taken;
  plan = None;
  course = Some (course_of m);
  due = Some (due_in m);
  steady = true;
  promised = m.promised;
  flushed = m.flushed;
  shut = m.shut;
  faults = 0;
  quiet = as_count m.quiet;
  dry = as_count m.dry;
  blocked = 0;
  lulls = as_count m.lulls;
  ends = 0;
}

-- bytes are due
abbrev pub is_ready : Served → Bool
is_ready m = not (is_nothing (due_in m))

-- a read gave a front of what is due: as much as is cut off at once, as fits, and as is due
pub record GivesFront (old new : Served) (out : List ℕ) (n : ℕ) : Type 0 where
  pub some : 0 < n
  pub count : n ≡ min (min old.cut (length out)) (length (due_in old))
  pub front : take n out ≡ take n (due_in old)
  pub served : new ≡ record old { given = old.given ++ take n (due_in old); promised = false }

-- what `read` answers and does
abbrev pub Reads : Served → Served → List ℕ → LinkRead → Type 0
Reads old new out (reads.Got n) = GivesFront old new out n
Reads old new out reads.NotReady = (due_in old ≡ []) × (new ≡ record old { quiet = next_count old.quiet; dry = next_count old.dry })
Reads old new out other = ⊥

-- what `write` answers and does: it takes as much as it has room for at once; want of memory changes nothing
abbrev pub TakesUp : Served → Served → List ℕ → LinkWrite → Type 0
TakesUp old new bytes (writes.Took n) =
    (n ≡ min old.room (length bytes)) × (new ≡ record old { taken = old.taken ++ take n bytes; promised = false; flushed = false })
TakesUp old new bytes writes.OutOfMemory = new ≡ old
TakesUp old new bytes other = ⊥

-- what `flush` answers: all that was taken is passed on
abbrev pub PassesOn : Served → Served → LinkStep → Type 0
PassesOn old new steps.Done = new ≡ record old { flushed = true }
PassesOn old new other = ⊥

-- what `shutdown` answers: the writing side is ended
abbrev pub EndsWriting : Served → Served → LinkStep → Type 0
EndsWriting old new steps.Done = new ≡ record old { shut = true }
EndsWriting old new other = ⊥

-- what `wait` answers and does
abbrev pub Waits : Served → Served → LinkWait → Type 0
Waits old new waits.Ready = (is_ready old ≡ true) × (new ≡ record old { promised = true })
Waits old new waits.Idle = (is_ready old ≡ false) × (new ≡ record old { quiet = next_count old.quiet; lulls = next_count old.lulls })
Waits old new waits.Failed = ⊥

-- a promise is kept
abbrev pub KeepsItsPromise : Served → Type 0
KeepsItsPromise m = m.promised ≡ true → is_ready m ≡ true

-- ---- the fields

-- what contracts see of it
abbrev pub served_of : Inside → Served
served_of link = record {
  table = link.machine;
  startup = link.startup;
  cut = link.cut;
  room = link.room;
  given = take link.gave link.said.items;
  taken = link.taken.items;
  promised = link.promised;
  flushed = link.flushed;
  shut = link.shut;
  quiet = link.quiet;
  dry = link.dry;
  lulls = link.lulls;
}

-- What was said is what is given in all, a front of it was given, and a promise is kept.
pub record HoldsServed (link : Inside) : Type 0 where
  pub said : link.said.items ≡ gives (service_of link.machine) 0 link.startup link.taken.items
  pub within : link.gave ≤ length link.said.items
  pub fed : Feeds link.machine link.taken.items link.fed
  pub promise : link.promised ≡ true → link.gave < length link.said.items
  pub cut : 0 < link.cut
  pub room : 0 < link.room

-- counts fit
none-fits : 0 < 2 ^ 64
none-fits = zero-lt-suc (2 ^ 64 - 1)

count-fits : (n : ℕ) → as_count n < 2 ^ 64
count-fits n = lt_of_le_of_lt (min-le_right n (2 ^ 64 - 1)) (lt-suc_self (2 ^ 64 - 1))

-- what it tells fits together
pub tells : (m : Served) → Tells (link_of m)
tells m = record {
  by_plan = tt;
  steady = λ steady. (due_in m, refl);
  no_fault = tt;
  no_end = tt;
  ended = tt;
  counts = record {
    faults = none-fits;
    quiet = count-fits m.quiet;
    dry = count-fits m.dry;
    blocked = none-fits;
    lulls = count-fits m.lulls;
    ends = none-fits;
  };
}
