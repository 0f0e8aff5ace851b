-- What crosses a link to a server, and its counts.
use Rattle.std.specs.Prelude.{◌≡◌, ℕ, ◌-◌, ◌<◌, Bool, true, false, List, [], ◌++◌, length, take, drop, min}
use Rattle.pg_spec.specs.Batches.{is_nothing}
use Rattle.pg_spec.specs.Links.{next_count}
use Rattle.pg_wire.specs.declared.link.LinkRead.{LinkRead}
use Rattle.pg_wire.specs.declared.link.LinkRead.TheVariants as reads
use Rattle.pg_wire.specs.declared.link.LinkWait.{LinkWait}
use Rattle.pg_wire.specs.declared.link.LinkWait.TheVariants as waits
use Rattle.pg_server.specs.Answers.{answer_bytes}
use Rattle.pg_server.specs.declared.traffic.Traffic.{Traffic}

-- what crossed a link, and its counts
pub record Crossed : Type 0 where
  -- how many bytes a read gives and a write takes, at most
  pub cut : ℕ
  pub room : ℕ
  -- all bytes that were given and taken, and those that were said and not given
  pub given : List ℕ
  pub taken : List ℕ
  pub due : List ℕ
  -- a wait was ready, and since then nothing was given or taken
  pub promised : Bool
  -- a flush was done, and since then nothing was taken; the writing side was ended
  pub flushed : Bool
  pub shut : Bool
  -- how often a call failed, wasn't ready, a read wasn't, a wait was in vain
  pub faults : ℕ
  pub quiet : ℕ
  pub dry : ℕ
  pub lulls : ℕ

-- nothing crossed
abbrev pub untouched : (cut room : ℕ) → Crossed
untouched cut room = record {
  cut = cut;
  room = room;
  given = [];
  taken = [];
  due = [];
  promised = false;
  flushed = false;
  shut = false;
  faults = 0;
  quiet = 0;
  dry = 0;
  lulls = 0;
}

-- bytes were taken, and this is said to them
abbrev pub took : Crossed → (bytes said : List ℕ) → Crossed
took c bytes said = record c { taken = c.taken ++ bytes; due = c.due ++ said; promised = false; flushed = false }

-- the last n bytes weren't taken
abbrev pub took_less : Crossed → (n : ℕ) → Crossed
took_less c n = record c { taken = take (length c.taken - n) c.taken }

-- a call failed
abbrev pub failed : Crossed → Crossed
failed c = record c { faults = next_count c.faults }

-- a read gave a front of what is due: as much as is cut off at once, as fits, and as is due
pub record GivesFront (old new : Crossed) (out : List ℕ) (n : ℕ) : Type 0 where
  pub some : 0 < n
  pub count : n ≡ min (min old.cut (length out)) (length old.due)
  pub front : take n out ≡ take n old.due
  pub crossed : new ≡ record old { given = old.given ++ take n old.due; due = drop n old.due; promised = false }

-- what `read` answers and does
abbrev pub Reads : Crossed → Crossed → List ℕ → LinkRead → Type 0
Reads old new out (reads.Got n) = GivesFront old new out n
Reads old new out reads.NotReady = (old.due ≡ []) × (new ≡ record old { quiet = next_count old.quiet; dry = next_count old.dry })
Reads old new out other = ⊥

-- what `wait` answers and does
abbrev pub Waits : Crossed → Crossed → LinkWait → Type 0
Waits old new waits.Ready = (is_nothing old.due ≡ false) × (new ≡ record old { promised = true })
Waits old new waits.Idle = (old.due ≡ []) × (new ≡ record old { quiet = next_count old.quiet; lulls = next_count old.lulls })
Waits old new waits.Failed = ⊥

-- a promise is kept
abbrev pub KeepsItsPromise : Crossed → Type 0
KeepsItsPromise c = c.promised ≡ true → is_nothing c.due ≡ false

-- ---- the fields

-- what was said and not given
abbrev pub due_of : Traffic → List ℕ
due_of t = drop t.gave t.said.items ++ drop t.over (answer_bytes t.last)

-- what contracts see of it
abbrev pub crossed_of : Traffic → Crossed
crossed_of t = record {
  cut = t.cut;
  room = t.room;
  given = take t.gave t.said.items ++ take t.over (answer_bytes t.last);
  taken = t.taken.items;
  due = due_of t;
  promised = t.promised;
  flushed = t.flushed;
  shut = t.shut;
  faults = t.faults;
  quiet = t.quiet;
  dry = t.dry;
  lulls = t.lulls;
}
