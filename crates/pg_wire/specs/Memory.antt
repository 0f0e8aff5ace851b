-- A link in memory: what it will give is known, it never fails, and no call is held back.
use Rattle.std.specs.Prelude.{◌≡◌, ℕ, ◌-◌, ◌^◌, ◌≤◌, ◌<◌, nat_le, ◌==◌, ◌||◌, ◌&&◌, Bool, true, false, not, List, [], ◌++◌, length, take, min, Some, refl, if◌then◌else◌}
use Rattle.std.proofs.Common.{ap, arith}
use Rattle.std.proofs.Math.Nat.{min-le_right, lt-suc_self, zero-lt-suc, lt_of_le_of_lt}
use Rattle.std.proofs.lemmas.Bool.{leb-true}
use Rattle.std.specs.List.{concat}
use Rattle.pg_spec.specs.Batches.{is_nothing}
use Rattle.pg_spec.specs.Links.{Plan, LinkView, next_count, course_of, due_by}
use Rattle.pg_wire.specs.LinkCalls.{Tells}
use Rattle.pg_wire.specs.declared.link.LinkRead.{LinkRead}
use Rattle.pg_wire.specs.declared.link.LinkRead.TheVariants as reads
use Rattle.pg_wire.specs.declared.link.LinkWrite.{LinkWrite}
use Rattle.pg_wire.specs.declared.link.LinkWrite.TheVariants as writes
use Rattle.pg_wire.specs.declared.link.LinkStep.{LinkStep}
use Rattle.pg_wire.specs.declared.link.LinkStep.TheVariants as steps
use Rattle.pg_wire.specs.declared.link.LinkWait.{LinkWait}
use Rattle.pg_wire.specs.declared.link.LinkWait.TheVariants as waits

-- what a link in memory holds
pub record Memory : Type 0 where
  -- what it gives, entry by entry, and whether it ends behind the last
  pub entries : List (List ℕ)
  pub ends : Bool
  -- how many bytes a read gives and a write takes, at most
  pub cut : ℕ
  pub room : ℕ
  -- all bytes that were given and taken
  pub given : List ℕ
  pub taken : List ℕ
  -- a wait was ready, and since then nothing was given or taken
  pub promised : Bool
  -- a flush was done, and since then nothing was taken; the writing side was ended
  pub flushed : Bool
  pub shut : Bool
  -- how often a call wasn't ready, a read wasn't, a wait was in vain, the input ended
  pub quiet : ℕ
  pub dry : ℕ
  pub lulls : ℕ
  pub ended : ℕ

-- what it will give
abbrev pub plan_of : Memory → Plan
plan_of m = record { entries = m.entries; ends = m.ends; is_troubled = false }

-- the bytes that it may give now
abbrev pub due_in : Memory → List ℕ
due_in m = due_by (plan_of m) m.given m.taken

-- a number as a count, which stays at its last value
abbrev pub as_count : ℕ → ℕ
as_count n = min n (2 ^ 64 - 1)

-- its input may have ended: all was given, and it ends there
abbrev pub may_have_ended : Memory → Bool
may_have_ended m = m.ends && nat_le (length (concat m.entries)) (length m.given)

-- it tells all, and is steady
abbrev pub link_of : Memory → LinkView
link_of m = record {
  given = Some m.given;
  taken = Some m.taken;
  plan = Some (plan_of m);
  course = Some (course_of (plan_of m));
  due = Some (due_in m);
  steady = true;
  promised = m.promised;
  flushed = m.flushed;
  shut = m.shut;
  faults = 0;
  quiet = as_count m.quiet;
  dry = as_count m.dry;
  blocked = 0;
  lulls = as_count m.lulls;
  ends = if may_have_ended m then as_count m.ended else 0;
}

-- all was given, and it ends there
abbrev pub is_over : Memory → Bool
is_over m = m.ends && (length m.given == length (concat m.entries))

-- a read would give bytes or the end
abbrev pub is_ready : Memory → Bool
is_ready m = not (is_nothing (due_in m)) || is_over m

-- a read gave a front of what is due: as much as is cut off at once, as fits, and as is due
pub record GivesFront (old new : Memory) (out : List ℕ) (n : ℕ) : Type 0 where
  pub some : 0 < n
  pub count : n ≡ min (min old.cut (length out)) (length (due_in old))
  pub front : take n out ≡ take n (due_in old)
  pub memory : new ≡ record old { given = old.given ++ take n (due_in old); promised = false }

-- what `read` answers and does
abbrev pub Reads : Memory → Memory → List ℕ → LinkRead → Type 0
Reads old new out (reads.Got n) = GivesFront old new out n
Reads old new out reads.End = (due_in old ≡ []) × (is_over old ≡ true) × (new ≡ record old { ended = next_count old.ended })
Reads old new out reads.NotReady = (due_in old ≡ []) × (is_over old ≡ false) × (new ≡ record old { quiet = next_count old.quiet; dry = next_count old.dry })
Reads old new out reads.Failed = ⊥

-- what `write` answers and does: it takes as much as it has room for at once
abbrev pub TakesUp : Memory → Memory → List ℕ → LinkWrite → Type 0
TakesUp old new bytes (writes.Took n) =
    (n ≡ min old.room (length bytes)) × (new ≡ record old { taken = old.taken ++ take n bytes; promised = false; flushed = false })
TakesUp old new bytes writes.OutOfMemory = new ≡ old
TakesUp old new bytes other = ⊥

-- what `flush` answers: all that was taken is passed on
abbrev pub PassesOn : Memory → Memory → LinkStep → Type 0
PassesOn old new steps.Done = new ≡ record old { flushed = true }
PassesOn old new other = ⊥

-- what `shutdown` answers: the writing side is ended
abbrev pub EndsWriting : Memory → Memory → LinkStep → Type 0
EndsWriting old new steps.Done = new ≡ record old { shut = true }
EndsWriting old new other = ⊥

-- what `wait` answers and does
abbrev pub Waits : Memory → Memory → LinkWait → Type 0
Waits old new waits.Ready = (is_ready old ≡ true) × (new ≡ record old { promised = true })
Waits old new waits.Idle = (is_ready old ≡ false) × (new ≡ record old { quiet = next_count old.quiet; lulls = next_count old.lulls })
Waits old new waits.Failed = ⊥

-- a promise is kept
abbrev pub KeepsItsPromise : Memory → Type 0
KeepsItsPromise m = m.promised ≡ true → is_ready m ≡ true

-- counts fit
none-fits : 0 < 2 ^ 64
none-fits = zero-lt-suc (2 ^ 64 - 1)

count-fits : (n : ℕ) → as_count n < 2 ^ 64
count-fits n = lt_of_le_of_lt (min-le_right n (2 ^ 64 - 1)) (lt-suc_self (2 ^ 64 - 1))

ends-fit : (ended : Bool) (n : ℕ) → (if ended then as_count n else 0) < 2 ^ 64
ends-fit true n = count-fits n
ends-fit false n = none-fits

-- only where the plan has an end, behind the last entry
ends-behind : (ends : Bool) (size given n : ℕ) → 0 < (if ends && nat_le size given then as_count n else 0) → size ≤ given
ends-behind ends size given n some = behind ends (nat_le size given) some refl
  where
    behind : (ends all : Bool) → 0 < (if ends && all then as_count n else 0) → nat_le size given ≡ all → size ≤ given
    behind true true some all = leb-true size given all
    behind true false some all = omega (arith, some)
    behind false all some is = omega (arith, some)

-- what it tells fits together
pub tells : (m : Memory) → Tells (link_of m)
tells m = record {
  by_plan = (refl, λ calm. refl);
  steady = λ steady. (due_in m, refl);
  no_fault = λ calm. refl;
  no_end = λ never. ap (λ (ends : Bool). if ends && nat_le (length (concat m.entries)) (length m.given) then as_count m.ended else 0) never;
  ended = λ some. ends-behind m.ends (length (concat m.entries)) (length m.given) m.ended some;
  counts = record {
    faults = none-fits;
    quiet = count-fits m.quiet;
    dry = count-fits m.dry;
    blocked = none-fits;
    lulls = count-fits m.lulls;
    ends = ends-fit (may_have_ended m) m.ended;
  };
}
