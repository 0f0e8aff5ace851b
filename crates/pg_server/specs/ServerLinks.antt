-- A link to a server: what it gives and its fault follow from the bytes taken, no call is held back, and it never ends. A write takes
-- at most to the end of the first frame that it answers.
use Rattle.std.specs.Prelude.{◌≡◌, ℕ, ◌+◌, ◌-◌, ◌^◌, ◌<◌, ◌≤◌, true, false, List, [], ◌∷◌, ◌++◌, length, take, drop, min, Option, Some, None, refl, if◌then◌else◌}
use Rattle.std.proofs.Math.Nat.{min-le_right, lt-suc_self, zero-lt-suc, lt_of_le_of_lt}
use Rattle.pg_spec.specs.Links.{LinkView}
use Rattle.pg_wire.specs.LinkCalls.{Tells}
use Rattle.pg_wire.specs.Memory.{as_count}
use Rattle.pg_wire.specs.declared.link.LinkRead.{LinkRead}
use Rattle.pg_wire.specs.declared.link.LinkWrite.{LinkWrite}
use Rattle.pg_wire.specs.declared.link.LinkWrite.TheVariants as writes
use Rattle.pg_wire.specs.declared.link.LinkStep.{LinkStep}
use Rattle.pg_wire.specs.declared.link.LinkStep.TheVariants as steps
use Rattle.pg_wire.specs.declared.link.LinkWait.{LinkWait}
use Rattle.pg_server.specs.declared.fault.ServerFault.{ServerFault}
use Rattle.pg_server.specs.declared.fault.ServerFault.TheVariants as faults
use Rattle.pg_server.specs.declared.server_link.ServerLink.{ServerLink}
use Rattle.pg_server.specs.declared.session.Stage.TheVariants.{Over}
use Rattle.pg_server.specs.ByteLists.{but_last, is_ended}
use Rattle.pg_server.specs.Crossings as crossing
use Rattle.pg_server.specs.Crossings.{Crossed, crossed_of, untouched, took, took_less, failed}
use Rattle.pg_server.specs.FaultNumbers.{fault_numbers}
use Rattle.pg_server.specs.Handlers.{Step}
use Rattle.pg_server.specs.Reaches.{reach_of}
use Rattle.pg_server.specs.Servers.{Heard, heard_of, fed_with}
use Rattle.pg_server.specs.Standings.{Front, Waits, Says, Stops, front}

-- what a link to a server holds; `S` are the states of its handler
pub record Served (S : Type 0) : Type 0 where
  pub heard : Heard S
  pub crossed : Crossed
  -- the fault of the server that ended it
  pub fault : Option ServerFault

-- a link to this server that was just made
abbrev pub new_link : {S : Type 0} → Heard S → (cut room : ℕ) → Served S
new_link heard cut room = record { heard = heard; crossed = untouched cut room; fault = None }

-- no call fails before the server has a fault
abbrev pub FailsByFault : {S : Type 0} → Served S → Type 0
FailsByFault m = m.fault ≡ None → m.crossed.faults ≡ 0

-- the first fault stays
abbrev pub first_fault : Option ServerFault → Option ServerFault → Option ServerFault
first_fault None later = later
first_fault (Some fault) later = Some fault

-- the fault that it has once it took these bytes too
abbrev pub fault_by : {S : Type 0} → Step S → Served S → List ℕ → Option ServerFault
fault_by step m [] = m.fault
fault_by step m (b ∷ bytes) = first_fault m.fault (fed_with step m.heard (b ∷ bytes)).fault

-- What is said to bytes that come. A number that is no byte is never taken: where one stands behind them, the fault by these bytes is
-- told behind what is said, in numbers.
abbrev pub told_by : {S : Type 0} → Step S → Served S → List ℕ → List ℕ
told_by step m bytes =
    if is_ended bytes then (fed_with step m.heard (but_last bytes)).said ++ fault_numbers (fault_by step m (but_last bytes))
    else (fed_with step m.heard bytes).said

-- All that it gives, by the bytes taken: what was said already, and what is said to the bytes from here. So its fault by them follows
-- from its course, too.
abbrev pub course_of : {S : Type 0} → Step S → Served S → List ℕ → List ℕ
course_of step m taken = (m.crossed.given ++ m.crossed.due) ++ told_by step m (drop (length m.crossed.taken) taken)

-- it tells its bytes, those that are due and its course, and is steady
abbrev pub link_of : {S : Type 0} → Step S → Served S → LinkView
link_of step m = record {
  given = Some m.crossed.given;
  taken = Some m.crossed.taken;
  plan = None;
  course = Some (course_of step m);
  due = Some m.crossed.due;
  steady = true;
  promised = m.crossed.promised;
  flushed = m.crossed.flushed;
  shut = m.crossed.shut;
  faults = as_count m.crossed.faults;
  quiet = as_count m.crossed.quiet;
  dry = as_count m.crossed.dry;
  blocked = 0;
  lulls = as_count m.crossed.lulls;
  ends = 0;
}

-- a call that changes nothing but what crossed
abbrev pub Crosses : {S : Type 0} → (old new : Served S) → Type 0
Crosses old new = new ≡ record old { crossed = new.crossed }

-- what `read` answers and does
abbrev pub Reads : {S : Type 0} → (old new : Served S) → List ℕ → LinkRead → Type 0
Reads old new out answer = Crosses old new × crossing.Reads old.crossed new.crossed out answer

-- what `wait` answers and does
abbrev pub AwaitsBytes : {S : Type 0} → (old new : Served S) → LinkWait → Type 0
AwaitsBytes old new answer = Crosses old new × crossing.Waits old.crossed new.crossed answer

-- the bytes that a write can take
abbrev pub offered : {S : Type 0} → Served S → List ℕ → List ℕ
offered m bytes = take (min m.crossed.room (length bytes)) bytes

-- what stands in front by these bytes
abbrev pub front_by : {S : Type 0} → Step S → Served S → List ℕ → Front S
front_by step m bytes = front step m.heard.standing (m.heard.left ++ bytes)

-- A write took n of these bytes: all where no frame is whole by them, else the frame, which is answered. What the server refuses is
-- taken too, without an answer, and the fault is kept.
abbrev pub TakesBy : {S : Type 0} → (old new : Served S) → (bytes : List ℕ) → ℕ → Front S → Type 0
TakesBy old new bytes n Waits =
    (n ≡ length bytes) × (new ≡ record old { heard = record old.heard { left = old.heard.left ++ bytes }; crossed = took old.crossed bytes [] })
TakesBy old new bytes n (Says said next rest) =
    (1 ≤ n) × (n + length rest ≡ length bytes)
    × (new ≡ record old { heard = record { standing = next; left = [] }; crossed = took old.crossed (take n bytes) said })
TakesBy old new bytes n (Stops fault) =
    (n ≡ reach_of old.heard.standing.stage old.heard.left bytes) × (new.heard.standing.stage ≡ Over) × (new.crossed ≡ took old.crossed (take n bytes) [])
    × (new.fault ≡ Some fault)

-- What `write` answers and does with the bytes that it can take, where the server has no fault. Want of memory changes nothing.
abbrev pub TakesIn : {S : Type 0} → (old new : Served S) → (bytes : List ℕ) → Front S → LinkWrite → Type 0
TakesIn old new bytes found (writes.Took n) = TakesBy old new bytes n found
TakesIn old new bytes found writes.OutOfMemory = new ≡ old
TakesIn old new bytes found other = ⊥

-- behind a fault it fails
abbrev pub TakesAt : {S : Type 0} → Step S → (old new : Served S) → (bytes : List ℕ) → LinkWrite → Option ServerFault → Type 0
TakesAt step old new bytes r None = TakesIn old new bytes (front_by step old bytes) r
TakesAt step old new bytes r (Some fault) = (r ≡ writes.Failed) × (new ≡ record old { crossed = failed old.crossed })

-- what `write` answers and does
abbrev pub TakesUp : {S : Type 0} → Step S → (old new : Served S) → List ℕ → LinkWrite → Type 0
TakesUp step old new bytes r = TakesAt step old new (offered old bytes) r old.fault

-- what `flush` and `shutdown` answer and do: behind a fault they fail
abbrev pub DoesAt : {S : Type 0} → (old new : Served S) → (done : Crossed) → LinkStep → Option ServerFault → Type 0
DoesAt old new done r None = (r ≡ steps.Done) × (new ≡ record old { crossed = done })
DoesAt old new done r (Some fault) = (r ≡ steps.Failed) × (new ≡ record old { crossed = failed old.crossed })

-- what `flush` answers and does: all that was taken is passed on
abbrev pub Flushes : {S : Type 0} → (old new : Served S) → LinkStep → Type 0
Flushes old new r = DoesAt old new (record old.crossed { flushed = true }) r old.fault

-- what `shutdown` answers and does: the writing side is ended
abbrev pub EndsWriting : {S : Type 0} → (old new : Served S) → LinkStep → Type 0
EndsWriting old new r = DoesAt old new (record old.crossed { shut = true }) r old.fault

-- what a write does about a fault of the server, where it took n bytes already
abbrev pub StopsBy : {S : Type 0} → (old new : Served S) → (n : ℕ) → ServerFault → LinkWrite → Type 0
StopsBy old new n faults.OutOfMemory r = (r ≡ writes.OutOfMemory) × (new ≡ record old { crossed = took_less old.crossed n })
StopsBy old new n fault r =
    (r ≡ writes.Took n) × (new ≡ record old { crossed = record old.crossed { promised = false; flushed = false }; fault = Some fault })

-- a promise is kept
abbrev pub KeepsItsPromise : {S : Type 0} → Served S → Type 0
KeepsItsPromise m = crossing.KeepsItsPromise m.crossed

-- ---- the fields

-- what contracts see of it
abbrev pub served_of : {H S : Type 0} → (H → S) → ServerLink H → Served S
served_of state link = record { heard = heard_of state link.server; crossed = crossed_of link.traffic; fault = link.fault }

-- counts fit
none-fits : 0 < 2 ^ 64
none-fits = zero-lt-suc (2 ^ 64 - 1)

count-fits : (n : ℕ) → as_count n < 2 ^ 64
count-fits n = lt_of_le_of_lt (min-le_right n (2 ^ 64 - 1)) (lt-suc_self (2 ^ 64 - 1))

-- what it tells fits together
pub tells : {S : Type 0} (step : Step S) (m : Served S) → Tells (link_of step m)
tells step m = record {
  by_plan = tt;
  steady = λ steady. (m.crossed.due, refl);
  no_fault = tt;
  no_end = tt;
  ended = tt;
  counts = record {
    faults = count-fits m.crossed.faults;
    quiet = count-fits m.crossed.quiet;
    dry = count-fits m.crossed.dry;
    blocked = none-fits;
    lulls = count-fits m.crossed.lulls;
    ends = none-fits;
  };
}
