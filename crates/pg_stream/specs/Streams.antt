-- A link over a reader and a writer: what it tells, and what its calls do.
use Rattle.std.specs.Prelude.{◌≡◌, ◌<◌, ◌-◌, ◌^◌, ◌||◌, ℕ, List, [], length, take, drop, min, true, false, not, Bool, Option}
use Rattle.std.proofs.lemmas.Bool.{false≢true}
use Rattle.std.proofs.Math.Nat.{min-le_right, lt-suc_self, lt_of_le_of_lt}
use Rattle.std.specs.Io.KnownBytes.{Appends, Consumes, Keeps, prepend_known}
use Rattle.std.specs.declared.io.traits.Read.{Ghosts}
use Rattle.pg_spec.specs.Batches.{is_nothing}
use Rattle.pg_spec.specs.Links.{LinkView, next_count}
use Rattle.pg_stream.specs.Answers.{HoldsHeard, IsEmptied, IsSettled, TakesHeard, is_end, step_answer, wait_answer, write_answer}
use Rattle.pg_stream.specs.Tallies.{after_read, after_wait, after_write, as_count, new_tally, told}
use Rattle.pg_stream.specs.declared.stream_link.StreamLink.{StreamLink}
use Rattle.pg_stream.specs.declared.tally.Tally.{Tally}
use Rattle.pg_wire.specs.LinkCalls.{Tells}
use Rattle.pg_wire.specs.declared.link.LinkRead.{LinkRead}
use Rattle.pg_wire.specs.declared.link.LinkRead.TheVariants as reads
use Rattle.pg_wire.specs.declared.link.LinkWrite.{LinkWrite}
use Rattle.pg_wire.specs.declared.link.LinkWrite.TheVariants as writes
use Rattle.pg_wire.specs.declared.link.LinkStep.{LinkStep}
use Rattle.pg_wire.specs.declared.link.LinkWait.{LinkWait}
use Rattle.pg_wire.specs.declared.link.LinkWait.TheVariants as waits

-- what a link tells
abbrev pub view_of : {R W : Type 0} {r : Ghosts R} → StreamLink R W r → LinkView
view_of link = told link.tally

-- what a link has still to give: the bytes that it holds, then those that its reader has left, where these are known
abbrev pub left_in : {R W : Type 0} {r : Ghosts R} → StreamLink R W r → Option (List ℕ)
left_in {r = r} link = prepend_known link.ahead (r.remaining link.input.reader)

-- what the writer of a link holds, where it is known
abbrev pub written_in : {R W : Type 0} {r : Ghosts R} → (W → Option (List ℕ)) → StreamLink R W r → Option (List ℕ)
written_in contents link = contents link.output.writer

-- bytes or the end are there
abbrev pub is_ready : {R W : Type 0} {r : Ghosts R} → StreamLink R W r → Bool
is_ready link = link.input.over || not (is_nothing link.ahead)

-- A link over this reader and this writer that was asked nothing yet.
pub record IsFresh {R W : Type 0} {r : Ghosts R} (input : R) (output : W) (link : StreamLink R W r) : Type 0 where
  pub reader : link.input.reader ≡ input
  pub writer : link.output.writer ≡ output
  pub unended : link.input.over ≡ false
  pub empty : link.ahead ≡ []
  pub tally : link.tally ≡ new_tally

-- A read gives a front of the bytes held, as much as fits. Where none is held, it is the end, or isn't ready.
abbrev pub GivesAhead : (over : Bool) (old new out : List ℕ) → LinkRead → Type 0
GivesAhead over old new out (reads.Got n) = (0 < n) × (n ≡ min (length old) (length out)) × (take n out ≡ take n old) × (new ≡ drop n old)
GivesAhead over old new out reads.End = (over ≡ true) × (old ≡ []) × (new ≡ [])
GivesAhead over old new out reads.NotReady = (over ≡ false) × (old ≡ []) × (new ≡ [])
GivesAhead over old new out reads.Failed = ⊥

-- What `read` does: neither the reader nor the writer is asked.
pub record Reads {R W : Type 0} {r : Ghosts R} (old new : StreamLink R W r) (out : List ℕ) (reply : LinkRead) : Type 0 where
  pub given : GivesAhead old.input.over old.ahead new.ahead out reply
  pub tally : new.tally ≡ after_read reply old.tally
  pub input : new.input ≡ old.input
  pub output : new.output ≡ old.output

-- of the bytes that are left, a read gives the first ones, and tells the end where none is left
abbrev pub GivesLeft : (old new : Option (List ℕ)) → (out : List ℕ) → LinkRead → Type 0
GivesLeft old new out (reads.Got n) = Consumes old new (take n out)
GivesLeft old new out reads.End = IsEmptied old × Keeps old new
GivesLeft old new out other = Keeps old new

-- What `write` does: the writer is asked once to take the bytes.
pub record Writes {R W : Type 0} {r : Ghosts R} (contents : W → Option (List ℕ)) (old new : StreamLink R W r) (offered : List ℕ) (reply : LinkWrite) : Type 0 where
  pub answer : reply ≡ write_answer new.output.heard
  pub once : new.output.writes ≡ next_count old.output.writes
  pub flushes : new.output.flushes ≡ old.output.flushes
  pub bytes : TakesHeard (written_in contents old) (written_in contents new) new.output.heard offered
  pub tally : new.tally ≡ after_write reply old.tally
  pub input : new.input ≡ old.input
  pub ahead : new.ahead ≡ old.ahead

-- what the writer holds grows by the bytes taken
abbrev pub TakesAll : (old new : Option (List ℕ)) → (bytes : List ℕ) → LinkWrite → Type 0
TakesAll old new bytes (writes.Took n) = Appends old new (take n bytes)
TakesAll old new bytes other = Keeps old new

-- What `flush` and `shutdown` do: the writer is asked once to pass on what it took.
pub record PassesOn {R W : Type 0} {r : Ghosts R} (contents : W → Option (List ℕ)) (after : LinkStep → Tally → Tally) (old new : StreamLink R W r) (reply : LinkStep) : Type 0 where
  pub answer : reply ≡ step_answer new.output.heard
  pub once : new.output.flushes ≡ next_count old.output.flushes
  pub writes : new.output.writes ≡ old.output.writes
  pub bytes : Keeps (written_in contents old) (written_in contents new)
  pub tally : new.tally ≡ after reply old.tally
  pub input : new.input ≡ old.input
  pub ahead : new.ahead ≡ old.ahead

-- The reader was asked, and again where it was interrupted. What it gave is held.
pub record Asks {R W : Type 0} {r : Ghosts R} (old new : StreamLink R W r) (reply : LinkWait) : Type 0 where
  pub answer : reply ≡ wait_answer new.input.heard
  pub settled : IsSettled new.input.asked new.input.interrupted new.input.heard
  pub over : new.input.over ≡ is_end new.input.heard
  pub bytes : HoldsHeard (r.remaining old.input.reader) (r.remaining new.input.reader) new.input.heard new.ahead

-- What `wait` does: the reader is asked where neither bytes nor the end are there.
pub record Waits {R W : Type 0} {r : Ghosts R} (old new : StreamLink R W r) (reply : LinkWait) : Type 0 where
  pub at_once : is_ready old ≡ true → (reply ≡ waits.Ready) × (new.input ≡ old.input) × (new.ahead ≡ old.ahead)
  pub asks : is_ready old ≡ false → Asks old new reply
  pub tally : new.tally ≡ after_wait reply old.tally
  pub output : new.output ≡ old.output

-- ---- counts fit

count-fits : (n : ℕ) → as_count n < 2 ^ 64
count-fits n = lt_of_le_of_lt (min-le_right n (2 ^ 64 - 1)) (lt-suc_self (2 ^ 64 - 1))

-- what it tells fits together
pub tells : {R W : Type 0} {r : Ghosts R} → (link : StreamLink R W r) → Tells (view_of link)
tells link = record {
  by_plan = tt;
  steady = λ steady. absurd (false≢true steady);
  no_fault = tt;
  no_end = tt;
  ended = tt;
  counts = record {
    faults = count-fits link.tally.faults;
    quiet = count-fits link.tally.quiet;
    dry = count-fits link.tally.dry;
    blocked = count-fits link.tally.blocked;
    lulls = count-fits link.tally.lulls;
    ends = count-fits link.tally.ends;
  };
}
