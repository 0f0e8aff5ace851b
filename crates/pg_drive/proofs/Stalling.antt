-- A line whose last two polls moved nothing, and one that is stalled.
use Rattle.std.proofs.Common.{◌≡◌, ◌⊎◌, inl, inr, ℕ, Bool, true, false, List, [], ◌∷◌, if◌then◌else◌, Option, Some, None, Result, Ok, Err, refl, sym, ◌∙◌, ap, subst, length, zero, suc}
use Rattle.std.proofs.lemmas.Bool.{both_ways}
use Rattle.std.specs.Prelude.{IsTrue}
use Rattle.futures.specs.declared.task.Poll.{Poll}
use Rattle.futures.specs.declared.task.Poll.TheVariants.{Ready, Pending}
use Rattle.pg_spec.specs.Links.{LinkView, Rose}
use Rattle.pg_spec.specs.declared.stamps.Stamp.{Stamp}
use Rattle.pg_types.specs.declared.error.Error.{Error}
use Rattle.pg_types.specs.declared.error.Error.TheVariants as error
use Rattle.pg_errors.specs.declared.async_message.AsyncMessage.{AsyncMessage}
use Rattle.pg_desk.specs.declared.event.Event.{Event}
use Rattle.pg_connect.specs.Answers.{PollAnswers, fresh, left_open}
use Rattle.pg_connect.specs.Ends.{some_is}
use Rattle.pg_connect.specs.Passes.{waiting}
use Rattle.pg_connect.specs.Polls.{ReadDry, SomeGivesBack, Waits}
use Rattle.pg_connect.specs.Reads.{is_full}
use Rattle.pg_connect.specs.declared.streams.Streams.{Streams}
use Rattle.pg_drive.specs.declared.line.Lull.{Lull}
use Rattle.pg_drive.specs.declared.line.Lull.TheVariants.{Moved, Still, Waited}
use Rattle.pg_drive.proofs.Failing.{never-stalled}
use Rattle.pg_drive.specs.Lines.{LineSteps, LineView, Paused, PauseEnds, has_moved, told_by}
use Rattle.pg_drive.specs.Drives.{Drives, Stand, over}
use Rattle.pg_drive.specs.Stalls.{IsStalled}
use Rattle.pg_drive.specs.Tasks.{Rounds, Runs, Shared, behind_turns}

-- what a pause leaves: something moved, or nothing did; and where the link was waited for, it was promised to be ready
pub record Leaves (next : Lull) (moved : Bool) (m : LinkView) : Type 0 where
  pub unmoved : (next ≡ Moved → ⊥) → moved ≡ false
  pub promised : next ≡ Waited → IsTrue m.promised

abbrev fine : Lull → Result Lull Error
fine next = Ok next

leaves-moved : (next : Lull) (moved : Bool) (m : LinkView) → fine next ≡ fine Moved → Leaves next moved m
leaves-moved next moved m e =
    let is : next ≡ Moved = cc in
    record { unmoved = λ no. absurd (no is); promised = λ w. absurd (differ is w) }
  where
    differ : next ≡ Moved → next ≡ Waited → ⊥
    differ p q = absurd cc

leaves-still : (next : Lull) (m : LinkView) → fine next ≡ fine Still → Leaves next false m
leaves-still next m e =
    let is : next ≡ Still = cc in
    record { unmoved = λ no. refl; promised = λ w. absurd (differ is w) }
  where
    differ : next ≡ Still → next ≡ Waited → ⊥
    differ p q = absurd cc

pub pause-leaves : (was next : Lull) (moved : Bool) (from to : ℕ) (l m : LinkView) → PauseEnds was moved from to l m (Ok next) → Leaves next moved m
pause-leaves Moved next true from to l m h = leaves-moved next true m h.0
pause-leaves Still next true from to l m h = leaves-moved next true m h.0
pause-leaves Waited next true from to l m h = leaves-moved next true m h.0
pause-leaves Moved next false from to l m h = leaves-still next m h.0
pause-leaves Still next false from to l m h = record { unmoved = λ no. refl; promised = λ w. h.1.1 }
pause-leaves Waited next false from to l m h = absurd (differ h.0)
  where
    differ : Ok next ≡ Err (error.Stalled from to) → ⊥
    differ e = absurd cc

-- what a pause in which the line is stalled says
pub record PauseStalls (was : Lull) (moved : Bool) (x y from to : ℕ) (l m : LinkView) : Type 0 where
  pub unmoved : moved ≡ false
  pub still : was ≡ Moved → ⊥
  pub from_is : from ≡ x
  pub to_is : to ≡ y
  pub why : Rose l.lulls m.lulls ⊎ (was ≡ Waited)

not-ok : {A : Type 0} (x : Lull) (e : Error) → Err e ≡ Ok x → A
not-ok x e h = absurd cc

pub pause-stalls : (was : Lull) (moved : Bool) (x y from to : ℕ) (l m : LinkView) → PauseEnds was moved x y l m (Err (error.Stalled from to)) → PauseStalls was moved x y from to l m
pause-stalls Moved true x y from to l m h = not-ok Moved (error.Stalled from to) h.0
pause-stalls Still true x y from to l m h = not-ok Moved (error.Stalled from to) h.0
pause-stalls Waited true x y from to l m h = not-ok Moved (error.Stalled from to) h.0
pause-stalls Moved false x y from to l m h = not-ok Still (error.Stalled from to) h.0
pause-stalls Still false x y from to l m h = record { unmoved = refl; still = λ e. absurd cc; from_is = h.0; to_is = h.1; why = inl h.2.4 }
pause-stalls Waited false x y from to l m h =
    let e = h.0 in
    record { unmoved = refl; still = λ e. absurd cc; from_is = cc; to_is = cc; why = inr refl }

-- a poll that moved nothing waits
pends : {H : Type 0} (becomes : H → List Event → H → Type 0) (a b : H) (s t : Streams) (l m : LinkView) (answer : Poll (Option (Result AsyncMessage Error))) →
    PollAnswers becomes a b s t l m answer → has_moved (told_by answer t) ≡ false → PollAnswers becomes a b s t l m Pending
pends becomes a b s t l m Pending polled unmoved = polled
pends becomes a b s t l m (Ready None) polled unmoved = absurd (both_ways true unmoved refl)
pends becomes a b s t l m (Ready (Some x)) polled unmoved = absurd (both_ways true unmoved refl)

still-streams : (answer : Poll (Option (Result AsyncMessage Error))) (t : Streams) → has_moved (told_by answer t) ≡ false → t.moved ≡ false
still-streams Pending t unmoved = unmoved
still-streams (Ready None) t unmoved = absurd (both_ways true unmoved refl)
still-streams (Ready (Some x)) t unmoved = absurd (both_ways true unmoved refl)

-- where nothing moved and the link was promised to be ready, it wasn't, or a mailbox was full
lulled : {H : Type 0} (becomes : H → List Event → H → Type 0) (a b : H) (s t : Streams) (l m : LinkView) (waits : PollAnswers becomes a b s t l m Pending) → t.moved ≡ false → IsTrue l.promised →
    Rose l.lulls m.lulls ⊎ (some_is is_full waits.turns.goes.events ≡ true)
lulled becomes a b s t l m waits unmoved promised = by w.reading
  where
    w : Waits (fresh s) (left_open t) l m waits.turns.goes.events
    w = waits.turns.goes.ended

    by : (s.closing ≡ true) ⊎ (((some_is is_full waits.turns.goes.events ≡ true) × SomeGivesBack (waiting t.held) waits.turns.goes.events) ⊎ ReadDry (left_open t) l m) →
        Rose l.lulls m.lulls ⊎ (some_is is_full waits.turns.goes.events ≡ true)
    by (inl closing) = inl ((w.closing (waits.turns.goes.passes.still_closing closing)).lulls unmoved promised)
    by (inr (inl full)) = inr full.0
    by (inr (inr dry)) = inl (dry.lulls unmoved promised)

-- what holds of a line between two polls: where its last poll moved nothing the connection says so, and where the link was waited for
-- it was promised to be ready
pub record IsWell {H : Type 0} (l : LineView H) : Type 0 where
  pub still : (l.lull ≡ Moved → ⊥) → l.streams.moved ≡ false
  pub promised : l.lull ≡ Waited → IsTrue l.link.promised

pub well-new : {H : Type 0} (l : LineView H) → l.lull ≡ Moved → IsWell l
well-new l new = record { still = λ no. absurd (no new); promised = λ w. absurd (differ new w) }
  where
    differ : l.lull ≡ Moved → l.lull ≡ Waited → ⊥
    differ p q = absurd cc

module _ {H : Type 0} (becomes : H → List Event → H → Type 0) where
  well-on : (a b : LineView H) → Paused becomes a b (Ok b.lull) → IsWell b
  well-on a b p =
      let leaves = pause-leaves a.lull b.lull (has_moved p.told) a.link.quiet p.mid.link.quiet p.mid.link b.link p.pause in
      record {
        still = λ no. ap (λ (x : LineView H). x.streams.moved) p.same ∙ still-streams p.polled.answer p.mid.streams (sym (ap has_moved p.polled.says) ∙ leaves.unmoved no);
        promised = leaves.promised;
      }

  stalls : (a b : LineView H) (from to : ℕ) → IsWell a → Paused becomes a b (Err (error.Stalled from to)) → IsStalled becomes a b from to
  stalls a b from to well p =
      let says = pause-stalls a.lull (has_moved p.told) a.link.quiet p.mid.link.quiet from to p.mid.link b.link p.pause in
      let unmoved = sym (ap has_moved p.polled.says) ∙ says.unmoved in
      let waits = pends becomes a.hub p.mid.hub a.streams p.mid.streams a.link p.mid.link p.polled.answer p.polled.polled unmoved in
      let still = still-streams p.polled.answer p.mid.streams unmoved in
      record {
        polled = p.mid;
        waits = waits;
        unmoved_before = well.still says.still;
        unmoved = still;
        from_is = says.from_is;
        to_is = says.to_is;
        why = by waits still says.why;
      }
    where
      by : (waits : PollAnswers becomes a.hub p.mid.hub a.streams p.mid.streams a.link p.mid.link Pending) → p.mid.streams.moved ≡ false → Rose p.mid.link.lulls b.link.lulls ⊎ (a.lull ≡ Waited) →
          Rose p.mid.link.lulls b.link.lulls ⊎ (Rose a.link.lulls p.mid.link.lulls ⊎ (some_is is_full waits.turns.goes.events ≡ true))
      by waits still (inl rose) = inl rose
      by waits still (inr waited) = inr (lulled becomes a.hub p.mid.hub a.streams p.mid.streams a.link p.mid.link waits still (well.promised waited))

  well-drive : {T : Type 0} (stamp : Stamp) (s : Stand H T) (ss : List (Stand H T)) (t : Stand H T) → Drives becomes stamp s ss t → IsWell s.line → IsWell t.line
  well-drive stamp s [] t drives well = subst (λ (x : Stand H _). IsWell x.line) (sym drives) well
  well-drive stamp s (n ∷ ss) t drives well =
      let on = drives.0 in
      well-drive stamp n ss t drives.1 (well-on (over on.between s.line) n.line on.line)

  -- a step in which a line that is well is stalled
  stalled-step : (a b : LineView H) (from to : ℕ) → IsWell a → LineSteps becomes a b (Err (Error.Stalled from to)) → IsStalled becomes a b from to
  stalled-step a b from to well (inl (inl failed)) =
      absurd (never-stalled from to becomes a.hub b.hub a.streams b.streams a.link b.link failed.polled)
  stalled-step a b from to well (inl (inr lost)) = absurd (differ lost.memory)
    where
      differ : error.Stalled from to ≡ error.OutOfMemory → ⊥
      differ e = absurd cc
  stalled-step a b from to well (inr paused) = stalls a b from to well paused

  pub why-stalled : {T : Type 0} (stamp : Stamp) (s : Stand H T) (ss : List (Stand H T)) (t : Stand H T) (between : H) (b : LineView H) (from to : ℕ) → s.line.lull ≡ Moved →
      Drives becomes stamp s ss t → LineSteps becomes (over between t.line) b (Err (Error.Stalled from to)) →
      IsStalled becomes (over between t.line) b from to
  why-stalled stamp s ss t between b from to new drives steps =
      let well = well-drive stamp s ss t drives (well-new s.line new) in
      stalled-step (over between t.line) b from to (record { still = well.still; promised = well.promised }) steps

  -- a line is well behind turns of its tasks
  well-turned : (l : LineView H) (hub : H) (moved : Bool) → IsWell l → IsWell (behind_turns l hub moved)
  well-turned l hub true well = well-new (behind_turns l hub true) refl
  well-turned l hub false well = record { still = well.still; promised = well.promised }

  well-rounds : {S : Type 0} (done : S → Bool) (turns : S → List Event → Bool → S → Type 0) (n : ℕ) (s t : Shared H S) → Rounds becomes done turns n s t → IsWell s.line → IsWell t.line
  well-rounds done turns zero s t rounds well = subst (λ (x : Shared H _). IsWell x.line) (sym rounds) well
  well-rounds done turns (suc n) s t rounds well =
      let mid = rounds.0 in
      let took = rounds.2.took in
      well-on (behind_turns mid.line took.hub took.moved) t.line rounds.2.line

  pub why-line-stalled : {S : Type 0} (done : S → Bool) (turns : S → List Event → Bool → S → Type 0) (s t : Shared H S) (from to : ℕ) → s.line.lull ≡ Moved →
      (runs : Runs becomes done turns s t (Err (Error.Stalled from to))) → IsStalled becomes (behind_turns runs.last.line runs.ends.took.hub runs.ends.took.moved) t.line from to
  why-line-stalled done turns s t from to new runs =
      let last = runs.last in
      let took = runs.ends.took in
      stalled-step (behind_turns last.line took.hub took.moved) t.line from to
      (well-turned last.line took.hub took.moved (well-rounds done turns runs.count s last runs.rounds (well-new s.line new))) runs.ends.line
