-- A link to a machine, by its fields.
use Rattle.std.proofs.Common.{append_assoc, ◌≡◌, ℕ, ◌+◌, ◌-◌, ◌<◌, ◌≤◌, true, false, not, List, [], ◌∷◌, ◌++◌, Option, Some, Result, Ok, Err, cond, refl, sym, ap, ◌∙◌, subst, arith, length, take, drop}
use Rattle.std.specs.Prelude.{min}
use Rattle.std.proofs.Math.Seq.{take-add}
use Rattle.std.proofs.lemmas.List.{length-append, length-drop, length-take-le, drop-drop, take-append-le, take-append-drop}
use Rattle.pg_spec.specs.Batches.{is_nothing}
use Rattle.std.proofs.lemmas.Bool.{true≢false, false≢true}
use Rattle.std.specs.Result.{is_ok, is_err}
use Rattle.std.proofs.Math.Seq.{take-length}
use Rattle.std.specs.declared.alloc.AllocError.{AllocError}
use Rattle.pg_machine.specs.declared.feeding.Fed.{Fed}
use Rattle.pg_machine.specs.ServingFeeding.{IsLonger}
use Rattle.pg_machine.specs.Feeding.{Feeds, GoesOn}
use Rattle.pg_spec.specs.Links.{Rose, next_count}
use Rattle.pg_wire.specs.LinkCalls.{Gives, Takes, IsInCourse, ReadAnswers, WriteAnswers, Keeps, KeepsPromise, gave, took}
use Rattle.pg_wire.specs.Memory.{as_count}
use Rattle.pg_wire.specs.declared.link.LinkRead.{LinkRead}
use Rattle.pg_wire.specs.declared.link.LinkRead.TheVariants as reads
use Rattle.pg_wire.specs.declared.link.LinkWrite.{LinkWrite}
use Rattle.pg_wire.specs.declared.link.LinkWrite.TheVariants as writes
use Rattle.pg_machine.specs.declared.machine_link.MachineLink.TheInside.{Inside}
use Rattle.pg_machine.specs.Machines.{service_of}
use Rattle.pg_machine.specs.Sessions.{gives}
use Rattle.pg_machine.specs.MachineLinks.{Served, course_of, due_in, link_of, GivesFront, Reads, TakesUp, KeepsItsPromise, served_of, HoldsServed, is_ready}

-- what is due is what was said and not given
pub due-is : (link : Inside) → HoldsServed link → due_in (served_of link) ≡ drop link.gave link.said.items
due-is link holds =
    ap (λ (all : List ℕ). drop (length (take link.gave link.said.items)) all) (sym holds.said)
    ∙ ap (λ (n : ℕ). drop n link.said.items) (length-take-le link.gave link.said.items holds.within)

-- the answer of a read that gave a front of what is due
pub front-Gives : (old new : Served) (out : List ℕ) (n : ℕ) → n ≤ length out → n ≤ length (due_in old) → GivesFront old new out n → Gives (link_of old) (link_of new) out n
front-Gives old new out n fits enough front =
    let grown : List ℕ = old.given ++ take n (due_in old) in
    let size : length grown ≡ length old.given + n = length-append old.given (take n (due_in old)) ∙ ap (λ k. length old.given + k) (length-take-le n (due_in old) enough) in
    record {
      some = front.some;
      fits = fits;
      given = ap (λ (m : Served). Some m.given) front.served ∙ ap (λ (b : List ℕ). Some (old.given ++ b)) (sym front.front);
      taken = ap (λ (m : Served). Some m.taken) front.served;
      front = sym front.front;
      no_more_due = enough;
      due = ap (λ (m : Served). Some (due_in m)) front.served ∙ ap (λ (k : ℕ). Some (drop k (course_of old old.taken))) size
          ∙ ap (λ (b : List ℕ). Some b) (sym (drop-drop n (length old.given) (course_of old old.taken)));
      writing = record { flushed = ap (λ (m : Served). m.flushed) front.served; shut = ap (λ (m : Served). m.shut) front.served };
      quiet = ap (λ (m : Served). as_count m.quiet) front.served;
    }

-- a read that copied a front of what was said and not given
pub read-front : (link : Inside) → HoldsServed link → (out piece : List ℕ) (n limit : ℕ) → 0 < n → limit ≡ min link.cut (length out) → length piece ≡ limit →
    n ≡ min (length (drop link.gave link.said.items)) limit → take n piece ≡ take n (drop link.gave link.said.items) →
    GivesFront (served_of link) (served_of (record link { gave = link.gave + n; promised = false })) (piece ++ drop limit out) n
read-front link holds out piece n limit some is size count front =
    let due : due_in (served_of link) ≡ drop link.gave link.said.items = due-is link holds in
    let few : n ≤ length piece = omega (arith, count, size) in
    let long : length (piece ++ drop limit out) ≡ length out = omega (arith, length-append piece (drop limit out), length-drop limit out, size, is) in
    record {
      some = some;
      count = count ∙ ap (λ (k : ℕ). min (length (drop link.gave link.said.items)) k) (is ∙ ap (λ (k : ℕ). min link.cut k) (sym long))
          ∙ ap (λ (b : List ℕ). min (length b) (min link.cut (length (piece ++ drop limit out)))) (sym due)
          ∙ min-swap (length (due_in (served_of link))) (min link.cut (length (piece ++ drop limit out)));
      front = take-append-le n piece (drop limit out) few ∙ front ∙ ap (take n) (sym due);
      served = ap (λ (given : List ℕ). record (served_of link) { given = given; promised = false })
          (take-add link.gave n link.said.items ∙ ap (λ (b : List ℕ). take link.gave link.said.items ++ take n b) (sym due));
    }
  where
    min-swap : (a b : ℕ) → min a b ≡ min b a
    min-swap a b = omega arith

-- bytes stand behind a place below the length
pub is_ready-more : (link : Inside) → HoldsServed link → link.gave < length link.said.items → is_ready (served_of link) ≡ true
is_ready-more link holds more = ap (λ (due : List ℕ). not (is_nothing due)) (due-is link holds) ∙ by_rest (drop link.gave link.said.items) (length-drop link.gave link.said.items)
  where
    by_rest : (rest : List ℕ) → length rest ≡ length link.said.items - link.gave → not (is_nothing rest) ≡ true
    by_rest [] e = absurd (omega (arith, e, more))
    by_rest (b ∷ rest) e = refl

-- a front of bytes stays a front of longer ones
pub front-kept : (n : ℕ) (old new : List ℕ) → n ≤ length old → IsLonger old new → take n new ≡ take n old
front-kept n old new fits longer = ap (take n) longer.1 ∙ take-append-le n old longer.0 fits

-- bytes were taken, and what they are replied was said
pub took-more : (link next : Inside) (bytes : List ℕ) → HoldsServed link →
    next.machine ≡ link.machine → next.startup ≡ link.startup → next.taken.items ≡ link.taken.items ++ bytes → next.gave ≡ link.gave → next.cut ≡ link.cut → next.room ≡ link.room →
    next.promised ≡ false → Feeds next.machine next.taken.items next.fed → IsLonger link.said.items next.said.items →
    next.said.items ≡ gives (service_of next.machine) 0 next.startup next.taken.items → HoldsServed next
took-more link next bytes holds machine startup taken gave cut room unpromised fed longer said = record {
  said = said;
  within = omega (arith, holds.within, gave, ap length longer.1, length-append link.said.items longer.0);
  fed = fed;
  promise = λ promised. absurd (true≢false (sym promised ∙ unpromised));
  cut = omega (arith, holds.cut, cut);
  room = omega (arith, holds.room, room);
}

-- a write took bytes and answered what came
pub record Wrote (link : Inside) (bytes after said : List ℕ) (fed : Option Fed) : Type 0 where
  pub after_is : after ≡ link.taken.items ++ bytes
  pub feeds : Feeds link.machine after fed
  pub said_is : said ≡ gives (service_of link.machine) 0 link.startup after
  pub longer : IsLonger link.said.items said

pub wrote : (link : Inside) → HoldsServed link → (bytes after startup seen said : List ℕ) (len : ℕ) (fed : Option Fed) (r : Result (Unit {0}) AllocError) →
    after ≡ cond (is_ok r) (link.taken.items ++ bytes) link.taken.items → is_err r ≡ false → len ≡ length link.taken.items → startup ≡ link.startup → seen ≡ after →
    GoesOn link.machine startup seen (take len seen) link.said.items said (Ok fed) → Wrote link bytes after said fed
wrote link holds bytes after startup seen said len fed r items no_err len_is startup_is seen_is goes =
    let after_is : after ≡ link.taken.items ++ bytes = no_error r (link.taken.items ++ bytes) link.taken.items after items no_err in
    let before : take len seen ≡ link.taken.items
    = ap (λ (b : List ℕ). take len b) (seen_is ∙ after_is) ∙ take-append-le len link.taken.items bytes (omega (arith, len_is)) ∙ ap (λ (n : ℕ). take n link.taken.items) len_is ∙ take-length link.taken.items in
    let one : GoesOn link.machine link.startup seen (take len seen) link.said.items said (Ok fed)
    = subst (λ (s : List ℕ). GoesOn link.machine s seen (take len seen) link.said.items said (Ok fed)) startup_is goes in
    let two : GoesOn link.machine link.startup seen link.taken.items link.said.items said (Ok fed)
    = subst (λ (b : List ℕ). GoesOn link.machine link.startup seen b link.said.items said (Ok fed)) before one in
    let three : GoesOn link.machine link.startup after link.taken.items link.said.items said (Ok fed)
    = subst (λ (t : List ℕ). GoesOn link.machine link.startup t link.taken.items link.said.items said (Ok fed)) seen_is two in
    record { after_is = after_is; feeds = three.0; said_is = three.1 holds.said; longer = three.2 }
  where
    no_error : {T E : Type 0} (r : Result T E) (a b items : List ℕ) → items ≡ cond (is_ok r) a b → is_err r ≡ false → items ≡ a
    no_error (Ok x) a b items e h = e
    no_error (Err x) a b items e h = absurd cc

-- what a link is then
pub wrote-view : (link next : Inside) (bytes : List ℕ) → HoldsServed link → next ≡ record link { taken = next.taken; fed = next.fed; said = next.said; promised = false; flushed = false } →
    next.taken.items ≡ link.taken.items ++ bytes → IsLonger link.said.items next.said.items →
    served_of next ≡ record (served_of link) { taken = link.taken.items ++ bytes; promised = false; flushed = false }
wrote-view link next bytes holds is taken longer =
    ap served_of is
    ∙ ap (λ (given : List ℕ). record (served_of link) { given = given; taken = next.taken.items; promised = false; flushed = false }) (front-kept link.gave link.said.items next.said.items holds.within longer)
    ∙ ap (λ (t : List ℕ). record (served_of link) { taken = t; promised = false; flushed = false }) taken

-- what was given and what is due is all that it gives
pub held-IsInCourse : (link : Inside) → HoldsServed link → IsInCourse (link_of (served_of link))
held-IsInCourse link holds =
    ap (λ (due : List ℕ). take link.gave link.said.items ++ due) (due-is link holds) ∙ take-append-drop link.gave link.said.items ∙ holds.said

-- ---- what the link does is what a link may do

took-Takes : (old new : Served) (bytes : List ℕ) (n : ℕ) → 1 ≤ n → n ≤ length bytes →
    new ≡ record old { taken = old.taken ++ take n bytes; promised = false; flushed = false } → Takes (link_of old) (link_of new) bytes n
took-Takes old new bytes n some fits is = record {
  some = some;
  fits = fits;
  taken = ap (λ (m : Served). Some m.taken) is;
  given = ap (λ (m : Served). Some m.given) is;
  flushed = ap (λ (m : Served). m.flushed) is;
  shut = ap (λ (m : Served). m.shut) is;
  quiet = ap (λ (m : Served). as_count m.quiet) is;
}

rose : (n : ℕ) → Rose (as_count n) (as_count (next_count n))
rose n = omega arith

next-as_count : (n : ℕ) → as_count (next_count n) ≡ next_count (as_count n)
next-as_count n = omega arith

-- as what is due is given
in-course-given : (m : Served) (n : ℕ) → n ≤ length (due_in m) → IsInCourse (link_of m) →
    IsInCourse (link_of (record m { given = m.given ++ take n (due_in m); promised = false }))
in-course-given m n enough is =
    let size : length (m.given ++ take n (due_in m)) ≡ length m.given + n
    = length-append m.given (take n (due_in m)) ∙ ap (λ k. length m.given + k) (length-take-le n (due_in m) enough) in
    ap (λ (k : ℕ). (m.given ++ take n (due_in m)) ++ drop k (course_of m m.taken)) size
    ∙ ap (λ (b : List ℕ). (m.given ++ take n (due_in m)) ++ b) (sym (drop-drop n (length m.given) (course_of m m.taken)))
    ∙ append_assoc m.given (take n (due_in m)) (drop n (due_in m))
    ∙ ap (λ (b : List ℕ). m.given ++ b) (take-append-drop n (due_in m)) ∙ is

none-ready : (m : Served) → due_in m ≡ [] → is_ready m ≡ false
none-ready m none = ap (λ (due : List ℕ). not (is_nothing due)) none

-- a read
pub read-answers : (m m' : Served) (out : List ℕ) (answer : LinkRead) → KeepsItsPromise m → Reads m m' out answer →
    ReadAnswers (link_of m) (link_of m') out answer × Keeps (link_of m) (link_of m') × KeepsPromise (link_of m) (link_of m') (gave answer)
read-answers m m' out (reads.Got n) k g =
    let count = g.count in
    let enough : n ≤ length (due_in m) = omega (arith, count) in
    let fits : n ≤ length out = omega (arith, count) in (
      (front-Gives m m' out n fits enough g, ap (λ (x : Served). x.promised) g.served),
      subst (λ (x : Served). Keeps (link_of m) (link_of x)) (sym g.served) (record {
        counts = record { faults = omega arith; quiet = omega arith; dry = omega arith; blocked = omega arith; lulls = omega arith; ends = omega arith };
        plan = refl;
        course = λ bytes on. (on, refl);
        steady = λ steady. refl;
        shut = λ shut. shut;
        in_plan = λ within. within;
        in_course = in-course-given m n enough;
      }),
      record { kept = λ moved. absurd (false≢true (sym moved)); no_lull = λ steady. ap (λ (x : Served). as_count x.lulls) g.served },
    )
read-answers m m' out reads.NotReady k (none, new) =
    let never : m.promised ≡ true → ⊥ = λ p. false≢true (sym (none-ready m none) ∙ k p) in
    subst (λ (x : Served). ReadAnswers (link_of m) (link_of x) out reads.NotReady × Keeps (link_of m) (link_of x) × KeepsPromise (link_of m) (link_of x) false) (sym new) (
      (
        record {
          quiet = next-as_count m.quiet;
          lulls = λ p. absurd (never p);
          bytes = record { given = refl; taken = refl; due = refl };
          writing = record { flushed = refl; shut = refl };
        },
        rose m.dry,
        λ steady. ap (λ (l : List ℕ). Some l) none,
      ),
      record {
        counts = record { faults = omega arith; quiet = omega arith; dry = omega arith; blocked = omega arith; lulls = omega arith; ends = omega arith };
        plan = refl;
        course = λ bytes on. (on, refl);
        steady = λ steady. refl;
        shut = λ shut. shut;
        in_plan = λ within. within;
        in_course = λ here. here;
      },
      record { kept = λ moved. refl; no_lull = λ steady. refl },
    )
read-answers m m' out reads.End k r = absurd r
read-answers m m' out reads.Failed k r = absurd r

-- what will have been taken begins with what was taken before
taken-on : (before more bytes : List ℕ) → (rest : List ℕ) × ((before ++ more) ++ rest ≡ bytes) → (rest : List ℕ) × (before ++ rest ≡ bytes)
taken-on before more bytes (rest, is) = (more ++ rest, sym (append_assoc before more rest) ∙ is)

-- a write
pub write-answers : (m m' : Served) (bytes : List ℕ) (answer : LinkWrite) → 0 < m.room → 0 < length bytes → TakesUp m m' bytes answer → IsInCourse (link_of m') →
    WriteAnswers (link_of m) (link_of m') bytes answer × Keeps (link_of m) (link_of m') × KeepsPromise (link_of m) (link_of m') (took answer)
write-answers m m' bytes (writes.Took n) room some (count, new) course =
    let positive : 1 ≤ n = omega (arith, count, room, some) in
    let fits : n ≤ length bytes = omega (arith, count) in
    let grown : Served = record m { taken = m.taken ++ take n bytes; promised = false; flushed = false } in (
      (took-Takes m m' bytes n positive fits new, ap (λ (x : Served). x.promised) new),
      subst (λ (x : Served). Keeps (link_of m) (link_of x)) (sym new) (record {
        counts = record { faults = omega arith; quiet = omega arith; dry = omega arith; blocked = omega arith; lulls = omega arith; ends = omega arith };
        plan = refl;
        course = λ later on. (taken-on m.taken (take n bytes) later on, refl);
        steady = λ steady. refl;
        shut = λ shut. shut;
        in_plan = λ within. within;
        in_course = λ here. subst (λ (x : Served). IsInCourse (link_of x)) new course;
      }),
      record { kept = λ moved. absurd (false≢true (sym moved)); no_lull = λ steady. ap (λ (x : Served). as_count x.lulls) new },
    )
write-answers m m' bytes writes.OutOfMemory room some new course =
    subst (λ (x : Served). WriteAnswers (link_of m) (link_of x) bytes writes.OutOfMemory × Keeps (link_of m) (link_of x) × KeepsPromise (link_of m) (link_of x) false) (sym new) (
      (
        record {
          bytes = record { given = refl; taken = refl; due = refl };
          writing = record { flushed = refl; shut = refl };
          quiet = refl;
        },
        refl,
      ),
      record {
        counts = record { faults = omega arith; quiet = omega arith; dry = omega arith; blocked = omega arith; lulls = omega arith; ends = omega arith };
        plan = refl;
        course = λ later on. (on, refl);
        steady = λ steady. refl;
        shut = λ shut. shut;
        in_plan = λ within. within;
        in_course = λ here. here;
      },
      record { kept = λ moved. refl; no_lull = λ steady. refl },
    )
write-answers m m' bytes writes.NotReady room some r course = absurd r
write-answers m m' bytes writes.Failed room some r course = absurd r
