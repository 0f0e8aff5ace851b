-- What a link to a server does is what a link may do.
use Rattle.std.proofs.Common.{append_assoc, append-nil, ◌≡◌, ℕ, ◌-◌, ◌<◌, ◌≤◌, true, false, List, [], ◌++◌, Option, Some, None, Result, Ok, Err, refl, sym, ap, ◌∙◌, subst, arith, length, take, drop}
use Rattle.std.specs.Prelude.{min}
use Rattle.std.proofs.Math.Seq.{take-append-add, take-length}
use Rattle.std.proofs.lemmas.Bool.{false≢true}
use Rattle.std.specs.Option.{is_some}
use Rattle.std.specs.Result.{is_err, OnOk}
use Rattle.std.proofs.lemmas.List.{length-append, length-take, length-take-le, take-append-drop, drop_at, take_at, take-take}
use Rattle.pg_spec.specs.Batches.{is_nothing}
use Rattle.pg_spec.specs.Links.{Rose, next_count}
use Rattle.pg_wire.specs.LinkCalls.{IsInCourse, KeepsCourse, ReadAnswers, WriteAnswers, Keeps, KeepsPromise, gave, took}
use Rattle.pg_wire.specs.Memory.{as_count}
use Rattle.pg_wire.specs.declared.link.LinkRead.{LinkRead}
use Rattle.pg_wire.specs.declared.link.LinkRead.TheVariants as reads
use Rattle.pg_wire.specs.declared.link.LinkWrite.{LinkWrite}
use Rattle.pg_wire.specs.declared.link.LinkWrite.TheVariants as writes
use Rattle.pg_server.specs.declared.answer.Answer.{Answer}
use Rattle.pg_server.specs.declared.fault.ServerFault.{ServerFault}
use Rattle.pg_server.specs.declared.fault.ServerFault.TheVariants as faults
use Rattle.pg_server.specs.declared.session.Stage.TheVariants.{Over}
use Rattle.pg_server.specs.Answers.{answer_bytes}
use Rattle.pg_server.specs.ByteLists.{are_bytes, is_ended}
use Rattle.pg_server.specs.Crossings as crossing
use Rattle.pg_server.specs.Crossings.{Crossed, GivesFront, took_less, failed}
use Rattle.pg_server.specs.Handlers.{Step}
use Rattle.pg_server.specs.Hearing.{Said, said_to}
use Rattle.pg_server.specs.Reaches.{reach_of}
use Rattle.pg_server.specs.Servers.{Heard, TakesFront}
use Rattle.pg_server.specs.ServerLinks.{Served, link_of, told_by, Reads, offered, front_by, TakesBy, TakesIn, TakesAt, TakesUp, StopsBy, KeepsItsPromise}
use Rattle.pg_server.specs.Settled.{is_settled}
use Rattle.pg_server.specs.Standings.{Standing, Front, Waits, Says, Stops, front}
use Rattle.pg_server.proofs.ByteLaws.{bytes-end, bytes-take}
use Rattle.pg_server.proofs.CutLaws.{Knows, front-known}
use Rattle.pg_server.proofs.FaultCourseLaws.{FaultsOn, SaysOn, says-FaultsOn, stops-FaultsOn, tells-on, waits-FaultsOn}
use Rattle.pg_server.proofs.HearingLaws.{said_to-says, said_to-stops}
use Rattle.pg_server.proofs.ReachLaws.{reach-stops}
use Rattle.pg_server.proofs.SettledLaws.{settled-silent, over-silent, settled-piece, IsPiece}

-- what was given and what is due is all that it gives
pub settled-IsInCourse : {S : Type 0} (step : Step S) (m : Served S) → is_settled m.heard.standing.stage m.heard.left ≡ true → IsInCourse (link_of step m)
settled-IsInCourse step m settled =
    let all : List ℕ = m.crossed.given ++ m.crossed.due in
    let none : drop (length m.crossed.taken) m.crossed.taken ≡ [] = ap (drop (length m.crossed.taken)) (sym (append-nil m.crossed.taken)) ∙ drop_at m.crossed.taken [] (length m.crossed.taken) refl in
    let silent : told_by step m (drop (length m.crossed.taken) m.crossed.taken) ≡ []
    = ap (told_by step m) none ∙ ap (λ (b : List ℕ). (said_to step m.heard.standing b).said) (append-nil m.heard.left)
    ∙ settled-silent step m.heard.standing m.heard.left settled in
    sym (ap (λ (b : List ℕ). all ++ b) silent ∙ append-nil all)

rose : (n : ℕ) → Rose (as_count n) (as_count (next_count n))
rose n = omega arith

next-as_count : (n : ℕ) → as_count (next_count n) ≡ next_count (as_count n)
next-as_count n = omega arith

-- ---- a read

abbrev ReadsWell : {S : Type 0} → Step S → (m m' : Served S) → List ℕ → LinkRead → Type 0
ReadsWell step m m' out answer = ReadAnswers (link_of step m) (link_of step m') out answer × Keeps (link_of step m) (link_of step m') × KeepsPromise (link_of step m) (link_of step m') (gave answer)

-- after a front of what was due was given
abbrev given_more : Crossed → ℕ → Crossed
given_more c n = record c { given = c.given ++ take n c.due; due = drop n c.due; promised = false }

same-all : (given due : List ℕ) (n : ℕ) → (given ++ take n due) ++ drop n due ≡ given ++ due
same-all given due n = append_assoc given (take n due) (drop n due) ∙ ap (λ (b : List ℕ). given ++ b) (take-append-drop n due)

gave-well : {S : Type 0} (step : Step S) (m : Served S) (out : List ℕ) (n : ℕ) → 0 < n → n ≤ length out → n ≤ length m.crossed.due → take n out ≡ take n m.crossed.due →
    ReadsWell step m (record m { crossed = given_more m.crossed n }) out (reads.Got n)
gave-well step m out n some fits enough front =
    let c : Crossed = m.crossed in
    let more : List ℕ = told_by step m (drop (length c.taken) c.taken) in (
      (
        record {
          some = some;
          fits = fits;
          given = ap (λ (b : List ℕ). Some (c.given ++ b)) (sym front);
          taken = refl;
          front = sym front;
          no_more_due = enough;
          due = refl;
          writing = record { flushed = refl; shut = refl };
          quiet = refl;
        },
        refl,
      ),
      record {
        counts = record { faults = omega arith; quiet = omega arith; dry = omega arith; blocked = omega arith; lulls = omega arith; ends = omega arith };
        plan = refl;
        course = λ bytes on. (on, ap (λ (all : List ℕ). Some (all ++ told_by step m (drop (length c.taken) bytes))) (same-all c.given c.due n));
        steady = λ steady. refl;
        shut = λ shut. shut;
        in_plan = λ within. within;
        in_course = λ here. subst (λ (all : List ℕ). all ≡ all ++ more) (sym (same-all c.given c.due n)) here;
      },
      record { kept = λ moved. absurd (false≢true (sym moved)); no_lull = λ steady. refl },
    )

dry-well : {S : Type 0} (step : Step S) (m : Served S) (out : List ℕ) → KeepsItsPromise m → m.crossed.due ≡ [] →
    ReadsWell step m (record m { crossed = record m.crossed { quiet = next_count m.crossed.quiet; dry = next_count m.crossed.dry } }) out reads.NotReady
dry-well step m out kept none =
    let never : m.crossed.promised ≡ true → ⊥ = λ p. false≢true (sym (kept p) ∙ ap is_nothing none) in (
      (
        record {
          quiet = next-as_count m.crossed.quiet;
          lulls = λ p. absurd (never p);
          bytes = record { given = refl; taken = refl; due = refl };
          writing = record { flushed = refl; shut = refl };
        },
        rose m.crossed.dry,
        λ steady. ap (λ (l : List ℕ). Some l) none,
      ),
      record {
        counts = record { faults = omega arith; quiet = omega arith; dry = omega arith; blocked = omega arith; lulls = omega arith; ends = omega arith };
        plan = refl;
        course = λ bytes on. (on, refl);
        steady = λ steady. refl;
        shut = λ shut. shut;
        in_plan = λ within. within;
        in_course = λ here. here;
      },
      record { kept = λ moved. refl; no_lull = λ steady. refl },
    )

pub read-answers : {S : Type 0} (step : Step S) (m m' : Served S) (out : List ℕ) (answer : LinkRead) → KeepsItsPromise m → Reads m m' out answer → ReadsWell step m m' out answer
read-answers {S = S} step m m' out answer kept (crosses, does) =
    subst (λ (x : Served S). ReadsWell step m x out answer) (sym crosses) (by_answer answer does)
  where
    at : Crossed → Served S
    at c = record m { crossed = c }

    by_answer : (answer : LinkRead) → crossing.Reads m.crossed m'.crossed out answer → ReadsWell step m (at m'.crossed) out answer
    by_answer (reads.Got n) g =
        let count : n ≡ min (min m.crossed.cut (length out)) (length m.crossed.due) = g.count in
        subst (λ (c : Crossed). ReadsWell step m (at c) out (reads.Got n)) (sym g.crossed) (gave-well step m out n g.some (omega (arith, count)) (omega (arith, count)) g.front)
    by_answer reads.NotReady (none, is) = subst (λ (c : Crossed). ReadsWell step m (at c) out reads.NotReady) (sym is) (dry-well step m out kept none)
    by_answer reads.End r = absurd r
    by_answer reads.Failed r = absurd r

-- ---- what a write keeps of the course

took-KeepsCourse : {S : Type 0} (step : Step S) (m m' : Served S) (piece said : List ℕ) → m'.crossed ≡ crossing.took m.crossed piece said → is_ended piece ≡ false →
    SaysOn step m.heard m'.heard piece said → FaultsOn step m m' piece → KeepsCourse (link_of step m) (link_of step m')
took-KeepsCourse {S = S} step m m' piece said crossed byte says faults bytes on =
    let c : Crossed = m.crossed in
    let given : List ℕ = c.given ++ c.due in
    let onto : (rest : List ℕ) × ((c.taken ++ piece) ++ rest ≡ bytes) = subst (λ (x : Crossed). (rest : List ℕ) × (x.taken ++ rest ≡ bytes)) crossed on in
    let rest : List ℕ = onto.0 in
    let behind : c.taken ++ (piece ++ rest) ≡ bytes = sym (append_assoc c.taken piece rest) ∙ onto.1 in
    let left : drop (length (c.taken ++ piece)) bytes ≡ rest = ap (drop (length (c.taken ++ piece))) (sym onto.1) ∙ drop_at (c.taken ++ piece) rest (length (c.taken ++ piece)) refl in
    let left' : drop (length c.taken) bytes ≡ piece ++ rest = ap (drop (length c.taken)) (sym behind) ∙ drop_at c.taken (piece ++ rest) (length c.taken) refl in (
      (piece ++ rest, behind),
      ap (λ (x : Crossed). Some ((x.given ++ x.due) ++ told_by step m' (drop (length x.taken) bytes))) crossed
          ∙ ap (λ (b : List ℕ). Some ((c.given ++ (c.due ++ said)) ++ told_by step m' b)) left
          ∙ ap (λ (b : List ℕ). Some (b ++ told_by step m' rest)) (sym (append_assoc c.given c.due said))
          ∙ ap (λ (b : List ℕ). Some b) (append_assoc given said (told_by step m' rest))
          ∙ ap (λ (b : List ℕ). Some (given ++ b)) (tells-on step m m' piece said byte says faults rest)
          ∙ ap (λ (b : List ℕ). Some (given ++ told_by step m b)) (sym left'),
    )

waits-SaysOn : {S : Type 0} (step : Step S) (old : Heard S) (piece : List ℕ) → SaysOn step old (record old { left = old.left ++ piece }) piece []
waits-SaysOn step old piece rest = ap (λ (b : List ℕ). (said_to step old.standing b).said) (append_assoc old.left piece rest)

answered-SaysOn : {S : Type 0} (step : Step S) (old : Heard S) (piece said : List ℕ) (next : Standing S) → front step old.standing (old.left ++ piece) ≡ Says said next [] →
    SaysOn step old (record { standing = next; left = [] }) piece said
answered-SaysOn {S = S} step old piece said next is rest =
    let later : front step old.standing ((old.left ++ piece) ++ rest) ≡ Says said next rest
    = (subst (λ (x : Front S). Knows (old.left ++ piece) rest x (front step old.standing ((old.left ++ piece) ++ rest))) is (front-known step old.standing (old.left ++ piece) rest)).1 in
    sym (ap (λ (b : List ℕ). (said_to step old.standing b).said) (sym (append_assoc old.left piece rest))
    ∙ ap (λ (a : Said S). a.said) (said_to-says step old.standing ((old.left ++ piece) ++ rest) said next rest later))

stopped-SaysOn : {S : Type 0} (step : Step S) (old new : Heard S) (piece : List ℕ) (fault : ServerFault) → front step old.standing (old.left ++ piece) ≡ Stops fault → new.standing.stage ≡ Over → SaysOn step old new piece []
stopped-SaysOn {S = S} step old new piece fault is over rest =
    let later : front step old.standing ((old.left ++ piece) ++ rest) ≡ Stops fault
    = subst (λ (x : Front S). Knows (old.left ++ piece) rest x (front step old.standing ((old.left ++ piece) ++ rest))) is (front-known step old.standing (old.left ++ piece) rest) in
    over-silent step new.standing (new.left ++ rest) over
    ∙ sym (ap (λ (b : List ℕ). (said_to step old.standing b).said) (sym (append_assoc old.left piece rest))
    ∙ ap (λ (a : Said S). a.said) (said_to-stops step old.standing ((old.left ++ piece) ++ rest) fault later))

-- ---- a write

abbrev WritesWell : {S : Type 0} → Step S → (m m' : Served S) → List ℕ → LinkWrite → Type 0
WritesWell step m m' bytes answer = WriteAnswers (link_of step m) (link_of step m') bytes answer × Keeps (link_of step m) (link_of step m') × KeepsPromise (link_of step m) (link_of step m') (took answer)

took-well : {S : Type 0} (step : Step S) (m m' : Served S) (bytes piece said : List ℕ) (n : ℕ) → are_bytes bytes ≡ true → 1 ≤ n → n ≤ length bytes → piece ≡ take n bytes →
    m'.crossed ≡ crossing.took m.crossed piece said → SaysOn step m.heard m'.heard piece said → FaultsOn step m m' piece → IsInCourse (link_of step m') → WritesWell step m m' bytes (writes.Took n)
took-well step m m' bytes piece said n are some fits piece_is crossed says on course =
    let byte : is_ended piece ≡ false = ap is_ended piece_is ∙ bytes-end (take n bytes) (bytes-take n bytes are) in
    let faults : m'.crossed.faults ≡ m.crossed.faults = ap (λ (c : Crossed). c.faults) crossed in
    let quiet : m'.crossed.quiet ≡ m.crossed.quiet = ap (λ (c : Crossed). c.quiet) crossed in
    let dry : m'.crossed.dry ≡ m.crossed.dry = ap (λ (c : Crossed). c.dry) crossed in
    let lulls : m'.crossed.lulls ≡ m.crossed.lulls = ap (λ (c : Crossed). c.lulls) crossed in (
      (
        record {
          some = some;
          fits = fits;
          taken = ap (λ (c : Crossed). Some c.taken) crossed ∙ ap (λ (b : List ℕ). Some (m.crossed.taken ++ b)) piece_is;
          given = ap (λ (c : Crossed). Some c.given) crossed;
          flushed = ap (λ (c : Crossed). c.flushed) crossed;
          shut = ap (λ (c : Crossed). c.shut) crossed;
          quiet = ap as_count quiet;
        },
        ap (λ (c : Crossed). c.promised) crossed,
      ),
      record {
        counts = record { faults = omega (arith, faults); quiet = omega (arith, quiet); dry = omega (arith, dry); blocked = omega arith; lulls = omega (arith, lulls); ends = omega arith };
        plan = refl;
        course = took-KeepsCourse step m m' piece said crossed byte says on;
        steady = λ steady. refl;
        shut = λ shut. ap (λ (c : Crossed). c.shut) crossed ∙ shut;
        in_plan = λ within. within;
        in_course = λ here. course;
      },
      record { kept = λ moved. absurd (false≢true (sym moved)); no_lull = λ steady. ap as_count lulls },
    )

failed-well : {S : Type 0} (step : Step S) (m : Served S) (bytes : List ℕ) → WritesWell step m (record m { crossed = failed m.crossed }) bytes writes.Failed
failed-well step m bytes = (
  record {
    rose = rose m.crossed.faults;
    planned = tt;
    bytes = record { given = refl; taken = refl; due = refl };
    writing = record { flushed = refl; shut = refl };
    quiet = refl;
  },
  record {
    counts = record { faults = omega arith; quiet = omega arith; dry = omega arith; blocked = omega arith; lulls = omega arith; ends = omega arith };
    plan = refl;
    course = λ later on. (on, refl);
    steady = λ steady. refl;
    shut = λ shut. shut;
    in_plan = λ within. within;
    in_course = λ here. here;
  },
  record { kept = λ moved. refl; no_lull = λ steady. refl },
)

kept-well : {S : Type 0} (step : Step S) (m : Served S) (bytes : List ℕ) → WritesWell step m m bytes writes.OutOfMemory
kept-well step m bytes = (
  (
    record {
      bytes = record { given = refl; taken = refl; due = refl };
      writing = record { flushed = refl; shut = refl };
      quiet = refl;
    },
    refl,
  ),
  record {
    counts = record { faults = omega arith; quiet = omega arith; dry = omega arith; blocked = omega arith; lulls = omega arith; ends = omega arith };
    plan = refl;
    course = λ later on. (on, refl);
    steady = λ steady. refl;
    shut = λ shut. shut;
    in_plan = λ within. within;
    in_course = λ here. here;
  },
  record { kept = λ moved. refl; no_lull = λ steady. refl },
)

-- the first bytes of those that can be taken are the first of all
front-offered : (bytes : List ℕ) (k n : ℕ) → n ≤ length (take k bytes) → take n (take k bytes) ≡ take n bytes
front-offered bytes k n fits = take-take n k bytes (omega (arith, fits, length-take k bytes))

took-by : {S : Type 0} (step : Step S) (m m' : Served S) (bytes : List ℕ) (n : ℕ) → is_settled m.heard.standing.stage m.heard.left ≡ true → 0 < m.crossed.room → 0 < length bytes →
    are_bytes bytes ≡ true → m.fault ≡ None → TakesBy m m' (offered m bytes) n (front_by step m (offered m bytes)) → IsInCourse (link_of step m') → WritesWell step m m' bytes (writes.Took n)
took-by {S = S} step m m' bytes n settled room some are none does course = by_front (front_by step m (offered m bytes)) refl does
  where
    size : length (offered m bytes) ≡ min m.crossed.room (length bytes)
    size = length-take-le (min m.crossed.room (length bytes)) bytes (omega arith)

    all : n ≡ length (offered m bytes) → offered m bytes ≡ take n bytes
    all is = ap (λ (k : ℕ). take k bytes) (sym (is ∙ size))

    piece_size : n ≤ length (offered m bytes) → length (take n (offered m bytes)) ≡ n
    piece_size fits = length-take-le n (offered m bytes) fits

    by_front : (x : Front S) → front_by step m (offered m bytes) ≡ x → TakesBy m m' (offered m bytes) n x → WritesWell step m m' bytes (writes.Took n)
    by_front Waits is (count, new) =
        took-well step m m' bytes (offered m bytes) [] n are (omega (arith, count, size, room, some)) (omega (arith, count, size)) (all count) (ap (λ (x : Served S). x.crossed) new)
        (subst (λ (h : Heard S). SaysOn step m.heard h (offered m bytes) []) (sym (ap (λ (x : Served S). x.heard) new)) (waits-SaysOn step m.heard (offered m bytes)))
        (waits-FaultsOn step m m' (offered m bytes) (omega (arith, size, room, some)) none (ap (λ (x : Served S). x.fault) new ∙ none) (ap (λ (x : Served S). x.heard) new) is) course
    by_front (Says said next rest) is (least, count, new) =
        let cut : IsPiece step m.heard.standing m.heard.left (offered m bytes) said next rest
        = settled-piece step m.heard.standing m.heard.left (offered m bytes) said next rest settled is in
        let long : length cut.piece ≡ n = omega (arith, count, length-append cut.piece rest, ap length cut.is) in
        let piece : take n (offered m bytes) ≡ cut.piece = ap (take n) (sym cut.is) ∙ take_at cut.piece rest n long in
        let here : front step m.heard.standing (m.heard.left ++ take n (offered m bytes)) ≡ Says said next []
        = ap (λ (b : List ℕ). front step m.heard.standing (m.heard.left ++ b)) piece ∙ cut.front_is in
        took-well step m m' bytes (take n (offered m bytes)) said n are least (omega (arith, count, size))
        (front-offered bytes (min m.crossed.room (length bytes)) n (omega (arith, count))) (ap (λ (x : Served S). x.crossed) new)
        (subst (λ (h : Heard S). SaysOn step m.heard h (take n (offered m bytes)) said) (sym (ap (λ (x : Served S). x.heard) new))
        (answered-SaysOn step m.heard (take n (offered m bytes)) said next here))
        (says-FaultsOn step m m' (take n (offered m bytes)) said next (omega (arith, least, piece_size (omega (arith, count)))) none (ap (λ (x : Served S). x.fault) new ∙ none)
        (ap (λ (x : Served S). x.heard) new) here) course
    by_front (Stops fault) is (reach, over, crossed, kept) =
        let cut = reach-stops step m.heard.standing m.heard.left (offered m bytes) n fault settled reach (omega (arith, size, room, some)) is in
        took-well step m m' bytes (take n (offered m bytes)) [] n are cut.0 (omega (arith, cut.1, size)) (front-offered bytes (min m.crossed.room (length bytes)) n cut.1) crossed
        (stopped-SaysOn step m.heard m'.heard (take n (offered m bytes)) fault cut.2 over)
        (stops-FaultsOn step m m' (take n (offered m bytes)) fault (omega (arith, cut.0, piece_size cut.1)) none kept cut.2) course

pub write-answers : {S : Type 0} (step : Step S) (m m' : Served S) (bytes : List ℕ) (answer : LinkWrite) → is_settled m.heard.standing.stage m.heard.left ≡ true → 0 < m.crossed.room → 0 < length bytes →
    are_bytes bytes ≡ true → TakesUp step m m' bytes answer → IsInCourse (link_of step m') → WritesWell step m m' bytes answer
write-answers {S = S} step m m' bytes answer settled room some are does course = by_fault m.fault refl does
  where
    by_answer : m.fault ≡ None → (answer : LinkWrite) → TakesIn m m' (offered m bytes) (front_by step m (offered m bytes)) answer → WritesWell step m m' bytes answer
    by_answer none (writes.Took n) d = took-by step m m' bytes n settled room some are none d course
    by_answer none writes.Failed d = absurd d
    by_answer none writes.OutOfMemory new = subst (λ (x : Served S). WritesWell step m x bytes writes.OutOfMemory) (sym new) (kept-well step m bytes)
    by_answer none writes.NotReady d = absurd d

    by_fault : (fault : Option ServerFault) → m.fault ≡ fault → TakesAt step m m' (offered m bytes) answer fault → WritesWell step m m' bytes answer
    by_fault None none d = by_answer none answer d
    by_fault (Some fault) is (failed_is, new) =
        subst (λ (a : LinkWrite). WritesWell step m m' bytes a) (sym failed_is) (subst (λ (x : Served S). WritesWell step m x bytes writes.Failed) (sym new) (failed-well step m bytes))

-- ---- a write meets a fault

pub stops-memory : {S : Type 0} (old : Served S) (crossed : Crossed) (n : ℕ) (fault : ServerFault) → fault ≡ faults.OutOfMemory → crossed ≡ took_less old.crossed n →
    StopsBy old (record old { crossed = crossed }) n fault writes.OutOfMemory
stops-memory old crossed n fault is crossed_is =
    subst (λ (f : ServerFault). StopsBy old (record old { crossed = crossed }) n f writes.OutOfMemory) (sym is)
    (refl, ap (λ (c : Crossed). record old { crossed = c }) crossed_is)

pub stops-other : {S : Type 0} (old : Served S) (crossed : Crossed) (n : ℕ) (fault : ServerFault) → (fault ≡ faults.OutOfMemory → ⊥) → crossed ≡ record old.crossed { promised = false; flushed = false } →
    StopsBy old (record old { crossed = crossed; fault = Some fault }) n fault (writes.Took n)
stops-other {S = S} old crossed n fault memory crossed_is = by_fault fault memory
  where
    after : (f : ServerFault) → record old { crossed = crossed; fault = Some f } ≡ record old { crossed = record old.crossed { promised = false; flushed = false }; fault = Some f }
    after f = ap (λ (c : Crossed). record old { crossed = c; fault = Some f }) crossed_is

    by_fault : (f : ServerFault) → (f ≡ faults.OutOfMemory → ⊥) → StopsBy old (record old { crossed = crossed; fault = Some f }) n f (writes.Took n)
    by_fault faults.BadStartup memory = (refl, after faults.BadStartup)
    by_fault (faults.Version v) memory = (refl, after (faults.Version v))
    by_fault faults.Cancel memory = (refl, after faults.Cancel)
    by_fault (faults.BadFrame f) memory = (refl, after (faults.BadFrame f))
    by_fault (faults.BadEffect k) memory = (refl, after (faults.BadEffect k))
    by_fault faults.Ended memory = (refl, after faults.Ended)
    by_fault faults.OutOfMemory memory = absurd (memory refl)

-- ---- a write of the bytes that can be taken

kept_front : (taken bytes : List ℕ) (left : ℕ) → left ≤ length bytes → take (length (taken ++ bytes) - left) (taken ++ bytes) ≡ taken ++ take (length bytes - left) bytes
kept_front taken bytes left fits =
    ap (λ (k : ℕ). take k (taken ++ bytes)) (omega (arith, length-append taken bytes, fits)) ∙ take-append-add taken bytes (length bytes - left)

-- what crossed once bytes were offered
abbrev offering : Crossed → List ℕ → Crossed
offering c bytes = record c { taken = c.taken ++ bytes }

-- none of them was taken
kept_none : (c : Crossed) (bytes : List ℕ) → took_less (offering c bytes) (length bytes) ≡ c
kept_none c bytes =
    let none : length bytes - length bytes ≡ 0 = omega arith in
    let taken : take (length (c.taken ++ bytes) - length bytes) (c.taken ++ bytes) ≡ c.taken
    = kept_front c.taken bytes (length bytes) (omega arith) ∙ ap (λ (k : ℕ). c.taken ++ take k bytes) none ∙ append-nil c.taken in
    ap (λ (t : List ℕ). record c { taken = t }) taken

-- a frame was answered
pub answered-TakesIn : {S : Type 0} (old : Served S) (heard : Heard S) (bytes : List ℕ) (found : Front S) (answer : Answer) (left : ℕ) (offer back moved said : Crossed) →
    TakesFront found old.heard heard bytes (Ok (Some (answer, left))) → offer ≡ offering old.crossed bytes → back ≡ took_less offer left → moved ≡ record back { promised = false; flushed = false } →
    said ≡ record moved { due = moved.due ++ answer_bytes answer; promised = false } →
    TakesIn old (record old { heard = heard; crossed = said }) bytes found (writes.Took (length bytes - left))
answered-TakesIn {S = S} old heard bytes found answer left offer back moved said (rest, found_is, left_is, less, none) offer_is back_is moved_is said_is =
    let n : ℕ = length bytes - left in
    let one : moved ≡ record (took_less (offering old.crossed bytes) left) { promised = false; flushed = false }
    = moved_is ∙ ap (λ (c : Crossed). record c { promised = false; flushed = false }) (back_is ∙ ap (λ (c : Crossed). took_less c left) offer_is) in
    let two : said ≡ crossing.took old.crossed (take n bytes) (answer_bytes answer)
    = said_is ∙ ap (λ (c : Crossed). record c { due = c.due ++ answer_bytes answer; promised = false }) one
    ∙ ap (λ (t : List ℕ). record old.crossed { taken = t; due = old.crossed.due ++ answer_bytes answer; promised = false; flushed = false }) (kept_front old.crossed.taken bytes left (omega (arith, less))) in
    subst (λ (x : Front S). TakesBy old (record old { heard = heard; crossed = said }) bytes n x) (sym found_is) (
      omega (arith, less),
      omega (arith, less, left_is),
      ap (λ (l : List ℕ). record old { heard = record { standing = heard.standing; left = l }; crossed = said }) none
          ∙ ap (λ (c : Crossed). record old { heard = record { standing = heard.standing; left = [] }; crossed = c }) two,
    )

-- no frame was whole
pub waited-TakesIn : {S : Type 0} (old : Served S) (heard : Heard S) (bytes : List ℕ) (found : Front S) (offer moved : Crossed) → TakesFront found old.heard heard bytes (Ok None) →
    offer ≡ offering old.crossed bytes → moved ≡ record offer { promised = false; flushed = false } → TakesIn old (record old { heard = heard; crossed = moved }) bytes found (writes.Took (length bytes))
waited-TakesIn {S = S} old heard bytes found offer moved (found_is, heard_is) offer_is moved_is =
    let all : moved ≡ crossing.took old.crossed bytes []
    = moved_is ∙ ap (λ (c : Crossed). record c { promised = false; flushed = false }) offer_is
    ∙ ap (λ (d : List ℕ). record old.crossed { taken = old.crossed.taken ++ bytes; due = d; promised = false; flushed = false }) (sym (append-nil old.crossed.due)) in
    subst (λ (x : Front S). TakesBy old (record old { heard = heard; crossed = moved }) bytes (length bytes) x) (sym found_is) (
      refl,
      ap (λ (h : Heard S). record old { heard = h; crossed = moved }) heard_is
          ∙ ap (λ (c : Crossed). record old { heard = record old.heard { left = old.heard.left ++ bytes }; crossed = c }) all,
    )

-- the server has a fault
pub stopped-TakesIn : {S : Type 0} (old mid new : Served S) (bytes : List ℕ) (found : Front S) (fault : ServerFault) (r : LinkWrite) →
    reach_of old.heard.standing.stage old.heard.left bytes ≡ length bytes → mid.crossed ≡ offering old.crossed bytes → mid.fault ≡ old.fault →
    TakesFront found old.heard mid.heard bytes (Err fault) → StopsBy mid new (length bytes) fault r → TakesIn old new bytes found r
stopped-TakesIn {S = S} old mid new bytes found fault r ends offer same takes stops = by_fault fault takes stops
  where
    back : took_less mid.crossed (length bytes) ≡ old.crossed
    back = ap (λ (c : Crossed). took_less c (length bytes)) offer ∙ kept_none old.crossed bytes

    refused : (f : ServerFault) → (found ≡ Stops f) × (mid.heard.standing.stage ≡ Over) →
        (r ≡ writes.Took (length bytes)) × (new ≡ record mid { crossed = record mid.crossed { promised = false; flushed = false }; fault = Some f }) → TakesIn old new bytes found r
    refused f (found_is, over) (r_is, new_is) =
        let crossed : new.crossed ≡ crossing.took old.crossed (take (length bytes) bytes) []
        = ap (λ (m : Served S). m.crossed) new_is ∙ ap (λ (c : Crossed). record c { promised = false; flushed = false }) offer
        ∙ ap (λ (d : List ℕ). record old.crossed { taken = old.crossed.taken ++ bytes; due = d; promised = false; flushed = false }) (sym (append-nil old.crossed.due))
        ∙ ap (λ (b : List ℕ). crossing.took old.crossed b []) (sym (take-length bytes)) in
        subst (λ (a : LinkWrite). TakesIn old new bytes found a) (sym r_is) (subst (λ (x : Front S). TakesBy old new bytes (length bytes) x) (sym found_is)
        (sym ends, ap (λ (m : Served S). m.heard.standing.stage) new_is ∙ over, crossed, ap (λ (m : Served S). m.fault) new_is))

    by_fault : (f : ServerFault) → TakesFront found old.heard mid.heard bytes (Err f) → StopsBy mid new (length bytes) f r → TakesIn old new bytes found r
    by_fault faults.BadStartup t s = refused faults.BadStartup t s
    by_fault (faults.Version v) t s = refused (faults.Version v) t s
    by_fault faults.Cancel t s = refused faults.Cancel t s
    by_fault (faults.BadFrame f) t s = refused (faults.BadFrame f) t s
    by_fault (faults.BadEffect k) t s = refused (faults.BadEffect k) t s
    by_fault faults.Ended t s = refused faults.Ended t s
    by_fault faults.OutOfMemory heard_is (r_is, new_is) =
        subst (λ (a : LinkWrite). TakesIn old new bytes found a) (sym r_is) (
        new_is ∙ ap (λ (h : Heard S). record { heard = h; crossed = took_less mid.crossed (length bytes); fault = mid.fault }) heard_is
        ∙ ap (λ (c : Crossed). record { heard = old.heard; crossed = c; fault = mid.fault }) back ∙ ap (λ (o : Option ServerFault). record old { fault = o }) same
        )

-- ---- where the server has no fault

pub took-TakesUp : {S : Type 0} (step : Step S) (old new : Served S) (bytes : List ℕ) (r : LinkWrite) → is_some old.fault ≡ false →
    TakesIn old new (offered old bytes) (front_by step old (offered old bytes)) r → TakesUp step old new bytes r
took-TakesUp step old new bytes r none takes = by_fault old.fault none
  where
    by_fault : (o : Option ServerFault) → is_some o ≡ false → TakesAt step old new (offered old bytes) r o
    by_fault None e = takes
    by_fault (Some f) e = absurd cc

-- what a call ensures where it came to its end
pub on_ok : {T E : Type 0} (r : Result T E) (P : Type 0) → OnOk r P → is_err r ≡ false → P
on_ok (Ok x) P m e = m
on_ok (Err x) P m e = absurd cc
