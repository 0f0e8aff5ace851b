-- What a link in memory does is what a link may do.
use Rattle.std.proofs.Common.{◌≡◌, ℕ, zero, suc, ◌+◌, ◌≤◌, Bool, true, false, not, ◌||◌, ◌&&◌, List, [], ◌∷◌, ◌++◌, length, take, drop, Some, Result, Ok, Err, refl, sym, ap, subst, ◌∙◌, append_assoc, arith, if◌then◌else◌}
use Rattle.std.specs.List.{concat}
use Rattle.std.specs.Prelude.{◌==◌, is_ok, is_err, nat_le}
use Rattle.std.proofs.Math.Seq.{drop-append_seam}
use Rattle.std.proofs.lemmas.List.{length-append, length-take, drop-drop, take-append-drop}
use Rattle.std.proofs.lemmas.Bool.{false≢true, leb-true, le-leb, eqb-true}
use Rattle.pg_spec.specs.Batches.{is_nothing}
use Rattle.pg_spec.specs.Links.{Rose, next_count}
use Rattle.pg_spec.specs.Sent.{turns_given}
use Rattle.pg_wire.specs.LinkCalls.{SameBytes, Gives, IsInPlan, IsInCourse, ReadAnswers, Keeps, KeepsPromise, gave}
use Rattle.pg_wire.specs.declared.link.LinkRead.{LinkRead}
use Rattle.pg_wire.specs.declared.link.LinkRead.TheVariants as reads
use Rattle.pg_wire.specs.Turning.{Counts}
use Rattle.pg_wire.specs.declared.turning.Turning.{Turning}
use Rattle.pg_wire.specs.Memory.{Memory, due_in, link_of, as_count, is_over, is_ready, may_have_ended, GivesFront, Reads, KeepsItsPromise}

-- ---- what is due

-- bytes that were given aren't due any more
due-given : (m : Memory) (n : ℕ) (promised : Bool) → n ≤ length (due_in m) →
    due_in (record m { given = m.given ++ take n (due_in m); promised = promised }) ≡ drop n (due_in m)
due-given m n promised enough =
    let len : length (m.given ++ take n (due_in m)) ≡ length m.given + n = length-append m.given (take n (due_in m)) ∙ omega (arith, length-take n (due_in m)) in
    ap (λ (k : ℕ). drop k (concat (take (turns_given m.taken) m.entries))) len ∙ sym (drop-drop n (length m.given) (concat (take (turns_given m.taken) m.entries)))

-- where nothing is due and the end isn't reached, a read isn't ready
pub not-ready : (m : Memory) → due_in m ≡ [] → is_over m ≡ false → is_ready m ≡ false
not-ready m none open_ = ap (λ (l : List ℕ). not (is_nothing l) || is_over m) none ∙ open_

-- ---- what was given stands in the plan

-- the bytes of the first entries are a front of those of more entries
concat-more : (k n : ℕ) (xs : List (List ℕ)) → k ≤ n → (more : List ℕ) × (concat (take k xs) ++ more ≡ concat (take n xs))
concat-more zero n xs less = (concat (take n xs), refl)
concat-more (suc k) zero xs less = absurd (omega (arith, less))
concat-more (suc k) (suc n) [] less = ([], refl)
concat-more (suc k) (suc n) (x ∷ xs) less =
    let r = concat-more k n xs (omega (arith, less)) in
    (r.0, append_assoc x (concat (take k xs)) r.0 ∙ ap (λ (l : List ℕ). x ++ l) r.1)

-- as what is due is given
in-plan-given : (m : Memory) (n : ℕ) → IsInPlan (link_of m) → IsInPlan (link_of (record m { given = m.given ++ take n (due_in m); promised = false }))
in-plan-given m n (rest, is) =
    let due : due_in m ≡ rest = ap (λ (l : List ℕ). drop (length m.given) l) (sym is) ∙ drop-append_seam m.given rest in (
      drop n (due_in m),
      append_assoc m.given (take n (due_in m)) (drop n (due_in m)) ∙ ap (λ (l : List ℕ). m.given ++ l) (take-append-drop n (due_in m) ∙ due) ∙ is,
    )

-- as bytes are taken, which give no fewer turns
in-plan-taken : (m : Memory) (taken : List ℕ) → turns_given m.taken ≤ turns_given taken → IsInPlan (link_of m) →
    IsInPlan (link_of (record m { taken = taken; promised = false; flushed = false }))
in-plan-taken m taken less (rest, is) =
    let more = concat-more (turns_given m.taken) (turns_given taken) m.entries less in
    (rest ++ more.0, sym (append_assoc m.given rest more.0) ∙ ap (λ (l : List ℕ). l ++ more.0) is ∙ more.1)

-- more bytes give no fewer turns
turns-grow : (sent more : List ℕ) (turning : Turning) → Counts sent turning → turning.turns ≡ turns_given sent → turns_given sent ≤ turns_given (sent ++ more)
turns-grow sent more turning counts all = let later = counts.turns more in omega (arith, later, all)

-- bytes were added
added : {U E : Type 0} (r : Result U E) (new more old : List ℕ) → is_err r ≡ false → new ≡ (if is_ok r then more else old) → new ≡ more
added (Ok done) new more old fine is = is
added (Err e) new more old fine is = absurd cc

-- given in the plan is given in course, and the other way round
course-from-plan : (m : Memory) → IsInPlan (link_of m) → IsInCourse (link_of m)
course-from-plan m (rest, is) =
    let due : due_in m ≡ rest = ap (λ (l : List ℕ). drop (length m.given) l) (sym is) ∙ drop-append_seam m.given rest in
    ap (λ (l : List ℕ). m.given ++ l) due ∙ is

plan-from-course : (m : Memory) → IsInCourse (link_of m) → IsInPlan (link_of m)
plan-from-course m is = (due_in m, is)

-- what will have been taken begins with what was taken before
taken-on : (before more bytes : List ℕ) → (rest : List ℕ) × ((before ++ more) ++ rest ≡ bytes) → (rest : List ℕ) × (before ++ rest ≡ bytes)
taken-on before more bytes (rest, is) = (more ++ rest, sym (append_assoc before more rest) ∙ is)

-- bytes were taken
pub write-keeps : {U E : Type 0} (m : Memory) (taken more : List ℕ) (turning : Turning) (r : Result U E) → Counts m.taken turning → turning.turns ≡ turns_given m.taken →
    is_err r ≡ false → taken ≡ (if is_ok r then m.taken ++ more else m.taken) → Keeps (link_of m) (link_of (record m { taken = taken; promised = false; flushed = false }))
write-keeps m taken more turning r counts all fine is = record {
  counts = record { faults = omega arith; quiet = omega arith; dry = omega arith; blocked = omega arith; lulls = omega arith; ends = omega arith };
  plan = refl;
  course = λ bytes on. (taken-on m.taken more bytes (subst (λ (l : List ℕ). (rest : List ℕ) × (l ++ rest ≡ bytes)) grown on), refl);
  steady = λ steady. refl;
  shut = λ shut. shut;
  in_plan = within;
  in_course = λ here. course-from-plan (record m { taken = taken; promised = false; flushed = false }) (within (plan-from-course m here));
}
  where
    grown : taken ≡ m.taken ++ more
    grown = added r taken (m.taken ++ more) m.taken fine is

    within : IsInPlan (link_of m) → IsInPlan (link_of (record m { taken = taken; promised = false; flushed = false }))
    within = in-plan-taken m taken (subst (λ (l : List ℕ). turns_given m.taken ≤ turns_given l) (sym grown) (turns-grow m.taken more turning counts all))

-- ---- reads

gives : (m m' : Memory) (out : List ℕ) (n : ℕ) → GivesFront m m' out n → Gives (link_of m) (link_of m') out n
gives m m' out n g =
    let c = g.count in let some = g.some in
    let enough : n ≤ length (due_in m) = omega arith in
    let new : m' ≡ record m { given = m.given ++ take n (due_in m); promised = false } = g.memory in
    record {
      some = omega arith;
      fits = omega arith;
      given = ap (λ (x : Memory). Some x.given) new ∙ ap (λ (l : List ℕ). Some (m.given ++ l)) (sym g.front);
      taken = ap (λ (x : Memory). Some x.taken) new;
      front = sym g.front;
      no_more_due = enough;
      due = ap (λ (x : Memory). Some (due_in x)) new ∙ ap (λ (l : List ℕ). Some l) (due-given m n false enough);
      writing = record { flushed = ap (λ (x : Memory). x.flushed) new; shut = ap (λ (x : Memory). x.shut) new };
      quiet = ap (λ (x : Memory). as_count x.quiet) new;
    }

rose : (n : ℕ) → Rose (as_count n) (as_count (next_count n))
rose n = omega arith

next-as_count : (n : ℕ) → as_count (next_count n) ≡ next_count (as_count n)
next-as_count n = omega arith

same-bytes : (m : Memory) (n : Memory) → n.given ≡ m.given → n.taken ≡ m.taken → n.entries ≡ m.entries → SameBytes (link_of m) (link_of n)
same-bytes m n given taken entries = record {
  given = ap (λ (l : List ℕ). Some l) given;
  taken = ap (λ (l : List ℕ). Some l) taken;
  due = ap (λ (l : List ℕ). Some (drop (length l) (concat (take (turns_given n.taken) n.entries)))) given
      ∙ ap (λ (l : List ℕ). Some (drop (length m.given) (concat (take (turns_given l) n.entries)))) taken
      ∙ ap (λ (l : List (List ℕ)). Some (drop (length m.given) (concat (take (turns_given m.taken) l)))) entries;
}

-- where it ends, what was given grows only
ends-grow : (ends : Bool) (size given more n : ℕ) → given ≤ more → (if ends && nat_le size given then n else 0) ≤ (if ends && nat_le size more then n else 0)
ends-grow false size given more n grows = omega arith
ends-grow true size given more n grows = by (nat_le size given) (nat_le size more) refl refl
  where
    by : (a b : Bool) → nat_le size given ≡ a → nat_le size more ≡ b → (if a then n else 0) ≤ (if b then n else 0)
    by false b before after = omega arith
    by true true before after = omega arith
    by true false before after = absurd (false≢true (sym after ∙ le-leb size more (omega (arith, leb-true size given before, grows))))

ended-there : (ends : Bool) (size given : ℕ) → (ends && (given == size)) ≡ true → (ends && nat_le size given) ≡ true
ended-there true size given over = let same = eqb-true given size over in le-leb size given (omega (arith, same))
ended-there false size given over = over

-- a read is one that a link may do
pub read-answers : (m m' : Memory) (out : List ℕ) (answer : LinkRead) → KeepsItsPromise m → Reads m m' out answer →
    ReadAnswers (link_of m) (link_of m') out answer × Keeps (link_of m) (link_of m') × KeepsPromise (link_of m) (link_of m') (gave answer)
read-answers m m' out (reads.Got n) k g =
    let new : m' ≡ record m { given = m.given ++ take n (due_in m); promised = false } = g.memory in (
      (gives m m' out n g, ap (λ (x : Memory). x.promised) new),
      subst (λ (x : Memory). Keeps (link_of m) (link_of x)) (sym new) (record {
        counts = record {
          faults = omega arith;
          quiet = omega arith;
          dry = omega arith;
          blocked = omega arith;
          lulls = omega arith;
          ends = ends-grow m.ends (length (concat m.entries)) (length m.given) (length (m.given ++ take n (due_in m))) (as_count m.ended)
              (omega (arith, length-append m.given (take n (due_in m))));
        };
        plan = refl;
        course = λ bytes on. (on, refl);
        steady = λ steady. refl;
        shut = λ shut. shut;
        in_plan = in-plan-given m n;
        in_course = λ here. course-from-plan (record m { given = m.given ++ take n (due_in m); promised = false }) (in-plan-given m n (plan-from-course m here));
      }),
      record { kept = λ moved. absurd (false≢true (sym moved)); no_lull = λ steady. ap (λ (x : Memory). as_count x.lulls) new },
    )
read-answers m m' out reads.End k (none, over, new) =
    let here : may_have_ended m ≡ true = ended-there m.ends (length (concat m.entries)) (length m.given) over in
    let before : (if may_have_ended m then as_count m.ended else 0) ≡ as_count m.ended = ap (λ (b : Bool). if b then as_count m.ended else 0) here in
    let after : (if may_have_ended m then as_count (next_count m.ended) else 0) ≡ as_count (next_count m.ended)
    = ap (λ (b : Bool). if b then as_count (next_count m.ended) else 0) here in
    subst (λ (x : Memory). ReadAnswers (link_of m) (link_of x) out reads.End × Keeps (link_of m) (link_of x) × KeepsPromise (link_of m) (link_of x) false) (sym new) (
      (
        omega (arith, before, after, rose m.ended),
        ends_there m.ends _ over,
        record {
          bytes = same-bytes m (record m { ended = next_count m.ended }) refl refl refl;
          writing = record { flushed = refl; shut = refl };
          quiet = refl;
        },
      ),
      record {
        counts = record { faults = omega arith; quiet = omega arith; dry = omega arith; blocked = omega arith; lulls = omega arith; ends = omega (arith, before, after) };
        plan = refl;
        course = λ bytes on. (on, refl);
        steady = λ steady. refl;
        shut = λ shut. shut;
        in_plan = λ within. within;
        in_course = λ here. here;
      },
      record { kept = λ moved. refl; no_lull = λ steady. refl },
    )
  where
    ends_there : (b c : Bool) → (b && c) ≡ true → b ≡ true
    ends_there true c over = refl
    ends_there false c over = over
read-answers m m' out reads.NotReady k (none, open_, new) =
    let never : m.promised ≡ true → ⊥ = λ p. false≢true (sym (not-ready m none open_) ∙ k p) in
    subst (λ (x : Memory). ReadAnswers (link_of m) (link_of x) out reads.NotReady × Keeps (link_of m) (link_of x) × KeepsPromise (link_of m) (link_of x) false) (sym new) (
      (
        record {
          quiet = next-as_count m.quiet;
          lulls = λ p. absurd (never p);
          bytes = same-bytes m (record m { quiet = next_count m.quiet; dry = next_count m.dry }) refl refl refl;
          writing = record { flushed = refl; shut = refl };
        },
        rose m.dry,
        λ steady. ap (λ (l : List ℕ). Some l) none,
      ),
      record {
        counts = record { faults = omega arith; quiet = omega arith; dry = omega arith; blocked = omega arith; lulls = omega arith; ends = omega arith };
        plan = refl;
        course = λ bytes on. (on, refl);
        steady = λ steady. refl;
        shut = λ shut. shut;
        in_plan = λ within. within;
        in_course = λ here. here;
      },
      record { kept = λ moved. refl; no_lull = λ steady. refl },
    )
read-answers m m' out reads.Failed k r = absurd r

-- ---- whether a read would be ready

ready_by : List (List ℕ) → Bool → List ℕ → List ℕ → Bool
ready_by entries ends given taken =
    not (is_nothing (drop (length given) (concat (take (turns_given taken) entries)))) || (ends && (length given == length (concat entries)))

pub ready-same : (m m' : Memory) → m'.entries ≡ m.entries → m'.ends ≡ m.ends → m'.given ≡ m.given → m'.taken ≡ m.taken → is_ready m' ≡ is_ready m
unfolding ready_by
ready-same m m' entries ends given taken =
    ap (λ (l : List (List ℕ)). ready_by l m'.ends m'.given m'.taken) entries ∙ ap (λ (b : Bool). ready_by m.entries b m'.given m'.taken) ends
    ∙ ap (λ (l : List ℕ). ready_by m.entries m.ends l m'.taken) given ∙ ap (λ (l : List ℕ). ready_by m.entries m.ends m.given l) taken
