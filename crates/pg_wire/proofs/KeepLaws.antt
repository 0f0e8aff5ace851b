-- What one call keeps and the next one keeps, both keep.
use Rattle.std.proofs.Common.{◌∙◌, ℕ, ◌≡◌, arith, refl}
use Rattle.pg_spec.specs.Links.{LinkView, Rose, NoneFell, next_count}
use Rattle.pg_wire.specs.LinkCalls.{Keeps, KeepsCourse}

pub keeps_course-same : (link : LinkView) → KeepsCourse link link
keeps_course-same link = λ bytes on. (on, refl)

pub keeps_course-then : (a b c : LinkView) → KeepsCourse a b → KeepsCourse b c → KeepsCourse a c
keeps_course-then a b c first then = λ bytes on.
    let later = then bytes on in
    let earlier = first bytes later.0 in
    (earlier.0, later.1 ∙ earlier.1)

none_fell-same : (link : LinkView) → NoneFell link link
none_fell-same link = record { faults = omega arith; quiet = omega arith; dry = omega arith; blocked = omega arith; lulls = omega arith; ends = omega arith }

none_fell-then : (a b c : LinkView) → NoneFell a b → NoneFell b c → NoneFell a c
none_fell-then a b c first then = record {
  faults = omega (arith, first.faults, then.faults);
  quiet = omega (arith, first.quiet, then.quiet);
  dry = omega (arith, first.dry, then.dry);
  blocked = omega (arith, first.blocked, then.blocked);
  lulls = omega (arith, first.lulls, then.lulls);
  ends = omega (arith, first.ends, then.ends);
}

pub keeps-same : (link : LinkView) → Keeps link link
keeps-same link = record {
  counts = none_fell-same link;
  plan = refl;
  course = keeps_course-same link;
  steady = λ is. is;
  shut = λ is. is;
  in_plan = λ is. is;
  in_course = λ is. is;
}

pub keeps-then : (a b c : LinkView) → Keeps a b → Keeps b c → Keeps a c
keeps-then a b c first then = record {
  counts = none_fell-then a b c first.counts then.counts;
  plan = then.plan ∙ first.plan;
  course = keeps_course-then a b c first.course then.course;
  steady = λ is. then.steady (first.steady is);
  shut = λ is. then.shut (first.shut is);
  in_plan = λ is. then.in_plan (first.in_plan is);
  in_course = λ is. then.in_course (first.in_course is);
}

-- a count that is one more rose
pub rose-next : (before now : ℕ) → now ≡ next_count before → Rose before now
rose-next before now is = omega (arith, is)
