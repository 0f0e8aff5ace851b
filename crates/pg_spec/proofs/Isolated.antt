-- What a command of a session came to, and isolation of the answers that two reports say.
use Rattle.std.proofs.Common.{◌≡◌, List, Some, refl, sym, ap, ◌∙◌}
use Rattle.pg_spec.specs.Turns.{entry_at}
use Rattle.pg_spec.specs.Courses.{Course, begun_in, nowhere, questions_of, requests_of, unread}
use Rattle.pg_spec.specs.Isolation.{DidSo, IsByNames, IsOutcome, RanSo, met_by}
use Rattle.pg_spec.specs.Meanings.{Meaning}
use Rattle.pg_spec.proofs.Outcomes.{comes, same-by-names}

pub comes-to : {C A E Q R : Type 0} (meaning : Meaning C A E Q R) (c : C) (answers : List (List A)) (course : Course Q R) (x : RanSo meaning c answers course) → IsOutcome c answers course x
comes-to meaning c answers course x = record {
  ending = x.did.ending;
  left = unread course x.did.at;
  answered = x.did.answered;
  comes = comes course x.handle (begun_in nowhere x.times.begins) (meaning.asks x.did.before c) (requests_of course.book x.handle x.place) (questions_of course.asked x.handle x.place)
      (record { at = x.did.at; answer = x.did.ending }) x.did.unfolds;
}

abbrev did-so : {C A E Q R : Type 0} (meaning : Meaning C A E Q R) (c : C) (answers : List (List A)) (course : Course Q R) → RanSo meaning c answers course → DidSo meaning c course
did-so meaning c answers course x = record {
  handle = x.handle;
  from = begun_in nowhere x.times.begins;
  own = x.did.before;
  requests = requests_of course.book x.handle x.place;
  asked = questions_of course.asked x.handle x.place;
  given = record { at = x.did.at; answer = x.did.ending };
  unfolds = x.did.unfolds;
}

pub same-answers : {C A E Q R N : Type 0} (meaning : Meaning C A E Q R) (named : C → E → N) → IsByNames meaning named →
    (c : C) (one two : List (List A)) (a b : Course Q R) (x : RanSo meaning c one a) (y : RanSo meaning c two b) → named c y.did.before ≡ named c x.did.before →
    met_by b y.handle y.place ≡ met_by a x.handle x.place → entry_at two y.handle y.place ≡ entry_at one x.handle x.place
same-answers {C} {A} {E} {Q} {R} meaning named is c one two a b x y own met =
    let same = same-by-names meaning named is c a b (did-so meaning c one a x) (did-so meaning c two b y) own met refl in
    y.did.answered ∙ ap (λ (answer : A). Some answer) same.answer ∙ sym x.did.answered
