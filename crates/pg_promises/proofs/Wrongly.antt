-- Sessions that are refused.
use Rattle.std.proofs.Common.{◌≡◌, ℕ, zero, suc, ◌+◌, ◌<◌, ◌≤◌, arith, List, [], ◌∷◌, length, map, Ok, Option, Some, None, option_map, refl, sym, ap, ◌∙◌, codes}
use Rattle.std.specs.Fmt.{digits}
use Rattle.std.specs.Str.{is_utf8, chars}
use Rattle.std.specs.Str.Lossy.{utf8_lossy, utf8_valid_len}
use lib.Utf8.{encode}
use Rattle.std.specs.Prelude.{IsSome, sum_by, unwrap_or}
use Rattle.std.proofs.lemmas.List.Elements.{recursion_from_All}
use Rattle.std.proofs.lemmas.List.Sorted.{all_adjacent_from_non_decreasing}
use Rattle.std.proofs.lemmas.Option.{same_Some}
use Rattle.pg_spec.specs.RawMessages.{RawMessage}
use Rattle.pg_spec.specs.SimpleQuery.{Item, Complete}
use Rattle.pg_spec.specs.Book.{Booking}
use Rattle.pg_spec.specs.Stamps.{stamped}
use Rattle.pg_spec.specs.Turns.{Times, entry_at, free_from}
use Rattle.pg_spec.specs.Courses.{Given, Outcome, begun_in, met_in, nowhere, outcome, questions_of, requests_of, unread}
use Rattle.pg_spec.specs.Meanings.{Ending}
use Rattle.pg_spec.proofs.OneWay.{first-one}
use Rattle.pg_spec.proofs.Outcomes.{comes}
use Rattle.pg_promises.specs.Words.{Question, Named}
use Rattle.pg_promises.specs.Rows.{Answer, Begin, Command, CopyIn, Messages, Own, Prepare, Prepared, Query, asks, new}
use Rattle.pg_promises.specs.Sessions.{IsRight, Session, affected_so, has, mood, s0, simple_a, simple_b}
use Rattle.pg_promises.specs.Wrong as wrong
use Rattle.pg_promises.proofs.Tests.{first-own, other-entry}

-- the outcome of a command, by what it met
abbrev outcome-of : Session → (handle place : ℕ) → Own → Command → Outcome Question (Ending Answer Own)
outcome-of s handle place own c = outcome (asks own c) (met_in s.course (requests_of s.course.book handle place) (questions_of s.course.asked handle place)) []

-- what was booked and asked for it, with an answer
abbrev done-of : Session → (handle place : ℕ) → Ending Answer Own → List RawMessage → Outcome Question (Ending Answer Own)
done-of s handle place ending left = record {
  parts = [];
  requests = map (λ r. r.booking.parts) (requests_of s.course.book handle place);
  asked = map (λ a. a.question) (questions_of s.course.asked handle place);
  answer = Some ending;
  left = left;
}

-- what a command of a right session came to, whenever it began
record Came (s : Session) (h : IsRight s) (handle place : ℕ) (own : Own) (c : Command) : Type 0 where
  ending : Ending Answer Own
  left : List RawMessage
  answered : entry_at s.answers handle place ≡ Some ending.answer
  later : entry_at h.states handle (place + 1) ≡ Some ending.own
  comes : outcome-of s handle place own c ≡ done-of s handle place ending left

came : (s : Session) (h : IsRight s) (handle place : ℕ) (own : Own) (c : Command) → entry_at s.scripts handle place ≡ Some c → entry_at h.states handle place ≡ Some own → Came s h handle place own c
came s h handle place own c ec eo =
    let t = other-entry s.scripts h.schedule h.one_time_each handle place c ec in
    let did = h.did handle place c t.0 ec t.1 in
    let before : did.before ≡ own = same_Some did.before own (sym did.had ∙ eo) in
    record {
      ending = did.ending;
      left = unread s.course did.at;
      answered = did.answered;
      later = did.has;
      comes = ap (λ (o : Own). outcome-of s handle place o c) (sym before)
          ∙ comes s.course handle (begun_in nowhere t.0.begins) (asks did.before c) (requests_of s.course.book handle place) (questions_of s.course.asked handle place)
          (record { at = did.at; answer = did.ending }) did.unfolds;
    }

-- what its script has behind it, where its outcome is known
then-has : (s : Session) (h : IsRight s) (handle : ℕ) (c : Command) (e : Ending Answer Own) → Came s h handle 0 new c → (outcome-of s handle 0 new c).answer ≡ Some e → entry_at h.states handle 1 ≡ Some e.own
then-has s h handle c e came is =
    came.later ∙ ap (λ (e : Ending Answer Own). Some e.own) (same_Some came.ending e (sym (ap (λ (o : Outcome Question (Ending Answer Own)). o.answer) came.comes) ∙ is))

-- ---- what tells outcomes apart

abbrev count : Outcome Question (Ending Answer Own) → ℕ
count o = length o.requests

abbrev parts : Outcome Question (Ending Answer Own) → ℕ
parts o = sum_by (λ ps. length ps) o.requests

abbrev asked_count : Outcome Question (Ending Answer Own) → ℕ
asked_count o = length o.asked

-- what a simple query says that it affected
abbrev affected_in : List Item → ℕ
affected_in (Complete n ∷ items) = n
affected_in other = 0

abbrev affected_by : Answer → ℕ
affected_by (Messages (Ok items)) = affected_in items
affected_by other = 0

-- ---- the sessions

pub late : IsRight wrong.booked_late → ⊥
late h =
    let t = other-entry wrong.booked_late.scripts h.schedule h.one_time_each 0 0 simple_a refl in
    let begins = first-one wrong.booked_late.course.trace 0 0 (λ p. _) t.0.begins 0 (h.begins 0 0 t.0 t.1) (first-own wrong.booked_late.course.trace 0 0 0 refl) in
    let did = h.did 0 0 simple_a t.0 refl t.1 in
    let booked : 2 ≡ t.0.begins = did.unfolds.1 in
    omega (arith, booked, begins)

pub early : IsRight wrong.replied_early → ⊥
early h = let le = h.asked_first 1 (omega arith) in omega (arith, le)

pub forgets : IsRight wrong.forgotten → ⊥
forgets h = let e : Named None ≡ Named (Some mood) = h.told.1.1.1.1.0 in absurd cc

pub other-answer : IsRight wrong.exchanged → ⊥
unfolding digits is_utf8 chars encode utf8_lossy utf8_valid_len
other-answer h =
    let c = came wrong.exchanged h 0 0 new simple_a refl (h.new 0 (omega arith)) in
    let is : 1 ≡ affected_by c.ending.answer = ap (λ (o : Outcome Question (Ending Answer Own)). elim o.answer as (λ _. ℕ) [ None ↦ 0 | Some e ↦ affected_by e.answer ]) c.comes in
    let said : 2 ≡ affected_by c.ending.answer = ap affected_by (same_Some (affected_so 2) c.ending.answer c.answered) in
    omega (arith, is, said)

pub no-rollback : IsRight wrong.not_rolled_back → ⊥
unfolding digits is_utf8 chars encode utf8_lossy utf8_valid_len
no-rollback h =
    let c = came wrong.not_rolled_back h 0 0 new Begin refl (h.new 0 (omega arith)) in
    let e : 2 ≡ 1 = ap count c.comes in
    omega (arith, e)

pub twice : IsRight wrong.drawn_twice → ⊥
unfolding digits is_utf8 chars encode utf8_lossy utf8_valid_len
twice h =
    let c = came wrong.drawn_twice h 0 0 new (Prepare 0 (codes "q")) refl (h.new 0 (omega arith)) in
    let e : 1 ≡ 2 = ap asked_count c.comes in
    omega (arith, e)

pub nobody : IsRight wrong.of_nobody → ⊥
nobody h = let e = (recursion_from_All (λ b. IsSome (entry_at wrong.of_nobody.scripts b.stamp.owner b.stamp.command)) wrong.of_nobody.course.book h.no_other).1.1.0 in absurd cc

pub cut : IsRight wrong.copy_cut → ⊥
unfolding digits is_utf8 chars encode utf8_lossy utf8_valid_len
cut h =
    let p = came wrong.copy_cut h 0 0 new (Prepare 0 (codes "q")) refl (h.new 0 (omega arith)) in
    let c = came wrong.copy_cut h 0 1 (has (s0 [])) (CopyIn 0 (codes "1" ∷ [])) refl
    (then-has wrong.copy_cut h 0 (Prepare 0 (codes "q")) (record { answer = Prepared (codes "s0") []; own = has (s0 []) }) p refl) in
    let e : 1 ≡ 2 = ap count c.comes in
    omega (arith, e)

pub astray : IsRight wrong.copy_astray → ⊥
unfolding digits is_utf8 chars encode utf8_lossy utf8_valid_len
astray h =
    let c = came wrong.copy_astray h 1 0 new simple_b refl (h.new 1 (omega arith)) in
    let e : 1 ≡ 2 = ap parts c.comes in
    omega (arith, e)

pub asked-beside : IsRight wrong.asked_by_nobody → ⊥
asked-beside h = let e = (recursion_from_All (λ a. IsSome (entry_at wrong.asked_by_nobody.scripts a.stamp.owner a.stamp.command)) wrong.asked_by_nobody.course.asked h.none_asked_beside).1.0 in absurd cc

at-most : (a b : ℕ) → (b < a → ⊥) → a ≤ b
at-most zero b f = omega arith
at-most (suc a) zero f = absurd (f (omega arith))
at-most (suc a) (suc b) f = let le = at-most a b (λ lt. f (omega (arith, lt))) in omega (arith, le)

pub late-answer : IsRight wrong.begun_late → ⊥
unfolding digits is_utf8 chars encode utf8_lossy utf8_valid_len
late-answer h =
    let t = other-entry wrong.begun_late.scripts h.schedule h.one_time_each 0 0 simple_a refl in
    let u = other-entry wrong.begun_late.scripts h.schedule h.one_time_each 0 1 simple_b refl in
    let did = h.did 0 0 simple_a t.0 refl t.1 in
    let booked : 0 ≡ t.0.begins = did.unfolds.1 in
    let n : 2 ≡ did.unfolds.4.0 = same_Some 2 did.unfolds.4.0 did.unfolds.4.1 in
    let turn : did.unfolds.4.2 ≡ t.0.answers = sym (ap (λ (g : Given (Ending Answer Own)). g.at.turn) did.unfolds.4.4.3) ∙ did.in_turn in
    let answers : t.0.answers ≤ 2 = at-most t.0.answers 2 (λ lt. did.unfolds.4.3.first 2 (omega (arith, booked)) (omega (arith, lt, turn)) refl (omega (arith, n))) in
    let booked_then : 6 ≡ u.0.begins = (h.did 0 1 simple_b u.0 refl u.1).unfolds.1 in
    let free : free_from h.schedule 0 1 ≡ t.0.answers + 1 = ap (λ (o : Option Times). unwrap_or (option_map (λ x. x.answers + 1) o) 0) t.1 in
    (h.begins 0 1 u.0 u.1).first 4 (omega (arith, free, answers)) (omega (arith, booked_then)) refl tt

pub lost : IsRight wrong.slot_lost → ⊥
unfolding digits is_utf8 chars encode utf8_lossy utf8_valid_len
lost h =
    let types : List (List ℕ) = codes "int4" ∷ [] in
    let p = came wrong.slot_lost h 0 0 new (Prepare 0 (codes "q")) refl (h.new 0 (omega arith)) in
    let c = came wrong.slot_lost h 0 1 (has (s0 types)) (Query 0) refl
    (then-has wrong.slot_lost h 0 (Prepare 0 (codes "q")) (record { answer = Prepared (codes "s0") types; own = has (s0 types) }) p refl) in
    let e : 1 ≡ 0 = ap count c.comes in
    omega (arith, e)

pub no-answer : IsRight wrong.unanswered → ⊥
no-answer h = let e : 1 ≡ 2 = ap (λ (ns : List ℕ). sum_by (λ n. n) ns) h.one_answer_each in omega (arith, e)

pub order : IsRight wrong.out_of_order → ⊥
order h =
    let le : 1 ≤ 0 = all_adjacent_from_non_decreasing (λ (b : Booking). b.stamp.turn) wrong.out_of_order.course.book h.in_order 0 (record { stamp = stamped 0 0 0; parts = [] }) (omega arith) in
    omega (arith, le)

pub same-twice : IsRight wrong.booked_twice → ⊥
unfolding digits is_utf8 chars encode utf8_lossy utf8_valid_len
same-twice h =
    let c = came wrong.booked_twice h 0 0 new simple_a refl (h.new 0 (omega arith)) in
    let e : 1 ≡ 2 = ap count c.comes in
    omega (arith, e)
