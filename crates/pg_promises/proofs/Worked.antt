-- The worked sessions have run as their commands mean.
use Rattle.std.proofs.Common.{◌≡◌, ℕ, zero, suc, ◌<◌, arith, List, [], ◌∷◌, length, true, Some, refl, subst}
use Rattle.std.specs.Prelude.{⊤, IsSome, sum_by, take, nat_le, codes}
use Rattle.std.specs.Fmt.{digits}
use Rattle.std.specs.Str.{is_utf8, chars}
use Rattle.std.specs.Str.Lossy.{utf8_lossy, utf8_valid_len}
use lib.Utf8.{encode}
use Rattle.std.proofs.lemmas.Bool.{leb-true}
use Rattle.std.proofs.lemmas.Option.{same_Some}
use Rattle.std.proofs.lemmas.List.Elements.{All-from_recursion}
use Rattle.pg_spec.specs.Turns.{BeginInTurn, IsFirstTurn, Times, delivered_before, entry_at, free_from}
use Rattle.pg_spec.specs.Courses.{delivered_to}
use Rattle.pg_spec.specs.Meanings.{AreAskedFirst, Did, EachCommand, booked_in}
use Rattle.pg_promises.specs.Rows.{Begin, Command, Commit, CopyIn, Own, Prepare, Query, ending, meaning, new}
use Rattle.pg_promises.specs.Sessions.{IsRight, Session, copied, copied_beside, copied_late, copy_piece, has, mood, prepared_and_queried, refused_begin, s0, shared_type, simple_a, simple_b, ten_turns, twelve_turns, two_queries}
use Rattle.pg_promises.proofs.Tests.{EachIn, all_below, below, first-at_least, first-own, of-rows, rising, trace-is}

abbrev times : ℕ → ℕ → Times
times begins answers = record { begins = begins; answers = answers }

one-handle : (P : ℕ → Type 0) → P 0 → (i : ℕ) → i < 1 → P i
one-handle P a zero lt = a
one-handle P a (suc i) lt = absurd (omega (arith, lt))

two-handles : (P : ℕ → Type 0) → P 0 → P 1 → (i : ℕ) → i < 2 → P i
two-handles P a b zero lt = a
two-handles P a b (suc zero) lt = b
two-handles P a b (suc (suc i)) lt = absurd (omega (arith, lt))

-- what holds of one value holds of that which an entry gives
so : {X : Type 0} (a : X) (P : X → Type 0) → P a → (x : X) → Some a ≡ Some x → P x
so a P p x e = subst P (same_Some a x e) p

asked-first : (s : Session) → all_below (λ k. nat_le (delivered_before s.course.trace (booked_in s.course.book k)) (sum_by length (take k s.course.replies))) (length s.course.book) ≡ true → AreAskedFirst s.course
asked-first s h k lt = leb-true (delivered_before s.course.trace (booked_in s.course.book k)) (sum_by length (take k s.course.replies))
    (below (λ k. nat_le (delivered_before s.course.trace (booked_in s.course.book k)) (sum_by length (take k s.course.replies))) (length s.course.book) h k lt)

-- what each command did, from those of the scripts
abbrev DidIn : Session → List (List Own) → List (List Times) → ℕ → ℕ → Command → Type 0
DidIn s states schedule handle place c = (t : Times) → entry_at schedule handle place ≡ Some t → Did meaning s.course states s.answers handle place c t

each : (s : Session) (states : List (List Own)) (schedule : List (List Times)) → EachIn s.scripts (DidIn s states schedule) → EachCommand s.scripts schedule (Did meaning s.course states s.answers)
each s states schedule all handle place c t ec et = of-rows s.scripts (DidIn s states schedule) all handle place c ec t et

abbrev Begins : Session → List (List Times) → ℕ → ℕ → Times → Type 0
Begins s schedule handle place t = IsFirstTurn s.course.trace handle (free_from schedule handle place) (λ p. ⊤) t.begins

all-begin : (s : Session) (schedule : List (List Times)) → EachIn schedule (Begins s schedule) → BeginInTurn s.course.trace schedule
all-begin s schedule all handle place t e = of-rows schedule (Begins s schedule) all handle place t e

-- ---- a statement is prepared, and queried by its slot

abbrev twice : List (List Times)
twice = (times 0 2 ∷ times 4 8 ∷ []) ∷ []

abbrev queried_states : List (List Own)
queried_states = (new ∷ has (s0 (codes "int4" ∷ [])) ∷ has (s0 (codes "int4" ∷ [])) ∷ []) ∷ []

prepared : Did meaning prepared_and_queried.course queried_states prepared_and_queried.answers 0 0 (Prepare 0 (codes "q")) (times 0 2)
unfolding digits is_utf8 chars encode utf8_lossy utf8_valid_len
prepared = record {
  before = new;
  had = refl;
  ending = _;
  answered = refl;
  has = refl;
  at = _;
  in_turn = refl;
  unfolds = (refl, refl, (refl, refl, [], refl, (3, refl, 2, first-at_least ten_turns 0 0 2 3 (λ place. delivered_to prepared_and_queried.course (Some 0) place) refl, (refl, refl, refl, refl))));
}

queried : Did meaning prepared_and_queried.course queried_states prepared_and_queried.answers 0 1 (Query 0) (times 4 8)
unfolding digits is_utf8 chars encode utf8_lossy utf8_valid_len
queried = record {
  before = has (s0 (codes "int4" ∷ []));
  had = refl;
  ending = _;
  answered = refl;
  has = refl;
  at = _;
  in_turn = refl;
  unfolds = (refl, refl, [], refl, (4, refl, 8, first-at_least ten_turns 0 4 8 4 (λ place. delivered_to prepared_and_queried.course (Some 1) place) refl, (refl, refl, refl, refl)));
}

pub by-slot : IsRight prepared_and_queried
by-slot = record {
  schedule = twice;
  states = queried_states;
  one_answer_each = refl;
  one_time_each = refl;
  new = one-handle (λ handle. entry_at queried_states handle 0 ≡ Some new) refl;
  turns_made = trace-is [] 1 ten_turns refl;
  begins = all-begin prepared_and_queried twice ((first-own ten_turns 0 0 0 refl, (first-own ten_turns 0 3 4 refl, tt)), tt);
  did = each prepared_and_queried queried_states twice (
    (
      so (times 0 2) (Did meaning prepared_and_queried.course queried_states prepared_and_queried.answers 0 0 (Prepare 0 (codes "q"))) prepared,
      (so (times 4 8) (Did meaning prepared_and_queried.course queried_states prepared_and_queried.answers 0 1 (Query 0)) queried, tt),
    ),
    tt,
  );
  no_other = All-from_recursion (λ b. IsSome (entry_at prepared_and_queried.scripts b.stamp.owner b.stamp.command)) prepared_and_queried.course.book (refl, (refl, tt));
  in_order = rising (λ b. b.stamp.turn) prepared_and_queried.course.book refl;
  asked_first = asked-first prepared_and_queried refl;
  none_asked_beside = All-from_recursion (λ a. IsSome (entry_at prepared_and_queried.scripts a.stamp.owner a.stamp.command)) prepared_and_queried.course.asked (refl, tt);
  asked_in_order = rising (λ a. a.stamp.turn) prepared_and_queried.course.asked refl;
  told = (refl, tt);
}

-- ---- two handles share a type

abbrev side_by_side : List (List Times)
side_by_side = (times 0 6 ∷ []) ∷ (times 1 7 ∷ []) ∷ []

abbrev shared_states : List (List Own)
shared_states = (new ∷ has (s0 (mood ∷ [])) ∷ []) ∷ (new ∷ has (record { name = codes "s1"; types = mood ∷ [] }) ∷ []) ∷ []

looked-up : Did meaning shared_type.course shared_states shared_type.answers 0 0 (Prepare 0 (codes "q")) (times 0 6)
unfolding digits is_utf8 chars encode utf8_lossy utf8_valid_len
looked-up = record {
  before = new;
  had = refl;
  ending = _;
  answered = refl;
  has = refl;
  at = _;
  in_turn = refl;
  unfolds = (
    refl,
    refl,
    (
      refl,
      refl,
      [],
      refl,
      (
        3,
        refl,
        3,
        first-at_least shared_type.course.trace 0 0 3 3 (λ place. delivered_to shared_type.course (Some 0) place) refl,
        (
          refl,
          refl,
          (
            refl,
            refl,
            [],
            refl,
            (
              2,
              refl,
              6,
              first-at_least shared_type.course.trace 0 3 6 2 (λ place. delivered_to shared_type.course (Some 2) place) refl,
              (refl, refl, (refl, refl, refl, refl)),
            ),
          ),
        ),
      ),
    ),
  );
}

told-it : Did meaning shared_type.course shared_states shared_type.answers 1 0 (Prepare 0 (codes "r")) (times 1 7)
unfolding digits is_utf8 chars encode utf8_lossy utf8_valid_len
told-it = record {
  before = new;
  had = refl;
  ending = _;
  answered = refl;
  has = refl;
  at = _;
  in_turn = refl;
  unfolds = (
    refl,
    refl,
    (
      refl,
      refl,
      [],
      refl,
      (
        3,
        refl,
        7,
        first-at_least shared_type.course.trace 1 1 7 3 (λ place. delivered_to shared_type.course (Some 1) place) refl,
        (refl, refl, (refl, refl, refl, refl)),
      ),
    ),
  );
}

pub shared : IsRight shared_type
shared = record {
  schedule = side_by_side;
  states = shared_states;
  one_answer_each = refl;
  one_time_each = refl;
  new = two-handles (λ handle. entry_at shared_states handle 0 ≡ Some new) refl refl;
  turns_made = trace-is [] 2 shared_type.course.trace refl;
  begins = all-begin shared_type side_by_side ((first-own shared_type.course.trace 0 0 0 refl, tt), ((first-own shared_type.course.trace 1 0 1 refl, tt), tt));
  did = each shared_type shared_states side_by_side (
    (
      so (times 0 6) (Did meaning shared_type.course shared_states shared_type.answers 0 0 (Prepare 0 (codes "q"))) looked-up,
      tt,
    ),
    (
      (
        so (times 1 7) (Did meaning shared_type.course shared_states shared_type.answers 1 0 (Prepare 0 (codes "r"))) told-it,
        tt,
      ),
      tt,
    ),
  );
  no_other = All-from_recursion (λ b. IsSome (entry_at shared_type.scripts b.stamp.owner b.stamp.command)) shared_type.course.book (refl, (refl, (refl, tt)));
  in_order = rising (λ b. b.stamp.turn) shared_type.course.book refl;
  asked_first = asked-first shared_type refl;
  none_asked_beside = All-from_recursion (λ a. IsSome (entry_at shared_type.scripts a.stamp.owner a.stamp.command)) shared_type.course.asked (refl, (refl, (refl, (refl, (refl, tt)))));
  asked_in_order = rising (λ a. a.stamp.turn) shared_type.course.asked refl;
  told = (refl, (refl, (refl, (refl, (refl, tt)))));
}

-- ---- a row is copied

abbrev copied_states : List (List Own)
copied_states = (new ∷ has (s0 []) ∷ has (s0 []) ∷ []) ∷ []

described : Did meaning copied.course copied_states copied.answers 0 0 (Prepare 0 (codes "q")) (times 0 2)
unfolding digits is_utf8 chars encode utf8_lossy utf8_valid_len
described = record {
  before = new;
  had = refl;
  ending = _;
  answered = refl;
  has = refl;
  at = _;
  in_turn = refl;
  unfolds = (refl, refl, (refl, refl, [], refl, (3, refl, 2, first-at_least ten_turns 0 0 2 3 (λ place. delivered_to copied.course (Some 0) place) refl, (refl, refl, refl, refl))));
}

copies : Did meaning copied.course copied_states copied.answers 0 1 (CopyIn 0 (codes "1" ∷ [])) (times 4 8)
unfolding digits is_utf8 chars encode utf8_lossy utf8_valid_len
copies = record {
  before = has (s0 []);
  had = refl;
  ending = _;
  answered = refl;
  has = refl;
  at = _;
  in_turn = refl;
  unfolds = (
    refl,
    refl,
    copy_piece ∷ ending ∷ [],
    refl,
    (
      2,
      refl,
      6,
      first-at_least ten_turns 0 4 6 2 (λ place. delivered_to copied.course (Some 1) place) refl,
      (
        6,
        record { made = omega arith; own = refl; no_sooner = omega arith },
        ending ∷ [],
        refl,
        ([], refl, (1, refl, 8, first-at_least ten_turns 0 6 8 3 (λ place. delivered_to copied.course (Some 1) place) refl, (refl, refl, refl, refl))),
      ),
    ),
  );
}

pub copy : IsRight copied
copy = record {
  schedule = twice;
  states = copied_states;
  one_answer_each = refl;
  one_time_each = refl;
  new = one-handle (λ handle. entry_at copied_states handle 0 ≡ Some new) refl;
  turns_made = trace-is [] 1 ten_turns refl;
  begins = all-begin copied twice ((first-own ten_turns 0 0 0 refl, (first-own ten_turns 0 3 4 refl, tt)), tt);
  did = each copied copied_states twice (
    (
      so (times 0 2) (Did meaning copied.course copied_states copied.answers 0 0 (Prepare 0 (codes "q"))) described,
      (so (times 4 8) (Did meaning copied.course copied_states copied.answers 0 1 (CopyIn 0 (codes "1" ∷ []))) copies, tt),
    ),
    tt,
  );
  no_other = All-from_recursion (λ b. IsSome (entry_at copied.scripts b.stamp.owner b.stamp.command)) copied.course.book (refl, (refl, tt));
  in_order = rising (λ b. b.stamp.turn) copied.course.book refl;
  asked_first = asked-first copied refl;
  none_asked_beside = All-from_recursion (λ a. IsSome (entry_at copied.scripts a.stamp.owner a.stamp.command)) copied.course.asked (refl, tt);
  asked_in_order = rising (λ a. a.stamp.turn) copied.course.asked refl;
  told = (refl, tt);
}

-- ---- the same, where the piece is put a turn later

abbrev late : List (List Times)
late = (times 0 2 ∷ times 4 10 ∷ []) ∷ []

described-late : Did meaning copied_late.course copied_states copied_late.answers 0 0 (Prepare 0 (codes "q")) (times 0 2)
unfolding digits is_utf8 chars encode utf8_lossy utf8_valid_len
described-late = record {
  before = new;
  had = refl;
  ending = _;
  answered = refl;
  has = refl;
  at = _;
  in_turn = refl;
  unfolds = (refl, refl, (refl, refl, [], refl, (3, refl, 2, first-at_least twelve_turns 0 0 2 3 (λ place. delivered_to copied_late.course (Some 0) place) refl, (refl, refl, refl, refl))));
}

-- the opening is read in turn 6, and the piece is put in turn 8
copies-late : Did meaning copied_late.course copied_states copied_late.answers 0 1 (CopyIn 0 (codes "1" ∷ [])) (times 4 10)
unfolding digits is_utf8 chars encode utf8_lossy utf8_valid_len
copies-late = record {
  before = has (s0 []);
  had = refl;
  ending = _;
  answered = refl;
  has = refl;
  at = _;
  in_turn = refl;
  unfolds = (
    refl,
    refl,
    copy_piece ∷ ending ∷ [],
    refl,
    (
      2,
      refl,
      6,
      first-at_least twelve_turns 0 4 6 2 (λ place. delivered_to copied_late.course (Some 1) place) refl,
      (
        8,
        record { made = omega arith; own = refl; no_sooner = omega arith },
        ending ∷ [],
        refl,
        ([], refl, (1, refl, 10, first-at_least twelve_turns 0 8 10 3 (λ place. delivered_to copied_late.course (Some 1) place) refl, (refl, refl, refl, refl))),
      ),
    ),
  );
}

pub copy-late : IsRight copied_late
copy-late = record {
  schedule = late;
  states = copied_states;
  one_answer_each = refl;
  one_time_each = refl;
  new = one-handle (λ handle. entry_at copied_states handle 0 ≡ Some new) refl;
  turns_made = trace-is [] 1 twelve_turns refl;
  begins = all-begin copied_late late ((first-own twelve_turns 0 0 0 refl, (first-own twelve_turns 0 3 4 refl, tt)), tt);
  did = each copied_late copied_states late (
    (
      so (times 0 2) (Did meaning copied_late.course copied_states copied_late.answers 0 0 (Prepare 0 (codes "q"))) described-late,
      (so (times 4 10) (Did meaning copied_late.course copied_states copied_late.answers 0 1 (CopyIn 0 (codes "1" ∷ []))) copies-late, tt),
    ),
    tt,
  );
  no_other = All-from_recursion (λ b. IsSome (entry_at copied_late.scripts b.stamp.owner b.stamp.command)) copied_late.course.book (refl, (refl, tt));
  in_order = rising (λ b. b.stamp.turn) copied_late.course.book refl;
  asked_first = asked-first copied_late refl;
  none_asked_beside = All-from_recursion (λ a. IsSome (entry_at copied_late.scripts a.stamp.owner a.stamp.command)) copied_late.course.asked (refl, tt);
  asked_in_order = rising (λ a. a.stamp.turn) copied_late.course.asked refl;
  told = (refl, tt);
}

-- ---- a row is copied beside another handle's query, and a handle without commands

abbrev beside_times : List (List Times)
beside_times = (times 0 2 ∷ times 4 9 ∷ []) ∷ (times 5 10 ∷ []) ∷ [] ∷ []

abbrev beside_states : List (List Own)
beside_states = (new ∷ has (s0 []) ∷ has (s0 []) ∷ []) ∷ (new ∷ new ∷ []) ∷ (new ∷ []) ∷ []

described-beside : Did meaning copied_beside.course beside_states copied_beside.answers 0 0 (Prepare 0 (codes "q")) (times 0 2)
unfolding digits is_utf8 chars encode utf8_lossy utf8_valid_len
described-beside = record {
  before = new;
  had = refl;
  ending = _;
  answered = refl;
  has = refl;
  at = _;
  in_turn = refl;
  unfolds = (refl, refl, (refl, refl, [], refl, (3, refl, 2, first-at_least copied_beside.course.trace 0 0 2 3 (λ place. delivered_to copied_beside.course (Some 0) place) refl, (refl, refl, refl, refl))));
}

copies-beside : Did meaning copied_beside.course beside_states copied_beside.answers 0 1 (CopyIn 0 (codes "1" ∷ [])) (times 4 9)
unfolding digits is_utf8 chars encode utf8_lossy utf8_valid_len
copies-beside = record {
  before = has (s0 []);
  had = refl;
  ending = _;
  answered = refl;
  has = refl;
  at = _;
  in_turn = refl;
  unfolds = (
    refl,
    refl,
    copy_piece ∷ ending ∷ [],
    refl,
    (
      2,
      refl,
      7,
      first-at_least copied_beside.course.trace 0 4 7 2 (λ place. delivered_to copied_beside.course (Some 1) place) refl,
      (
        7,
        record { made = omega arith; own = refl; no_sooner = omega arith },
        ending ∷ [],
        refl,
        ([], refl, (1, refl, 9, first-at_least copied_beside.course.trace 0 7 9 3 (λ place. delivered_to copied_beside.course (Some 1) place) refl, (refl, refl, refl, refl))),
      ),
    ),
  );
}

queries-beside : Did meaning copied_beside.course beside_states copied_beside.answers 1 0 simple_b (times 5 10)
unfolding digits is_utf8 chars encode utf8_lossy utf8_valid_len
queries-beside = record {
  before = new;
  had = refl;
  ending = _;
  answered = refl;
  has = refl;
  at = _;
  in_turn = refl;
  unfolds = (refl, refl, [], refl, (2, refl, 10, first-at_least copied_beside.course.trace 1 5 10 2 (λ place. delivered_to copied_beside.course (Some 2) place) refl, (refl, refl, refl, refl)));
}

three-handles : (P : ℕ → Type 0) → P 0 → P 1 → P 2 → (i : ℕ) → i < 3 → P i
three-handles P a b c zero lt = a
three-handles P a b c (suc zero) lt = b
three-handles P a b c (suc (suc zero)) lt = c
three-handles P a b c (suc (suc (suc i))) lt = absurd (omega (arith, lt))

pub beside : IsRight copied_beside
beside = record {
  schedule = beside_times;
  states = beside_states;
  one_answer_each = refl;
  one_time_each = refl;
  new = three-handles (λ handle. entry_at beside_states handle 0 ≡ Some new) refl refl refl;
  turns_made = trace-is (0 ∷ 3 ∷ 0 ∷ 3 ∷ 0 ∷ 1 ∷ 3 ∷ 0 ∷ 3 ∷ []) 3 copied_beside.course.trace refl;
  begins = all-begin copied_beside beside_times ((first-own copied_beside.course.trace 0 0 0 refl, (first-own copied_beside.course.trace 0 3 4 refl, tt)), ((first-own copied_beside.course.trace 1 0 5 refl, tt), (tt, tt)));
  did = each copied_beside beside_states beside_times (
    (
      so (times 0 2) (Did meaning copied_beside.course beside_states copied_beside.answers 0 0 (Prepare 0 (codes "q"))) described-beside,
      (so (times 4 9) (Did meaning copied_beside.course beside_states copied_beside.answers 0 1 (CopyIn 0 (codes "1" ∷ []))) copies-beside, tt),
    ),
    (
      (so (times 5 10) (Did meaning copied_beside.course beside_states copied_beside.answers 1 0 simple_b) queries-beside, tt),
      (tt, tt),
    ),
  );
  no_other = All-from_recursion (λ b. IsSome (entry_at copied_beside.scripts b.stamp.owner b.stamp.command)) copied_beside.course.book (refl, (refl, (refl, tt)));
  in_order = rising (λ b. b.stamp.turn) copied_beside.course.book refl;
  asked_first = asked-first copied_beside refl;
  none_asked_beside = All-from_recursion (λ a. IsSome (entry_at copied_beside.scripts a.stamp.owner a.stamp.command)) copied_beside.course.asked (refl, tt);
  asked_in_order = rising (λ a. a.stamp.turn) copied_beside.course.asked refl;
  told = (refl, tt);
}

-- ---- a begin is refused

abbrev refused_times : List (List Times)
refused_times = (times 0 2 ∷ times 4 4 ∷ []) ∷ []

abbrev refused_states : List (List Own)
refused_states = (new ∷ new ∷ new ∷ []) ∷ []

rolled-back : Did meaning refused_begin.course refused_states refused_begin.answers 0 0 Begin (times 0 2)
unfolding digits is_utf8 chars encode utf8_lossy utf8_valid_len
rolled-back = record {
  before = new;
  had = refl;
  ending = _;
  answered = refl;
  has = refl;
  at = _;
  in_turn = refl;
  unfolds = (refl, refl, [], refl, (1, refl, 2, first-at_least refused_begin.course.trace 0 0 2 1 (λ place. delivered_to refused_begin.course (Some 0) place) refl, (refl, refl, (refl, refl, refl, refl))));
}

not-open : Did meaning refused_begin.course refused_states refused_begin.answers 0 1 Commit (times 4 4)
not-open = record {
  before = new;
  had = refl;
  ending = _;
  answered = refl;
  has = refl;
  at = _;
  in_turn = refl;
  unfolds = (refl, refl, refl, refl);
}

pub no-transaction : IsRight refused_begin
no-transaction = record {
  schedule = refused_times;
  states = refused_states;
  one_answer_each = refl;
  one_time_each = refl;
  new = one-handle (λ handle. entry_at refused_states handle 0 ≡ Some new) refl;
  turns_made = trace-is [] 1 refused_begin.course.trace refl;
  begins = all-begin refused_begin refused_times ((first-own refused_begin.course.trace 0 0 0 refl, (first-own refused_begin.course.trace 0 3 4 refl, tt)), tt);
  did = each refused_begin refused_states refused_times (
    (
      so (times 0 2) (Did meaning refused_begin.course refused_states refused_begin.answers 0 0 Begin) rolled-back,
      (so (times 4 4) (Did meaning refused_begin.course refused_states refused_begin.answers 0 1 Commit) not-open, tt),
    ),
    tt,
  );
  no_other = All-from_recursion (λ b. IsSome (entry_at refused_begin.scripts b.stamp.owner b.stamp.command)) refused_begin.course.book (refl, (refl, tt));
  in_order = rising (λ b. b.stamp.turn) refused_begin.course.book refl;
  asked_first = asked-first refused_begin refl;
  none_asked_beside = All-from_recursion (λ a. IsSome (entry_at refused_begin.scripts a.stamp.owner a.stamp.command)) refused_begin.course.asked tt;
  asked_in_order = rising (λ a. a.stamp.turn) refused_begin.course.asked refl;
  told = tt;
}

-- ---- two handles query

abbrev queries_times : List (List Times)
queries_times = (times 0 3 ∷ []) ∷ (times 1 4 ∷ []) ∷ []

abbrev queries_states : List (List Own)
queries_states = (new ∷ new ∷ []) ∷ (new ∷ new ∷ []) ∷ []

query-a : Did meaning two_queries.course queries_states two_queries.answers 0 0 simple_a (times 0 3)
unfolding digits is_utf8 chars encode utf8_lossy utf8_valid_len
query-a = record {
  before = new;
  had = refl;
  ending = _;
  answered = refl;
  has = refl;
  at = _;
  in_turn = refl;
  unfolds = (refl, refl, [], refl, (2, refl, 3, first-at_least two_queries.course.trace 0 0 3 2 (λ place. delivered_to two_queries.course (Some 0) place) refl, (refl, refl, refl, refl)));
}

query-b : Did meaning two_queries.course queries_states two_queries.answers 1 0 simple_b (times 1 4)
unfolding digits is_utf8 chars encode utf8_lossy utf8_valid_len
query-b = record {
  before = new;
  had = refl;
  ending = _;
  answered = refl;
  has = refl;
  at = _;
  in_turn = refl;
  unfolds = (refl, refl, [], refl, (2, refl, 4, first-at_least two_queries.course.trace 1 1 4 2 (λ place. delivered_to two_queries.course (Some 1) place) refl, (refl, refl, refl, refl)));
}

pub queries : IsRight two_queries
queries = record {
  schedule = queries_times;
  states = queries_states;
  one_answer_each = refl;
  one_time_each = refl;
  new = two-handles (λ handle. entry_at queries_states handle 0 ≡ Some new) refl refl;
  turns_made = trace-is [] 2 two_queries.course.trace refl;
  begins = all-begin two_queries queries_times ((first-own two_queries.course.trace 0 0 0 refl, tt), ((first-own two_queries.course.trace 1 0 1 refl, tt), tt));
  did = each two_queries queries_states queries_times (
    (
      so (times 0 3) (Did meaning two_queries.course queries_states two_queries.answers 0 0 simple_a) query-a,
      tt,
    ),
    (
      (
        so (times 1 4) (Did meaning two_queries.course queries_states two_queries.answers 1 0 simple_b) query-b,
        tt,
      ),
      tt,
    ),
  );
  no_other = All-from_recursion (λ b. IsSome (entry_at two_queries.scripts b.stamp.owner b.stamp.command)) two_queries.course.book (refl, (refl, tt));
  in_order = rising (λ b. b.stamp.turn) two_queries.course.book refl;
  asked_first = asked-first two_queries refl;
  none_asked_beside = All-from_recursion (λ a. IsSome (entry_at two_queries.scripts a.stamp.owner a.stamp.command)) two_queries.course.asked tt;
  asked_in_order = rising (λ a. a.stamp.turn) two_queries.course.asked refl;
  told = tt;
}
