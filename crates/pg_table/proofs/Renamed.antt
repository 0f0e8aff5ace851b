-- What commands did, told in other words, is what they did.
use Rattle.std.proofs.Common.{◌≡◌, ℕ, zero, suc, ◌<◌, List, [], ◌∷◌, length, map, Option, Some, None, option_map, refl, sym, ap, subst, ◌∙◌, slice_get}
use Rattle.std.specs.Prelude.{IsSome, is_some}
use Rattle.std.proofs.lemmas.List.{length-map}
use Rattle.std.proofs.lemmas.List.Elements.{All-weaker}
use Rattle.std.proofs.lemmas.Option.{same_Some, slice_get-map}
use Rattle.pg_spec.specs.Book.{Booking}
use Rattle.pg_spec.specs.Turns.{IsTrace, Times, entry_at}
use Rattle.pg_spec.specs.Courses.{Asked, Course, Unfolds, begun_in, nowhere, questions_of, requests_of}
use Rattle.pg_spec.specs.Dialogues.{Answers, Dialogue, behind}
use Rattle.pg_spec.specs.Meanings.{Ending, HasRun, Meaning}
use Rattle.pg_spec.proofs.Headlines.{unmapped}

-- ---- lists of lists

lengths-map : {X Y : Type 0} (f : X → Y) (rows : List (List X)) → map length (map (map f) rows) ≡ map length rows
lengths-map f [] = refl
lengths-map {X} f (row ∷ rows) = ap (λ (n : ℕ). n ∷ map length (map (map f) rows)) (length-map row f) ∙ ap (λ (ns : List ℕ). length row ∷ ns) (lengths-map f rows)

entry-map : {X Y : Type 0} (f : X → Y) (rows : List (List X)) (i j : ℕ) (x : X) → entry_at rows i j ≡ Some x → entry_at (map (map f) rows) i j ≡ Some (f x)
entry-map f [] i j x e = absurd cc
entry-map {X} f (row ∷ rows) zero j x e = slice_get-map f row j ∙ ap (λ (o : Option X). option_map f o) e
entry-map f (row ∷ rows) (suc i) j x e = entry-map f rows i j x e

entry-back : {X Y : Type 0} (f : X → Y) (rows : List (List X)) (i j : ℕ) (y : Y) → entry_at (map (map f) rows) i j ≡ Some y → (x : X) × (entry_at rows i j ≡ Some x) × (f x ≡ y)
entry-back f [] i j y e = absurd cc
entry-back {X} {Y} f (row ∷ rows) zero j y e = by row j e
  where
    by : (xs : List X) (j : ℕ) → slice_get (map f xs) j ≡ Some y → (x : X) × (slice_get xs j ≡ Some x) × (f x ≡ y)
    by [] j e = absurd cc
    by (x ∷ xs) zero e = (x, refl, same_Some (f x) y e)
    by (x ∷ xs) (suc j) e = by xs j e
entry-back f (row ∷ rows) (suc i) j y e = entry-back f rows i j y e

pub some-back : {X Y : Type 0} (f : X → Y) (rows : List (List X)) (i j : ℕ) → IsSome (entry_at (map (map f) rows) i j) → IsSome (entry_at rows i j)
some-back {X} {Y} f rows i j h = by (entry_at (map (map f) rows) i j) refl h
  where
    by : (o : Option Y) → entry_at (map (map f) rows) i j ≡ o → IsSome o → IsSome (entry_at rows i j)
    by None e h = absurd (let no_way = h in cc)
    by (Some y) e h = let x = entry-back f rows i j y e in ap (λ (o : Option X). is_some o) x.1

-- lists of the same lengths have entries at the same places
row-there : {X Y : Type 0} (row : List X) (other : List Y) (j : ℕ) (x : X) → length other ≡ length row → slice_get row j ≡ Some x → (y : Y) × (slice_get other j ≡ Some y)
row-there [] other j x same e = absurd cc
row-there (a ∷ row) [] j x same e = absurd cc
row-there (a ∷ row) (b ∷ other) zero x same e = (b, refl)
row-there (a ∷ row) (b ∷ other) (suc j) x same e = let less : length other ≡ length row = cc in row-there row other j x less e

entry-there : {X Y : Type 0} (rows : List (List X)) (others : List (List Y)) (i j : ℕ) (x : X) → map length others ≡ map length rows → entry_at rows i j ≡ Some x →
    (y : Y) × (entry_at others i j ≡ Some y)
entry-there [] others i j x same e = absurd cc
entry-there (row ∷ rows) [] i j x same e = absurd cc
entry-there (row ∷ rows) (other ∷ others) zero j x same e = let first : length other ≡ length row = cc in row-there row other j x first e
entry-there (row ∷ rows) (other ∷ others) (suc i) j x same e = let rest : map length others ≡ map length rows = cc in entry-there rows others i j x rest e

-- where each entry is told back as it was, all are
row-same : {X Y : Type 0} (g : X → Y) (back : Y → X) (row : List Y) → ((j : ℕ) (y : Y) → slice_get row j ≡ Some y → g (back y) ≡ y) → row ≡ map g (map back row)
row-same g back [] h = refl
row-same g back (y ∷ row) h = λ i. sym (h 0 y refl) i ∷ row-same g back row (λ j z e. h (suc j) z e) i

rows-same : {X Y : Type 0} (g : X → Y) (back : Y → X) (rows : List (List Y)) → ((i j : ℕ) (y : Y) → entry_at rows i j ≡ Some y → g (back y) ≡ y) →
    rows ≡ map (map g) (map (map back) rows)
rows-same g back [] h = refl
rows-same g back (row ∷ rows) h = λ i. row-same g back row (λ j y e. h 0 j y e) i ∷ rows-same g back rows (λ k j y e. h (suc k) j y e) i

-- ---- what has run

-- Commands `C` are told as commands `D`, and their answers as answers `B`, which `back` tells back.
module _ {C D A B E Q R : Type 0} (meaning : Meaning C A E Q R) (asks : E → D → Dialogue Q R (Ending B E)) (f : C → D) (g : A → B) (back : B → A) (own-back : (x : A) → back (g x) ≡ x)
    (same : (own : E) (c : C) → asks own (f c) ≡ behind (meaning.asks own c) (λ e. Answers (record { answer = g e.answer; own = e.own }))) where
  abbrev told : Meaning D B E Q R
  told = record { begins = meaning.begins; asks = asks; tells = meaning.tells }

  abbrev in_told : Ending A E → Ending B E
  in_told e = record { answer = g e.answer; own = e.own }

  module _ (scripts : List (List C)) (turns : List ℕ) (answers : List (List B)) (course : Course Q R) (h : HasRun told (map (map f) scripts) turns answers course) where
    pub has-run-back : HasRun meaning scripts turns (map (map back) answers) course
    has-run-back = record {
      schedule = h.schedule;
      states = h.states;
      one_answer_each = lengths-map back answers ∙ h.one_answer_each ∙ lengths-map f scripts;
      one_time_each = h.one_time_each ∙ lengths-map f scripts;
      new = λ i lt. h.new i (subst (λ (n : ℕ). i < n) (sym (length-map scripts (map f))) lt);
      turns_made = subst (λ (n : ℕ). IsTrace turns n course.trace) (length-map scripts (map f)) h.turns_made;
      begins = h.begins;
      did = λ i j c times of at.
          let did = h.did i j (f c) times (entry-map f scripts i j c of) at in
          let u = unmapped course i (begun_in nowhere times.begins) (meaning.asks did.before c) in_told (requests_of course.book i j) (questions_of course.asked i j) (record { at = did.at; answer = did.ending })
          (subst (λ (x : Dialogue Q R (Ending B E)). Unfolds course i (begun_in nowhere times.begins) x (requests_of course.book i j) (questions_of course.asked i j) (record { at = did.at; answer = did.ending })) (same did.before c)
          did.unfolds) in
          record {
            before = did.before;
            had = did.had;
            ending = u.answer;
            answered = entry-map back answers i j did.ending.answer did.answered ∙ ap (λ (e : Ending B E). Some (back e.answer)) u.is ∙ ap (λ (x : A). Some x) (own-back u.answer.answer);
            has = did.has ∙ ap (λ (e : Ending B E). Some e.own) u.is;
            at = did.at;
            in_turn = did.in_turn;
            unfolds = u.unfolds;
          };
      no_other = All-weaker (λ (b : Booking). IsSome (entry_at (map (map f) scripts) b.stamp.owner b.stamp.command)) (λ b. IsSome (entry_at scripts b.stamp.owner b.stamp.command)) (λ b some. some-back f scripts b.stamp.owner b.stamp.command some) course.book h.no_other;
      in_order = h.in_order;
      asked_first = h.asked_first;
      none_asked_beside = All-weaker (λ (a : Asked Q R). IsSome (entry_at (map (map f) scripts) a.stamp.owner a.stamp.command)) (λ a. IsSome (entry_at scripts a.stamp.owner a.stamp.command)) (λ a some. some-back f scripts a.stamp.owner a.stamp.command some) course.asked h.none_asked_beside;
      asked_in_order = h.asked_in_order;
      told = h.told;
    }

    -- an answer is that of its command
    answer-is : (i j : ℕ) (c : C) (times : Times) (of : entry_at scripts i j ≡ Some c) (at : entry_at h.schedule i j ≡ Some times) (b : B) → entry_at answers i j ≡ Some b → g (back b) ≡ b
    answer-is i j c times of at b here =
        let did = h.did i j (f c) times (entry-map f scripts i j c of) at in
        let u = unmapped course i (begun_in nowhere times.begins) (meaning.asks did.before c) in_told (requests_of course.book i j) (questions_of course.asked i j) (record { at = did.at; answer = did.ending })
        (subst (λ (x : Dialogue Q R (Ending B E)). Unfolds course i (begun_in nowhere times.begins) x (requests_of course.book i j) (questions_of course.asked i j) (record { at = did.at; answer = did.ending })) (same did.before c)
        did.unfolds) in
        let is : b ≡ g u.answer.answer = same_Some b did.ending.answer (sym here ∙ did.answered) ∙ ap (λ (e : Ending B E). e.answer) u.is in
        ap (λ (x : B). g (back x)) is ∙ ap g (own-back u.answer.answer) ∙ sym is

    answer-same : (i j : ℕ) (b : B) → entry_at answers i j ≡ Some b → g (back b) ≡ b
    answer-same i j b at =
        let d = entry-there answers (map (map f) scripts) i j b (sym h.one_answer_each) at in
        let c = entry-back f scripts i j d.0 d.1 in
        let t = entry-there (map (map f) scripts) h.schedule i j d.0 h.one_time_each d.1 in
        answer-is i j c.0 t.0 c.1 t.1 b at

    -- and so all are
    pub answers-back : answers ≡ map (map g) (map (map back) answers)
    answers-back = rows-same g back answers answer-same
