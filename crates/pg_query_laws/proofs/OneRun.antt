-- Two runs that differ at most in what was asked of the desk don't differ.
use Rattle.std.proofs.Common.{◌≡◌, ◌⊎◌, inl, inr, ℕ, zero, suc, ◌+◌, ◌<◌, ◌≤◌, arith, List, [], ◌∷◌, ◌++◌, Option, Some, option_map, refl, sym, ap, subst, ◌∙◌, append_assoc, append-nil}
use Rattle.std.proofs.lemmas.List.Elements.{All-filter, All-head, filter-append}
use Rattle.std.proofs.lemmas.Option.{same_Some}
use Rattle.std.specs.List.Sorted.{IsNonDecreasingBy}
use Rattle.std.specs.Prelude.{All, IsSome, unwrap_or, ⊤}
use Rattle.pg_spec.specs.Courses.{Asked, Course, Given, Unfolds, begun_in, nowhere, questions_of, requests_of}
use Rattle.pg_spec.specs.Meanings.{AreTold, Did, Ending, HasRun, Meaning}
use Rattle.pg_spec.specs.Turns.{IsFirstTurn, IsOwnTurn, Times, entry_at, free_from, turn_of}
use Rattle.pg_spec.proofs.OneWay.{first-one}
use Rattle.pg_spec.proofs.Owned.{owned}
use Rattle.pg_query_laws.specs.OneWay.{PutsNone}
use Rattle.pg_query_laws.proofs.OneAsked.{Heads, IsTold, IsWithin, all-before, all-behind, all-told, asked-same, asked_by, behind-sorted, entry-below, entry-handle, first-kept, heads, is-asked-by, least-first, mapped-heads, moved, none-other, other-entry, rows-same, some-there, stamp-same, told-same, which, within}

-- ---- a command of a run

pub record DidIn {C A E Q R : Type 0} {meaning : Meaning C A E Q R} {scripts : List (List C)} {turns : List ℕ} {answers : List (List A)} {course : Course Q R}
    (x : HasRun meaning scripts turns answers course) (handle place : ℕ) (command : C) : Type 0 where
  pub times : Times
  pub is : entry_at x.schedule handle place ≡ Some times
  pub did : Did meaning course x.states answers handle place command times

-- one that may ask in a turn
pub record Busy {C A E Q R : Type 0} {meaning : Meaning C A E Q R} {scripts : List (List C)} {turns : List ℕ} {answers : List (List A)} {course : Course Q R}
    (x : HasRun meaning scripts turns answers course) (handle place turn : ℕ) : Type 0 where
  pub command : C
  pub is : entry_at scripts handle place ≡ Some command
  pub did : DidIn x handle place command
  pub within : IsWithin course.trace handle did.times.begins did.times.answers turn

module _ {C A E Q R : Type 0} (meaning : Meaning C A E Q R) (scripts : List (List C)) (turns : List ℕ) (answers : List (List A)) (course : Course Q R) (x : HasRun meaning scripts turns answers course) where
  pub did-in : (handle place : ℕ) (command : C) → entry_at scripts handle place ≡ Some command → DidIn x handle place command
  did-in handle place command e =
      let o = other-entry scripts x.schedule x.one_time_each handle place command e in
      record { times = o.0; is = o.1; did = x.did handle place command o.0 e o.1 }

  own-begin : (handle place : ℕ) (command : C) (d : DidIn x handle place command) → IsOwnTurn course.trace handle d.times.begins d.times.begins
  own-begin handle place command d =
      let first = x.begins handle place d.times d.is in
      record { made = first.made; own = first.own; no_sooner = omega arith }

  abbrev pub given_of : (handle place : ℕ) (command : C) → DidIn x handle place command → Given (Ending A E)
  given_of handle place command d = record { at = d.did.at; answer = d.did.ending }

  in-time : (handle place : ℕ) (command : C) (d : DidIn x handle place command) → d.times.begins ≤ d.times.answers
  in-time handle place command d =
      let own = owned course handle (begun_in nowhere d.times.begins) (meaning.asks d.did.before command) (requests_of course.book handle place) (questions_of course.asked handle place) (given_of handle place command d)
      (own-begin handle place command d) d.did.unfolds in
      let k = own.no_sooner in
      let turn = d.did.in_turn in
      omega (arith, k, turn)

  asks-within : (handle place : ℕ) (command : C) (d : DidIn x handle place command) → All (λ a. IsWithin course.trace handle d.times.begins d.times.answers a.stamp.turn) (questions_of course.asked handle place)
  asks-within handle place command d =
      subst (λ (t : ℕ). All (λ a. IsWithin course.trace handle d.times.begins t a.stamp.turn) (questions_of course.asked handle place)) d.did.in_turn
      (within course handle d.times.begins (begun_in nowhere d.times.begins) (meaning.asks d.did.before command) (requests_of course.book handle place) (questions_of course.asked handle place) (given_of handle place command d)
      (omega arith) (own-begin handle place command d) d.did.unfolds)

  -- a command begins behind those before it
  behind-former : (handle place : ℕ) (command : C) (d : DidIn x handle (suc place) command) (t : Times) → entry_at x.schedule handle place ≡ Some t → t.answers < d.times.begins
  behind-former handle place command d t e =
      let first = x.begins handle (suc place) d.times d.is in
      let k = first.no_sooner in
      let free : free_from x.schedule handle (suc place) ≡ t.answers + 1 = ap (λ (o : Option Times). unwrap_or (option_map (λ z. z.answers + 1) o) 0) e in
      omega (arith, k, free)

  earlier : (handle place former : ℕ) → former < place → (command : C) → entry_at scripts handle place ≡ Some command → (d : DidIn x handle place command) (one : C) (e : DidIn x handle former one) → e.times.answers < d.times.begins
  earlier handle zero former lt command is d one e = absurd (omega (arith, lt))
  earlier handle (suc place) former lt command is d one e =
      let below = entry-below scripts handle (suc place) place command (omega arith) is in
      by below.0 (did-in handle place below.0 below.1) (λ k. earlier handle place former k below.0 below.1 (did-in handle place below.0 below.1) one e) (which former place)
    where
      by : (c : C) (f : DidIn x handle place c) → (former < place → e.times.answers < f.times.begins) → (former < place) ⊎ ((former ≡ place) ⊎ (place < former)) → e.times.answers < d.times.begins
      by c f again (inl less) =
          let one = again less in
          let two = in-time handle place c f in
          let three = behind-former handle place command d f.times f.is in
          omega (arith, one, two, three)
      by c f again (inr (inl same)) = behind-former handle place command d e.times (subst (λ (k : ℕ). entry_at x.schedule handle k ≡ Some e.times) same e.is)
      by c f again (inr (inr more)) = absurd (omega (arith, lt, more))

  clash : (handle place later turn behind : ℕ) → place < later → Busy x handle place turn → Busy x handle later behind → turn < behind
  clash handle place later turn behind lt a b =
      let between = earlier handle later place lt b.command b.is b.did a.command a.did in
      let one = a.within.2 in
      let two = b.within.1 in
      omega (arith, between, one, two)

  -- ---- what was asked last

  module _ (former rest : List (Asked Q R)) (parts : course.asked ≡ former ++ rest) where
    pub split : (handle place : ℕ) → questions_of course.asked handle place ≡ questions_of former handle place ++ questions_of rest handle place
    split handle place = ap (λ (qs : List (Asked Q R)). questions_of qs handle place) parts ∙ filter-append (asked_by handle place) former rest

    rest-within : (handle place : ℕ) (command : C) (d : DidIn x handle place command) → All (λ a. IsWithin course.trace handle d.times.begins d.times.answers a.stamp.turn) (questions_of rest handle place)
    rest-within handle place command d =
        all-behind (λ a. IsWithin course.trace handle d.times.begins d.times.answers a.stamp.turn) (questions_of former handle place) (questions_of rest handle place)
        (subst (λ (qs : List (Asked Q R)). All (λ a. IsWithin course.trace handle d.times.begins d.times.answers a.stamp.turn) qs) (split handle place) (asks-within handle place command d))

  module _ (former : List (Asked Q R)) (a : Asked Q R) (rest : List (Asked Q R)) (parts : course.asked ≡ former ++ a ∷ rest) where
    least : All (λ b. a.stamp.turn ≤ b.stamp.turn) (a ∷ rest)
    least = least-first (λ b. b.stamp.turn) a rest (behind-sorted (λ b. b.stamp.turn) former (a ∷ rest) (subst (λ (qs : List (Asked Q R)). IsNonDecreasingBy (λ b. b.stamp.turn) qs) parts x.asked_in_order))

    pub its-command : (c : C) × (entry_at scripts a.stamp.owner a.stamp.command ≡ Some c)
    its-command = some-there (entry_at scripts a.stamp.owner a.stamp.command)
        (All-head (λ b. IsSome (entry_at scripts b.stamp.owner b.stamp.command)) a rest (all-behind (λ b. IsSome (entry_at scripts b.stamp.owner b.stamp.command)) former (a ∷ rest)
        (subst (λ (qs : List (Asked Q R)). All (λ b. IsSome (entry_at scripts b.stamp.owner b.stamp.command)) qs) parts x.none_asked_beside)))

    pub kept-first : questions_of (a ∷ rest) a.stamp.owner a.stamp.command ≡ a ∷ questions_of rest a.stamp.owner a.stamp.command
    kept-first = first-kept a.stamp.owner a.stamp.command a rest (is-asked-by a.stamp.owner a.stamp.command a refl refl)

    its-within : (command : C) (d : DidIn x a.stamp.owner a.stamp.command command) → IsWithin course.trace a.stamp.owner d.times.begins d.times.answers a.stamp.turn
    its-within command d =
        All-head (λ b. IsWithin course.trace a.stamp.owner d.times.begins d.times.answers b.stamp.turn) a (questions_of rest a.stamp.owner a.stamp.command)
        (subst (λ (qs : List (Asked Q R)). All (λ b. IsWithin course.trace a.stamp.owner d.times.begins d.times.answers b.stamp.turn) qs) kept-first (rest-within former (a ∷ rest) parts a.stamp.owner a.stamp.command command d))

    its-busy : Busy x a.stamp.owner a.stamp.command a.stamp.turn
    its-busy =
        let c = its-command in
        let d = did-in a.stamp.owner a.stamp.command c.0 c.1 in
        record { command = c.0; is = c.1; did = d; within = its-within c.0 d }

    -- no former command of its script asks from there on
    none-before : (place : ℕ) → place < a.stamp.command → questions_of (a ∷ rest) a.stamp.owner place ≡ []
    none-before place lt =
        let b = its-busy in
        let below = entry-below scripts a.stamp.owner a.stamp.command place b.command (omega (arith, lt)) b.is in
        let d = did-in a.stamp.owner place below.0 below.1 in
        by below.0 d (earlier a.stamp.owner a.stamp.command place lt b.command b.is b.did below.0 d) (questions_of (a ∷ rest) a.stamp.owner place)
        (All-filter (asked_by a.stamp.owner place) (λ b. a.stamp.turn ≤ b.stamp.turn) (a ∷ rest) least)
        (rest-within former (a ∷ rest) parts a.stamp.owner place below.0 d)
      where
        by : (one : C) (d : DidIn x a.stamp.owner place one) → d.times.answers < its-busy.did.times.begins → (qs : List (Asked Q R)) → All (λ b. a.stamp.turn ≤ b.stamp.turn) qs →
            All (λ b. IsWithin course.trace a.stamp.owner d.times.begins d.times.answers b.stamp.turn) qs → qs ≡ []
        by one d between [] low high = refl
        by one d between (q ∷ qs) low high =
            let up = All-head (λ b. a.stamp.turn ≤ b.stamp.turn) q qs low in
            let down = (All-head (λ b. IsWithin course.trace a.stamp.owner d.times.begins d.times.answers b.stamp.turn) q qs high).2 in
            let mine = its-busy.within.1 in
            absurd (omega (arith, between, up, down, mine))

-- ---- two runs

module _ {C A E Q R : Type 0} (meaning : Meaning C A E Q R) (no_puts : (own : E) (c : C) → PutsNone meaning.tells (meaning.asks own c)) (scripts : List (List C)) (turns : List ℕ) (answers others : List (List A))
    (course : Course Q R) (other : List (Asked Q R)) (x : HasRun meaning scripts turns answers course) (y : HasRun meaning scripts turns others (record course { asked = other })) where
  abbrev beside : Course Q R
  beside = record course { asked = other }

  -- a script stands at one place in the same way
  record Same (handle place : ℕ) : Type 0 where
    pub states : entry_at y.states handle place ≡ entry_at x.states handle place
    pub free : free_from y.schedule handle place ≡ free_from x.schedule handle place

  module _ (handle place : ℕ) (command : C) (s : Same handle place) (d : DidIn x handle place command) (e : DidIn y handle place command) where
    abbrev given_there : Given (Ending A E)
    given_there = record { at = e.did.at; answer = e.did.ending }

    before-same : e.did.before ≡ d.did.before
    before-same = same_Some e.did.before d.did.before (sym e.did.had ∙ s.states ∙ d.did.had)

    begins-same : e.times.begins ≡ d.times.begins
    begins-same = first-one course.trace handle (free_from x.schedule handle place) (λ place. ⊤) e.times.begins d.times.begins
        (subst (λ (f : ℕ). IsFirstTurn course.trace handle f (λ place. ⊤) e.times.begins) s.free (y.begins handle place e.times e.is)) (x.begins handle place d.times d.is)

    unfolds-there : Unfolds course handle (begun_in nowhere d.times.begins) (meaning.asks d.did.before command) (requests_of course.book handle place) (questions_of other handle place) given_there
    unfolds-there =
        subst (λ (b : ℕ). Unfolds course handle (begun_in nowhere b) (meaning.asks d.did.before command) (requests_of course.book handle place) (questions_of other handle place) given_there) begins-same
        (subst (λ (own : E). Unfolds course handle (begun_in nowhere e.times.begins) (meaning.asks own command) (requests_of course.book handle place) (questions_of other handle place) given_there) before-same
        (moved course other handle (begun_in nowhere e.times.begins) (meaning.asks e.did.before command) (requests_of course.book handle place) (questions_of other handle place) given_there e.did.unfolds))

    module _ (given-same : given_there ≡ given_of meaning scripts turns answers course x handle place command d) where
      answered-same : entry_at others handle place ≡ entry_at answers handle place
      answered-same = e.did.answered ∙ ap (λ (g : Given (Ending A E)). Some g.answer.answer) given-same ∙ sym d.did.answered

      ended-same : e.times.answers ≡ d.times.answers
      ended-same = sym e.did.in_turn ∙ ap (λ (g : Given (Ending A E)). g.at.turn) given-same ∙ d.did.in_turn

      next-same : Same handle (suc place)
      next-same = record {
        states = subst (λ (k : ℕ). entry_at y.states handle k ≡ entry_at x.states handle k) (omega arith) (e.did.has ∙ ap (λ (g : Given (Ending A E)). Some g.answer.own) given-same ∙ sym d.did.has);
        free = ap (λ (o : Option Times). unwrap_or (option_map (λ z. z.answers + 1) o) 0) e.is ∙ ap (λ (t : ℕ). t + 1) ended-same ∙ sym (ap (λ (o : Option Times). unwrap_or (option_map (λ z. z.answers + 1) o) 0) d.is);
      }

  module _ (former rest more : List (Asked Q R)) (one : course.asked ≡ former ++ rest) (two : other ≡ former ++ more) where
    -- what both were told before
    told-before : (handle place : ℕ) → All (IsTold meaning.tells) (questions_of former handle place)
    told-before handle place =
        All-filter (asked_by handle place) (IsTold meaning.tells) former
        (all-before (IsTold meaning.tells) former rest (subst (All (IsTold meaning.tells)) one (all-told meaning.tells [] course.asked x.told)))

    heads-at : (handle place : ℕ) (command : C) (s : Same handle place) (d : DidIn x handle place command) (e : DidIn y handle place command) →
        Heads (questions_of rest handle place) (questions_of more handle place) (given_there handle place command s d e ≡ given_of meaning scripts turns answers course x handle place command d)
    heads-at handle place command s d e =
        heads meaning.tells course handle (begun_in nowhere d.times.begins) (meaning.asks d.did.before command) (requests_of course.book handle place) (questions_of former handle place) (questions_of rest handle place)
        (questions_of more handle place) (given_of meaning scripts turns answers course x handle place command d) (given_there handle place command s d e) (no_puts d.did.before command) (told-before handle place)
        (subst (λ (qs : List (Asked Q R)). Unfolds course handle (begun_in nowhere d.times.begins) (meaning.asks d.did.before command) (requests_of course.book handle place) qs
        (given_of meaning scripts turns answers course x handle place command d)) (split meaning scripts turns answers course x former rest one handle place) d.did.unfolds)
        (subst (λ (qs : List (Asked Q R)). Unfolds course handle (begun_in nowhere d.times.begins) (meaning.asks d.did.before command) (requests_of course.book handle place) qs
        (given_there handle place command s d e)) (split meaning scripts turns others beside y former more two handle place) (unfolds-there handle place command s d e))

    abbrev here : (handle place : ℕ) (command : C) → entry_at scripts handle place ≡ Some command → DidIn x handle place command
    here handle place command is = did-in meaning scripts turns answers course x handle place command is

    abbrev there : (handle place : ℕ) (command : C) → entry_at scripts handle place ≡ Some command → DidIn y handle place command
    there handle place command is = did-in meaning scripts turns others beside y handle place command is

    same-at : (handle place : ℕ) (command : C) → entry_at scripts handle place ≡ Some command → ((k : ℕ) → k < place → questions_of rest handle k ≡ []) → Same handle place
    same-at handle zero command is none =
        let low = entry-handle scripts handle zero command is in
        record { states = y.new handle low ∙ sym (x.new handle low); free = refl }
    same-at handle (suc place) command is none =
        let below = entry-below scripts handle (suc place) place command (omega arith) is in
        let s = same-at handle place below.0 below.1 (λ k lt. none k (omega (arith, lt))) in
        let d = here handle place below.0 below.1 in
        let e = there handle place below.0 below.1 in
        next-same handle place below.0 s d e (none-other (questions_of rest handle place) (questions_of more handle place) (given_there handle place below.0 s d e ≡ given_of meaning scripts turns answers course x handle place below.0 d)
        (none place (omega arith)) (heads-at handle place below.0 s d e)).1

    -- a command whose former ones ask no more begins in the same way, and asks the same or nothing more
    at-command : (handle place : ℕ) (command : C) (is : entry_at scripts handle place ≡ Some command) (none : (k : ℕ) → k < place → questions_of rest handle k ≡ []) →
        Heads (questions_of rest handle place) (questions_of more handle place) (entry_at others handle place ≡ entry_at answers handle place)
    at-command handle place command is none =
        let s = same-at handle place command is none in
        let d = here handle place command is in
        let e = there handle place command is in
        mapped-heads (questions_of rest handle place) (questions_of more handle place) (given_there handle place command s d e ≡ given_of meaning scripts turns answers course x handle place command d)
        (entry_at others handle place ≡ entry_at answers handle place) (answered-same handle place command s d e) (heads-at handle place command s d e)

  -- the command that asks first on one side asks so on the other
  first-heads : (former : List (Asked Q R)) (a : Asked Q R) (rest more : List (Asked Q R)) → course.asked ≡ former ++ a ∷ rest → other ≡ former ++ more →
      Heads (a ∷ questions_of rest a.stamp.owner a.stamp.command) (questions_of more a.stamp.owner a.stamp.command) (Unit {0})
  first-heads former a rest more one two =
      let c = its-command meaning scripts turns answers course x former a rest one in
      subst (λ (qs : List (Asked Q R)). Heads qs (questions_of more a.stamp.owner a.stamp.command) (Unit {0})) (kept-first meaning scripts turns answers course x former a rest one)
      (mapped-heads (questions_of (a ∷ rest) a.stamp.owner a.stamp.command) (questions_of more a.stamp.owner a.stamp.command) (entry_at others a.stamp.owner a.stamp.command ≡ entry_at answers a.stamp.owner a.stamp.command) (Unit {0}) (λ e. tt)
      (at-command former (a ∷ rest) more one two a.stamp.owner a.stamp.command c.0 c.1 (none-before meaning scripts turns answers course x former a rest one)))

-- what holds of the turns of all holds of the turn in which the first was asked
by-head : {Q R : Type 0} (P : ℕ → Type 0) (a : Asked Q R) (rest qs : List (Asked Q R)) → All (λ b. P b.stamp.turn) qs → Heads (a ∷ rest) qs (Unit {0}) → P a.stamp.turn
by-head P a rest [] all h = absurd h
by-head P a rest (q ∷ qs) all h = subst P h.0 (All-head (λ b. P b.stamp.turn) q qs all)

-- while the first of one side asks, its command may ask on the other
side-busy : {C A E Q R : Type 0} (meaning : Meaning C A E Q R) (scripts : List (List C)) (turns : List ℕ) (others : List (List A)) (course : Course Q R) (y : HasRun meaning scripts turns others course)
    (former more : List (Asked Q R)) → course.asked ≡ former ++ more → (a : Asked Q R) (rest : List (Asked Q R)) (command : C) → entry_at scripts a.stamp.owner a.stamp.command ≡ Some command →
    Heads (a ∷ rest) (questions_of more a.stamp.owner a.stamp.command) (Unit {0}) → Busy y a.stamp.owner a.stamp.command a.stamp.turn
side-busy meaning scripts turns others course y former more parts a rest command is h =
    let d = did-in meaning scripts turns others course y a.stamp.owner a.stamp.command command is in
    record {
      command = command;
      is = is;
      did = d;
      within = by-head (IsWithin course.trace a.stamp.owner d.times.begins d.times.answers) a rest (questions_of more a.stamp.owner a.stamp.command)
          (rest-within meaning scripts turns others course y former more parts a.stamp.owner a.stamp.command command d) h;
    }

-- and it asks no sooner than the other's first
side-later : {C A E Q R : Type 0} (meaning : Meaning C A E Q R) (scripts : List (List C)) (turns : List ℕ) (others : List (List A)) (course : Course Q R) (y : HasRun meaning scripts turns others course)
    (former : List (Asked Q R)) (b : Asked Q R) (more : List (Asked Q R)) → course.asked ≡ former ++ b ∷ more → (a : Asked Q R) (rest : List (Asked Q R)) →
    Heads (a ∷ rest) (questions_of (b ∷ more) a.stamp.owner a.stamp.command) (Unit {0}) → b.stamp.turn ≤ a.stamp.turn
side-later meaning scripts turns others course y former b more parts a rest h =
    by-head (λ t. b.stamp.turn ≤ t) a rest (questions_of (b ∷ more) a.stamp.owner a.stamp.command)
    (All-filter (asked_by a.stamp.owner a.stamp.command) (λ k. b.stamp.turn ≤ k.stamp.turn) (b ∷ more) (least meaning scripts turns others course y former b more parts)) h

module _ {C A E Q R : Type 0} (meaning : Meaning C A E Q R) (no_puts : (own : E) (c : C) → PutsNone meaning.tells (meaning.asks own c)) (scripts : List (List C)) (turns : List ℕ) (answers others : List (List A))
    (course : Course Q R) (other : List (Asked Q R)) (x : HasRun meaning scripts turns answers course) (y : HasRun meaning scripts turns others (record course { asked = other })) where
  module _ (former : List (Asked Q R)) (a b : Asked Q R) (rest more : List (Asked Q R)) (one : course.asked ≡ former ++ a ∷ rest) (two : other ≡ former ++ b ∷ more) where
    abbrev beyond : Course Q R
    beyond = record course { asked = other }

    here-heads : Heads (a ∷ questions_of rest a.stamp.owner a.stamp.command) (questions_of (b ∷ more) a.stamp.owner a.stamp.command) (Unit {0})
    here-heads = first-heads meaning no_puts scripts turns answers others course other x y former a rest (b ∷ more) one two

    there-heads : Heads (b ∷ questions_of more b.stamp.owner b.stamp.command) (questions_of (a ∷ rest) b.stamp.owner b.stamp.command) (Unit {0})
    there-heads = first-heads meaning no_puts scripts turns others answers beyond course.asked y x former b more (a ∷ rest) two one

    turn-same : b.stamp.turn ≡ a.stamp.turn
    turn-same =
        let up = side-later meaning scripts turns others beyond y former b more two a (questions_of rest a.stamp.owner a.stamp.command) here-heads in
        let down = side-later meaning scripts turns answers course x former a rest one b (questions_of more b.stamp.owner b.stamp.command) there-heads in
        omega (arith, up, down)

    here-busy : Busy x a.stamp.owner a.stamp.command a.stamp.turn
    here-busy = its-busy meaning scripts turns answers course x former a rest one

    there-busy : Busy y b.stamp.owner b.stamp.command b.stamp.turn
    there-busy = its-busy meaning scripts turns others beyond y former b more two

    owner-same : b.stamp.owner ≡ a.stamp.owner
    owner-same = sym there-busy.within.0 ∙ ap (turn_of course.trace) turn-same ∙ here-busy.within.0

    command-same : b.stamp.command ≡ a.stamp.command
    command-same = by (which b.stamp.command a.stamp.command)
      where
        by : (b.stamp.command < a.stamp.command) ⊎ ((b.stamp.command ≡ a.stamp.command) ⊎ (a.stamp.command < b.stamp.command)) → b.stamp.command ≡ a.stamp.command
        by (inr (inl e)) = e
        by (inl lt) =
            let busy = side-busy meaning scripts turns answers course x former (a ∷ rest) one b (questions_of more b.stamp.owner b.stamp.command) there-busy.command there-busy.is there-heads in
            let k = clash meaning scripts turns answers course x a.stamp.owner b.stamp.command a.stamp.command b.stamp.turn a.stamp.turn lt
            (subst (λ (h : ℕ). Busy x h b.stamp.command b.stamp.turn) owner-same busy) here-busy in
            let e = turn-same in
            absurd (omega (arith, k, e))
        by (inr (inr lt)) =
            let busy = side-busy meaning scripts turns others beyond y former (b ∷ more) two a (questions_of rest a.stamp.owner a.stamp.command) here-busy.command here-busy.is here-heads in
            let k = clash meaning scripts turns others beyond y a.stamp.owner a.stamp.command b.stamp.command a.stamp.turn b.stamp.turn lt busy
            (subst (λ (h : ℕ). Busy y h b.stamp.command b.stamp.turn) owner-same there-busy) in
            let e = turn-same in
            absurd (omega (arith, k, e))

    question-same : b.question ≡ a.question
    question-same = (subst (λ (qs : List (Asked Q R)). Heads (a ∷ questions_of rest a.stamp.owner a.stamp.command) qs (Unit {0}))
        (first-kept a.stamp.owner a.stamp.command b more (is-asked-by a.stamp.owner a.stamp.command b owner-same command-same)) here-heads).1

    first-same : b ≡ a
    first-same = asked-same a b (stamp-same a.stamp b.stamp owner-same command-same turn-same) question-same
        (told-same meaning.tells [] former a b rest more question-same (subst (AreTold meaning.tells []) one x.told) (subst (AreTold meaning.tells []) two y.told))

  rest-same : (former rest more : List (Asked Q R)) → course.asked ≡ former ++ rest → other ≡ former ++ more → more ≡ rest
  rest-same former [] [] one two = refl
  rest-same former [] (b ∷ more) one two = absurd (first-heads meaning no_puts scripts turns others answers (record course { asked = other }) course.asked y x former b more [] two one)
  rest-same former (a ∷ rest) [] one two = absurd (first-heads meaning no_puts scripts turns answers others course other x y former a rest [] one two)
  rest-same former (a ∷ rest) (b ∷ more) one two =
      let e : b ≡ a = first-same former a b rest more one two in
      let k : more ≡ rest = rest-same (former ++ a ∷ []) rest more (one ∙ sym (append_assoc former (a ∷ []) rest)) (two ∙ ap (λ (z : Asked Q R). former ++ z ∷ more) e ∙ sym (append_assoc former (a ∷ []) more)) in
      ap (λ (z : Asked Q R). z ∷ more) e ∙ ap (λ (zs : List (Asked Q R)). a ∷ zs) k

  pub asked-in-one-way : other ≡ course.asked
  asked-in-one-way = rest-same [] course.asked other refl refl

  pub answers-in-one-way : others ≡ answers
  answers-in-one-way = rows-same answers others (y.one_answer_each ∙ sym x.one_answer_each) (λ handle place answer e.
      let c = other-entry answers scripts (sym x.one_answer_each) handle place answer e in
      at-command meaning no_puts scripts turns answers others course other x y course.asked [] [] (sym (append-nil course.asked)) (asked-in-one-way ∙ sym (append-nil course.asked)) handle place c.0 c.1 (λ k lt. refl) ∙ e)
