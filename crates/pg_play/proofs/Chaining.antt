-- Turns one after another, as the loops of a session make them.
use Rattle.std.proofs.Common.{◌≡◌, ℕ, suc, ◌+◌, ◌<◌, ◌≤◌, ◌||◌, Bool, false, true, Some, refl, List, [], ◌∷◌, ◌++◌, length, take, drop, sym, ◌∙◌, ap, subst, append-nil, append_assoc, take-append-drop, take_all, Result, Ok, Err, OnOk, arith, inl, inr}
use Rattle.std.proofs.Math.ListN.{get_or}
use Rattle.std.proofs.Math.Seq.{take-suc}
use Rattle.pg_types.specs.declared.error.Error.{Error}
use Rattle.pg_spec.specs.Links.{LinkView}
use Rattle.pg_session.specs.Sessions.{EndsWith, MakesAll, Plays, Rests, StaysAll, numbers, rounds}
use Rattle.pg_session.specs.Turns.{Makes, Turns}
use Rattle.pg_session.proofs.Order.{makes_all_one, makes_all_then, makes_none, rests_none}
use Rattle.pg_play.specs.Plays.{RoundsEnd, RoundsMade}
use Rattle.pg_session.specs.Speeches.{Speech}
use Rattle.pg_session.specs.States.{SessionState}

module _ {C T A O : Type 0} (speech : Speech C T A O) where
  numbers_next : (n : ℕ) → numbers (n + 1) ≡ numbers n ++ n ∷ []
  numbers_next n = let next : n + 1 ≡ suc n = omega arith in ap numbers next

  -- one turn more of a round
  pub round_more : (scripts : List (List C)) (n : ℕ) (s : SessionState T A O) (l : LinkView) (mid : SessionState T A O) (k : LinkView) (t : SessionState T A O) (m : LinkView) →
      MakesAll speech scripts (numbers n) s l mid k → Makes speech scripts n mid t k m false → MakesAll speech scripts (numbers (n + 1)) s l t m
  round_more scripts n s l mid k t m before made =
      subst (λ turns. MakesAll speech scripts turns s l t m) (sym (numbers_next n))
      (makes_all_one speech scripts (numbers n) n s l mid k k t m before (rests_none k) made)

  stays_one : (scripts : List (List C)) (turns : List ℕ) (turn : ℕ) (s : SessionState T A O) (l : LinkView) (mid : SessionState T A O) (k : LinkView) (t : SessionState T A O) (m : LinkView) →
      StaysAll speech scripts turns s l mid k → Turns speech scripts turn mid t k m (Some false) → StaysAll speech scripts (turns ++ turn ∷ []) s l t m
  stays_one scripts [] turn s l mid k t m before stays =
      (t, m, subst (λ (x : SessionState T A O). Turns speech scripts turn x t l m (Some false)) before.0 (subst (λ (y : LinkView). Turns speech scripts turn mid t y m (Some false)) before.1 stays), (refl, refl))
  stays_one scripts (x ∷ xs) turn s l mid k t m before stays = (before.0, before.1, before.2, stays_one scripts xs turn before.0 before.1 mid k t m before.3 stays)

  -- nothing moved in a round up to one of its turns, nor in that
  pub stays_more : (scripts : List (List C)) (n : ℕ) (before more : Bool) (s : SessionState T A O) (l : LinkView) (mid : SessionState T A O) (k : LinkView) (t : SessionState T A O) (m : LinkView) →
      (before ≡ false → StaysAll speech scripts (numbers n) s l mid k) → Turns speech scripts n mid t k m (Some more) → (before || more) ≡ false → StaysAll speech scripts (numbers (n + 1)) s l t m
  stays_more scripts n true more s l mid k t m stays turns none = absurd (let no : true ≡ false = none in cc)
  stays_more scripts n false more s l mid k t m stays turns none =
      subst (λ turns. StaysAll speech scripts turns s l t m) (sym (numbers_next n))
      (stays_one scripts (numbers n) n s l mid k t m (stays refl) (subst (λ (b : Bool). Turns speech scripts n mid t k m (Some b)) none turns))

  -- one of the given turns more
  pub given_more : (scripts : List (List C)) (given : List ℕ) (i turn d : ℕ) (s : SessionState T A O) (l : LinkView) (mid : SessionState T A O) (k : LinkView) (t : SessionState T A O) (m : LinkView) →
      i < length given → turn ≡ get_or given i d →
      MakesAll speech scripts (take i given) s l mid k → Makes speech scripts turn mid t k m false → MakesAll speech scripts (take (i + 1) given) s l t m
  given_more scripts given i turn d s l mid k t m within is before made =
      let next : i + 1 ≡ suc i = omega arith in
      subst (λ turns. MakesAll speech scripts turns s l t m)
      (sym (ap (λ j. take j given) next ∙ take-suc given i d within ∙ ap (λ x. take i given ++ x ∷ []) (sym is)))
      (makes_all_one speech scripts (take i given) turn s l mid k k t m before (rests_none k) made)

  -- no round was made
  pub no_round : (scripts : List (List C)) (s : SessionState T A O) (l : LinkView) → RoundsMade speech scripts s l s l
  no_round scripts s l = record { count = 0; made = makes_none speech scripts s l l (rests_none l) }

  -- one round more, and a pause of the link behind it
  pub rounds_more : (scripts : List (List C)) (s : SessionState T A O) (l : LinkView) (mid : SessionState T A O) (k : LinkView) (t : SessionState T A O) (m r : LinkView) →
      RoundsMade speech scripts s l mid k → MakesAll speech scripts (numbers (length scripts + 1)) mid k t m → Rests m r → RoundsMade speech scripts s l t r
  rounds_more scripts s l mid k t m r before round rests = record {
    count = suc before.count;
    made = subst (λ turns. MakesAll speech scripts turns s l t r) (append-nil (rounds (length scripts) (suc before.count)))
        (makes_all_then speech scripts (rounds (length scripts) (suc before.count)) [] s l t m t r
        (makes_all_then speech scripts (rounds (length scripts) before.count) (numbers (length scripts + 1)) s l mid k t m before.made round)
        (makes_none speech scripts t m r rests));
  }

  -- turns before, and then an end
  pub ends_behind : (scripts : List (List C)) (xs ys : List ℕ) (last : ℕ) (s : SessionState T A O) (l : LinkView) (mid : SessionState T A O) (k : LinkView) (t : SessionState T A O) (m : LinkView) →
      MakesAll speech scripts xs s l mid k → EndsWith speech scripts ys last mid k t m → EndsWith speech scripts (xs ++ ys) last s l t m
  ends_behind scripts xs ys last s l mid k t m before ends = record {
    state = ends.state;
    link = ends.link;
    before = makes_all_then speech scripts xs ys s l mid k ends.state ends.link before ends.before;
    over = ends.over;
  }

  -- whole rounds, and then the end in one more
  pub rounds_end : (scripts : List (List C)) (last : ℕ) (s : SessionState T A O) (l : LinkView) (mid : SessionState T A O) (k : LinkView) (t : SessionState T A O) (m : LinkView) →
      RoundsMade speech scripts s l mid k → last ≤ length scripts → EndsWith speech scripts (numbers last) last mid k t m → RoundsEnd speech scripts s l t m
  rounds_end scripts last s l mid k t m before within ends = record {
    count = before.count;
    last = last;
    within = within;
    ends = ends_behind scripts (rounds (length scripts) before.count) (numbers last) last s l mid k t m before.made ends;
  }

  -- the end came in one of the given turns
  pub plays_given : (scripts : List (List C)) (given : List ℕ) (i turn d : ℕ) (s : SessionState T A O) (l : LinkView) (mid : SessionState T A O) (k : LinkView) (t : SessionState T A O) (m : LinkView) →
      i < length given → turn ≡ get_or given i d →
      MakesAll speech scripts (take i given) s l mid k → Makes speech scripts turn mid t k m true → Plays speech scripts given s l t m
  plays_given scripts given i turn d s l mid k t m within is before over = record {
    turns = take i given;
    last = turn;
    order = inl (
      drop (suc i) given,
      ap (λ x. (take i given ++ x ∷ []) ++ drop (suc i) given) is
          ∙ ap (λ front. front ++ drop (suc i) given) (sym (take-suc given i d within)) ∙ take-append-drop (suc i) given,
    );
    ends = record { state = mid; link = k; before = before; over = over };
  }

  -- the end came in a round behind them
  pub plays_rounds : (scripts : List (List C)) (given : List ℕ) (s : SessionState T A O) (l : LinkView) (mid : SessionState T A O) (k : LinkView) (t : SessionState T A O) (m : LinkView) →
      MakesAll speech scripts given s l mid k → RoundsEnd speech scripts mid k t m → Plays speech scripts given s l t m
  plays_rounds scripts given s l mid k t m before ends = record {
    turns = given ++ (rounds (length scripts) ends.count ++ numbers ends.last);
    last = ends.last;
    order = inr (record { count = ends.count; whole = sym (append_assoc given (rounds (length scripts) ends.count) (numbers ends.last)); within = ends.within });
    ends = ends_behind scripts given (rounds (length scripts) ends.count ++ numbers ends.last) ends.last s l mid k t m before ends.ends;
  }

  -- the rounds ended behind all of the given turns, or failed
  pub plays_after : (scripts : List (List C)) (given : List ℕ) (i : ℕ) (s : SessionState T A O) (l : LinkView) (mid : SessionState T A O) (k : LinkView) (t : SessionState T A O) (m : LinkView) (r : Result (Unit {0}) Error) →
      length given ≤ i → MakesAll speech scripts (take i given) s l mid k → OnOk r (RoundsEnd speech scripts mid k t m) → OnOk r (Plays speech scripts given s l t m)
  plays_after scripts given i s l mid k t m (Err e) all before ends = ends
  plays_after scripts given i s l mid k t m (Ok x) all before ends =
      plays_rounds scripts given s l mid k t m (subst (λ turns. MakesAll speech scripts turns s l mid k) (take_all i given all) before) ends
