-- Turns of a session made one after another.
pub mod Places
pub mod Marks
pub mod Holds
pub mod Traces
use Rattle.std.proofs.Common.{ℕ, false, List, [], ◌∷◌, ◌++◌, refl, subst, ◌∙◌}
use Rattle.pg_spec.specs.Links.{LinkView}
use Rattle.pg_wire.specs.LinkCalls.{SameBytes}
use Rattle.pg_connect.proofs.Joining.{keeps_same, keeps_then}
use Rattle.pg_session.specs.States.{SessionState}
use Rattle.pg_session.specs.Turns.{Makes}
use Rattle.pg_session.specs.Sessions.{Rests, MakesAll}
use Rattle.pg_session.specs.Speeches.{Speech}

-- ---- the link between two turns

pub rests_none : (l : LinkView) → Rests l l
rests_none l = record { bytes = record { given = refl; taken = refl; due = refl }; writing = record { flushed = refl; shut = refl }; keeps = keeps_same l }

bytes_then : (a b c : LinkView) → SameBytes a b → SameBytes b c → SameBytes a c
bytes_then a b c p q = record { given = q.given ∙ p.given; taken = q.taken ∙ p.taken; due = q.due ∙ p.due }

pub rests_then : (a b c : LinkView) → Rests a b → Rests b c → Rests a c
rests_then a b c p q = record {
  bytes = bytes_then a b c p.bytes q.bytes;
  writing = record { flushed = q.writing.flushed ∙ p.writing.flushed; shut = q.writing.shut ∙ p.writing.shut };
  keeps = keeps_then a b c p.keeps q.keeps;
}

module _ {C T A E : Type 0} (speech : Speech C T A E) where
  -- ---- turns behind others

  -- no turn
  pub makes_none : (scripts : List (List C)) (s : SessionState T A E) (l m : LinkView) → Rests l m → MakesAll speech scripts [] s l s m
  makes_none scripts s l m rest = (refl, rest)

  -- the link was waited for before the first of them
  pub makes_all_rested : (scripts : List (List C)) (turns : List ℕ) (s : SessionState T A E) (l k : LinkView) (t : SessionState T A E) (m : LinkView) →
      Rests l k → MakesAll speech scripts turns s k t m → MakesAll speech scripts turns s l t m
  makes_all_rested scripts [] s l k t m rest made = (made.0, rests_then l k m rest made.1)
  makes_all_rested scripts (turn ∷ turns) s l k t m rest made =
      (made.0, made.1, made.2, rests_then l k made.0 rest made.3, made.4, made.5)

  -- turns and then others
  pub makes_all_then : (scripts : List (List C)) (xs ys : List ℕ) (s : SessionState T A E) (l : LinkView) (mid : SessionState T A E) (k : LinkView) (t : SessionState T A E) (m : LinkView) →
      MakesAll speech scripts xs s l mid k → MakesAll speech scripts ys mid k t m → MakesAll speech scripts (xs ++ ys) s l t m
  makes_all_then scripts [] ys s l mid k t m first then =
      subst (λ (x : SessionState T A E). MakesAll speech scripts ys x l t m) first.0 (makes_all_rested scripts ys mid l k t m first.1 then)
  makes_all_then scripts (x ∷ xs) ys s l mid k t m first then =
      (first.0, first.1, first.2, first.3, first.4, makes_all_then scripts xs ys first.1 first.2 mid k t m first.5 then)

  -- one turn alone
  pub makes_one : (scripts : List (List C)) (turn : ℕ) (s : SessionState T A E) (l k : LinkView) (t : SessionState T A E) (m : LinkView) →
      Rests l k → Makes speech scripts turn s t k m false → MakesAll speech scripts (turn ∷ []) s l t m
  makes_one scripts turn s l k t m rest made = (k, t, m, rest, made, makes_none scripts t m m (rests_none m))

  -- one more turn at the end
  pub makes_all_one : (scripts : List (List C)) (turns : List ℕ) (turn : ℕ) (s : SessionState T A E) (l : LinkView) (mid : SessionState T A E) (k r : LinkView) (t : SessionState T A E) (m : LinkView) →
      MakesAll speech scripts turns s l mid k → Rests k r → Makes speech scripts turn mid t r m false → MakesAll speech scripts (turns ++ turn ∷ []) s l t m
  makes_all_one scripts turns turn s l mid k r t m first rest made =
      makes_all_then scripts turns (turn ∷ []) s l mid k t m first (makes_one scripts turn mid k r t m rest made)
