-- Levels that are counted command by command are nested, and no others are.
use Rattle.std.proofs.Common.{◌≡◌, ◌≤◌, ◌+◌, ℕ, zero, suc, Bool, true, false, not, ◌||◌, ◌==◌, List, [], ◌∷◌, ◌++◌, length, get_or, map, Option, Some, None, refl, sym, ap, ◌∙◌, eqb-true, eq-eqb, arith}
use Rattle.std.specs.Prelude.{Decides}
use Rattle.std.specs.List.{AllByRecursion, list_any}
use Rattle.std.proofs.lemmas.List.Sums.{sum_by-cons}
use Rattle.pg_spec.specs.Report as simple
use Rattle.pg_text.specs.Levels.{AreNested, Begins, Effect, Ends, KeepLevels, Leaves, Nests, effect_of, ended, ended_by, has_levels, is_changed, nests, open_behind, opened, opened_by}
use Rattle.pg_text.specs.Views.{as_command, as_scripts}
use Rattle.pg_text.specs.declared.command.Command.{Command}

opened-cons : (c : Command) (commands : List Command) → opened (c ∷ commands) ≡ opened_by (effect_of c) + opened commands
opened-cons c commands = sum_by-cons (λ c. opened_by (effect_of c)) c commands

ended-cons : (c : Command) (commands : List Command) → ended (c ∷ commands) ≡ ended_by (effect_of c) + ended commands
ended-cons c commands = sum_by-cons (λ c. ended_by (effect_of c)) c commands

-- the same as `AreNested`, where so many levels were open before
record NestFrom (n : ℕ) (script : List Command) : Type 0 where
  within : (front rest : List Command) → script ≡ front ++ rest → ended front ≤ n + opened front
  all : ended script ≡ n + opened script
  outermost : (front rest : List Command) (c : Command) → script ≡ front ++ c ∷ rest → effect_of c ≡ Begins → ended front ≡ n + opened front

head_of : (a b : Command) (cs ds : List Command) → a ∷ cs ≡ b ∷ ds → a ≡ b
head_of a b cs ds e = cc

tail_of : (a b : Command) (cs ds : List Command) → a ∷ cs ≡ b ∷ ds → cs ≡ ds
tail_of a b cs ds e = cc

-- ---- a command in front

module _ (n m : ℕ) (c : Command) (script : List Command) (moves : n + opened_by (effect_of c) ≡ m + ended_by (effect_of c)) where
  counts : (d : Command) (front : List Command) → c ≡ d → (ended (d ∷ front) ≡ ended_by (effect_of c) + ended front) × (opened (d ∷ front) ≡ opened_by (effect_of c) + opened front)
  counts d front e =
      (ap (λ (x : Command). ended (x ∷ front)) (sym e) ∙ ended-cons c front, ap (λ (x : Command). opened (x ∷ front)) (sym e) ∙ opened-cons c front)

  longer : NestFrom m script → (effect_of c ≡ Begins → n ≡ 0) → NestFrom n (c ∷ script)
  longer h begins = record {
    within = within;
    all = (let a = ended-cons c script in let b = opened-cons c script in omega (arith, moves, h.all, a, b));
    outermost = outermost;
  }
    where
      within : (front rest : List Command) → c ∷ script ≡ front ++ rest → ended front ≤ n + opened front
      within [] rest e = omega arith
      within (d ∷ front) rest e =
          let k = counts d front (head_of c d script (front ++ rest) e) in
          omega (arith, moves, k.0, k.1, h.within front rest (tail_of c d script (front ++ rest) e))

      outermost : (front rest : List Command) (d : Command) → c ∷ script ≡ front ++ d ∷ rest → effect_of d ≡ Begins → ended front ≡ n + opened front
      outermost [] rest d e is = (let none = begins (ap effect_of (head_of c d script rest e) ∙ is) in omega (arith, none))
      outermost (b ∷ front) rest d e is =
          let k = counts b front (head_of c b script (front ++ d ∷ rest) e) in
          omega (arith, moves, k.0, k.1, h.outermost front rest d (tail_of c b script (front ++ d ∷ rest) e) is)

  shorter : NestFrom n (c ∷ script) → NestFrom m script
  shorter h = record {
    within = λ front rest e. (let k = counts c front refl in let was = h.within (c ∷ front) rest (ap (λ (x : List Command). c ∷ x) e) in omega (arith, moves, k.0, k.1, was));
    all = (let a = ended-cons c script in let b = opened-cons c script in omega (arith, moves, h.all, a, b));
    outermost = λ front rest d e is. (let k = counts c front refl in let was = h.outermost (c ∷ front) rest d (ap (λ (x : List Command). c ∷ x) e) is in omega (arith, moves, k.0, k.1, was));
  }

-- ---- no command

none_left : (n : ℕ) → (n == 0) ≡ true → NestFrom n []
none_left n e =
    let none : n ≡ 0 = eqb-true n 0 e in
    record { within = within; all = omega (arith, none); outermost = λ front rest c is. absurd (empty front rest c is) }
  where
    within : (front rest : List Command) → [] ≡ front ++ rest → ended front ≤ n + opened front
    within [] rest is = omega arith
    within (c ∷ front) rest is = cc is

    empty : (front rest : List Command) (c : Command) → [] ≡ front ++ c ∷ rest → ⊥
    empty [] rest c is = cc is
    empty (d ∷ front) rest c is = cc is

-- ---- all of them

-- how the count goes on behind a command
abbrev Counts : List Command → Option ℕ → Bool
Counts script o = elim o [ None ↦ false | Some m ↦ nests m script ]

-- so many levels were open, and are
moved : (n m : ℕ) (c : Command) (x : Effect) → effect_of c ≡ x → n + opened_by x ≡ m + ended_by x → n + opened_by (effect_of c) ≡ m + ended_by (effect_of c)
moved n m c x is e = ap (λ (y : Effect). n + opened_by y) is ∙ e ∙ sym (ap (λ (y : Effect). m + ended_by y) is)

nested : (n : ℕ) (script : List Command) → nests n script ≡ true → NestFrom n script
nested n [] e = none_left n e
nested n (c ∷ script) e = by n (effect_of c) refl (λ m h. nested m script h) e
  where
    by : (n : ℕ) (x : Effect) → effect_of c ≡ x → ((m : ℕ) → nests m script ≡ true → NestFrom m script) → Counts script (open_behind x n) ≡ true → NestFrom n (c ∷ script)
    by zero Begins is more e = longer 0 1 c script (moved 0 1 c Begins is refl) (more 1 e) (λ same. refl)
    by (suc n) Begins is more e = cc e
    by n Nests is more e = longer n (n + 1) c script (moved n (n + 1) c Nests is (omega arith)) (more (n + 1) e) (λ same. cc (sym is ∙ same))
    by zero Ends is more e = cc e
    by (suc n) Ends is more e = longer (suc n) n c script (moved (suc n) n c Ends is (omega arith)) (more n e) (λ same. cc (sym is ∙ same))
    by n Leaves is more e = longer n n c script (moved n n c Leaves is refl) (more n e) (λ same. cc (sym is ∙ same))

counted : (n : ℕ) (script : List Command) → NestFrom n script → nests n script ≡ true
counted n [] h = eq-eqb n 0 (omega (arith, h.all))
counted n (c ∷ script) h = by n (effect_of c) refl (λ m h. counted m script h) h
  where
    by : (n : ℕ) (x : Effect) → effect_of c ≡ x → ((m : ℕ) → NestFrom m script → nests m script ≡ true) → NestFrom n (c ∷ script) → Counts script (open_behind x n) ≡ true
    by zero Begins is more h = more 1 (shorter 0 1 c script (moved 0 1 c Begins is refl) h)
    by (suc n) Begins is more h = absurd (omega (arith, h.outermost [] script c refl is))
    by n Nests is more h = more (n + 1) (shorter n (n + 1) c script (moved n (n + 1) c Nests is (omega arith)) h)
    by zero Ends is more h =
        let e = ended-cons c [] ∙ ap (λ (x : Effect). ended_by x + 0) is in
        let o = opened-cons c [] ∙ ap (λ (x : Effect). opened_by x + 0) is in
        absurd (omega (arith, e, o, h.within (c ∷ []) script refl))
    by (suc n) Ends is more h = more n (shorter (suc n) n c script (moved (suc n) n c Ends is (omega arith)) h)
    by n Leaves is more h = more n (shorter n n c script (moved n n c Leaves is refl) h)

from_nested : (script : List Command) → AreNested script → NestFrom 0 script
from_nested script h = record {
  within = λ front rest e. (let was = h.within front rest e in omega (arith, was));
  all = (let was = h.all in omega (arith, was));
  outermost = λ front rest c e is. (let was = h.outermost front rest c e is in omega (arith, was));
}

to_nested : (script : List Command) → NestFrom 0 script → AreNested script
to_nested script h = record {
  within = λ front rest e. (let was = h.within front rest e in omega (arith, was));
  all = (let was = h.all in omega (arith, was));
  outermost = λ front rest c e is. (let was = h.outermost front rest c e is in omega (arith, was));
}

-- ---- scripts

-- a script without levels
no_levels : (script : List Command) → has_levels script ≡ false → nests 0 script ≡ true
no_levels [] e = refl
no_levels (c ∷ script) e = by (effect_of c) (no_levels script) e
  where
    by : (x : Effect) → (has_levels script ≡ false → nests 0 script ≡ true) → (is_changed x || has_levels script) ≡ false → Counts script (open_behind x 0) ≡ true
    by Begins more e = cc e
    by Nests more e = cc e
    by Ends more e = cc e
    by Leaves more e = more e

none_nested : (scripts : List (List Command)) → list_any has_levels scripts ≡ false → AllByRecursion AreNested scripts
none_nested [] e = tt
none_nested (script ∷ scripts) e = by (has_levels script) refl (none_nested scripts) e
  where
    by : (b : Bool) → has_levels script ≡ b → (list_any has_levels scripts ≡ false → AllByRecursion AreNested scripts) → (b || list_any has_levels scripts) ≡ false →
        AreNested script × AllByRecursion AreNested scripts
    by true is more e = cc e
    by false is more e = (to_nested script (nested 0 script (no_levels script is)), more e)

never : {A : Type 0} → false ≡ true → A
never e = absurd cc

-- a script alone
alone : (script : List Command) (b : Bool) → b ≡ nests 0 script → Decides b (KeepLevels (script ∷ []))
alone script b e = (
  λ yes. record { alone = λ any. refl; nested = (to_nested script (nested 0 script (sym e ∙ yes)), tt) },
  λ h. e ∙ counted 0 script (from_nested script h.nested.0),
)

-- the only script
pub one_script : (scripts : List (List Command)) (script : List Command) (b : Bool) → length scripts ≡ 1 → script ≡ get_or scripts 0 script → b ≡ nests 0 script → Decides b (KeepLevels scripts)
one_script [] script b one is e = absurd (omega (arith, one))
one_script (only ∷ []) script b one is e = alone only b (e ∙ ap (nests 0) is)
one_script (only ∷ next ∷ scripts) script b one is e = absurd (omega (arith, one))

-- none, or some
pub some_scripts : (scripts : List (List Command)) (b : Bool) → (length scripts ≡ 1 → ⊥) → b ≡ list_any has_levels scripts → Decides (not b) (KeepLevels scripts)
some_scripts scripts true many e = (λ no. cc no, λ h. absurd (many (h.alone (sym e))))
some_scripts scripts false many e = (λ yes. record { alone = λ any. never (e ∙ any); nested = none_nested scripts (sym e) }, λ h. refl)

-- ---- simple queries alone

simple_plain : (commands : List simple.Command) → has_levels (map as_command commands) ≡ false
simple_plain [] = refl
simple_plain (simple.Simple text take ∷ commands) = simple_plain commands

simples_plain : (scripts : List (List simple.Command)) → list_any has_levels (as_scripts scripts) ≡ false
simples_plain [] = refl
simples_plain (script ∷ scripts) = λ i. simple_plain script i || simples_plain scripts i

pub simple_levels : (scripts : List (List simple.Command)) → KeepLevels (as_scripts scripts)
simple_levels scripts = record { alone = λ any. never (sym (simples_plain scripts) ∙ any); nested = none_nested (as_scripts scripts) (simples_plain scripts) }
