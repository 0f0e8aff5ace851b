use Rattle.std.proofs.Common.{inl, ℕ, ℤ, pos, true, false, List, [], ◌∷◌, Some, None, refl, arith}
use Rattle.std.proofs.lemmas.Int.{ints}
use Rattle.pg_types.specs.declared.pg_type.Kind as k
use Rattle.pg_types.specs.declared.value.Value.TheVariants as value
use Rattle.pg_values.specs.declared.datum.Datum as d
use Rattle.pg_values.specs.declared.datum.Datum.{Datum}
use Rattle.pg_values.specs.Parts.{IsNext}
use Rattle.pg_values.specs.Spelling.{SpellsKind}
use Rattle.pg_values.specs.Worked.{WorkedNumeric, WorkedArray, WorkedRange, two_items}
use Rattle.pg_values.proofs.laws.worked_values.Goals as goal

numeric : WorkedNumeric
numeric = record {
  sign = 0;
  scale = 3;
  weight = pos 1;
  digits = 1 ∷ 2345 ∷ 6780 ∷ [];
  form = record {
    few = omega arith;
    below = (omega arith, (omega arith, (omega arith, tt)));
    signed = omega arith;
    scaled = omega arith;
    fits = record { sfits = omega (arith, ints) };
    spelled = refl;
    first = λ p e. omega (arith, e);
    last = λ p e. omega (arith, e);
  };
  is = inl (record { unscaled = pos 12345678; same = refl; signs = inl (refl, omega (arith, ints)); number = refl; few = omega arith; small = omega arith });
  bare = λ p. record { zero = λ e. absurd (cc e); nan = λ e. absurd (omega (arith, e)) };
}

abbrev S : Datum → List ℕ → Type 0
S = SpellsKind true 23 k.Simple

one : S (d.Int (pos 1)) (0 ∷ 0 ∷ 0 ∷ 1 ∷ [])
one = record { value = value.Int (pos 1); spelled = refl; same = refl; given = λ p. refl }

five : S (d.Int (pos 5)) (0 ∷ 0 ∷ 0 ∷ 5 ∷ [])
five = record { value = value.Int (pos 5); spelled = refl; same = refl; given = λ p. refl }

next : (z : ℤ) (a b c e : ℕ) (rest : List ℕ) → S (d.Int z) (a ∷ b ∷ c ∷ e ∷ []) → IsNext false S (d.Int z) (0 ∷ 0 ∷ 0 ∷ 4 ∷ a ∷ b ∷ c ∷ e ∷ rest) rest
next z a b c e rest is = record { part = Some (a ∷ b ∷ c ∷ e ∷ []); front = record { fits = omega arith; spelled = refl }; is = is }

array : WorkedArray
array =
    let null : List ℕ = 255 ∷ 255 ∷ 255 ∷ 255 ∷ [] in
    let first : IsNext true S (d.Int (pos 1)) (0 ∷ 0 ∷ 0 ∷ 4 ∷ 0 ∷ 0 ∷ 0 ∷ 1 ∷ null) null =
    record { part = Some (0 ∷ 0 ∷ 0 ∷ 1 ∷ []); front = record { fits = omega arith; spelled = refl }; is = one } in
    let second : IsNext true S d.Null null [] = record { part = None; front = record { fits = refl; spelled = refl }; is = refl } in
    record {
      dims = two_items;
      items = d.Int (pos 1) ∷ d.Null ∷ [];
      flag = 1;
      rest = 0 ∷ 0 ∷ 0 ∷ 4 ∷ 0 ∷ 0 ∷ 0 ∷ 1 ∷ null;
      same = refl;
      front = record {
        flags = omega arith;
        few = omega arith;
        are = (record { long = omega (arith, ints); len = record { sfits = omega (arith, ints) }; lower = record { sfits = omega (arith, ints) } }, tt);
        small = omega arith;
      };
      are = record { count_is = refl; are = (null, first, ([], second, refl)) };
      spelled = refl;
      flagged = λ p. (λ e. (1, omega arith, refl), λ e. refl);
    }

range : WorkedRange
range = record {
  flags = 2;
  bounds = d.Int (pos 1) ∷ d.Int (pos 5) ∷ [];
  rest = 0 ∷ 0 ∷ 0 ∷ 4 ∷ 0 ∷ 0 ∷ 0 ∷ 1 ∷ 0 ∷ 0 ∷ 0 ∷ 4 ∷ 0 ∷ 0 ∷ 0 ∷ 5 ∷ [];
  same = refl;
  below = omega arith;
  are = record {
    count_is = refl;
    are = (0 ∷ 0 ∷ 0 ∷ 4 ∷ 0 ∷ 0 ∷ 0 ∷ 5 ∷ [], next (pos 1) 0 0 0 1 (0 ∷ 0 ∷ 0 ∷ 4 ∷ 0 ∷ 0 ∷ 0 ∷ 5 ∷ []) one, ([], next (pos 5) 0 0 0 5 [] five, refl));
  };
  spelled = refl;
  flagged = λ p. refl;
}

pub returns-clause-numeric : goal.returns-clause-numeric
returns-clause-numeric c = numeric

pub returns-clause-array : goal.returns-clause-array
returns-clause-array c = array

pub returns-clause-range : goal.returns-clause-range
returns-clause-range c = range
