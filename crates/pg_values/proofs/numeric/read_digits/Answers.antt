use Rattle.std.proofs.Common.{◌≡◌, ℕ, Bool, true, false, ◌==◌, List, [], ◌++◌, length, flat_map, arith, ap, sym, ◌∙◌, subst, w16}
use Rattle.std.specs.Int.{to_be_bytes}
use Rattle.std.specs.List.{AllByRecursion}
use Rattle.pg_values.proofs.DigitLaws.{IsBelow, digits_front, digits_end, below_more, spelled_more}
use Rattle.pg_values.proofs.numeric.read_digits.Goals as goal

pub loop-digit-preserved : goal.loop-digit-preserved
loop-digit-preserved c =
    let e = sym c.in_ok-push.ensures in
    record {
      below = subst (λ (l : List ℕ). AllByRecursion IsBelow l) e (below_more c.loop-digit.digits c.in-Some.digit c.loop-digit.invariant.below (omega arith));
      spelled = spelled_more c.loop-digit.digits c.in-Some.digit c.args.bytes.now c.loop-digit.rest.now c.in-Some.behind.now c.loop-digit.invariant.spelled c.in-Some.ensures.1
          ∙ ap (λ (l : List ℕ). flat_map (to_be_bytes w16) l ++ c.in-Some.behind.now) e;
      others = λ ds are.
          let es = c.loop-digit.invariant.others ds are in
          let front = digits_front es.0 c.in-Some.digit c.loop-digit.rest.now c.in-Some.behind.now c.in-Some.ensures.0 c.in-Some.ensures.1 es.1 in
          (front.digits, front.are);
    }

pub returns-then-digit-ge-BASE : goal.returns-then-digit-ge-BASE
returns-then-digit-ge-BASE c = λ ds are.
    let es = c.loop-digit.invariant.others ds are in
    let front = digits_front es.0 c.in-Some.digit c.loop-digit.rest.now c.in-Some.behind.now c.in-Some.ensures.0 c.in-Some.ensures.1 es.1 in
    omega (arith, front.below, c.if-digit-ge-BASE.true)

some_left : (xs : List ℕ) (b : Bool) → b ≡ (length xs == 0) → b ≡ false → xs ≡ [] → ⊥
some_left xs b is left none = let e : (length xs == 0) ≡ true = ap (λ (l : List ℕ). length l == 0) none in absurd (cc (is, left, e))

pub returns-then-not-is_empty : goal.returns-then-not-is_empty
returns-then-not-is_empty c = λ ds are.
    let es = c.loop-digit.invariant.others ds are in
    some_left c.loop-digit.rest.now c.is_empty.result c.is_empty.ensures c.if-not-is_empty.true (digits_end es.0 c.loop-digit.rest.now c.in_default.ensures es.1)
