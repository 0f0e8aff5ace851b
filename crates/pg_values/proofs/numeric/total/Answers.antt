use Rattle.std.proofs.Common.{◌≡◌, ℕ, ◌+◌, ◌-◌, ◌*◌, ◌<◌, ◌≤◌, ◌^◌, List, length, drop, get_or, arith, ap, sym, ◌∙◌, subst, length-drop}
use Rattle.std.specs.List.{AllByRecursion}
use Rattle.std.proofs.lemmas.List.{drop_more}
use Rattle.pg_values.specs.Numerics.{digits_value}
use Rattle.pg_values.proofs.NumberLaws.{low_small, total_none, total_more, total_large}
use Rattle.pg_values.proofs.numeric.total.Goals as goal

-- the digit at a place, and those behind it
record At (digits : List ℕ) (top scale shift sum j : ℕ) : Type 0 where
  whole : ℕ
  below : AllByRecursion (λ digit. digit < 10000) (drop (j + 1) digits)
  less : digits_value (top - j - 1) (drop (j + 1) digits) < 10000 ^ (top - j)
  sum_is : sum * 10000 ^ shift + (get_or digits j 0 * 10000 ^ (top - j) + digits_value (top - j - 1) (drop (j + 1) digits)) * 10 ^ scale ≡ digits_value top digits * 10 ^ scale

at_place : (digits : List ℕ) (top scale shift sum j : ℕ) → j < length digits → length digits ≤ top + 1 → AllByRecursion (λ digit. digit < 10000) (drop j digits)
    → sum * 10000 ^ shift + digits_value (top - j) (drop j digits) * 10 ^ scale ≡ digits_value top digits * 10 ^ scale → At digits top scale shift sum j
at_place digits top scale shift sum j less room below e =
    let split = drop_more digits j 0 less in
    let all = subst (λ (l : List ℕ). AllByRecursion (λ (digit : ℕ). digit < 10000) l) split below in
    record {
      whole = 0;
      below = all.1;
      less = low_small (top - j) (drop (j + 1) digits) all.1 (omega (arith, length-drop (j + 1) digits, less, room));
      sum_is = ap (λ (l : List ℕ). sum * 10000 ^ shift + digits_value (top - j) l * 10 ^ scale) (sym split) ∙ e;
    }

next_place : (digits : List ℕ) (top scale shift sum j : ℕ) → sum * 10000 ^ shift + digits_value (top - j - 1) (drop (j + 1) digits) * 10 ^ scale ≡ digits_value top digits * 10 ^ scale
    → sum * 10000 ^ shift + digits_value (top - (j + 1)) (drop (j + 1) digits) * 10 ^ scale ≡ digits_value top digits * 10 ^ scale
next_place digits top scale shift sum j e =
    let same : top - (j + 1) ≡ top - j - 1 = omega arith in
    ap (λ (n : ℕ). sum * 10000 ^ shift + digits_value n (drop (j + 1) digits) * 10 ^ scale) same ∙ e

pub returns-in_err-sum : goal.returns-in_err-sum
returns-in_err-sum c =
    let digits : List ℕ = c.args.digits.now in
    let j : ℕ = c.loop-j.j in
    let here = at_place digits c.args.top c.args.scale c.args.shift c.loop-j.sum j (omega arith) c.requires.room c.loop-j.invariant.below c.loop-j.invariant.sum_is in
    rw c.from_residual.ensures
    (λ u small is. total_none (get_or digits j 0) (c.args.top - j) c.args.scale c.args.shift c.loop-j.sum u
    (digits_value (c.args.top - j - 1) (drop (j + 1) digits)) (digits_value c.args.top digits * 10 ^ c.args.scale) here.sum_is is here.less small c.in_err-sum.ensures)

pub returns-then-sum-ge100000000000000000000000000000000000000 :
    goal.returns-then-sum-ge100000000000000000000000000000000000000
returns-then-sum-ge100000000000000000000000000000000000000 c =
    let digits : List ℕ = c.args.digits.now in
    let j : ℕ = c.loop-j.j in
    let here = at_place digits c.args.top c.args.scale c.args.shift c.loop-j.sum j (omega arith) c.requires.room c.loop-j.invariant.below c.loop-j.invariant.sum_is in
    let low : ℕ = digits_value (c.args.top - j - 1) (drop (j + 1) digits) in
    let whole : ℕ = digits_value c.args.top digits * 10 ^ c.args.scale in
    let more = total_more (get_or digits j 0) (c.args.top - j) c.args.scale c.args.shift c.loop-j.sum c.in_ok-sum.field-0 low whole here.sum_is c.in_ok-sum.ensures.1 in
    λ u small is. total_large c.args.shift (c.loop-j.sum + c.in_ok-sum.field-0) u (low * 10 ^ c.args.scale) whole more is small c.if-sum-ge100000000000000000000000000000000000000.true

pub loop-j-preserved : goal.loop-j-preserved
loop-j-preserved c =
    let digits : List ℕ = c.args.digits.now in
    let j : ℕ = c.loop-j.j in
    let here = at_place digits c.args.top c.args.scale c.args.shift c.loop-j.sum j (omega arith) c.requires.room c.loop-j.invariant.below c.loop-j.invariant.sum_is in
    let low : ℕ = digits_value (c.args.top - j - 1) (drop (j + 1) digits) in
    let whole : ℕ = digits_value c.args.top digits * 10 ^ c.args.scale in
    let more = total_more (get_or digits j 0) (c.args.top - j) c.args.scale c.args.shift c.loop-j.sum c.in_ok-sum.field-0 low whole here.sum_is c.in_ok-sum.ensures.1 in
    record {
      small = c.if-sum-ge100000000000000000000000000000000000000.false;
      below = here.below;
      sum_is = next_place digits c.args.top c.args.scale c.args.shift (c.loop-j.sum + c.in_ok-sum.field-0) j more;
    }
