use Rattle.std.proofs.Common.{◌≡◌, ℕ, ◌+◌, ◌-◌, ◌*◌, ◌<◌, ◌≤◌, ◌^◌, ◌/◌, ◌%◌, arith, ap, sym, ◌∙◌, subst}
use Rattle.std.proofs.Math.Nat.{div-le_self}
use Rattle.pg_values.proofs.NumberLaws.{tens, digit_is, no_multiple, no_remainder, quotient_is, at_most, too_high, too_large, fits_below, raised}
use Rattle.pg_values.proofs.numeric.term.Goals as goal
use Rattle.pg_values.proofs.numeric.term.Goals.{then-k-gt4-via-then-k-gt4, then-k-gt4-via-else-k-gt4+then-n-power-ne0, then-k-gt38-via-then-k-gt38, then-k-gt38-via-else-k-gt38+then-n-power}

pub nonzero_rem-n : goal.nonzero_rem-n
nonzero_rem-n c = omega (arith, c.power.ensures, tens (c.args.down - c.args.up))

pub returns-then-k-gt4 : goal.returns-then-k-gt4
returns-then-k-gt4 c = λ t low small less e.
    let digit : ℕ = c.args.digit in
    let up : ℕ = c.args.up in
    let k : ℕ = c.args.down - c.args.up in
    let same : c.args.down ≡ up + k = omega arith in
    let is : digit ≡ t * 10 ^ k = digit_is digit t low up k less (e ∙ ap (λ (x : ℕ). t * 10 ^ x) same) in
    elim c.then-k-gt4.branch [
      | then-k-gt4-via-then-k-gt4 w ↦ no_multiple digit t k (omega arith) (λ z. c.if-digit-eq0.false z) w.if-k-gt4.true is
      | then-k-gt4-via-else-k-gt4+then-n-power-ne0 w ↦ no_remainder digit t k (λ z. w.if-n-power-ne0.true (ap (λ (x : ℕ). digit % x) w.power.ensures ∙ z)) is
    ]

pub returns-then-up-down : goal.returns-then-up-down
returns-then-up-down c =
    let digit : ℕ = c.args.digit in
    let up : ℕ = c.args.up in
    let k : ℕ = c.args.down - c.args.up in
    let same : c.args.down ≡ up + k = omega arith in
    let whole : digit % 10 ^ k ≡ 0 = ap (λ (x : ℕ). digit % x) (sym c.power.ensures) ∙ c.if-n-power-ne0.false in
    let few : digit / c.power-then-up-down.result ≤ digit = div-le_self digit c.power-then-up-down.result in (
      omega (arith, few),
      quotient_is digit up k whole ∙ ap (λ (x : ℕ). digit / x * 10 ^ (up + k)) (sym c.power-then-up-down.ensures)
          ∙ ap (λ (x : ℕ). digit / c.power-then-up-down.result * 10 ^ x) (sym same),
    )

pub returns-then-k-gt38 : goal.returns-then-k-gt38
returns-then-k-gt38 c = λ t low small less e.
    let digit : ℕ = c.args.digit in
    let down : ℕ = c.args.down in
    let k : ℕ = c.args.up - c.args.down in
    let same : c.args.up ≡ down + k = omega arith in
    let most : digit * 10 ^ k ≤ t = at_most digit t low down k (ap (λ (x : ℕ). digit * 10 ^ x + low) (sym same) ∙ e) in
    elim c.then-k-gt38.branch [
      | then-k-gt38-via-then-k-gt38 w ↦ too_high digit t k (λ z. c.if-digit-eq0.false z) w.if-k-gt38.true most small
      | then-k-gt38-via-else-k-gt38+then-n-power w ↦ too_large digit t k (omega (arith, w.if-k-gt38.false)) (subst (λ (x : ℕ). x ≤ digit) w.power-else-k-gt38.ensures w.if-n-power.true) most small
    ]

pub overflow_mul-result : goal.overflow_mul-result
overflow_mul-result c =
    let k : ℕ = c.args.up - c.args.down in
    let less : c.args.digit < 10 ^ (38 - k) = subst (λ (x : ℕ). c.args.digit < x) c.power-else-k-gt38.ensures c.if-n-power.false in
    let small = fits_below c.args.digit k (omega arith) less in
    let e : c.args.digit * c.power-2.result ≡ c.args.digit * 10 ^ k = ap (λ (x : ℕ). c.args.digit * x) c.power-2.ensures in
    omega (arith, small, e)

pub returns : goal.returns
returns c =
    let k : ℕ = c.args.up - c.args.down in
    let less : c.args.digit < 10 ^ (38 - k) = subst (λ (x : ℕ). c.args.digit < x) c.power-else-k-gt38.ensures c.if-n-power.false in
    let small = fits_below c.args.digit k (omega arith) less in
    let e : c.args.digit * c.power-2.result ≡ c.args.digit * 10 ^ k = ap (λ (x : ℕ). c.args.digit * x) c.power-2.ensures in
    let same : c.args.up ≡ c.args.down + k = omega arith in (
      omega (arith, small, e),
      ap (λ (x : ℕ). c.args.digit * 10 ^ x) same ∙ raised c.args.digit c.args.down k ∙ ap (λ (x : ℕ). x * 10 ^ c.args.down) (sym e),
    )
