use Rattle.std.proofs.Common.{◌≡◌, ◌<◌, ◌≤◌, ◌+◌, ◌-◌, ◌*◌, ◌^◌, ◌/◌, ◌%◌, ℕ, ap, sym, ◌∙◌, subst, arith}
use Rattle.std.proofs.Math.Nat.{mod-lt, div-le_self, mul-lt-mul_of_pos_right}
use Rattle.pg_values.proofs.NumberLaws.{tens}
use Rattle.pg_values.proofs.GroupLaws.{pad_is, first_groups, next_groups, no_groups}
use Rattle.pg_values.proofs.numeric_written.groups_of.Goals as goal

pub nonzero_div-front : goal.nonzero_div-front
nonzero_div-front c = omega (arith, c.power-unit.ensures, tens (4 - c.args.pad))

pub nonzero_rem-last : goal.nonzero_rem-last
nonzero_rem-last c = omega (arith, c.power-unit.ensures, tens (4 - c.args.pad))

-- the last digit before it is known not to be zero
small : (number pad unit ten : ℕ) → pad ≤ 3 → unit ≡ 10 ^ (4 - pad) → ten ≡ 10 ^ pad → number % unit * ten < 10000
small number pad unit ten less is also =
    let some : 1 ≤ unit = omega (arith, is, tens (4 - pad)) in
    let more : 1 ≤ ten = omega (arith, also, tens pad) in
    let below : number % unit < unit = mod-lt number some in
    let grows : number % unit * ten < unit * ten = mul-lt-mul_of_pos_right below more in
    let whole : unit * ten ≡ 10000 = ap (λ (x : ℕ). x * ten) is ∙ ap (λ (x : ℕ). 10 ^ (4 - pad) * x) also ∙ pad_is pad less in
    omega (arith, grows, whole)

pub overflow_mul-last : goal.overflow_mul-last
overflow_mul-last c =
    let less = small c.args.number c.args.pad c.power-unit.result c.power.result c.requires.pad c.power-unit.ensures c.power.ensures in
    record { fits = omega (arith, less) }

pub loop-zeros-init : goal.loop-zeros-init
loop-zeros-init c = record {
  sum = ap (λ (x : ℕ). (c.args.number / x * 10000 + c.args.number % x * c.power.result) * 1) c.power-unit.ensures
      ∙ ap (λ (x : ℕ). (c.args.number / 10 ^ (4 - c.args.pad) * 10000 + c.args.number % 10 ^ (4 - c.args.pad) * x) * 1) c.power.ensures
      ∙ first_groups c.args.number c.args.pad c.requires.pad;
  few = let most : c.args.number / c.power-unit.result ≤ c.args.number = div-le_self c.args.number c.power-unit.result in omega (arith, most, c.requires.few);
  below = small c.args.number c.args.pad c.power-unit.result c.power.result c.requires.pad c.power-unit.ensures c.power.ensures;
}

pub loop-zeros-preserved : goal.loop-zeros-preserved
loop-zeros-preserved c =
    let z : c.loop-zeros.last ≡ 0 = omega (arith, c.if-last-ne0.false) in
    let was = ap (λ (x : ℕ). (c.loop-zeros.front * 10000 + x) * 10000 ^ c.loop-zeros.zeros) (sym z) ∙ c.loop-zeros.invariant.sum in
    record {
      sum = next_groups c.loop-zeros.front c.loop-zeros.zeros (c.args.number * 10 ^ c.args.pad) was;
      few = let most : c.loop-zeros.front / 10000 ≤ c.loop-zeros.front = div-le_self c.loop-zeros.front 10000 in omega (arith, most, c.loop-zeros.invariant.few);
      below = omega arith;
    }

pub returns : goal.returns
returns c =
    let eleven : c.loop-zeros.zeros ≡ 11 = omega (arith, c.loop-zeros-test.false, c.loop-zeros.auto.zeros-end) in
    let e = subst (λ (n : ℕ). (c.loop-zeros.front * 10000 + c.loop-zeros.last) * 10000 ^ n ≡ c.args.number * 10 ^ c.args.pad) eleven c.loop-zeros.invariant.sum in
    absurd (no_groups (c.loop-zeros.front * 10000 + c.loop-zeros.last) c.args.number c.args.pad c.requires.some c.requires.few c.requires.pad e)
