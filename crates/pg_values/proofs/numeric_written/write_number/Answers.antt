use Rattle.std.proofs.Common.{◌≡◌, ◌<◌, ◌^◌, List, ℕ, ℤ, pos, true, false, unsigned_abs, FitsSigned, ap, refl, sym, ◌∙◌, subst, to_z, of_z}
use Rattle.std.specs.Int.{w128}
use Rattle.std.proofs.lemmas.Int.{to_z-of_z}
use Rattle.pg_values.specs.Groups.{head_bytes, IsSignOf, IsWrittenNumber}
use Rattle.pg_values.specs.Numerics.{SpellsNumeric}
use Rattle.pg_values.specs.declared.datum.Datum as d
use Rattle.pg_values.proofs.WriteLaws.{nothing}
use Rattle.pg_values.proofs.GroupLaws.{fills_as, zero_bytes, number_is, no_numeric}
use Rattle.pg_values.proofs.numeric_written.write_number.Goals as goal

-- the number, as the code takes it
same_abs : (z : ℤ) (n : ℕ) → FitsSigned w128 z → n ≡ unsigned_abs (to_z w128 (of_z w128 z)) → n ≡ unsigned_abs z
same_abs z n fits e = e ∙ ap unsigned_abs (to_z-of_z w128 z fits)

same_sign : (z : ℤ) (sign : ℕ) → FitsSigned w128 z → IsSignOf (to_z w128 (of_z w128 z)) sign → IsSignOf z sign
same_sign z sign fits is = subst (λ (y : ℤ). IsSignOf y sign) (to_z-of_z w128 z fits) is

pub returns-then-not-may_be : goal.returns-then-not-may_be
returns-then-not-may_be c =
    let same : c.unsigned_abs-number.result ≡ unsigned_abs c.args.unscaled = same_abs c.args.unscaled c.unsigned_abs-number.result c.ranges.unscaled c.unsigned_abs-number.ensures.value in
    (no_numeric c.args.unscaled c.args.scale (λ few small. absurd (cc (c.may_be.ensures.1 (few, subst (λ (n : ℕ). n < 10 ^ 38) (sym same) small), c.if-not-may_be.true))), nothing refl)

pub returns-then-number-eq0 : goal.returns-then-number-eq0
returns-then-number-eq0 c =
    let fit = c.may_be.ensures.0 c.if-not-may_be.false in
    let same : c.unsigned_abs-number.result ≡ unsigned_abs c.args.unscaled = same_abs c.args.unscaled c.unsigned_abs-number.result c.ranges.unscaled c.unsigned_abs-number.ensures.value in
    let none : unsigned_abs c.args.unscaled ≡ 0 = sym same ∙ c.if-number-eq0.true in
    fills_as (λ (b : List ℕ). b ≡ head_bytes 0 (pos 0) 0 c.args.scale) (SpellsNumeric true (d.Numeric c.args.unscaled c.args.scale)) (SpellsNumeric false (d.Numeric c.args.unscaled c.args.scale))
    c.args.out.now.items c.put_head.new.out.items c.put_head.result
    (λ b e. zero_bytes c.args.unscaled c.args.scale b none fit.0 e) c.put_head.ensures

pub returns : goal.returns
returns c =
    let fit = c.may_be.ensures.0 c.if-not-may_be.false in
    let sign : ℕ = c.sign_of.result in
    let same : c.unsigned_abs-number.result ≡ unsigned_abs c.args.unscaled = same_abs c.args.unscaled c.unsigned_abs-number.result c.ranges.unscaled c.unsigned_abs-number.ensures.value in
    let small : unsigned_abs c.args.unscaled < 10 ^ 38 = subst (λ (n : ℕ). n < 10 ^ 38) same fit.1 in
    fills_as (IsWrittenNumber c.unsigned_abs-number.result sign c.args.scale) (SpellsNumeric true (d.Numeric c.args.unscaled c.args.scale)) (SpellsNumeric false (d.Numeric c.args.unscaled c.args.scale))
    c.args.out.now.items c.put_number.new.out.items c.put_number.result
    (λ b is. number_is c.args.unscaled sign c.args.scale b (λ none. c.if-number-eq0.false (same ∙ none)) (same_sign c.args.unscaled sign c.ranges.unscaled c.sign_of.ensures) fit.0 small (subst (λ (n : ℕ). IsWrittenNumber n sign c.args.scale b) same is))
    c.put_number.ensures
