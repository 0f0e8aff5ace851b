use Rattle.std.proofs.Common.{◌≡◌, ℕ, ◌^◌, ◌<◌, List, length, arith, ap, sym, ◌∙◌}
use Rattle.pg_values.proofs.DigitLaws.{ReadForm, told_form, digits_same}
use Rattle.pg_values.proofs.numeric.read_form.Goals as goal
use Rattle.pg_values.proofs.numeric.read_form.Goals.{then-count-ge32768-via-then-count-ge32768, then-count-ge32768-via-else-count-ge32768+then-as_slice-count}

pub returns-then-count-ge32768 : goal.returns-then-count-ge32768
returns-then-count-ge32768 c = λ form is.
    let so : ReadForm c.in-Some.count c.in-Some-short.weight c.in-Some-half.sign c.in-Some-half-2.scale c.args.raw.now c.in-Some.rest.now c.in-Some-short.rest.now c.in-Some-half.rest.now c.in-Some-half-2.rest.now = record {
      count_fits = c.in-Some.ensures.0;
      weight_fits = c.in-Some-short.ensures.0;
      sign_fits = c.in-Some-half.ensures.0;
      scale_fits = c.in-Some-half-2.ensures.0;
      count_is = c.in-Some.ensures.1;
      weight_is = c.in-Some-short.ensures.1;
      sign_is = c.in-Some-half.ensures.1;
      scale_is = c.in-Some-half-2.ensures.1;
    } in
    let told = told_form c.in-Some.count c.in-Some-short.weight c.in-Some-half.sign c.in-Some-half-2.scale c.args.raw.now c.in-Some.rest.now c.in-Some-short.rest.now c.in-Some-half.rest.now c.in-Some-half-2.rest.now so form.sign form.scale form.weight form.digits is in
    let same : form.digits ≡ c.in_ok-digits.digits = digits_same form.digits c.in_ok-digits.digits c.in-Some-half-2.rest.now told.are c.in_ok-digits.ensures in
    let count : length form.digits ≡ c.in-Some.count = told.count_is in
    let also : length form.digits ≡ length c.in_ok-digits.digits = ap length same in
    let few : length form.digits < 2 ^ 15 = is.few in
    elim c.then-count-ge32768.branch [
      | then-count-ge32768-via-then-count-ge32768 w ↦ omega (arith, count, few, w.if-count-ge32768.true)
      | then-count-ge32768-via-else-count-ge32768+then-as_slice-count w ↦ w.if-as_slice-count.true (ap (λ (l : List ℕ). length l) w.as_slice.ensures ∙ sym also ∙ count)
    ]
