use Rattle.std.proofs.Common.{◌≡◌, ◌<◌, List, arith, subst, ap, Option, None, Some, Bool, true, not, is_some, MatchOption}
use Rattle.std.proofs.lemmas.Result.{err_from_is_err_and}
use Rattle.pg_values.specs.declared.datum.Dim.{Dim}
use Rattle.pg_values.specs.Spelling.{StandsInFront, AreDims, count_of}
use Rattle.pg_values.proofs.ReadLaws.{handed_on}
use Rattle.pg_values.proofs.ArrayLaws.{ReadSoFar, told, same_dims}
use Rattle.pg_values.proofs.arrays.read_front.Goals as goal

at_none : {A : Type 0} (r : Option A) (b : Bool) (P : Type 0) (Q : A → Type 0) → is_some r ≡ not b → b ≡ true → MatchOption r P Q → P
at_none None b P Q e is p = p
at_none (Some x) b P Q e is p = absurd cc

pub returns-in_err-dims : goal.returns-in_err-dims
returns-in_err-dims c =
    let p = err_from_is_err_and c.from_residual.result c.from_residual.ensures.1 in
    let so : ReadSoFar c.args.element c.in-Some.len c.in-Some-word.flag c.in-Some-word-2.oid c.args.raw.now c.in-Some.rest.now c.in-Some-word.rest.now c.in-Some-word-2.rest.now = record {
      len_is = c.in-Some.ensures.1;
      flag_is = c.in-Some-word.ensures.1;
      oid_is = c.in-Some-word-2.ensures.1;
      len_fits = omega arith;
      flag_fits = omega arith;
      oid_fits = omega arith;
      element_fits = omega arith;
    } in
    rw (p.1, p.2) (handed_on (λ (dims : List Dim). AreDims c.in-Some.len dims c.in-Some-word-2.rest.now)
    (λ (dims : List Dim). StandsInFront c.args.element dims c.args.raw.now) c.in_err-dims.field-0.0 c.in_err-dims.ensures
    (λ dims is. (dims, (told c.args.element c.in-Some.len c.in-Some-word.flag c.in-Some-word-2.oid c.args.raw.now c.in-Some.rest.now c.in-Some-word.rest.now c.in-Some-word-2.rest.now so dims is).dims_are)))

pub returns-then-is_none : goal.returns-then-is_none
returns-then-is_none c =
    let so : ReadSoFar c.args.element c.in-Some.len c.in-Some-word.flag c.in-Some-word-2.oid c.args.raw.now c.in-Some.rest.now c.in-Some-word.rest.now c.in-Some-word-2.rest.now = record {
      len_is = c.in-Some.ensures.1;
      flag_is = c.in-Some-word.ensures.1;
      oid_is = c.in-Some-word-2.ensures.1;
      len_fits = omega arith;
      flag_fits = omega arith;
      oid_fits = omega arith;
      element_fits = omega arith;
    } in
    λ dims is.
    let are = (told c.args.element c.in-Some.len c.in-Some-word.flag c.in-Some-word-2.oid c.args.raw.now c.in-Some.rest.now c.in-Some-word.rest.now c.in-Some-word-2.rest.now so dims is).dims_are in
    let e = same_dims c.in-Some.len c.in_ok-dims.dims dims c.in-Some-word-2.rest.now c.in_ok-dims.ensures are in
    let many : 16777216 < count_of c.in_ok-dims.dims = subst (λ (l : List Dim). 16777216 < count_of l) c.as_slice.ensures (at_none _ _ _ _ c.is_none.ensures c.if-is_none.true c.count_of.ensures) in
    omega (arith, is.front.small, ap count_of e, many)
