use Rattle.std.proofs.Common.{◌≡◌, ◌<◌, ℕ, List, length, Option, Result, Err, refl, sym, subst, arith}
use Rattle.pg_types.specs.declared.error.Error.{Error}
use Rattle.pg_execute.specs.GivenValues.{Adds, AreGiven}
use Rattle.pg_execute.specs.Parameters.{Params, or_to_sql, params}
use Rattle.pg_execute.proofs.Giving.{as-many, more-given, none-given}
use Rattle.pg_execute.proofs.given_values.given_values.Goals as goal

pub returns-in-Err : goal.returns-in-Err
returns-in-Err g c =
    let far = c.loop-ty.invariant in
    let vs : Params = params (g.P.Params.count c.args.values.now) (g.P.Params.gives_at c.args.values.now) in
    let place : ℕ = length c.loop-ty.given.formats.items in
    let wanted : Result (Option (List ℕ)) Error = or_to_sql place (vs.gives_at place c.ty-item.result) in
    let some : place < vs.count = omega (arith, c.if-len.false, c.len.ensures, c.len-in-loop-ty.ensures) in
    subst (λ told. AreGiven told (Err c.in-Err.error))
    (sym (none-given far.0 c.args.types.now c.loop-ty.ty-index place c.ty-item.result vs wanted c.add.new.self c.in-Err.error far.3 (as-many far.0 c.loop-ty.given far.1) (omega arith) c.ty-item.is some refl
    (subst (λ told. Adds far.0 wanted told c.add.new.self) c.in-Err.is (c.in_ok-add.ensures far.0 far.1)))) refl

pub loop-ty-preserved : goal.loop-ty-preserved
loop-ty-preserved g c =
    let far = c.loop-ty.invariant in
    let vs : Params = params (g.P.Params.count c.args.values.now) (g.P.Params.gives_at c.args.values.now) in
    let place : ℕ = length c.loop-ty.given.formats.items in
    let wanted : Result (Option (List ℕ)) Error = or_to_sql place (vs.gives_at place c.ty-item.result) in
    let some : place < vs.count = omega (arith, c.if-len.false, c.len.ensures, c.len-in-loop-ty.ensures) in
    more-given far.0 c.args.types.now c.loop-ty.ty-index place c.ty-item.result vs wanted c.loop-ty.given c.add.new.self c.in-Ok.field-0 far.3 far.2 (as-many far.0 c.loop-ty.given far.1) (omega arith) c.ty-item.is some refl
    (subst (λ told. Adds far.0 wanted told c.add.new.self) c.in-Ok.is (c.in_ok-add.ensures far.0 far.1))
