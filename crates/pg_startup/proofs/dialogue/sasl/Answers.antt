use Rattle.std.proofs.Common.{Err, sym, subst}
use Rattle.pg_types.specs.declared.error.Error.{Error}
use Rattle.pg_spec.specs.Bodies.{mechanisms_of}
use Rattle.pg_spec.specs.Startup.{with_password, starts_sasl}
use Rattle.pg_startup.specs.Stages.{login_of}
use Rattle.pg_startup.specs.Steps.{IsMove}
use Rattle.pg_startup.proofs.Moves.{offer-used, offer-refused}
use Rattle.pg_startup.proofs.dialogue.sasl.Goals as goal

pub returns-in-Ok : goal.returns-in-Ok
returns-in-Ok c =
    offer-used (login_of c.args.login.now) c.in-Some.password.now c.args.body.now.mechanisms c.in-Ok.plus c.in-Ok.plain c.choose.result (sym c.in-Some.ensures) c.in-Ok.ensures c.choose.ensures

pub returns-in-Err : goal.returns-in-Err
returns-in-Err c =
    let l = login_of c.args.login.now in
    subst (λ (e : Error). IsMove l (with_password l.settings (λ p. starts_sasl l p (mechanisms_of c.args.body.now.mechanisms))) (Err e)) (sym c.unreadable.ensures)
    (offer-refused l c.in-Some.password.now c.args.body.now.mechanisms c.in-Err.fault (sym c.in-Some.ensures) c.in-Err.ensures)
