use Rattle.std.proofs.Common.{Ok, Err, sym}
use Rattle.std.proofs.lemmas.Result.{err_from_is_err_and}
use Rattle.pg_spec.specs.Startup as startups
use Rattle.pg_types.specs.declared.cause.Cause.TheVariants as cause
use Rattle.pg_types.specs.declared.error.Error.TheVariants as error
use Rattle.pg_startup.specs.declared.phase.Phase.TheVariants as phase
use Rattle.pg_startup.specs.declared.phase.Step.TheVariants as step
use Rattle.pg_startup.specs.Stages.{login_of}
use Rattle.pg_startup.proofs.Moves.{skipped, none-given, some-given, made-sends, made-refuses}
use Rattle.pg_startup.proofs.dialogue.digest.Goals as goal

pub returns-in_default : goal.returns-in_default
returns-in_default c =
    let l = login_of c.args.login.now in
    skipped l _ (Err (error.Config cause.NoPassword)) c.may_skip.result c.may_skip.ensures c.if-not-may_skip.false (none-given l _ (sym c.in_default.ensures))

pub returns : goal.returns
returns c =
    let l = login_of c.args.login.now in
    let frame = c.in_ok-frame.frame in
    skipped l _ (Ok (step.Sends frame phase.Accepted)) c.may_skip.result c.may_skip.ensures c.if-not-may_skip.false
    (some-given l _ c.in-Some.password.now (Ok (step.Sends frame phase.Accepted)) (sym c.in-Some.ensures) (made-sends _ frame.items startups.Accepted c.in_ok-frame.ensures, tt))

pub returns-in_err-frame : goal.returns-in_err-frame
returns-in_err-frame c =
    let l = login_of c.args.login.now in
    let e = c.in_err-frame.field-0.0 in
    let p = err_from_is_err_and c.from_residual.result c.from_residual.ensures.1 in
    rw (p.1, p.2) (skipped l _ (Err e) c.may_skip.result c.may_skip.ensures c.if-not-may_skip.false
    (some-given l _ c.in-Some.password.now (Err e) (sym c.in-Some.ensures) (made-refuses l _ e startups.Accepted c.in_err-frame.ensures)))
