use Rattle.pg_startup.specs.declared.phase.Phase.TheVariants as phase
use Rattle.pg_startup.specs.Stages.{login_of, phase_of}
use Rattle.pg_startup.proofs.Moves.{error-ends, challenged, proved, in-phase}
use Rattle.pg_startup.proofs.dialogue.hear.Goals as goal

pub returns-in-AuthenticationSaslContinue : goal.returns-in-AuthenticationSaslContinue
returns-in-AuthenticationSaslContinue c =
    let l = login_of c.args.login.now in
    challenged l c.args.phase c.in-Continue.scram c.args.message.now c.in-AuthenticationSaslContinue.body c.data.result.now c.answer.result c.in-Continue.is c.in-AuthenticationSaslContinue.is c.data.ensures
    c.requires.holds (c.answer.ensures l)

pub returns-in-ErrorResponse : goal.returns-in-ErrorResponse
returns-in-ErrorResponse c =
    let l = login_of c.args.login.now in
    error-ends l (phase_of c.args.phase) c.args.message.now c.in-ErrorResponse.body c.server_error.result c.in-ErrorResponse.is (c.server_error.ensures l)

pub returns-in-AuthenticationSaslFinal : goal.returns-in-AuthenticationSaslFinal
returns-in-AuthenticationSaslFinal c =
    let l = login_of c.args.login.now in
    proved l c.args.phase c.in-Final.scram c.args.message.now c.in-AuthenticationSaslFinal.body c.data-in-AuthenticationSaslFinal.result.now c.verdict.result c.in-Final.is c.in-AuthenticationSaslFinal.is c.data-in-AuthenticationSaslFinal.ensures
    (c.verdict.ensures l)

pub returns-in-ErrorResponse-message : goal.returns-in-ErrorResponse-message
returns-in-ErrorResponse-message c =
    let l = login_of c.args.login.now in
    error-ends l (phase_of c.args.phase) c.args.message.now c.in-ErrorResponse-message.body c.server_error-in-ErrorResponse-message.result c.in-ErrorResponse-message.is (c.server_error-in-ErrorResponse-message.ensures l)

pub returns-in-ErrorResponse-message-2 : goal.returns-in-ErrorResponse-message-2
returns-in-ErrorResponse-message-2 c =
    let l = login_of c.args.login.now in
    error-ends l (phase_of c.args.phase) c.args.message.now c.in-ErrorResponse-message-2.body c.server_error-in-ErrorResponse-message-2.result c.in-ErrorResponse-message-2.is (c.server_error-in-ErrorResponse-message-2.ensures l)

pub returns-in-Info : goal.returns-in-Info
returns-in-Info c =
    let l = login_of c.args.login.now in
    in-phase l c.args.phase phase.Info c.args.message.now c.info.result c.in-Info.is (c.info.ensures l)
