use Rattle.pg_spec.specs.Startup as startups
use Rattle.pg_startup.specs.Stages.{login_of}
use Rattle.pg_startup.proofs.Moves.{error-ends, digest-asked}
use Rattle.pg_startup.proofs.dialogue.first.Goals as goal

pub returns-in-AuthenticationMd5Password : goal.returns-in-AuthenticationMd5Password
returns-in-AuthenticationMd5Password c =
    digest-asked (login_of c.args.login.now) c.args.message.now c.in-AuthenticationMd5Password.body c.salt.result c.digest.result c.in-AuthenticationMd5Password.is c.salt.ensures c.digest.ensures

pub returns-in-ErrorResponse : goal.returns-in-ErrorResponse
returns-in-ErrorResponse c =
    let l = login_of c.args.login.now in
    error-ends l startups.First c.args.message.now c.in-ErrorResponse.body c.server_error.result c.in-ErrorResponse.is (c.server_error.ensures l)
