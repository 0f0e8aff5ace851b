use Rattle.pg_session.proofs.LivesLink.{came-behind}
use Rattle.pg_session.proofs.lives.what_came.Goals as goal

pub returns : goal.returns
returns g c speech settings nonce scripts given before after report p = came-behind speech settings nonce scripts given before after report p
