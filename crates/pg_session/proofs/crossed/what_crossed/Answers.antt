use Rattle.pg_session.specs.Crossed.{session_of, Sent, Crossed}
use Rattle.pg_session.proofs.Crossing.End.{finished, of-bytes, was-sent}
use Rattle.pg_session.proofs.Crossing.All.{all-crossed}
use Rattle.pg_session.proofs.crossed.what_crossed.Goals as goal

pub returns-clause-sent : goal.returns-clause-sent
returns-clause-sent g c speech settings nonce scripts given before after report p =
    of-bytes before after (λ g t. Sent (session_of settings nonce scripts given report g) t)
    (λ g t e d. was-sent speech settings nonce scripts given before after report p
    (finished speech settings nonce scripts given before after report p) g t e d)

pub returns-clause-crossed : goal.returns-clause-crossed
returns-clause-crossed g c speech settings nonce scripts given before after report p =
    of-bytes before after (λ g t. Crossed (session_of settings nonce scripts given report g) t)
    (λ g t e d. all-crossed speech settings nonce scripts given before after report p g t e d)
