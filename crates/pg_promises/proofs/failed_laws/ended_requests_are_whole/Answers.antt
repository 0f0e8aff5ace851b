use Rattle.pg_promises.proofs.Begun.{ended-whole}
use Rattle.pg_promises.proofs.failed_laws.ended_requests_are_whole.Goals as goal

pub returns : goal.returns
returns c begun all ended h = ended-whole begun all ended h
