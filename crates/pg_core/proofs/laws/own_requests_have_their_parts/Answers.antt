use Rattle.pg_core.proofs.Extended.{holds-on}
use Rattle.pg_core.proofs.laws.own_requests_have_their_parts.Goals as goal

pub returns : goal.returns
returns g c who d m before book numbered h = holds-on who d m before book numbered h
