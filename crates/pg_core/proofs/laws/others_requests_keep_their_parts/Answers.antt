use Rattle.pg_core.proofs.Extended.{others-parts}
use Rattle.pg_core.proofs.laws.others_requests_keep_their_parts.Goals as goal

pub returns : goal.returns
returns c who added book none = others-parts added book who.handle who.command none
