use Rattle.pg_scram.proofs.Base64Laws.{read_back}
use Rattle.pg_scram.proofs.laws.base64_is_read_back.Goals as goal

pub returns : goal.returns
returns c = read_back
