use Rattle.pg_diagnostics.proofs.Apart.{own_words}
use Rattle.pg_diagnostics.proofs.laws.causes_have_their_own_words.Goals as goal

pub returns : goal.returns
returns c = own_words
