use Rattle.pg_core.proofs.Begun.{begun-whole}
use Rattle.pg_core.proofs.laws.requests_without_copies_are_whole.Goals as goal

pub returns : goal.returns
returns c copies begun all none h = begun-whole copies begun all none h
