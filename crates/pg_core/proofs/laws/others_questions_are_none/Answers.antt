use Rattle.pg_core.proofs.Owned.{others-questions}
use Rattle.pg_core.proofs.laws.others_questions_are_none.Goals as goal

pub returns : goal.returns
returns c tells who other turn before asked qs apart h = others-questions tells who other turn before asked qs apart h
