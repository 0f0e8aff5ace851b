use Rattle.pg_session.proofs.SentSoFar.TurnsAsked.{few-turns}
use Rattle.pg_session.proofs.turns_given.what_was_sent_gives_few_turns.Goals as goal

pub returns-clause-units : goal.returns-clause-units
returns-clause-units g c speech whole call settings given taken plain h = (few-turns speech whole call settings given taken plain h).units

pub returns-clause-whole : goal.returns-clause-whole
returns-clause-whole g c speech whole call settings given taken plain h = (few-turns speech whole call settings given taken plain h).whole
