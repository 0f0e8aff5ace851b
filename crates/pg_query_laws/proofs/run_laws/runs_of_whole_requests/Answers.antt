use Rattle.pg_session.specs.Speeches.{meaning_of}
use Rattle.pg_query_laws.proofs.OneRun.{answers-in-one-way, asked-in-one-way}
use Rattle.pg_query_laws.proofs.Whole.{speech-puts-none}
use Rattle.pg_query_laws.proofs.run_laws.runs_of_whole_requests.Goals as goal

pub returns : goal.returns
returns g c speech whole scripts turns answers others course other x y =
    (asked-in-one-way (meaning_of speech) (speech-puts-none speech whole) scripts turns answers others course other x y, answers-in-one-way (meaning_of speech) (speech-puts-none speech whole) scripts turns answers others course other x y)
