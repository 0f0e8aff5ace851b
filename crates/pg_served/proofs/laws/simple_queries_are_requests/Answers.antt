use Rattle.pg_served.proofs.Requests.{ask-queries, queries-asked}
use Rattle.pg_served.proofs.laws.simple_queries_are_requests.Goals as goal

pub returns : goal.returns
returns g c = λ service begins scripts turns report schedule ran. queries-asked service begins report.book (ask-queries scripts turns report schedule ran)
