-- What a session asks of the dialogue of a command.
use Rattle.pg_query.specs.Dialogue.{Dialogue}
use Rattle.pg_query.specs.Leaving.{LetsGo, Nothing}
use Rattle.pg_core.specs.Times.{IsCommand}
use Rattle.pg_session.specs.Speeches.{BooksWhole}

-- A session takes a command of this dialogue: it runs as a command does, leaves no request open, and books whole requests.
pub record IsTaken {T : Type 0} (d : Dialogue T) : Type 0 where
  -- its readings decide by the ReadyForQuery, and it hangs up and reads as the laws on sessions ask
  pub command : IsCommand d
  -- each request is let go
  pub lets_go : LetsGo Nothing d
  -- the last frame of each request alone gives the server the turn
  pub whole : BooksWhole d
