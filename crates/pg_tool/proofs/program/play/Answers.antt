use Rattle.pg_text.specs.Sessions.{session_of}
use Rattle.pg_tool.proofs.Limits.{limit_within}
use Rattle.pg_tool.proofs.Telling.{line_refused}
use Rattle.pg_tool.proofs.program.play.Goals as goal

pub play_session-requires-clause-limit : goal.play_session-requires-clause-limit
play_session-requires-clause-limit g c = limit_within c.args.text.items (session_of c.in-Ok.session) c.in-Ok.ensures.text.0

pub pipe_session-requires : goal.pipe_session-requires
pipe_session-requires g c = record { limit = limit_within c.args.text.items (session_of c.in-Ok.session) c.in-Ok.ensures.text.0 }

pub returns-in-Err-Line-clause-played : goal.returns-in-Err-Line-clause-played
returns-in-Err-Line-clause-played g c =
    let at = rw c.in-Err-Line.field-0-is at c.in-Err-Line.ensures.text in
    rw c.refuse_line.ensures.none
    (line_refused c.args.text.items (g.K.Sink.state c.args.sink.now) (g.K.Sink.state c.refuse_line.new.sink) c.in-Err-Line.number c.refuse_line.result.status at (rw c.in-Err-Line.field-0-is at c.refuse_line.ensures.status))
