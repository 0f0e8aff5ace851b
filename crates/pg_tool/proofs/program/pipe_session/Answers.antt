use Rattle.pg_tool.proofs.Playing.{piped_over}
use Rattle.pg_tool.proofs.program.pipe_session.Goals as goal

pub returns-clause-played : goal.returns-clause-played
returns-clause-played g c = record {
  answered = c.write_answer-status.ensures;
  played = piped_over c.as_str.result.now c.as_slice-2.result.now c.as_slice.result.now c.args.session (g.L.Link.view c.args.link.now) (g.L.Link.view c.run_session-result.new.link) c.run_session-result.result
      c.as_str.ensures c.as_slice-2.ensures c.as_slice.ensures c.run_session-result.ensures.by_table c.run_session-result.ensures.played;
}
