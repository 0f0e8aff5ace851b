use Rattle.pg_tool.proofs.program.play_session.Goals as goal

pub returns-clause-played : goal.returns-clause-played
returns-clause-played g c = record { answered = c.write_answer-status.ensures; played = c.play_own-result.ensures }
