use Rattle.pg_tool.proofs.Playing.{gave_front, played_over}
use Rattle.pg_tool.proofs.program.play_own.Goals as goal

pub returns : goal.returns
returns c =
    played_over c.as_str.result.now c.as_slice-2.result.now c.as_slice.result.now c.args.session c.run_session.new.link c.run_session.result
    c.requires.new c.as_str.ensures c.as_slice-2.ensures c.as_slice.ensures c.run_session.ensures.by_table c.run_session.ensures.played
    (gave_front c.link.inside c.run_session.new.link c.link.view_is)
