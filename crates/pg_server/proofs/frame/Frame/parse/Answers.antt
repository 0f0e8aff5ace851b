use Rattle.pg_server.proofs.FrameLaws.{takes_frame, refuses_frame}
use Rattle.pg_server.proofs.frame.Frame.parse.Goals as goal

pub returns-in-Ok : goal.returns-in-Ok
returns-in-Ok c = takes_frame _ _ _ _ _ _ c.as_slice.ensures c.as_slice-2.ensures c.in-Whole.ensures c.in-Ok.ensures c.advance.ensures

pub returns-in-Err : goal.returns-in-Err
returns-in-Err c = refuses_frame _ _ _ _ _ c.as_slice.ensures c.as_slice-2.ensures c.in-Whole.ensures c.in-Err.ensures
