use Rattle.pg_server.proofs.FrameLaws.{is_whole_frame}
use Rattle.pg_server.proofs.frame.whole_frame.Goals as goal

pub returns : goal.returns
returns c = is_whole_frame c.args.bytes.now c.args.n c.frame_of.result c.requires c.frame_of.ensures
