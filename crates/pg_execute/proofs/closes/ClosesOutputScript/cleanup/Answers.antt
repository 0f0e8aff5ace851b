use Rattle.std.proofs.Common.{◌∙◌}
use Rattle.pg_execute.proofs.ClosedBehind.{closes-left}
use Rattle.pg_execute.proofs.closes.ClosesOutputScript.cleanup.Goals as goal

pub returns : goal.returns
returns g c h =
    c.in_ok-leave.ensures ∙ closes-left g.B.Script.dialogue g.B.Script.refuses g.B.Script.waits g.B.Script.steps c.args.self.now h c.in_ok-left.left.items c.in_ok-left.ensures
