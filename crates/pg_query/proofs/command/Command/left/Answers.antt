use Rattle.std.proofs.Common.{sym, ◌∙◌}
use Rattle.pg_query.proofs.Polling.{left-new, left-reading, left-offered}
use Rattle.pg_query.proofs.command.Command.left.Goals as goal

pub returns-in-New-clause-left : goal.returns-in-New-clause-left
returns-in-New-clause-left g c = c.new.ensures.items ∙ left-new g.S.Script.dialogue g.S.Script.waits c.args.self.now.running c.args.self.now.stage (sym c.replace.ensures.value ∙ c.in-New.is) c.requires

pub returns-in-Ok-clause-left : goal.returns-in-Ok-clause-left
returns-in-Ok-clause-left g c = left-reading g.S.Script.dialogue g.S.Script.waits c.args.self.now.running c.args.self.now.stage (sym c.replace.ensures.value ∙ c.in-Reads.is) c.requires c.in-Ok.left.items c.in-Ok.ensures

pub returns-in-Offers-clause-left : goal.returns-in-Offers-clause-left
returns-in-Offers-clause-left g c = left-offered g.S.Script.dialogue g.S.Script.waits c.args.self.now.running c.args.self.now.stage c.in-Offers.offer (sym c.replace.ensures.value ∙ c.in-Offers.is)
