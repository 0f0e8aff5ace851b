use Rattle.std.proofs.Common.{sym, subst, ◌∙◌}
use Rattle.pg_query.specs.Commands.{place_at, IsLiveAt, IsReading}
use Rattle.pg_query.specs.declared.command.Stage.{Stage}
use Rattle.pg_query.proofs.Walking.{Came}
use Rattle.pg_query.proofs.command.Command.go_on.Goals as goal

pub go_on-requires : goal.go_on-requires
go_on-requires g c =
    let r = c.args.self.now.running in
    let reading : IsReading g.S.Script.dialogue g.S.Script.waits r = subst (λ (s : Stage). IsLiveAt g.S.Script.dialogue g.S.Script.waits r s) (sym c.replace.ensures.value ∙ c.in-Reads.is) c.requires in
    reading.reads

pub returns-in-New-clause-goes : goal.returns-in-New-clause-goes
returns-in-New-clause-goes g c =
    subst (λ (s : Stage). Came g.D.Desk.becomes g.S.Script.dialogue g.S.Script.waits c.args.stamp c.args.desk.now (place_at g.S.Script.dialogue c.args.self.now.running s) c.begin.new.desk c.begin.new.self c.begin.result)
    (sym (sym c.replace.ensures.value ∙ c.in-New.is)) c.begin.ensures

pub returns-in-Reads-clause-goes : goal.returns-in-Reads-clause-goes
returns-in-Reads-clause-goes g c =
    subst (λ (s : Stage). Came g.D.Desk.becomes g.S.Script.dialogue g.S.Script.waits c.args.stamp c.args.desk.now (place_at g.S.Script.dialogue c.args.self.now.running s) c.go_on.new.desk c.go_on.new.self c.go_on.result)
    (sym (sym c.replace.ensures.value ∙ c.in-Reads.is)) c.go_on.ensures

pub returns-in-Offers-clause-goes : goal.returns-in-Offers-clause-goes
returns-in-Offers-clause-goes g c =
    subst (λ (s : Stage). Came g.D.Desk.becomes g.S.Script.dialogue g.S.Script.waits c.args.stamp c.args.desk.now (place_at g.S.Script.dialogue c.args.self.now.running s) c.run.new.desk c.run.new.self c.run.result)
    (sym (sym c.replace.ensures.value ∙ c.in-Offers.is)) c.run.ensures
