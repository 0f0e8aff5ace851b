use Rattle.pg_query.specs.Meaning.{meaning_at}
use Rattle.pg_query.specs.declared.script.Want.TheVariants.{Act}
use Rattle.pg_query.proofs.Stopping.{stopped-did}
use Rattle.pg_query.proofs.running.Running.act.Goals as goal

pub returns-in-Ask-clause-goes : goal.returns-in-Ask-clause-goes
returns-in-Ask-clause-goes g c =
    let d = g.S.Script.dialogue in
    let refuses = g.S.Script.refuses in
    stopped-did g.D.Desk.becomes d refuses c.args.stamp c.args.desk.now (meaning_at d refuses c.args.self.now (Act c.args.action)) c.ask.new.desk c.ask.new.self
    c.ask.result c.stopped.result c.stopped.ensures (rw c.in-Ask.is c.ask.ensures.goes)

pub returns-in-Send-clause-goes : goal.returns-in-Send-clause-goes
returns-in-Send-clause-goes g c =
    let d = g.S.Script.dialogue in
    let refuses = g.S.Script.refuses in
    stopped-did g.D.Desk.becomes d refuses c.args.stamp c.args.desk.now (meaning_at d refuses c.args.self.now (Act c.args.action)) c.send.new.desk c.send.new.self
    c.send.result c.stopped-in-Send.result c.stopped-in-Send.ensures (rw c.in-Send.is c.send.ensures.goes)

pub returns-in-Finish-clause-goes : goal.returns-in-Finish-clause-goes
returns-in-Finish-clause-goes g c =
    let d = g.S.Script.dialogue in
    let refuses = g.S.Script.refuses in
    stopped-did g.D.Desk.becomes d refuses c.args.stamp c.args.desk.now (meaning_at d refuses c.args.self.now (Act c.args.action)) c.finish.new.desk c.finish.new.self
    c.finish.result c.stopped-in-Finish.result c.stopped-in-Finish.ensures (rw c.in-Finish.is c.finish.ensures.goes)

pub returns-in-Close-clause-goes : goal.returns-in-Close-clause-goes
returns-in-Close-clause-goes g c =
    let d = g.S.Script.dialogue in
    let refuses = g.S.Script.refuses in
    stopped-did g.D.Desk.becomes d refuses c.args.stamp c.args.desk.now (meaning_at d refuses c.args.self.now (Act c.args.action)) c.close.new.desk c.close.new.self
    c.close.result c.stopped-in-Close.result c.stopped-in-Close.ensures (rw c.in-Close.is c.close.ensures.goes)

pub returns-in-HangUp-clause-goes : goal.returns-in-HangUp-clause-goes
returns-in-HangUp-clause-goes g c =
    let d = g.S.Script.dialogue in
    let refuses = g.S.Script.refuses in
    stopped-did g.D.Desk.becomes d refuses c.args.stamp c.args.desk.now (meaning_at d refuses c.args.self.now (Act c.args.action)) c.hang_up_own.new.desk c.hang_up_own.new.self
    c.hang_up_own.result c.stopped-in-HangUp.result c.stopped-in-HangUp.ensures (rw c.in-HangUp.is c.hang_up_own.ensures.goes)

pub returns-in-Call-clause-goes : goal.returns-in-Call-clause-goes
returns-in-Call-clause-goes g c =
    let d = g.S.Script.dialogue in
    let refuses = g.S.Script.refuses in
    stopped-did g.D.Desk.becomes d refuses c.args.stamp c.args.desk.now (meaning_at d refuses c.args.self.now (Act c.args.action)) c.call.new.desk c.call.new.self
    c.call.result c.stopped-in-Call.result c.stopped-in-Call.ensures (rw c.in-Call.is c.call.ensures.goes)
