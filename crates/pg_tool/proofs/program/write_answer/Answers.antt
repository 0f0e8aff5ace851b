use Rattle.pg_text.specs.ReportText.{report_text}
use Rattle.pg_tool.proofs.Telling.{answered_ok}
use Rattle.pg_tool.proofs.program.write_answer.Goals as goal

pub returns-in-Ok : goal.returns-in-Ok
returns-in-Ok g c =
    let report = c.in-Ok.report in
    rw c.in-Ok.is (answered_ok (g.K.Sink.state c.args.sink.now) (g.K.Sink.state c.write_text.new.sink) c.write_text.result report
    (c.write_text.ensures (report_text report) c.report_text.ensures))
