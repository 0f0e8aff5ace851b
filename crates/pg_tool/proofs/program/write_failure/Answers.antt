use Rattle.pg_spec.specs.ReportText.{error_text}
use Rattle.pg_tool.proofs.Telling.{answered_failed}
use Rattle.pg_tool.proofs.program.write_failure.Goals as goal

pub returns-in_default : goal.returns-in_default
returns-in_default g c =
    answered_failed (g.K.Sink.state c.args.sink.now) (g.K.Sink.state c.write_text.new.sink) c.write_text.result c.args.error.now c.in_default.not-OutOfMemory
    (c.write_text.ensures (error_text c.args.error.now) c.error_text.ensures)
