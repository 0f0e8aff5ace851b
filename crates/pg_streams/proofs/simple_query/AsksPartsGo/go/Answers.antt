use Rattle.pg_spec.specs.Frames.{query_frame}
use Rattle.pg_types.specs.Texts.{sql_text}
use Rattle.pg_streams.proofs.Collected.{asked}
use Rattle.pg_streams.proofs.simple_query.AsksPartsGo.go.Goals as goal

pub returns-clause-goes : goal.returns-clause-goes
returns-clause-goes c = asked (query_frame (sql_text c.args.self.text)) c.in_ok-request.request c.new.result _ (rw c.as_str.ensures at c.in_ok-request.ensures) c.new.ensures.columns c.new.ensures.parts c.ask.ensures.dialogue
