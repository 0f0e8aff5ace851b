use Rattle.pg_spec.specs.Frames.{query_frame}
use Rattle.pg_types.specs.Texts.{sql_text}
use Rattle.pg_streams.proofs.Collected.{text-clean}
use Rattle.pg_streams.proofs.simple_query.simple_query_state.Goals as goal

pub new-requires : goal.new-requires
new-requires c = text-clean (query_frame (sql_text c.args.text))
