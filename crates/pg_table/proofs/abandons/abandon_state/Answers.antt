use Rattle.pg_spec.specs.Frames.{query_frame}
use Rattle.pg_core.specs.Composing.{or_encode}
use Rattle.pg_states.proofs.Beginning.{sends-clean}
use Rattle.pg_table.proofs.abandons.abandon_state.Goals as goal

pub new-requires : goal.new-requires
new-requires c = sends-clean (or_encode (query_frame c.args.text))
