use Rattle.std.proofs.Common.{List, ◌∙◌, ap}
use Rattle.pg_types.specs.declared.pg_type.PgType.{PgType}
use Rattle.pg_query.specs.Dialogue.{Dialogue}
use Rattle.pg_query.specs.Scripts.{cleanup_of}
use Rattle.pg_streams.proofs.Streams.{finds-clean}
use Rattle.pg_streams.proofs.finding.FindState.new.Goals as goal

pub new-requires : goal.new-requires
new-requires c = ap (λ (d : Dialogue (List PgType)). cleanup_of d) c.in_ok-search.ensures ∙ finds-clean c.args.oids.items
