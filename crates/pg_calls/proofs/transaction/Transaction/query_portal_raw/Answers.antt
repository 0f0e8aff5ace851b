use mir.Syntax.{w32}
use mir.Val.{SFits}
use Rattle.std.proofs.Common.{◌∙◌, ℤ, ap, rules}
use Rattle.std.proofs.lemmas.Int.{to_z-of_z}
use Rattle.pg_streams.specs.PortalStreams.{query_portal_raw}
use Rattle.pg_calls.proofs.transaction.Transaction.query_portal_raw.Goals as goal

pub returns-clause-asks : goal.returns-clause-asks
returns-clause-asks c =
    let fits : SFits w32 c.args.max_rows = search rules in
    c.new.ensures.asks ∙ ap (λ (z : ℤ). query_portal_raw c.args.portal.now z) (to_z-of_z w32 c.args.max_rows fits)
