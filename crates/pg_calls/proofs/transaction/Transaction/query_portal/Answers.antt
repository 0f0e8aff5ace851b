use mir.Syntax.{w32}
use mir.Val.{SFits}
use Rattle.std.proofs.Common.{◌∙◌, ℤ, ap, rules}
use Rattle.std.proofs.lemmas.Int.{to_z-of_z}
use Rattle.pg_query.specs.Made.{made}
use Rattle.pg_portals.specs.Portals.{query_portal}
use Rattle.pg_calls.specs.Answers.{rows_of}
use Rattle.pg_calls.proofs.transaction.Transaction.query_portal.Goals as goal

pub returns-clause-asks : goal.returns-clause-asks
returns-clause-asks c =
    let fits : SFits w32 c.args.max_rows = search rules in
    ap (λ p. p.dialogue) c.new.ensures.place
    ∙ ap (λ d. made rows_of d) (c.query_portal_state.ensures.asks ∙ ap (λ (z : ℤ). query_portal c.args.portal.now z) (to_z-of_z w32 c.args.max_rows fits))
