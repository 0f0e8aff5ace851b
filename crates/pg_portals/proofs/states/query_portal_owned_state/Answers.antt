use mir.Syntax.{w32}
use mir.Val.{SFits, of_z, to_z}
use Rattle.std.proofs.Common.{◌∙◌, ℕ, ℤ, ap, rules}
use Rattle.std.proofs.lemmas.Int.{to_z-of_z}
use Rattle.pg_portals.specs.Portals.{query_portal}
use Rattle.pg_portals.proofs.Beginning.{query-clean}
use Rattle.pg_portals.proofs.states.query_portal_owned_state.Goals as goal

pub new-requires : goal.new-requires
new-requires c = query-clean c.args.portal (to_z w32 c.cast_unsigned.result)

pub returns-clause-asks : goal.returns-clause-asks
returns-clause-asks c =
    let fits : SFits w32 c.args.max_rows = search rules in
    c.new.ensures.place
    ∙ ap (λ (n : ℕ). query_portal c.args.portal (to_z w32 n)) c.cast_unsigned.ensures
    ∙ ap (λ (z : ℤ). query_portal c.args.portal (to_z w32 (of_z w32 z))) (to_z-of_z w32 c.args.max_rows fits)
    ∙ ap (λ (z : ℤ). query_portal c.args.portal z) (to_z-of_z w32 c.args.max_rows fits)
