use Rattle.std.proofs.Common.{refl, ap, ◌∙◌, map, string_bytes}
use Rattle.pg_connect.specs.Kept.{keep}
use Rattle.pg_connect.specs.contracts.parameters.Parameters.{the_invariant}
use Rattle.pg_connect.proofs.Keeping.{map-insert_entry, rises}
use Rattle.pg_connect.proofs.parameters.Parameters.keep.Goals.{After-insert}
use Rattle.pg_connect.proofs.parameters.Parameters.keep.Goals as goal

pub returns : goal.returns
returns c =
    ap (map (λ e. (string_bytes e.0, string_bytes e.1))) c.in_ok-insert.ensures.entries
    ∙ map-insert_entry _ string_bytes string_bytes (λ a b. refl) _ c.args.name c.args.value
    ∙ ap (λ pairs. keep pairs (string_bytes c.args.name, string_bytes c.args.value)) c.self.view_is

-- the names rise still, inserted or not
rise : (c : After-insert) → the_invariant (record { last = c.insert.new.self })
rise c =
    rises _ string_bytes string_bytes (λ a b. refl) c.insert.result c.insert.new.self.entries c.self.inside.last.entries c.args.name c.args.value c.insert.ensures.entries c.insert.ensures.err
    c.self.invariant

pub invariant_of-self : goal.invariant_of-self
invariant_of-self c = rise (goal.at.invariant_of-self c).After-insert

pub invariant_of-self-2 : goal.invariant_of-self-2
invariant_of-self-2 c = rise (goal.at.invariant_of-self-2 c).After-insert
