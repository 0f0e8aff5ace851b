use Rattle.std.proofs.Common.{List, ℕ, Option, sym, ap, ◌∙◌}
use Rattle.std.specs.Prelude.{option_map}
use Rattle.pg_spec.specs.ClientFrames as spec
use Rattle.pg_server.specs.declared.binding.Given.{Given}
use Rattle.pg_server.proofs.BindLaws.{bound}
use Rattle.pg_server.proofs.binding.bind_parts.Goals as goal

-- the frame of what was read
abbrev made : List ℕ → List ℕ → Option Given → Option spec.ClientFrame
made portal statement read = option_map (λ (g : Given). spec.Bind portal statement g.formats g.values g.results) read

pub returns-in-Some-2 : goal.returns-in-Some-2
returns-in-Some-2 c =
    let portal : List ℕ = c.in-Some.portal.now in
    let statement : List ℕ = c.in-Some-text0.statement.now in
    bound c.args.body.now c.in-Some.rest.now c.in-Some-text0.rest.now portal statement _ c.in-Some.ensures c.in-Some-text0.ensures
    (sym (ap (made portal statement) c.in-Some-2.is) ∙ c.in_ok-given.ensures (spec.Bind portal statement))

pub returns-in-None : goal.returns-in-None
returns-in-None c =
    let portal : List ℕ = c.in-Some.portal.now in
    let statement : List ℕ = c.in-Some-text0.statement.now in
    bound c.args.body.now c.in-Some.rest.now c.in-Some-text0.rest.now portal statement _ c.in-Some.ensures c.in-Some-text0.ensures
    (sym (ap (made portal statement) c.in-None.is) ∙ c.in_ok-given.ensures (spec.Bind portal statement))
