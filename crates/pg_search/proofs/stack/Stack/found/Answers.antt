use Rattle.std.proofs.Common.{◌≡◌, ◌∙◌, ◌∷◌, ◌++◌, [], List, IfOk, refl, arith, sym, ap, subst}
use Rattle.pg_types.specs.declared.pg_type.PgType.{PgType}
use Rattle.pg_types.specs.declared.pg_type.Kind.{Kind}
use Rattle.pg_types.specs.declared.pg_type.Field.{Field}
use Rattle.pg_query.specs.Dialogue.{Dialogue}
use Rattle.pg_core.specs.Lookups.{wraps}
use Rattle.pg_search.specs.declared.frame.Frame.{Frame}
use Rattle.pg_search.specs.declared.stack.Stack.{Stack}
use Rattle.pg_search.specs.Sorts.{wrap_of}
use Rattle.pg_search.specs.Stacks.{turn_dialogue}
use Rattle.pg_search.specs.Steps.{turn_steps}
use Rattle.pg_search.proofs.Popping.{nothing-popped}
use Rattle.pg_search.proofs.Stacking.{at-keeps, pops-wrapped, pops-part, pops-none}
use Rattle.pg_search.proofs.Counting.{ok-less, pops-wrapped-steps, pops-part-steps, pops-none-steps}
use Rattle.pg_search.proofs.stack.Stack.found.Goals as goal

pub rest-requires : goal.rest-requires
rest-requires g c = sym c.in-None.ensures.items ∙ nothing-popped _ _ c.in-None.ensures.items c.in-None.ensures.rest

pub returns-in_ok-ty-in-Some-Wrapped-clause-goes : goal.returns-in_ok-ty-in-Some-Wrapped-clause-goes
returns-in_ok-ty-in-Some-Wrapped-clause-goes g c =
    let t : Stack = record c.args.self.now { frames = c.pop_front.new.self } in
    let w = c.in-Some-Wrapped in
    at-keeps t w.oid w.row (wraps (wrap_of w.wrap) c.args.ty) _ (c.in_ok-ty-in-Some-Wrapped.ensures ∙ ap (λ (k : Kind). record { name = w.row.name; oid = w.oid; kind = k; schema = w.row.schema }) c.wrapped.ensures)
    ∙ pops-wrapped c.args.self.now t w.oid w.row w.wrap c.args.ty (record { left = refl; found = refl }) (w.ensures.items ∙ ap (λ (f : Frame). f ∷ t.frames.items) w.field-0-is)

pub returns-in_ok-ty-in-Some-Wrapped-clause-steps : goal.returns-in_ok-ty-in-Some-Wrapped-clause-steps
returns-in_ok-ty-in-Some-Wrapped-clause-steps g c =
    let t : Stack = record c.args.self.now { frames = c.pop_front.new.self } in
    let w = c.in-Some-Wrapped in
    λ most. pops-wrapped-steps most c.args.self.now t w.oid w.row w.wrap refl (w.ensures.items ∙ ap (λ (f : Frame). f ∷ t.frames.items) w.field-0-is)

pub returns-in_ok-push-in-Some-Part-clause-goes : goal.returns-in_ok-push-in-Some-Part-clause-goes
returns-in_ok-push-in-Some-Part-clause-goes g c =
    let t : Stack = record c.args.self.now { frames = c.pop_front.new.self; room = c.in_ok-self-in-Some-Part.field-0 } in
    let w = c.in-Some-Part in
    subst (λ (x : Dialogue (List PgType)). IfOk c.field.result (λ turn. turn_dialogue c.field.new.self turn ≡ x))
    (pops-part c.args.self.now t w.composite w.name c.args.ty (record w.composite { found = c.push.new.self }) (record { left = refl; found = refl }) (w.ensures.items ∙ ap (λ (f : Frame). f ∷ t.frames.items) w.field-0-is)
    (ap (λ (f : List Field). record w.composite { found = f }) (c.in_ok-push-in-Some-Part.ensures ∙ ap (λ (x : Field). w.composite.found ++ x ∷ []) c.new.ensures)))
    c.field.ensures.goes

pub returns-in_ok-push-in-Some-Part-clause-steps : goal.returns-in_ok-push-in-Some-Part-clause-steps
returns-in_ok-push-in-Some-Part-clause-steps g c most =
    let t : Stack = record c.args.self.now { frames = c.pop_front.new.self; room = c.in_ok-self-in-Some-Part.field-0 } in
    let w = c.in-Some-Part in
    ok-less c.field.result (turn_steps most c.field.new.self) _ _
    (pops-part-steps most c.args.self.now t w.composite w.name refl (w.ensures.items ∙ ap (λ (f : Frame). f ∷ t.frames.items) w.field-0-is))
    (c.field.ensures.steps most)

pub returns-in_ok-push-in-None-clause-goes : goal.returns-in_ok-push-in-None-clause-goes
returns-in_ok-push-in-None-clause-goes g c =
    c.rest.ensures.goes ∙ pops-none c.args.self.now (record c.args.self.now { frames = c.pop_front.new.self; found = c.push-in-None.new.self; room = c.in_ok-self-in-None.field-0 }) c.args.ty refl c.in_ok-push-in-None.ensures (nothing-popped _ _ c.in-None.ensures.items c.in-None.ensures.rest)

pub returns-in_ok-push-in-None-clause-steps : goal.returns-in_ok-push-in-None-clause-steps
returns-in_ok-push-in-None-clause-steps g c most =
    let t : Stack = record c.args.self.now { frames = c.pop_front.new.self; found = c.push-in-None.new.self; room = c.in_ok-self-in-None.field-0 } in
    let a = c.rest.ensures.steps most in
    let b = pops-none-steps most c.args.self.now t refl c.in-None.ensures.items in
    omega (arith, a, b)
