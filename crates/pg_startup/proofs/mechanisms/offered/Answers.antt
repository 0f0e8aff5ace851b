use Rattle.std.proofs.Common.{◌≡◌, ◌||◌, Bool, Ok, Some, ap, ◌∙◌}
use Rattle.std.specs.Prelude.{codes}
use Rattle.std.specs.Str.{bytes_eq}
use Rattle.pg_spec.specs.Bodies.{mechanisms_of}
use Rattle.pg_wire.specs.Steps.{mechanism_step}
use Rattle.pg_startup.specs.Steps.{offered_behind}
use Rattle.pg_startup.proofs.Moves.{offered-step}
use Rattle.pg_startup.proofs.mechanisms.offered.Goals as goal

pub names-preserved : goal.names-preserved
names-preserved c =
    let rest = c.next.new.self in
    let step : mechanism_step c.names.names ≡ Ok (Some (c.in-Ok-Some.name.now, rest)) = rw c.in-Ok-Some.field-0-is at c.in-Ok-Some.ensures.step in
    ap (λ (b : Bool). offered_behind b c.is_or-plain.result (mechanisms_of rest)) c.is_or-plus.ensures
    ∙ ap (λ (b : Bool). offered_behind (c.names.plus || bytes_eq c.in-Ok-Some.name.now (codes "SCRAM-SHA-256-PLUS")) b (mechanisms_of rest)) c.is_or-plain.ensures
    ∙ offered-step c.names.plus c.names.plain c.names.names c.in-Ok-Some.name.now rest step ∙ c.names.invariant
