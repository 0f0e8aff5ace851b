use Rattle.std.proofs.Common.{◌≡◌, ◌∷◌, [], IfOk, sym, subst, Some, None, true}
use Rattle.pg_query.specs.Dialogue.{Dialogue}
use Rattle.pg_query.specs.Scripts.{GoesOn}
use Rattle.pg_client.specs.Done.{reading_of}
use Rattle.pg_steps.specs.Steps.{dialogue_of, refuses_of, waits_of}
use Rattle.pg_steps.proofs.Machine.{reads-more, reads-told, stops-at, told-next}
use Rattle.pg_steps.proofs.steps.StepsScript.message.Goals as goal

pub returns-in-None-clause-goes_on : goal.returns-in-None-clause-goes_on
returns-in-None-clause-goes_on c raw means h =
    let r = c.of_batch-reading.result in
    let told : reading_of r (raw ∷ []) ≡ None = (rw c.in-None.is at (c.in_ok-message.ensures.reads raw means)).0 in
    reads-more c.args.self.now raw (told-next r c.of_batch-reading.ensures raw None told) h

pub returns-in-Some-clause-goes_on : goal.returns-in-Some-clause-goes_on
returns-in-Some-clause-goes_on c raw means h =
    let r = c.of_batch-reading.result in
    let told : reading_of r (raw ∷ []) ≡ Some c.in-Some.answer = rw c.in-Some.is at (c.in_ok-message.ensures.reads raw means) in
    subst (λ (d : Dialogue (Unit {0})). IfOk c.told.result (λ want. GoesOn dialogue_of refuses_of waits_of d want c.told.new.self))
    (reads-told c.args.self.now raw c.in-Some.answer (told-next r c.of_batch-reading.ensures raw (Some c.in-Some.answer) told) h) c.told.ensures.goes_on

pub returns-in-Some-clause-stops : goal.returns-in-Some-clause-stops
returns-in-Some-clause-stops c raw means h =
    let r = c.of_batch-reading.result in
    let told : reading_of r (raw ∷ []) ≡ Some c.in-Some.answer = rw c.in-Some.is at (c.in_ok-message.ensures.reads raw means) in
    stops-at c.args.message.now raw c.in-Some.answer c.told.result c.told.new.self means (told-next r c.of_batch-reading.ensures raw (Some c.in-Some.answer) told) c.told.ensures.last
