use Rattle.std.proofs.Common.{sym, subst, refl, ◌∙◌}
use Rattle.pg_query.specs.Scripts.{GoesOn, waiting_at}
use Rattle.pg_query.specs.SingleRequests.{dialogue_at, dialogue_of, refuses_of}
use Rattle.pg_query.specs.declared.script.Want.TheVariants.{Read}
use Rattle.pg_query.specs.declared.single_request.Phase.{Phase}
use Rattle.pg_query.specs.declared.single_request.Phase.TheVariants as phase
use Rattle.pg_query.proofs.single_request.SingleRequest+R+R+Output.step.Goals as goal

pub returns-in-Reads-clause-goes_on : goal.returns-in-Reads-clause-goes_on
returns-in-Reads-clause-goes_on g c =
    let one = c.args.self.now in
    let read = g.R.Reading.reading in
    subst (λ (p : Phase _). GoesOn (dialogue_of read) refuses_of (λ one. waiting_at (dialogue_of read one)) (dialogue_at one.stops (read one.reading) p) Read (record one { phase = c.replace.new.dest }))
    (sym (sym c.replace.ensures.value ∙ c.in-Reads.is))
    (subst (λ (p : Phase _). GoesOn (dialogue_of read) refuses_of (λ one. waiting_at (dialogue_of read one)) (dialogue_at one.stops (read one.reading) phase.Reads) Read (record one { phase = p }))
    (sym c.replace.ensures.after)
    (record { is = refl; wanted = record { waiting = tt; there = tt } }))
