use Rattle.std.proofs.Common.{[], Ok, Err, sym, ◌∙◌}
use Rattle.pg_wire.specs.Messages.{message_view}
use Rattle.pg_query.specs.Messages.{Means}
use Rattle.pg_client.proofs.Done.{done-malformed, done-passes, done-tells}
use Rattle.pg_client.proofs.done_reading.DoneReadingReading.message.Goals as goal

pub returns-in-Some-clause-reads : goal.returns-in-Some-clause-reads
returns-in-Some-clause-reads c raw means =
    let malformed : Means raw (Err c.in-Err.fault) = rw c.in-Err.is at means in
    done-malformed c.args.self.now.results raw c.in-Err.fault c.in-Some.error malformed c.in-Some.ensures

pub returns-then-passes-clause-reads : goal.returns-then-passes-clause-reads
returns-then-passes-clause-reads c raw means =
    let meant : Means raw (Ok c.in-Ok.message) = rw c.in-Ok.is at means in
    let passed = sym c.passes.ensures ∙ c.if-passes.true in (
      done-passes c.args.self.now.results raw (message_view c.in-Ok.message) [] meant passed,
      λ ms. done-passes c.args.self.now.results raw (message_view c.in-Ok.message) ms meant passed,
    )

pub returns-clause-reads : goal.returns-clause-reads
returns-clause-reads c raw means =
    let meant : Means raw (Ok c.in-Ok.message) = rw c.in-Ok.is at means in
    done-tells c.args.self.now.results raw (message_view c.in-Ok.message) c.in_ok-told.told meant (sym c.passes.ensures ∙ c.if-passes.false) c.in_ok-told.ensures
