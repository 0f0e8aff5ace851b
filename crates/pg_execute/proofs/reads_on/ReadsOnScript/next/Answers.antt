use Rattle.std.proofs.Common.{sym, ◌∙◌}
use Rattle.pg_execute.proofs.ReadingOn.{reads-next}
use Rattle.pg_execute.proofs.reads_on.ReadsOnScript.next.Goals as goal

pub returns-in-None-clause-goes_on : goal.returns-in-None-clause-goes_on
returns-in-None-clause-goes_on g c =
    reads-next g.R.Reading.reading c.args.self.now.reading c.args.self.now.failed c.take.new.self (sym c.take.ensures.value ∙ c.in-None.is) c.take.ensures.after
