use Rattle.pg_text.specs.Drafts.{so_far}
use Rattle.pg_text.proofs.ReadLaws.{reads_on}
use Rattle.pg_text.proofs.parse.Draft.read.Goals as goal

pub returns-in_ok-stands-in-Some-clause-line : goal.returns-in_ok-stands-in-Some-clause-line
returns-in_ok-stands-in-Some-clause-line c =
    reads_on c.in-Some.line (so_far c.args.self.now) c.args.line.now c.in_ok-stands-in-Some.stands (so_far c.add.new.self) (rw c.in-Some.is at c.in_ok-line.ensures.line) c.in_ok-stands-in-Some.ensures.steps
