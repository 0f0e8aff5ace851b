use Rattle.std.proofs.Common.{refl}
use Rattle.pg_text.specs.SessionText.{StepLine}
use Rattle.pg_text.proofs.line.step_line.Goals as goal

pub returns-in-Some-clause-line : goal.returns-in-Some-clause-line
returns-in-Some-clause-line c =
    let read = rw c.in-Some.is at c.in_ok-entry.ensures in
    (StepLine read.0, read.1, (read.0, refl, read.2), read.3, (read.0, refl, read.4))
