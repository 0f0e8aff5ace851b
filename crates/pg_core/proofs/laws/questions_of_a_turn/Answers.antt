use Rattle.std.proofs.Common.{refl}
use Rattle.pg_spec.specs.Courses.{stamp_of}
use Rattle.pg_core.proofs.Counted.{told-so}
use Rattle.pg_core.proofs.laws.questions_of_a_turn.Goals as goal

pub returns : goal.returns
returns c who turn ds before s under legal h = told-so who turn (stamp_of who turn) refl ds before s under legal h
