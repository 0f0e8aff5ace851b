use Rattle.pg_machine.proofs.SoundLaws.{machine-SoundAlong}
use Rattle.pg_machine.proofs.laws.replies_of_a_machine_are_sound.Goals as goal

pub returns : goal.returns
returns c = λ table at frames is. machine-SoundAlong table is at frames
