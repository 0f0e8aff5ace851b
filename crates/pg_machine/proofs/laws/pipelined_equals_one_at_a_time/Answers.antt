use Rattle.std.specs.Prelude.{map}
use Rattle.pg_machine.specs.Serving.{joined}
use Rattle.pg_machine.specs.Sessions.{begun, frames_of}
use Rattle.pg_machine.proofs.CourseLaws.{course-IsOver}
use Rattle.pg_machine.proofs.ServingLaws.{pipelined-one_at_a_time}
use Rattle.pg_machine.proofs.SessionLaws.{session-alone}
use Rattle.pg_machine.specs.Machines.{service_of}
use Rattle.pg_machine.proofs.SoundLaws.{machine-SoundAlong}
use Rattle.pg_machine.proofs.laws.pipelined_equals_one_at_a_time.Goals as goal

pub returns-clause-frames : goal.returns-clause-frames
returns-clause-frames c = λ table at requests is normal are only.
    pipelined-one_at_a_time (service_of table) at requests normal are (machine-SoundAlong table is at (joined requests)) only

pub returns-clause-session : goal.returns-clause-session
returns-clause-session c = λ table s nonce book startup given taken due old new is told was keeps g t d exchange started are only.
    session-alone (service_of table) 0 s nonce book startup given taken exchange started
    (course-IsOver (service_of table) 0 startup given taken due old new told was keeps g t d) are
    (record { sound = machine-SoundAlong table is (begun 0) (joined (map frames_of book)); only_copies_open = only })
