use Rattle.pg_wire.proofs.ReadBack.{copy_data_back, copy_fail_back}
use Rattle.pg_wire.proofs.frames_laws.short_frames_are_read_back.Goals as goal

pub returns-clause-copy_data : goal.returns-clause-copy_data
returns-clause-copy_data c = copy_data_back

pub returns-clause-copy_fail : goal.returns-clause-copy_fail
returns-clause-copy_fail c = copy_fail_back
