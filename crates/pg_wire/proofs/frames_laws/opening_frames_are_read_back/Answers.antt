use Rattle.pg_wire.proofs.Opening.{startup_back}
use Rattle.pg_wire.proofs.frames_laws.opening_frames_are_read_back.Goals as goal

pub returns-clause-startup : goal.returns-clause-startup
returns-clause-startup c = startup_back
