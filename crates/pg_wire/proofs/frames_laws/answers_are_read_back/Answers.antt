use Rattle.pg_wire.proofs.ReadBack.{password_back, sasl_initial_back, sasl_back}
use Rattle.pg_wire.proofs.frames_laws.answers_are_read_back.Goals as goal

pub returns : goal.returns
returns c = record { password = password_back; sasl_initial = sasl_initial_back; sasl = sasl_back }
