use Rattle.pg_machine.proofs.WrittenLaws.{read_back}
use Rattle.pg_machine.proofs.machine_file_laws.what_is_written_is_read.Goals as goal

pub returns : goal.returns
returns c = read_back
