use Rattle.pg_text.proofs.SimpleReports.{prints-simply}
use Rattle.pg_text.proofs.laws.simple_reports_print_so.Goals as goal

pub returns : goal.returns
returns c = prints-simply
