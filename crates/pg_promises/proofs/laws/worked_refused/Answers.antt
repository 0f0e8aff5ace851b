use Rattle.pg_promises.proofs.WorkedRefused.{not_early, not_later, not_shared, not_synced, not_left_out, not_first_value, not_bad_header, not_skipped}
use Rattle.pg_promises.proofs.laws.worked_refused.Goals as goal

pub returns-clause-not_early : goal.returns-clause-not_early
returns-clause-not_early c = not_early

pub returns-clause-not_later : goal.returns-clause-not_later
returns-clause-not_later c = not_later

pub returns-clause-not_shared : goal.returns-clause-not_shared
returns-clause-not_shared c = not_shared

pub returns-clause-not_synced : goal.returns-clause-not_synced
returns-clause-not_synced c = not_synced

pub returns-clause-not_left_out : goal.returns-clause-not_left_out
returns-clause-not_left_out c = not_left_out

pub returns-clause-not_first_value : goal.returns-clause-not_first_value
returns-clause-not_first_value c = not_first_value

pub returns-clause-not_bad_header : goal.returns-clause-not_bad_header
returns-clause-not_bad_header c = not_bad_header

pub returns-clause-not_skipped : goal.returns-clause-not_skipped
returns-clause-not_skipped c = not_skipped
