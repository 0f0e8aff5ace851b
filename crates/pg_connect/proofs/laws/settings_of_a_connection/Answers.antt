use Rattle.pg_connect.proofs.LastValues.{all-kept, last-values}
use Rattle.pg_connect.proofs.laws.settings_of_a_connection.Goals as goal

pub returns : goal.returns
returns c = record { last = last-values; value = λ reports name. (all-kept reports).values name }
