use Rattle.pg_promises.proofs.WorkedStrings.{database, means_keys, means_url, means_user, no_port, no_user, no_value, unknown_key}
use Rattle.pg_promises.proofs.laws.worked_strings.Goals as goal

pub returns-clause-user : goal.returns-clause-user
returns-clause-user c = means_user

pub returns-clause-keys : goal.returns-clause-keys
returns-clause-keys c = means_keys

pub returns-clause-url : goal.returns-clause-url
returns-clause-url c = means_url

pub returns-clause-no_user : goal.returns-clause-no_user
returns-clause-no_user c = no_user

pub returns-clause-database : goal.returns-clause-database
returns-clause-database c = database

pub returns-clause-no_value : goal.returns-clause-no_value
returns-clause-no_value c = no_value

pub returns-clause-unknown_key : goal.returns-clause-unknown_key
returns-clause-unknown_key c = unknown_key

pub returns-clause-no_port : goal.returns-clause-no_port
returns-clause-no_port c = no_port
