use Rattle.pg_query_laws.proofs.Commands.{clearing, preparing-text}
use Rattle.pg_query_laws.proofs.laws.lookups_are_commands.Goals as goal

pub returns-clause-prepares : goal.returns-clause-prepares
returns-clause-prepares c = λ text oids. (preparing-text text oids).command

pub returns-clause-prepares_whole : goal.returns-clause-prepares_whole
returns-clause-prepares_whole c = λ text oids. (preparing-text text oids).whole

pub returns-clause-prepares_and_lets_go : goal.returns-clause-prepares_and_lets_go
returns-clause-prepares_and_lets_go c = λ text oids. (preparing-text text oids).lets_go

pub returns-clause-clears : goal.returns-clause-clears
returns-clause-clears c = clearing.command

pub returns-clause-clears_whole : goal.returns-clause-clears_whole
returns-clause-clears_whole c = clearing.whole

pub returns-clause-clears_and_lets_go : goal.returns-clause-clears_and_lets_go
returns-clause-clears_and_lets_go c = clearing.lets_go
