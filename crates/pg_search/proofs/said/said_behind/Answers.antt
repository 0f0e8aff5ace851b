use Rattle.pg_search.proofs.said.said_behind.Goals as goal

pub returns-in-CommandComplete : goal.returns-in-CommandComplete
returns-in-CommandComplete c = rw c.in-CommandComplete.is (c.end_said.ensures c.args.columns)
