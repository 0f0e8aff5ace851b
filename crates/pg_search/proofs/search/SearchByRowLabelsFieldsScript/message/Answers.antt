use Rattle.pg_search.proofs.search.SearchByRowLabelsFieldsScript.message.Goals as goal

pub returns-clause-goes_on : goal.returns-clause-goes_on
returns-clause-goes_on g c raw means h = c.in_ok-want.ensures.goes_on raw means h
