use Rattle.pg_asking.proofs.streams.stream.Given as goal

abbrev pub invariant-polls : goal.invariant-polls
invariant-polls g l = g.O.Opens.is_live l.state
