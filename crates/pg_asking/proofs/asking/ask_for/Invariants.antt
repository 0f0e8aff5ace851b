use Rattle.pg_asking.proofs.asking.ask_for.Given as goal

abbrev pub invariant-polls : goal.invariant-polls
invariant-polls g l = g.S.Polled.is_live l.state
