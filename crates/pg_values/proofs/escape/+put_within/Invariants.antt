use Rattle.pg_values.proofs.escape.+put_within.Given as goal

abbrev pub decreases-put_within : goal.decreases-put_within
decreases-put_within g l = l.depth
