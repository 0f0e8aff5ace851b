use Rattle.std.proofs.Common.{◌+◌}
use Rattle.std.proofs.lemmas.List.{take_rest}
use Rattle.pg_text.proofs.TextLaws.{cut_at_end, cut_at_feed}
use Rattle.pg_text.proofs.parse.cut_line.Goals as goal

pub returns-in-Some-clause-lines : goal.returns-in-Some-clause-lines
returns-in-Some-clause-lines c =
    cut_at_feed c.args.text.now c.in-Some.at _ (take_rest c.args.text.now (c.in-Some.at + 1)) c.in-Some.ensures.0 c.in-Some.ensures.1 c.in-Some.ensures.2

pub returns-in-None-clause-lines : goal.returns-in-None-clause-lines
returns-in-None-clause-lines c = cut_at_end c.args.text.now c.requires c.in-None.ensures
