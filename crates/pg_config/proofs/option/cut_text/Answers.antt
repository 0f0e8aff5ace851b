use Rattle.std.proofs.Common.{Some, None, lit<}
use Rattle.std.proofs.lemmas.Str.Pattern.{split_parts}
use Rattle.pg_config.proofs.Cuts.{cut_around, cut_none}
use Rattle.pg_config.proofs.option.cut_text.Goals as goal

pub returns-in-Some : goal.returns-in-Some
returns-in-Some c =
    let parts = split_parts 44 c.args.text.now (Some (c.in-Some.piece, c.in-Some.behind)) c.in-Some.ensures.cases (lit< tt) in
    cut_around 44 c.args.text.now c.in-Some.piece.now c.in-Some.behind.now parts.0 parts.1

pub returns-in-None : goal.returns-in-None
returns-in-None c = cut_none 44 c.args.text.now (split_parts 44 c.args.text.now None c.in-None.ensures.cases (lit< tt))
