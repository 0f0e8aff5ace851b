use Rattle.std.proofs.Common.{◌+◌, Some, None}
use Rattle.std.proofs.lemmas.List.{take_rest}
use Rattle.pg_config.proofs.Cuts.{cut_before, cut_none, front_of_cut, behind_cut, shorter_cut}
use Rattle.pg_config.proofs.piece.cut.Goals as goal

pub returns-in-Some : goal.returns-in-Some
returns-in-Some c =
    let is = cut_before c.args.mark c.args.text.now c.in-Some.at _ (take_rest c.args.text.now (c.in-Some.at + 1)) c.in-Some.ensures.0 c.in-Some.ensures.1 c.in-Some.ensures.2 in
    record { cut = is; front = front_of_cut c.args.mark c.args.text.now _ (Some _) is; behind = behind_cut c.args.mark c.args.text.now _ (Some _) is; shorter = shorter_cut c.args.mark c.args.text.now _ _ is }

pub returns-in-None : goal.returns-in-None
returns-in-None c =
    let is = cut_none c.args.mark c.args.text.now c.in-None.ensures in
    record { cut = is; front = front_of_cut c.args.mark c.args.text.now _ None is; behind = behind_cut c.args.mark c.args.text.now _ None is; shorter = tt }
