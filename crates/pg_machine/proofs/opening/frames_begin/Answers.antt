use Rattle.std.proofs.Common.{◌≡◌, ap, sym, ◌∙◌, true, Bool, List, ℕ, [], append-nil, drop, cond}
use Rattle.pg_spec.specs.Sent.{asked_for_tls}
use Rattle.pg_machine.specs.Opening.{behind_startup}
use Rattle.pg_machine.proofs.FeedLaws.{rest_is}
use Rattle.pg_machine.proofs.opening.frames_begin.Goals as goal

pub returns-in-None : goal.returns-in-None
returns-in-None c =
    let sent : List ℕ = c.args.sent.now in
    let known = c.in_ok-asks_for_tls.ensures in
    let asked : asked_for_tls sent ≡ true = ap asked_for_tls (sym (append-nil sent)) ∙ known.1 [] ∙ c.if-not-branch.false in
    ap (λ (b : Bool). behind_startup (cond b (drop 8 sent) sent)) asked
    ∙ ap behind_startup (sym (rest_is sent 8)) ∙ c.in-None.ensures
