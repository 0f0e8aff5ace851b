use Rattle.std.proofs.Common.{◌≡◌, IfOk, subst}
use Rattle.pg_config.specs.Fronts.{front_view}
use Rattle.pg_config.proofs.Runs.{front_is}
use Rattle.pg_config.proofs.key_value.read_front.Goals as goal

pub returns-clause-front : goal.returns-clause-front
returns-clause-front c =
    subst (λ said. IfOk c.read_keyed.result (λ front. front_view front ≡ said))
    (front_is c.args.text.now c.cut_run.result.1.now c.cut_run-2.result.0.now c.cut_run-2.result.1.now c.cut_run-3.result.1.now
    c.cut_run.ensures.behind c.cut_run-2.ensures.front c.cut_run-2.ensures.behind c.cut_run-3.ensures.behind)
    c.read_keyed.ensures.front
