use Rattle.std.proofs.Common.{◌≡◌, IfOk, string_bytes, subst, sym, ◌∙◌}
use Rattle.pg_config.specs.Fronts.{front_view}
use Rattle.pg_config.proofs.Runs.{keyed_is}
use Rattle.pg_config.proofs.key_value.read_keyed.Goals as goal

pub returns-in_ok-key-in-Some-clause-front : goal.returns-in_ok-key-in-Some-clause-front
returns-in_ok-key-in-Some-clause-front c =
    subst (λ said. IfOk c.read_valued.result (λ front. front_view front ≡ said))
    (keyed_is c.args.key.now c.args.text.now (string_bytes c.in_ok-key-in-Some.key) c.cut_run.result.1.now c.in-Some.behind.now
    (sym c.is_empty.ensures ∙ c.if-is_empty.false) c.in-Some.ensures.0 c.in_ok-key-in-Some.ensures c.in-Some.ensures.1 c.cut_run.ensures.behind)
    c.read_valued.ensures.front
