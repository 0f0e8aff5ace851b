use Rattle.std.proofs.lemmas.Result.{err_from_is_err_and}
use Rattle.pg_config.proofs.Trying.{known_fault}
use Rattle.pg_config.proofs.config.Config.param.Goals as goal

pub returns-in_err-any_option : goal.returns-in_err-any_option
returns-in_err-any_option c =
    let p = err_from_is_err_and c.from_residual.result c.from_residual.ensures.1 in
    rw (p.1, p.2) (known_fault c.args.key.now c.args.value.now c.args.self.now c.any_option.new.self c.in_err-any_option.field-0.0 c.in_err-any_option.ensures)
