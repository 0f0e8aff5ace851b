use Rattle.std.proofs.lemmas.Result.{err_from_is_err_and}
use Rattle.pg_config.proofs.Trying.{number_fails, place_fails, place_set, time_fails}
use Rattle.pg_config.proofs.config.Config.any_option.Goals as goal

pub returns-in_err-place_param : goal.returns-in_err-place_param
returns-in_err-place_param c =
    let p = err_from_is_err_and c.from_residual-in_err-place_param.result c.from_residual-in_err-place_param.ensures.1 in
    rw (p.1, p.2) (place_fails c.args.key.now c.args.value.now c.args.self.now c.text_param.new.self c.place_param.new.self c.in_ok-text_param.field-0 c.in_err-place_param.field-0.0
    c.in_ok-text_param.ensures c.if-branch.false c.in_err-place_param.ensures)

pub returns-then-branch-2 : goal.returns-then-branch-2
returns-then-branch-2 c =
    place_set c.args.key.now c.args.value.now c.args.self.now c.text_param.new.self c.place_param.new.self c.in_ok-text_param.field-0 c.in_ok-place_param.field-0
    c.in_ok-text_param.ensures c.if-branch.false c.in_ok-place_param.ensures c.if-branch-2.true

pub returns-in_err-time_param : goal.returns-in_err-time_param
returns-in_err-time_param c =
    let p = err_from_is_err_and c.from_residual-in_err-time_param.result c.from_residual-in_err-time_param.ensures.1 in
    rw (p.1, p.2) (time_fails c.args.key.now c.args.value.now c.args.self.now c.text_param.new.self c.place_param.new.self c.time_param.new.self c.in_ok-text_param.field-0 c.in_ok-place_param.field-0
    c.in_err-time_param.field-0.0 c.in_ok-text_param.ensures c.if-branch.false c.in_ok-place_param.ensures c.if-branch-2.false c.in_err-time_param.ensures)

pub returns-in_err-number_param : goal.returns-in_err-number_param
returns-in_err-number_param c =
    let p = err_from_is_err_and c.from_residual-in_err-number_param.result c.from_residual-in_err-number_param.ensures.1 in
    rw (p.1, p.2) (number_fails c.args.key.now c.args.value.now c.args.self.now c.text_param.new.self c.place_param.new.self c.time_param.new.self c.number_param.new.self
    c.in_ok-text_param.field-0 c.in_ok-place_param.field-0 c.in_ok-time_param.field-0 c.in_err-number_param.field-0.0
    c.in_ok-text_param.ensures c.if-branch.false c.in_ok-place_param.ensures c.if-branch-2.false c.in_ok-time_param.ensures c.if-branch-3.false c.in_err-number_param.ensures)
