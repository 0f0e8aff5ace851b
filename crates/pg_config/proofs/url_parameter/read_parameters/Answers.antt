use Rattle.std.proofs.Common.{sym}
use Rattle.std.proofs.lemmas.Result.{err_from_is_err_and}
use Rattle.pg_config.specs.UrlReading.{parameter_at}
use Rattle.pg_config.specs.Urls.{parameter}
use Rattle.pg_config.proofs.Readings.{broken_only, done_only, fault_only, read_more}
use Rattle.pg_config.proofs.url_parameter.read_parameters.Goals as goal

pub returns-in_err-url_param-in-Parameter : goal.returns-in_err-url_param-in-Parameter
returns-in_err-url_param-in-Parameter c =
    let p = err_from_is_err_and c.from_residual.result c.from_residual.ensures.1 in
    rw (p.1, p.2) (fault_only parameter_at parameter c.args.text.now c.parameters.rest.now c.in-Parameter.behind.now c.args.config c.parameters.config c.in-Parameter.key.now c.in-Parameter.value.now
    c.in_err-url_param-in-Parameter.field-0.0 (sym c.in-Parameter.ensures.stands) c.in_err-url_param-in-Parameter.ensures c.parameters.invariant)

pub parameters-preserved : goal.parameters-preserved
parameters-preserved c =
    read_more parameter_at parameter c.args.text.now c.parameters.rest.now c.in-Parameter.behind.now c.args.config c.parameters.config c.url_param.new.self c.in-Parameter.key.now c.in-Parameter.value.now
    (sym c.in-Parameter.ensures.stands) c.in_ok-url_param-in-Parameter.ensures c.parameters.invariant

pub returns-in-Done : goal.returns-in-Done
returns-in-Done c = done_only parameter_at parameter c.args.text.now c.parameters.rest.now c.args.config c.parameters.config c.parameters.invariant c.in-Done.ensures.stands

pub returns-in-Broken : goal.returns-in-Broken
returns-in-Broken c =
    broken_only parameter_at parameter c.args.text.now c.parameters.rest.now c.args.config c.parameters.config c.parameters.invariant c.in-Broken.ensures.stands
