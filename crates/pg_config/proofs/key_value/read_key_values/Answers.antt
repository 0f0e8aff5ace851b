use Rattle.std.proofs.lemmas.Result.{err_from_is_err_and}
use Rattle.pg_config.specs.KeyValueReading.{front_of}
use Rattle.pg_config.specs.Options.{applies}
use Rattle.pg_config.specs.Settings.{defaults}
use Rattle.pg_config.proofs.Readings.{broken_only, done_only, fault_only, read_more, renamed}
use Rattle.pg_config.proofs.key_value.read_key_values.Goals as goal

pub returns-in_err-param-in-Parameter : goal.returns-in_err-param-in-Parameter
returns-in_err-param-in-Parameter c =
    let stands = rw c.in-Parameter.is at c.in_ok-key.ensures.front in
    let named = renamed front_of c.parameters.rest.now _ c.as_str.result.now _ c.as_str-in-Parameter.result.now c.in-Parameter.behind.now stands c.as_str.ensures.value c.as_str-in-Parameter.ensures.value in
    let p = err_from_is_err_and c.from_residual-in_err-param-in-Parameter.result c.from_residual-in_err-param-in-Parameter.ensures.1 in
    rw (p.1, p.2) (fault_only front_of applies c.args.text.now c.parameters.rest.now c.in-Parameter.behind.now defaults c.parameters.config c.as_str.result.now c.as_str-in-Parameter.result.now
    c.in_err-param-in-Parameter.field-0.0 named c.in_err-param-in-Parameter.ensures c.parameters.invariant)

pub parameters-preserved : goal.parameters-preserved
parameters-preserved c =
    let stands = rw c.in-Parameter.is at c.in_ok-key.ensures.front in
    let named = renamed front_of c.parameters.rest.now _ c.as_str.result.now _ c.as_str-in-Parameter.result.now c.in-Parameter.behind.now stands c.as_str.ensures.value c.as_str-in-Parameter.ensures.value in
    read_more front_of applies c.args.text.now c.parameters.rest.now c.in-Parameter.behind.now defaults c.parameters.config c.param.new.self c.as_str.result.now c.as_str-in-Parameter.result.now named c.in_ok-param-in-Parameter.ensures c.parameters.invariant

pub returns-in-Done : goal.returns-in-Done
returns-in-Done c =
    done_only front_of applies c.args.text.now c.parameters.rest.now defaults c.parameters.config c.parameters.invariant (rw c.in-Done.is at c.in_ok-key.ensures.front)

pub returns-in-Broken : goal.returns-in-Broken
returns-in-Broken c =
    broken_only front_of applies c.args.text.now c.parameters.rest.now defaults c.parameters.config c.parameters.invariant (rw c.in-Broken.is at c.in_ok-key.ensures.front)
