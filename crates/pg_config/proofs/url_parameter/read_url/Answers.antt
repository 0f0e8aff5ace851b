use Rattle.std.proofs.Common.{sym, subst}
use Rattle.pg_config.specs.ParameterReading.{Says}
use Rattle.pg_config.specs.UrlReading.{parameter_at}
use Rattle.pg_config.specs.Urls.{parameter}
use Rattle.pg_config.proofs.Wholes.{url_rest}
use Rattle.pg_config.proofs.url_parameter.read_url.Goals as goal

pub returns : goal.returns
returns c = λ said h.
    c.read_parameters.ensures said (subst (λ text. Says parameter_at parameter text c.open_url.new.self said) (sym c.query_of.ensures)
    (url_rest c.args.text.now c.new-config.result c.open_url.new.self said c.in_ok-open_url.ensures c.new-config.ensures h))
