use Rattle.std.proofs.Common.{option_map, ap}
use Rattle.std.proofs.lemmas.Result.{err_from_is_err_and}
use Rattle.pg_config.proofs.Places.{place_added, place_refused}
use Rattle.pg_config.proofs.config.Config.each_place.Goals as goal

pub returns-in_err-place : goal.returns-in_err-place
returns-in_err-place c =
    let p = err_from_is_err_and c.from_residual.result c.from_residual.ensures.1 in
    rw (p.1, p.2) (place_refused c.loop-rest.self (option_map (λ t. t.now) c.loop-rest.rest) c.in-Some.text.now c.cut.result.0.now (option_map (λ t. t.now) c.cut.result.1) _ c.in_err-place.field-0.0
    c.cut.ensures.cut (ap (option_map (λ t. t.now)) c.in-Some.is) c.in_err-place.ensures c.loop-rest.invariant)

pub loop-rest-preserved : goal.loop-rest-preserved
loop-rest-preserved c =
    place_added c.loop-rest.self c.place.new.self (option_map (λ t. t.now) c.loop-rest.rest) c.in-Some.text.now c.cut.result.0.now (option_map (λ t. t.now) c.cut.result.1) _
    c.cut.ensures.cut (ap (option_map (λ t. t.now)) c.in-Some.is) c.in_ok-place.ensures c.loop-rest.invariant
