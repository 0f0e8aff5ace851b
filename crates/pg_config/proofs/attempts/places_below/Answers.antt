use Rattle.pg_config.proofs.AttemptLaws.{one_place_more}
use Rattle.pg_config.proofs.attempts.places_below.Goals as goal

pub loop-place-preserved : goal.loop-place-preserved
loop-place-preserved c =
    let longer = c.in_ok-push.ensures.items in
    one_place_more c.loop-place.place c.loop-place.places.items c.push.new.self.items c.loop-place.invariant longer
