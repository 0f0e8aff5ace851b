use Rattle.pg_config.specs.Attempts.{attempt_at}
use Rattle.pg_config.proofs.AttemptLaws.{attempts_more}
use Rattle.pg_config.proofs.config.Config.attempts_at.Goals as goal

pub loop-place-preserved : goal.loop-place-preserved
loop-place-preserved c =
    attempts_more (attempt_at c.args.self.now) c.args.places.now c.loop-place.place-index c.loop-place.attempts c.push_if_any.new.attempts c.in_ok-attempt.attempt
    c.loop-place-test.true c.in_ok-attempt.ensures c.in_ok-push_if_any.ensures c.loop-place.invariant
