-- A handler that answers every frame by the same effect, which is its state.
use Rattle.pg_spec.specs.ClientFrames.{ClientFrame}
use Rattle.pg_server.specs.declared.handler.Effect.{Effect}

-- what it does with a frame: it gives the effect that is its state, and stays in it
abbrev pub told_step : Effect → ClientFrame → Effect × Effect
told_step effect frame = (effect, effect)
