use Rattle.std.proofs.Common.{List, ℕ, ◌∙◌, ap}
use Rattle.pg_core.specs.Lookups.{find_all}
use Rattle.pg_streams.proofs.state.find_types.Goals as goal

pub returns-in-Ok-new : goal.returns-in-Ok-new
returns-in-Ok-new c = (c.in-Ok-new.ensures.live, c.in-Ok-new.ensures.asks ∙ ap (λ (l : List ℕ). find_all l) c.in-Ok.ensures)
