use Rattle.std.proofs.Common.{[], ◌∙◌}
use Rattle.pg_core.specs.Prepares.{prepares}
use Rattle.pg_execute.proofs.Targets.{behind-each}
use Rattle.pg_execute.proofs.target.on_target.Goals as goal

pub returns : goal.returns
returns g c = record {
  dialogue = c.on_closing.ensures.dialogue ∙ behind-each (λ text. prepares (g.F.Finder.finds c.args.finder) text []) (g.G.Go.to c.args.go) c.args.target;
}
