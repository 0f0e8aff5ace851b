use Rattle.std.proofs.Common.{ap, subst, arith}
use Rattle.pg_text.specs.SessionText.{SessionText}
use Rattle.pg_tool.specs.RunContract.{IsPlayed}
use Rattle.pg_tool.proofs.Completing.{summed_up}
use Rattle.pg_tool.proofs.program.sum_up.Goals as goal

pub play_own-result-requires-clause-limit : goal.play_own-result-requires-clause-limit
play_own-result-requires-clause-limit g c = omega (arith, ap (λ (t : SessionText). t.limit) c.in-Ok.ensures.session)

pub returns : goal.returns
returns g c =
    let played = subst (λ (t : SessionText). IsPlayed t c.play_own-result.result) c.in-Ok.ensures.session c.play_own-result.ensures in (
      summed_up c.args.numbers (g.K.Sink.state c.args.sink.now) (g.K.Sink.state c.write_summary-status.new.sink) c.write_summary-status.result c.play_own-result.result
          c.requires.count played c.write_summary-status.ensures,
      played,
    )
