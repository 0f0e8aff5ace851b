use Rattle.std.proofs.Common.{◌+◌, ◌++◌, Bool, cond, drop, ap, ◌∙◌, sym, arith}
use Rattle.pg_wire.proofs.TurnCounts.{frame_whole}
use Rattle.pg_wire.specs.Turning.{counted}
use Rattle.pg_wire.specs.Fronts.{IsWhole}
use Rattle.pg_wire.proofs.turning.front_frame.Goals as goal

pub returns : goal.returns
returns c =
    let whole : IsWhole c.args.bytes.now c.in-Whole.len = c.in-Whole.ensures in (
      omega (arith, whole.some),
      whole.fits,
      λ more. frame_whole c.args.bytes.now more c.in-Whole.len whole
          ∙ ap (λ (b : Bool). cond b 1 0 + counted (drop c.in-Whole.len (c.args.bytes.now ++ more))) (sym c.is_turn-gives_turn.ensures),
    )
