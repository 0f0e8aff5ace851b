use Rattle.std.proofs.Common.{refl}
use Rattle.pg_values.proofs.SentValues.{label_sent, label_unsent}
use Rattle.pg_values.proofs.WriteLaws.{nothing}
use Rattle.pg_values.proofs.scalars_written.put_label.Goals as goal

pub returns-then-not-is_known : goal.returns-then-not-is_known
returns-then-not-is_known c =
    (label_unsent c.args.labels.now c.args.label.now (λ has. absurd (cc (c.is_known.ensures.1 has, c.if-not-is_known.true))), nothing refl)

pub returns : goal.returns
returns c =
    label_sent c.args.labels.now c.args.label.now c.args.out.now.items c.put.new.out.items c.put.result (c.is_known.ensures.0 c.if-not-is_known.false) c.put.ensures
