use Rattle.std.proofs.Common.{◌∙◌}
use Rattle.pg_served.proofs.Feeding.{replies-are}
use Rattle.pg_served.proofs.alone.feed_alone.Goals as goal

pub returns : goal.returns
returns c = replies-are c.args.machine.now c.args.book.now c.as_slice.result.now c.alone.result (c.as_slice.ensures.value ∙ c.in_ok-requests.ensures) c.alone.ensures
