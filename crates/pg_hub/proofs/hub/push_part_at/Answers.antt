use Rattle.std.proofs.Common.{sym}
use Rattle.pg_hub.proofs.Growing.{pushed, extended-past}
use Rattle.pg_hub.proofs.hub.push_part_at.Goals as goal

pub returns-then-place-book : goal.returns-then-place-book
returns-then-place-book c = extended-past c.args.book.now c.args.place c.args.part c.if-place-book.true

pub returns : goal.returns
returns c = pushed _ c.push.result c.args.book.now c.args.place c.args.part c.index-book-place.result c.push.new.self c.if-place-book.false (sym c.if-is_err.ensures.value) c.push.ensures
