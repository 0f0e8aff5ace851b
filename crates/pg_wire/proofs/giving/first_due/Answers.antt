use Rattle.std.proofs.Common.{◌≡◌, ◌<◌, length, ◌∙◌, sym, arith}
use Rattle.std.proofs.lemmas.List.{length-map, nil_from_length}
use Rattle.pg_wire.specs.Giving.{entry_of, lists}
use Rattle.pg_wire.proofs.Plans.{passes-one}
use Rattle.pg_wire.proofs.giving.first_due.Goals as goal

pub loop-entry-preserved : goal.loop-entry-preserved
loop-entry-preserved c =
    let low : c.loop-entry.entry < length (lists c.args.plan.now) = simp length-map (omega arith) in
    let none : length (entry_of (lists c.args.plan.now) c.loop-entry.entry) ≡ 0 = sym c.entry_len.ensures ∙ c.if-entry_len-eq0.true in
    passes-one (lists c.args.plan.now) c.args.entry c.loop-entry.entry c.loop-entry.invariant low (nil_from_length _ none)
