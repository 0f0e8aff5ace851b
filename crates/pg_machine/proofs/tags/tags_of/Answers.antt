use Rattle.std.proofs.Common.{◌+◌, sym, subst, arith}
use Rattle.pg_machine.specs.declared.tags.Tags.{Tags}
use Rattle.pg_machine.proofs.TagLaws.{IsHeard, AreTags, heard_more, heard_whole, none_found}
use Rattle.pg_machine.proofs.Spelled.{bytes-from}
use Rattle.pg_machine.proofs.tags.tags_of.Goals as goal

pub loop-n-preserved : goal.loop-n-preserved
loop-n-preserved c = subst (λ (t : Tags). IsHeard c.args.reply.now (c.loop-n.at + c.in-Whole.n) t) (sym c.with-tags.ensures)
    (heard_more c.args.reply.now c.loop-n.at c.in-Whole.n c.loop-n.tags c.loop-n.invariant c.in-Whole.ensures)

pub returns : goal.returns
returns c =
    let are : AreTags c.args.reply.now c.loop-n.at c.loop-n.tags
    = heard_whole c.args.reply.now c.loop-n.at c.loop-n.tags c.loop-n.invariant (none_found _ c.front.result c.front.ensures c.in_default.not-Whole) in
    record { bytes = bytes-from c.args.reply.now (λ i. omega (arith, c.type_inv.reply i)); whole = are.whole; ready = are.ready; error = are.error; copy_in = are.copy_in; again = are.again; ends = are.ends }
