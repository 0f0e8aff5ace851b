use Rattle.std.proofs.Common.{List, subst, sym}
use Rattle.pg_types.specs.declared.value.Value.{Value}
use Rattle.pg_text.specs.SessionText.{IsValue}
use Rattle.pg_text.specs.Words.{TookAll}
use Rattle.pg_text.proofs.GivenLaws.{value_ends}
use Rattle.pg_text.proofs.LineLaws.{all_refused, one_more}
use Rattle.pg_text.proofs.executing.all_values.Goals as goal

pub returns-in-None : goal.returns-in-None
returns-in-None c =
    all_refused IsValue value_ends c.loop-alloc.values.items c.args.words.now c.loop-alloc.words c.next_value.new.words c.loop-alloc.invariant (sym c.loop-alloc-test.ensures) (rw c.in-None.is at c.in_ok-value.ensures)

pub loop-alloc-preserved : goal.loop-alloc-preserved
loop-alloc-preserved c =
    subst (λ (items : List Value). TookAll IsValue items c.args.words.now c.next_value.new.words) (sym c.in_ok-push-in-Some.ensures.items)
    (one_more IsValue c.loop-alloc.values.items c.in-Some.value c.args.words.now c.loop-alloc.words c.next_value.new.words c.loop-alloc.invariant (rw c.in-Some.is at c.in_ok-value.ensures))
