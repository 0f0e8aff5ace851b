use Rattle.std.proofs.Common.{◌++◌, ◌∷◌, [], sym}
use Rattle.pg_text.specs.SessionText.{IsPair}
use Rattle.pg_text.proofs.GivenLaws.{pair_ends}
use Rattle.pg_text.proofs.LineLaws.{all_refused, one_more}
use Rattle.pg_text.proofs.executing.all_pairs.Goals as goal

pub returns-in-None : goal.returns-in-None
returns-in-None c =
    let was = c.loop-alloc.invariant in
    all_refused IsPair pair_ends was.0 c.args.words.now c.loop-alloc.words c.next_pair.new.words was.1 (sym c.loop-alloc-test.ensures) (rw c.in-None.is at c.in_ok-oid.ensures)

pub loop-alloc-preserved : goal.loop-alloc-preserved
loop-alloc-preserved c =
    let was = c.loop-alloc.invariant in
    let taken = rw c.in-Some.is at c.in_ok-oid.ensures in (
      was.0 ++ (c.in-Some.oid, c.in-Some.value) ∷ [],
      one_more IsPair was.0 (c.in-Some.oid, c.in-Some.value) c.args.words.now c.loop-alloc.words c.next_pair.new.words was.1 taken,
      c.in_ok-push-in-Some.ensures was.0 was.2,
    )
