use Rattle.std.proofs.Common.{[], ◌∷◌, ◌++◌, ◌∙◌, sym}
use Rattle.pg_spec.specs.SessionText.{IsBytes}
use Rattle.pg_text.proofs.WordLaws.{bytes_ends}
use Rattle.pg_text.proofs.LineLaws.{all_refused, concat_more, one_more}
use Rattle.pg_text.proofs.line.all_bytes.Goals as goal

pub returns-in-None : goal.returns-in-None
returns-in-None c =
    let taken = rw c.in-None.is at c.in_ok-bytes.ensures in
    let was = c.loop-alloc.invariant in
    all_refused IsBytes bytes_ends was.0 c.args.words.now c.loop-alloc.words c.bytes.new.self was.1 (sym c.loop-alloc-test.ensures) taken

pub loop-alloc-preserved : goal.loop-alloc-preserved
loop-alloc-preserved c =
    let taken = rw c.in-Some.is at c.in_ok-bytes.ensures in
    let was = c.loop-alloc.invariant in
    let piece = c.in-Some.bytes.items in (
      was.0 ++ piece ∷ [],
      one_more IsBytes was.0 piece c.args.words.now c.loop-alloc.words c.bytes.new.self was.1 taken,
      c.in_ok-extend_from_slice-in-Some.ensures.items ∙ (λ i. was.2 i ++ c.as_slice.ensures.value i) ∙ sym (concat_more was.0 piece),
    )
