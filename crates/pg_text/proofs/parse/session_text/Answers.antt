use Rattle.std.proofs.Common.{◌≡◌, ◌≤◌, ℕ, [], ap, arith}
use Rattle.std.proofs.lemmas.List.{nil_from_length}
use Rattle.pg_text.specs.declared.parse.Draft.{Draft}
use Rattle.pg_text.specs.Drafts.{IsWithin, so_far}
use Rattle.pg_text.specs.Scripts.{are_typed}
use Rattle.pg_text.proofs.ReadLaws.{ends, goes_on, refused_line, starts}
use Rattle.pg_text.proofs.TypedLaws.{typed_next}
use Rattle.pg_text.proofs.parse.session_text.Goals as goal

is_within_more : (n m : ℕ) (d : Draft) → n ≤ m → IsWithin n d → IsWithin m d
is_within_more n m d le h = record { scripts = λ k x lt. let was = h.scripts k x lt in omega arith; cut = h.cut }

pub loop-rest-init : goal.loop-rest-init
loop-rest-init c = record {
  read = starts c.args.text.now (so_far c.new-draft.result) c.new-draft.ensures.nothing;
  within = is_within_more _ _ _ (omega arith) c.new-draft.ensures.within;
  typed = ap are_typed c.new-draft.ensures.nothing.scripts;
  number = omega arith;
  rest = omega arith;
}

pub loop-rest-preserved : goal.loop-rest-preserved
loop-rest-preserved c = record {
  read = goes_on c.args.text.now c.loop-rest.rest.now c.cut_line.result.0.now c.cut_line.result.1.now c.loop-rest.number (so_far c.loop-rest.draft) (so_far c.read.new.self) c.loop-rest.invariant.read c.cut_line.ensures.lines (rw c.in-Ok-true.field-0-test at c.in-Ok-true.ensures.line);
  within = is_within_more _ _ _ (omega arith) (c.in-Ok-true.ensures.within _ c.loop-rest.invariant.within);
  typed = typed_next (so_far c.loop-rest.draft) (so_far c.read.new.self) c.cut_line.result.0.now (rw c.in-Ok-true.field-0-test at c.in-Ok-true.ensures.line) c.loop-rest.invariant.typed;
  number = omega arith;
  rest = omega arith;
}

pub returns-in-Ok-false-clause-text : goal.returns-in-Ok-false-clause-text
returns-in-Ok-false-clause-text c =
    refused_line c.args.text.now c.loop-rest.rest.now c.cut_line.result.0.now c.cut_line.result.1.now c.loop-rest.number (so_far c.loop-rest.draft) (so_far c.read.new.self) c.loop-rest.invariant.read c.cut_line.ensures.lines (rw c.in-Ok-false.field-0-test at c.in-Ok-false.ensures.line)

pub returns-clause-text : goal.returns-clause-text
returns-clause-text c =
    let none : c.loop-rest.rest.now ≡ [] = nil_from_length c.loop-rest.rest.now (grind arith) in
    ends c.args.text.now c.loop-rest.rest.now c.loop-rest.number (so_far c.loop-rest.draft) c.finish.result c.loop-rest.invariant.read none c.finish.ensures
