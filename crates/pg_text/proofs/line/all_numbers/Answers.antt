use Rattle.std.proofs.Common.{ℕ, List, subst, sym}
use Rattle.pg_spec.specs.SessionText.{IsNumber}
use Rattle.pg_text.specs.Words.{TookAll}
use Rattle.pg_text.proofs.WordLaws.{number_ends}
use Rattle.pg_text.proofs.LineLaws.{all_refused, one_more}
use Rattle.pg_text.proofs.line.all_numbers.Goals as goal

pub returns-in-None : goal.returns-in-None
returns-in-None c =
    all_refused (IsNumber 4294967295) (number_ends 4294967295) c.loop-words.turns.items c.args.words.now c.loop-words.words c.number.new.self c.loop-words.invariant (sym c.loop-words-test.ensures) c.in-None.ensures

pub loop-words-preserved : goal.loop-words-preserved
loop-words-preserved c =
    subst (λ (items : List ℕ). TookAll (IsNumber 4294967295) items c.args.words.now c.number.new.self) (sym c.in_ok-push-in-Some.ensures.items)
    (one_more (IsNumber 4294967295) c.loop-words.turns.items c.in-Some.turn c.args.words.now c.loop-words.words c.number.new.self c.loop-words.invariant c.in-Some.ensures)
