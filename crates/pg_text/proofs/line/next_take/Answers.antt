use Rattle.std.proofs.Common.{◌∙◌, sym}
use Rattle.pg_text.proofs.WordLaws.{other_text, same_text}
use Rattle.pg_text.proofs.LineLaws.{take_none, take_number, take_other}
use Rattle.pg_text.proofs.line.next_take.Goals as goal

pub returns-then-eq : goal.returns-then-eq
returns-then-eq c =
    take_number c.args.words.now c.word.new.self c.number.new.self c.in-Some.word.now c.number.result c.in-Some.ensures
    (same_text c.in-Some.word.now _ (sym c.if-eq.ensures) ∙ c.as_slice.ensures) c.number.ensures

pub returns-else-eq : goal.returns-else-eq
returns-else-eq c = take_other c.args.words.now c.word.new.self c.word.new.self c.in-Some.word.now c.in-Some.ensures (λ same. other_text c.in-Some.word.now _ (sym c.if-eq.ensures) (same ∙ sym c.as_slice.ensures))

pub returns-in-None : goal.returns-in-None
returns-in-None c = take_none c.args.words.now c.word.new.self c.in-None.ensures
