use Rattle.pg_text.proofs.LineLaws.{prepare_slotless, prepare_some, prepare_textless, prepare_typeless}
use Rattle.pg_text.proofs.line.prepare_line.Goals as goal

pub returns-in_default-clause-line : goal.returns-in_default-clause-line
returns-in_default-clause-line c = prepare_slotless c.args.words.now c.number.new.self c.in_default.ensures

pub returns-in_default-2-clause-line : goal.returns-in_default-2-clause-line
returns-in_default-2-clause-line c =
    prepare_textless c.args.words.now c.number.new.self c.utf8_text.new.words c.in-Some.slot c.in-Some.ensures (rw c.in_default-2.is at c.in_ok-text.ensures)

pub returns-in_default-3-clause-line : goal.returns-in_default-3-clause-line
returns-in_default-3-clause-line c =
    let quoted = rw c.in-Some-2.is at c.in_ok-text.ensures in
    prepare_typeless c.args.words.now c.number.new.self c.utf8_text.new.words c.in-Some.slot c.in-Some-2.text c.in-Some.ensures quoted (rw c.in_default-3.is at c.in_ok-types.ensures)

pub returns-clause-line : goal.returns-clause-line
returns-clause-line c =
    let quoted = rw c.in-Some-2.is at c.in_ok-text.ensures in
    let named = rw c.in-Some-3.is at c.in_ok-types.ensures in
    prepare_some c.args.words.now c.number.new.self c.utf8_text.new.words c.in-Some.slot c.in-Some-2.text c.in-Some-3.types.items c.new.result c.new.ensures c.in-Some.ensures quoted named
