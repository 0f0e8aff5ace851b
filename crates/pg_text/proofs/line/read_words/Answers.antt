use Rattle.pg_text.proofs.LineLaws.{line_found, line_unknown, line_wordless}
use Rattle.pg_text.proofs.line.read_words.Goals as goal

pub returns-in_ok-read-in-Some-keyword_of-clause-line : goal.returns-in_ok-read-in-Some-keyword_of-clause-line
returns-in_ok-read-in-Some-keyword_of-clause-line c =
    let taken = rw c.new-words.ensures at c.in-Some.ensures in
    line_found c.args.line.now c.in-Some.word.now c.word.new.self c.in-Some-keyword_of.keyword _ c.requires taken c.in-Some-keyword_of.ensures c.in_ok-read-in-Some-keyword_of.ensures.line

pub returns-in-None-keyword_of-clause-line : goal.returns-in-None-keyword_of-clause-line
returns-in-None-keyword_of-clause-line c =
    let taken = rw c.new-words.ensures at c.in-Some.ensures in
    line_unknown c.args.line.now c.in-Some.word.now c.word.new.self c.requires taken c.in-None-keyword_of.ensures

pub returns-in-None-clause-line : goal.returns-in-None-clause-line
returns-in-None-clause-line c = line_wordless c.args.line.now c.word.new.self c.requires (rw c.new-words.ensures at c.in-None.ensures)
