use Rattle.pg_text.specs.Modes.{access_word}
use Rattle.pg_text.proofs.LevelLaws.{accesses, another_there, nothing_there}
use Rattle.pg_text.proofs.levels.next_access.Goals as goal

pub returns-in_default : goal.returns-in_default
returns-in_default c = nothing_there access_word accesses c.args.words.now c.copy-ahead.result c.word.new.self c.copy-ahead.ensures c.in_default.ensures

pub returns-in_default-access_of : goal.returns-in_default-access_of
returns-in_default-access_of c =
    another_there access_word accesses c.args.words.now c.copy-ahead.result c.word.new.self c.in-Some.word.now c.copy-ahead.ensures c.in-Some.ensures c.in_default-access_of.ensures
