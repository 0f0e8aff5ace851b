use Rattle.pg_text.specs.Modes.{level_word}
use Rattle.pg_text.proofs.LevelLaws.{levels, another_there, nothing_there}
use Rattle.pg_text.proofs.levels.next_level.Goals as goal

pub returns-in_default : goal.returns-in_default
returns-in_default c = nothing_there level_word levels c.args.words.now c.copy-ahead.result c.word.new.self c.copy-ahead.ensures c.in_default.ensures

pub returns-in_default-level_of : goal.returns-in_default-level_of
returns-in_default-level_of c =
    another_there level_word levels c.args.words.now c.copy-ahead.result c.word.new.self c.in-Some.word.now c.copy-ahead.ensures c.in-Some.ensures c.in_default-level_of.ensures
