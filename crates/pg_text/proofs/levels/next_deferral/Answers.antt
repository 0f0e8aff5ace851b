use Rattle.pg_text.specs.Modes.{deferral_word}
use Rattle.pg_text.proofs.LevelLaws.{deferrals, another_there, nothing_there}
use Rattle.pg_text.proofs.levels.next_deferral.Goals as goal

pub returns-in_default : goal.returns-in_default
returns-in_default c = nothing_there deferral_word deferrals c.args.words.now c.copy-ahead.result c.word.new.self c.copy-ahead.ensures c.in_default.ensures

pub returns-in_default-deferral_of : goal.returns-in_default-deferral_of
returns-in_default-deferral_of c =
    another_there deferral_word deferrals c.args.words.now c.copy-ahead.result c.word.new.self c.in-Some.word.now c.copy-ahead.ensures c.in-Some.ensures c.in_default-deferral_of.ensures
