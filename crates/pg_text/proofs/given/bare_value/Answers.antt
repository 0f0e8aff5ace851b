use Rattle.pg_text.specs.Words.{IsBareValue}
use Rattle.pg_text.proofs.GivenLaws.{bare_no_space}
use Rattle.pg_text.proofs.WordLaws.{takes_no_word, takes_word}
use Rattle.pg_text.proofs.given.bare_value.Goals as goal

pub returns-in_ok-found-in-Some : goal.returns-in_ok-found-in-Some
returns-in_ok-found-in-Some c = takes_word IsBareValue bare_no_space c.args.words.now c.word.new.self c.in-Some.word.now _ c.in-Some.ensures c.in_ok-found-in-Some.ensures

pub returns-in-None : goal.returns-in-None
returns-in-None c = takes_no_word IsBareValue bare_no_space c.args.words.now c.word.new.self c.in-None.ensures
