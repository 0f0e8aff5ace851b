use Rattle.pg_text.specs.Words.{IsHexWord}
use Rattle.pg_text.proofs.WordLaws.{hex_word_no_space, takes_word, takes_no_word}
use Rattle.pg_text.proofs.word.Words.hex.Goals as goal

pub returns-in_ok-found-in-Some : goal.returns-in_ok-found-in-Some
returns-in_ok-found-in-Some c =
    takes_word IsHexWord hex_word_no_space c.args.self.now c.word.new.self c.in-Some.digits.now _ c.in-Some.ensures c.in_ok-found-in-Some.ensures

pub returns-in-None : goal.returns-in-None
returns-in-None c = takes_no_word IsHexWord hex_word_no_space c.args.self.now c.word.new.self c.in-None.ensures
