use Rattle.pg_spec.specs.SessionText.{IsNumber}
use Rattle.pg_text.proofs.WordLaws.{number_no_space, takes_word, takes_no_word}
use Rattle.pg_text.proofs.word.Words.number.Goals as goal

pub returns-in-Some : goal.returns-in-Some
returns-in-Some c =
    takes_word (IsNumber c.args.most) (number_no_space c.args.most) c.args.self.now c.word.new.self c.in-Some.digits.now c.number_of.result c.in-Some.ensures c.number_of.ensures

pub returns-in-None : goal.returns-in-None
returns-in-None c = takes_no_word (IsNumber c.args.most) (number_no_space c.args.most) c.args.self.now c.word.new.self c.in-None.ensures
