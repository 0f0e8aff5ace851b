use Rattle.pg_text.specs.SessionText.{IsTypeName}
use Rattle.pg_text.proofs.TypeNames.{type_name_no_space}
use Rattle.pg_text.proofs.WordLaws.{takes_word, takes_no_word}
use Rattle.pg_text.proofs.word.Words.type_name.Goals as goal

pub returns-in-Some : goal.returns-in-Some
returns-in-Some c =
    takes_word IsTypeName type_name_no_space c.args.self.now c.word.new.self c.in-Some.name.now c.oid_named.result c.in-Some.ensures c.oid_named.ensures

pub returns-in-None : goal.returns-in-None
returns-in-None c = takes_no_word IsTypeName type_name_no_space c.args.self.now c.word.new.self c.in-None.ensures
