use Rattle.std.proofs.Common.{◌+◌, Some, refl}
use Rattle.std.proofs.lemmas.List.{take_rest}
use Rattle.pg_text.proofs.WordLaws.{word_before, word_all}
use Rattle.pg_text.proofs.word.split_word.Goals as goal

pub returns-in-Some : goal.returns-in-Some
returns-in-Some c =
    word_before (Some c.args.bytes.now) c.args.bytes.now c.in-Some.at _ refl (take_rest c.args.bytes.now (c.in-Some.at + 1)) c.in-Some.ensures.0 c.in-Some.ensures.1 c.in-Some.ensures.2

pub returns-in-None : goal.returns-in-None
returns-in-None c = word_all (Some c.args.bytes.now) c.args.bytes.now refl c.in-None.ensures
