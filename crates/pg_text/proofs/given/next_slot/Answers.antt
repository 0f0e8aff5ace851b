use Rattle.pg_text.specs.SessionText.{IsSlot}
use Rattle.pg_text.proofs.GivenLaws.{slot_no_space}
use Rattle.pg_text.proofs.WordLaws.{takes_no_word, takes_word}
use Rattle.pg_text.proofs.given.next_slot.Goals as goal

pub returns-in-Some : goal.returns-in-Some
returns-in-Some c = takes_word IsSlot slot_no_space c.args.words.now c.word.new.self c.in-Some.word.now c.slot_of.result c.in-Some.ensures c.slot_of.ensures

pub returns-in-None : goal.returns-in-None
returns-in-None c = takes_no_word IsSlot slot_no_space c.args.words.now c.word.new.self c.in-None.ensures
