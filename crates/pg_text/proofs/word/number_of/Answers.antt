use Rattle.pg_text.proofs.WordLaws.{digits_each, digits_utf8}
use Rattle.pg_text.proofs.word.number_of.Goals as goal

pub returns-then-not-are_digits : goal.returns-then-not-are_digits
returns-then-not-are_digits c = λ x h. let digits = c.are_digits.ensures.1 (digits_each c.args.digits.now h.0.1) in cc

pub returns-in_default : goal.returns-in_default
returns-in_default c = λ x h. c.in_default.ensures.cases.0 (digits_utf8 c.args.digits.now h.0.1)
