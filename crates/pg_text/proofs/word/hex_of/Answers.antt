use Rattle.std.proofs.Common.{inl, inr}
use Rattle.pg_text.proofs.WordLaws.{hex_refused, hex_sound}
use Rattle.pg_text.proofs.word.hex_of.Goals as goal

pub returns-in-Ok : goal.returns-in-Ok
returns-in-Ok c = hex_sound c.args.digits.now c.in-Ok.bytes.items c.in-Ok.ensures.ok

pub returns-in_default : goal.returns-in_default
returns-in_default c = λ x h. elim c.in-Err.ensures.err [
  | inl memory ↦ c.in_default.not-OutOfMemory memory
  | inr fault ↦ hex_refused c.args.digits.now c.in-Err.fault fault x h
]
