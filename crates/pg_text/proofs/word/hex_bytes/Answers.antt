use Rattle.std.proofs.Common.{arith}
use Rattle.pg_text.proofs.WordLaws.{some_hex}
use Rattle.pg_text.proofs.word.hex_bytes.Goals as goal

pub returns : goal.returns
returns c = some_hex _ c.args.digits.now c.hex_of.result (grind arith) c.hex_of.ensures
