use Rattle.std.proofs.Common.{refl, sym}
use Rattle.pg_scram.proofs.Base64Laws.{decoded, undecoded}
use Rattle.pg_scram.proofs.encoded.from_base64.Goals as goal

pub returns-in-Ok : goal.returns-in-Ok
returns-in-Ok c = sym (decoded c.args.text.now _ c.in-Ok.ensures.bytes (c.in-Ok.ensures.exact (refl, refl)))

pub returns-in-Err-DecodeError : goal.returns-in-Err-DecodeError
returns-in-Err-DecodeError c = sym (undecoded c.args.text.now _ (rw c.in-Err-DecodeError.field-0-is at c.in-Err-DecodeError.ensures.err))
