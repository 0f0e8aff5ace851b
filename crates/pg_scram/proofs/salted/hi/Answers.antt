use Rattle.std.proofs.Common.{sym, ap, ◌∙◌}
use Rattle.sha2.proofs.Facts256.{length-sha256}
use Rattle.pg_spec.specs.Passwords.{hmac, hi_value}
use Rattle.pg_scram.proofs.XorLemmas.{xor_bytes-zeros}
use Rattle.pg_scram.proofs.salted.hi.Goals as goal

pub values-init : goal.values-init
values-init c =
    let first = hi_value c.args.password.now c.args.salt.now 0 in
    record {
      next = ap (hmac c.args.password.now) c.in_ok-value.ensures;
      joined = c.in_ok-value.ensures ∙ sym (xor_bytes-zeros first 32 (length-sha256 _));
    }
