use Rattle.std.proofs.Common.{◌≡◌, ◌<◌, length, take, sym, refl, ◌∙◌, arith}
use Rattle.std.proofs.lemmas.List.{take_more_set, take_all, length-replicate, length-set}
use Rattle.pg_spec.specs.Passwords.{xor_bytes}
use Rattle.pg_scram.proofs.XorLemmas.{xor_bytes-more, length-xor_bytes}
use Rattle.pg_scram.proofs.mac.xor.Goals as goal

pub loop-i-init : goal.loop-i-init
loop-i-init g c = record {
  full = length-replicate g.row.N 0 ∙ sym c.told-a;
  joined = refl;
}

pub loop-i-preserved : goal.loop-i-preserved
loop-i-preserved g c =
    let full = c.loop-i.invariant.full in
    let in_out : c.loop-i.i < length c.loop-i.out = omega arith in
    let in_a : c.loop-i.i < length c.args.a.now = omega arith in
    let as_long : length c.args.a.now ≡ length c.args.b.now = omega arith in
    record {
      full = length-set c.loop-i.out c.loop-i.i _ ∙ full;
      joined = take_more_set c.loop-i.out c.loop-i.i _ in_out ∙ (rw c.loop-i.invariant.joined (sym (xor_bytes-more c.args.a.now c.args.b.now c.loop-i.i in_a as_long)));
    }

pub returns : goal.returns
returns g c =
    let a = c.args.a.now in
    let as_long : length a ≡ length c.args.b.now = omega arith in
    let whole : c.loop-i.i ≡ length a = omega arith in
    let done : take (length a) c.loop-i.out ≡ take (length a) (xor_bytes a c.args.b.now) = rw (← whole) c.loop-i.invariant.joined in
    sym (take_all (length a) c.loop-i.out (omega arith)) ∙ done ∙ take_all (length a) (xor_bytes a c.args.b.now) (let l = length-xor_bytes a c.args.b.now as_long in omega arith)
