use Rattle.std.proofs.Common.{◌++◌, Ok, Err, ap, arith}
use Rattle.pg_server.proofs.ReachLaws.{head_is, front_len-some, front_len-none, front_len-bad}
use Rattle.pg_server.proofs.reach.front_len.Goals as goal

pub returns-in-Ok-Some : goal.returns-in-Ok-Some
returns-in-Ok-Some c =
    front_len-some (c.args.left.now ++ c.args.bytes.now) _ c.in-Ok-Some.field-0 c.in-Ok-Some.header c.len.result
    (head_is c.args.left.now c.args.bytes.now _ c.copy_more-n.new.out c.copy_more-n-2.new.out c.copy_more-n.result c.copy_more-n-2.result
    c.copy_more-n.ensures.copied c.copy_more-n-2.ensures.copied (omega (arith, c.copy_more-n.auto.out, c.copy_more-n-2.auto.out)))
    c.in-Ok-Some.field-0-is c.in-Ok-Some.ensures.incomplete c.in-Ok-Some.ensures.header c.in-Ok-Some.ensures.bad_length c.len.ensures

pub returns-in-Ok-None : goal.returns-in-Ok-None
returns-in-Ok-None c =
    front_len-none (c.args.left.now ++ c.args.bytes.now) _
    (head_is c.args.left.now c.args.bytes.now _ c.copy_more-n.new.out c.copy_more-n-2.new.out c.copy_more-n.result c.copy_more-n-2.result
    c.copy_more-n.ensures.copied c.copy_more-n-2.ensures.copied (omega (arith, c.copy_more-n.auto.out, c.copy_more-n-2.auto.out)))
    (c.in-Ok-None.ensures.incomplete.0 (ap Ok c.in-Ok-None.field-0-is))

pub returns-in-Err : goal.returns-in-Err
returns-in-Err c =
    front_len-bad (c.args.left.now ++ c.args.bytes.now) _
    (head_is c.args.left.now c.args.bytes.now _ c.copy_more-n.new.out c.copy_more-n-2.new.out c.copy_more-n.result c.copy_more-n-2.result
    c.copy_more-n.ensures.copied c.copy_more-n-2.ensures.copied (omega (arith, c.copy_more-n.auto.out, c.copy_more-n-2.auto.out)))
    (c.in-Err.ensures.bad_length.0 (ap Err (c.in-Err.ensures.only)))
