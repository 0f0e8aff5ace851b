use Rattle.std.proofs.Common.{string_bytes}
use Rattle.pg_config.proofs.Runs.{text_more}
use Rattle.pg_config.proofs.key_value.text_of.Goals as goal

pub loop-c-preserved : goal.loop-c-preserved
loop-c-preserved c =
    let longer = c.in_ok-push.ensures.bytes in
    text_more c.args.characters.now c.loop-c.c-index c.c-item.result (string_bytes c.loop-c.text) (string_bytes c.push.new.self) c.loop-c-test.true c.c-item.is c.loop-c.invariant longer
