use Rattle.pg_gen.proofs.SessionLaws.{scripts_more}
use Rattle.pg_gen.proofs.generated.new_scripts.Goals as goal

pub loop-handle-preserved : goal.loop-handle-preserved
loop-handle-preserved c =
    scripts_more c.args.n c.loop-handle.handle c.loop-handle.scripts.items c.push.new.self.items c.in_ok-new_script.field-0
    c.loop-handle.invariant c.in_ok-push.ensures.items c.in_ok-new_script.ensures
