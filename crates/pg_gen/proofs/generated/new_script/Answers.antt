use Rattle.pg_gen.proofs.SessionLaws.{commands_no, commands_yes}
use Rattle.pg_gen.proofs.generated.new_script.Goals as goal
use Rattle.pg_gen.proofs.generated.new_script.Goals.{then-i-handle+in_ok-new_command+in_ok-push, else-i-handle}

pub loop-i-preserved : goal.loop-i-preserved
loop-i-preserved c =
    elim c.if-i-handle.branch [
      | then-i-handle+in_ok-new_command+in_ok-push w ↦
          commands_yes c.args.handle c.loop-i.i c.loop-i.script.items c.if-i-handle.script.items w.in_ok-new_command.field-0
          w.if-i-handle.true c.loop-i.invariant (rw w.script-is w.in_ok-push.ensures.items) w.in_ok-new_command.ensures
      | else-i-handle w ↦
          commands_no c.args.handle c.loop-i.i c.loop-i.script.items c.if-i-handle.script.items w.if-i-handle.false c.loop-i.invariant (rw w.script-is)
    ]
