use Rattle.pg_gen.proofs.ReplyBytes.{notified_written, unnotified_written}
use Rattle.pg_gen.proofs.reply.put_front.Goals as goal
use Rattle.pg_gen.proofs.reply.put_front.Goals.{then-notified+in_ok-put_notification, else-notified}

pub returns : goal.returns
returns c =
    elim c.if-notified.branch [
      | then-notified+in_ok-put_notification w ↦
          notified_written c.args.out.now.items c.args.number.now c.if-notified.out.items c.extend_from_slice.new.self.items c.args.notified
          w.if-notified.true (rw w.out-is w.in_ok-put_notification.ensures) c.in_ok-extend_from_slice.ensures.items
      | else-notified w ↦
          unnotified_written c.args.out.now.items c.args.number.now c.extend_from_slice.new.self.items c.args.notified
          w.if-notified.false (rw (← w.out-is) c.in_ok-extend_from_slice.ensures.items)
    ]
