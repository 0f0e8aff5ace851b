use Rattle.std.proofs.Common.{false, Some, Err, sym, ap, subst, ◌∙◌, ◌||◌, inr}
use Rattle.futures.specs.declared.task.Poll.TheVariants.{Ready}
use Rattle.pg_types.specs.declared.error.Error.{Error}
use Rattle.pg_connect.specs.Answers.{IsWithinPoll}
use Rattle.std.specs.Prelude.{is_some}
use Rattle.pg_connect.specs.declared.ends.TurnEnd.TheVariants as turn
use Rattle.pg_connect.specs.declared.streams.Streams.{Streams}
use Rattle.pg_connect.proofs.Turned.{turned_on, turned_over, turned_failed}
use Rattle.pg_connect.proofs.Within.{within-poll}
use Rattle.pg_connect.proofs.streams.Streams.poll_message.Goals as goal

pub returns-in-Ok-Handed-clause-answer : goal.returns-in-Ok-Handed-clause-answer
returns-in-Ok-Handed-clause-answer g c =
    let w = c.in-Ok-Handed in
    turned_on _ _ _ c.args.self.now c.begin.new.self c.turn.new.self (g.L.Link.view c.args.link.now) (g.L.Link.view c.turn.new.link) (turn.Handed w.message) w.field-0
    (sym c.is_over-over.ensures ∙ c.if-over.false) c.begin.ensures w.field-0-is w.ensures.unread w.ensures.at_end w.ensures.turns

pub returns-in-Ok-Waits-clause-answer : goal.returns-in-Ok-Waits-clause-answer
returns-in-Ok-Waits-clause-answer g c =
    let w = c.in-Ok-Waits in
    turned_on _ _ _ c.args.self.now c.begin.new.self c.turn.new.self (g.L.Link.view c.args.link.now) (g.L.Link.view c.turn.new.link) turn.Waits w.field-0
    (sym c.is_over-over.ensures ∙ c.if-over.false) c.begin.ensures w.field-0-is w.ensures.unread w.ensures.at_end w.ensures.turns

pub returns-in-Ok-Over-clause-answer : goal.returns-in-Ok-Over-clause-answer
returns-in-Ok-Over-clause-answer g c =
    let w = c.in-Ok-Over in
    turned_over _ _ _ c.args.self.now c.begin.new.self c.turn.new.self c.end.new.self (g.L.Link.view c.args.link.now) (g.L.Link.view c.turn.new.link) turn.Over w.field-0
    (sym c.is_over-over.ensures ∙ c.if-over.false) c.begin.ensures w.field-0-is c.end.ensures w.ensures.turns

pub returns-in-Err-clause-answer : goal.returns-in-Err-clause-answer
returns-in-Err-clause-answer g c =
    let w = c.in-Err in (
      ap (λ (x : Streams). (x.ended || x.at_end) || is_some x.unread) c.end-in-Err.ensures,
      inr (turned_failed _ _ _ _ c.args.self.now c.begin.new.self c.turn.new.self c.end-in-Err.new.self (g.L.Link.view c.args.link.now) (g.L.Link.view c.turn.new.link) w.fault c.into_error.result
          c.fail.result (sym c.is_over-over.ensures ∙ c.if-over.false) c.begin.ensures c.end-in-Err.ensures c.into_error.ensures w.ensures.turns c.fail.ensures.event),
    )

pub returns-in-Err-clause-limit_kept : goal.returns-in-Err-clause-limit_kept
returns-in-Err-clause-limit_kept g c was =
    subst (λ (e : Error). IsWithinPoll c.end-in-Err.new.self (Ready (Some (Err e)))) (sym c.into_error.ensures)
    (within-poll c.turn.new.self c.end-in-Err.new.self c.in-Err.fault c.end-in-Err.ensures c.in-Err.ensures.within)
