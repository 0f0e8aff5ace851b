use Rattle.std.proofs.Common.{rules, ◌≡◌, true, false, length, slice_get, is_some, Some, IfOk, inl, refl, ap, ◌∙◌}
use Rattle.pg_spec.specs.Stamps.{stamped}
use Rattle.pg_spec.specs.declared.stamps.Stamp.{Stamp}
use Rattle.pg_play.specs.Handles.{PollsRunning, view_of}
use Rattle.pg_play.proofs.Turned.{mapped_none, mapped_some, turn_polls, turn_starts}
use Rattle.pg_session.specs.declared.handle_turn.Polling.TheVariants as polling
use Rattle.pg_play.proofs.handle.Handle+S+S+Answer+S+Slots.turn.Goals as goal

pub returns-then-is_some-clause-turns : goal.returns-then-is_some-clause-turns
returns-then-is_some-clause-turns g c =
    let self = c.args.self.now in
    let stamp : Stamp = record { owner = c.args.owner; command = length self.answers.items; turn = c.args.turn } in
    let some : is_some self.running ≡ true = search rules in
    let stands : slice_get c.args.script.now (length self.answers.items) ≡ Some c.in-Some.command.now = search rules in
    let stamp_is : c.new-stamp.result ≡ stamp = c.new-stamp.ensures ∙ ap (λ n. stamped c.args.owner n c.args.turn) c.in_ok-answered.ensures in
    let polls : IfOk c.poll.result (PollsRunning g.D.Desk.becomes g.S.Spoken.speech stamp c.in-Some.command.now c.args.desk.now (view_of g.S.Polled.place self) c.poll.new.desk (view_of g.S.Polled.place c.poll.new.self) polling.Waits) =
    rw stamp_is at c.poll.ensures.ends in
    turn_polls g.S.Spoken.speech g.S.Polled.place g.D.Desk.becomes c.args.script.now stamp c.args.desk.now (view_of g.S.Polled.place self) c.poll.new.desk (view_of g.S.Polled.place c.poll.new.self) c.in-Some.command.now c.poll.result
    (mapped_some g.S.Spoken.speech g.S.Polled.place g.S.Polled.place self.running some) stands polls

pub returns-clause-turns : goal.returns-clause-turns
returns-clause-turns g c =
    let self = c.args.self.now in
    let stamp : Stamp = record { owner = c.args.owner; command = length self.answers.items; turn = c.args.turn } in
    let none : is_some self.running ≡ false = search rules in
    let stands : slice_get c.args.script.now (length self.answers.items) ≡ Some c.in-Some.command.now = search rules in
    let stamp_is : c.new-stamp.result ≡ stamp = c.new-stamp.ensures ∙ ap (λ n. stamped c.args.owner n c.args.turn) c.in_ok-answered.ensures in
    turn_starts g.S.Spoken.speech g.S.Polled.place g.D.Desk.becomes c.args.script.now stamp c.args.desk.now (view_of g.S.Polled.place self) (record (view_of g.S.Polled.place self) { running = Some (g.S.Polled.place c.in-Ok.state) }) c.poll-2.new.desk (view_of g.S.Polled.place c.poll-2.new.self)
    c.in-Some.command.now (g.S.Polled.place c.in-Ok.state) c.poll-2.result
    (mapped_none g.S.Spoken.speech g.S.Polled.place g.S.Polled.place self.running none) refl stands (inl c.in-Ok.ensures.asks) (rw stamp_is at c.poll-2.ensures.ends)
