use Rattle.std.proofs.Common.{sym, ◌∙◌}
use Rattle.pg_wire.proofs.HandedOn.{handed-on}
use Rattle.pg_connect.proofs.Calm.{calm_then}
use Rattle.pg_connect.proofs.Joining.{keeps_then}
use Rattle.pg_tool.proofs.Requiring.{ask_answers, ask_stops}
use Rattle.pg_play.proofs.Waiting.{counted_so}
use Rattle.pg_tool.proofs.required.ask.Goals as goal

pub returns-in-Ready-clause-answer : goal.returns-in-Ready-clause-answer
returns-in-Ready-clause-answer g c begin o calm =
    let i = g.L.Link.view c.args.link.now in
    let k = g.L.Link.view c.polls.link in
    let n = g.L.Link.view c.poll.new.link in
    ask_answers begin n c.poll.new.self c.in-Ready.answer (c.in-Ready.ensures.answer begin (c.polls.invariant.asking begin o))
    (calm_then begin i n calm (calm_then i k n c.polls.invariant.calm c.poll.ensures.no_lull))

pub returns-in_err-waited-clause-answer : goal.returns-in_err-waited-clause-answer
returns-in_err-waited-clause-answer g c begin o calm =
    let k = g.L.Link.view c.polls.link in
    let n = g.L.Link.view c.poll.new.link in
    let b = g.L.Link.view c.pause.new.link in
    let s = c.poll.new.self in
    let e = c.in_err-waited.field-0.0 in
    let end = c.in_err-waited.ensures.end in
    let asking = c.in-Pending.ensures.answer begin (c.polls.invariant.asking begin o) in
    rw (handed-on c.from_residual.result e c.from_residual.ensures.1)
    (ask_stops begin k n b s c.polls.waited e (keeps_then begin (g.L.Link.view c.args.link.now) k o.link c.polls.invariant.link) asking c.in-Pending.ensures.within c.in-Pending.ensures.pending c.in-Pending.ensures.quiet
    (calm_then begin (g.L.Link.view c.args.link.now) n calm (calm_then (g.L.Link.view c.args.link.now) k n c.polls.invariant.calm c.poll.ensures.no_lull)) (sym c.moved.ensures ∙ end.0) c.polls.invariant.promised
    c.in_err-waited.ensures.bytes c.in_err-waited.ensures.writing c.in_err-waited.ensures.keeps
    (counted_so c.quiet-before.result k.quiet c.quiet-after.result n.quiet c.polls.waited n b e c.quiet-before.ensures c.quiet-after.ensures end.1))
