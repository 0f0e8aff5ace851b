use Rattle.std.proofs.Common.{inl, inr, ◌∙◌, ap, arith}
use Rattle.pg_connect.proofs.Calm.{calm_same}
use Rattle.pg_tool.specs.Required.{tls_error}
use Rattle.pg_tool.proofs.required.ask_in_vain.Goals as goal

pub ask-requires-clause-given : goal.ask-requires-clause-given
ask-requires-clause-given g c =
    let begin = g.L.Link.view c.args.link.now in
    omega (arith, (c.in-Ok.ensures.fresh begin).count)

pub returns-in-Ok-ask : goal.returns-in-Ok-ask
returns-in-Ok-ask g c =
    let begin = g.L.Link.view c.args.link.now in
    let ends = c.in-Ok-ask.ensures.answer begin (c.in-Ok.ensures.fresh begin) (calm_same begin) in
    inr (c.ask.new.request, c.ask.ensures.same ∙ c.in-Ok.ensures.limit, inl (c.in-Ok-ask.byte, ends.0, ends.1, c.error_of.ensures ∙ ap tls_error c.after_byte.ensures))

pub returns : goal.returns
returns g c =
    let begin = g.L.Link.view c.args.link.now in
    inr (c.ask.new.request, c.ask.ensures.same ∙ c.in-Ok.ensures.limit, inr (c.in-Err.ensures.answer begin (c.in-Ok.ensures.fresh begin) (calm_same begin)))
