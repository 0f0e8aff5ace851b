use Rattle.std.proofs.Common.{suc, ◌∙◌, subst}
use Rattle.pg_open.specs.Opening.{outside}
use Rattle.pg_open.specs.declared.open_stages.OpenSettings.{OpenSettings}
use Rattle.pg_drive.specs.Openings.{OpenEnds, PollsOn}
use Rattle.std.proofs.Common.{Ok}
use Rattle.pg_drive.proofs.opening.open.Goals as goal

pub returns-in-Ready-clause-opens : goal.returns-in-Ready-clause-opens
returns-in-Ready-clause-opens g c link tls stands =
    let o = (outside g.L.Link.view g.T.TlsConnect.connects g.T.TlsConnect.begins g.T.Future.TlsHandshake.polled g.T.Future.Stream.Link.view g.T.Future.Stream.TlsStream.binding) in
    let was = c.polls.invariant.polls link tls stands in
    record {
      count = was.1.0;
      lull = c.polls.lull;
      last = c.polls.raw.stage;
      polls = was.1.1;
      ends = subst (λ (w : OpenSettings). OpenEnds o w link tls c.polls.lull c.polls.raw.stage c.step.new.raw.stage c.in-Ready.answer) c.polls.invariant.same (c.in-Ready.ensures.step link tls was.0);
    }

pub polls-preserved : goal.polls-preserved
polls-preserved g c =
    let o = (outside g.L.Link.view g.T.TlsConnect.connects g.T.TlsConnect.begins g.T.Future.TlsHandshake.polled g.T.Future.Stream.Link.view g.T.Future.Stream.TlsStream.binding) in
    record {
      same = c.step.ensures.same ∙ c.polls.invariant.same;
      opening = c.in-Pending.ensures.opening;
      polls = λ link tls stands.
          let was = c.polls.invariant.polls link tls stands in (
            c.in-Pending.ensures.stands link tls was.0,
            (
              suc was.1.0,
              (
                c.polls.lull,
                c.polls.raw.stage,
                was.1.1,
                subst (λ (w : OpenSettings). PollsOn o w link tls c.polls.lull c.polls.raw.stage c.step.new.raw.stage (Ok c.step.new.lull)) c.polls.invariant.same (c.in-Pending.ensures.step link tls was.0),
              ),
            ),
          );
    }
