use Rattle.std.proofs.Common.{◌∙◌}
use Rattle.pg_open.specs.Opening.{outside}
use Rattle.pg_open.proofs.OpenSteps.{first-poll, fresh-stands}
use Rattle.pg_open.proofs.open_stages.ConnectRaw.begin.Goals as goal

pub choose-requires : goal.choose-requires
choose-requires g c = record {
  «open» = (
    c.args.link,
    c.args.tls,
    fresh-stands (outside g.L.Link.view g.T.TlsConnect.connects g.T.TlsConnect.begins g.T.Future.TlsHandshake.polled g.T.Future.Stream.Link.view g.T.Future.Stream.TlsStream.binding) c.args.self.now.settings c.args.link c.args.tls
        c.new-choice.result c.in-Ok.ensures (c.new-choice.ensures.settings ∙ c.choice_settings.ensures) c.new-choice.ensures.stands,
  );
}

pub returns-in-Ok-clause-answer : goal.returns-in-Ok-clause-answer
returns-in-Ok-clause-answer g c =
    first-poll (outside g.L.Link.view g.T.TlsConnect.connects g.T.TlsConnect.begins g.T.Future.TlsHandshake.polled g.T.Future.Stream.Link.view g.T.Future.Stream.TlsStream.binding) c.args.self.now.settings c.args.link c.args.tls
    c.args.link c.args.tls c.new-choice.result c.choose.new.self.moved c.choose.new.self.stage c.choose.result c.new-choice.ensures.fresh
    (c.choose.ensures.answer c.args.link c.args.tls
    (fresh-stands (outside g.L.Link.view g.T.TlsConnect.connects g.T.TlsConnect.begins g.T.Future.TlsHandshake.polled g.T.Future.Stream.Link.view g.T.Future.Stream.TlsStream.binding) c.args.self.now.settings c.args.link c.args.tls
    c.new-choice.result c.in-Ok.ensures (c.new-choice.ensures.settings ∙ c.choice_settings.ensures) c.new-choice.ensures.stands))
