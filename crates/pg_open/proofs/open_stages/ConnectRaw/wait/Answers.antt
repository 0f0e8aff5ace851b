use Rattle.std.proofs.Common.{refl}
use Rattle.pg_open.specs.Opening.{outside}
use Rattle.pg_open.specs.declared.open_stages.OpenStage.TheVariants.{Choosing, Starting}
use Rattle.pg_open.proofs.OpenWaits.{waits-open, waits-stays}
use Rattle.pg_open.proofs.open_stages.ConnectRaw.wait.Goals as goal

pub returns-in-Choosing-clause-open : goal.returns-in-Choosing-clause-open
returns-in-Choosing-clause-open g c =
    waits-open (outside g.L.Link.view g.T.TlsConnect.connects g.T.TlsConnect.begins g.T.Future.TlsHandshake.polled g.T.Future.Stream.Link.view g.T.Future.Stream.TlsStream.binding) c.args.self.now.settings _ (Choosing c.in-Choosing.choice) (Choosing c.wait-in-Choosing.new.self) c.wait-in-Choosing.result c.in-Choosing.is
    (c.wait-in-Choosing.ensures.same, c.wait-in-Choosing.ensures.waits) c.requires.open

pub returns-in-Starting-clause-open : goal.returns-in-Starting-clause-open
returns-in-Starting-clause-open g c =
    waits-open (outside g.L.Link.view g.T.TlsConnect.connects g.T.TlsConnect.begins g.T.Future.TlsHandshake.polled g.T.Future.Stream.Link.view g.T.Future.Stream.TlsStream.binding) c.args.self.now.settings _ (Starting c.in-Starting.starting) (Starting (record c.in-Starting.starting { link = c.wait-in-Starting.new.self })) c.wait-in-Starting.result c.in-Starting.is
    (refl, refl, c.wait-in-Starting.ensures.answer, c.wait-in-Starting.ensures.keeps) c.requires.open

pub returns-in-Starting-clause-stays : goal.returns-in-Starting-clause-stays
returns-in-Starting-clause-stays g c =
    waits-stays (outside g.L.Link.view g.T.TlsConnect.connects g.T.TlsConnect.begins g.T.Future.TlsHandshake.polled g.T.Future.Stream.Link.view g.T.Future.Stream.TlsStream.binding) c.args.self.now.settings _ (Starting c.in-Starting.starting) (Starting (record c.in-Starting.starting { link = c.wait-in-Starting.new.self })) c.wait-in-Starting.result c.in-Starting.is
    (refl, refl, c.wait-in-Starting.ensures.answer, c.wait-in-Starting.ensures.keeps)
