use Rattle.pg_open.specs.Opening.{outside}
use Rattle.pg_open.specs.declared.open_stages.OpenStage.TheVariants.{Choosing, Fresh, Starting}
use Rattle.pg_open.proofs.OpenSteps.{goes-answers, going-of, met-answers, still-open-as}
use Rattle.pg_open.proofs.open_stages.ConnectRaw.poll.Goals as goal

pub returns-in-Fresh-clause-open : goal.returns-in-Fresh-clause-open
returns-in-Fresh-clause-open g c =
    still-open-as (outside g.L.Link.view g.T.TlsConnect.connects g.T.TlsConnect.begins g.T.Future.TlsHandshake.polled g.T.Future.Stream.Link.view g.T.Future.Stream.TlsStream.binding) c.args.self.now.settings c.in-Fresh.link c.in-Fresh.tls
    c.begin.new.self.settings c.begin.new.self.moved (Fresh c.in-Fresh.link c.in-Fresh.tls) c.begin.new.self.stage c.begin.result c.begin.ensures.same c.begin.ensures.answer

pub returns-in-Choosing-clause-answer : goal.returns-in-Choosing-clause-answer
returns-in-Choosing-clause-answer g c link tls =
    met-answers (outside g.L.Link.view g.T.TlsConnect.connects g.T.TlsConnect.begins g.T.Future.TlsHandshake.polled g.T.Future.Stream.Link.view g.T.Future.Stream.TlsStream.binding) c.args.self.now.settings link tls
    c.args.self.now.stage c.replace.result (Choosing c.in-Choosing.choice) c.choose.new.self.stage c.choose.new.self.moved c.choose.result c.replace.ensures.value c.in-Choosing.is
    (c.choose.ensures.answer link tls)

pub returns-in-Choosing-clause-open : goal.returns-in-Choosing-clause-open
returns-in-Choosing-clause-open g c =
    let link = c.requires.open.0 in
    let tls = c.requires.open.1 in
    still-open-as (outside g.L.Link.view g.T.TlsConnect.connects g.T.TlsConnect.begins g.T.Future.TlsHandshake.polled g.T.Future.Stream.Link.view g.T.Future.Stream.TlsStream.binding) c.args.self.now.settings link tls
    c.choose.new.self.settings c.choose.new.self.moved c.args.self.now.stage c.choose.new.self.stage c.choose.result c.choose.ensures.same
    (met-answers (outside g.L.Link.view g.T.TlsConnect.connects g.T.TlsConnect.begins g.T.Future.TlsHandshake.polled g.T.Future.Stream.Link.view g.T.Future.Stream.TlsStream.binding) c.args.self.now.settings link tls
    c.args.self.now.stage c.replace.result (Choosing c.in-Choosing.choice) c.choose.new.self.stage c.choose.new.self.moved c.choose.result c.replace.ensures.value c.in-Choosing.is
    (c.choose.ensures.answer link tls) c.requires.open.2)

pub go_on-requires : goal.go_on-requires
go_on-requires g c = record {
  going = going-of (outside g.L.Link.view g.T.TlsConnect.connects g.T.TlsConnect.begins g.T.Future.TlsHandshake.polled g.T.Future.Stream.Link.view g.T.Future.Stream.TlsStream.binding) c.args.self.now.settings c.args.self.now.stage c.replace.result c.in-Starting.starting c.replace.ensures.value c.in-Starting.is c.requires.open;
}

pub returns-in-Starting-clause-answer : goal.returns-in-Starting-clause-answer
returns-in-Starting-clause-answer g c link tls =
    met-answers (outside g.L.Link.view g.T.TlsConnect.connects g.T.TlsConnect.begins g.T.Future.TlsHandshake.polled g.T.Future.Stream.Link.view g.T.Future.Stream.TlsStream.binding) c.args.self.now.settings link tls
    c.args.self.now.stage c.replace.result (Starting c.in-Starting.starting) c.go_on.new.self.stage c.go_on.new.self.moved c.go_on.result c.replace.ensures.value c.in-Starting.is
    (goes-answers (outside g.L.Link.view g.T.TlsConnect.connects g.T.TlsConnect.begins g.T.Future.TlsHandshake.polled g.T.Future.Stream.Link.view g.T.Future.Stream.TlsStream.binding) c.args.self.now.settings link tls
    c.in-Starting.starting c.go_on.new.self.moved c.go_on.new.self.stage c.go_on.result (c.go_on.ensures.answer link tls) c.go_on.ensures.nearer)

pub returns-in-Starting-clause-open : goal.returns-in-Starting-clause-open
returns-in-Starting-clause-open g c =
    let link = c.requires.open.0 in
    let tls = c.requires.open.1 in
    still-open-as (outside g.L.Link.view g.T.TlsConnect.connects g.T.TlsConnect.begins g.T.Future.TlsHandshake.polled g.T.Future.Stream.Link.view g.T.Future.Stream.TlsStream.binding) c.args.self.now.settings link tls
    c.go_on.new.self.settings c.go_on.new.self.moved c.args.self.now.stage c.go_on.new.self.stage c.go_on.result c.go_on.ensures.same
    (met-answers (outside g.L.Link.view g.T.TlsConnect.connects g.T.TlsConnect.begins g.T.Future.TlsHandshake.polled g.T.Future.Stream.Link.view g.T.Future.Stream.TlsStream.binding) c.args.self.now.settings link tls
    c.args.self.now.stage c.replace.result (Starting c.in-Starting.starting) c.go_on.new.self.stage c.go_on.new.self.moved c.go_on.result c.replace.ensures.value c.in-Starting.is
    (goes-answers (outside g.L.Link.view g.T.TlsConnect.connects g.T.TlsConnect.begins g.T.Future.TlsHandshake.polled g.T.Future.Stream.Link.view g.T.Future.Stream.TlsStream.binding) c.args.self.now.settings link tls
    c.in-Starting.starting c.go_on.new.self.moved c.go_on.new.self.stage c.go_on.result (c.go_on.ensures.answer link tls) c.go_on.ensures.nearer) c.requires.open.2)
