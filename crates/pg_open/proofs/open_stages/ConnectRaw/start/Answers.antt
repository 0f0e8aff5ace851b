use Rattle.pg_open.specs.Opening.{outside, seen}
use Rattle.pg_open.proofs.open_stages.ConnectRaw.start.Goals as goal

pub go_on-requires : goal.go_on-requires
go_on-requires g c =
    let o = (outside g.L.Link.view g.T.TlsConnect.connects g.T.TlsConnect.begins g.T.Future.TlsHandshake.polled g.T.Future.Stream.Link.view g.T.Future.Stream.TlsStream.binding) in
    record {
      going = (
        c.requires.reached.0,
        c.requires.reached.1,
        c.args.link,
        record {
          reached = c.requires.reached.2;
          limit = c.in-Ok.ensures.limit.0;
          opening = c.in-Ok.ensures.fresh (seen o c.args.link);
        },
      );
    }
