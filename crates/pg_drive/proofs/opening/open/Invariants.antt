use Rattle.std.proofs.Common.{◌≡◌, ℕ}
use Rattle.pg_open.specs.Opening.{IsOpening, OpenStands, outside}
use Rattle.pg_drive.specs.declared.line.Lull.TheVariants.{Moved}
use Rattle.pg_drive.specs.Openings.{PollsBy}
use Rattle.pg_drive.proofs.opening.open.Given as goal

-- it is still open, and so far some polls went on from whatever link and connector it was begun with
abbrev pub invariant-polls : goal.invariant-polls
invariant-polls g l =
    let o = outside g.L.Link.view g.T.TlsConnect.connects g.T.TlsConnect.begins g.T.Future.TlsHandshake.polled g.T.Future.Stream.Link.view g.T.Future.Stream.TlsStream.binding in
    record {
      same : l.raw.settings ≡ l.initial.raw.settings;
      opening : IsOpening o l.raw.settings l.raw.stage;
      polls : (link : _) (tls : _) → OpenStands o l.initial.raw.settings link tls l.initial.raw.stage →
          (OpenStands o l.raw.settings link tls l.raw.stage) × ((count : ℕ) × PollsBy o l.initial.raw.settings link tls count Moved l.initial.raw.stage l.lull l.raw.stage);
    }
