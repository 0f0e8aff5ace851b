use Rattle.pg_drive.proofs.Stalling.{why-stalled}
use Rattle.pg_drive.proofs.laws.why_a_drive_stalls.Goals as goal

pub returns : goal.returns
returns g c stamp s ss t between b from to new drives steps = why-stalled g.E.Desk.becomes stamp s ss t between b from to new drives steps
