use Rattle.pg_streams.specs.Rests.{came}
use Rattle.pg_streams.specs.TypedRawStates.{place_of_finding}
use Rattle.pg_core.specs.Lookups.{find_all}
use Rattle.pg_streams.specs.TypedRaw.{oids_of}
use Rattle.pg_streams.proofs.Polling.{ended-takes, finding-at, found-hung, hung, hung-lacks, not-hung}
use Rattle.pg_streams.proofs.state.TypedReply.end.Goals as goal

pub returns-in-Err : goal.returns-in-Err
returns-in-Err g c = not-hung g.met.D.Desk.stays g.met.D.Desk.joins c.args.columns (came c.args.rest) c.args.rest.id c.requires c.hang_up.new.self c.in-Err.fault c.error_of.result c.in-Err.ensures.event c.error_of.ensures

pub returns-in-Err-find_types : goal.returns-in-Err-find_types
returns-in-Err-find_types g c =
    hung-lacks g.met.D.Desk.stays g.met.D.Desk.joins c.args.columns (came c.args.rest) c.args.rest.id c.requires c.hang_up.new.self c.in-Ok.ensures.event c.in-Err-find_types.error c.in-Err-find_types.ensures

pub find-requires : goal.find-requires
find-requires g c = c.in-Ok-find_types.ensures.0

pub returns-in-Ok-find_types : goal.returns-in-Ok-find_types
returns-in-Ok-find_types g c =
    let ms = came c.args.rest in
    let columns = c.args.columns in
    let place = place_of_finding c.in-Ok-find_types.state in
    ended-takes g.met.D.Desk.stays g.met.D.Desk.joins columns ms c.args.rest.id c.requires c.hang_up.new.self (finding-at columns ms (find_all (oids_of columns)) c.args.rest.id)
    (hung g.met.D.Desk.stays g.met.D.Desk.joins columns ms c.args.rest.id c.requires c.hang_up.new.self c.in-Ok.ensures.event) c.find.new.desk c.find.new.self.stage c.find.result
    (found-hung g.D.Desk.becomes c.args.stamp c.hang_up.new.self columns ms place.dialogue (rw c.as_slice.ensures at c.in-Ok-find_types.ensures.1) place.reads c.args.rest.id c.find.new.desk c.find.new.self.stage c.find.result c.find.ensures)
