use Rattle.std.proofs.Common.{Bool, sym, ◌∙◌, subst}
use Rattle.pg_query.specs.Meaning.{Place}
use Rattle.pg_streams.specs.Brought.{joined}
use Rattle.pg_streams.specs.Heads.{heads}
use Rattle.pg_streams.specs.Rests.{came, rests}
use Rattle.pg_streams.specs.TypedRawStates.{IsLiveAt, behind_columns, behind_rest, found_place, place_of_finding, rest_told, rests_first}
use Rattle.pg_streams.specs.TypedRaw.{Asked}
use Rattle.pg_streams.specs.declared.state.Stage.{Stage}
use Rattle.pg_streams.specs.declared.state.Stage.TheVariants.{Reads, Takes, Finds}
use Rattle.pg_streams.proofs.Polling.{found-polls, polls-stage, reads-polls, takes-polls}
use Rattle.pg_streams.proofs.state.TypedReply.go_on.Goals as goal

pub read-requires : goal.read-requires
read-requires g c = subst (λ (stage : Stage). IsLiveAt stage) (sym c.replace.ensures.value ∙ c.in-Reads.is) c.requires

pub returns-in-Reads : goal.returns-in-Reads
returns-in-Reads g c =
    let request = c.in-Reads.request in
    let live = subst (λ (stage : Stage). IsLiveAt stage) (sym c.replace.ensures.value ∙ c.in-Reads.is) c.requires in
    polls-stage g.D.Desk.becomes c.args.stamp c.args.desk.now c.read.new.desk c.args.self.now.stage (Reads request) (sym c.replace.ensures.value ∙ c.in-Reads.is) c.read.new.self.stage c.read.result
    (reads-polls g.D.Desk.becomes c.args.stamp c.args.desk.now c.read.new.desk (λ rows. (heads rows request).place (behind_columns rows)) request live c.read.new.self.stage c.read.result c.read.ensures)

pub take-requires : goal.take-requires
take-requires g c = (subst (λ (stage : Stage). IsLiveAt stage) (sym c.replace.ensures.value ∙ c.in-Takes.is) c.requires).is

pub returns-in-Takes : goal.returns-in-Takes
returns-in-Takes g c =
    let columns = c.in-Takes.columns in
    let rest = c.in-Takes.rest in
    let place : (rows : Bool) → Place (Asked rows) = λ rows. (rests rows rest).place (behind_rest rows columns) in
    polls-stage g.D.Desk.becomes c.args.stamp c.args.desk.now c.take.new.desk c.args.self.now.stage (Takes columns rest) (sym c.replace.ensures.value ∙ c.in-Takes.is) c.take.new.self.stage c.take.result
    (takes-polls g.D.Desk.becomes c.args.stamp c.args.desk.now c.take.new.desk place c.take.new.self.stage (rest_told (rests_first (came rest))) c.take.result c.take.ensures)

pub find-requires : goal.find-requires
find-requires g c = subst (λ (stage : Stage). IsLiveAt stage) (sym c.replace.ensures.value ∙ c.in-Finds.is) c.requires

pub returns-in-Finds : goal.returns-in-Finds
returns-in-Finds g c =
    let columns = c.in-Finds.columns in
    let ms = joined c.in-Finds.batches.items in
    polls-stage g.D.Desk.becomes c.args.stamp c.args.desk.now c.find.new.desk c.args.self.now.stage (Finds columns c.in-Finds.batches c.in-Finds.state) (sym c.replace.ensures.value ∙ c.in-Finds.is) c.find.new.self.stage c.find.result
    (found-polls g.D.Desk.becomes g.met.D.Desk.stays c.args.stamp c.args.desk.now c.find.new.desk (λ rows. found_place rows columns ms (place_of_finding c.in-Finds.state)) ms c.find.new.self.stage c.find.result c.find.ensures)
