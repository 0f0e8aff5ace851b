use Rattle.std.proofs.Common.{◌≡◌, [], true, refl, sym, subst}
use Rattle.pg_query.specs.Meaning.{GivesUp}
use Rattle.pg_streams.proofs.Behind.{gives-up-whole}
use Rattle.pg_streams.specs.Brought.{joined}
use Rattle.pg_streams.specs.Heads.{heads}
use Rattle.pg_streams.specs.Rests.{rests}
use Rattle.pg_streams.specs.TypedRawStates.{IsLiveAt, behind_columns, behind_rest, had_of, place_of_finding, stage_place}
use Rattle.pg_streams.specs.declared.state.Stage.{Stage}
use Rattle.pg_streams.proofs.Ending.{rest-left}
use Rattle.pg_streams.proofs.Heading.{head-left}
use Rattle.pg_streams.proofs.Polling.{gives-up, had-deaf}
use Rattle.pg_streams.proofs.state.TypedReply.hang_up.Goals as goal

pub returns-in-Reads : goal.returns-in-Reads
returns-in-Reads g c =
    let request = c.in-Reads.request in
    let empty : request.batch ≡ [] = subst (λ (stage : Stage). IsLiveAt stage) c.in-Reads.is c.requires in
    subst (λ (stage : Stage). GivesUp g.D.Desk.becomes c.args.stamp c.args.desk.now (stage_place true stage) c.give_up.new.desk c.give_up.result) (sym c.in-Reads.is)
    (gives-up ((heads true request).place (behind_columns true)) (head-left request empty (behind_columns true)) c.give_up.result (c.give_up.ensures c.args.stamp))

pub returns-in-Takes : goal.returns-in-Takes
returns-in-Takes g c =
    let rest = c.in-Takes.rest in
    let columns = c.in-Takes.field-0 in
    let taking = subst (λ (stage : Stage). IsLiveAt stage) c.in-Takes.is c.requires in
    subst (λ (stage : Stage). GivesUp g.D.Desk.becomes c.args.stamp c.args.desk.now (stage_place true stage) c.give_up-in-Takes.new.desk c.give_up-in-Takes.result) (sym c.in-Takes.is)
    (gives-up ((rests true rest).place (behind_rest true columns)) (rest-left rest taking.on (behind_rest true columns)) c.give_up-in-Takes.result (c.give_up-in-Takes.ensures c.args.stamp))

pub returns-in-Finds : goal.returns-in-Finds
returns-in-Finds g c =
    let columns = c.in-Finds.field-0 in
    let ms = joined c.in-Finds.field-1.items in
    subst (λ (stage : Stage). GivesUp g.D.Desk.becomes c.args.stamp c.args.desk.now (stage_place true stage) c.hang_up.new.desk c.hang_up.result) (sym c.in-Finds.is)
    (gives-up-whole (had_of true columns ms) (had-deaf true columns ms) g.D.Desk.becomes c.args.stamp c.args.desk.now (place_of_finding c.in-Finds.state) c.hang_up.new.desk (λ x. refl) c.hang_up.result c.hang_up.ensures)
