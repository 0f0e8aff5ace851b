use Rattle.std.proofs.Common.{Bool, List, false, refl}
use Rattle.pg_types.specs.declared.pg_type.PgType.{PgType}
use Rattle.pg_query.specs.Dialogue.{Dialogue}
use Rattle.pg_query.specs.Meaning.{Place}
use Rattle.pg_streams.specs.Heads.{with_columns}
use Rattle.pg_streams.specs.Known.{stands_behind}
use Rattle.pg_streams.specs.Rests.{takes_so}
use Rattle.pg_streams.specs.TypedRawStates.{behind_columns, behind_rest, columns_first, known_on, rests_first}
use Rattle.pg_streams.specs.TypedRaw.{Asked}
use Rattle.pg_streams.proofs.Polling.{knows-err, knows-none, knows-some, lacks-here, read-hands, takes-joined, takes-polls}
use Rattle.pg_streams.proofs.state.TypedReply.know.Goals as goal

pub returns-in_default : goal.returns-in_default
returns-in_default g c rows = lacks-here g.D.Desk.becomes g.met.D.Desk.stays c.args.stamp c.args.desk.now ((with_columns rows c.args.columns c.args.request).place (behind_columns rows)) _ refl

pub returns-in-Ok-Some : goal.returns-in-Ok-Some
returns-in-Ok-Some g c =
    let columns = c.args.columns in
    let request = c.args.request in
    let later : (rows : Bool) → Dialogue (Asked rows) = λ rows. takes_so (behind_rest rows columns) in
    let next : (rows : Bool) → List PgType → Dialogue (Asked rows) = λ rows. known_on rows columns in
    let first = columns_first request.batch false in
    read-hands (λ rows. (with_columns rows columns request).place (behind_columns rows)) (columns_first request.batch) columns c.in-Ok-Some.types request c.read_on.result c.read_on.ensures
    (λ rows. knows-some request.batch request.id first columns c.in-Ok-Some.types c.in-Ok.oids.items (rw c.as_slice.ensures at c.in-Ok.ensures) c.in-Ok-Some.field-0 c.in-Ok-Some.field-0-is (later rows) (next rows) (c.in-Ok-Some.ensures rows c.args.stamp request.batch first (later rows) (next rows)))

pub returns-in-Ok-None : goal.returns-in-Ok-None
returns-in-Ok-None g c =
    let columns = c.args.columns in
    let request = c.args.request in
    let later : (rows : Bool) → Dialogue (Asked rows) = λ rows. takes_so (behind_rest rows columns) in
    let next : (rows : Bool) → List PgType → Dialogue (Asked rows) = λ rows. known_on rows columns in
    let first = rests_first request.batch in
    let begin : (rows : Bool) → Place (Asked rows) = λ rows. (with_columns rows columns request).place (behind_columns rows) in
    takes-polls g.D.Desk.becomes c.args.stamp c.args.desk.now c.take_rest.new.desk begin c.take_rest.new.self.stage (columns_first request.batch) c.take_rest.result
    (takes-joined g.met.D.Desk.joins begin (λ rows. stands_behind request.batch (later rows) request.id) first first
    (λ rows. knows-none request.batch request.id first columns c.in-Ok.oids.items (rw c.as_slice.ensures at c.in-Ok.ensures) c.in-Ok-None.field-0 c.in-Ok-None.field-0-is (later rows) (next rows) (c.in-Ok-None.ensures rows c.args.stamp request.batch first (later rows) (next rows)))
    c.take_rest.new.desk c.take_rest.new.self.stage c.take_rest.result c.take_rest.ensures)

pub returns-in-Err : goal.returns-in-Err
returns-in-Err g c rows =
    let columns = c.args.columns in
    let request = c.args.request in
    let later : Dialogue (Asked rows) = takes_so (behind_rest rows columns) in
    let next : List PgType → Dialogue (Asked rows) = known_on rows columns in
    let first = rests_first request.batch in
    knows-err request.batch request.id first columns c.in-Ok.oids.items (rw c.as_slice.ensures at c.in-Ok.ensures) c.in-Err.error later next (c.in-Err.ensures rows c.args.stamp request.batch first later next)
