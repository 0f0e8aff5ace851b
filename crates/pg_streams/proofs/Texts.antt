-- A statement that is queried and closed begins with a request, or is refused.
use Rattle.std.proofs.Common.{◌≡◌, ℕ, false, List, [], Option, Some, None, Result, Ok, Err, refl}
use Rattle.pg_spec.specs.RawMessages.{RawMessage}
use Rattle.pg_execute.specs.Parameters.{Params}
use Rattle.pg_types.specs.declared.error.Error.{Error}
use Rattle.pg_desk.specs.declared.statement.Described.{Described}
use Rattle.pg_query.specs.Dialogue.{Dialogue, feed_one}
use Rattle.pg_query.specs.Reading.{reads}
use Rattle.pg_query.specs.Scripts.{cleanup_of}
use Rattle.pg_core.specs.Composing.{asks_for}
use Rattle.pg_execute.specs.Executes.{close_part, closed_by}
use Rattle.pg_execute.specs.Parameters.{execute_request}
use Rattle.pg_streams.specs.RowStreams.{rows_from}
use Rattle.pg_streams.specs.States.{queried_and_closed}

deaf-closed : {W : Type 0} (close : Option (List ℕ)) (request : Result (List ℕ) Error) (d : Dialogue W) (m : RawMessage) → feed_one m (closed_by close (asks_for request d)) ≡ closed_by close (asks_for request d)
deaf-closed close (Ok frame) d m = refl
deaf-closed (Some part) (Err e) d m = refl
deaf-closed None (Err e) d m = refl

fresh-closed : {W : Type 0} (close : Option (List ℕ)) (request : Result (List ℕ) Error) (d : Dialogue W) → cleanup_of (closed_by close (asks_for request d)) ≡ []
fresh-closed close (Ok frame) d = refl
fresh-closed (Some part) (Err e) d = refl
fresh-closed None (Err e) d = refl

-- messages that came before count for nothing
pub queried-deaf : (vs : Params) (s : Described) (m : RawMessage) → feed_one m (queried_and_closed vs s) ≡ queried_and_closed vs s
queried-deaf vs s m = deaf-closed (close_part s.name) (execute_request s vs) (reads false (rows_from s false None)) m

-- nothing is left to do before it
pub queried-fresh : (vs : Params) (s : Described) → cleanup_of (queried_and_closed vs s) ≡ []
queried-fresh vs s = fresh-closed (close_part s.name) (execute_request s vs) (reads false (rows_from s false None))
