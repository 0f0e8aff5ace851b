-- No error of a session behind its startup speaks of what was asked for.
use Rattle.std.proofs.Common.{List, [], ◌∷◌, Option, Some, None, Result, Ok, Err, inl, inr, sym, subst}
use Rattle.futures.specs.declared.task.Poll.TheVariants.{Ready}
use Rattle.pg_spec.specs.Asides.{unasked}
use Rattle.pg_spec.specs.DbErrors.{DbError, db_error_of}
use Rattle.pg_spec.specs.Faults.{Failure, Parse, Db, Config, Fields, WireFault, Wire}
use Rattle.pg_spec.specs.Links.{LinkView}
use Rattle.pg_spec.specs.Messages.{Message, ErrorResponse, message_of}
use Rattle.pg_spec.specs.RawMessages.{RawMessage}
use Rattle.pg_desk.specs.declared.event.Event.{Event}
use Rattle.pg_types.specs.declared.error.Error.{Error}
use Rattle.pg_types.specs.declared.error.Error.TheVariants as error
use Rattle.pg_connect.specs.declared.fault.ConnectionFault.{ConnectionFault}
use Rattle.pg_connect.specs.declared.fault.ConnectionFault.TheVariants as fault
use Rattle.pg_connect.specs.declared.streams.Streams.{Streams}
use Rattle.pg_connect.specs.Answers.{PollAnswers}
use Rattle.pg_connect.specs.Faults.{error_of}
use Rattle.pg_connect.specs.Polls.{TurnFails}
use Rattle.pg_connect.specs.Reads.{IsUnasked}
use Rattle.pg_play.specs.Plays.{IsLater}

-- a failure that doesn't speak of what was asked for
abbrev NotConfig : Failure → Type 0
NotConfig (Config cause) = ⊥
NotConfig _ = Unit {0}

server_not_config : (o : Option DbError) → NotConfig (elim o [ None ↦ Parse Fields | Some e ↦ Db e ])
server_not_config None = tt
server_not_config (Some e) = tt

unasked_not_config : (m : Message) → NotConfig (unasked m)
unasked_not_config (ErrorResponse fields) = server_not_config (db_error_of fields)
unasked_not_config _ = tt

read_not_config : (r : Result Message WireFault) → NotConfig (elim r [ Err f ↦ Parse (Wire f) | Ok m ↦ unasked m ])
read_not_config (Err f) = tt
read_not_config (Ok m) = unasked_not_config m

by_failure : (e : Error) → NotConfig e → IsLater e
by_failure (error.Config c) h = h
by_failure _ h = tt

unasked_later : (batch : List RawMessage) (e : Error) → IsUnasked batch (fault.Unasked e) → IsLater e
unasked_later (first ∷ batch) e h = by_failure e (subst NotConfig (sym h) (read_not_config (message_of first)))
unasked_later [] e h = absurd h

fault_later : (old new : Streams) (before after : LinkView) (events : List Event) (f : ConnectionFault) → TurnFails old new before after f events → IsLater (error_of f)
fault_later old new before after events (fault.Unasked e) h = unasked_later _ e h.1
fault_later old new before after events _ h = tt

-- the error of a poll of the connection
pub poll_later : {H : Type 0} (becomes : H → List Event → H → Type 0) (a b : H) (old new : Streams) (before after : LinkView) (e : Error) →
    PollAnswers becomes a b old new before after (Ready (Some (Err e))) → IsLater e
poll_later becomes a b old new before after e t = elim t.1 [
  | inl closed ↦ subst IsLater (sym closed.error) tt
  | inr failed ↦ subst IsLater (sym failed.means) (fault_later _ _ before after _ failed.fault failed.turns.goes.ended.1)
]
