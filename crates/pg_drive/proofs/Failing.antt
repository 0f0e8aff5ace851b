-- The connection itself never answers that it is stalled.
use Rattle.std.proofs.Common.{◌≡◌, ◌⊎◌, inl, inr, ◌∙◌, ℕ, List, [], ◌∷◌, Option, Some, None, Result, Ok, Err}
use Rattle.futures.specs.declared.task.Poll.TheVariants.{Ready}
use Rattle.pg_spec.specs.Asides.{unasked}
use Rattle.pg_spec.specs.DbErrors.{db_error_of}
use Rattle.pg_types.specs.declared.db_error.DbError.{DbError}
use Rattle.pg_spec.specs.Faults.{Parse, Fields, Wire, Db, WireFault}
use Rattle.pg_spec.specs.Links.{LinkView}
use Rattle.pg_spec.specs.Messages as wire
use Rattle.pg_spec.specs.RawMessages.{RawMessage}
use Rattle.pg_types.specs.declared.error.Error.{Error}
use Rattle.pg_types.specs.declared.error.Error.TheVariants as error
use Rattle.pg_desk.specs.declared.event.Event.{Event}
use Rattle.pg_connect.specs.Answers.{PollAnswers, StaysClosed, Failed, fresh, left_open}
use Rattle.pg_connect.specs.Faults.{error_of}
use Rattle.pg_connect.specs.Passes.{waiting}
use Rattle.pg_connect.specs.Polls.{TurnFails}
use Rattle.pg_connect.specs.Reads.{IsUnasked}
use Rattle.pg_connect.specs.declared.fault.ConnectionFault.{ConnectionFault}
use Rattle.pg_connect.specs.declared.fault.ConnectionFault.TheVariants as fault
use Rattle.pg_connect.specs.declared.streams.Streams.{Streams}

module _ (x y : ℕ) where
  of-option : (o : Option DbError) → error.Stalled x y ≡ elim o [ None ↦ Parse Fields | Some e ↦ Db e ] → ⊥
  of-option None h = absurd cc
  of-option (Some e) h = absurd cc

  of-message : (m : wire.Message) → error.Stalled x y ≡ unasked m → ⊥
  of-message wire.AuthenticationOk h = absurd cc
  of-message wire.AuthenticationKerberosV5 h = absurd cc
  of-message wire.AuthenticationCleartextPassword h = absurd cc
  of-message (wire.AuthenticationMd5Password salt) h = absurd cc
  of-message wire.AuthenticationScmCredential h = absurd cc
  of-message wire.AuthenticationGss h = absurd cc
  of-message (wire.AuthenticationGssContinue d) h = absurd cc
  of-message wire.AuthenticationSspi h = absurd cc
  of-message (wire.AuthenticationSasl ms) h = absurd cc
  of-message (wire.AuthenticationSaslContinue d) h = absurd cc
  of-message (wire.AuthenticationSaslFinal d) h = absurd cc
  of-message (wire.BackendKeyData p k) h = absurd cc
  of-message (wire.ReadyForQuery st) h = absurd cc
  of-message (wire.ParameterStatus n v) h = absurd cc
  of-message (wire.NoticeResponse fields) h = absurd cc
  of-message (wire.NotificationResponse p c d) h = absurd cc
  of-message (wire.RowDescription n fields) h = absurd cc
  of-message (wire.DataRow n cells) h = absurd cc
  of-message (wire.CommandComplete tag) h = absurd cc
  of-message wire.EmptyQueryResponse h = absurd cc
  of-message (wire.ErrorResponse fields) h = of-option (db_error_of fields) h
  of-message wire.ParseComplete h = absurd cc
  of-message wire.BindComplete h = absurd cc
  of-message wire.CloseComplete h = absurd cc
  of-message wire.NoData h = absurd cc
  of-message wire.PortalSuspended h = absurd cc
  of-message wire.CopyDone h = absurd cc
  of-message (wire.ParameterDescription n oids) h = absurd cc
  of-message wire.CopyInResponse h = absurd cc
  of-message wire.CopyOutResponse h = absurd cc
  of-message (wire.CopyData d) h = absurd cc

  of-read : (r : Result wire.Message WireFault) → error.Stalled x y ≡ elim r [ Err e ↦ Parse (Wire e) | Ok m ↦ unasked m ] → ⊥
  of-read (Ok m) h = of-message m h
  of-read (Err e) h = absurd cc

  of-batch : (ms : List RawMessage) (e : Error) → IsUnasked ms (fault.Unasked e) → error.Stalled x y ≡ e → ⊥
  of-batch [] e is h = absurd is
  of-batch (m ∷ ms) e is h = of-read (wire.message_of m) (h ∙ is)

  of-fault : (f : ConnectionFault) (s t : Streams) (l m : LinkView) (es : List Event) → TurnFails s t l m f es → error.Stalled x y ≡ error_of f → ⊥
  of-fault fault.Link s t l m es fails h = absurd cc
  of-fault fault.Closed s t l m es fails h = absurd cc
  of-fault fault.Ended s t l m es fails h = absurd cc
  of-fault fault.BadLength s t l m es fails h = absurd cc
  of-fault fault.Layout s t l m es fails h = absurd cc
  of-fault (fault.Unreadable c) s t l m es fails h = absurd cc
  of-fault (fault.Unasked e) s t l m es fails h = of-batch (waiting t.held) e fails.1 h
  of-fault (fault.LimitReached given limit) s t l m es fails h = absurd cc
  of-fault fault.OutOfMemory s t l m es fails h = absurd cc

  module _ {H : Type 0} (becomes : H → List Event → H → Type 0) (a b : H) (s t : Streams) (l m : LinkView) where
    either : StaysClosed a b s t l m (error.Stalled x y) ⊎ Failed becomes a b s t l m (error.Stalled x y) → ⊥
    either (inl closed) = differ closed.error
      where
        differ : error.Stalled x y ≡ error.Closed → ⊥
        differ h = absurd cc
    either (inr failed) = of-fault failed.fault (fresh s) (left_open t) l m failed.turns.goes.events failed.turns.goes.ended.1 failed.means

    pub never-stalled : PollAnswers becomes a b s t l m (Ready (Some (Err (error.Stalled x y)))) → ⊥
    never-stalled polled = either polled.1
