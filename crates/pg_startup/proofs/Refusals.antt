-- What a startup's dialogue refuses a message for: never what a link does, nor a header that is none.
use Rattle.std.proofs.Common.{◌≡◌, ℕ, ◌&&◌, Bool, true, false, List, [], Option, Some, None, Result, Ok, Err, if◌then◌else◌, subst}
use Rattle.std.specs.Prelude.{◌==◌, find, nat_lt, unwrap_or}
use Rattle.std.specs.List.{list_all}
use Rattle.std.specs.Str.{is_utf8}
use Rattle.pg_spec.specs.Bindings.{Binding, Unsupported, Unrequested, ServerEndPoint, client_first, client_final_of}
use Rattle.pg_spec.specs.Bodies.{mechanisms_of}
use Rattle.pg_spec.specs.DbErrors.{db_error_of}
use Rattle.pg_spec.specs.Faults.{FrameFault, ScramFault, Config, NoPassword, Authentication, NotAscii, Parse, NotText, Io, Wire, Fields, Db}
use Rattle.pg_spec.specs.Frames.{password_frame, sasl_frame, sasl_initial_frame}
use Rattle.pg_spec.specs.Messages as said
use Rattle.pg_spec.specs.Messages.{Message, layouts}
use Rattle.pg_spec.specs.Passwords.{ClientFinal, md5_reply, server_final_fault}
use Rattle.pg_spec.specs.RawMessages.{RawMessage}
use Rattle.pg_spec.specs.Settings.{Mode, Disable, Prefer, Require, Settings}
use Rattle.pg_spec.specs.SimpleQuery.{server_error}
use Rattle.pg_spec.specs.Startup.{Login, Phase, First, Continue, Final, Accepted, Info, Move, Writes, Ends, Refuses, Scheme, writes, unless_required, with_password, unless_unbound, writes_first, uses_scheme, starts_sasl, goes_on_sasl, accepts_proof, startup_message, startup_move}
use Rattle.pg_types.specs.declared.cause.Cause.TheVariants as cause
use Rattle.pg_types.specs.declared.error.Error.{Error}
use Rattle.pg_types.specs.declared.error.Error.TheVariants as error
use Rattle.pg_types.specs.declared.faults.WireFault.{WireFault}
use Rattle.pg_types.specs.declared.faults.WireFault.TheVariants as wire

-- the error is none of a link or a limit
abbrev pub IsRefusal : Error → Type 0
IsRefusal (error.Io (cause.Wire wire.BadLength)) = ⊥
IsRefusal (error.Io (cause.Wire fault)) = Unit {0}
IsRefusal (error.Io other) = ⊥
IsRefusal error.Closed = ⊥
IsRefusal (error.LimitReached given limit) = ⊥
IsRefusal other = Unit {0}

-- a refusal is one of those
abbrev pub IsProper : Move → Type 0
IsProper (Writes frames next) = Unit {0}
IsProper Ends = Unit {0}
IsProper (Refuses e) = IsRefusal e

wrote : (r : Result (List ℕ) FrameFault) (next : Phase) → IsProper (writes r next)
wrote (Ok f) next = tt
wrote (Err fault) next = tt

required : (mode : Mode) (move : Move) → IsProper move → IsProper (unless_required mode move)
required Require move h = tt
required Disable move h = h
required Prefer move h = h

asked : (s : Settings) (reply : List ℕ → Move) → ((p : List ℕ) → IsProper (reply p)) → IsProper (with_password s reply)
asked s reply h = by s.password
  where
    by : (o : Option (List ℕ)) → IsProper (elim o [ None ↦ Refuses (Config NoPassword) | Some password ↦ reply password ])
    by None = tt
    by (Some p) = h p

bound : (mode : Mode) (binding : Binding) (move : Move) → IsProper move → IsProper (unless_unbound mode binding move)
bound mode (ServerEndPoint hash) move h = h
bound mode Unsupported move h = required mode move h
bound mode Unrequested move h = required mode move h

first-written : (l : Login) (password : List ℕ) (scheme : Scheme) → IsProper (writes_first l password scheme)
first-written l password scheme = by (list_all (λ b. nat_lt b 128) password)
  where
    by : (b : Bool) → IsProper (if b then writes (sasl_initial_frame scheme.mechanism (client_first scheme.binding l.nonce)) (Continue scheme.binding) else Refuses (Authentication NotAscii))
    by true = wrote (sasl_initial_frame scheme.mechanism (client_first scheme.binding l.nonce)) (Continue scheme.binding)
    by false = tt

used : (l : Login) (password : List ℕ) (o : Option Scheme) → IsProper (uses_scheme l password o)
used l password None = tt
used l password (Some scheme) = bound l.settings.channel_binding scheme.binding (writes_first l password scheme) (first-written l password scheme)

started : (l : Login) (password : List ℕ) (r : Result (List (List ℕ)) WireFault) → IsProper (starts_sasl l password r)
started l password (Err wire.BadLength) = tt
started l password (Err wire.UnknownTag) = tt
started l password (Err wire.Layout) = tt
started l password (Err wire.NotUtf8) = tt
started l password (Err wire.OutOfMemory) = tt
started l password (Ok names) = used l password _

of-server : (fields : List ℕ) → IsRefusal (server_error fields)
of-server fields = by (db_error_of fields)
  where
    by : (o : Option _) → IsRefusal (elim o [ None ↦ Parse Fields | Some error ↦ Db error ])
    by None = tt
    by (Some e) = tt

first-proper : (l : Login) (m : Message) → IsProper (startup_message l First m)
first-proper l (said.ErrorResponse fields) = of-server fields
first-proper l said.AuthenticationOk = required l.settings.channel_binding (Writes [] Info) tt
first-proper l said.AuthenticationCleartextPassword =
    required l.settings.channel_binding _ (asked l.settings _ (λ p. wrote (password_frame p) Accepted))
first-proper l (said.AuthenticationMd5Password salt) =
    required l.settings.channel_binding _ (asked l.settings _ (λ p. wrote (password_frame (md5_reply (unwrap_or l.settings.user []) p salt)) Accepted))
first-proper l (said.AuthenticationSasl mechanisms) = asked l.settings _ (λ p. started l p (mechanisms_of mechanisms))
first-proper l _ = tt

continue-proper : (r : Result ClientFinal ScramFault) → IsProper (goes_on_sasl r)
continue-proper (Ok final) = wrote (sasl_frame final.message) (Final final.signature)
continue-proper (Err fault) = tt

proof-proper : (o : Option ScramFault) → IsProper (accepts_proof o)
proof-proper None = tt
proof-proper (Some fault) = tt

report-proper : (b : Bool) → IsProper (if b then Writes [] Info else Refuses (Parse NotText))
report-proper true = tt
report-proper false = tt

message-proper : (l : Login) (at : Phase) (m : Message) → IsProper (startup_message l at m)
message-proper l First m = first-proper l m
message-proper l (Continue binding) (said.ErrorResponse fields) = of-server fields
message-proper l (Continue binding) (said.AuthenticationSaslContinue challenge) = continue-proper (client_final_of binding (unwrap_or l.settings.password []) l.nonce challenge)
message-proper l (Continue binding) _ = tt
message-proper l (Final signature) (said.ErrorResponse fields) = of-server fields
message-proper l (Final signature) (said.AuthenticationSaslFinal proof) = proof-proper (server_final_fault signature proof)
message-proper l (Final signature) _ = tt
message-proper l Accepted (said.ErrorResponse fields) = of-server fields
message-proper l Accepted _ = tt
message-proper l Info (said.ErrorResponse fields) = of-server fields
message-proper l Info (said.ParameterStatus name value) = report-proper (is_utf8 name && is_utf8 value)
message-proper l Info _ = tt

-- a layout of the table, what a body reads as by it, and what that does
abbrev Row : Type 0
Row = ℕ × (List ℕ → Option Message)

abbrev read : Option Message → Result Message WireFault
read None = Err wire.Layout
read (Some m) = Ok m

abbrev read_row : List ℕ → Option Row → Result Message WireFault
read_row body None = Err wire.UnknownTag
read_row body (Some row) = read (row.1 body)

abbrev does : Login → Phase → Result Message WireFault → Move
does l at (Ok m) = startup_message l at m
does l at (Err fault) = Refuses (Io (Wire fault))

read-proper : (l : Login) (at : Phase) (o : Option Message) → IsProper (does l at (read o))
read-proper l at None = tt
read-proper l at (Some m) = message-proper l at m

row-proper : (l : Login) (at : Phase) (body : List ℕ) (o : Option Row) → IsProper (does l at (read_row body o))
row-proper l at body None = tt
row-proper l at body (Some row) = read-proper l at (row.1 body)

move-proper : (l : Login) (at : Phase) (raw : RawMessage) → IsProper (startup_move l at raw)
move-proper l at raw = row-proper l at raw.body (find (λ (row : Row). row.0 == raw.tag) layouts)

-- no message is refused for anything else
pub refusal-is : (l : Login) (at : Phase) (raw : RawMessage) (e : Error) → startup_move l at raw ≡ Refuses e → IsRefusal e
refusal-is l at raw e is = subst IsProper is (move-proper l at raw)
