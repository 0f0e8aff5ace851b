-- What a message of the startup may be refused for.
use Rattle.std.proofs.Common.{◌≡◌, ℕ, ◌&&◌, Bool, true, false, not, List, [], ◌∷◌, length, Option, Some, None, Result, Ok, Err, if◌then◌else◌, refl, subst}
use Rattle.std.specs.Prelude.{◌==◌, ◌||◌, codes, find, nat_eq, nat_lt, unwrap_or}
use Rattle.std.specs.List.{list_all, list_any, slice_split, starts_with}
use Rattle.std.specs.Str.{all_ascii_digits, byte, bytes_eq, is_utf8}
use Rattle.pg_promises.specs.Causes.{IsOfBody, IsOfLogin}
use Rattle.pg_spec.specs.Bindings.{Binding, Unsupported, Unrequested, ServerEndPoint, client_first, client_final, client_final_of}
use Rattle.pg_spec.specs.Bodies.{mechanisms_of, name_at}
use Rattle.pg_spec.specs.Bytes.{items_of}
use Rattle.pg_spec.specs.DbErrors.{DbError, db_error_of}
use Rattle.pg_spec.specs.Faults.{◌>>=◌, Failure, FrameFault, WireFault, ScramFault, ZeroByte, TooMany, TooLong, Frame, Encode, Config, NoPassword, Authentication, NotAscii, Scram, Parse, NotText, NotUtf8, Io, Wire, Layout, UnknownTag, Fields, Db, UnexpectedMessage, BadMessage, BadNonce, BadSalt, BadIterations, BadSignature, ServerError}
use Rattle.pg_types.specs.declared.faults.FrameFault.TheVariants as frame
use Rattle.pg_spec.specs.Frames.{frame_fault, has_zero, unless_fault, password_frame, sasl_frame, sasl_initial_frame}
use Rattle.pg_spec.specs.Messages as said
use Rattle.pg_spec.specs.Messages.{Message, layouts}
use Rattle.pg_spec.specs.Passwords.{ClientFinal, ServerFirst, after_prefix, from_base64, hi, is_nonce_byte, iterations_of, scram_if, scram_or, server_first_of, told_by, md5_reply, server_final_fault}
use Rattle.pg_spec.specs.RawMessages.{RawMessage}
use Rattle.pg_spec.specs.Settings.{Mode, Disable, Prefer, Require, Settings}
use Rattle.pg_spec.specs.SimpleQuery.{server_error}
use Rattle.pg_spec.specs.Startup.{Login, Phase, First, Continue, Final, Accepted, Info, Move, Writes, Ends, Refuses, Scheme, writes, unless_required, with_password, unless_unbound, writes_first, uses_scheme, starts_sasl, goes_on_sasl, accepts_proof, startup_message, startup_move}

-- a failure of a startup's message
abbrev pub IsOfStartup : Failure → Type 0
IsOfStartup (Config NoPassword) = Unit {0}
IsOfStartup (Encode (Frame frame.OutOfMemory)) = ⊥
IsOfStartup (Encode (Frame fault)) = Unit {0}
IsOfStartup (Authentication cause) = IsOfLogin cause
IsOfStartup (Db error) = Unit {0}
IsOfStartup UnexpectedMessage = Unit {0}
IsOfStartup (Parse cause) = IsOfBody cause
IsOfStartup (Io (Wire UnknownTag)) = Unit {0}
IsOfStartup (Io (Wire Layout)) = Unit {0}
IsOfStartup other = ⊥

-- a refusal is for one
abbrev IsProper : Move → Type 0
IsProper (Writes frames next) = Unit {0}
IsProper Ends = Unit {0}
IsProper (Refuses failure) = IsOfStartup failure

-- ---- frames

abbrev IsOfFrame : Result (List ℕ) FrameFault → Type 0
IsOfFrame (Ok f) = Unit {0}
IsOfFrame (Err fault) = IsOfStartup (Encode (Frame fault))

by_test : (a b c : Bool) (f : List ℕ) → IsOfFrame (unless_fault (if a then Some ZeroByte else if b then Some TooMany else if c then Some TooLong else None) f)
by_test true b c f = tt
by_test false true c f = tt
by_test false false true f = tt
by_test false false false f = tt

of-frame : (texts : List (List ℕ)) (counts : List ℕ) (n : ℕ) (f : List ℕ) → IsOfFrame (unless_fault (frame_fault texts counts n) f)
of-frame texts counts n f = by_test (list_any has_zero texts) (list_any (λ count. nat_lt 65535 count) counts) (nat_lt 2147483647 n) f

wrote : (r : Result (List ℕ) FrameFault) (next : Phase) → IsOfFrame r → IsProper (writes r next)
wrote (Ok f) next h = tt
wrote (Err fault) next h = h

plain : (password : List ℕ) (next : Phase) → IsProper (writes (password_frame password) next)
plain password next = wrote (password_frame password) next (of-frame (password ∷ []) [] _ _)

-- ---- settings

required : (mode : Mode) (move : Move) → IsProper move → IsProper (unless_required mode move)
required Require move h = tt
required Disable move h = h
required Prefer move h = h

asked : (s : Settings) (reply : List ℕ → Move) → ((p : List ℕ) → IsProper (reply p)) → IsProper (with_password s reply)
asked s reply h = by s.password
  where
    by : (o : Option (List ℕ)) → IsProper (elim o [ None ↦ Refuses (Config NoPassword) | Some password ↦ reply password ])
    by None = tt
    by (Some p) = h p

bound : (mode : Mode) (binding : Binding) (move : Move) → IsProper move → IsProper (unless_unbound mode binding move)
bound mode (ServerEndPoint hash) move h = h
bound mode Unsupported move h = required mode move h
bound mode Unrequested move h = required mode move h

-- ---- SASL

first-written : (l : Login) (password : List ℕ) (scheme : Scheme) → IsProper (writes_first l password scheme)
first-written l password scheme = by (list_all (λ b. nat_lt b 128) password)
  where
    by : (b : Bool) → IsProper (if b then writes (sasl_initial_frame scheme.mechanism (client_first scheme.binding l.nonce)) (Continue scheme.binding) else Refuses (Authentication NotAscii))
    by true = wrote (sasl_initial_frame scheme.mechanism (client_first scheme.binding l.nonce)) (Continue scheme.binding) (of-frame (scheme.mechanism ∷ []) [] _ _)
    by false = tt

used : (l : Login) (password : List ℕ) (o : Option Scheme) → IsProper (uses_scheme l password o)
used l password None = tt
used l password (Some scheme) = bound l.settings.channel_binding scheme.binding (writes_first l password scheme) (first-written l password scheme)

started : (l : Login) (password mechanisms : List ℕ) → IsProper (starts_sasl l password (mechanisms_of mechanisms))
started l password mechanisms =
    by (list_all is_utf8 (items_of name_at mechanisms).0) (bytes_eq (items_of name_at mechanisms).1 (0 ∷ [])) (items_of name_at mechanisms).0
  where
    by : (good whole : Bool) (names : List (List ℕ)) → IsProper (starts_sasl l password (if not good then Err NotUtf8 else if whole then Ok names else Err Layout))
    by false whole names = tt
    by true true names = used l password _
    by true false names = tt

-- faults of SCRAM
abbrev IsOfScram : {A : Type 0} → Result A ScramFault → Type 0
IsOfScram (Ok x) = Unit {0}
IsOfScram (Err fault) = IsOfLogin (Scram fault)

-- what the server's first message says, step by step
abbrev is_formed : (nonce digits : List ℕ) → Bool
is_formed nonce digits = list_all is_nonce_byte nonce && all_ascii_digits digits && nat_lt 0 (length digits)

abbrev with_count : (nonce salt : List ℕ) → ℕ → Result ServerFirst ScramFault
with_count nonce salt iterations = Ok (record { nonce = nonce; salt = salt; iterations = iterations })

abbrev with_salt : (nonce digits salt : List ℕ) → Result ServerFirst ScramFault
with_salt nonce digits salt = scram_or (iterations_of digits) BadIterations >>= with_count nonce salt

abbrev with_nonce : (salt digits nonce : List ℕ) → Result ServerFirst ScramFault
with_nonce salt digits nonce = scram_or (from_base64 salt) BadSalt >>= with_salt nonce digits

abbrev with_form : (client_nonce salt digits nonce : List ℕ) → Result ServerFirst ScramFault
with_form client_nonce salt digits nonce = scram_if (starts_with nat_eq nonce client_nonce) nonce BadNonce >>= with_nonce salt digits

abbrev after_digits : (client_nonce nonce salt digits : List ℕ) → Result ServerFirst ScramFault
after_digits client_nonce nonce salt digits = scram_if (is_formed nonce digits) nonce BadMessage >>= with_form client_nonce salt digits

abbrev after_salt : (client_nonce i nonce salt : List ℕ) → Result ServerFirst ScramFault
after_salt client_nonce i nonce salt = scram_or (after_prefix (codes "i=") i) BadMessage >>= after_digits client_nonce nonce salt

abbrev after_nonce : (client_nonce s i nonce : List ℕ) → Result ServerFirst ScramFault
after_nonce client_nonce s i nonce = scram_or (after_prefix (codes "s=") s) BadMessage >>= after_salt client_nonce i nonce

abbrev of_three : (client_nonce r s i : List ℕ) → Result ServerFirst ScramFault
of_three client_nonce r s i = scram_or (after_prefix (codes "r=") r) BadMessage >>= after_nonce client_nonce s i

abbrev read_of : List ℕ → List (List ℕ) → Result ServerFirst ScramFault
read_of client_nonce fields = elim fields [
  | (r ∷ s ∷ i ∷ []) ↦ of_three client_nonce r s i
  | _ ↦ Err BadMessage
]

-- no fault of a step is want of memory
or-scram : {A B : Type 0} (o : Option A) (fault : ScramFault) (f : A → Result B ScramFault) → IsOfLogin (Scram fault) → ((x : A) → IsOfScram (f x)) → IsOfScram (scram_or o fault >>= f)
or-scram None fault f is h = is
or-scram (Some x) fault f is h = h x

if-scram : {A B : Type 0} (b : Bool) (x : A) (fault : ScramFault) (f : A → Result B ScramFault) → IsOfLogin (Scram fault) → IsOfScram (f x) → IsOfScram (scram_if b x fault >>= f)
if-scram true x fault f is h = h
if-scram false x fault f is h = is

salt-scram : (nonce digits salt : List ℕ) → IsOfScram (with_salt nonce digits salt)
salt-scram nonce digits salt = or-scram (iterations_of digits) BadIterations (with_count nonce salt) tt (λ n. tt)

nonce-scram : (salt digits nonce : List ℕ) → IsOfScram (with_nonce salt digits nonce)
nonce-scram salt digits nonce = or-scram (from_base64 salt) BadSalt (with_salt nonce digits) tt (λ s. salt-scram nonce digits s)

form-scram : (client_nonce salt digits nonce : List ℕ) → IsOfScram (with_form client_nonce salt digits nonce)
form-scram client_nonce salt digits nonce = if-scram (starts_with nat_eq nonce client_nonce) nonce BadNonce (with_nonce salt digits) tt (nonce-scram salt digits nonce)

digits-scram : (client_nonce nonce salt digits : List ℕ) → IsOfScram (after_digits client_nonce nonce salt digits)
digits-scram client_nonce nonce salt digits =
    if-scram (is_formed nonce digits) nonce BadMessage (with_form client_nonce salt digits) tt (form-scram client_nonce salt digits nonce)

three-scram : (client_nonce r s i : List ℕ) → IsOfScram (of_three client_nonce r s i)
three-scram client_nonce r s i =
    or-scram (after_prefix (codes "r=") r) BadMessage (after_nonce client_nonce s i) tt (λ nonce.
    or-scram (after_prefix (codes "s=") s) BadMessage (after_salt client_nonce i nonce) tt (λ salt.
    or-scram (after_prefix (codes "i=") i) BadMessage (after_digits client_nonce nonce salt) tt (λ digits. digits-scram client_nonce nonce salt digits)))

fields-scram : (client_nonce : List ℕ) (fields : List (List ℕ)) → IsOfScram (read_of client_nonce fields)
fields-scram client_nonce [] = tt
fields-scram client_nonce (r ∷ []) = tt
fields-scram client_nonce (r ∷ s ∷ []) = tt
fields-scram client_nonce (r ∷ s ∷ i ∷ []) = three-scram client_nonce r s i
fields-scram client_nonce (r ∷ s ∷ i ∷ x ∷ more) = tt

read-fields : (client_nonce message : List ℕ) → read_of client_nonce (slice_split (λ c. c == byte ",") message) ≡ server_first_of client_nonce message
read-fields client_nonce message = refl

first-scram : (client_nonce message : List ℕ) → IsOfScram (server_first_of client_nonce message)
first-scram client_nonce message =
    subst (λ (r : Result ServerFirst ScramFault). IsOfScram r) (read-fields client_nonce message) (fields-scram client_nonce (slice_split (λ c. c == byte ",") message))

-- ---- messages

of-server : (fields : List ℕ) → IsOfStartup (server_error fields)
of-server fields = by (db_error_of fields)
  where
    by : (o : Option DbError) → IsOfStartup (elim o [ None ↦ Parse Fields | Some error ↦ Db error ])
    by None = tt
    by (Some e) = tt

first-proper : (l : Login) (m : Message) → IsProper (startup_message l First m)
first-proper l (said.ErrorResponse fields) = of-server fields
first-proper l said.AuthenticationOk = required l.settings.channel_binding (Writes [] Info) tt
first-proper l said.AuthenticationCleartextPassword =
    required l.settings.channel_binding _ (asked l.settings _ (λ p. plain p Accepted))
first-proper l (said.AuthenticationMd5Password salt) =
    required l.settings.channel_binding _ (asked l.settings _ (λ p. plain (md5_reply (unwrap_or l.settings.user []) p salt) Accepted))
first-proper l (said.AuthenticationSasl mechanisms) = asked l.settings _ (λ p. started l p mechanisms)
first-proper l _ = tt

goes-proper : (r : Result ClientFinal ScramFault) → IsOfScram r → IsProper (goes_on_sasl r)
goes-proper (Ok final) h = wrote (sasl_frame final.message) (Final final.signature) (of-frame [] [] _ _)
goes-proper (Err fault) h = h

continue-proper : (l : Login) (binding : Binding) (challenge : List ℕ) → IsProper (goes_on_sasl (client_final_of binding (unwrap_or l.settings.password []) l.nonce challenge))
continue-proper l binding challenge =
    goes-proper (client_final_of binding (unwrap_or l.settings.password []) l.nonce challenge) (final-scram (server_first_of l.nonce challenge) (first-scram l.nonce challenge))
  where
    final-scram : (r : Result ServerFirst ScramFault) → IsOfScram r →
        IsOfScram (r >>= λ server. Ok (client_final binding l.nonce challenge server.nonce (hi (unwrap_or l.settings.password []) server.salt server.iterations)))
    final-scram (Ok server) h = tt
    final-scram (Err fault) h = h

abbrev IsOfProof : Option ScramFault → Type 0
IsOfProof None = Unit {0}
IsOfProof (Some fault) = IsOfLogin (Scram fault)

told-proper : (b : Bool) (text : List ℕ) → IsOfProof (Some (if b then ServerError text else BadMessage))
told-proper true text = tt
told-proper false text = tt

final-fault : (signature message : List ℕ) → IsOfProof (server_final_fault signature message)
final-fault signature message = by (after_prefix (codes "e=") message)
  where
    signed : (b : Bool) → IsOfProof (if b then None else Some BadSignature)
    signed true = tt
    signed false = tt

    decoded : (o : Option (List ℕ)) → IsOfProof (elim o [ None ↦ Some BadMessage | Some bytes ↦ if bytes_eq bytes signature then None else Some BadSignature ])
    decoded None = tt
    decoded (Some bytes) = signed (bytes_eq bytes signature)

    proved : (o : Option (List ℕ)) → IsOfProof (elim o [
      | None ↦ Some BadMessage
      | Some text ↦ elim (from_base64 text) [ None ↦ Some BadMessage | Some bytes ↦ if bytes_eq bytes signature then None else Some BadSignature ]
    ])
    proved None = tt
    proved (Some text) = decoded (from_base64 text)

    by : (o : Option (List ℕ)) → IsOfProof (elim o [
      | Some text ↦ told_by text
      | None ↦ elim (after_prefix (codes "v=") message) [
        | None ↦ Some BadMessage
        | Some text ↦ elim (from_base64 text) [ None ↦ Some BadMessage | Some bytes ↦ if bytes_eq bytes signature then None else Some BadSignature ]
      ]
    ])
    by None = proved (after_prefix (codes "v=") message)
    by (Some text) = told-proper (is_utf8 text && not (list_any (λ c. c == 0 || c == byte "=" || c == byte ",") text)) text

proof-proper : (o : Option ScramFault) → IsOfProof o → IsProper (accepts_proof o)
proof-proper None h = tt
proof-proper (Some fault) h = h

report-proper : (b : Bool) → IsProper (if b then Writes [] Info else Refuses (Parse NotText))
report-proper true = tt
report-proper false = tt

message-proper : (l : Login) (at : Phase) (m : Message) → IsProper (startup_message l at m)
message-proper l First m = first-proper l m
message-proper l (Continue binding) (said.ErrorResponse fields) = of-server fields
message-proper l (Continue binding) (said.AuthenticationSaslContinue challenge) = continue-proper l binding challenge
message-proper l (Continue binding) _ = tt
message-proper l (Final signature) (said.ErrorResponse fields) = of-server fields
message-proper l (Final signature) (said.AuthenticationSaslFinal proof) = proof-proper (server_final_fault signature proof) (final-fault signature proof)
message-proper l (Final signature) _ = tt
message-proper l Accepted (said.ErrorResponse fields) = of-server fields
message-proper l Accepted _ = tt
message-proper l Info (said.ErrorResponse fields) = of-server fields
message-proper l Info (said.ParameterStatus name value) = report-proper (is_utf8 name && is_utf8 value)
message-proper l Info _ = tt

move-proper : (l : Login) (at : Phase) (raw : RawMessage) → IsProper (startup_move l at raw)
move-proper l at raw = by (find (λ row. row.0 == raw.tag) layouts)
  where
    read : (o : Option Message) → IsProper (elim (elim o as (λ _. Result Message WireFault) [ None ↦ Err Layout | Some message ↦ Ok message ]) as (λ _. Move) [
      | Ok message ↦ startup_message l at message
      | Err fault ↦ Refuses (Io (Wire fault))
    ])
    read None = tt
    read (Some m) = message-proper l at m

    by : (o : Option (ℕ × (List ℕ → Option Message))) → IsProper (elim (elim o as (λ _. Result Message WireFault) [
      | None ↦ Err UnknownTag
      | Some row ↦ elim (row.1 raw.body) [ None ↦ Err Layout | Some message ↦ Ok message ]
    ]) as (λ _. Move) [ Ok message ↦ startup_message l at message | Err fault ↦ Refuses (Io (Wire fault)) ])
    by None = tt
    by (Some row) = read (row.1 raw.body)

-- no message is refused for anything else
pub startup-failure : (l : Login) (at : Phase) (raw : RawMessage) (e : Failure) → startup_move l at raw ≡ Refuses e → IsOfStartup e
startup-failure l at raw e is = subst IsProper is (move-proper l at raw)
