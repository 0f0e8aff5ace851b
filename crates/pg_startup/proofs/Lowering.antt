-- Each move of a startup leaves no more frames to be asked for, and only ReadyForQuery ends it.
use Rattle.std.proofs.Common.{◌≡◌, ℕ, ◌+◌, ◌^◌, ◌<◌, ◌≤◌, ◌&&◌, Bool, true, false, List, [], ◌∷◌, ◌++◌, length, Option, Some, None, Result, Ok, Err, if◌then◌else◌, refl, ap, ◌∙◌, arith}
use Rattle.std.specs.Prelude.{nat_lt, unwrap_or}
use Rattle.std.proofs.lemmas.Bool.{ltb-false}
use Rattle.std.specs.Int.{w32, to_be_bytes}
use Rattle.std.specs.List.{list_all, list_any}
use Rattle.std.specs.Str.{byte, is_utf8}
use Rattle.pg_spec.specs.Bytes.{text0}
use Rattle.pg_spec.specs.Bindings.{Binding, Unsupported, Unrequested, ServerEndPoint, client_first, client_final_of}
use Rattle.pg_spec.specs.Bodies.{mechanisms_of}
use Rattle.pg_spec.specs.Faults.{FrameFault, WireFault, ScramFault, ZeroByte, TooMany, TooLong, Config, NoPassword, Authentication, NotAscii, Parse, NotText}
use Rattle.pg_spec.specs.Frames.{has_zero, tagged, tagged_frame, unless_fault, password_frame, sasl_initial_frame, sasl_frame}
use Rattle.pg_spec.specs.Messages as said
use Rattle.pg_spec.specs.Messages.{Message}
use Rattle.pg_spec.specs.Passwords.{ClientFinal, md5_reply, server_final_fault}
use Rattle.pg_spec.specs.Settings.{Mode, Disable, Prefer, Require, Settings}
use Rattle.pg_spec.specs.Startup.{Login, Phase, First, Continue, Final, Accepted, Info, Move, Writes, Ends, Refuses, Scheme, writes, unless_required, with_password, unless_unbound, writes_first, uses_scheme, starts_sasl, goes_on_sasl, accepts_proof, startup_message}
use Rattle.pg_startup.specs.Frames.{frames_left}

-- A move writes a frame of less than 2^32 bytes and leaves fewer to be asked for, or writes none.
abbrev pub Lowers : Phase → Move → Type 0
Lowers at (Writes [] next) = frames_left next ≤ frames_left at
Lowers at (Writes (f ∷ []) next) = (length f < 2 ^ 32) × (frames_left next < frames_left at)
Lowers at (Writes (f ∷ g ∷ more) next) = ⊥
Lowers at Ends = Unit {0}
Lowers at (Refuses failure) = Unit {0}

-- the startup is done
abbrev pub IsEnd : Move → Type 0
IsEnd Ends = Unit {0}
IsEnd _ = ⊥

-- ---- frames are short

tag-length : (tag : ℕ) (body : List ℕ) → length (tagged tag body) ≡ 5 + length body
tag-length tag body = omega arith

by_long : (long : Bool) (n : ℕ) (frame f : List ℕ) → nat_lt 2147483647 n ≡ long → length frame ≡ 1 + n → unless_fault (if long then Some TooLong else None) frame ≡ Ok f → length f < 2 ^ 32
by_long true n frame f is size e = absurd (let no : Err TooLong ≡ Ok f = e in cc)
by_long false n frame f is size e = let same : frame ≡ f = cc in let few = ltb-false 2147483647 n is in let long = ap length same in omega (arith, few, size, long)

by_count : (zero_ many : Bool) (n : ℕ) (frame f : List ℕ) → length frame ≡ 1 + n →
    unless_fault (if zero_ then Some ZeroByte else if many then Some TooMany else if nat_lt 2147483647 n then Some TooLong else None) frame ≡ Ok f → length f < 2 ^ 32
by_count true many n frame f size e = absurd (let no : Err ZeroByte ≡ Ok f = e in cc)
by_count false true n frame f size e = absurd (let no : Err TooMany ≡ Ok f = e in cc)
by_count false false n frame f size e = by_long (nat_lt 2147483647 n) n frame f refl size e

short : (tag : ℕ) (texts : List (List ℕ)) (counts body f : List ℕ) → tagged_frame tag texts counts body ≡ Ok f → length f < 2 ^ 32
short tag texts counts body f e =
    by_count (list_any has_zero texts) (list_any (λ count. nat_lt 65535 count) counts) (4 + length body) (tagged tag body) f (tag-length tag body ∙ omega arith) e

short-password : (password f : List ℕ) → password_frame password ≡ Ok f → length f < 2 ^ 32
short-password password f e = short (byte "p") (password ∷ []) [] (text0 password) f e

short-first : (mechanism response f : List ℕ) → sasl_initial_frame mechanism response ≡ Ok f → length f < 2 ^ 32
short-first mechanism response f e = short (byte "p") (mechanism ∷ []) [] (text0 mechanism ++ to_be_bytes w32 (length response) ++ response) f e

short-answer : (response f : List ℕ) → sasl_frame response ≡ Ok f → length f < 2 ^ 32
short-answer response f e = short (byte "p") [] [] response f e

-- ---- what a move leaves

wrote : (at next : Phase) (r : Result (List ℕ) FrameFault) → ((f : List ℕ) → r ≡ Ok f → length f < 2 ^ 32) → frames_left next < frames_left at → Lowers at (writes r next)
wrote at next (Ok f) is less = (is f refl, less)
wrote at next (Err fault) is less = tt

required : (at : Phase) (mode : Mode) (move : Move) → Lowers at move → Lowers at (unless_required mode move)
required at Require move h = tt
required at Disable move h = h
required at Prefer move h = h

asked : (at : Phase) (s : Settings) (reply : List ℕ → Move) → ((p : List ℕ) → Lowers at (reply p)) → Lowers at (with_password s reply)
asked at s reply h = by s.password
  where
    by : (o : Option (List ℕ)) → Lowers at (elim o [ None ↦ Refuses (Config NoPassword) | Some password ↦ reply password ])
    by None = tt
    by (Some p) = h p

bound : (at : Phase) (mode : Mode) (binding : Binding) (move : Move) → Lowers at move → Lowers at (unless_unbound mode binding move)
bound at mode (ServerEndPoint hash) move h = h
bound at mode Unsupported move h = required at mode move h
bound at mode Unrequested move h = required at mode move h

first-written : (l : Login) (password : List ℕ) (scheme : Scheme) → Lowers First (writes_first l password scheme)
first-written l password scheme = by (list_all (λ b. nat_lt b 128) password)
  where
    by : (b : Bool) → Lowers First (if b then writes (sasl_initial_frame scheme.mechanism (client_first scheme.binding l.nonce)) (Continue scheme.binding) else Refuses (Authentication NotAscii))
    by true = wrote First (Continue scheme.binding) (sasl_initial_frame scheme.mechanism (client_first scheme.binding l.nonce)) (short-first scheme.mechanism (client_first scheme.binding l.nonce)) (omega arith)
    by false = tt

used : (l : Login) (password : List ℕ) (o : Option Scheme) → Lowers First (uses_scheme l password o)
used l password None = tt
used l password (Some scheme) = bound First l.settings.channel_binding scheme.binding (writes_first l password scheme) (first-written l password scheme)

started : (l : Login) (password : List ℕ) (r : Result (List (List ℕ)) WireFault) → Lowers First (starts_sasl l password r)
started l password (Err fault) = tt
started l password (Ok names) = used l password _

first-lowers : (l : Login) (m : Message) → Lowers First (startup_message l First m)
first-lowers l said.AuthenticationOk = required First l.settings.channel_binding (Writes [] Info) (omega arith)
first-lowers l said.AuthenticationCleartextPassword =
    required First l.settings.channel_binding _ (asked First l.settings _ (λ p. wrote First Accepted (password_frame p) (short-password p) (omega arith)))
first-lowers l (said.AuthenticationMd5Password salt) =
    required First l.settings.channel_binding _ (asked First l.settings _ (λ p. wrote First Accepted (password_frame (md5_reply (unwrap_or l.settings.user []) p salt)) (short-password (md5_reply (unwrap_or l.settings.user []) p salt)) (omega arith)))
first-lowers l (said.AuthenticationSasl mechanisms) = asked First l.settings _ (λ p. started l p (mechanisms_of mechanisms))
first-lowers l _ = tt

continue-lowers : (l : Login) (binding : Binding) (r : Result ClientFinal ScramFault) → Lowers (Continue binding) (goes_on_sasl r)
continue-lowers l binding (Ok final) = wrote (Continue binding) (Final final.signature) (sasl_frame final.message) (short-answer final.message) (omega arith)
continue-lowers l binding (Err fault) = tt

proof-lowers : (signature : List ℕ) (o : Option ScramFault) → Lowers (Final signature) (accepts_proof o)
proof-lowers signature None = omega arith
proof-lowers signature (Some fault) = tt

report-lowers : (b : Bool) → Lowers Info (if b then Writes [] Info else Refuses (Parse NotText))
report-lowers true = omega arith
report-lowers false = tt

pub message-lowers : (l : Login) (at : Phase) (m : Message) → Lowers at (startup_message l at m)
message-lowers l First m = first-lowers l m
message-lowers l (Continue binding) (said.AuthenticationSaslContinue challenge) = continue-lowers l binding (client_final_of binding (unwrap_or l.settings.password []) l.nonce challenge)
message-lowers l (Continue binding) _ = tt
message-lowers l (Final signature) (said.AuthenticationSaslFinal proof) = proof-lowers signature (server_final_fault signature proof)
message-lowers l (Final signature) _ = tt
message-lowers l Accepted said.AuthenticationOk = omega arith
message-lowers l Accepted _ = tt
message-lowers l Info (said.BackendKeyData process_id secret_key) = omega arith
message-lowers l Info (said.NoticeResponse fields) = omega arith
message-lowers l Info (said.ParameterStatus name value) = report-lowers (is_utf8 name && is_utf8 value)
message-lowers l Info _ = tt

-- ---- only ReadyForQuery ends it

no-frame : (r : Result (List ℕ) FrameFault) (next : Phase) → IsEnd (writes r next) → ⊥
no-frame (Ok f) next h = h
no-frame (Err fault) next h = h

no-required : (mode : Mode) (move : Move) → (IsEnd move → ⊥) → IsEnd (unless_required mode move) → ⊥
no-required Require move f h = h
no-required Disable move f h = f h
no-required Prefer move f h = f h

no-asked : (s : Settings) (reply : List ℕ → Move) → ((p : List ℕ) → IsEnd (reply p) → ⊥) → IsEnd (with_password s reply) → ⊥
no-asked s reply f h = by s.password h
  where
    by : (o : Option (List ℕ)) → IsEnd (elim o [ None ↦ Refuses (Config NoPassword) | Some password ↦ reply password ]) → ⊥
    by None h = h
    by (Some p) h = f p h

no-bound : (mode : Mode) (binding : Binding) (move : Move) → (IsEnd move → ⊥) → IsEnd (unless_unbound mode binding move) → ⊥
no-bound mode (ServerEndPoint hash) move f h = f h
no-bound mode Unsupported move f h = no-required mode move f h
no-bound mode Unrequested move f h = no-required mode move f h

no-first : (l : Login) (password : List ℕ) (scheme : Scheme) → IsEnd (writes_first l password scheme) → ⊥
no-first l password scheme h = by (list_all (λ b. nat_lt b 128) password) h
  where
    by : (b : Bool) → IsEnd (if b then writes (sasl_initial_frame scheme.mechanism (client_first scheme.binding l.nonce)) (Continue scheme.binding) else Refuses (Authentication NotAscii)) → ⊥
    by true h = no-frame (sasl_initial_frame scheme.mechanism (client_first scheme.binding l.nonce)) (Continue scheme.binding) h
    by false h = h

no-used : (l : Login) (password : List ℕ) (o : Option Scheme) → IsEnd (uses_scheme l password o) → ⊥
no-used l password None h = h
no-used l password (Some scheme) h = no-bound l.settings.channel_binding scheme.binding (writes_first l password scheme) (no-first l password scheme) h

no-started : (l : Login) (password : List ℕ) (r : Result (List (List ℕ)) WireFault) → IsEnd (starts_sasl l password r) → ⊥
no-started l password (Err fault) h = h
no-started l password (Ok names) h = no-used l password _ h

no-challenge : (r : Result ClientFinal ScramFault) → IsEnd (goes_on_sasl r) → ⊥
no-challenge (Ok final) h = no-frame (sasl_frame final.message) (Final final.signature) h
no-challenge (Err fault) h = h

no-proof : (o : Option ScramFault) → IsEnd (accepts_proof o) → ⊥
no-proof None h = h
no-proof (Some fault) h = h

no-report : (b : Bool) → IsEnd (if b then Writes [] Info else Refuses (Parse NotText)) → ⊥
no-report true h = h
no-report false h = h

-- the message is ReadyForQuery
abbrev pub IsReady : Message → Type 0
IsReady m = (status : ℕ) × (m ≡ said.ReadyForQuery status)

pub ends-ready : (l : Login) (at : Phase) (m : Message) → IsEnd (startup_message l at m) → IsReady m
ends-ready l First said.AuthenticationOk h = absurd (no-required l.settings.channel_binding (Writes [] Info) (λ x. x) h)
ends-ready l First said.AuthenticationCleartextPassword h =
    absurd (no-required l.settings.channel_binding _ (λ x. no-asked l.settings (λ p. writes (password_frame p) Accepted) (λ p y. no-frame (password_frame p) Accepted y) x) h)
ends-ready l First (said.AuthenticationMd5Password salt) h =
    absurd (no-required l.settings.channel_binding _ (λ x. no-asked l.settings (λ p. writes (password_frame (md5_reply (unwrap_or l.settings.user []) p salt)) Accepted)
    (λ p y. no-frame (password_frame (md5_reply (unwrap_or l.settings.user []) p salt)) Accepted y) x) h)
ends-ready l First (said.AuthenticationSasl mechanisms) h =
    absurd (no-asked l.settings (λ p. starts_sasl l p (mechanisms_of mechanisms)) (λ p y. no-started l p (mechanisms_of mechanisms) y) h)
ends-ready l First _ h = absurd h
ends-ready l (Continue binding) (said.AuthenticationSaslContinue challenge) h =
    absurd (no-challenge (client_final_of binding (unwrap_or l.settings.password []) l.nonce challenge) h)
ends-ready l (Continue binding) _ h = absurd h
ends-ready l (Final signature) (said.AuthenticationSaslFinal proof) h = absurd (no-proof (server_final_fault signature proof) h)
ends-ready l (Final signature) _ h = absurd h
ends-ready l Accepted said.AuthenticationOk h = absurd h
ends-ready l Accepted _ h = absurd h
ends-ready l Info (said.ReadyForQuery status) h = (status, refl)
ends-ready l Info (said.ParameterStatus name value) h = absurd (no-report (is_utf8 name && is_utf8 value) h)
ends-ready l Info _ h = absurd h
