-- What a startup writes behind its first frame: frames that hold a password or a message of SASL.
use Rattle.std.proofs.Common.{◌≡◌, ℕ, suc, ◌+◌, ◌^◌, ◌<◌, ◌≤◌, ◌&&◌, Bool, true, false, not, cond, List, [], ◌∷◌, ◌++◌, length, Option, Some, None, Result, Ok, Err, if◌then◌else◌, refl, sym, ap, ◌∙◌, arith, append_assoc, append-nil}
use Rattle.std.specs.Prelude.{nat_lt, unwrap_or, filter, count_by}
use Rattle.std.specs.Int.{w32, to_be_bytes}
use Rattle.std.specs.List.{concat, list_all}
use Rattle.std.specs.Str.{byte, is_utf8}
use Rattle.std.proofs.lemmas.List.{length-append}
use Rattle.std.proofs.lemmas.List.Folds.{list_all-append}
use Rattle.std.proofs.lemmas.List.Sums.{sum_by-cons}
use Rattle.pg_spec.specs.Bytes.{text0}
use Rattle.pg_spec.specs.Bindings.{Binding, Unsupported, Unrequested, ServerEndPoint, client_first, client_final_of}
use Rattle.pg_spec.specs.Bodies.{mechanisms_of}
use Rattle.pg_spec.specs.Faults.{FrameFault, WireFault, ScramFault, Config, NoPassword, Authentication, NotAscii, Parse, NotText, Io, Wire}
use Rattle.pg_spec.specs.Frames.{tagged, tagged_frame, password_frame, sasl_initial_frame, sasl_frame}
use Rattle.pg_spec.specs.Messages as said
use Rattle.pg_spec.specs.Messages.{Message, message_of}
use Rattle.pg_spec.specs.Passwords.{ClientFinal, md5_reply, server_final_fault}
use Rattle.pg_spec.specs.RawMessages.{RawMessage, message_bytes, messages, bytes_left}
use Rattle.pg_spec.specs.Sent.{is_password, gives_turn}
use Rattle.pg_spec.specs.Settings.{Mode, Disable, Prefer, Require, Settings}
use Rattle.pg_spec.specs.Startup.{Login, Phase, First, Continue, Final, Accepted, Info, Move, Writes, Ends, Refuses, Scheme, Startup, writes, unless_required, with_password, unless_unbound, writes_first, uses_scheme, starts_sasl, goes_on_sasl, accepts_proof, startup_message, startup_move, moved_by, dialogue}
use Rattle.pg_spec.proofs.MessageLaws.{messages-front, messages-append}
use Rattle.pg_session.proofs.Caused.Frames.{written}
use Rattle.pg_session.proofs.Crossing.Groups.{both-true}

-- the part is one such frame
pub record IsPassword (part : List ℕ) : Type 0 where
  pub body : List ℕ
  pub is : part ≡ message_bytes (record { tag = byte "p"; body = body })
  pub fits : 4 + length body < 2 ^ 31

-- each of the parts is one
abbrev pub ArePasswords : List (List ℕ) → Type 0
ArePasswords [] = Unit {0}
ArePasswords (part ∷ parts) = IsPassword part × ArePasswords parts

pub passwords-append : (xs ys : List (List ℕ)) → ArePasswords xs → ArePasswords ys → ArePasswords (xs ++ ys)
passwords-append [] ys h k = k
passwords-append (x ∷ xs) ys h k = (h.0, passwords-append xs ys h.1 k)

pub passwords-front : (xs ys : List (List ℕ)) → ArePasswords (xs ++ ys) → ArePasswords xs
passwords-front [] ys h = tt
passwords-front (x ∷ xs) ys h = (h.0, passwords-front xs ys h.1)

-- ---- each move writes such frames alone

a-password : (texts : List (List ℕ)) (counts body f : List ℕ) → tagged_frame (byte "p") texts counts body ≡ Ok f → IsPassword f
a-password texts counts body f e =
    let w = written texts counts (4 + length body) (tagged (byte "p") body) f e in
    record { body = body; is = w.same; fits = w.short }

abbrev WritesPasswords : Move → Type 0
WritesPasswords (Writes frames next) = ArePasswords frames
WritesPasswords Ends = Unit {0}
WritesPasswords (Refuses failure) = Unit {0}

wrote : (r : Result (List ℕ) FrameFault) (next : Phase) → ((f : List ℕ) → r ≡ Ok f → IsPassword f) → WritesPasswords (writes r next)
wrote (Ok f) next is = (is f refl, tt)
wrote (Err fault) next is = tt

plain : (password : List ℕ) (next : Phase) → WritesPasswords (writes (password_frame password) next)
plain password next = wrote (password_frame password) next (λ f e. a-password (password ∷ []) [] (text0 password) f e)

required : (mode : Mode) (move : Move) → WritesPasswords move → WritesPasswords (unless_required mode move)
required Require move h = tt
required Disable move h = h
required Prefer move h = h

asked : (s : Settings) (reply : List ℕ → Move) → ((p : List ℕ) → WritesPasswords (reply p)) → WritesPasswords (with_password s reply)
asked s reply h = by s.password
  where
    by : (o : Option (List ℕ)) → WritesPasswords (elim o [ None ↦ Refuses (Config NoPassword) | Some password ↦ reply password ])
    by None = tt
    by (Some p) = h p

bound : (mode : Mode) (binding : Binding) (move : Move) → WritesPasswords move → WritesPasswords (unless_unbound mode binding move)
bound mode (ServerEndPoint hash) move h = h
bound mode Unsupported move h = required mode move h
bound mode Unrequested move h = required mode move h

first-written : (l : Login) (password : List ℕ) (scheme : Scheme) → WritesPasswords (writes_first l password scheme)
first-written l password scheme = by (list_all (λ b. nat_lt b 128) password)
  where
    by : (b : Bool) → WritesPasswords (if b then writes (sasl_initial_frame scheme.mechanism (client_first scheme.binding l.nonce)) (Continue scheme.binding) else Refuses (Authentication NotAscii))
    by true = wrote (sasl_initial_frame scheme.mechanism (client_first scheme.binding l.nonce)) (Continue scheme.binding) (λ f e.
        a-password (scheme.mechanism ∷ []) []
        (text0 scheme.mechanism ++ to_be_bytes w32 (length (client_first scheme.binding l.nonce)) ++ client_first scheme.binding l.nonce) f e)
    by false = tt

used : (l : Login) (password : List ℕ) (o : Option Scheme) → WritesPasswords (uses_scheme l password o)
used l password None = tt
used l password (Some scheme) = bound l.settings.channel_binding scheme.binding (writes_first l password scheme) (first-written l password scheme)

started : (l : Login) (password : List ℕ) (r : Result (List (List ℕ)) WireFault) → WritesPasswords (starts_sasl l password r)
started l password (Err fault) = tt
started l password (Ok names) = used l password _

first-writes : (l : Login) (m : Message) → WritesPasswords (startup_message l First m)
first-writes l said.AuthenticationOk = required l.settings.channel_binding (Writes [] Info) tt
first-writes l said.AuthenticationCleartextPassword =
    required l.settings.channel_binding _ (asked l.settings _ (λ p. plain p Accepted))
first-writes l (said.AuthenticationMd5Password salt) =
    required l.settings.channel_binding _ (asked l.settings _ (λ p. plain (md5_reply (unwrap_or l.settings.user []) p salt) Accepted))
first-writes l (said.AuthenticationSasl mechanisms) = asked l.settings _ (λ p. started l p (mechanisms_of mechanisms))
first-writes l _ = tt

continue-writes : (r : Result ClientFinal ScramFault) → WritesPasswords (goes_on_sasl r)
continue-writes (Ok final) = wrote (sasl_frame final.message) (Final final.signature) (λ f e. a-password [] [] final.message f e)
continue-writes (Err fault) = tt

proof-writes : (o : Option ScramFault) → WritesPasswords (accepts_proof o)
proof-writes None = tt
proof-writes (Some fault) = tt

report-writes : (b : Bool) → WritesPasswords (if b then Writes [] Info else Refuses (Parse NotText))
report-writes true = tt
report-writes false = tt

message-writes : (l : Login) (at : Phase) (m : Message) → WritesPasswords (startup_message l at m)
message-writes l First m = first-writes l m
message-writes l (Continue binding) (said.AuthenticationSaslContinue challenge) = continue-writes (client_final_of binding (unwrap_or l.settings.password []) l.nonce challenge)
message-writes l (Continue binding) _ = tt
message-writes l (Final signature) (said.AuthenticationSaslFinal proof) = proof-writes (server_final_fault signature proof)
message-writes l (Final signature) _ = tt
message-writes l Accepted said.AuthenticationOk = tt
message-writes l Accepted _ = tt
message-writes l Info (said.BackendKeyData process_id secret_key) = tt
message-writes l Info (said.NoticeResponse fields) = tt
message-writes l Info (said.ParameterStatus name value) = report-writes (is_utf8 name && is_utf8 value)
message-writes l Info _ = tt

move-writes : (l : Login) (at : Phase) (raw : RawMessage) → WritesPasswords (startup_move l at raw)
move-writes l at raw = by (message_of raw)
  where
    by : (r : Result Message WireFault) → WritesPasswords (elim r [ Ok message ↦ startup_message l at message | Err fault ↦ Refuses (Io (Wire fault)) ])
    by (Ok message) = message-writes l at message
    by (Err fault) = tt

moved-writes : (move : Move) (later : Phase → Startup) → WritesPasswords move → ((p : Phase) → ArePasswords (later p).frames) → ArePasswords (moved_by move later).frames
moved-writes (Writes frames next) later w h = passwords-append frames (later next).frames w (h next)
moved-writes Ends later w h = tt
moved-writes (Refuses failure) later w h = tt

-- whatever it reads, a dialogue writes such frames alone
pub dialogue-passwords : (l : Login) (at : Phase) (ms : List RawMessage) → ArePasswords (dialogue l at ms).frames
dialogue-passwords l at [] = tt
dialogue-passwords l at (m ∷ ms) =
    moved-writes (startup_move l at m) (λ next. dialogue l next ms) (move-writes l at m) (λ next. dialogue-passwords l next ms)

-- ---- the messages of their bytes

abbrev pub passwords-in : (parts : List (List ℕ)) → ArePasswords parts → List RawMessage
passwords-in [] h = []
passwords-in (part ∷ parts) h = record { tag = byte "p"; body = h.0.body } ∷ passwords-in parts h.1

pub reads-passwords : (parts : List (List ℕ)) (more : List ℕ) (h : ArePasswords parts) → messages (concat parts ++ more) ≡ passwords-in parts h ++ messages more
reads-passwords [] more h = refl
reads-passwords (part ∷ parts) more h =
    let m : RawMessage = record { tag = byte "p"; body = h.0.body } in
    ap (λ (x : List ℕ). messages ((x ++ concat parts) ++ more)) h.0.is ∙ ap messages (append_assoc (message_bytes m) (concat parts) more)
    ∙ messages-front m (concat parts ++ more) h.0.fits ∙ ap (λ (l : List RawMessage). m ∷ l) (reads-passwords parts more h.1)

pub count-passwords : (parts : List (List ℕ)) (h : ArePasswords parts) → length (passwords-in parts h) ≡ length parts
count-passwords [] h = refl
count-passwords (part ∷ parts) h = ap suc (count-passwords parts h.1)

pub all-passwords : (parts : List (List ℕ)) (h : ArePasswords parts) → list_all is_password (passwords-in parts h) ≡ true
all-passwords [] h = refl
all-passwords (part ∷ parts) h = all-passwords parts h.1

-- what was taken of them
pub record TakesPasswords (n : ℕ) (ms : List RawMessage) : Type 0 where
  pub count : length ms ≤ n
  pub all : list_all is_password ms ≡ true

pub front-passwords : (parts : List (List ℕ)) (more unsent : List ℕ) → ArePasswords parts → more ++ unsent ≡ concat parts → TakesPasswords (length parts) (messages more)
front-passwords parts more unsent h is =
    let others = messages (bytes_left more ++ unsent) in
    let whole : messages (concat parts) ≡ passwords-in parts h =
    ap messages (sym (append-nil (concat parts))) ∙ reads-passwords parts [] h ∙ append-nil (passwords-in parts h) in
    let cut : passwords-in parts h ≡ messages more ++ others = sym whole ∙ ap messages (sym is) ∙ messages-append more unsent in
    record {
      count = omega (arith, count-passwords parts h, ap length cut, length-append (messages more) others);
      all = (both-true (list_all is_password (messages more)) (list_all is_password others)
          (sym (list_all-append is_password (messages more) others) ∙ ap (list_all is_password) (sym cut) ∙ all-passwords parts h)).0;
    }

-- they are no requests
pub none-asked : (ms more : List RawMessage) → list_all is_password ms ≡ true → filter (λ frame. not (is_password frame)) (ms ++ more) ≡ filter (λ frame. not (is_password frame)) more
none-asked [] more e = refl
none-asked (m ∷ ms) more e =
    let b = both-true (is_password m) (list_all is_password ms) e in
    let rest = filter (λ frame. not (is_password frame)) (ms ++ more) in
    ap (λ (c : Bool). if not c then m ∷ rest else rest) b.0 ∙ none-asked ms more b.1

-- and each gives the turn
pub each-turn : (parts : List (List ℕ)) (h : ArePasswords parts) (more : List RawMessage) → count_by gives_turn (passwords-in parts h ++ more) ≡ length parts + count_by gives_turn more
each-turn [] h more = omega arith
each-turn (part ∷ parts) h more =
    let m : RawMessage = record { tag = byte "p"; body = h.0.body } in
    omega (arith, sum_by-cons (λ (x : RawMessage). cond (gives_turn x) 1 0) m (passwords-in parts h.1 ++ more), each-turn parts h.1 more)

-- no more turns than frames
pub few-turns-in : (ms : List RawMessage) → count_by gives_turn ms ≤ length ms
few-turns-in [] = omega arith
few-turns-in (m ∷ ms) = by (gives_turn m) refl (few-turns-in ms)
  where
    by : (b : Bool) → gives_turn m ≡ b → count_by gives_turn ms ≤ length ms → count_by gives_turn (m ∷ ms) ≤ length (m ∷ ms)
    by true e few = let one : ◌≡◌ {A = ℕ} (cond (gives_turn m) 1 0) 1 = ap (λ (c : Bool). cond c 1 0) e in omega (arith, one, few, sum_by-cons (λ (x : RawMessage). cond (gives_turn x) 1 0) m ms)
    by false e few = let none : ◌≡◌ {A = ℕ} (cond (gives_turn m) 1 0) 0 = ap (λ (c : Bool). cond c 1 0) e in omega (arith, none, few, sum_by-cons (λ (x : RawMessage). cond (gives_turn x) 1 0) m ms)
