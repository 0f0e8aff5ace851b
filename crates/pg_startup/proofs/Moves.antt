-- What the parts of a move say of an answer.
use Rattle.std.proofs.Common.{◌≡◌, ℕ, ◌||◌, Bool, true, false, List, [], ◌∷◌, Option, Some, None, Result, Ok, Err, if◌then◌else◌, refl, sym, ap, subst, ◌∙◌}
use Rattle.std.specs.Prelude.{codes, unwrap_or}
use Rattle.std.specs.Str.{bytes_eq}
use Rattle.pg_spec.specs.Bodies.{mechanisms_of}
use Rattle.pg_spec.specs.Faults.{FrameFault, Authentication, BindingRequired, ◌>>=◌}
use Rattle.pg_spec.specs.Faults as spec
use Rattle.pg_spec.specs.Settings.{Mode}
use Rattle.pg_spec.specs.Bindings.{client_final_of}
use Rattle.pg_spec.specs.Messages as said
use Rattle.pg_spec.specs.Passwords.{server_final_fault}
use Rattle.pg_spec.specs.SimpleQuery.{unreadable, server_error}
use Rattle.pg_wire.specs.Messages.{message_view}
use Rattle.pg_wire.specs.declared.message.Message.{Message}
use Rattle.pg_wire.specs.declared.message.Message.TheVariants as message
use Rattle.pg_wire.specs.declared.body.ErrorResponseBody.{ErrorResponseBody}
use Rattle.pg_wire.specs.declared.body.AuthenticationMd5PasswordBody.{AuthenticationMd5PasswordBody}
use Rattle.pg_wire.specs.declared.body.AuthenticationSaslContinueBody.{AuthenticationSaslContinueBody}
use Rattle.pg_wire.specs.declared.body.AuthenticationSaslFinalBody.{AuthenticationSaslFinalBody}
use Rattle.pg_wire.specs.Faults.{wire_fault}
use Rattle.pg_types.specs.declared.faults.WireFault.{WireFault}
use Rattle.pg_types.specs.declared.faults.WireFault.TheVariants as wire
use Rattle.pg_wire.specs.Steps.{mechanism_step, mechanisms_by_step, Refuses as IsRefusedBy}
use Rattle.pg_wire.proofs.SaslNames.{mechanisms-step}
use Rattle.pg_spec.specs.Startup.{Login, Move, Phase, Scheme, Refuses, unless_required, with_password, writes, writes_first, startup_message, goes_on_sasl, accepts_proof, offers, starts_sasl, uses_scheme, scheme_of, usable}
use Rattle.pg_spec.specs.Startup as startups
use Rattle.pg_types.specs.declared.faults.FrameFault.TheVariants as frame_faults
use Rattle.pg_types.specs.declared.cause.Cause.TheVariants as cause
use Rattle.pg_types.specs.declared.error.Error.{Error}
use Rattle.pg_types.specs.declared.error.Error.TheVariants as error
use Rattle.pg_scram.specs.Bindings.{binding_of}
use Rattle.pg_scram.specs.Dialogue.{reply_of}
use Rattle.pg_scram.specs.declared.sasl.ScramSha256.{ScramSha256}
use Rattle.pg_scram.specs.declared.sasl.ScramSha256Final.{ScramSha256Final}
use Rattle.pg_startup.specs.declared.phase.Phase.TheVariants as phase
use Rattle.pg_startup.specs.declared.phase.Step.{Step}
use Rattle.pg_startup.specs.declared.phase.Phase as code
use Rattle.pg_startup.specs.Stages.{Holds, phase_of}
use Rattle.pg_startup.specs.Steps.{IsMove, Made, offered_behind, unreadable_error}

-- whether the channel needn't be bound
abbrev pub Skips : Mode → Bool → Type 0
Skips mode skips = (move : Move) → unless_required mode move ≡ (if skips then move else Refuses (Authentication BindingRequired))

pub skipped : (l : Login) (move : Move) (r : Result Step Error) (skips : Bool) → Skips l.settings.channel_binding skips → skips ≡ true →
    IsMove l move r → IsMove l (unless_required l.settings.channel_binding move) r
skipped l move r skips may is h =
    subst (λ (m : Move). IsMove l m r) (sym (may move ∙ ap (λ (b : Bool). if b then move else Refuses (Authentication BindingRequired)) is)) h

pub required : (l : Login) (move : Move) (skips : Bool) → Skips l.settings.channel_binding skips → skips ≡ false →
    IsMove l (unless_required l.settings.channel_binding move) (Err (error.Authentication cause.BindingRequired))
required l move skips may is = may move ∙ ap (λ (b : Bool). if b then move else Refuses (Authentication BindingRequired)) is

pub none-given : (l : Login) (reply : List ℕ → Move) → l.settings.password ≡ None → IsMove l (with_password l.settings reply) (Err (error.Config cause.NoPassword))
none-given l reply is = ap (λ (o : Option (List ℕ)). elim o [ None ↦ Refuses (spec.Config spec.NoPassword) | Some password ↦ reply password ]) is

pub some-given : (l : Login) (reply : List ℕ → Move) (password : List ℕ) (r : Result Step Error) → l.settings.password ≡ Some password →
    IsMove l (reply password) r → IsMove l (with_password l.settings reply) r
some-given l reply password r is h =
    subst (λ (m : Move). IsMove l m r) (sym (ap (λ (o : Option (List ℕ)). elim o [ None ↦ Refuses (spec.Config spec.NoPassword) | Some password ↦ reply password ]) is)) h

-- the frame that was made is sent
pub made-sends : (frame : Result (List ℕ) FrameFault) (bytes : List ℕ) (next : Phase) → Made frame (Ok bytes) → writes frame next ≡ startups.Writes (bytes ∷ []) next
made-sends frame bytes next is = ap (λ (r : Result (List ℕ) FrameFault). writes r next) is

-- the one that couldn't be made is refused
pub made-refuses : (l : Login) (frame : Result (List ℕ) FrameFault) (e : Error) (next : Phase) → Made frame (Err e) → IsMove l (writes frame next) (Err e)
made-refuses l frame (error.Encode (cause.Frame frame_faults.ZeroByte)) next is = ap (λ (r : Result (List ℕ) FrameFault). writes r next) is
made-refuses l frame (error.Encode (cause.Frame frame_faults.TooMany)) next is = ap (λ (r : Result (List ℕ) FrameFault). writes r next) is
made-refuses l frame (error.Encode (cause.Frame frame_faults.TooLong)) next is = ap (λ (r : Result (List ℕ) FrameFault). writes r next) is
made-refuses l frame error.OutOfMemory next is = tt
made-refuses l frame _ next is = absurd is

or-assoc : (a b c : Bool) → (a || (b || c)) ≡ ((a || b) || c)
or-assoc true b c = refl
or-assoc false b c = refl

-- a name more is read
pub offered-more : (plus plain : Bool) (name : List ℕ) (rest : Result (List (List ℕ)) spec.WireFault) →
    offered_behind plus plain (rest >>= λ others. Ok (name ∷ others))
    ≡ offered_behind (plus || bytes_eq name (codes "SCRAM-SHA-256-PLUS")) (plain || bytes_eq name (codes "SCRAM-SHA-256")) rest
offered-more plus plain name (Ok others) =
    ap (λ (b : Bool). Ok (b, plain || (bytes_eq name (codes "SCRAM-SHA-256") || offers (codes "SCRAM-SHA-256") others)))
    (or-assoc plus (bytes_eq name (codes "SCRAM-SHA-256-PLUS")) (offers (codes "SCRAM-SHA-256-PLUS") others))
    ∙ ap (λ (b : Bool). Ok ((plus || bytes_eq name (codes "SCRAM-SHA-256-PLUS")) || offers (codes "SCRAM-SHA-256-PLUS") others, b))
    (or-assoc plain (bytes_eq name (codes "SCRAM-SHA-256")) (offers (codes "SCRAM-SHA-256") others))
offered-more plus plain name (Err fault) = refl

-- the steps of a list of mechanisms, in the words of its reading
pub offered-step : (plus plain : Bool) (bytes name rest : List ℕ) → mechanism_step bytes ≡ Ok (Some (name, rest)) →
    offered_behind (plus || bytes_eq name (codes "SCRAM-SHA-256-PLUS")) (plain || bytes_eq name (codes "SCRAM-SHA-256")) (mechanisms_of rest)
    ≡ offered_behind plus plain (mechanisms_of bytes)
offered-step plus plain bytes name rest is =
    sym (offered-more plus plain name (mechanisms_of rest))
    ∙ ap (offered_behind plus plain) (sym (mechanisms-step bytes ∙ ap mechanisms_by_step is))

-- ---- the offer

by_names : (l : Login) (password : List ℕ) (read : Result (List (List ℕ)) spec.WireFault) (plus plain : Bool) → offered_behind false false read ≡ Ok (plus, plain) →
    starts_sasl l password read ≡ uses_scheme l password (scheme_of (usable l.settings.channel_binding l.channel) plus plain)
by_names l password (Ok names) plus plain is =
    ap (λ (r : Result (Bool × Bool) spec.WireFault). elim r [
      | Ok offer ↦ uses_scheme l password (scheme_of (usable l.settings.channel_binding l.channel) offer.0 offer.1)
      | Err fault ↦ Refuses spec.UnexpectedMessage
    ]) is
by_names l password (Err fault) plus plain is = absurd (let no : Err fault ≡ Ok (plus, plain) = is in cc)

-- it was read
pub offer-used : (l : Login) (password bytes : List ℕ) (plus plain : Bool) (r : Result Step Error) → l.settings.password ≡ Some password →
    offered_behind false false (mechanisms_of bytes) ≡ Ok (plus, plain) →
    IsMove l (uses_scheme l password (scheme_of (usable l.settings.channel_binding l.channel) plus plain)) r →
    IsMove l (with_password l.settings (λ p. starts_sasl l p (mechanisms_of bytes))) r
offer-used l password bytes plus plain r is read h =
    some-given l (λ p. starts_sasl l p (mechanisms_of bytes)) password r is
    (subst (λ (m : Move). IsMove l m r) (sym (by_names l password (mechanisms_of bytes) plus plain read)) h)

by_fault : (l : Login) (password : List ℕ) (read : Result (List (List ℕ)) spec.WireFault) (x : spec.WireFault) → offered_behind false false read ≡ Err x →
    starts_sasl l password read ≡ startups.Refuses (unreadable x)
by_fault l password (Ok names) x is = absurd (let no : Ok _ ≡ Err x = is in cc)
by_fault l password (Err fault) x is =
    ap (λ (r : Result (Bool × Bool) spec.WireFault). elim r [ Ok offer ↦ Refuses spec.UnexpectedMessage | Err fault ↦ startups.Refuses (unreadable fault) ]) is

by_cause : (l : Login) (fault : WireFault) (x : spec.WireFault) (move : Move) → wire_fault fault ≡ Some x → move ≡ startups.Refuses (unreadable x) → IsMove l move (Err (unreadable_error fault))
by_cause l wire.OutOfMemory x move is h = tt
by_cause l wire.BadLength x move is h = h ∙ ap (λ (o : Option spec.WireFault). startups.Refuses (unreadable (unwrap_or o spec.Layout))) (sym is)
by_cause l wire.UnknownTag x move is h = h ∙ ap (λ (o : Option spec.WireFault). startups.Refuses (unreadable (unwrap_or o spec.Layout))) (sym is)
by_cause l wire.Layout x move is h = h ∙ ap (λ (o : Option spec.WireFault). startups.Refuses (unreadable (unwrap_or o spec.Layout))) (sym is)
by_cause l wire.NotUtf8 x move is h = h ∙ ap (λ (o : Option spec.WireFault). startups.Refuses (unreadable (unwrap_or o spec.Layout))) (sym is)

-- it can't be read
pub offer-refused : (l : Login) (password bytes : List ℕ) (fault : WireFault) → l.settings.password ≡ Some password →
    IsRefusedBy (offered_behind false false (mechanisms_of bytes)) fault →
    IsMove l (with_password l.settings (λ p. starts_sasl l p (mechanisms_of bytes))) (Err (unreadable_error fault))
offer-refused l password bytes fault is refused =
    some-given l (λ p. starts_sasl l p (mechanisms_of bytes)) password (Err (unreadable_error fault)) is
    (by_cause l fault refused.0 _ refused.1 (by_fault l password (mechanisms_of bytes) refused.0 refused.2))

-- ---- one message

-- an ErrorResponse is refused in every phase
error-moves : (l : Login) (phase : Phase) (fields : List ℕ) → startup_message l phase (said.ErrorResponse fields) ≡ startups.Refuses (server_error fields)
error-moves l startups.First fields = refl
error-moves l (startups.Continue binding) fields = refl
error-moves l (startups.Final signature) fields = refl
error-moves l startups.Accepted fields = refl
error-moves l startups.Info fields = refl

pub error-ends : (l : Login) (phase : Phase) (m : Message) (body : ErrorResponseBody) (e : Error) → m ≡ message.ErrorResponse body →
    IsMove l (startups.Refuses (server_error body.fields)) (Err e) → IsMove l (startup_message l phase (message_view m)) (Err e)
error-ends l phase m body e is h =
    subst (λ (x : Message). IsMove l (startup_message l phase (message_view x)) (Err e)) (sym is)
    (subst (λ (move : Move). IsMove l move (Err e)) (sym (error-moves l phase body.fields)) h)

pub digest-asked : (l : Login) (m : Message) (body : AuthenticationMd5PasswordBody) (salt : List ℕ) (r : Result Step Error) → m ≡ message.AuthenticationMd5Password body → salt ≡ body.salt →
    IsMove l (startup_message l startups.First (said.AuthenticationMd5Password salt)) r → IsMove l (startup_message l startups.First (message_view m)) r
digest-asked l m body salt r is same h =
    subst (λ (x : Message). IsMove l (startup_message l startups.First (message_view x)) r) (sym is)
    (subst (λ (x : List ℕ). IsMove l (startup_message l startups.First (said.AuthenticationMd5Password x)) r) same h)

pub challenged : (l : Login) (at : code.Phase) (scram : ScramSha256) (m : Message) (body : AuthenticationSaslContinueBody) (bytes : List ℕ) (r : Result Step Error) →
    at ≡ phase.Continue scram → m ≡ message.AuthenticationSaslContinue body → bytes ≡ body.data → Holds l at →
    IsMove l (goes_on_sasl (reply_of scram bytes)) r → IsMove l (startup_message l (phase_of at) (message_view m)) r
challenged l at scram m body bytes r is_at is_m same holds h =
    let own = subst (λ (p : code.Phase). Holds l p) is_at holds in
    subst (λ (p : code.Phase). IsMove l (startup_message l (phase_of p) (message_view m)) r) (sym is_at)
    (subst (λ (x : Message). IsMove l (startup_message l (phase_of (phase.Continue scram)) (message_view x)) r) (sym is_m)
    (subst (λ (move : Move). IsMove l move r)
    (ap (λ (d : List ℕ). goes_on_sasl (client_final_of (binding_of scram.binding) scram.password scram.nonce d)) same
    ∙ ap (λ (p : List ℕ). goes_on_sasl (client_final_of (binding_of scram.binding) p scram.nonce body.data)) own.0
    ∙ ap (λ (n : List ℕ). goes_on_sasl (client_final_of (binding_of scram.binding) (unwrap_or l.settings.password []) n body.data)) own.1) h))

pub proved : (l : Login) (at : code.Phase) (scram : ScramSha256Final) (m : Message) (body : AuthenticationSaslFinalBody) (bytes : List ℕ) (r : Result Step Error) →
    at ≡ phase.Final scram → m ≡ message.AuthenticationSaslFinal body → bytes ≡ body.data →
    IsMove l (accepts_proof (server_final_fault scram.signature bytes)) r → IsMove l (startup_message l (phase_of at) (message_view m)) r
proved l at scram m body bytes r is_at is_m same h =
    subst (λ (p : code.Phase). IsMove l (startup_message l (phase_of p) (message_view m)) r) (sym is_at)
    (subst (λ (x : Message). IsMove l (startup_message l (phase_of (phase.Final scram)) (message_view x)) r) (sym is_m)
    (subst (λ (d : List ℕ). IsMove l (accepts_proof (server_final_fault scram.signature d)) r) same h))

pub in-phase : (l : Login) (at there : code.Phase) (m : Message) (r : Result Step Error) → at ≡ there →
    IsMove l (startup_message l (phase_of there) (message_view m)) r → IsMove l (startup_message l (phase_of at) (message_view m)) r
in-phase l at there m r is h = subst (λ (p : code.Phase). IsMove l (startup_message l (phase_of p) (message_view m)) r) (sym is) h
