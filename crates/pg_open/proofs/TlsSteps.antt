-- Where a choice of TLS stands behind each step of a poll.
use Rattle.std.proofs.Common.{◌≡◌, inl, inr, ◌==◌, ℕ, Bool, true, false, if◌then◌else◌, [], ◌∷◌, Some, None, Result, Err, refl, sym, ◌∙◌, subst}
use Rattle.std.specs.Str.{byte}
use Rattle.futures.specs.Poll.{OnPending}
use Rattle.futures.specs.declared.task.Poll.{Poll}
use Rattle.pg_config.specs.Views.{ssl_mode, ssl_negotiation}
use Rattle.pg_types.specs.declared.cause.Cause.{Cause}
use Rattle.pg_types.specs.declared.cause.Cause.TheVariants as cause
use Rattle.pg_types.specs.declared.error.Error.{Error}
use Rattle.pg_types.specs.declared.error.Error.TheVariants as error
use Rattle.pg_spec.specs.Links.{LinkView}
use Rattle.pg_open.specs.declared.maybe_tls.MaybeTls.{MaybeTls}
use Rattle.pg_wire.specs.LinkCalls.{Keeps, WaitAnswers}
use Rattle.pg_wire.specs.declared.link.LinkWait.{LinkWait}
use Rattle.pg_spec.specs.Settings.{Mode, Disable, Prefer, Require, Negotiation, Postgres, Direct}
use Rattle.pg_open.specs.Choices as choices
use Rattle.pg_open.specs.declared.choice.TlsChoice.{TlsChoice}
use Rattle.pg_open.specs.declared.choice.TlsChoice.TheVariants as choice
use Rattle.futures.specs.declared.task.Poll.TheVariants.{Ready, Pending}
use Rattle.pg_startup.specs.SslRequests.{AskFailed, Asked}
use Rattle.pg_startup.specs.declared.ssl_request.SslRequest.{SslRequest}
use Rattle.pg_open.specs.Choosing.{Chose, IsAsked, IsBegun, Known, Shook, TlsAnswers, TlsFails, Waits, WaitsOn, first_of, later_of, limit_of}
use Rattle.pg_open.specs.declared.stages.TlsSettings.{TlsSettings}
use Rattle.pg_open.specs.declared.stages.Question.{Question}
use Rattle.pg_open.specs.declared.stages.Stage.{Stage}
use Rattle.pg_open.specs.declared.stages.Stage.TheVariants.{Fresh, Asking, Shaking, Over}

-- no byte makes the choice to ask
pub never-asks : (mode : Mode) (hostname : Bool) (b : ℕ) → choices.after_byte mode hostname b ≡ choice.Asks → ⊥
never-asks mode hostname b = by mode hostname (b == byte "S")
  where
    by : (mode : Mode) (hostname yes : Bool) → (if yes then choices.shakes hostname else choices.without_tls mode) ≡ choice.Asks → ⊥
    by mode true true e = cc
    by mode false true e = cc
    by Disable hostname false e = cc
    by Prefer hostname false e = cc
    by Require hostname false e = cc

-- a fact of a poll that was pending leads to another
pub on-pending : {A P Q : Type 0} → (r : Poll A) → (P → Q) → OnPending r P → OnPending r Q
on-pending (Ready x) f h = tt
on-pending Pending f h = f h

-- the choice is never that the handshake failed
pub first-no-handshake : (mode : Mode) (negotiation : Negotiation) (can hostname : Bool) → choices.first_choice mode negotiation can hostname ≡ choice.Fails cause.Handshake → ⊥
first-no-handshake Disable negotiation can hostname e = cc
first-no-handshake Prefer negotiation false hostname e = cc
first-no-handshake Prefer Direct true hostname e = cc
first-no-handshake Prefer Postgres true hostname e = cc
first-no-handshake Require Direct can true e = cc
first-no-handshake Require Direct can false e = cc
first-no-handshake Require Postgres can hostname e = cc

pub byte-no-handshake : (mode : Mode) (hostname : Bool) (b : ℕ) → choices.after_byte mode hostname b ≡ choice.Fails cause.Handshake → ⊥
byte-no-handshake mode hostname b = by mode hostname (b == byte "S")
  where
    by : (mode : Mode) (hostname yes : Bool) → (if yes then choices.shakes hostname else choices.without_tls mode) ≡ choice.Fails cause.Handshake → ⊥
    by mode true true e = cc
    by mode false true e = cc
    by Disable hostname false e = cc
    by Prefer hostname false e = cc
    by Require hostname false e = cc

-- a wait for the link of a question
pub waits-asking : {L T F S E : Type 0} (view : L → LinkView) (q now : Question L T) (old new : Stage L T F S E) (answer : LinkWait) → old ≡ Asking q → new ≡ Asking now → now.tls ≡ q.tls →
    now.request ≡ q.request → WaitAnswers (view q.link) (view now.link) answer → Keeps (view q.link) (view now.link) → Waits view old new answer
waits-asking {L} {T} {F} {S} {E} view q now old new answer was is tls request waited keeps =
    subst (λ (s : Stage L T F S E). Waits view s new answer) (sym was) (now, is, tls, request, waited, keeps)

-- a handshake that was pending was begun before the poll, or in it
pub begun-now : {L T F S E : Type 0} (k : Known L T F S E) (moved : Bool) (handshake : F) (quiet : ℕ) (new : Stage L T F S E) → WaitsOn k moved (Shaking handshake quiet) new → WaitsOn k moved (Over None) new
begun-now k moved handshake quiet (Fresh link tls) w = absurd w
begun-now k moved handshake quiet (Asking q) w = absurd w.1
begun-now k moved handshake quiet (Shaking now n) w = (w.0, (w.1.0, tt, w.1.2))
begun-now k moved handshake quiet (Over left) w = absurd w

-- behind a question it was begun in this poll
pub begun-behind : {L T F S E : Type 0} (k : Known L T F S E) (moved : Bool) (q : Question L T) (new : Stage L T F S E) → WaitsOn k moved (Over None) new → WaitsOn k moved (Asking q) new
begun-behind k moved q (Fresh link tls) w = absurd w
begun-behind k moved q (Asking now) w = absurd w.1
begun-behind k moved q (Shaking now n) w = w
begun-behind k moved q (Over left) w = absurd w

-- and so it was at the first poll
pub begun-first : {L T F S E : Type 0} (k : Known L T F S E) (moved : Bool) (link : L) (tls : T) (new : Stage L T F S E) → WaitsOn k moved (Over None) new → WaitsOn k moved (Fresh link tls) new
begun-first k moved link tls (Fresh l t) w = absurd w
begun-first k moved link tls (Asking now) w = absurd w.1
begun-first k moved link tls (Shaking now n) w = w
begun-first k moved link tls (Over left) w = absurd w

-- the first poll asks over the link as it was handed in
pub asked-first : {L T F S E : Type 0} (k : Known L T F S E) (moved : Bool) (q : Question L T) (new : Stage L T F S E) → WaitsOn k moved (Asking q) new → WaitsOn k moved (Fresh q.link q.tls) new
asked-first k moved q (Fresh l t) w = absurd w
asked-first k moved q (Asking now) w = (w.0, w.1, tt)
asked-first k moved q (Shaking now n) w = w
asked-first k moved q (Over left) w = absurd w

module _ {L T F S E : Type 0} (k : Known L T F S E) (want : TlsSettings) (link : L) (tls : T) where
  -- one more poll of a handshake was pending
  pub pending-on : (asked quiet : ℕ) (before now : F) → IsBegun k want link tls asked quiet before → k.polled before now Pending → IsBegun k want link tls asked quiet now
  pending-on asked quiet before now b polled = record {
    over = b.over;
    chose = b.chose;
    quiet_then = b.quiet_then;
    began = b.began;
    begins = b.begins;
    polls = before ∷ b.polls;
    pending = (b.pending, polled);
  }

  -- a poll of it answered
  pub shook : (asked quiet : ℕ) (before now : F) (answer : Result S E) → IsBegun k want link tls asked quiet before → k.polled before now (Ready answer) → Shook k want link tls asked answer
  shook asked quiet before now answer b polled = record { quiet = quiet; before = before; begun = b; after = now; polled = polled }

  -- the choice by the byte
  pub chose-by : (now : L) (after : ℕ) (made : TlsChoice) (request : SslRequest) (byte : ℕ) → after ≡ 1 → first_of want (k.connects tls) ≡ choice.Asks → request.bytes.max_bytes ≡ limit_of want →
      Asked (k.view link) (k.view now) request byte → later_of want byte ≡ made → Chose k want link tls now after made
  chose-by now after made request byte one asks limit asked makes = inr (record { asks = asks; byte = byte; request = request; limit = limit; asked = asked; makes = makes }, one)

  -- the choice before a byte
  pub chose-first : (can : Bool) (asked : ℕ) (made : TlsChoice) → can ≡ k.connects tls → made ≡ choices.first_choice (ssl_mode want.mode) (ssl_negotiation want.negotiation) can want.has_hostname →
      asked ≡ 0 → Chose k want link tls link asked made
  chose-first can asked made is makes none = inl (subst (λ (x : Bool). first_of want x ≡ made) is (sym makes), refl, none)

  -- the choice never is that the handshake failed
  chose-no-handshake : (now : L) (asked : ℕ) → Chose k want link tls now asked (choice.Fails cause.Handshake) → ⊥
  chose-no-handshake now asked (inl c) = first-no-handshake (ssl_mode want.mode) (ssl_negotiation want.negotiation) (k.connects tls) want.has_hostname c.0
  chose-no-handshake now asked (inr c) = byte-no-handshake (ssl_mode want.mode) want.has_hostname c.0.byte c.0.makes

  -- the choice is an error, and the link is left
  pub tls-left : (now : L) (asked : ℕ) (why : Cause) (stage : Stage L T F S E) (result : Poll (Result (MaybeTls L S) Error)) → Chose k want link tls now asked (choice.Fails why) →
      stage ≡ Over (Some now) → result ≡ Ready (Err (error.Tls why)) → TlsAnswers k want link tls asked stage result
  tls-left now asked why stage result chose left is =
      subst (λ (r : Poll (Result (MaybeTls L S) Error)). TlsAnswers k want link tls asked stage r) (sym is)
      (subst (λ (s : Stage L T F S E). TlsFails k want link tls asked s (error.Tls why)) (sym left) (by why chose))
    where
      by : (why : Cause) → Chose k want link tls now asked (choice.Fails why) → TlsFails k want link tls asked (Over (Some now)) (error.Tls why)
      by cause.Handshake c = absurd (chose-no-handshake now asked c)
      by why c = c

  -- no byte came, and the link is left
  pub ask-left : (q : Question L T) (now : L) (r : SslRequest) (asked after : ℕ) (e : Error) (stage : Stage L T F S E) (result : Poll (Result (MaybeTls L S) Error)) →
      IsAsked k want link tls q asked → r.bytes.max_bytes ≡ q.request.bytes.max_bytes → AskFailed (k.view link) (k.view now) r e →
      stage ≡ Over (Some now) → result ≡ Ready (Err e) → TlsAnswers k want link tls after stage result
  ask-left q now r asked after e stage result o limit failed left is =
      subst (λ (x : Poll (Result (MaybeTls L S) Error)). TlsAnswers k want link tls after stage x) (sym is)
      (subst (λ (s : Stage L T F S E). TlsFails k want link tls after s e) (sym left) (by e failed))
    where
      by : (e : Error) → AskFailed (k.view link) (k.view now) r e → TlsFails k want link tls after (Over (Some now)) e
      by (error.Tls why) f = absurd f.fails
      by error.OutOfMemory f = inr (record { asks = o.asks; request = r; limit = limit ∙ o.limit; failed = f })
      by e f = record { asks = o.asks; request = r; limit = limit ∙ o.limit; failed = f }

  -- memory lacks for the request, and the link is left as it was handed in
  pub lacks-first : (asked : ℕ) (stage : Stage L T F S E) (result : Poll (Result (MaybeTls L S) Error)) → stage ≡ Over (Some link) → result ≡ Ready (Err error.OutOfMemory) → TlsAnswers k want link tls asked stage result
  lacks-first asked stage result left is =
      subst (λ (r : Poll (Result (MaybeTls L S) Error)). TlsAnswers k want link tls asked stage r) (sym is)
      (subst (λ (s : Stage L T F S E). TlsFails k want link tls asked s error.OutOfMemory) (sym left) (inl refl))

  -- the byte came: what follows of the question's connector follows of this one
  pub ask-done : (q : Question L T) (now : L) (r : SslRequest) (asked after : ℕ) (b : ℕ) (stage : Stage L T F S E) (result : Poll (Result (MaybeTls L S) Error)) →
      IsAsked k want link tls q asked → r.bytes.max_bytes ≡ q.request.bytes.max_bytes → Asked (k.view link) (k.view now) r b →
      (first_of want (k.connects q.tls) ≡ choice.Asks → r.bytes.max_bytes ≡ limit_of want → Asked (k.view link) (k.view now) r b → TlsAnswers k want link q.tls after stage result) →
      TlsAnswers k want link tls after stage result
  ask-done q now r asked after b stage result o limit came follows =
      subst (λ (t : T). TlsAnswers k want link t after stage result) o.same
      (follows (subst (λ (t : T). first_of want (k.connects t) ≡ choice.Asks) (sym o.same) o.asks) (limit ∙ o.limit) came)

  -- the handshake was begun now
  pub begins-now : (over : L) (asked quiet : ℕ) (began : F) → Chose k want link tls over asked choice.Shakes → quiet ≡ (k.view over).quiet → k.begins tls over began → IsBegun k want link tls asked quiet began
  begins-now over asked quiet began chose is begins = record {
    over = over;
    chose = chose;
    quiet_then = is;
    began = began;
    begins = begins;
    polls = [];
    pending = refl;
  }
