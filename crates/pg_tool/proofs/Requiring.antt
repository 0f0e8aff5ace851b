-- What a session promises whose settings require TLS.
use Rattle.std.proofs.Common.{◌≡◌, ◌≢◌, ◌==◌, ◌<◌, ◌≤◌, ℕ, Bool, true, false, if◌then◌else◌, List, [], ◌∷◌, ◌++◌, length, Result, Ok, Err, inl, inr, append-nil, refl, sym, ap, subst, ◌∙◌, arith}
use Rattle.std.specs.Prelude.{IsTrue}
use Rattle.std.specs.Str.{byte}
use Rattle.pg_promises.specs.Endings as ending
use Rattle.pg_text.specs.declared.command.Answer.{Answer}
use Rattle.pg_config.specs.Views.{settings_of, ssl_mode, ssl_negotiation}
use Rattle.pg_config.specs.declared.config.Config.{Config}
use Rattle.pg_config.specs.declared.modes.SslMode.{SslMode}
use Rattle.pg_config.specs.declared.modes.SslNegotiation.{SslNegotiation}
use Rattle.pg_promises.specs.Calls as any
use Rattle.pg_promises.specs.Kept.{NoneKeptBack}
use Rattle.pg_promises.specs.Sent.{SentInOrder}
use Rattle.pg_promises.specs.Causes.{Call, HasCause, IsAwaited, IsOfTls, IsStalled, MustAskForTls, NeedsNoTls, NoTlsFor}
use Rattle.pg_promises.specs.ConnectionStrings.{Means}
use Rattle.pg_promises.specs.Promises.{IsFront}
use Rattle.pg_spec.specs.Faults.{Cause, FrameFault, Handshake, Refused}
use Rattle.pg_spec.specs.Frames.{ssl_request, startup_frame}
use Rattle.pg_spec.specs.Links.{LinkView, Grew, OfBytes, Rose, next_count}
use Rattle.pg_spec.specs.RawMessages.{messages}
use Rattle.pg_spec.specs.Settings.{Settings, Mode, Negotiation, Disable, Prefer, Require, Postgres, Direct, startup_parameters}
use Rattle.pg_spec.specs.Startup.{Done, First, More, Startup, begun_by, dialogue, plain_login}
use Rattle.pg_types.specs.declared.cause.Cause.TheVariants as cause
use Rattle.pg_types.specs.declared.error.Error.{Error}
use Rattle.pg_types.specs.declared.error.Error.TheVariants as error
use Rattle.futures.specs.declared.task.Poll.TheVariants.{Ready}
use Rattle.pg_wire.specs.LinkCalls.{Continues, Keeps, SameBytes, SameWriting}
use Rattle.pg_connect.specs.Calm.{MissesOne, StaysCalm}
use Rattle.pg_startup.specs.SslRequests.{AskAnswers, AskFailed, Asked, Asking, AsksOn}
use Rattle.pg_startup.specs.declared.ssl_request.SslRequest.{SslRequest}
use Rattle.pg_open.specs.Choices.{first_choice}
use Rattle.pg_open.specs.declared.choice.TlsChoice.{TlsChoice}
use Rattle.pg_open.specs.declared.choice.TlsChoice.TheVariants.{Raw, Shakes, Fails, Asks}
use Rattle.pg_connect.proofs.Joining.{grew_same, keeps_then, rose_later}
use Rattle.pg_session.specs.Failures.{PauseFails}
use Rattle.pg_session.specs.WholeSession.{LeavesOpen}
use Rattle.pg_session.proofs.Caused.Start.{of_grown}
use Rattle.pg_session.proofs.LimitsKept.{HoldsLimit}
use Rattle.pg_session.proofs.Stalled.Start.{exact-so, last-so, lulls-so, rests-so}
use Rattle.pg_text.specs.declared.command.Command.{Command}
use Rattle.pg_session.specs.Speeches.{meaning_of}
use Rattle.pg_table.specs.Table.{table}
use Rattle.pg_tool.proofs.AtTable.{IsInOrder, none-in-order}
use Rattle.pg_tool.specs.Required.{AskEnds, AsksInVain, StopsAsking, choice_behind, choice_of, tls_error}
use Rattle.pg_play.proofs.Following.{continues_grown, continues_still, continues_then}

-- ---- the choice before a byte

abbrev choose : Mode → Negotiation → TlsChoice
choose mode negotiation = first_choice mode negotiation false true

raw-mode : (mode : Mode) (negotiation : Negotiation) → choose mode negotiation ≡ Raw → mode ≢ Require
raw-mode Disable n is e = absurd cc
raw-mode Prefer n is e = absurd cc
raw-mode Require Postgres is e = absurd cc
raw-mode Require Direct is e = absurd cc

-- where the link stays as it is, no TLS is required
pub raw_so : (s : Settings) → choice_of s ≡ Raw → NeedsNoTls s
raw_so s is = raw-mode s.ssl_mode s.ssl_negotiation is

asks-mode : (mode : Mode) (negotiation : Negotiation) → choose mode negotiation ≡ Asks → (mode ≡ Require) × (negotiation ≡ Postgres)
asks-mode Disable n is = absurd cc
asks-mode Prefer n is = absurd cc
asks-mode Require Postgres is = (refl, refl)
asks-mode Require Direct is = absurd cc

pub asks_so : (s : Settings) → choice_of s ≡ Asks → MustAskForTls s
asks_so s is = asks-mode s.ssl_mode s.ssl_negotiation is

shakes-mode : (mode : Mode) (negotiation : Negotiation) → choose mode negotiation ≡ Shakes → (mode ≡ Require) × (negotiation ≡ Direct)
shakes-mode Disable n is = absurd cc
shakes-mode Prefer n is = absurd cc
shakes-mode Require Postgres is = absurd cc
shakes-mode Require Direct is = (refl, refl)

pub shakes_so : (s : Settings) → choice_of s ≡ Shakes → (s.ssl_mode ≡ Require) × (s.ssl_negotiation ≡ Direct)
shakes_so s is = shakes-mode s.ssl_mode s.ssl_negotiation is

fails-mode : (mode : Mode) (negotiation : Negotiation) (c : Cause) → choose mode negotiation ≡ Fails c → ⊥
fails-mode Disable n c is = cc
fails-mode Prefer n c is = cc
fails-mode Require Postgres c is = cc
fails-mode Require Direct c is = cc

pub fails_so : (s : Settings) (c : Cause) → choice_of s ≡ Fails c → ⊥
fails_so s c is = fails-mode s.ssl_mode s.ssl_negotiation c is

-- the choice that was made is that of the settings
pub choice_told : (c : Config) (m : SslMode) (n : SslNegotiation) (t : TlsChoice) → m ≡ c.ssl_mode → n ≡ c.ssl_negotiation → t ≡ first_choice (ssl_mode m) (ssl_negotiation n) false true →
    choice_of (settings_of c) ≡ t
choice_told c m n t mode negotiation is =
    ap (λ (x : SslMode). first_choice (ssl_mode x) (ssl_negotiation c.ssl_negotiation) false true) (sym mode)
    ∙ ap (λ (x : SslNegotiation). first_choice (ssl_mode m) (ssl_negotiation x) false true) (sym negotiation) ∙ sym is

-- ---- where the link stands

grown : (call : Call) (got sent : List ℕ) (P : List ℕ → List ℕ → Type 0) → Grew call.before.given call.after.given got → Grew call.before.taken call.after.taken sent → P got sent → OfBytes call.before call.after P
grown call got sent P given taken h = of_grown call.before call.after got sent P given taken h

-- where it is stalled, a front of the request was taken
stopped-grew : (begin now : LinkView) (s : SslRequest) (a b : ℕ) → (h : StopsAsking begin now s (error.Stalled a b)) → Grew begin.given now.given [] × Grew begin.taken now.taken h.asking.sent
stopped-grew begin now s a b h =
    let rests = rests-so h.waited h.polled now h.fails.2 in
    (rests.bytes.given ∙ h.asking.given, rests.bytes.taken ∙ h.asking.taken)

-- what was given and taken, however it ended
record Ended (begin now : LinkView) : Type 0 where
  pub got : List ℕ
  pub sent : List ℕ
  pub given : Grew begin.given now.given got
  pub taken : Grew begin.taken now.taken sent
  pub front : IsFront sent ssl_request
  pub one : length got ≤ 1
  pub shut : now.shut ≡ begin.shut
  pub goes : Continues begin now

failed-ended : (begin now : LinkView) (s : SslRequest) (e : Error) → AskFailed begin now s e → Ended begin now
failed-ended begin now s e f = record {
  got = f.got;
  sent = f.sent;
  given = f.given;
  taken = f.taken;
  front = (f.unsent, f.out);
  one = f.one;
  shut = f.shut;
  goes = continues_grown begin now f.got f.sent f.given f.taken f.link;
}

ends-ended : (begin now : LinkView) (s : SslRequest) (e : Error) → AskEnds begin now s (Err e) → Ended begin now
ends-ended begin now s (error.Stalled a b) h =
    let rests = rests-so h.waited h.polled now h.fails.2 in
    let grew = stopped-grew begin now s a b h in
    record {
      got = [];
      sent = h.asking.sent;
      given = grew.0;
      taken = grew.1;
      front = (s.bytes.unsent.items, h.asking.out);
      one = omega arith;
      shut = rests.writing.shut ∙ h.asking.shut;
      goes = continues_then begin h.polled now (continues_grown begin h.polled [] h.asking.sent h.asking.given h.asking.taken h.asking.link) (continues_still h.polled now rests.bytes rests.keeps);
    }
ends-ended begin now s _ f = failed-ended begin now s _ f

vain-ended : (begin now : LinkView) (s : SslRequest) (e : Error) → AsksInVain begin now s e → Ended begin now
vain-ended begin now s e (inl h) =
    let a = h.1 in
    record {
      got = h.0 ∷ [];
      sent = ssl_request;
      given = a.given;
      taken = a.taken;
      front = ([], append-nil ssl_request);
      one = omega arith;
      shut = a.shut;
      goes = continues_grown begin now (h.0 ∷ []) ssl_request a.given a.taken a.link;
    }
vain-ended begin now s e (inr ends) = ends-ended begin now s e ends

-- ---- its cause

tls-cause : (x : Bool) → tls_error (if x then Shakes else Fails Refused) ≡ error.Tls (if x then Handshake else Refused)
tls-cause true = refl
tls-cause false = refl

-- the cause of such an error
abbrev tls-of : Bool → Cause
tls-of x = if x then Handshake else Refused

is-of-tls : (x : Bool) → IsOfTls (tls-of x)
is-of-tls true = tt
is-of-tls false = tt

-- the server's byte came
byte-cause : (call : Call) (settings : Settings) (s : SslRequest) (b : ℕ) (e : Error) → Means call.config settings → MustAskForTls settings → Asked call.before call.after s b →
    e ≡ tls_error (choice_behind b) → HasCause call e
byte-cause call settings s b e means must a is =
    subst (λ (x : Error). HasCause call x) (sym (is ∙ tls-cause (b == byte "S"))) (
      is-of-tls (b == byte "S"),
      (
        settings,
        means,
        (
          must.0,
          (λ postgres open_. a.flushed open_),
          grown call (b ∷ []) ssl_request (λ g t. NoTlsFor (tls-of (b == byte "S")) settings.ssl_negotiation g t) a.given a.taken
              (subst (λ (n : Negotiation). NoTlsFor (tls-of (b == byte "S")) n (b ∷ []) ssl_request) (sym must.1) (refl, refl)),
        ),
      ),
    )

-- nothing came for it
stalled-cause : (call : Call) (settings : Settings) (s : SslRequest) (before after : ℕ) → Means call.config settings → MustAskForTls settings →
    StopsAsking call.before call.after s (error.Stalled before after) → IsStalled call before after
stalled-cause call settings s before after means must h =
    let rests = rests-so h.waited h.polled call.after h.fails.2 in
    let o = h.asking in
    let from : before ≡ h.link.quiet = h.fails.0 in
    let to : after ≡ h.polled.quiet = h.fails.1 in
    record {
      lulls = lulls-so h.waited call.before h.link h.polled call.after h.keeps.counts.lulls o.link.counts.lulls h.promised (h.asks_on.lulls h.unmoved) h.fails.2;
      from = omega (arith, h.keeps.counts.quiet, from);
      to = omega (arith, rests.keeps.counts.quiet, to);
      rose = subst (λ (n : ℕ). Rose n after) (sym from) (subst (λ (n : ℕ). Rose h.link.quiet n) (sym to) h.asks_on.quiet);
      round = (omega (arith, h.misses, from, to), λ steady. omega (arith, h.misses, from, to));
      last = omega (arith, last-so h.waited h.polled call.after h.fails.2, to);
      exact = λ steady low. subst (λ (n : ℕ). call.after.quiet ≡ next_count n) (sym to)
          (exact-so h.waited call.before h.link h.polled call.after h.keeps.counts.lulls (h.calm.no_lull steady) low h.promised (h.asks_on.lulls h.unmoved) h.fails.2);
      awaited = λ steady.
          let idle = h.asks_on.idle (h.keeps.steady steady) in
          let whole : o.sent ≡ ssl_request = sym (append-nil o.sent) ∙ ap (λ (l : List ℕ). o.sent ++ l) (sym idle.0) ∙ o.out in
          (rests.bytes.due ∙ idle.1, (settings, means, grown call [] o.sent (IsAwaited call settings) (rests.bytes.given ∙ o.given) (rests.bytes.taken ∙ o.taken) (inr (inl (must, whole, refl)))));
    }

failed-cause : (call : Call) (settings : Settings) (s : SslRequest) (e : Error) → Means call.config settings → MustAskForTls settings → s.bytes.max_bytes ≡ call.limit →
    AskFailed call.before call.after s e → HasCause call e
failed-cause call settings s (error.Io cause.Link) means must limit f = f.fails
failed-cause call settings s (error.Io cause.Ended) means must limit f =
    (f.fails.0, (settings, means, inr (must, grown call f.got f.sent _ f.given f.taken (f.fails.2, f.fails.1))))
failed-cause call settings s (error.LimitReached given most) means must limit f = record {
  asked = f.fails.1 ∙ limit;
  more = f.fails.2;
  counted = grown call f.got f.sent (λ g t. length g ≡ given) f.given f.taken (sym f.fails.0);
}
failed-cause call settings s error.OutOfMemory means must limit f = tt
failed-cause call settings s _ means must limit f = absurd f.fails

ends-cause : (call : Call) (settings : Settings) (s : SslRequest) (e : Error) → Means call.config settings → MustAskForTls settings → s.bytes.max_bytes ≡ call.limit →
    AskEnds call.before call.after s (Err e) → HasCause call e
ends-cause call settings s (error.Stalled a b) means must limit h = stalled-cause call settings s a b means must h
ends-cause call settings s _ means must limit f = failed-cause call settings s _ means must limit f

pub vain_cause : (call : Call) (settings : Settings) (s : SslRequest) (e : Error) → Means call.config settings → MustAskForTls settings → s.bytes.max_bytes ≡ call.limit →
    AsksInVain call.before call.after s e → HasCause call e
vain_cause call settings s e means must limit (inl h) = byte-cause call settings s h.0 e means must h.1 h.3
vain_cause call settings s e means must limit (inr ends) = ends-cause call settings s e means must limit ends

-- ---- the limit

holds-grown : (call : Call) (e : Error) (got sent : List ℕ) → Grew call.before.given call.after.given got → Grew call.before.taken call.after.taken sent → length got ≤ call.limit → HoldsLimit call e
holds-grown call (error.LimitReached given limit) got sent given-so taken low = tt
holds-grown call error.OutOfMemory got sent given-so taken low = tt
holds-grown call _ got sent given-so taken low = grown call got sent (λ g t. length g ≤ call.limit) given-so taken low

holds-failed : (call : Call) (s : SslRequest) (e : Error) → s.bytes.max_bytes ≡ call.limit → AskFailed call.before call.after s e → HoldsLimit call e
holds-failed call s (error.LimitReached given most) limit f = tt
holds-failed call s error.OutOfMemory limit f = tt
holds-failed call s (error.Io cause.Link) limit f = holds-grown call (error.Io cause.Link) f.got f.sent f.given f.taken (omega (arith, f.within, limit))
holds-failed call s (error.Io cause.Ended) limit f = holds-grown call (error.Io cause.Ended) f.got f.sent f.given f.taken (omega (arith, f.within, limit))
holds-failed call s _ limit f = absurd f.fails

holds-ends : (call : Call) (s : SslRequest) (e : Error) → s.bytes.max_bytes ≡ call.limit → AskEnds call.before call.after s (Err e) → HoldsLimit call e
holds-ends call s (error.Stalled a b) limit h =
    let grew = stopped-grew call.before call.after s a b h in holds-grown call (error.Stalled a b) [] h.asking.sent grew.0 grew.1 (omega arith)
holds-ends call s _ limit f = holds-failed call s _ limit f

pub vain_holds : (call : Call) (s : SslRequest) (e : Error) → s.bytes.max_bytes ≡ call.limit → AsksInVain call.before call.after s e → HoldsLimit call e
vain_holds call s e limit (inl h) = holds-grown call e (h.0 ∷ []) ssl_request h.1.given h.1.taken (omega (arith, h.1.count, h.1.within, limit))
vain_holds call s e limit (inr ends) = holds-ends call s e limit ends

-- ---- what was sent

pub vain_sent : (call : any.Call Command) (settings : Settings) (s : SslRequest) (e : Error) → Means call.config settings → MustAskForTls settings → AsksInVain call.before call.after s e → IsInOrder call
vain_sent call settings s e means must h =
    let ended = vain-ended call.before call.after s e h in (
      settings,
      means,
      grown (any.apart call) ended.got ended.sent (λ g t. SentInOrder (meaning_of table) call settings g t) ended.given ended.taken
          (record { book = []; asked = []; order = none-in-order call settings ended.got; front = inr (inl (must, ended.front, ended.one)) }),
    )

pub vain_open : (begin now : LinkView) (s : SslRequest) (e : Error) → AsksInVain begin now s e → LeavesOpen begin now e
vain_open begin now s e h = inl (vain-ended begin now s e h).shut

pub vain_goes : (begin now : LinkView) (s : SslRequest) (e : Error) → AsksInVain begin now s e → Continues begin now
vain_goes begin now s e h = (vain-ended begin now s e h).goes

-- ---- no request is kept back

-- without a message no startup is done
not-done : (r : Result (List ℕ) FrameFault) (used : ℕ) (rest : Startup) → rest.outcome ≡ More → (begun_by r rest).outcome ≡ Done used → ⊥
not-done (Ok frame) used rest more is = absurd (let no : More ≡ Done used = sym more ∙ is in cc)
not-done (Err fault) used rest more is = absurd cc

-- the byte that came isn't one that a session is stalled for
not-stalled : (c : TlsChoice) (a b : ℕ) → error.Stalled a b ≡ tls_error c → ⊥
not-stalled (Fails cause) a b is = absurd cc
not-stalled Raw a b is = absurd cc
not-stalled Shakes a b is = absurd cc
not-stalled Asks a b is = absurd cc

pub vain_kept : (call : any.Call Command) (settings : Settings) (s : SslRequest) (e : Error) → Means call.config settings → AsksInVain call.before call.after s e →
    NoneKeptBack {T = ending.Report Answer} (meaning_of table) call (Err e)
vain_kept call settings s (error.Stalled a b) means (inl h) = absurd (not-stalled (choice_behind h.0) a b h.3)
vain_kept call settings s (error.Stalled a b) means (inr h) = λ steady all.
    let grew = stopped-grew call.before call.after s a b h in (
      settings,
      means,
      grown (any.apart call) [] h.asking.sent _ grew.0 grew.1
          (λ started. absurd (not-done (startup_frame (startup_parameters settings)) started.0 (dialogue (plain_login settings call.nonce) First (messages [])) refl started.1)),
    )
vain_kept call settings s (error.Tls c) means (inl h) = h.2.no_lull
vain_kept call settings s (error.Tls c) means (inr h) = absurd h.fails
vain_kept call settings s _ means h = tt

-- ---- the handshake fails before a byte

pub shakes_cause : (call : Call) (settings : Settings) → Means call.config settings → (settings.ssl_mode ≡ Require) × (settings.ssl_negotiation ≡ Direct) → call.after ≡ call.before →
    HasCause call (error.Tls cause.Handshake)
shakes_cause call settings means must same = (
  tt,
  (
    settings,
    means,
    (
      must.0,
      (λ postgres open_. absurd (let no : Direct ≡ Postgres = sym must.1 ∙ postgres in cc)),
      grown call [] [] (λ g t. NoTlsFor Handshake settings.ssl_negotiation g t) (grew_same call.before.given call.after.given (ap (λ (l : LinkView). l.given) same))
          (grew_same call.before.taken call.after.taken (ap (λ (l : LinkView). l.taken) same)) (subst (λ (n : Negotiation). NoTlsFor Handshake n [] []) (sym must.1) (refl, refl)),
    ),
  ),
)

-- ---- the request is polled until it answers

-- what a poll that ended it answered
pub ask_answers : (begin now : LinkView) (s : SslRequest) (r : Result ℕ Error) → AskAnswers begin now s (Ready r) → StaysCalm begin now → AskEnds begin now s r
ask_answers begin now s (Ok b) a calm = (a, calm)
ask_answers begin now s (Err (error.Stalled before after)) f calm = absurd f.fails
ask_answers begin now s (Err _) f calm = f

-- behind a poll that moved nothing, a pause ended it
pub ask_stops : (begin l a b : LinkView) (s : SslRequest) (waited : Bool) (e : Error) → Keeps begin l → Asking begin a s → s.bytes.given ≤ s.bytes.max_bytes → AsksOn s l a → MissesOne l a →
    StaysCalm begin a → s.bytes.moved ≡ false → (waited ≡ true → IsTrue l.promised) → SameBytes a b → SameWriting a b → Keeps a b → PauseFails l.quiet a.quiet waited a b e → AskEnds begin b s (Err e)
ask_stops begin l a b s waited (error.Stalled x y) keeps-l o within asks_on misses calm unmoved promised bytes writing keeps fails = record {
  link = l;
  keeps = keeps-l;
  polled = a;
  asking = o;
  within = within;
  asks_on = asks_on;
  misses = misses;
  calm = calm;
  unmoved = unmoved;
  waited = waited;
  promised = promised;
  fails = fails;
}
ask_stops begin l a b s waited (error.Io cause.Link) keeps-l o within asks_on misses calm unmoved promised bytes writing keeps fails = record {
  got = [];
  sent = o.sent;
  unsent = s.bytes.unsent.items;
  given = bytes.given ∙ o.given;
  taken = bytes.taken ∙ o.taken;
  out = o.out;
  one = omega arith;
  behind = inl refl;
  shut = writing.shut ∙ o.shut;
  count = o.count;
  link = keeps_then begin a b o.link keeps;
  fails = rose_later begin.faults a.faults b.faults o.link.counts.faults fails;
  within = omega arith;
}
ask_stops begin l a b s waited _ keeps-l o within asks_on misses calm unmoved promised bytes writing keeps fails = absurd fails
