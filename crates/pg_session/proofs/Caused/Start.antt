-- A startup that failed has its cause.
use Rattle.std.proofs.Common.{◌≡◌, ℕ, Bool, false, List, [], ◌∷◌, ◌++◌, length, Option, Some, None, Result, Err, inl, inr, refl, sym, ◌∙◌, ap, subst, arith}
use Rattle.std.specs.Prelude.{IfSome}
use Rattle.std.proofs.Math.Seq.{drop-append_seam}
use Rattle.pg_promises.specs.Causes.{Call, OfPlainDialogue, InStartup, HasCause, NeedsNoTls}
use Rattle.pg_promises.specs.ConnectionStrings.{Means}
use Rattle.pg_spec.specs.Settings.{Settings}
use Rattle.pg_spec.specs.Faults.{FrameFault, ZeroByte, TooMany, TooLong, Frame, Encode}
use Rattle.pg_spec.specs.Links.{LinkView, Grew, added, OfBytes}
use Rattle.pg_spec.specs.RawMessages.{RawMessage, messages}
use Rattle.pg_spec.specs.Startup.{Refused, Move, begun_by, dialogue, First, moved_by, startup, plain_login}
use Rattle.pg_types.specs.declared.faults.FrameFault.TheVariants as frame
use Rattle.pg_types.specs.declared.faults.WireFault.TheVariants as wire
use Rattle.pg_types.specs.declared.cause.Cause.TheVariants as cause
use Rattle.pg_types.specs.declared.error.Error.{Error}
use Rattle.pg_types.specs.declared.error.Error.TheVariants as error
use Rattle.pg_startup.specs.Steps.{Made, frame_of}
use Rattle.pg_startup.specs.declared.startup.Startup.{Startup}
use Rattle.pg_startup.specs.Startups.{IsAt, IsRefusedNext, Leads, Failed}
use Rattle.pg_session.proofs.Caused.Refusals.{IsOfStartup, startup-failure}
use Rattle.pg_session.proofs.Crossing.End.{of-bytes}
use Rattle.pg_session.proofs.Opening.{at-opening, leads-outcome}
use Rattle.pg_session.proofs.Opening.Sent.{silent-front}

-- ---- of the bytes that were given and taken

of_added : (a b : Option (List ℕ)) (piece : List ℕ) (P : List ℕ → Type 0) → Grew a b piece → P piece → IfSome (added a b) P
of_added None b piece P grew h = tt
of_added (Some told) b piece P grew h =
    subst (λ (o : Option (List ℕ)). IfSome (added (Some told) o) P) (sym grew) (subst P (sym (drop-append_seam told piece)) h)

pub of_grown : (a b : LinkView) (got sent : List ℕ) (P : List ℕ → List ℕ → Type 0) → Grew a.given b.given got → Grew a.taken b.taken sent → P got sent → OfBytes a b P
of_grown a b got sent P given taken h =
    of_added a.given b.given got (λ g. IfSome (added a.taken b.taken) (λ t. P g t)) given
    (of_added a.taken b.taken sent (λ t. P got t) taken h)

-- what holds of the bytes of a startup that failed
pub of_failed : (call : Call) (settings : Settings) (s : Startup) (e : Error) (P : Settings → List ℕ → List ℕ → Type 0) → Means call.config settings → NeedsNoTls settings →
    (f : Failed (plain_login settings call.nonce) 0 call.before call.after s e) → P settings f.got f.sent → OfPlainDialogue call P
of_failed call settings s e P means plain f h =
    (settings, means, (plain, of_grown call.before call.after f.got f.sent (λ g t. P settings g t) f.given f.taken h))

-- ---- a message that is refused

module _ (call : Call) (settings : Settings) (s : Startup) (e : Error) (means : Means call.config settings) (plain : NeedsNoTls settings)
    (f : Failed (plain_login settings call.nonce) 0 call.before call.after s e) where
  of-start : (P : Settings → List ℕ → List ℕ → Type 0) → P settings f.got f.sent → OfPlainDialogue call P
  of-start P h = of_failed call settings s e P means plain f h

  leads : f.done ≡ false → Leads (plain_login settings call.nonce) f.read f.at f.wrote
  leads open_ = subst (λ (b : Bool). IsAt (plain_login settings call.nonce) f.read f.wrote b f.at) open_ f.stands

  -- the startup ends so, whatever follows
  in-startup : f.done ≡ false → IsRefusedNext (plain_login settings call.nonce) f.at f.rest e → InStartup e call settings f.got
  in-startup open_ h = (plain, ap (λ (ms : List RawMessage). (startup settings call.nonce ms).outcome) f.came ∙ by f.rest h)
    where
      by : (rest : List RawMessage) → IsRefusedNext (plain_login settings call.nonce) f.at rest e → (startup settings call.nonce (f.read ++ rest)).outcome ≡ Refused e
      by [] h = absurd h
      by (m ∷ ms) h =
          leads-outcome settings call.nonce f.first f.frame f.read f.at f.wrote (leads open_) (m ∷ ms) (Refused e) refl
          (ap (λ (move : Move). (moved_by move (λ next. dialogue (plain_login settings call.nonce) next ms)).outcome) h)

  of-startup : IsRefusedNext (plain_login settings call.nonce) f.at f.rest e → IsOfStartup e
  of-startup h = by f.rest h
    where
      by : (rest : List RawMessage) → IsRefusedNext (plain_login settings call.nonce) f.at rest e → IsOfStartup e
      by [] h = absurd h
      by (m ∷ ms) h = startup-failure (plain_login settings call.nonce) f.at m e h

  -- what it is refused for is the session's failure
  refused-cause : (x : Error) → IsOfStartup x → InStartup x call settings f.got → HasCause call x
  refused-cause (error.Config cause.NoPassword) is h = of-start _ h
  refused-cause (error.Encode (cause.Frame frame.ZeroByte)) is h = of-start _ h
  refused-cause (error.Encode (cause.Frame frame.TooMany)) is h = of-start _ h
  refused-cause (error.Encode (cause.Frame frame.TooLong)) is h = of-start _ h
  refused-cause (error.Authentication c) is h = (is, of-start _ h)
  refused-cause (error.Db d) is h = of-start _ (inl h)
  refused-cause error.UnexpectedMessage is h = of-start _ (inl h)
  refused-cause (error.Parse c) is h = (is, of-start _ (inl h))
  refused-cause (error.Io (cause.Wire wire.UnknownTag)) is h = of-start _ (inr (inl h))
  refused-cause (error.Io (cause.Wire wire.Layout)) is h = of-start _ (inr (inl h))
  refused-cause _ is h = absurd is

  next-refused : (f.done ≡ false) × IsRefusedNext (plain_login settings call.nonce) f.at f.rest e → HasCause call e
  next-refused h = refused-cause e (of-startup h.1) (in-startup h.0 h.1)

-- ---- the frame that its writer refuses

refused_frame : (call : Call) (settings : Settings) (fault : FrameFault) → Means call.config settings → NeedsNoTls settings → frame_of settings ≡ Err fault →
    OfPlainDialogue call (λ s g t. InStartup (Encode (Frame fault)) call s g)
refused_frame call settings fault means plain is = (
  settings,
  means,
  (
    plain,
    of-bytes call.before call.after (λ g t. InStartup (Encode (Frame fault)) call settings g)
        (λ g t told took. (plain, ap (λ (r : Result (List ℕ) FrameFault). (begun_by r (dialogue (plain_login settings call.nonce) First (messages g))).outcome) is)),
  ),
)

-- where the startup's frame can't be made, it has its cause
pub made_cause : (call : Call) (settings : Settings) (e : Error) → Means call.config settings → NeedsNoTls settings → Made (frame_of settings) (Err e) → HasCause call e
made_cause call settings (error.Encode (cause.Frame frame.ZeroByte)) means plain m = refused_frame call settings ZeroByte means plain m
made_cause call settings (error.Encode (cause.Frame frame.TooLong)) means plain m = refused_frame call settings TooLong means plain m
made_cause call settings (error.Encode (cause.Frame frame.TooMany)) means plain m = refused_frame call settings TooMany means plain m
made_cause call settings error.OutOfMemory means plain m = tt
made_cause call settings _ means plain m = absurd m

-- ---- every failure

failed-closed : (call : Call) (settings : Settings) (s : Startup) → Means call.config settings → NeedsNoTls settings →
    Failed (plain_login settings call.nonce) 0 call.before call.after s error.Closed → HasCause call error.Closed
failed-closed call settings s means plain f =
    let o = at-opening settings call.nonce f.first f.frame f.read f.wrote f.done f.at f.stands in
    (f.fails.2, of_failed call settings s error.Closed _ means plain f (f.fails.3, silent-front settings (f.first ++ f.wrote) o f.sent f.unsent f.out))

failed-limit : (call : Call) (settings : Settings) (s : Startup) (given limit : ℕ) → s.bytes.max_bytes ≡ call.limit →
    Failed (plain_login settings call.nonce) 0 call.before call.after s (error.LimitReached given limit) → HasCause call (error.LimitReached given limit)
failed-limit call settings s given limit is f = record {
  asked = f.fails.2 ∙ is;
  more = f.fails.3;
  counted = of_grown call.before call.after f.got f.sent (λ g t. length g ≡ given) f.given f.taken (let count = f.fails.1 in omega (arith, count));
}

-- A startup that failed has its cause; it doesn't answer Stalled.
pub start_cause : (call : Call) (settings : Settings) (s : Startup) (e : Error) → Means call.config settings → NeedsNoTls settings → s.bytes.max_bytes ≡ call.limit →
    Failed (plain_login settings call.nonce) 0 call.before call.after s e → HasCause call e
start_cause call settings s (error.Io cause.Link) means plain is f = f.fails
start_cause call settings s (error.Io cause.Ended) means plain is f =
    (f.fails.2, (settings, means, inl (plain, of_grown call.before call.after f.got f.sent _ f.given f.taken (f.fails.3, f.fails.4))))
start_cause call settings s (error.Io (cause.Wire wire.BadLength)) means plain is f =
    of_failed call settings s (error.Io (cause.Wire wire.BadLength)) _ means plain f (inl (refl, f.fails.2))
start_cause call settings s error.Closed means plain is f = failed-closed call settings s means plain f
start_cause call settings s (error.LimitReached given limit) means plain is f = failed-limit call settings s given limit is f
start_cause call settings s error.OutOfMemory means plain is f = tt
start_cause call settings s e means plain is f = next-refused call settings s e means plain f f.fails
