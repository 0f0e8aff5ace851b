-- One message, told to a dialogue that stands behind others.
use Rattle.std.proofs.Common.{◌≡◌, ℕ, ◌^◌, ◌<◌, ◌≤◌, Bool, true, false, List, [], ◌∷◌, ◌++◌, length, Option, Some, None, Ok, Err, append-nil, append_assoc, length-append, refl, sym, ◌∙◌, ap, subst, arith}
use Rattle.std.specs.List.{concat}
use Rattle.pg_spec.specs.Messages as said
use Rattle.pg_spec.specs.Messages.{message_of}
use Rattle.pg_spec.specs.RawMessages.{RawMessage}
use Rattle.pg_spec.specs.Startup as startups
use Rattle.pg_spec.specs.Startup.{Login, Phase, First, Continue, Final, Accepted, Info, Move, Writes, Refuses, startup_move, startup_message}
use Rattle.pg_types.specs.declared.cause.Cause.TheVariants as cause
use Rattle.pg_types.specs.declared.error.Error.{Error}
use Rattle.pg_types.specs.declared.error.Error.TheVariants as error
use Rattle.pg_types.specs.declared.faults.WireFault.TheVariants as wire
use Rattle.pg_startup.specs.Stages.{Stage}
use Rattle.pg_startup.specs.Steps.{Tells}
use Rattle.pg_startup.specs.declared.startup.Heard.TheVariants as heard
use Rattle.pg_startup.specs.declared.startup.Startup.{Startup}
use Rattle.pg_startup.specs.Frames.{frames_left, frames_of}
use Rattle.pg_startup.specs.Startups.{Adds, Ends, HasPlace, IsStop, IsTold, Leads, Reaches, Speaks, sends_left}
use Rattle.pg_startup.proofs.Lowering.{IsEnd, Lowers, ends-ready, message-lowers}
use Rattle.pg_startup.proofs.Refusals.{refusal-is}
use Rattle.pg_startup.proofs.Starting.{ends-on, leads-on, move-of}

-- ---- where it stands

reaches-at : (l : Login) (read : List RawMessage) (wrote : List ℕ) (done : Bool) (o : Option Stage) (d : Stage) → done ≡ false → o ≡ Some d → Reaches l read wrote done o → (d.login ≡ l) × Leads l read d.phase wrote
reaches-at l read wrote done o d going is reaches =
    subst (λ (x : Option Stage). Reaches l read wrote false x) is (subst (λ (b : Bool). Reaches l read wrote b o) going reaches)

-- it waits for more, so its messages lead to its phase
pub leads-of : (l : Login) (first : List ℕ) (read : List RawMessage) (s : Startup) (d : Stage) → (p : Speaks l first read s) → s.done ≡ false → s.dialogue ≡ Some d → (d.login ≡ l) × Leads l read d.phase p.wrote
leads-of l first read s d p going is = reaches-at l read p.wrote s.done s.dialogue d going is p.reaches

-- to some phase
pub phase-of : (l : Login) (first : List ℕ) (read : List RawMessage) (s : Startup) → (p : Speaks l first read s) → s.done ≡ false → (at : Phase) × Leads l read at p.wrote
phase-of l first read s p going = by s.dialogue (subst (λ (b : Bool). Reaches l read p.wrote b s.dialogue) going p.reaches)
  where
    by : (o : Option Stage) → Reaches l read p.wrote false o → (at : Phase) × Leads l read at p.wrote
    by None is = absurd is
    by (Some d) is = (d.phase, is.1)

-- a dialogue that goes on isn't over
pub never-over : (l : Login) (first : List ℕ) (read : List RawMessage) (s : Startup) → Speaks l first read s → s.done ≡ false → s.dialogue ≡ None → ⊥
never-over l first read s p going is =
    subst (λ (x : Option Stage). Reaches l read p.wrote false x) is (subst (λ (b : Bool). Reaches l read p.wrote b s.dialogue) going p.reaches)

-- it is done
pub ends-of : (l : Login) (first : List ℕ) (read : List RawMessage) (s : Startup) → (p : Speaks l first read s) → s.done ≡ true → Ends l read p.wrote
ends-of l first read s p over = by s.dialogue (subst (λ (b : Bool). Reaches l read p.wrote b s.dialogue) over p.reaches)
  where
    by : (o : Option Stage) → Reaches l read p.wrote true o → Ends l read p.wrote
    by None is = is
    by (Some d) is = absurd is

-- it stands there still where these are as before
pub speaks-same : (l : Login) (first : List ℕ) (read : List RawMessage) (s t : Startup) → Speaks l first read s → t.dialogue ≡ s.dialogue → t.done ≡ s.done → t.opening.items ≡ s.opening.items → Speaks l first read t
speaks-same l first read s t p dialogue done opening = record {
  wrote = p.wrote;
  opening = opening ∙ p.opening;
  reaches = subst (λ (x : Option Stage). Reaches l read p.wrote t.done x) (sym dialogue) (subst (λ (b : Bool). Reaches l read p.wrote b s.dialogue) (sym done) p.reaches);
}

-- ---- what a message makes of it

-- what the message does in the words of the login
told-move : (l : Login) (d : Stage) (raw : RawMessage) (m : said.Message) (move : Move) → d.login ≡ l → message_of raw ≡ Ok m →
    startup_message d.login d.phase m ≡ move → startup_move l d.phase raw ≡ move
told-move l d raw m move login means e =
    move-of l d.phase raw m means ∙ ap (λ (x : Login). startup_message x d.phase m) (sym login) ∙ e

-- it stops in front of a message that is refused
pub refused-stop : (l : Login) (at : Phase) (raw : RawMessage) (rest : List RawMessage) (left : List ℕ) (e : Error) → startup_move l at raw ≡ Refuses e → IsStop l at (raw ∷ rest) left e
refused-stop l at raw rest left error.OutOfMemory is = tt
refused-stop l at raw rest left (error.Io (cause.Wire wire.BadLength)) is = absurd (refusal-is l at raw (error.Io (cause.Wire wire.BadLength)) is)
refused-stop l at raw rest left _ is = is

told-stop : (l : Login) (d : Stage) (raw : RawMessage) (m : said.Message) (e : Error) → d.login ≡ l → message_of raw ≡ Ok m → Tells d m (Err e) → IsStop l d.phase (raw ∷ []) [] e
told-stop l d raw m error.OutOfMemory login means is = tt
told-stop l d raw m e login means is = refused-stop l d.phase raw [] [] e (told-move l d raw m (Refuses e) login means is)

module _ (l : Login) (first : List ℕ) (read : List RawMessage) (raw : RawMessage) (m : said.Message) (s t : Startup) (d : Stage) where
  -- it goes on, and these frames answer it
  pub told-writes : (frames : List (List ℕ)) (next : Stage) → Speaks l first read s → s.done ≡ false → message_of raw ≡ Ok m → s.dialogue ≡ Some d →
      startup_message d.login d.phase m ≡ Writes frames next.phase → next.login ≡ d.login →
      t.dialogue ≡ Some next → t.done ≡ s.done → t.opening.items ≡ s.opening.items ++ concat frames → IsTold l first read raw t (Ok heard.More)
  told-writes frames next p going means is e same dialogue done opening =
      let was = leads-of l first read s d p going is in
      let leads = leads-on l read d.phase next.phase p.wrote raw frames was.1 (told-move l d raw m (Writes frames next.phase) was.0 means e) in
      let wrote = p.wrote ++ concat frames in (
        done ∙ going,
        record {
          wrote = wrote;
          opening = opening ∙ ap (λ (o : List ℕ). o ++ concat frames) p.opening ∙ append_assoc first p.wrote (concat frames);
          reaches = subst (λ (x : Option Stage). Reaches l (read ++ raw ∷ []) wrote t.done x) (sym dialogue)
              (subst (λ (b : Bool). Reaches l (read ++ raw ∷ []) wrote b (Some next)) (sym (done ∙ going)) (same ∙ was.0, leads));
        },
      )

  -- it was the last
  pub told-done : Speaks l first read s → s.done ≡ false → message_of raw ≡ Ok m → s.dialogue ≡ Some d →
      startup_message d.login d.phase m ≡ startups.Ends → t.dialogue ≡ None → t.done ≡ true → t.opening.items ≡ s.opening.items → IsTold l first read raw t (Ok heard.Done)
  told-done p going means is e dialogue done opening =
      let was = leads-of l first read s d p going is in (
        done,
        record {
          wrote = p.wrote;
          opening = opening ∙ p.opening;
          reaches = subst (λ (x : Option Stage). Reaches l (read ++ raw ∷ []) p.wrote t.done x) (sym dialogue)
              (subst (λ (b : Bool). Reaches l (read ++ raw ∷ []) p.wrote b None) (sym done)
              (ends-on l read d.phase p.wrote raw was.1 (told-move l d raw m startups.Ends was.0 means e)));
        },
      )

  -- it stops in front of it
  told-stops : (e : Error) → Speaks l first read s → s.done ≡ false → s.dialogue ≡ Some d → IsStop l d.phase (raw ∷ []) [] e → t.opening.items ≡ s.opening.items →
      IsTold l first read raw t (Err e)
  told-stops e p going is why opening =
      let was = leads-of l first read s d p going is in
      record {
        front = [];
        rest = raw ∷ [];
        stands = refl;
        at = d.phase;
        wrote = p.wrote;
        opening = opening ∙ p.opening;
        leads = subst (λ (r : List RawMessage). Leads l r d.phase p.wrote) (sym (append-nil read)) was.1;
        why = why;
      }

  -- for it is refused
  pub told-refused : (e : Error) → Speaks l first read s → s.done ≡ false → message_of raw ≡ Ok m → s.dialogue ≡ Some d → Tells d m (Err e) → t.opening.items ≡ s.opening.items →
      IsTold l first read raw t (Err e)
  told-refused e p going means is why opening = told-stops e p going is (told-stop l d raw m e (leads-of l first read s d p going is).0 means why) opening

  -- for memory lacks
  pub told-short : Speaks l first read s → s.done ≡ false → s.dialogue ≡ Some d → t.opening.items ≡ s.opening.items → IsTold l first read raw t (Err error.OutOfMemory)
  told-short p going is opening = told-stops error.OutOfMemory p going is tt opening

-- ---- only ReadyForQuery ends it, and a notification never leads on

-- the move refuses nothing
abbrev pub Admits : Move → Type 0
Admits (Refuses e) = ⊥
Admits _ = Unit {0}

pub last-is : (d : Stage) (m : said.Message) → startup_message d.login d.phase m ≡ startups.Ends → (status : ℕ) × (m ≡ said.ReadyForQuery status)
last-is d m e = ends-ready d.login d.phase m (subst IsEnd (sym e) tt)

no-notification : (l : Login) (at : Phase) (m : said.Message) → Admits (startup_message l at m) → HasPlace m
no-notification l First (said.NotificationResponse process_id channel payload) is = is
no-notification l (Continue binding) (said.NotificationResponse process_id channel payload) is = is
no-notification l (Final signature) (said.NotificationResponse process_id channel payload) is = is
no-notification l Accepted (said.NotificationResponse process_id channel payload) is = is
no-notification l Info (said.NotificationResponse process_id channel payload) is = is
no-notification l at _ is = tt

pub admitted : (d : Stage) (m : said.Message) (move : Move) → startup_message d.login d.phase m ≡ move → Admits move → HasPlace m
admitted d m move e is = no-notification d.login d.phase m (subst Admits (sym e) is)

-- ---- how much is left to be sent

frames-was : (s : Startup) (d : Stage) → s.dialogue ≡ Some d → frames_of s.dialogue ≡ frames_left d.phase
frames-was s d is = ap frames_of is

pub lower-writes : (s t : Startup) (d next : Stage) (m : said.Message) → s.dialogue ≡ Some d → startup_message d.login d.phase m ≡ Writes [] next.phase → t.dialogue ≡ Some next →
    t.bytes.unsent.items ≡ s.bytes.unsent.items → sends_left t ≤ sends_left s
lower-writes s t d next m is e now same =
    let less : frames_left next.phase ≤ frames_left d.phase = subst (Lowers d.phase) e (message-lowers d.login d.phase m) in
    omega (arith, frames-was s d is, frames-was t next now, ap (λ (l : List ℕ). length l) same, less)

pub lower-sends : (s t : Startup) (d next : Stage) (m : said.Message) (frame added : List ℕ) → s.dialogue ≡ Some d → startup_message d.login d.phase m ≡ Writes (frame ∷ []) next.phase → t.dialogue ≡ Some next →
    t.bytes.unsent.items ≡ s.bytes.unsent.items ++ added → length added ≤ length frame → sends_left t ≤ sends_left s
lower-sends s t d next m frame added is e now same fits =
    let less : (length frame < 2 ^ 32) × (frames_left next.phase < frames_left d.phase) = subst (Lowers d.phase) e (message-lowers d.login d.phase m) in
    omega (arith, frames-was s d is, frames-was t next now, ap (λ (l : List ℕ). length l) same, length-append s.bytes.unsent.items added, less.0, less.1, fits)

pub lower-over : (s t : Startup) → t.dialogue ≡ None → t.bytes.unsent.items ≡ s.bytes.unsent.items → sends_left t ≤ sends_left s
lower-over s t over same = omega (arith, ap frames_of over, ap (λ (l : List ℕ). length l) same)

-- ---- what is queued

pub adds-none : (s t : Startup) → t.opening ≡ s.opening → t.bytes ≡ s.bytes → Adds s t []
adds-none s t opening bytes = record {
  opening = ap (λ o. o.items) opening ∙ sym (append-nil s.opening.items);
  unsent = ap (λ b. b.unsent.items) bytes ∙ sym (append-nil s.bytes.unsent.items);
  flushed = λ is. (refl, sym (ap (λ b. b.flushed) bytes) ∙ is);
}
