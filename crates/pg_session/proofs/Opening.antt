-- What a startup sent that is done, failed or waits for more.
pub mod Passwords
pub mod Heard
pub mod Sent
pub mod Turns
use Rattle.std.proofs.Common.{◌≡◌, ℕ, ◌+◌, List, [], ◌∷◌, ◌++◌, length, take, drop, Bool, true, false, Result, Ok, refl, sym, ap, subst, ◌∙◌, append_assoc, append-nil}
use Rattle.std.proofs.Math.Seq.{take-append_seam, drop-append_seam}
use Rattle.std.specs.List.{concat, flat_map}
use Rattle.pg_promises.specs.Promises.{IsFront}
use Rattle.pg_spec.specs.Faults.{Failure, FrameFault}
use Rattle.pg_spec.specs.Links.{LinkView}
use Rattle.pg_spec.specs.RawMessages.{RawMessage, messages}
use Rattle.pg_spec.specs.Settings.{Settings}
use Rattle.pg_spec.specs.Startup.{Login, Phase, First, Startup, Outcome, Done, Refused, More, after_one, begun_by, dialogue, startup, plain_login, used_of, startup_part, session_part}
use Rattle.pg_startup.specs.Steps.{frame_of}
use Rattle.pg_startup.specs.declared.startup.Startup.{Startup as StartupState}
use Rattle.pg_startup.specs.Startups.{behind, bytes_of, Leads, Ends, Opened, IsAt}
use Rattle.pg_startup.specs.StartupPolls.{IsFresh}
use Rattle.pg_connect.specs.declared.streams.Streams.{Streams}
use Rattle.pg_session.proofs.Opening.Passwords.{ArePasswords, passwords-front, dialogue-passwords}

-- the bytes are the startup's frame and passwords behind it
pub record IsOpening (settings : Settings) (opening : List ℕ) : Type 0 where
  pub frame : List ℕ
  pub made : frame_of settings ≡ Ok frame
  pub passwords : List (List ℕ)
  pub all : ArePasswords passwords
  pub bytes : opening ≡ frame ++ concat passwords

-- With these messages a startup is done that sent this.
pub record IsDone (settings : Settings) (nonce opening : List ℕ) (first : List RawMessage) : Type 0 where
  pub frame : List ℕ
  pub made : frame_of settings ≡ Ok frame
  pub wrote : List ℕ
  pub bytes : opening ≡ frame ++ wrote
  pub ends : Ends (plain_login settings nonce) first wrote

pub done-of : (settings : Settings) (nonce opening : List ℕ) (before link : LinkView) (s : StartupState) (t : Streams) →
    (o : Opened (plain_login settings nonce) 0 before link s) → IsFresh s opening t → IsDone settings nonce opening o.read
done-of settings nonce opening before link s t o fresh = record {
  frame = o.first;
  made = o.frame;
  wrote = o.wrote;
  bytes = fresh.frames ∙ o.opening;
  ends = o.done;
}

-- ---- the dialogue, and what it wrote

concat-append : (xs ys : List (List ℕ)) → concat (xs ++ ys) ≡ concat xs ++ concat ys
concat-append [] ys = refl
concat-append (x ∷ xs) ys = ap (λ (l : List ℕ). x ++ l) (concat-append xs ys) ∙ sym (append_assoc x (concat xs) (concat ys))

-- the frames in front of a dialogue
abbrev all_of : List (List (List ℕ)) → List (List ℕ)
all_of answers = flat_map (λ frames. frames) answers

bytes-all : (answers : List (List (List ℕ))) → bytes_of answers ≡ concat (all_of answers)
bytes-all [] = refl
bytes-all (a ∷ answers) = ap (λ (l : List ℕ). concat a ++ l) (bytes-all answers) ∙ sym (concat-append a (all_of answers))

frames-behind : (answers : List (List (List ℕ))) (d : Startup) → (behind answers d).frames ≡ all_of answers ++ d.frames
frames-behind [] d = refl
frames-behind (a ∷ answers) d = ap (λ (l : List (List ℕ)). a ++ l) (frames-behind answers d) ∙ sym (append_assoc a (all_of answers) d.frames)

-- an outcome that a message more in front leaves as it is
abbrev later_of : Outcome → Outcome
later_of o = elim o [ Done used ↦ Done (used + 1) | Refused failure ↦ Refused failure | More ↦ More ]

outcome-behind : (answers : List (List (List ℕ))) (d : Startup) (o : Outcome) → later_of o ≡ o → d.outcome ≡ o → (behind answers d).outcome ≡ o
outcome-behind [] d o same is = is
outcome-behind (a ∷ answers) d o same is = ap later_of (outcome-behind answers d o same is) ∙ same

module _ (settings : Settings) (nonce frame : List ℕ) (made : frame_of settings ≡ Ok frame) where
  abbrev l : Login
  l = plain_login settings nonce

  begun : (ms : List RawMessage) (d : Startup) → dialogue l First ms ≡ d → startup settings nonce ms ≡ record { frames = frame ∷ d.frames; outcome = d.outcome }
  begun ms d is = ap (λ (r : Result (List ℕ) FrameFault). begun_by r (dialogue l First ms)) made ∙ ap (begun_by (Ok frame)) is

  -- behind messages that lead to a phase
  pub leads-frames : (read : List RawMessage) (at : Phase) (wrote : List ℕ) (h : Leads l read at wrote) (rest : List RawMessage) →
      concat (startup settings nonce (read ++ rest)).frames ≡ (frame ++ wrote) ++ concat (dialogue l at rest).frames
  leads-frames read at wrote h rest =
      ap (λ (x : Startup). concat x.frames) (begun (read ++ rest) (behind h.answers (dialogue l at rest)) (h.on rest))
      ∙ ap (λ (x : List (List ℕ)). frame ++ concat x) (frames-behind h.answers (dialogue l at rest))
      ∙ ap (λ (x : List ℕ). frame ++ x) (concat-append (all_of h.answers) (dialogue l at rest).frames ∙ ap (λ (x : List ℕ). x ++ concat (dialogue l at rest).frames) (sym (h.bytes ∙ bytes-all h.answers)))
      ∙ sym (append_assoc frame wrote (concat (dialogue l at rest).frames))

  pub leads-outcome : (read : List RawMessage) (at : Phase) (wrote : List ℕ) (h : Leads l read at wrote) (rest : List RawMessage) (o : Outcome) → later_of o ≡ o →
      (dialogue l at rest).outcome ≡ o → (startup settings nonce (read ++ rest)).outcome ≡ o
  leads-outcome read at wrote h rest o same is =
      ap (λ (x : Startup). x.outcome) (begun (read ++ rest) (behind h.answers (dialogue l at rest)) (h.on rest))
      ∙ outcome-behind h.answers (dialogue l at rest) o same is

  -- it waits for more
  pub leads-waits : (read : List RawMessage) (at : Phase) (wrote : List ℕ) → Leads l read at wrote → (startup settings nonce read).outcome ≡ More
  leads-waits read at wrote h =
      ap (λ (x : List RawMessage). (startup settings nonce x).outcome) (sym (append-nil read)) ∙ leads-outcome read at wrote h [] More refl refl

  pub leads-opening : (read : List RawMessage) (at : Phase) (wrote : List ℕ) → Leads l read at wrote → IsOpening settings (frame ++ wrote)
  leads-opening read at wrote h =
      let frames : (dialogue l First (read ++ [])).frames ≡ all_of h.answers ++ [] = ap (λ (x : Startup). x.frames) (h.on []) ∙ frames-behind h.answers (dialogue l at []) in
      record {
        frame = frame;
        made = made;
        passwords = all_of h.answers;
        all = passwords-front (all_of h.answers) [] (subst ArePasswords frames (dialogue-passwords l First (read ++ [])));
        bytes = ap (λ (x : List ℕ). frame ++ x) (h.bytes ∙ bytes-all h.answers);
      }

  -- behind messages with which it is done
  pub ends-frames : (read : List RawMessage) (wrote : List ℕ) (h : Ends l read wrote) (rest : List RawMessage) → concat (startup settings nonce (read ++ rest)).frames ≡ frame ++ wrote
  ends-frames read wrote h rest =
      ap (λ (x : Startup). concat x.frames) (begun (read ++ rest) (record { frames = h.frames; outcome = Done (length read) }) (h.over rest))
      ∙ ap (λ (x : List ℕ). frame ++ x) (sym h.bytes)

  pub ends-outcome : (read : List RawMessage) (wrote : List ℕ) (h : Ends l read wrote) (rest : List RawMessage) → (startup settings nonce (read ++ rest)).outcome ≡ Done (length read)
  ends-outcome read wrote h rest =
      ap (λ (x : Startup). x.outcome) (begun (read ++ rest) (record { frames = h.frames; outcome = Done (length read) }) (h.over rest))

  pub ends-opening : (read : List RawMessage) (wrote : List ℕ) → Ends l read wrote → IsOpening settings (frame ++ wrote)
  ends-opening read wrote h = record {
    frame = frame;
    made = made;
    passwords = h.frames;
    all = subst ArePasswords (ap (λ (x : Startup). x.frames) (h.over [])) (dialogue-passwords l First (read ++ []));
    bytes = ap (λ (x : List ℕ). frame ++ x) h.bytes;
  }

  -- however it stands, what it wrote is a front of what it writes over more messages
  pub at-front : (read : List RawMessage) (wrote : List ℕ) (done : Bool) (at : Phase) → IsAt l read wrote done at → (rest : List RawMessage) (t unsent : List ℕ) → t ++ unsent ≡ frame ++ wrote →
      IsFront t (concat (startup settings nonce (read ++ rest)).frames)
  at-front read wrote true at h rest t unsent is = (unsent, is ∙ sym (ends-frames read wrote h rest))
  at-front read wrote false at h rest t unsent is = (
    unsent ++ concat (dialogue l at rest).frames,
    sym (append_assoc t unsent (concat (dialogue l at rest).frames)) ∙ ap (λ (x : List ℕ). x ++ concat (dialogue l at rest).frames) is ∙ sym (leads-frames read at wrote h rest),
  )

  pub at-opening : (read : List RawMessage) (wrote : List ℕ) (done : Bool) (at : Phase) → IsAt l read wrote done at → IsOpening settings (frame ++ wrote)
  at-opening read wrote true at h = ends-opening read wrote h
  at-opening read wrote false at h = leads-opening read at wrote h

pub done-opening : (settings : Settings) (nonce opening : List ℕ) (first : List RawMessage) → IsDone settings nonce opening first → IsOpening settings opening
done-opening settings nonce opening first d = subst (IsOpening settings) (sym d.bytes) (ends-opening settings nonce d.frame d.made first d.wrote d.ends)

-- ---- the startup of a session

-- The startup is done with the first of the messages, and sent this.
pub record Started (settings : Settings) (nonce opening : List ℕ) (first more ms : List RawMessage) : Type 0 where
  pub outcome : (startup settings nonce ms).outcome ≡ Done (length first)
  pub frames : concat (startup settings nonce ms).frames ≡ opening
  pub part : startup_part settings nonce ms ≡ first
  pub rest : session_part settings nonce ms ≡ more

pub is-started : (settings : Settings) (nonce opening : List ℕ) (first more ms : List RawMessage) → IsDone settings nonce opening first → ms ≡ first ++ more →
    Started settings nonce opening first more ms
is-started settings nonce opening first more ms d is =
    let outcome : (startup settings nonce ms).outcome ≡ Done (length first) =
    ap (λ (x : List RawMessage). (startup settings nonce x).outcome) is ∙ ends-outcome settings nonce d.frame d.made first d.wrote d.ends more in
    record {
      outcome = outcome;
      frames = ap (λ (x : List RawMessage). concat (startup settings nonce x).frames) is ∙ ends-frames settings nonce d.frame d.made first d.wrote d.ends more ∙ sym d.bytes;
      part = ap (λ (o : Outcome). take (used_of o) ms) outcome ∙ ap (λ (l : List RawMessage). take (length first) l) is ∙ take-append_seam first more;
      rest = ap (λ (o : Outcome). drop (used_of o) ms) outcome ∙ ap (λ (l : List RawMessage). drop (length first) l) is ∙ drop-append_seam first more;
    }
