-- A server, fed with the bytes of frames.
use Rattle.std.specs.Prelude.{◌≡◌, ◌≤◌, ℕ, List, ◌++◌, length, drop, Some}
use Rattle.pg_spec.specs.RawMessages.{messages, bytes_left}
use Rattle.pg_spec.specs.Sent.{after_startup_frame}
use Rattle.pg_machine.specs.Serving.{Service, Serving, Replied, served}
use Rattle.pg_machine.specs.Sessions.{spoken, begun}

-- what all whole frames of the bytes are replied
abbrev pub fed : {S : Type 0} → Service S → Serving S → List ℕ → Replied S
fed service at bytes = served service at (messages bytes)

-- bytes were added
abbrev pub IsLonger : List ℕ → List ℕ → Type 0
IsLonger old new = (more : List ℕ) × (new ≡ old ++ more)

-- All whole frames were answered: `cut` bytes of them were gone past, their replies said, and the server stands at `next`.
pub record IsFed {S : Type 0} (service : Service S) (at : Serving S) (frames old new : List ℕ) (cut : ℕ) (next : Serving S) : Type 0 where
  pub fits : cut ≤ length frames
  pub left : drop cut frames ≡ bytes_left frames
  pub said : new ≡ old ++ spoken (fed service at frames).reply
  pub leads : next ≡ (fed service at frames).next

-- These bytes were taken, with a whole startup frame, and all whole frames among them were answered.
pub record HasFed {S : Type 0} (service : Service S) (begins : S) (taken : List ℕ) (cut : ℕ) (at : Serving S) : Type 0 where
  pub frames : List ℕ
  pub behind : (more : List ℕ) → after_startup_frame (taken ++ more) ≡ Some (frames ++ more)
  pub fits : cut ≤ length taken
  pub left : drop cut taken ≡ bytes_left frames
  pub leads : at ≡ (fed service (begun begins) frames).next
