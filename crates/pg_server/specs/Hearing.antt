-- What a server says to the bytes that stand there, one frame behind another.
use Rattle.std.specs.Prelude.{◌≡◌, ℕ, zero, suc, ◌-◌, ◌≤◌, List, [], ◌++◌, length, drop, Option, Some, None, Result, Ok, Err}
use Rattle.pg_server.specs.declared.fault.ServerFault.{ServerFault}
use Rattle.pg_server.specs.declared.fault.ServerFault.TheVariants as faults
use Rattle.pg_server.specs.declared.session.Stage.TheVariants.{Over}
use Rattle.pg_server.specs.Handlers.{Step}
use Rattle.pg_server.specs.Standings.{Standing, Front, Waits, Says, Stops, front}

-- what is said to some bytes, where the server stands then, which bytes are left, and why it stopped, where it did
pub record Said (S : Type 0) : Type 0 where
  pub said : List ℕ
  pub next : Standing S
  pub left : List ℕ
  pub fault : Option ServerFault

-- nothing more is said before more bytes come
abbrev pub waiting : {S : Type 0} → Standing S → List ℕ → Said S
waiting at bytes = record { said = []; next = at; left = bytes; fault = None }

-- it goes no further
abbrev pub stopped : {S : Type 0} → Standing S → List ℕ → ServerFault → Said S
stopped at bytes fault = record { said = []; next = record at { stage = Over }; left = bytes; fault = Some fault }

-- something is said before all else
abbrev pub before : {S : Type 0} → List ℕ → Said S → Said S
before said later = record later { said = said ++ later.said }

-- what follows from what the front of the bytes does
abbrev pub going_on : {S : Type 0} → (Standing S → List ℕ → Said S) → Standing S → List ℕ → Front S → Said S
going_on later at bytes Waits = waiting at bytes
going_on later at bytes (Says said next rest) = before said (later next rest)
going_on later at bytes (Stops fault) = stopped at bytes fault

-- so many frames at most, one behind another
abbrev pub said_within : {S : Type 0} → ℕ → Step S → Standing S → List ℕ → Said S
said_within zero step at bytes = waiting at bytes
said_within (suc n) step at bytes = going_on (said_within n step) at bytes (front step at bytes)

-- What is said to all that stands there, one frame behind another. Each takes a byte, so there are no more of them than bytes.
abbrev pub said_to : {S : Type 0} → Step S → Standing S → List ℕ → Said S
said_to step at bytes = said_within (suc (length bytes)) step at bytes

-- ---- what the code does

-- What is said to so many frames in front was said, and no part of another answer: a front of what is said to all.
pub record IsFront {S : Type 0} (step : Step S) (at : Standing S) (bytes out later : List ℕ) : Type 0 where
  pub frames : ℕ
  pub said : later ≡ out ++ (said_within frames step at bytes).said
  pub rest : List ℕ
  pub front : (said_within frames step at bytes).said ++ rest ≡ (said_to step at bytes).said

-- All was said, and so many bytes are left. After a fault all was said up to it, but for want of memory.
abbrev pub Hears : {S : Type 0} → Step S → (old new : Standing S) → (bytes out later : List ℕ) → Result ℕ ServerFault → Type 0
Hears step old new bytes out later (Ok n) =
    let s = said_to step old bytes in
    (n ≤ length bytes) × (s.fault ≡ None) × (later ≡ out ++ s.said) × (new ≡ s.next) × (drop (length bytes - n) bytes ≡ s.left)
Hears step old new bytes out later (Err faults.OutOfMemory) = IsFront step old bytes out later
Hears step old new bytes out later (Err fault) =
    let s = said_to step old bytes in
    (s.fault ≡ Some fault) × (later ≡ out ++ s.said)
