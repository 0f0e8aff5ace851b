-- What a server says to the bytes that it is fed with.
use Rattle.std.specs.Prelude.{◌≡◌, ℕ, ◌<◌, true, false, List, [], ◌++◌, length, Option, Some, None, Result, Ok, Err}
use Rattle.pg_server.specs.declared.answer.Answer.{Answer}
use Rattle.pg_server.specs.Answers.{answer_bytes}
use Rattle.pg_server.specs.declared.fault.ServerFault.{ServerFault}
use Rattle.pg_server.specs.declared.fault.ServerFault.TheVariants as faults
use Rattle.pg_server.specs.declared.server.Server.{Server}
use Rattle.pg_server.specs.declared.session.Stage.{Stage}
use Rattle.pg_server.specs.declared.session.Stage.TheVariants.{Over}
use Rattle.pg_server.specs.Handlers.{Step}
use Rattle.pg_server.specs.Hearing.{Said, said_to, IsFront}
use Rattle.pg_server.specs.Standings.{Standing, Front, Waits, Says, Stops, unfed, standing_of}
use Rattle.pg_server.specs.Startups.{is_startup}

-- what a server holds: where it stands, and the bytes that aren't a whole frame yet
pub record Heard (S : Type 0) : Type 0 where
  pub standing : Standing S
  pub left : List ℕ

-- the same, as its handler's states are told
abbrev pub heard_of : {H S : Type 0} → (H → S) → Server H → Heard S
heard_of state server = record { standing = standing_of state server.session; left = server.left.items }

-- it hasn't been fed
abbrev pub new_heard : {S : Type 0} → S → (startup : List ℕ) → Heard S
new_heard state startup = record { standing = unfed state startup; left = [] }

-- what is said to bytes behind those that are left
abbrev pub fed_with : {S : Type 0} → Step S → Heard S → List ℕ → Said S
fed_with step at bytes = said_to step at.standing (at.left ++ bytes)

-- ---- what the calls do

-- a server that hasn't been fed, unless the startup is none
abbrev pub Makes : {H S : Type 0} → (H → S) → H → (startup : List ℕ) → Result (Server H) ServerFault → Type 0
Makes state handler startup (Ok server) = (is_startup startup ≡ true) × (heard_of state server ≡ new_heard (state handler) startup)
Makes state handler startup (Err faults.BadStartup) = is_startup startup ≡ false
Makes state handler startup (Err fault) = ⊥

-- the same of a server
abbrev pub Takes : {S : Type 0} → Step S → (old new : Heard S) → (bytes out later : List ℕ) → Result (Unit {0}) ServerFault → Type 0
Takes step old new bytes out later (Ok done) =
    let s = fed_with step old bytes in
    (s.fault ≡ None) × (later ≡ out ++ s.said) × (new ≡ record { standing = s.next; left = s.left })
Takes step old new bytes out later (Err faults.OutOfMemory) = IsFront step old.standing (old.left ++ bytes) out later
Takes step old new bytes out later (Err fault) =
    let s = fed_with step old bytes in
    (s.fault ≡ Some fault) × (later ≡ out ++ s.said)

-- Behind Terminate or a fault it is Ended, and nothing changes. Else these bytes were taken; after a fault the session is over.
abbrev pub FeedsAt : {S : Type 0} → Step S → (old new : Heard S) → (bytes out later : List ℕ) → Result (Unit {0}) ServerFault → Stage → Type 0
FeedsAt step old new bytes out later r Over = (r ≡ Err faults.Ended) × (new ≡ old) × (later ≡ out)
FeedsAt step old new bytes out later (Ok done) stage = Takes step old new bytes out later (Ok done)
FeedsAt step old new bytes out later (Err fault) stage = Takes step old new bytes out later (Err fault) × (new.standing.stage ≡ Over)

-- what a call that is handed these bytes makes of it, by where the connection stood
abbrev pub Feeds : {S : Type 0} → Step S → (old new : Heard S) → (bytes out later : List ℕ) → Result (Unit {0}) ServerFault → Type 0
Feeds step old new bytes out later r = FeedsAt step old new bytes out later r old.standing.stage

-- Bytes were taken up to the end of the first frame that is whole by them, and so many of them weren't taken. It is over after a fault;
-- where memory lacks it is as before.
abbrev pub TakesFront : {S : Type 0} → Front S → (old new : Heard S) → (bytes : List ℕ) → Result (Option (Answer × ℕ)) ServerFault → Type 0
TakesFront found old new bytes (Ok None) = (found ≡ Waits) × (new ≡ record old { left = old.left ++ bytes })
TakesFront found old new bytes (Ok (Some said)) =
    (rest : List ℕ) × (found ≡ Says (answer_bytes said.0) new.standing rest) × (said.1 ≡ length rest) × (said.1 < length bytes) × (new.left ≡ [])
TakesFront found old new bytes (Err faults.OutOfMemory) = new ≡ old
TakesFront found old new bytes (Err fault) = (found ≡ Stops fault) × (new.standing.stage ≡ Over)
