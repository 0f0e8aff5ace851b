-- What a script owes at each step.
use Rattle.std.specs.Prelude.{◌≡◌, ◌<◌, ℕ, suc, List, [], Result, Ok, Err}
use Rattle.pg_types.specs.declared.faults.WireFault.{WireFault}
use Rattle.pg_wire.specs.declared.message.Message.{Message}
use Rattle.pg_query.specs.declared.script.Want.{Want}
use Rattle.pg_query.specs.declared.script.Want.TheVariants as want
use Rattle.pg_query.specs.declared.script.Action.TheVariants as act
use Rattle.pg_query.specs.declared.desk_call.Reply.{Reply}
use Rattle.pg_query.specs.declared.desk_call.Cleanup.{Cleanup}
use Rattle.pg_types.specs.declared.error.Error.{Error}
use Rattle.pg_query.specs.Dialogue.{Dialogue, Answer, Ask, Send, Leave, Read, Put, Finish, Close, HangUp, Call, Hear}

-- a message is read here
abbrev pub IsRead : {T : Type 0} → Dialogue T → Type 0
IsRead (Read cleanup decides next) = Unit {0}
IsRead _ = ⊥

-- a part is put here
abbrev pub IsPut : {T : Type 0} → Dialogue T → Type 0
IsPut (Put cleanup part d) = Unit {0}
IsPut _ = ⊥

-- a reply is heard here
abbrev pub IsHear : {T : Type 0} → Dialogue T → Type 0
IsHear (Hear next) = Unit {0}
IsHear _ = ⊥

-- What a script waits for, where it stands at this dialogue.
pub data Waiting {T : Type 0} (d : Dialogue T) : Type 0 where
  Nothing : Waiting d
  AMessage : IsRead d → Waiting d
  AReply : IsHear d → Waiting d

-- it waits for a message
abbrev pub IsMessage : {T : Type 0} {d : Dialogue T} → Waiting d → Type 0
IsMessage Nothing = ⊥
IsMessage (AMessage h) = Unit {0}
IsMessage (AReply h) = ⊥

-- it waits for a reply
abbrev pub IsReply : {T : Type 0} {d : Dialogue T} → Waiting d → Type 0
IsReply Nothing = ⊥
IsReply (AMessage h) = ⊥
IsReply (AReply h) = Unit {0}

-- as the dialogue itself tells it, where no script stands inside another
abbrev pub waiting_at : {T : Type 0} (d : Dialogue T) → Waiting d
waiting_at (Answer r) = Nothing
waiting_at (Ask copying part d) = Nothing
waiting_at (Send part refused d) = Nothing
waiting_at (Leave id d) = Nothing
waiting_at (Read cleanup decides next) = AMessage tt
waiting_at (Put cleanup part d) = Nothing
waiting_at (Finish part d) = Nothing
waiting_at (Close part d) = Nothing
waiting_at (HangUp d) = Nothing
waiting_at (Call q refused next) = Nothing
waiting_at (Hear next) = AReply tt

-- it waits for a message, where one is read
pub record ReadsAt {S T : Type 0} (dialogue : S → Dialogue T) (waits : (s : S) → Waiting (dialogue s)) (s : S) : Type 0 where
  pub waiting : IsMessage (waits s)
  pub there : IsRead (dialogue s)

-- it waits for a reply, where one is heard
pub record HearsAt {S T : Type 0} (dialogue : S → Dialogue T) (waits : (s : S) → Waiting (dialogue s)) (s : S) : Type 0 where
  pub waiting : IsReply (waits s)
  pub there : IsHear (dialogue s)

-- a dialogue after a reply
abbrev pub heard : {T : Type 0} → Reply → Dialogue T → Dialogue T
heard r (Hear next) = next r
heard r d = d

-- what is left to do where a dialogue is given up: nothing before its first request
abbrev pub cleanup_of : {T : Type 0} → Dialogue T → List Cleanup
cleanup_of (Read cleanup decides next) = cleanup
cleanup_of (Put cleanup part d) = cleanup
cleanup_of _ = []

-- What is wanted, and what comes behind it: this, and that where the desk refuses what was sent or asked.
abbrev pub wanting : {T : Type 0} → Want T → Dialogue T → (Error → Dialogue T) → Dialogue T
wanting (want.Answer r) d refused = Answer r
wanting (want.Act (act.Ask copying part)) d refused = Ask copying part d
wanting (want.Act (act.Send part)) d refused = Send part refused d
wanting (want.Act (act.Put offer)) d refused = Put offer.cleanup.items offer.part d
wanting (want.Act (act.Finish part)) d refused = Finish part d
wanting (want.Act (act.Close part)) d refused = Close part d
wanting (want.Act act.HangUp) d refused = HangUp d
wanting (want.Act (act.Call q)) d refused = Call q refused (λ r. heard r d)
wanting want.Read d refused = d

-- a message or a reply is wanted only where it is
abbrev pub IsWanted : {S T : Type 0} → (dialogue : S → Dialogue T) → ((s : S) → Waiting (dialogue s)) → Want T → S → Type 0
IsWanted dialogue waits want.Read s = ReadsAt dialogue waits s
IsWanted dialogue waits (want.Act (act.Call q)) s = HearsAt dialogue waits s
IsWanted dialogue waits _ s = Unit {0}

-- A script that stood at this dialogue wants this, and stands behind it.
pub record GoesOn {S T : Type 0} (dialogue : S → Dialogue T) (refuses : S → Error → Dialogue T) (waits : (s : S) → Waiting (dialogue s)) (from : Dialogue T) (w : Want T) (new : S) : Type 0 where
  pub is : wanting w (dialogue new) (refuses new) ≡ from
  pub wanted : IsWanted dialogue waits w new

-- messages that came and aren't read count for nothing here
abbrev pub IsDeaf : {T : Type 0} → Dialogue T → Type 0
IsDeaf (Answer r) = Unit {0}
IsDeaf (Ask copying part d) = Unit {0}
IsDeaf (Close part d) = IsDeaf d
IsDeaf (HangUp d) = Unit {0}
IsDeaf _ = ⊥

-- where this is wanted, and that comes behind it, the reply is read no further
abbrev pub IsLast : {T : Type 0} → Want T → Dialogue T → Type 0
IsLast (want.Answer r) d = Unit {0}
IsLast (want.Act (act.Close part)) d = IsDeaf d
IsLast (want.Act act.HangUp) d = Unit {0}
IsLast _ d = ⊥

-- behind a malformed message nothing is read
abbrev pub Stops : {T : Type 0} → Result Message WireFault → Want T → Dialogue T → Type 0
Stops (Ok message) want d = Unit {0}
Stops (Err fault) want d = IsLast want d

-- each step that wants another but a message is one of few
abbrev pub Falls : {T : Type 0} → Want T → ℕ → ℕ → Type 0
Falls (want.Act a) old new = new < old
Falls _ old new = Unit {0}

-- how many steps are left before a message or the answer
abbrev pub left_of : {T : Type 0} → Want T → ℕ → ℕ
left_of (want.Act a) n = suc n
left_of _ n = 0
