-- Where a script of two parts stands.
use Rattle.std.specs.Prelude.{◌≡◌, ℕ, ◌+◌, List, ◌++◌, Bool, true, false, Result, Err}
use Rattle.pg_types.specs.declared.error.Error.{Error}
use Rattle.pg_types.specs.declared.error.Error.TheVariants.{Closed}
use Rattle.pg_query.specs.declared.desk_call.Cleanup.{Cleanup}
use Rattle.pg_query.specs.declared.script.Want.{Want}
use Rattle.pg_query.specs.declared.script.Want.TheVariants as want
use Rattle.pg_query.specs.declared.script.Action.{Action}
use Rattle.pg_query.specs.declared.script.Action.TheVariants as act
use Rattle.pg_query.specs.declared.script.Offer.{Offer}
use Rattle.pg_query.specs.Dialogue.{Dialogue, Answer, Ask, Send, Leave, Read, Put, Finish, Close, HangUp, Call, Hear}
use Rattle.pg_query.specs.Scripts.{Waiting, Nothing, AMessage, AReply, IsRead, IsHear}
use Rattle.pg_core.specs.Behind.{behind}
use Rattle.pg_core.specs.declared.then.Then.{Then}
use Rattle.pg_core.specs.declared.then.Then.TheVariants.{First, Second, Spent}

-- what is still asked and answered
abbrev pub then_dialogue : {A X K B T : Type 0} → (A → Dialogue X) → (K → List Cleanup) → (K → Result X Error → Dialogue T) → (B → Dialogue T) → Then A K B → Dialogue T
then_dialogue first extra goes second (First a k) = behind (extra k) (first a) (goes k)
then_dialogue first extra goes second (Second b) = second b
then_dialogue first extra goes second Spent = Answer (Err Closed)

-- the same where the desk refuses what was sent or asked
abbrev pub then_refuses : {A X K B T : Type 0} → (A → Error → Dialogue X) → (K → List Cleanup) → (K → Result X Error → Dialogue T) → (B → Error → Dialogue T) → Then A K B → Error → Dialogue T
then_refuses first extra goes second (First a k) = λ e. behind (extra k) (first a e) (goes k)
then_refuses first extra goes second (Second b) = second b
then_refuses first extra goes second Spent = λ e. Answer (Err Closed)

-- what is read in the first part is read in the whole
pub read_through : {X T : Type 0} (extra : List Cleanup) (f : Result X Error → Dialogue T) (d : Dialogue X) → IsRead d → IsRead (behind extra d f)
read_through extra f (Read cleanup decides next) h = tt
read_through extra f (Answer r) h = absurd h
read_through extra f (Ask copying part d) h = absurd h
read_through extra f (Send part refused d) h = absurd h
read_through extra f (Leave id d) h = absurd h
read_through extra f (Put cleanup part d) h = absurd h
read_through extra f (Finish part d) h = absurd h
read_through extra f (Close part d) h = absurd h
read_through extra f (HangUp d) h = absurd h
read_through extra f (Call q refused next) h = absurd h
read_through extra f (Hear next) h = absurd h

-- what is heard in the first part is heard in the whole
pub hear_through : {X T : Type 0} (extra : List Cleanup) (f : Result X Error → Dialogue T) (d : Dialogue X) → IsHear d → IsHear (behind extra d f)
hear_through extra f (Hear next) h = tt
hear_through extra f (Answer r) h = absurd h
hear_through extra f (Ask copying part d) h = absurd h
hear_through extra f (Send part refused d) h = absurd h
hear_through extra f (Leave id d) h = absurd h
hear_through extra f (Read cleanup decides next) h = absurd h
hear_through extra f (Put cleanup part d) h = absurd h
hear_through extra f (Finish part d) h = absurd h
hear_through extra f (Close part d) h = absurd h
hear_through extra f (HangUp d) h = absurd h
hear_through extra f (Call q refused next) h = absurd h

-- what the first part waits for
abbrev pub waits_through : {X T : Type 0} (extra : List Cleanup) (f : Result X Error → Dialogue T) (d : Dialogue X) → Waiting d → Waiting (behind extra d f)
waits_through extra f d Nothing = Nothing
waits_through extra f d (AMessage h) = AMessage (read_through extra f d h)
waits_through extra f d (AReply h) = AReply (hear_through extra f d h)

-- what is waited for
abbrev pub then_waits : {A X K B T : Type 0} (first : A → Dialogue X) → ((a : A) → Waiting (first a)) → (extra : K → List Cleanup) (goes : K → Result X Error → Dialogue T) (second : B → Dialogue T) →
    ((b : B) → Waiting (second b)) → (t : Then A K B) → Waiting (then_dialogue first extra goes second t)
then_waits first first_waits extra goes second second_waits (First a k) = waits_through (extra k) (goes k) (first a) (first_waits a)
then_waits first first_waits extra goes second second_waits (Second b) = second_waits b
then_waits first first_waits extra goes second second_waits Spent = Nothing

-- how many steps are left
abbrev pub then_steps : {A K B : Type 0} → (A → ℕ) → (K → ℕ) → (B → ℕ) → Then A K B → ℕ
then_steps first most second (First a k) = first a + most k
then_steps first most second (Second b) = second b
then_steps first most second Spent = 0

-- an action of the first part, as the whole does it: more is left to do where its part is given up
abbrev pub IsThrough : List Cleanup → Action → Action → Type 0
IsThrough extra (act.Put offer) whole = (left : Offer) × (whole ≡ act.Put left) × (left.part ≡ offer.part) × (left.cleanup.items ≡ offer.cleanup.items ++ extra)
IsThrough extra action whole = whole ≡ action

-- it is an answer, or hangs the request up that is read
abbrev pub is_end : {T : Type 0} → Want T → Bool
is_end (want.Answer r) = true
is_end (want.Act act.HangUp) = true
is_end _ = false
