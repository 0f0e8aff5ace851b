-- A script inside another: what it wants, hears and reads is so in the whole.
use Rattle.std.proofs.Common.{◌≡◌, List, [], ◌∷◌, ◌++◌, Bool, true, false, if◌then◌else◌, Result, Ok, Err, IfOk, refl, sym, ◌∙◌, ap, subst}
use Rattle.pg_spec.specs.RawMessages.{RawMessage}
use Rattle.pg_types.specs.declared.error.Error.{Error}
use Rattle.pg_types.specs.declared.faults.WireFault.{WireFault}
use Rattle.pg_wire.specs.declared.message.Message.{Message}
use Rattle.pg_query.specs.declared.desk_call.Cleanup.{Cleanup}
use Rattle.pg_query.specs.declared.desk_call.DeskCall.{DeskCall}
use Rattle.pg_query.specs.declared.desk_call.Reply.{Reply}
use Rattle.pg_query.specs.declared.script.Want.{Want}
use Rattle.pg_query.specs.declared.script.Want.TheVariants as want
use Rattle.pg_query.specs.declared.script.Action.{Action}
use Rattle.pg_query.specs.declared.script.Action.TheVariants as act
use Rattle.pg_query.specs.Dialogue.{Dialogue, Answer, Ask, Send, Leave, Read, Put, Finish, Close, HangUp, Call, Hear, feed_one}
use Rattle.pg_query.specs.Scripts.{Waiting, Nothing, AMessage, AReply, IsMessage, IsReply, IsRead, IsHear, heard, IsWanted, GoesOn, Stops, cleanup_of}
use Rattle.pg_core.specs.Behind.{behind}
use Rattle.pg_core.specs.declared.then.Then.{Then}
use Rattle.pg_core.specs.declared.then.Then.TheVariants.{First, Second}
use Rattle.pg_core.specs.Thens.{then_dialogue, then_refuses, waits_through, then_waits, read_through, hear_through, is_end, IsThrough}

-- One dialogue behind another.
module _ {X T : Type 0} (extra : List Cleanup) (f : Result X Error → Dialogue T) where
  call-through : (q : DeskCall) (d c : Dialogue X) (refused : Error → Dialogue X) → IsHear c → Call q refused (λ r. heard r c) ≡ d →
      Call q (λ e. behind extra (refused e) f) (λ r. heard r (behind extra c f)) ≡ behind extra d f
  call-through q d (Hear next) refused h e = ap (λ (x : Dialogue X). behind extra x f) e
  call-through q d (Answer r) refused h e = absurd h
  call-through q d (Ask copying part c) refused h e = absurd h
  call-through q d (Send part denied c) refused h e = absurd h
  call-through q d (Leave id c) refused h e = absurd h
  call-through q d (Read cleanup decides next) refused h e = absurd h
  call-through q d (Put cleanup part c) refused h e = absurd h
  call-through q d (Finish part c) refused h e = absurd h
  call-through q d (Close part c) refused h e = absurd h
  call-through q d (HangUp c) refused h e = absurd h
  call-through q d (Call p denied next) refused h e = absurd h

  message-waits : (d : Dialogue X) (w : Waiting d) → IsMessage w → IsMessage (waits_through extra f d w)
  message-waits d Nothing h = absurd h
  message-waits d (AMessage r) h = tt
  message-waits d (AReply r) h = absurd h

  reply-waits : (d : Dialogue X) (w : Waiting d) → IsReply w → IsReply (waits_through extra f d w)
  reply-waits d Nothing h = absurd h
  reply-waits d (AMessage r) h = absurd h
  reply-waits d (AReply r) h = tt

  -- The other way, and what that says of the first part.
  message-inside : (d : Dialogue X) (w : Waiting d) → IsMessage (waits_through extra f d w) → IsMessage w × IsRead d
  message-inside d Nothing h = absurd h
  message-inside d (AMessage r) h = (tt, r)
  message-inside d (AReply r) h = absurd h

  reply-inside : (d : Dialogue X) (w : Waiting d) → IsReply (waits_through extra f d w) → IsReply w × IsHear d
  reply-inside d Nothing h = absurd h
  reply-inside d (AMessage r) h = absurd h
  reply-inside d (AReply r) h = (tt, r)

  -- a message or a reply for the first part
  fed-if : (b : Bool) (d c : Dialogue X) → (if b then behind extra d f else behind extra c f) ≡ behind extra (if b then d else c) f
  fed-if true d c = refl
  fed-if false d c = refl

  fed-through : (m : RawMessage) (d : Dialogue X) → IsRead d → feed_one m (behind extra d f) ≡ behind extra (feed_one m d) f
  fed-through m (Read cleanup decides next) h = fed-if (decides (m ∷ [])) (next (m ∷ [])) (Read cleanup (λ ms. decides (m ∷ ms)) (λ ms. next (m ∷ ms)))
  fed-through m (Answer r) h = absurd h
  fed-through m (Ask copying part d) h = absurd h
  fed-through m (Send part denied d) h = absurd h
  fed-through m (Leave id d) h = absurd h
  fed-through m (Put cleanup part d) h = absurd h
  fed-through m (Finish part d) h = absurd h
  fed-through m (Close part d) h = absurd h
  fed-through m (HangUp d) h = absurd h
  fed-through m (Call q denied next) h = absurd h
  fed-through m (Hear next) h = absurd h

  heard-through : (r : Reply) (d : Dialogue X) → IsHear d → heard r (behind extra d f) ≡ behind extra (heard r d) f
  heard-through r (Hear next) h = refl
  heard-through r (Answer x) h = absurd h
  heard-through r (Ask copying part d) h = absurd h
  heard-through r (Send part denied d) h = absurd h
  heard-through r (Leave id d) h = absurd h
  heard-through r (Read cleanup decides next) h = absurd h
  heard-through r (Put cleanup part d) h = absurd h
  heard-through r (Finish part d) h = absurd h
  heard-through r (Close part d) h = absurd h
  heard-through r (HangUp d) h = absurd h
  heard-through r (Call q denied next) h = absurd h

  cleanup-through : (d : Dialogue X) → IsRead d → cleanup_of d ++ extra ≡ cleanup_of (behind extra d f)
  cleanup-through (Read cleanup decides next) h = refl
  cleanup-through (Answer x) h = absurd h
  cleanup-through (Ask copying part d) h = absurd h
  cleanup-through (Send part denied d) h = absurd h
  cleanup-through (Leave id d) h = absurd h
  cleanup-through (Put cleanup part d) h = absurd h
  cleanup-through (Finish part d) h = absurd h
  cleanup-through (Close part d) h = absurd h
  cleanup-through (HangUp d) h = absurd h
  cleanup-through (Call q denied next) h = absurd h
  cleanup-through (Hear next) h = absurd h

-- behind a malformed message nothing but an answer or a hanging up goes on
pub ends-there : {T : Type 0} (message : Result Message WireFault) (w : Want T) (d : Dialogue T) → is_end w ≡ true → Stops message w d
ends-there (Ok m) w d h = tt
ends-there (Err e) (want.Answer r) d h = tt
ends-there (Err e) (want.Act act.HangUp) d h = tt
ends-there (Err e) (want.Act (act.Ask copying part)) d h = absurd cc
ends-there (Err e) (want.Act (act.Send part)) d h = absurd cc
ends-there (Err e) (want.Act (act.Put offer)) d h = absurd cc
ends-there (Err e) (want.Act (act.Finish part)) d h = absurd cc
ends-there (Err e) (want.Act (act.Close part)) d h = absurd cc
ends-there (Err e) (want.Act (act.Call q)) d h = absurd cc
ends-there (Err e) want.Read d h = absurd cc

-- A script of two parts.
module _ {A X K B T : Type 0} (first : A → Dialogue X) (first_refuses : A → Error → Dialogue X) (first_waits : (a : A) → Waiting (first a)) (extra : K → List Cleanup) (goes : K → Result X Error → Dialogue T)
    (second : B → Dialogue T) (second_refuses : B → Error → Dialogue T) (second_waits : (b : B) → Waiting (second b)) where
  -- what the first part wants, but an answer
  abbrev ActsSo : (a : A) (k : K) (d : Dialogue X) → Action → Type 0
  ActsSo a k d x = GoesOn (then_dialogue first extra goes second) (then_refuses first_refuses extra goes second_refuses) (then_waits first first_waits extra goes second second_waits) (behind (extra k) d (goes k)) (want.Act x) (First a k)

  call-so : (a : A) (k : K) (d : Dialogue X) (q : DeskCall) → GoesOn first first_refuses first_waits d (want.Act (act.Call q)) a → ActsSo a k d (act.Call q)
  call-so a k d q h = record {
    is = call-through (extra k) (goes k) q d (first a) (first_refuses a) h.wanted.there h.is;
    wanted = record {
      waiting = reply-waits (extra k) (goes k) (first a) (first_waits a) h.wanted.waiting;
      there = hear_through (extra k) (goes k) (first a) h.wanted.there;
    };
  }

  pub acts-through : (a : A) (k : K) (d : Dialogue X) (x y : Action) → IsThrough (extra k) x y → GoesOn first first_refuses first_waits d (want.Act x) a → ActsSo a k d y
  acts-through a k d (act.Put offer) y t h = subst (λ (z : Action). ActsSo a k d z) (sym t.1)
      (record { is = (λ i. Put (t.3 i) (t.2 i) (behind (extra k) (first a) (goes k))) ∙ ap (λ (c : Dialogue X). behind (extra k) c (goes k)) h.is; wanted = tt })
  acts-through a k d (act.Ask copying part) y t h = subst (λ (z : Action). ActsSo a k d z) (sym t) (record { is = ap (λ (c : Dialogue X). behind (extra k) c (goes k)) h.is; wanted = tt })
  acts-through a k d (act.Send part) y t h = subst (λ (z : Action). ActsSo a k d z) (sym t) (record { is = ap (λ (c : Dialogue X). behind (extra k) c (goes k)) h.is; wanted = tt })
  acts-through a k d (act.Finish part) y t h = subst (λ (z : Action). ActsSo a k d z) (sym t) (record { is = ap (λ (c : Dialogue X). behind (extra k) c (goes k)) h.is; wanted = tt })
  acts-through a k d (act.Close part) y t h = subst (λ (z : Action). ActsSo a k d z) (sym t) (record { is = ap (λ (c : Dialogue X). behind (extra k) c (goes k)) h.is; wanted = tt })
  acts-through a k d act.HangUp y t h = subst (λ (z : Action). ActsSo a k d z) (sym t) (record { is = ap (λ (c : Dialogue X). behind (extra k) c (goes k)) h.is; wanted = tt })
  acts-through a k d (act.Call q) y t h = subst (λ (z : Action). ActsSo a k d z) (sym t) (call-so a k d q h)

  pub reads-through : (a : A) (k : K) (d : Dialogue X) → GoesOn first first_refuses first_waits d want.Read a →
      GoesOn (then_dialogue first extra goes second) (then_refuses first_refuses extra goes second_refuses) (then_waits first first_waits extra goes second second_waits) (behind (extra k) d (goes k)) want.Read (First a k)
  reads-through a k d h = record {
    is = ap (λ (c : Dialogue X). behind (extra k) c (goes k)) h.is;
    wanted = record {
      waiting = message-waits (extra k) (goes k) (first a) (first_waits a) h.wanted.waiting;
      there = read_through (extra k) (goes k) (first a) h.wanted.there;
    };
  }

  wanted-second : (w : Want T) (b : B) → IsWanted second second_waits w b → IsWanted (then_dialogue first extra goes second) (then_waits first first_waits extra goes second second_waits) w (Second b)
  wanted-second (want.Answer r) b h = tt
  wanted-second (want.Act (act.Ask copying part)) b h = tt
  wanted-second (want.Act (act.Send part)) b h = tt
  wanted-second (want.Act (act.Put offer)) b h = tt
  wanted-second (want.Act (act.Finish part)) b h = tt
  wanted-second (want.Act (act.Close part)) b h = tt
  wanted-second (want.Act act.HangUp) b h = tt
  wanted-second (want.Act (act.Call q)) b h = record { waiting = h.waiting; there = h.there }
  wanted-second want.Read b h = record { waiting = h.waiting; there = h.there }

  -- what the second part wants
  pub second-through : (from : Dialogue T) (w : Want T) (b : B) → GoesOn second second_refuses second_waits from w b → GoesOn (then_dialogue first extra goes second) (then_refuses first_refuses extra goes second_refuses) (then_waits first first_waits extra goes second second_waits) from w (Second b)
  second-through from w b g = record { is = g.is; wanted = wanted-second w b g.wanted }

  -- where the first part answered, and the second went on
  pub answers-through : (a : A) (k : K) (d : Dialogue X) (r : Result X Error) → GoesOn first first_refuses first_waits d (want.Answer r) a →
      (from : Dialogue T) → from ≡ goes k r → (w : Want T) (b : B) → GoesOn second second_refuses second_waits from w b →
      GoesOn (then_dialogue first extra goes second) (then_refuses first_refuses extra goes second_refuses) (then_waits first first_waits extra goes second second_waits) (behind (extra k) d (goes k)) w (Second b)
  answers-through a k d r h from e w b g = record {
    is = g.is ∙ e ∙ ap (λ (c : Dialogue X). behind (extra k) c (goes k)) h.is;
    wanted = wanted-second w b g.wanted;
  }

  -- a message for the first part, and what becomes of it
  pub first-message : (t : Then A K B) (a : A) (k : K) → t ≡ First a k → (m : RawMessage) → IsMessage (then_waits first first_waits extra goes second second_waits t) → (w : Want X) (new : A) →
      (IsMessage (first_waits a) → GoesOn first first_refuses first_waits (feed_one m (first a)) w new) →
      (Q : Dialogue T → Type 0) → ((d : Dialogue X) → GoesOn first first_refuses first_waits d w new → Q (behind (extra k) d (goes k))) → Q (feed_one m (then_dialogue first extra goes second t))
  first-message t a k e m h w new g Q went =
      let inside = message-inside (extra k) (goes k) (first a) (first_waits a) (subst (λ (x : Then A K B). IsMessage (then_waits first first_waits extra goes second second_waits x)) e h) in
      subst (λ (x : Then A K B). Q (feed_one m (then_dialogue first extra goes second x))) (sym e)
      (subst Q (sym (fed-through (extra k) (goes k) m (first a) inside.1)) (went (feed_one m (first a)) (g inside.0)))

  pub second-message : (t : Then A K B) (b : B) → t ≡ Second b → (m : RawMessage) → IsMessage (then_waits first first_waits extra goes second second_waits t) → (w : Want T) (new : B) →
      (IsMessage (second_waits b) → GoesOn second second_refuses second_waits (feed_one m (second b)) w new) →
      GoesOn (then_dialogue first extra goes second) (then_refuses first_refuses extra goes second_refuses) (then_waits first first_waits extra goes second second_waits) (feed_one m (then_dialogue first extra goes second t)) w (Second new)
  second-message t b e m h w new g =
      subst (λ (x : Then A K B). GoesOn (then_dialogue first extra goes second) (then_refuses first_refuses extra goes second_refuses) (then_waits first first_waits extra goes second second_waits) (feed_one m (then_dialogue first extra goes second x)) w (Second new)) (sym e)
      (second-through (feed_one m (second b)) w new (g (subst (λ (x : Then A K B). IsMessage (then_waits first first_waits extra goes second second_waits x)) e h)))

  -- the same for a reply
  pub first-reply : (t : Then A K B) (a : A) (k : K) → t ≡ First a k → (r : Reply) → IsReply (then_waits first first_waits extra goes second second_waits t) → (w : Want X) (new : A) →
      (IsReply (first_waits a) → GoesOn first first_refuses first_waits (heard r (first a)) w new) →
      (Q : Dialogue T → Type 0) → ((d : Dialogue X) → GoesOn first first_refuses first_waits d w new → Q (behind (extra k) d (goes k))) → Q (heard r (then_dialogue first extra goes second t))
  first-reply t a k e r h w new g Q went =
      let inside = reply-inside (extra k) (goes k) (first a) (first_waits a) (subst (λ (x : Then A K B). IsReply (then_waits first first_waits extra goes second second_waits x)) e h) in
      subst (λ (x : Then A K B). Q (heard r (then_dialogue first extra goes second x))) (sym e)
      (subst Q (sym (heard-through (extra k) (goes k) r (first a) inside.1)) (went (heard r (first a)) (g inside.0)))

  pub second-reply : (t : Then A K B) (b : B) → t ≡ Second b → (r : Reply) → IsReply (then_waits first first_waits extra goes second second_waits t) → (w : Want T) (new : B) →
      (IsReply (second_waits b) → GoesOn second second_refuses second_waits (heard r (second b)) w new) →
      GoesOn (then_dialogue first extra goes second) (then_refuses first_refuses extra goes second_refuses) (then_waits first first_waits extra goes second second_waits) (heard r (then_dialogue first extra goes second t)) w (Second new)
  second-reply t b e r h w new g =
      subst (λ (x : Then A K B). GoesOn (then_dialogue first extra goes second) (then_refuses first_refuses extra goes second_refuses) (then_waits first first_waits extra goes second second_waits) (heard r (then_dialogue first extra goes second x)) w (Second new)) (sym e)
      (second-through (heard r (second b)) w new (g (subst (λ (x : Then A K B). IsReply (then_waits first first_waits extra goes second second_waits x)) e h)))

  -- where the whole waits, so does the part that stands there
  pub first-heard : (t : Then A K B) (a : A) (k : K) → t ≡ First a k → IsReply (then_waits first first_waits extra goes second second_waits t) → IsReply (first_waits a)
  first-heard t a k e h = (reply-inside (extra k) (goes k) (first a) (first_waits a) (subst (λ (x : Then A K B). IsReply (then_waits first first_waits extra goes second second_waits x)) e h)).0

  pub second-heard : (t : Then A K B) (b : B) → t ≡ Second b → IsReply (then_waits first first_waits extra goes second second_waits t) → IsReply (second_waits b)
  second-heard t b e h = subst (λ (x : Then A K B). IsReply (then_waits first first_waits extra goes second second_waits x)) e h

  pub second-waits : (t : Then A K B) (b : B) → t ≡ Second b → IsMessage (then_waits first first_waits extra goes second second_waits t) → IsMessage (second_waits b)
  second-waits t b e h = subst (λ (x : Then A K B). IsMessage (then_waits first first_waits extra goes second second_waits x)) e h

  -- what is left to do
  pub first-left : (t : Then A K B) (a : A) (k : K) → t ≡ First a k → IsMessage (then_waits first first_waits extra goes second second_waits t) → (own : List Cleanup) → (IsMessage (first_waits a) → own ≡ cleanup_of (first a)) →
      own ++ extra k ≡ cleanup_of (then_dialogue first extra goes second t)
  first-left t a k e h own g =
      let inside = message-inside (extra k) (goes k) (first a) (first_waits a) (subst (λ (x : Then A K B). IsMessage (then_waits first first_waits extra goes second second_waits x)) e h) in
      ap (λ (l : List Cleanup). l ++ extra k) (g inside.0) ∙ cleanup-through (extra k) (goes k) (first a) inside.1
      ∙ sym (ap (λ (x : Then A K B). cleanup_of (then_dialogue first extra goes second x)) e)
