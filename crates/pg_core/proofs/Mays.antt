-- A script, where an answer could stand in its place.
use Rattle.std.proofs.Common.{◌≡◌, ℕ, List, Result, Ok, Err, IfOk, sym, subst}
use Rattle.pg_types.specs.declared.error.Error.{Error}
use Rattle.pg_query.specs.declared.desk_call.Cleanup.{Cleanup}
use Rattle.pg_query.specs.declared.script.Want.{Want}
use Rattle.pg_query.specs.declared.script.Want.TheVariants as want
use Rattle.pg_query.specs.declared.script.Action.TheVariants as act
use Rattle.pg_query.specs.Dialogue.{Dialogue}
use Rattle.pg_query.specs.Scripts.{Waiting, IsMessage, IsReply, GoesOn, IsWanted, Falls, cleanup_of}
use Rattle.pg_core.specs.declared.maybe.Maybe.{Maybe}
use Rattle.pg_core.specs.declared.maybe.Maybe.TheVariants.{Goes}
use Rattle.pg_core.specs.Maybes.{maybe_dialogue, maybe_refuses, maybe_waits, maybe_steps}

module _ {T B : Type 0} (goes : B → Dialogue T) (refuses : B → Error → Dialogue T) (waits : (b : B) → Waiting (goes b)) where
  wanted-goes : (w : Want T) (b : B) → IsWanted goes waits w b → IsWanted (maybe_dialogue goes) (maybe_waits goes waits) w (Goes b)
  wanted-goes (want.Answer r) b h = tt
  wanted-goes (want.Act (act.Ask copying part)) b h = tt
  wanted-goes (want.Act (act.Send part)) b h = tt
  wanted-goes (want.Act (act.Put offer)) b h = tt
  wanted-goes (want.Act (act.Finish part)) b h = tt
  wanted-goes (want.Act (act.Close part)) b h = tt
  wanted-goes (want.Act act.HangUp) b h = tt
  wanted-goes (want.Act (act.Call q)) b h = record { waiting = h.waiting; there = h.there }
  wanted-goes want.Read b h = record { waiting = h.waiting; there = h.there }

  -- what a step of the script gives, it gives of the whole
  pub goes-on : {E : Type 0} (d : Dialogue T) (r : Result (Want T) E) (new : B) → IfOk r (λ w. GoesOn goes refuses waits d w new) →
      IfOk r (λ w. GoesOn (maybe_dialogue goes) (maybe_refuses refuses) (maybe_waits goes waits) d w (Goes new))
  goes-on d (Ok w) new g = record { is = g.is; wanted = wanted-goes w new g.wanted }
  goes-on d (Err x) new g = tt

  pub goes-message : {E : Type 0} (m : Maybe T B) (b : B) → m ≡ Goes b → (f : Dialogue T → Dialogue T) (r : Result (Want T) E) (new : B) →
      (IsMessage (waits b) → IfOk r (λ w. GoesOn goes refuses waits (f (goes b)) w new)) → IsMessage (maybe_waits goes waits m) →
      IfOk r (λ w. GoesOn (maybe_dialogue goes) (maybe_refuses refuses) (maybe_waits goes waits) (f (maybe_dialogue goes m)) w (Goes new))
  goes-message m b e f r new g =
      subst (λ (x : Maybe T B). IsMessage (maybe_waits goes waits x) → IfOk r (λ w. GoesOn (maybe_dialogue goes) (maybe_refuses refuses) (maybe_waits goes waits) (f (maybe_dialogue goes x)) w (Goes new)))
      (sym e) (λ h. goes-on (f (goes b)) r new (g h))

  pub goes-reply : {E : Type 0} (m : Maybe T B) (b : B) → m ≡ Goes b → (f : Dialogue T → Dialogue T) (r : Result (Want T) E) (new : B) →
      (IsReply (waits b) → IfOk r (λ w. GoesOn goes refuses waits (f (goes b)) w new)) → IsReply (maybe_waits goes waits m) →
      IfOk r (λ w. GoesOn (maybe_dialogue goes) (maybe_refuses refuses) (maybe_waits goes waits) (f (maybe_dialogue goes m)) w (Goes new))
  goes-reply m b e f r new g =
      subst (λ (x : Maybe T B). IsReply (maybe_waits goes waits x) → IfOk r (λ w. GoesOn (maybe_dialogue goes) (maybe_refuses refuses) (maybe_waits goes waits) (f (maybe_dialogue goes x)) w (Goes new)))
      (sym e) (λ h. goes-on (f (goes b)) r new (g h))

  pub goes-refused : {E : Type 0} (m : Maybe T B) (b : B) → m ≡ Goes b → (error : Error) (r : Result (Want T) E) (new : B) → IfOk r (λ w. GoesOn goes refuses waits (refuses b error) w new) →
      IfOk r (λ w. GoesOn (maybe_dialogue goes) (maybe_refuses refuses) (maybe_waits goes waits) (maybe_refuses refuses m error) w (Goes new))
  goes-refused m b e error r new g =
      subst (λ (x : Maybe T B). IfOk r (λ w. GoesOn (maybe_dialogue goes) (maybe_refuses refuses) (maybe_waits goes waits) (maybe_refuses refuses x error) w (Goes new)))
      (sym e) (goes-on (refuses b error) r new g)

  -- what holds of the script where it waits for a message, holds of the whole
  pub message-there : {Q : Type 0} (m : Maybe T B) (b : B) → m ≡ Goes b → (IsMessage (waits b) → Q) → IsMessage (maybe_waits goes waits m) → Q
  message-there {Q} m b e = subst (λ (x : Maybe T B). (IsMessage (waits b) → Q) → IsMessage (maybe_waits goes waits x) → Q) (sym e) (λ g h. g h)

  pub goes-left : (Q : List Cleanup → Type 0) (m : Maybe T B) (b : B) → m ≡ Goes b → (IsMessage (waits b) → Q (cleanup_of (goes b))) → IsMessage (maybe_waits goes waits m) → Q (cleanup_of (maybe_dialogue goes m))
  goes-left Q m b e g = subst (λ (x : Maybe T B). IsMessage (maybe_waits goes waits x) → Q (cleanup_of (maybe_dialogue goes x))) (sym e) g

  pub reply-falls : {E : Type 0} (steps : B → ℕ) (m : Maybe T B) (b : B) → m ≡ Goes b → (r : Result (Want T) E) (new : B) →
      (IsReply (waits b) → IfOk r (λ w. Falls w (steps b) (steps new))) → IsReply (maybe_waits goes waits m) → IfOk r (λ w. Falls w (maybe_steps steps m) (steps new))
  reply-falls steps m b e r new g =
      subst (λ (x : Maybe T B). IsReply (maybe_waits goes waits x) → IfOk r (λ w. Falls w (maybe_steps steps x) (steps new))) (sym e) g
