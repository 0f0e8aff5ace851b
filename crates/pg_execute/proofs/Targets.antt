-- A target, where what prepares it stands, or its body.
use Rattle.std.proofs.Common.{◌≡◌, ℕ, List, [], Result, Ok, Err, IfOk, refl, sym, ◌∙◌, ap, subst, append-nil}
use Rattle.pg_spec.specs.RawMessages.{RawMessage}
use Rattle.pg_types.specs.declared.error.Error.{Error}
use Rattle.pg_desk.specs.declared.statement.Described.{Described}
use Rattle.pg_query.specs.declared.desk_call.Cleanup.{Cleanup}
use Rattle.pg_query.specs.declared.desk_call.Reply.{Reply}
use Rattle.pg_query.specs.declared.script.Want.{Want}
use Rattle.pg_query.specs.declared.script.Want.TheVariants as want
use Rattle.pg_query.specs.declared.script.Action.{Action}
use Rattle.pg_query.specs.Dialogue.{Dialogue, feed_one}
use Rattle.pg_query.specs.Scripts.{Waiting, Nothing, AMessage, AReply, IsMessage, IsReply, heard, GoesOn, Falls, cleanup_of}
use Rattle.pg_core.specs.Sequences.{or_answer, then_do}
use Rattle.pg_core.specs.Thens.{waits_through}
use Rattle.pg_execute.specs.Closings.{closes_dialogue, closes_refuses, closes_steps, closes_waits}
use Rattle.pg_execute.specs.Targets.{closing_body, on_closing, on_target, targeted_dialogue, targeted_refuses, targeted_steps, targeted_waits}
use Rattle.pg_execute.specs.declared.closes.Closing.{Closing}
use Rattle.pg_execute.specs.declared.closes.Closing.TheVariants.{Behind}
use Rattle.pg_execute.specs.declared.closes.Closes.{Closes}
use Rattle.pg_execute.specs.declared.target.Target.{Target}
use Rattle.pg_execute.specs.declared.target.Target.TheVariants.{Query, OwnedQuery, Statement, Owned}
use Rattle.pg_execute.specs.declared.target.Targeted.{Targeted}
use Rattle.pg_execute.specs.declared.target.Targeted.TheVariants.{Prepares, Runs}
use Rattle.pg_execute.proofs.ClosedBehind.{act-at, at-goes, goes-at, hears-at, left-at, message-at, read-at, reply-at, through-nothing}

-- closed behind each answer is closed behind
pub behind-each : {T : Type 0} (prepares : List ℕ → Dialogue Described) (body : Described → Dialogue T) (t : Target) → on_closing Behind prepares body t ≡ on_target prepares body t
behind-each prepares body (Query text) = refl
behind-each prepares body (OwnedQuery text) = refl
behind-each prepares body (Statement s) = refl
behind-each prepares body (Owned s) = refl

-- where the whole waits for a message, so does its first part
waits-inside : {X T : Type 0} (extra : List Cleanup) (f : Result X Error → Dialogue T) (d : Dialogue X) (w : Waiting d) → IsMessage (waits_through extra f d w) → IsMessage w
waits-inside extra f d Nothing h = absurd h
waits-inside extra f d (AMessage r) h = tt
waits-inside extra f d (AReply r) h = absurd h

-- the text was prepared
pub prepared-as : {T : Type 0} (f : Described → Dialogue T) (d e : Dialogue Described) → e ≡ d → then_do e f ≡ then_do d f
prepared-as f d e is = ap (λ (x : Dialogue Described). then_do x f) is

module _ {A G B T : Type 0} (prepares : A → Dialogue Described) (denied : A → Error → Dialogue Described) (prepares_waits : (a : A) → Waiting (prepares a)) (to : G → Described → Dialogue T)
    (body : B → Dialogue T) (body_refuses : B → Error → Dialogue T) (body_waits : (b : B) → Waiting (body b)) where
  abbrev dialogue : Targeted A G B T → Dialogue T
  dialogue = targeted_dialogue prepares to body

  abbrev refuses : Targeted A G B T → Error → Dialogue T
  refuses = targeted_refuses denied to body_refuses

  abbrev waits : (t : Targeted A G B T) → Waiting (targeted_dialogue prepares to body t)
  waits = targeted_waits prepares prepares_waits to body body_waits

  abbrev Goes : Dialogue T → Want T → Targeted A G B T → Type 0
  Goes from w t = GoesOn (targeted_dialogue prepares to body) (targeted_refuses denied to body_refuses) (targeted_waits prepares prepares_waits to body body_waits) from w t

  abbrev RunsOn : Dialogue T → Want T → Closes B T → Type 0
  RunsOn from w c = GoesOn (closes_dialogue body) (closes_refuses body_refuses) (closes_waits body body_waits) from w c

  -- ---- the body

  pub runs-on : (from : Dialogue T) (w : Want T) (c : Closes B T) → RunsOn from w c → Goes from w (Runs c)
  runs-on from w c h = at-goes dialogue refuses waits from w (Runs c) (goes-at (closes_dialogue body) (closes_refuses body_refuses) (closes_waits body body_waits) from w c h)

  pub runs-ok : {E : Type 0} (from : Dialogue T) (r : Result (Want T) E) (c : Closes B T) → IfOk r (λ w. RunsOn from w c) → IfOk r (λ w. Goes from w (Runs c))
  runs-ok from (Ok w) c h = runs-on from w c h
  runs-ok from (Err e) c h = tt

  pub runs-message : {E : Type 0} (t : Targeted A G B T) (c : Closes B T) → t ≡ Runs c → (f : Dialogue T → Dialogue T) (r : Result (Want T) E) (new : Closes B T) →
      (IsMessage (closes_waits body body_waits c) → IfOk r (λ w. RunsOn (f (closes_dialogue body c)) w new)) → IsMessage (waits t) → IfOk r (λ w. Goes (f (dialogue t)) w (Runs new))
  runs-message t c is f r new g =
      subst (λ (x : Targeted A G B T). IsMessage (waits x) → IfOk r (λ w. Goes (f (dialogue x)) w (Runs new))) (sym is) (λ h. runs-ok (f (closes_dialogue body c)) r new (g h))

  pub runs-reply : {E : Type 0} (t : Targeted A G B T) (c : Closes B T) → t ≡ Runs c → (f : Dialogue T → Dialogue T) (r : Result (Want T) E) (new : Closes B T) →
      (IsReply (closes_waits body body_waits c) → IfOk r (λ w. RunsOn (f (closes_dialogue body c)) w new)) → IsReply (waits t) → IfOk r (λ w. Goes (f (dialogue t)) w (Runs new))
  runs-reply t c is f r new g =
      subst (λ (x : Targeted A G B T). IsReply (waits x) → IfOk r (λ w. Goes (f (dialogue x)) w (Runs new))) (sym is) (λ h. runs-ok (f (closes_dialogue body c)) r new (g h))

  pub runs-next : {E : Type 0} (t : Targeted A G B T) (c : Closes B T) → t ≡ Runs c → (r : Result (Want T) E) (new : Closes B T) →
      IfOk r (λ w. RunsOn (closes_dialogue body c) w new) → IfOk r (λ w. Goes (dialogue t) w (Runs new))
  runs-next t c is r new g = subst (λ (x : Targeted A G B T). IfOk r (λ w. Goes (dialogue x) w (Runs new))) (sym is) (runs-ok (closes_dialogue body c) r new g)

  pub runs-refused : {E : Type 0} (t : Targeted A G B T) (c : Closes B T) → t ≡ Runs c → (e : Error) (r : Result (Want T) E) (new : Closes B T) →
      IfOk r (λ w. RunsOn (closes_refuses body_refuses c e) w new) → IfOk r (λ w. Goes (refuses t e) w (Runs new))
  runs-refused t c is e r new g = subst (λ (x : Targeted A G B T). IfOk r (λ w. Goes (refuses x e) w (Runs new))) (sym is) (runs-ok (closes_refuses body_refuses c e) r new g)

  -- what holds of the body where it waits for a message, holds of the whole
  pub runs-there : {Q : Type 0} (t : Targeted A G B T) (c : Closes B T) → t ≡ Runs c → (IsMessage (closes_waits body body_waits c) → Q) → IsMessage (waits t) → Q
  runs-there {Q} t c is g h = g (subst (λ (x : Targeted A G B T). IsMessage (waits x)) is h)

  pub runs-left : (Q : List Cleanup → Type 0) (t : Targeted A G B T) (c : Closes B T) → t ≡ Runs c → (IsMessage (closes_waits body body_waits c) → Q (cleanup_of (closes_dialogue body c))) →
      IsMessage (waits t) → Q (cleanup_of (dialogue t))
  runs-left Q t c is g = subst (λ (x : Targeted A G B T). IsMessage (waits x) → Q (cleanup_of (dialogue x))) (sym is) g

  pub runs-fall : {E : Type 0} (steps : A → ℕ) (most : G → ℕ) (body_steps : B → ℕ) (t : Targeted A G B T) (c : Closes B T) → t ≡ Runs c → (r : Result (Want T) E) (new : Closes B T) →
      (IsReply (closes_waits body body_waits c) → IfOk r (λ w. Falls w (closes_steps body_steps c) (closes_steps body_steps new))) → IsReply (waits t) →
      IfOk r (λ w. Falls w (targeted_steps steps most body_steps t) (closes_steps body_steps new))
  runs-fall steps most body_steps t c is r new g =
      subst (λ (x : Targeted A G B T). IsReply (waits x) → IfOk r (λ w. Falls w (targeted_steps steps most body_steps x) (closes_steps body_steps new))) (sym is) g

  -- ---- what prepares the text

  pub prepares-act : (a : A) (closing : Closing) (go : G) (d : Dialogue Described) (x : Action) → GoesOn prepares denied prepares_waits d (want.Act x) a →
      Goes (then_do d (closing_body closing (to go))) (want.Act x) (Prepares a closing go)
  prepares-act a closing go d x h = at-goes dialogue refuses waits (then_do d (closing_body closing (to go))) (want.Act x) (Prepares a closing go)
      (act-at prepares denied prepares_waits [] (or_answer (closing_body closing (to go))) a d x x (through-nothing x) h)

  pub prepares-read : (a : A) (closing : Closing) (go : G) (d : Dialogue Described) → GoesOn prepares denied prepares_waits d want.Read a →
      Goes (then_do d (closing_body closing (to go))) want.Read (Prepares a closing go)
  prepares-read a closing go d h = at-goes dialogue refuses waits (then_do d (closing_body closing (to go))) want.Read (Prepares a closing go)
      (read-at prepares denied prepares_waits [] (or_answer (closing_body closing (to go))) a d h)

  pub prepares-message : (t : Targeted A G B T) (a : A) (closing : Closing) (go : G) → t ≡ Prepares a closing go → (m : RawMessage) → IsMessage (waits t) → (w : Want Described) (new : A) →
      (IsMessage (prepares_waits a) → GoesOn prepares denied prepares_waits (feed_one m (prepares a)) w new) →
      (Q : Dialogue T → Type 0) → ((d : Dialogue Described) → GoesOn prepares denied prepares_waits d w new → Q (then_do d (closing_body closing (to go)))) → Q (feed_one m (dialogue t))
  prepares-message t a closing go is m h w new g Q went =
      subst (λ (x : Targeted A G B T). Q (feed_one m (dialogue x))) (sym is)
      (message-at prepares denied prepares_waits [] (or_answer (closing_body closing (to go))) a m (subst (λ (x : Targeted A G B T). IsMessage (waits x)) is h) w new g Q went)

  pub prepares-reply : (t : Targeted A G B T) (a : A) (closing : Closing) (go : G) → t ≡ Prepares a closing go → (r : Reply) → IsReply (waits t) → (w : Want Described) (new : A) →
      (IsReply (prepares_waits a) → GoesOn prepares denied prepares_waits (heard r (prepares a)) w new) →
      (Q : Dialogue T → Type 0) → ((d : Dialogue Described) → GoesOn prepares denied prepares_waits d w new → Q (then_do d (closing_body closing (to go)))) → Q (heard r (dialogue t))
  prepares-reply t a closing go is r h w new g Q went =
      subst (λ (x : Targeted A G B T). Q (heard r (dialogue x))) (sym is)
      (reply-at prepares denied prepares_waits [] (or_answer (closing_body closing (to go))) a r (subst (λ (x : Targeted A G B T). IsReply (waits x)) is h) w new g Q went)

  pub prepares-hears : (t : Targeted A G B T) (a : A) (closing : Closing) (go : G) → t ≡ Prepares a closing go → IsReply (waits t) → IsReply (prepares_waits a)
  prepares-hears t a closing go is h =
      hears-at prepares denied prepares_waits [] (or_answer (closing_body closing (to go))) a (subst (λ (x : Targeted A G B T). IsReply (waits x)) is h)

  pub prepares-left : (t : Targeted A G B T) (a : A) (closing : Closing) (go : G) → t ≡ Prepares a closing go → IsMessage (waits t) → (own : List Cleanup) →
      (IsMessage (prepares_waits a) → own ≡ cleanup_of (prepares a)) → own ≡ cleanup_of (dialogue t)
  prepares-left t a closing go is h own g =
      sym (append-nil own)
      ∙ left-at prepares denied prepares_waits [] (or_answer (closing_body closing (to go))) a (subst (λ (x : Targeted A G B T). IsMessage (waits x)) is h) own g
      ∙ sym (ap (λ (x : Targeted A G B T). cleanup_of (dialogue x)) is)

  pub prepares-left-ok : (Q : List Cleanup → Type 0) (t : Targeted A G B T) (a : A) (closing : Closing) (go : G) → t ≡ Prepares a closing go → (IsMessage (prepares_waits a) → Q (cleanup_of (prepares a))) →
      IsMessage (waits t) → Q (cleanup_of (dialogue t))
  prepares-left-ok Q t a closing go is g h =
      let inside : IsMessage (waits (Prepares a closing go)) = subst (λ (x : Targeted A G B T). IsMessage (waits x)) is h in
      subst Q (prepares-left t a closing go is h (cleanup_of (prepares a)) (λ m. refl))
      (g (waits-inside [] (or_answer (closing_body closing (to go))) (prepares a) (prepares_waits a) inside))
