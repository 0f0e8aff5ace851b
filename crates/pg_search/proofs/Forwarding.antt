-- A script that holds another steps as that one does.
use Rattle.std.proofs.Common.{◌≡◌, Result, Ok, Err, IfOk, subst}
use Rattle.pg_spec.specs.RawMessages.{RawMessage}
use Rattle.pg_types.specs.declared.error.Error.{Error}
use Rattle.pg_query.specs.declared.script.Want.{Want}
use Rattle.pg_query.specs.declared.script.Want.TheVariants as want
use Rattle.pg_query.specs.declared.script.Action.TheVariants as act
use Rattle.pg_query.specs.Dialogue.{Dialogue, feed_one}
use Rattle.pg_query.specs.Scripts.{Waiting, IsMessage, GoesOn, IsWanted}

module _ {S B T : Type 0} (dialogue : B → Dialogue T) (refuses : B → Error → Dialogue T) (waits : (b : B) → Waiting (dialogue b)) (held : S → B) where
  wanted-forward : (w : Want T) (s : S) → IsWanted dialogue waits w (held s) → IsWanted (λ x. dialogue (held x)) (λ x. waits (held x)) w s
  wanted-forward (want.Answer r) s h = tt
  wanted-forward (want.Act (act.Ask copying part)) s h = tt
  wanted-forward (want.Act (act.Send part)) s h = tt
  wanted-forward (want.Act (act.Put offer)) s h = tt
  wanted-forward (want.Act (act.Finish part)) s h = tt
  wanted-forward (want.Act (act.Close part)) s h = tt
  wanted-forward (want.Act act.HangUp) s h = tt
  wanted-forward (want.Act (act.Call q)) s h = record { waiting = h.waiting; there = h.there }
  wanted-forward want.Read s h = record { waiting = h.waiting; there = h.there }

  -- what the script wants that it holds, it wants
  pub goes-forward : {E : Type 0} (from : Dialogue T) (r : Result (Want T) E) (s : S) → IfOk r (λ w. GoesOn dialogue refuses waits from w (held s)) →
      IfOk r (λ w. GoesOn (λ x. dialogue (held x)) (λ x. refuses (held x)) (λ x. waits (held x)) from w s)
  goes-forward from (Ok w) s h = record { is = h.is; wanted = wanted-forward w s h.wanted }
  goes-forward from (Err e) s h = tt

  -- the same of a message, where the script that it holds stands in a box
  pub reads-forward : {E : Type 0} (raw : RawMessage) (old : S) (inner : B) → inner ≡ held old → (r : Result (Want T) E) (new : S) →
      (IsMessage (waits inner) → IfOk r (λ w. GoesOn dialogue refuses waits (feed_one raw (dialogue inner)) w (held new))) → IsMessage (waits (held old)) →
      IfOk r (λ w. GoesOn (λ x. dialogue (held x)) (λ x. refuses (held x)) (λ x. waits (held x)) (feed_one raw (dialogue (held old))) w new)
  reads-forward raw old inner is r new reads h =
      goes-forward (feed_one raw (dialogue (held old))) r new
      (subst (λ (b : B). IsMessage (waits b) → IfOk r (λ w. GoesOn dialogue refuses waits (feed_one raw (dialogue b)) w (held new))) is reads h)
