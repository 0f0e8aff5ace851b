-- A script that holds another steps as that one.
use Rattle.std.proofs.Common.{Result, Ok, Err, IfOk}
use Rattle.std.specs.declared.alloc.AllocError.{AllocError}
use Rattle.pg_types.specs.declared.error.Error.{Error}
use Rattle.pg_query.specs.Dialogue.{Dialogue}
use Rattle.pg_query.specs.Scripts.{Waiting, GoesOn, IsWanted}
use Rattle.pg_query.specs.declared.script.Action.TheVariants as act
use Rattle.pg_query.specs.declared.script.Want.{Want}
use Rattle.pg_query.specs.declared.script.Want.TheVariants as want

module _ {R S T : Type 0} (dialogue : R → Dialogue T) (refuses : R → Error → Dialogue T) (waits : (r : R) → Waiting (dialogue r)) (held : S → R) where
  wanted-within : (w : Want T) (s : S) → IsWanted dialogue waits w (held s) → IsWanted (λ x. dialogue (held x)) (λ x. waits (held x)) w s
  wanted-within (want.Answer r) s h = tt
  wanted-within (want.Act (act.Ask copying part)) s h = tt
  wanted-within (want.Act (act.Send part)) s h = tt
  wanted-within (want.Act (act.Put offer)) s h = tt
  wanted-within (want.Act (act.Finish part)) s h = tt
  wanted-within (want.Act (act.Close part)) s h = tt
  wanted-within (want.Act act.HangUp) s h = tt
  wanted-within (want.Act (act.Call q)) s h = record { waiting = h.waiting; there = h.there }
  wanted-within want.Read s h = record { waiting = h.waiting; there = h.there }

  -- what the one that is held goes on with
  pub goes-within : (s : S) (r : Result (Want T) AllocError) (from : Dialogue T) → IfOk r (λ w. GoesOn dialogue refuses waits from w (held s)) →
      IfOk r (λ w. GoesOn (λ x. dialogue (held x)) (λ x. refuses (held x)) (λ x. waits (held x)) from w s)
  goes-within s (Ok w) from h = record { is = h.is; wanted = wanted-within w s h.wanted }
  goes-within s (Err e) from h = tt
