-- What is done with what a command names, once that is found.
use Rattle.std.proofs.Common.{◌≡◌, ℕ, List, Some, None, Err, sym, ap}
use Rattle.pg_types.specs.declared.error.Error.TheVariants.{Missing}
use Rattle.pg_execute.specs.Executes.{on_text}
use Rattle.pg_execute.specs.Targets as execution
use Rattle.pg_execute.specs.declared.target.Target.{Target}
use Rattle.pg_execute.specs.declared.target.Target.TheVariants.{Query, Owned, OwnedQuery, Statement}
use Rattle.pg_states.specs.Texts.{prepare_text}
use Rattle.pg_query.specs.Dialogue.{Dialogue, Answer}
use Rattle.pg_desk.specs.declared.statement.Described.{Described}
use Rattle.pg_text.specs.declared.command.CommandTarget.{CommandTarget}
use Rattle.pg_text.specs.declared.command.CommandTarget.TheVariants.{Slot, Text}
use Rattle.pg_table.specs.Slots.{Slots}
use Rattle.pg_table.specs.Targets.{IsFound, on_target, or_missing}

module _ {T : Type 0} (body : Described → Dialogue T) (slots : Slots) where
  -- a target that was found
  pub done-with : (to : CommandTarget) (target : Target) → IsFound slots to (Some target) → execution.on_target prepare_text body target ≡ on_target slots to body
  done-with (Slot slot) (Owned s) found = sym (ap (or_missing body) found)
  done-with (Slot slot) (Query query) found = absurd found
  done-with (Slot slot) (Statement s) found = absurd found
  done-with (Slot slot) (OwnedQuery query) found = absurd found
  done-with (Text text) (OwnedQuery query) found = absurd found
  done-with (Text text) (Query query) found = ap (λ (t : List ℕ). on_text (prepare_text t) body) found
  done-with (Text text) (Owned s) found = absurd found
  done-with (Text text) (Statement s) found = absurd found

  -- a slot that holds nothing
  pub done-without : (to : CommandTarget) → IsFound slots to None → Answer (Err Missing) ≡ on_target slots to body
  done-without (Slot slot) found = sym (ap (or_missing body) found)
  done-without (Text text) found = absurd found
