-- What a link of known course does in a call.
use Rattle.std.specs.Prelude.{◌≡◌, ◌⊎◌, ℕ, ◌+◌, ◌≤◌, IsTrue, List, [], ◌++◌, length, take, Some}
use Rattle.std.specs.List.{concat}
use Rattle.pg_promises.specs.Causes.{Call, startup_after}
use Rattle.pg_spec.specs.Links.{Plan, Rose, due_by}
use Rattle.pg_spec.specs.Sent.{turns_given, units, whole_units}
use Rattle.pg_spec.specs.Settings.{Settings}

-- A link of known course: it told all bytes from the beginning, gave a front of what its plan lets it give, and
-- neither failed nor ended. Each turn but those of the startup's frames was given by a request; and where a request was sent
-- whole, each of these frames gave a turn, and so did each request.
pub record HoldsCourse (call : Call) (s : Settings) (plan : Plan) (given taken : List ℕ) : Type 0 where
  pub none_given : call.before.given ≡ Some []
  pub none_taken : call.before.taken ≡ Some []
  pub tells_given : call.after.given ≡ Some given
  pub tells_taken : call.after.taken ≡ Some taken
  pub steady : IsTrue call.before.steady
  pub due : call.after.due ≡ Some (due_by plan given taken)
  pub rest : List ℕ
  pub front : given ++ rest ≡ concat (take (turns_given taken) plan.entries)
  pub no_fault : Rose call.before.faults call.after.faults → ⊥
  pub no_end : Rose call.before.ends call.after.ends → ⊥
  pub asked : turns_given taken ≤ length (startup_after call s given).frames + length (units taken)
  pub whole : (whole_units taken ≡ 0) ⊎ (length (startup_after call s given).frames + whole_units taken ≤ turns_given taken)
