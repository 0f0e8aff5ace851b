use Rattle.std.proofs.Common.{◌≡◌, ℕ, List, Result, sym, ap, ◌∙◌}
use Rattle.pg_spec.specs.Readings.{Next, GoesOn}
use Rattle.pg_types.specs.declared.error.Error.{Error}
use Rattle.pg_core.specs.QueryReplies.{Collected, collects}
use Rattle.pg_search.specs.CatalogReadings.{label_of, labels_so_far}
use Rattle.pg_search.proofs.Settling.{label-settled}
use Rattle.pg_search.proofs.labels_reading.LabelsReading.row.Goals as goal

pub returns-in_ok-keep-in-Ok-clause-does : goal.returns-in_ok-keep-in-Ok-clause-does
returns-in_ok-keep-in-Ok-clause-does c =
    let old = c.args.self.now in
    let is : c.in_ok-label.field-0 ≡ label_of old.statement c.args.cells.now =
    label-settled old.statement c.columns.result.now c.args.cells.now c.as_slice.result.now c.text_at-label.result c.in_ok-label.field-0 c.columns.ensures c.as_slice.ensures c.text_at-label.ensures c.in_ok-label.ensures in
    ap (λ (r : Result (List ℕ) Error). collects (labels_so_far old) r) (sym is ∙ c.in-Ok.is)
    ∙ ap (λ (x : Collected (List ℕ)). let n : Next (Collected (List ℕ)) (Result (List (List ℕ)) Error) = GoesOn x in n) (sym c.in_ok-keep-in-Ok.ensures.labels)

pub returns-in-Err-clause-does : goal.returns-in-Err-clause-does
returns-in-Err-clause-does c =
    let old = c.args.self.now in
    let is : c.in_ok-label.field-0 ≡ label_of old.statement c.args.cells.now =
    label-settled old.statement c.columns.result.now c.args.cells.now c.as_slice.result.now c.text_at-label.result c.in_ok-label.field-0 c.columns.ensures c.as_slice.ensures c.text_at-label.ensures c.in_ok-label.ensures in
    ap (λ (r : Result (List ℕ) Error). collects (labels_so_far old) r) (sym is ∙ c.in-Err.is)
