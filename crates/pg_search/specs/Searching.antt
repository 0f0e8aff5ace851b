-- Where a search stands, by its job.
use Rattle.std.specs.Prelude.{ℕ, ◌+◌, ◌-◌, ◌*◌, List, [], length, Err}
use Rattle.pg_types.specs.declared.pg_type.PgType.{PgType}
use Rattle.pg_types.specs.declared.error.Error.{Error}
use Rattle.pg_types.specs.declared.error.Error.TheVariants.{Closed}
use Rattle.pg_query.specs.declared.script.Want.{Want}
use Rattle.pg_query.specs.Dialogue.{Dialogue, Answer, Hear}
use Rattle.pg_query.specs.Scripts.{Waiting, Nothing, AReply, GoesOn}
use Rattle.pg_core.specs.Behind.{behind}
use Rattle.pg_core.specs.Thens.{waits_through}
use Rattle.pg_core.specs.Prepares.{type_told}
use Rattle.pg_core.specs.Lookups.{TypeRow, FieldRows, kept_told, find_all, unless_known}
use Rattle.pg_search.specs.declared.stack.Stack.{Stack}
use Rattle.pg_search.specs.declared.search.Job.{Job}
use Rattle.pg_search.specs.declared.search.Job.TheVariants as job
use Rattle.pg_search.specs.declared.search.SearchBy.{SearchBy}
use Rattle.pg_search.specs.Stacks.{searching_at, may_find, told_goes, row_goes, labels_goes, fields_goes}
use Rattle.pg_search.specs.Steps.{most_fields, finding_steps, row_steps, stack_steps, more_at, more_over}

-- what is still asked and answered
abbrev pub job_dialogue : {R L F : Type 0} → (R → Dialogue TypeRow) → (L → Dialogue (List (List ℕ))) → (F → Dialogue FieldRows) → Stack → Job R L F → Dialogue (List PgType)
job_dialogue row labels fields s (job.New oids) = find_all oids.items
job_dialogue row labels fields s (job.Hears oid) = Hear (λ r. searching_at s (type_told (unless_known (may_find s oid) (told_goes s oid)) r))
job_dialogue row labels fields s (job.Row oid script) = behind [] (row script) (row_goes s oid)
job_dialogue row labels fields s (job.Labels oid r script) = behind [] (labels script) (labels_goes s oid r)
job_dialogue row labels fields s (job.Fields oid r script) = behind [] (fields script) (fields_goes s oid r)
job_dialogue row labels fields s job.Keeps = Hear (λ r. searching_at s (kept_told r))
job_dialogue row labels fields s job.Over = Answer (Err Closed)

-- the same, where the desk refuses what was sent or asked
abbrev pub job_refuses : {R L F : Type 0} → (R → Error → Dialogue TypeRow) → (L → Error → Dialogue (List (List ℕ))) → (F → Error → Dialogue FieldRows) → Stack → Job R L F → Error → Dialogue (List PgType)
job_refuses row labels fields s (job.Row oid script) = λ e. behind [] (row script e) (row_goes s oid)
job_refuses row labels fields s (job.Labels oid r script) = λ e. behind [] (labels script e) (labels_goes s oid r)
job_refuses row labels fields s (job.Fields oid r script) = λ e. behind [] (fields script e) (fields_goes s oid r)
job_refuses row labels fields s _ = λ e. Answer (Err e)

-- what is waited for
abbrev pub job_waits : {R L F : Type 0} (row : R → Dialogue TypeRow) → ((r : R) → Waiting (row r)) → (labels : L → Dialogue (List (List ℕ))) → ((l : L) → Waiting (labels l)) →
    (fields : F → Dialogue FieldRows) → ((f : F) → Waiting (fields f)) → (s : Stack) → (j : Job R L F) → Waiting (job_dialogue row labels fields s j)
job_waits row row_waits labels labels_waits fields fields_waits s (job.New oids) = Nothing
job_waits row row_waits labels labels_waits fields fields_waits s (job.Hears oid) = AReply tt
job_waits row row_waits labels labels_waits fields fields_waits s (job.Row oid script) = waits_through [] (row_goes s oid) (row script) (row_waits script)
job_waits row row_waits labels labels_waits fields fields_waits s (job.Labels oid r script) = waits_through [] (labels_goes s oid r) (labels script) (labels_waits script)
job_waits row row_waits labels labels_waits fields fields_waits s (job.Fields oid r script) = waits_through [] (fields_goes s oid r) (fields script) (fields_waits script)
job_waits row row_waits labels labels_waits fields fields_waits s job.Keeps = AReply tt
job_waits row row_waits labels labels_waits fields fields_waits s job.Over = Nothing

-- how many steps are left
abbrev pub job_steps : {R L F : Type 0} → (most : ℕ) → (R → ℕ) → (L → ℕ) → (F → ℕ) → Stack → Job R L F → ℕ
job_steps most row labels fields s (job.New oids) = length oids.items * finding_steps most 64
job_steps most row labels fields s (job.Hears oid) = finding_steps most (more_at s) - 1 + stack_steps most s
job_steps most row labels fields s (job.Row oid script) = row script + (row_steps most (more_over s) + stack_steps most s)
job_steps most row labels fields s (job.Labels oid r script) = labels script + (1 + stack_steps most s)
job_steps most row labels fields s (job.Fields oid r script) = fields script + (1 + most_fields * finding_steps most (more_over s) + stack_steps most s)
job_steps most row labels fields s job.Keeps = stack_steps most s
job_steps most row labels fields s job.Over = 0

-- the same of a search
abbrev pub search_dialogue : {A R L F : Type 0} → (R → Dialogue TypeRow) → (L → Dialogue (List (List ℕ))) → (F → Dialogue FieldRows) → SearchBy A R L F → Dialogue (List PgType)
search_dialogue row labels fields s = job_dialogue row labels fields s.stack s.job

-- the same where the desk refuses what was asked
abbrev pub search_refuses : {A R L F : Type 0} → (R → Error → Dialogue TypeRow) → (L → Error → Dialogue (List (List ℕ))) → (F → Error → Dialogue FieldRows) → SearchBy A R L F → Error → Dialogue (List PgType)
search_refuses row labels fields s = job_refuses row labels fields s.stack s.job

-- what a search waits for
abbrev pub search_waits : {A R L F : Type 0} (row : R → Dialogue TypeRow) → ((r : R) → Waiting (row r)) → (labels : L → Dialogue (List (List ℕ))) → ((l : L) → Waiting (labels l)) →
    (fields : F → Dialogue FieldRows) → ((f : F) → Waiting (fields f)) → (s : SearchBy A R L F) → Waiting (search_dialogue row labels fields s)
search_waits row row_waits labels labels_waits fields fields_waits s = job_waits row row_waits labels labels_waits fields fields_waits s.stack s.job

-- how many steps a search has left
abbrev pub search_steps : {A R L F : Type 0} → (most : ℕ) → (R → ℕ) → (L → ℕ) → (F → ℕ) → SearchBy A R L F → ℕ
search_steps most row labels fields s = job_steps most row labels fields s.stack s.job

-- A search that stood at this dialogue wants this, and stands behind it.
abbrev pub Searched : {A R L F : Type 0} (row : R → Dialogue TypeRow) → (R → Error → Dialogue TypeRow) → ((r : R) → Waiting (row r)) →
    (labels : L → Dialogue (List (List ℕ))) → (L → Error → Dialogue (List (List ℕ))) → ((l : L) → Waiting (labels l)) →
    (fields : F → Dialogue FieldRows) → (F → Error → Dialogue FieldRows) → ((f : F) → Waiting (fields f)) → Dialogue (List PgType) → Want (List PgType) → SearchBy A R L F → Type 0
Searched row row_refuses row_waits labels labels_refuses labels_waits fields fields_refuses fields_waits from w new =
    GoesOn (search_dialogue row labels fields) (search_refuses row_refuses labels_refuses fields_refuses) (search_waits row row_waits labels labels_waits fields fields_waits) from w new
