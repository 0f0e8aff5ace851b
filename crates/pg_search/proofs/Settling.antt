-- What was settled is what was to be read.
use Rattle.std.proofs.Common.{◌≡◌, ℕ, List, Bool, Result, sym, ap, ◌∙◌, subst}
use Rattle.pg_spec.specs.Readings.{Next, Answers}
use Rattle.pg_types.specs.declared.error.Error.{Error}
use Rattle.pg_desk.specs.declared.statement.Described.{Described as Statement}
use Rattle.pg_desk.specs.declared.column.Column.{Column}
use Rattle.pg_core.specs.Cells.{Cells, value_at, text_in}
use Rattle.pg_core.specs.Lookups.{TypeRow, type_row}
use Rattle.pg_core.specs.QueryReplies as query
use Rattle.pg_core.specs.QueryReplies.{first_row_by}
use Rattle.pg_search.specs.CatalogReadings.{label_of}
use Rattle.pg_search.specs.Given.{Gives}
use Rattle.pg_search.specs.Saying.{said_view}
use Rattle.pg_search.specs.declared.said.Said.{Said}
use Rattle.pg_search.specs.declared.said.Said.TheVariants as read

-- a label
pub label-settled : (s : Statement) (columns : List Column) (cells same : Cells) (given is : Result (List ℕ) Error) → columns ≡ s.columns → same ≡ cells → Gives (value_at text_in columns same 0) given →
    ((r : Result (List ℕ) Error) → Gives r given → is ≡ r) → is ≡ label_of s cells
label-settled s columns cells same given is of-statement equal gives settled =
    settled (value_at text_in columns same 0) gives
    ∙ ap (λ (x : List Column). value_at text_in x same 0) of-statement ∙ ap (λ (x : Cells). value_at text_in s.columns x 0) equal

-- a row, which is the answer
pub row-settled : (s : Statement) (bound : Bool) (said : Said) (columns : List Column) (cells same : Cells) (given is : Result TypeRow Error) → said ≡ read.Row cells → columns ≡ s.columns → same ≡ cells →
    Gives (type_row columns same) given → ((r : Result TypeRow Error) → Gives r given → is ≡ r) → first_row_by (type_row s.columns) bound (said_view said) ≡ Answers is
row-settled s bound said columns cells same given is says of-statement equal gives settled =
    ap (λ (x : Said). first_row_by (type_row s.columns) bound (said_view x)) says
    ∙ ap (λ (r : Result TypeRow Error). let n : Next Bool (Result TypeRow Error) = Answers r in n)
    (sym (settled (type_row columns same) gives ∙ ap (λ (x : List Column). type_row x same) of-statement ∙ ap (λ (x : Cells). type_row s.columns x) equal))
