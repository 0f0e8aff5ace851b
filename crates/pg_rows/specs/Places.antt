-- Which column of a row an index means.
use Rattle.std.specs.Prelude.{ℕ, List, length, nat_lt, Option, Some, None, decimal, if◌then◌else◌}
use Rattle.std.specs.List.{position}
use Rattle.std.specs.Option.{option_or}
use Rattle.std.specs.Str.{bytes_eq, str_eq_ignore_ascii_case}
use Rattle.pg_rows.specs.declared.row_index.RowIndex.{RowIndex}
use Rattle.pg_rows.specs.declared.row_index.RowIndex.TheVariants.{At, Name}

-- the first column of exactly this name; where there is none, the first whose name differs in the case of ASCII letters alone
abbrev pub place_by_name : List ℕ → (names : List (List ℕ)) → Option ℕ
place_by_name name names = option_or (position (λ n. bytes_eq n name) names) (position (λ n. str_eq_ignore_ascii_case n name) names)

-- the place of the column that is meant, where the columns have these names; None where none is
abbrev pub place_of : RowIndex → (names : List (List ℕ)) → Option ℕ
place_of (At place) names = if nat_lt place (length names) then Some place else None
place_of (Name name) names = place_by_name name.now names

-- how an index is told: a place in decimal, or the name
abbrev pub index_text : RowIndex → List ℕ
index_text (At place) = decimal place
index_text (Name name) = name.now
