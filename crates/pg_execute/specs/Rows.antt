-- The reply to a query, as rows (PostgreSQL documentation, "Extended Query"; what its messages say, `QueryReplies` of pg_core).
use Rattle.std.specs.Prelude.{ℕ, List, [], ◌∷◌, ◌++◌, length, ◌==◌, nat_le, Bool, true, false, ◌&&◌, Option, Some, None, Result, Err, if◌then◌else◌}
use Rattle.pg_spec.specs.Faults.{RowCount}
use Rattle.pg_spec.specs.RawMessages.{RawMessage}
use Rattle.pg_spec.specs.Readings.{Next, GoesOn, Answers}
use Rattle.pg_types.specs.declared.error.Error.{Error}
use Rattle.pg_core.specs.QueryReplies.{Said, Bound, Row, Complete, Empty, Suspended, Ready, Fails, said_by, told_by}
use Rattle.pg_execute.specs.declared.got.Got.{Got}
use Rattle.pg_execute.specs.declared.how_many.HowMany.{HowMany}
use Rattle.pg_execute.specs.declared.how_many.HowMany.TheVariants.{Any, AtMostOne, One}

-- nothing was read
abbrev pub nothing_got : Got
nothing_got = record { bound = false; rows = []; affected = None }

-- there may be so many rows, and more may come
abbrev pub may_have : HowMany → (rows : ℕ) → Bool
may_have Any rows = true
may_have AtMostOne rows = nat_le rows 1
may_have One rows = nat_le rows 1

-- so many rows are enough
abbrev pub is_enough : HowMany → (rows : ℕ) → Bool
is_enough Any rows = true
is_enough AtMostOne rows = true
is_enough One rows = rows == 1

-- behind a row: one too many is refused
abbrev pub behind_row : {A : Type 0} → HowMany → Got → Next Got (Result A Error)
behind_row how g = if may_have how (length g.rows) then GoesOn g else Answers (Err RowCount)

-- at the end: too few are refused, and else something is made of what was read
abbrev pub at_end : {A : Type 0} → HowMany → (Got → Result A Error) → Got → Result A Error
at_end how makes g = if is_enough how (length g.rows) then makes g else Err RowCount

-- what a message does by what it says
abbrev pub rows_by : {A : Type 0} → HowMany → (Got → Result A Error) → Got → Said → Next Got (Result A Error)
rows_by how makes g Bound = GoesOn (record g { bound = true })
rows_by how makes g (Row cells) = behind_row how (record g { rows = g.rows ++ cells ∷ [] })
rows_by how makes g (Complete n) = GoesOn (record g { affected = Some n })
rows_by how makes g Empty = GoesOn g
rows_by how makes g Suspended = GoesOn g
rows_by how makes g Ready = Answers (at_end how makes g)
rows_by how makes g (Fails e) = Answers (Err e)

-- the reply, where rows have so many columns
abbrev pub rows_read : {A : Type 0} → HowMany → (columns : ℕ) → (Got → Result A Error) → Got → List RawMessage → Option (Result A Error)
rows_read how columns makes = told_by (λ g raw. rows_by how makes g (said_by g.bound columns raw))

-- ---- the first rows

-- so many rows came; of none BindComplete did
abbrev pub has_so_many : (take : ℕ) → Got → Bool
has_so_many take g = g.bound && nat_le take (length g.rows)

-- once so many rows came the reply is left at that: something is made of what was read
abbrev pub up_to : {A : Type 0} → (take : ℕ) → (Got → Result A Error) → Next Got (Result A Error) → Next Got (Result A Error)
up_to take makes (GoesOn g) = if has_so_many take g then Answers (makes g) else GoesOn g
up_to take makes (Answers r) = Answers r

-- what a message does by what it says, where the first rows are read
abbrev pub first_rows_by : {A : Type 0} → (take : ℕ) → HowMany → (Got → Result A Error) → Got → Said → Next Got (Result A Error)
first_rows_by take how makes g said = up_to take (at_end how makes) (rows_by how makes g said)

-- the reply up to so many rows, or to its end where it has fewer
abbrev pub first_rows_read : {A : Type 0} → (take : ℕ) → HowMany → (columns : ℕ) → (Got → Result A Error) → Got → List RawMessage → Option (Result A Error)
first_rows_read take how columns makes = told_by (λ g raw. first_rows_by take how makes g (said_by g.bound columns raw))
