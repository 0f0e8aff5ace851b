-- What is kept of the server's parameter reports.
use Rattle.std.specs.Prelude.{ℕ, List, Option, fold}
use Rattle.std.specs.BTreeMap.{insert_entry}
use Rattle.std.specs.Map.{lookup}
use Rattle.std.specs.Cmp.Lexicographic.{slice_cmp}
use Rattle.std.specs.Ordering.{nat_cmp, is_eq}

-- names and values with one report more: in the place of its name, by the name's bytes
abbrev pub keep : List (List ℕ × List ℕ) → List ℕ × List ℕ → List (List ℕ × List ℕ)
keep pairs report = insert_entry (slice_cmp nat_cmp) pairs report.0 report.1

-- the same with all of the reports, in order
abbrev pub keep_all : List (List ℕ × List ℕ) → List (List ℕ × List ℕ) → List (List ℕ × List ℕ)
keep_all pairs reports = fold keep pairs reports

-- the value that is kept for a name
abbrev pub value_of : List (List ℕ × List ℕ) → List ℕ → Option (List ℕ)
value_of pairs name = lookup (λ kept. is_eq (slice_cmp nat_cmp name kept)) pairs
