-- How far a plan was given, entry by entry.
use Rattle.std.specs.Prelude.{◌≡◌, ℕ, ◌<◌, ◌≤◌, ◌⊎◌, Bool, not, List, [], ◌++◌, length, take, drop, map, count_by, get_or, Vec}
use Rattle.std.specs.List.{concat}
use Rattle.pg_spec.specs.Batches.{is_nothing}
use Rattle.pg_wire.specs.declared.giving.Giving.{Giving}

-- there are bytes in it
abbrev pub has_bytes : List ℕ → Bool
has_bytes entry = not (is_nothing entry)

-- an entry, empty behind the last
abbrev pub entry_of : List (List ℕ) → ℕ → List ℕ
entry_of entries place = get_or entries place []

-- the bytes up to a place in an entry
abbrev pub bytes_before : List (List ℕ) → (entry at : ℕ) → List ℕ
bytes_before entries entry at = concat (take entry entries) ++ take at (entry_of entries entry)

-- the bytes behind those, of the first entries
abbrev pub bytes_due : List (List ℕ) → (turns entry at : ℕ) → List ℕ
bytes_due entries turns entry at = drop (length (bytes_before entries entry at)) (concat (take turns entries))

-- A place stands at the front of an entry or inside it, and it is known how many entries with bytes are left.
pub record IsPlace (entries : List (List ℕ)) (entry at left : ℕ) : Type 0 where
  pub inside : (at ≡ 0) ⊎ (at < length (entry_of entries entry))
  pub count : left ≡ count_by has_bytes (drop entry entries)

-- an empty entry or more were passed by
pub record PassesBy (entries : List (List ℕ)) (from to : ℕ) : Type 0 where
  pub before : bytes_before entries to 0 ≡ bytes_before entries from 0
  pub count : count_by has_bytes (drop to entries) ≡ count_by has_bytes (drop from entries)

-- bytes stand there that are due, or none are
abbrev pub StandsAtDue : List (List ℕ) → (turns entry at : ℕ) → Type 0
StandsAtDue entries turns entry at = (turns ≤ entry) ⊎ ((length entries ≤ entry) ⊎ (at < length (entry_of entries entry)))

-- the entries of a plan
abbrev pub lists : {Z : Type 0} → List (Vec ℕ Z) → List (List ℕ)
lists plan = map (λ entry. entry.items) plan

-- what is given, what was given of it, and what is due once so many turns were given
abbrev pub entries_of : Giving → List (List ℕ)
entries_of giving = lists giving.plan.items

abbrev pub given_of : Giving → List ℕ
given_of giving = bytes_before (entries_of giving) giving.entry giving.at

abbrev pub due_of : ℕ → Giving → List ℕ
due_of turns giving = bytes_due (entries_of giving) turns giving.entry giving.at

-- the place stands in the plan
abbrev pub IsGiving : Giving → Type 0
IsGiving giving = IsPlace (entries_of giving) giving.entry giving.at giving.left

-- the plan is the same, and these bytes more were given
pub record GivesMore (old new : Giving) (bytes : List ℕ) : Type 0 where
  pub plan : entries_of new ≡ entries_of old
  pub given : given_of new ≡ given_of old ++ bytes
  pub place : IsGiving new

-- a front of what was due was given, n bytes: none only where nothing was due
pub record Gave (due : List ℕ) (old new : Giving) (out : List ℕ) (n : ℕ) : Type 0 where
  pub fits : n ≤ length out
  pub enough : n ≤ length due
  pub none : n ≡ 0 → due ≡ []
  pub front : take n out ≡ take n due
  pub given : GivesMore old new (take n due)
