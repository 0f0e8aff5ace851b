-- How many steps a search takes at most between two messages, where each script that asks the catalog takes at most so many.
use Rattle.std.specs.Prelude.{ℕ, zero, suc, ◌+◌, ◌-◌, ◌*◌, List, [], ◌∷◌, length}
use Rattle.pg_search.specs.declared.frame.Frame.{Frame}
use Rattle.pg_search.specs.declared.frame.Frame.TheVariants.{Wrapped, Part}
use Rattle.pg_search.specs.declared.stack.Stack.{Stack}
use Rattle.pg_search.specs.declared.stack.Next.{Next}
use Rattle.pg_search.specs.declared.stack.Next.TheVariants.{Asks, Keeps, Ends}
use Rattle.pg_search.specs.declared.stack.Turn.{Turn}
use Rattle.pg_search.specs.declared.stack.Turn.TheVariants.{Finds, Goes}

-- a composite has at most so many fields
abbrev pub most_fields : ℕ
most_fields = 1048576

-- to find a type where so many more may be in progress: a question, its row, and its labels or its fields
unfoldable pub finding_steps : (most : ℕ) → (more : ℕ) → ℕ
finding_steps most zero = 1
finding_steps most (suc more) = 2 + most + most + most_fields * finding_steps most more

-- above a row, where so many more may be in progress
abbrev pub row_steps : (most : ℕ) → (more : ℕ) → ℕ
row_steps most more = 1 + most + most_fields * finding_steps most more

-- the rows of fields that are left there
abbrev pub rows_left : Frame → ℕ
rows_left (Wrapped oid row wrap) = 0
rows_left (Part c name) = length c.left.items

-- for all that waits
abbrev pub frames_steps : (most : ℕ) → List Frame → ℕ
frames_steps most [] = 0
frames_steps most (f ∷ fs) = 1 + rows_left f * finding_steps most (64 - suc (length fs)) + frames_steps most fs

-- for the whole stack
unfoldable pub stack_steps : (most : ℕ) → Stack → ℕ
stack_steps most s = frames_steps most s.frames.items + length s.left.items * finding_steps most 64

-- so many more may be in progress above the stack
unfoldable pub more_at : Stack → ℕ
more_at s = 64 - length s.frames.items

-- so many more may be above one more
unfoldable pub more_over : Stack → ℕ
more_over s = 64 - suc (length s.frames.items)

-- where the search does this next
abbrev pub next_steps : (most : ℕ) → Stack → Next → ℕ
next_steps most s (Asks oid) = finding_steps most (more_at s) + stack_steps most s
next_steps most s (Keeps oid ty) = 1 + stack_steps most s
next_steps most s (Ends r) = 0

-- the same, where a type may have to be found first
abbrev pub turn_steps : (most : ℕ) → Stack → Turn → ℕ
turn_steps most s (Finds oid) = finding_steps most (more_at s) + stack_steps most s
turn_steps most s (Goes next) = next_steps most s next
