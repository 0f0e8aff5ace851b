-- The limit of a session text fits 63 bits.
use Rattle.std.proofs.Common.{◌≡◌, ℕ, ◌^◌, ◌<◌, Bool, true, false, cond, List, [], ◌∷◌, filter, Option, Some, None, subst, arith}
use Rattle.std.specs.Prelude.{filter_map}
use Rattle.std.specs.List.{AllByRecursion, AllZip, cons_option}
use Rattle.pg_spec.specs.SessionText.{one_or}
use Rattle.pg_text.specs.SessionText.{Line, Nothing, ConfigLine, NonceLine, EndLine, LimitLine, TurnsLine, HandleLine, StepLine, CutLine, CommandLine, Spells, SessionText, IsSessionText, is_said, limit_of}

-- a number, if it is one, fits
abbrev IsWithin : Option ℕ → Type 0
IsWithin None = Unit {0}
IsWithin (Some n) = n < 2 ^ 63

-- so does that of a line
abbrev HasLimit : Line → Type 0
HasLimit line = IsWithin (limit_of line)

within_line : (line : Line) (spelled : List ℕ) → Spells line spelled → HasLimit line
within_line Nothing spelled is = tt
within_line (ConfigLine text) spelled is = tt
within_line (NonceLine nonce) spelled is = tt
within_line EndLine spelled is = tt
within_line (LimitLine n) spelled is = omega (arith, is.1.2)
within_line (TurnsLine turns) spelled is = tt
within_line HandleLine spelled is = tt
within_line (StepLine pieces) spelled is = tt
within_line (CutLine n) spelled is = tt
within_line (CommandLine command) spelled is = tt

within_lines : (lines : List Line) (spelled : List (List ℕ)) → AllZip Spells lines spelled → AllByRecursion HasLimit lines
within_lines [] [] each = tt
within_lines [] (text ∷ spelled) each = tt
within_lines (line ∷ lines) [] each = absurd each
within_lines (line ∷ lines) (text ∷ spelled) each = (within_line line text each.0, within_lines lines spelled each.1)

-- those that say something
kept_if : (kept : Bool) (line : Line) (lines : List Line) → HasLimit line → AllByRecursion HasLimit lines → AllByRecursion HasLimit (cond kept (line ∷ lines) lines)
kept_if true line lines has each = (has, each)
kept_if false line lines has each = each

within_said : (lines : List Line) → AllByRecursion HasLimit lines → AllByRecursion HasLimit (filter is_said lines)
within_said [] each = tt
within_said (line ∷ lines) each = kept_if (is_said line) line (filter is_said lines) each.0 (within_said lines each.1)

-- their numbers
one_more : (number : Option ℕ) (numbers : List ℕ) → IsWithin number → AllByRecursion (λ n. n < 2 ^ 63) numbers → AllByRecursion (λ n. n < 2 ^ 63) (cons_option number numbers)
one_more None numbers fits each = each
one_more (Some n) numbers fits each = (fits, each)

within_numbers : (lines : List Line) → AllByRecursion HasLimit lines → AllByRecursion (λ n. n < 2 ^ 63) (filter_map limit_of lines)
within_numbers [] each = tt
within_numbers (line ∷ lines) each = one_more (limit_of line) (filter_map limit_of lines) each.0 (within_numbers lines each.1)

-- the one number, or the default
within_one : (numbers : List ℕ) (n : ℕ) → AllByRecursion (λ m. m < 2 ^ 63) numbers → one_or 16777216 numbers ≡ Some n → n < 2 ^ 63
within_one [] n each e = let same : 16777216 ≡ n = cc e in omega (arith, same)
within_one (m ∷ []) n each e = let same : m ≡ n = cc e in omega (arith, same, each.0)
within_one (m ∷ k ∷ numbers) n each e = cc e

pub limit_within : (bytes : List ℕ) (text : SessionText) → IsSessionText bytes text → text.limit < 2 ^ 63
limit_within bytes text is =
    let said = within_said is.lines (within_lines is.lines is.spelled is.each) in
    let front = subst (λ (lines : List Line). AllByRecursion HasLimit lines) is.say.first said in
    within_one _ text.limit (within_numbers is.say.others front.1) is.say.limit
