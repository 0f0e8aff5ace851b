-- A text cut at a mark.
use Rattle.std.specs.Prelude.{◌≡◌, ◌≢◌, ◌==◌, ℕ, List, [], ◌∷◌, ◌++◌, Option, Some, None, option_map, if◌then◌else◌}
use Rattle.std.specs.List.{slice_split}

-- the mark isn't in it
abbrev pub Lacks : ℕ → List ℕ → Type 0
Lacks mark [] = Unit {0}
Lacks mark (b ∷ rest) = (b ≢ mark) × Lacks mark rest

-- what stands before the first mark, and what stands behind it; None: there is no mark
abbrev pub IsCut : (mark : ℕ) (text front : List ℕ) (behind : Option (List ℕ)) → Type 0
IsCut mark text front None = Lacks mark front × (text ≡ front)
IsCut mark text front (Some rest) = Lacks mark front × (text ≡ front ++ mark ∷ rest)

-- what stands before the first mark, or the whole text where there is none
abbrev pub before : (mark : ℕ) → List ℕ → List ℕ
before mark [] = []
before mark (b ∷ rest) = if b == mark then [] else b ∷ before mark rest

-- what stands behind the first mark; None: there is no mark
abbrev pub behind : (mark : ℕ) → List ℕ → Option (List ℕ)
behind mark [] = None
behind mark (b ∷ rest) = if b == mark then Some rest else behind mark rest

-- the pieces between the marks
abbrev pub pieces : (mark : ℕ) → List ℕ → List (List ℕ)
pieces mark text = slice_split (λ b. b == mark) text

-- what each of them means; None: one means nothing
abbrev pub all_of : {A : Type 0} → (List ℕ → Option A) → List (List ℕ) → Option (List A)
all_of meaning [] = Some []
all_of meaning (piece ∷ more) = elim (meaning piece) [
  | None ↦ None
  | Some x ↦ option_map (λ xs. x ∷ xs) (all_of meaning more)
]
