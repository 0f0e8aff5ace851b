-- The words of the program.
use Rattle.std.specs.Prelude.{◌≡◌, ◌≢◌, ◌≤◌, ℕ, List, [], ◌∷◌, Option, Some, None, codes}
use Rattle.pg_spec.specs.SessionText.{IsNumber}
use Rattle.pg_tool.specs.declared.numbers.Numbers.{Numbers}
use Rattle.pg_tool.specs.declared.over.Over.{Over}
use Rattle.pg_tool.specs.declared.over.Over.TheVariants as over

-- the words that play a session text over its own link
abbrev pub play : List (List ℕ)
play = codes "play" ∷ []

-- over the link handed in, with the names of its file and of the report's
abbrev pub IsPipe : List (List ℕ) → Type 0
IsPipe words = (file : List ℕ) × (report : List ℕ) × (words ≡ codes "pipe" ∷ file ∷ report ∷ [])

-- the words ask for that link
abbrev pub Asks : List (List ℕ) → Over → Type 0
Asks words over.Own = words ≡ play
Asks words over.Handed = IsPipe words

-- or for none
abbrev pub AsksOver : List (List ℕ) → Option Over → Type 0
AsksOver words (Some which) = Asks words which
AsksOver words None = (words ≢ play) × (IsPipe words → ⊥)

-- two texts spell how many commands a generated session has, and its seed
abbrev pub SpellNumbers : (commands seed : List ℕ) → Numbers → Type 0
SpellNumbers commands seed x = IsNumber 100000 x.commands commands × (1 ≤ x.commands) × IsNumber 4294967295 x.seed seed

-- the two texts spell these numbers, or none
abbrev pub AreNumbers : (commands seed : List ℕ) → Option Numbers → Type 0
AreNumbers commands seed (Some x) = SpellNumbers commands seed x
AreNumbers commands seed None = (x : Numbers) → SpellNumbers commands seed x → ⊥

-- the same behind the word `gen`
abbrev pub AreSpelled : (word commands seed : List ℕ) → Option Numbers → Type 0
AreSpelled word commands seed (Some x) = (word ≡ codes "gen") × SpellNumbers commands seed x
AreSpelled word commands seed None = (x : Numbers) → word ≡ codes "gen" → SpellNumbers commands seed x → ⊥

-- the words that play a generated session
abbrev pub IsGen : List (List ℕ) → Numbers → Type 0
IsGen words x = (commands : List ℕ) × (seed : List ℕ) × (words ≡ codes "gen" ∷ commands ∷ seed ∷ []) × SpellNumbers commands seed x

-- the words ask for these numbers, or for none
abbrev pub AsksNumbers : List (List ℕ) → Option Numbers → Type 0
AsksNumbers words (Some x) = IsGen words x
AsksNumbers words None = (x : Numbers) → IsGen words x → ⊥

-- the words are none of the program's
abbrev pub AreOthers : List (List ℕ) → Type 0
AreOthers words = AsksOver words None × AsksNumbers words None
