-- The words of a line, which single spaces separate.
use Rattle.std.specs.Prelude.{◌≡◌, ◌≢◌, ℕ, Bool, true, false, List, [], ◌∷◌, ◌++◌, flat_map, Option, Some, None, IsUtf8, codes}
use Rattle.std.specs.List.{AllZip, concat}
use Rattle.pg_spec.specs.SessionText.{IsBytes, IsHex, IsNumber, IsQuoted}
use Rattle.pg_types.specs.declared.value.Value.{Value}
use Rattle.pg_types.specs.declared.value.Value.TheVariants as value
use Rattle.pg_text.specs.SessionText.{IsTarget, IsValue}
use Rattle.pg_text.specs.declared.command.CommandTarget.{CommandTarget}
use Rattle.pg_text.specs.declared.command.CommandTarget.TheVariants as target

-- what is left of a line, where words that aren't read yet stand behind a space
abbrev pub left_text : Option (List ℕ) → List ℕ
left_text None = []
left_text (Some words) = 32 ∷ words

-- A word was taken off the front, of which this is the meaning; where there is none, no such word
-- stands there.
abbrev pub Takes : {A : Type 0} → (A → List ℕ → Type 0) → Option (List ℕ) → Option A → Option (List ℕ) → Type 0
Takes {A} Is old None new = (x : A) (word : List ℕ) (left : Option (List ℕ)) → Is x word → left_text old ≡ 32 ∷ word ++ left_text left → ⊥
Takes {A} Is old (Some x) new = (word : List ℕ) × Is x word × (left_text old ≡ 32 ∷ word ++ left_text new)

-- Of words that stand for something, the one that stands there was taken; None: none stands there, and nothing was taken.
abbrev pub TakesIfThere : {A : Type 0} → (A → List ℕ) → Option (List ℕ) → Option A → Option (List ℕ) → Type 0
TakesIfThere first old None new = Takes (λ x word. word ≡ first x) old None new × (new ≡ old)
TakesIfThere first old (Some x) new = Takes (λ x word. word ≡ first x) old (Some x) new

-- what a whole word means; None: it has no such meaning
abbrev pub Means : {A : Type 0} → (A → List ℕ → Type 0) → List ℕ → Option A → Type 0
Means {A} Is word None = (x : A) → Is x word → ⊥
Means {A} Is word (Some x) = Is x word

-- no space stands in it
abbrev pub NoSpace : List ℕ → Type 0
NoSpace [] = Unit {0}
NoSpace (b ∷ word) = (b ≢ 32) × NoSpace word

-- a word up to the next space
abbrev pub IsWord : List ℕ → List ℕ → Type 0
IsWord x word = (x ≡ word) × NoSpace word

-- bytes in hex, at least one
abbrev pub IsHexWord : List ℕ → List ℕ → Type 0
IsHexWord bytes word = IsHex bytes word × (word ≢ [])

-- a text in quotes that is UTF-8
abbrev pub IsUtf8Quoted : List ℕ → List ℕ → Type 0
IsUtf8Quoted text word = IsUtf8 text × IsQuoted text word

-- a target that isn't a text
abbrev pub IsBareTarget : CommandTarget → List ℕ → Type 0
IsBareTarget (target.Text text) word = ⊥
IsBareTarget other word = IsTarget other word

-- a value that isn't a text
abbrev pub IsBareValue : Value → List ℕ → Type 0
IsBareValue (value.Text text) word = ⊥
IsBareValue other word = IsValue other word

-- `take`, and a number behind a space
abbrev pub IsTake : ℕ → List ℕ → Type 0
IsTake n spelled = (number : List ℕ) × IsNumber 18446744073709551615 n number × (spelled ≡ codes "take" ++ 32 ∷ number)

-- what stands behind a text in quotes is left: the end, or words behind a space
abbrev pub LeavesBehind : List ℕ → Bool → Option (List ℕ) → Type 0
LeavesBehind behind true new = left_text new ≡ behind
LeavesBehind behind false new = (left : Option (List ℕ)) → left_text left ≢ behind

-- the words begin with a quote
abbrev pub BeginsWithQuote : Option (List ℕ) → Type 0
BeginsWithQuote None = ⊥
BeginsWithQuote (Some []) = ⊥
BeginsWithQuote (Some (b ∷ rest)) = b ≡ 34

-- words with a space before each
abbrev pub behind : List (List ℕ) → List ℕ
behind words = flat_map (λ word. 32 ∷ word) words

-- one word stands there and nothing behind it, and this is its meaning; None: it isn't so
abbrev pub OneWord : {A : Type 0} → (A → List ℕ → Type 0) → Option (List ℕ) → Option A → Type 0
OneWord {A} Is old None = (x : A) (word : List ℕ) → Is x word → left_text old ≡ behind (word ∷ []) → ⊥
OneWord {A} Is old (Some x) = (word : List ℕ) × Is x word × (left_text old ≡ behind (word ∷ []))

-- words with these meanings were taken one after another
abbrev pub TookAll : {A : Type 0} → (A → List ℕ → Type 0) → List A → Option (List ℕ) → Option (List ℕ) → Type 0
TookAll Is items old new = (words : List (List ℕ)) × AllZip Is items words × (left_text old ≡ behind words ++ left_text new)

-- all words that stand there have these meanings; None: not all have such a meaning
abbrev pub AllWords : {A : Type 0} → (A → List ℕ → Type 0) → Option (List ℕ) → Option (List A) → Type 0
AllWords {A} Is old None = (items : List A) (words : List (List ℕ)) → AllZip Is items words → left_text old ≡ behind words → ⊥
AllWords {A} Is old (Some items) = (words : List (List ℕ)) × AllZip Is items words × (left_text old ≡ behind words)

-- all words are bytes, and these are they, joined; None: it isn't so
abbrev pub AllBytes : Option (List ℕ) → Option (List ℕ) → Type 0
AllBytes old None = (pieces : List (List ℕ)) (words : List (List ℕ)) → AllZip IsBytes pieces words → left_text old ≡ behind words → ⊥
AllBytes old (Some entry) = (pieces : List (List ℕ)) × (words : List (List ℕ)) × AllZip IsBytes pieces words × (left_text old ≡ behind words) × (entry ≡ concat pieces)

-- a text has these bytes, which are UTF-8; None: they aren't
abbrev pub IsTextOf : List ℕ → Option (List ℕ) → Type 0
IsTextOf bytes None = IsUtf8 bytes → ⊥
IsTextOf bytes (Some text) = (text ≡ bytes) × IsUtf8 bytes
