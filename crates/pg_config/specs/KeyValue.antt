-- The key-value form of connection strings by its spelling, over characters (PostgreSQL documentation,
-- "Keyword/Value Connection Strings").
use Rattle.std.specs.Prelude.{◌≡◌, ◌≢◌, ◌==◌, ◌&&◌, ◌⊎◌, ℕ, Bool, true, false, not, List, [], ◌∷◌, ◌++◌, map, Result}
use Rattle.std.specs.Char.{is_whitespace}
use Rattle.std.specs.List.{AllByRecursion, flat_map}
use Rattle.std.specs.Str.{byte, encode_utf8_all}
use Rattle.pg_spec.specs.Faults.{Cause}
use Rattle.pg_config.specs.declared.config.Config.{Config}
use Rattle.pg_config.specs.Options.{applies}
use Rattle.pg_config.specs.Parameters.{Means}
use Rattle.pg_config.specs.Settings.{defaults}

-- white space, or nothing
abbrev pub IsSpace : List ℕ → Type 0
IsSpace text = AllByRecursion (λ c. is_whitespace c ≡ true) text

-- a character of a key
abbrev pub is_key_character : ℕ → Bool
is_key_character c = not (is_whitespace c) && not (c == byte "=")

-- a key: one character or more, none of them white space or `=`
abbrev pub IsKey : List ℕ → Type 0
IsKey [] = ⊥
IsKey (c ∷ more) = AllByRecursion (λ k. is_key_character k ≡ true) (c ∷ more)

-- a character of a value, as it is or behind a backslash
pub data Item : Type 0 where
  Plain : ℕ → Item
  Escaped : ℕ → Item

-- how it is written
abbrev pub item_text : Item → List ℕ
item_text (Plain c) = c ∷ []
item_text (Escaped c) = byte "\\" ∷ c ∷ []

-- the character that it stands for
abbrev pub item_character : Item → ℕ
item_character (Plain c) = c
item_character (Escaped c) = c

-- how the characters of a value are written
abbrev pub items_text : List Item → List ℕ
items_text items = flat_map item_text items

-- the bytes that they stand for
abbrev pub items_bytes : List Item → List ℕ
items_bytes items = encode_utf8_all (map item_character items)

-- where a value ends: at a quote, or at white space
abbrev pub ends_value : (quoted : Bool) → ℕ → Bool
ends_value true c = c == byte "'"
ends_value false c = is_whitespace c

-- what stands as it is is neither a backslash nor what ends the value: a quote in quotes, white space
-- elsewhere
abbrev pub IsItem : (quoted : Bool) → Item → Type 0
IsItem quoted (Plain c) = (ends_value quoted c ≡ false) × (c ≢ byte "\\")
IsItem quoted (Escaped c) = Unit {0}

-- a value as it is written: in quotes, without, or without and with a backslash behind it
pub data Written : Type 0 where
  Quoted : List Item → Written
  Bare : List Item → Written
  Cut : List Item → Written

-- its text
abbrev pub written_text : Written → List ℕ
written_text (Quoted items) = byte "'" ∷ items_text items ++ byte "'" ∷ []
written_text (Bare items) = items_text items
written_text (Cut items) = items_text items ++ byte "\\" ∷ []

-- the characters of it
abbrev pub written_items : Written → List Item
written_items (Quoted items) = items
written_items (Bare items) = items
written_items (Cut items) = items

-- a first character, which is no quote as it is
abbrev pub OpensBare : List Item → Type 0
OpensBare [] = ⊥
OpensBare (Plain c ∷ items) = c ≢ byte "'"
OpensBare (Escaped c ∷ items) = Unit {0}

-- nothing, or white space first
abbrev pub IsApart : List ℕ → Type 0
IsApart [] = Unit {0}
IsApart (c ∷ rest) = is_whitespace c ≡ true

-- a value that may stand before this rest: without quotes it isn't empty and ends at white space or at the
-- end of the text, which alone may follow a backslash that stands for nothing
abbrev pub IsWritten : Written → (rest : List ℕ) → Type 0
IsWritten (Quoted items) rest = AllByRecursion (IsItem true) items
IsWritten (Bare items) rest = AllByRecursion (IsItem false) items × OpensBare items × IsApart rest
IsWritten (Cut items) rest = AllByRecursion (IsItem false) items × OpensBare items × (rest ≡ [])

-- a key and a value as they are written, with the white space before the key and around the `=`
pub record Pair : Type 0 where
  pub space : List ℕ
  pub key : List ℕ
  pub left : List ℕ
  pub right : List ℕ
  pub value : Written

-- its text
abbrev pub pair_text : Pair → List ℕ
pair_text p = p.space ++ p.key ++ p.left ++ byte "=" ∷ p.right ++ written_text p.value

-- it may stand before this rest
pub record IsPair (p : Pair) (rest : List ℕ) : Type 0 where
  pub space : IsSpace p.space
  pub key : IsKey p.key
  pub left : IsSpace p.left
  pub right : IsSpace p.right
  pub value : IsWritten p.value rest

-- the text is a parameter with this key and value, and then the rest
pub record IsParameter (key value rest text : List ℕ) : Type 0 where
  pub pair : Pair
  pub is_pair : IsPair pair rest
  pub key_is : key ≡ encode_utf8_all pair.key
  pub value_is : value ≡ items_bytes (written_items pair.value)
  pub text_is : text ≡ pair_text pair ++ rest

-- white space, and then nothing, or a `=` without a key, behind which anything may stand
abbrev pub IsEnd : List ℕ → Type 0
IsEnd text = (space : List ℕ) × IsSpace space × ((text ≡ space) ⊎ ((rest : List ℕ) × (text ≡ space ++ byte "=" ∷ rest)))

-- the characters mean these settings, or have this first fault
abbrev pub KeyValuesMean : List ℕ → Result Config Cause → Type 0
KeyValuesMean text said = Means IsParameter IsEnd applies text defaults said
