-- How the key-value form of connection strings is read from its front, over characters. What is in it is
-- defined in `KeyValue`.
use Rattle.std.specs.Prelude.{◌==◌, ℕ, Bool, true, false, List, [], ◌∷◌, ◌++◌, length, drop, Result, if◌then◌else◌}
use Rattle.std.specs.Char.{encode_utf8, is_whitespace}
use Rattle.std.specs.Str.{byte, encode_utf8_all}
use Rattle.pg_spec.specs.Faults.{Cause}
use Rattle.pg_config.specs.declared.config.Config.{Config}
use Rattle.pg_config.specs.KeyValue.{ends_value, is_key_character}
use Rattle.pg_config.specs.Numbers.{begins_with}
use Rattle.pg_config.specs.Options.{applies}
use Rattle.pg_config.specs.ParameterReading.{Broken, Done, Front, Parameter, Says}
use Rattle.pg_config.specs.Settings.{defaults}

-- the longest front whose characters all meet p
abbrev pub front_while : (ℕ → Bool) → List ℕ → List ℕ
front_while p [] = []
front_while p (c ∷ rest) = if p c then c ∷ front_while p rest else []

-- what stands behind that front
abbrev pub behind_while : (ℕ → Bool) → List ℕ → List ℕ
behind_while p [] = []
behind_while p (c ∷ rest) = if p c then behind_while p rest else c ∷ rest

-- white space, or a key
abbrev pub is_in_run : (key : Bool) → ℕ → Bool
is_in_run true c = is_key_character c
is_in_run false c = is_whitespace c

-- a value's bytes, and what stands behind it, from its end on
pub record Value : Type 0 where
  pub bytes : List ℕ
  pub behind : List ℕ

-- a character in front of a value
abbrev pub in_value : ℕ → Value → Value
in_value c value = record { bytes = encode_utf8 c ++ value.bytes; behind = value.behind }

-- a value: a backslash takes the next character as it is, and is dropped where there is none
abbrev pub value_at : (quoted escaped : Bool) → List ℕ → Value
value_at quoted escaped [] = record { bytes = []; behind = [] }
value_at quoted true (c ∷ rest) = in_value c (value_at quoted false rest)
value_at quoted false (c ∷ rest) =
    if ends_value quoted c then record { bytes = []; behind = c ∷ rest }
    else if c == byte "\\" then value_at quoted true rest
    else in_value c (value_at quoted false rest)

-- the value that stands in front, behind its key
abbrev pub valued : (key : List ℕ) → List ℕ → Front
valued key text =
    if begins_with (byte "'") text then
    (let value = value_at true false (drop 1 text) in
    if begins_with (byte "'") value.behind then Parameter key value.bytes (drop 1 value.behind) else Broken)
    else
    (let value = value_at false false text in elim value.bytes [ [] ↦ Broken | b ∷ more ↦ Parameter key value.bytes value.behind ])

-- behind a key `=`, white space and a value; no key: the end
abbrev pub keyed : (key : List ℕ) → List ℕ → Front
keyed key text =
    if length key == 0 then Done
    else if begins_with (byte "=") text then valued (encode_utf8_all key) (behind_while is_whitespace (drop 1 text))
    else Broken

-- a key, white space, and what goes on so
abbrev pub key_at : List ℕ → Front
key_at text = keyed (front_while is_key_character text) (behind_while is_whitespace (behind_while is_key_character text))

-- white space, and what stands behind it
abbrev pub front_of : List ℕ → Front
front_of text = key_at (behind_while is_whitespace text)

-- the settings that are read, or the first fault
abbrev pub KeyValuesSay : List ℕ → Result Config Cause → Type 0
KeyValuesSay text said = Says front_of applies text defaults said
