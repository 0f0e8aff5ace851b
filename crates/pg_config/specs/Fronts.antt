-- What the code reads in front stands for what stands there.
use Rattle.std.specs.Prelude.{◌≡◌, ◌==◌, ◌&&◌, ◌≤◌, ◌<◌, ℕ, Bool, false, not, List, length, drop, string_bytes}
use Rattle.std.specs.Str.{byte}
use Rattle.pg_config.specs.declared.key_value.Front.{Front}
use Rattle.pg_config.specs.declared.key_value.Front.TheVariants as code
use Rattle.pg_config.specs.declared.key_value.Value.{Value}
use Rattle.pg_config.specs.KeyValueReading.{value_at}
use Rattle.pg_config.specs.ParameterReading as spec

-- what stands in front
abbrev pub front_view : Front → spec.Front
front_view code.Done = spec.Done
front_view code.Broken = spec.Broken
front_view (code.Parameter key value rest) = spec.Parameter (string_bytes key) (string_bytes value) rest.now

-- less than so many characters are left behind it
abbrev pub LeavesBelow : ℕ → Front → Type 0
LeavesBelow n (code.Parameter key value rest) = length rest.now < n
LeavesBelow n front = Unit {0}

-- the next character begins an escape
abbrev pub escapes : (escaped : Bool) → ℕ → Bool
escapes escaped c = not escaped && c == byte "\\"

-- a value was read, and so many characters of the text
pub record IsValueAt (quoted : Bool) (text : List ℕ) (value : Value) : Type 0 where
  pub bytes : string_bytes value.text ≡ (value_at quoted false text).bytes
  pub behind : drop value.used text ≡ (value_at quoted false text).behind
  pub within : value.used ≤ length text
