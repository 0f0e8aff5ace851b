-- How the URL form of connection strings is read from its front, over the bytes behind the scheme. What is in
-- it is defined in `Urls`.
use Rattle.std.specs.Prelude.{◌≡◌, ◌==◌, ◌||◌, ℕ, Bool, not, List, [], ◌∷◌, length, drop, Some, None, unwrap_or, Result, Ok, Err, if◌then◌else◌, codes}
use Rattle.std.specs.Str.{byte}
use Rattle.percent_encoding.specs.Percent.{percent_decode}
use Rattle.pg_spec.specs.Faults.{◌>>=◌, Cause, InvalidValue}
use Rattle.pg_config.specs.declared.config.Config.{Config}
use Rattle.pg_config.specs.KeyValueReading.{behind_while, front_while}
use Rattle.pg_config.specs.Numbers.{begins_with}
use Rattle.pg_config.specs.ParameterReading.{Broken, Done, Front, Parameter, Says}
use Rattle.pg_config.specs.Pieces.{before, behind, pieces}
use Rattle.pg_config.specs.Settings.{defaults}
use Rattle.pg_config.specs.Urls.{database_name, in_text, parameter, placed}

-- a user, or a user, a colon and a password
abbrev pub named_user : List ℕ → Config → Result Config Cause
named_user text s = in_text (before (byte ":") text) (λ user. Ok (record s {
  user = Some user;
  password = elim (behind (byte ":") text) [ None ↦ s.password | Some password ↦ Some (percent_decode password) ];
}))

-- the part before the first `@`
abbrev pub login : List ℕ → Config → Result Config Cause
login text s = elim (behind (byte "@") text) [ None ↦ Ok s | Some rest ↦ named_user (before (byte "@") text) s ]

-- what stands behind it
abbrev pub after_login : List ℕ → List ℕ
after_login text = unwrap_or (behind (byte "@") text) text

-- behind a bracket: a host, a bracket, and a colon and a port, or nothing
abbrev pub bracketed : List ℕ → Config → Result Config Cause
bracketed text s = elim (behind (byte "]") text) [
  | None ↦ Err (InvalidValue (codes "host"))
  | Some rest ↦ elim rest [
    | [] ↦ placed (before (byte "]") text) (codes "5432") s
    | c ∷ port ↦ if c == byte ":" then placed (before (byte "]") text) port s else Err (InvalidValue (codes "host"))
  ]
]

-- one host with its port
abbrev pub place : List ℕ → Config → Result Config Cause
place piece s =
    if begins_with (byte "[") piece then bracketed (drop 1 piece) s
    else placed (before (byte ":") piece) (unwrap_or (behind (byte ":") piece) (codes "5432")) s

-- each of the hosts
abbrev pub each_place : List (List ℕ) → Config → Result Config Cause
each_place [] s = Ok s
each_place (piece ∷ more) s = place piece s >>= λ next. each_place more next

-- a byte of the part with the hosts
abbrev pub is_of_hosts : ℕ → Bool
is_of_hosts b = not (b == byte "/" || b == byte "?")

-- the hosts, between commas, if there are any
abbrev pub places : List ℕ → Config → Result Config Cause
places text s = if length text == 0 then Ok s else each_place (pieces (byte ",") text) s

-- behind a slash the database, up to the parameters
abbrev pub database : List ℕ → Config → Result Config Cause
database text s = if begins_with (byte "/") text then database_name (before (byte "?") (drop 1 text)) s else Ok s

-- the hosts, and the database behind them
abbrev pub places_and_database : List ℕ → Config → Result Config Cause
places_and_database text s = places (front_while is_of_hosts text) s >>= database (behind_while is_of_hosts text)

-- the settings of all that stands before the parameters
abbrev pub opening : List ℕ → Config → Result Config Cause
opening text s = login text s >>= places_and_database (after_login text)

-- the parameters, behind a question mark
abbrev pub query : List ℕ → List ℕ
query text = unwrap_or (behind (byte "?") (behind_while is_of_hosts (after_login text))) []

-- a key, `=`, and a value up to `&` or the end
abbrev pub parameter_at : List ℕ → Front
parameter_at [] = Done
parameter_at (b ∷ rest) = elim (behind (byte "=") (b ∷ rest)) [
  | None ↦ Broken
  | Some value ↦ Parameter (before (byte "=") (b ∷ rest)) (before (byte "&") value) (unwrap_or (behind (byte "&") value) [])
]

-- the settings that are read behind the scheme, or the first fault
abbrev pub UrlSays : List ℕ → Result Config Cause → Type 0
UrlSays text said = elim (opening text defaults) [
  | Err fault ↦ said ≡ Err fault
  | Ok s ↦ Says parameter_at parameter (query text) s said
]
