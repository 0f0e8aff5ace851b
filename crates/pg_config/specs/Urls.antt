-- The URL form of connection strings by its spelling, over the bytes behind the scheme (PostgreSQL
-- documentation, "Connection URIs"; RFC 3986, section 2.1, of the escapes).
use Rattle.std.specs.Prelude.{◌≡◌, ◌≢◌, ◌<◌, ◌⊎◌, ℕ, false, List, [], ◌∷◌, ◌++◌, length, Option, Some, None, unwrap_or, Result, Ok, Err, if◌then◌else◌, codes}
use Rattle.std.specs.Str.{byte, bytes_eq, is_utf8}
use Rattle.percent_encoding.specs.Percent.{percent_decode}
use Rattle.pg_spec.specs.Faults.{◌>>=◌, Cause, InvalidValue, NotText}
use Rattle.pg_config.specs.declared.config.Config.{Config}
use Rattle.pg_config.specs.Numbers.{begins_with}
use Rattle.pg_config.specs.Options.{applies}
use Rattle.pg_config.specs.Parameters.{Means}
use Rattle.pg_config.specs.Pieces.{Lacks}
use Rattle.pg_config.specs.Settings.{defaults, host_of}

-- the text that stands there with its escapes, which must be UTF-8
abbrev pub in_text : {A : Type 0} → List ℕ → (List ℕ → Result A Cause) → Result A Cause
in_text escaped meaning = if is_utf8 (percent_decode escaped) then meaning (percent_decode escaped) else Err NotText

-- a mark and what stands behind it, if it is there
abbrev pub marked : (mark : ℕ) → Option (List ℕ) → List ℕ
marked mark None = []
marked mark (Some text) = mark ∷ text

-- a user, and a password where there is one
pub record Login : Type 0 where
  pub user : List ℕ
  pub password : Option (List ℕ)

-- the text of a login, without the `@` behind it
abbrev pub login_text : Login → List ℕ
login_text l = l.user ++ marked (byte ":") l.password

-- the first `:` is behind the user, and the first `@` is behind the login
pub record IsLogin (l : Login) : Type 0 where
  pub user : Lacks (byte ":") l.user
  pub whole : Lacks (byte "@") (login_text l)

-- a login says the user, decoded, and the password's decoded bytes
abbrev pub login_says : Login → Config → Result Config Cause
login_says l s = in_text l.user (λ user. Ok (record s {
  user = Some user;
  password = elim l.password [ None ↦ s.password | Some password ↦ Some (percent_decode password) ];
}))

-- a host with its port, if it has one: without brackets, in brackets, or with a bracket in front that isn't
-- closed, or behind whose end something else than a port stands
pub data Place : Type 0 where
  Named : (host : List ℕ) (port : Option (List ℕ)) → Place
  Bracketed : (host : List ℕ) (port : Option (List ℕ)) → Place
  Unclosed : (text : List ℕ) → Place

-- its text
abbrev pub place_text : Place → List ℕ
place_text (Named host port) = host ++ marked (byte ":") port
place_text (Bracketed host port) = byte "[" ∷ host ++ byte "]" ∷ marked (byte ":") port
place_text (Unclosed text) = byte "[" ∷ text

-- a host without brackets has none in front and ends at the first `:`; one in brackets ends at the first
-- `]`; what isn't closed is no text of a host in brackets
abbrev pub IsPlace : Place → Type 0
IsPlace (Named host port) = Lacks (byte ":") host × (begins_with (byte "[") (place_text (Named host port)) ≡ false)
IsPlace (Bracketed host port) = Lacks (byte "]") host
IsPlace (Unclosed text) = (host : List ℕ) (port : Option (List ℕ)) → Lacks (byte "]") host →
    text ≢ host ++ byte "]" ∷ marked (byte ":") port

-- a host and a port, both decoded
abbrev pub placed : (host port : List ℕ) → Config → Result Config Cause
placed host port s = in_text host (λ name. in_text port (λ number.
    applies (codes "port") number (record s { hosts = s.hosts ++ host_of name ∷ [] })))

-- a place says a host and a port, which is 5432 where there is none; a fault at a bracket is one of the
-- option `host`
abbrev pub place_says : Place → Config → Result Config Cause
place_says (Named host port) s = placed host (unwrap_or port (codes "5432")) s
place_says (Bracketed host port) s = placed host (unwrap_or port (codes "5432")) s
place_says (Unclosed text) s = Err (InvalidValue (codes "host"))

-- places with commas between them
abbrev pub places_text : List Place → List ℕ
places_text [] = []
places_text (p ∷ []) = place_text p
places_text (p ∷ q ∷ places) = place_text p ++ byte "," ∷ places_text (q ∷ places)

-- each is a place, and no comma is in it
abbrev pub ArePlaces : List Place → Type 0
ArePlaces [] = Unit {0}
ArePlaces (p ∷ places) = IsPlace p × Lacks (byte ",") (place_text p) × ArePlaces places

-- where there are places, their text isn't empty: an empty text has no place
abbrev pub HasText : List Place → Type 0
HasText [] = Unit {0}
HasText (p ∷ places) = 0 < length (places_text (p ∷ places))

-- they say what each of them says, in their order
abbrev pub places_say : List Place → Config → Result Config Cause
places_say [] s = Ok s
places_say (p ∷ places) s = place_says p s >>= places_say places

-- the database's name, decoded; empty: it is not set
abbrev pub database_name : List ℕ → Config → Result Config Cause
database_name [] s = Ok s
database_name (b ∷ more) s = in_text (b ∷ more) (λ name. Ok (record s { dbname = Some name }))

-- the database, if it is there
abbrev pub database_says : Option (List ℕ) → Config → Result Config Cause
database_says None s = Ok s
database_says (Some name) s = database_name name s

-- a URL behind its scheme
pub record Url : Type 0 where
  pub login : Option Login
  pub places : List Place
  pub database : Option (List ℕ)
  pub parameters : Option (List ℕ)

-- what stands behind the login
abbrev pub rest_text : Url → List ℕ
rest_text u = places_text u.places ++ (marked (byte "/") u.database ++ marked (byte "?") u.parameters)

-- a login and an `@`, if there is one, places, a slash and the database, and a question mark and the
-- parameters
abbrev pub url_text : Url → List ℕ
url_text u = elim u.login [ None ↦ rest_text u | Some l ↦ login_text l ++ byte "@" ∷ rest_text u ]

-- there is a login, or no `@`
abbrev pub HasLogin : Option Login → (rest : List ℕ) → Type 0
HasLogin None rest = Lacks (byte "@") rest
HasLogin (Some l) rest = IsLogin l

-- there is no database, or no `?` in its name
abbrev pub IsDatabase : Option (List ℕ) → Type 0
IsDatabase None = Unit {0}
IsDatabase (Some name) = Lacks (byte "?") name

-- each part ends at the first of its marks
pub record IsUrl (u : Url) : Type 0 where
  pub login : HasLogin u.login (rest_text u)
  pub places : ArePlaces u.places
  pub has_text : HasText u.places
  pub no_slash : Lacks (byte "/") (places_text u.places)
  pub no_question : Lacks (byte "?") (places_text u.places)
  pub database : IsDatabase u.database

-- what the login, if there is one, says
abbrev pub maybe_login_says : Option Login → Config → Result Config Cause
maybe_login_says None s = Ok s
maybe_login_says (Some l) s = login_says l s

-- what stands before the parameters says the settings, part by part
abbrev pub opening_says : Url → Config → Result Config Cause
opening_says u s = maybe_login_says u.login s >>= λ named. places_say u.places named >>= database_says u.database

-- a key up to the first `=`, and a value up to the first `&`, or up to the end
pub record IsUrlParameter (key value rest text : List ℕ) : Type 0 where
  pub key_ends : Lacks (byte "=") key
  pub value_ends : Lacks (byte "&") value
  pub text_is : ((text ≡ key ++ byte "=" ∷ value) × (rest ≡ [])) ⊎ (text ≡ key ++ byte "=" ∷ (value ++ byte "&" ∷ rest))

-- nothing more
abbrev pub IsUrlEnd : List ℕ → Type 0
IsUrlEnd text = text ≡ []

-- what a parameter means, key and value decoded: a host is one host, also where a comma stands in it
abbrev pub parameter : (key value : List ℕ) → Config → Result Config Cause
parameter key value s = in_text key (λ name. in_text value (λ text.
    if bytes_eq name (codes "host") then Ok (record s { hosts = s.hosts ++ host_of text ∷ [] }) else applies name text s))

-- the URL means these settings, or has this first fault, in its opening or in its parameters
abbrev pub UrlMeans : List ℕ → Result Config Cause → Type 0
UrlMeans text said = (u : Url) × IsUrl u × (text ≡ url_text u) × (elim (opening_says u defaults) [
  | Err fault ↦ said ≡ Err fault
  | Ok s ↦ Means IsUrlParameter IsUrlEnd parameter (unwrap_or u.parameters []) s said
])
