-- The server's first message as it is spelled (RFC 5802, section 7: server-first-message), without extensions.
use Rattle.std.specs.Prelude.{◌≡◌, ℕ, ◌^◌, ◌<◌, ◌≤◌, true, List, ◌++◌, length, nat_eq, codes}
use Rattle.std.specs.List.{list_all, starts_with}
use Rattle.std.specs.Str.{all_ascii_digits}
use Rattle.std.specs.Str.Parse.{digits_value}
use Rattle.base64.specs.GeneralPurpose.{IsBytes}
use Rattle.pg_spec.specs.Passwords.{ServerFirst, base64, is_nonce_byte}

-- the message is a challenge to this client's nonce, and says this
pub record Spells (client_nonce message : List ℕ) (server : ServerFirst) : Type 0 where
  -- the count, as it is written
  pub digits : List ℕ
  pub text : message ≡ codes "r=" ++ server.nonce ++ codes ",s=" ++ base64 server.salt ++ codes ",i=" ++ digits
  pub printable : list_all is_nonce_byte server.nonce ≡ true
  pub extended : starts_with nat_eq server.nonce client_nonce ≡ true
  pub salt : IsBytes server.salt
  pub decimal : all_ascii_digits digits ≡ true
  pub some : 0 < length digits
  pub count : digits_value 10 digits ≡ server.iterations
  pub at_least_one : 1 ≤ server.iterations
  pub fits : server.iterations < 2 ^ 32
