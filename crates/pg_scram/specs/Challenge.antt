-- The server's first message, by the steps of its checks (RFC 5802, section 7).
use Rattle.std.specs.Prelude.{◌≡◌, ℕ, ◌==◌, true, List, [], ◌∷◌, Option, Some, None, Result, Ok, Err}
use Rattle.std.specs.List.{slice_split}
use Rattle.std.specs.Str.{byte, all_ascii_digits}
use Rattle.pg_spec.specs.Faults as spec
use Rattle.pg_spec.specs.Passwords.{ServerFirst, judged, server_first_of}
use Rattle.pg_types.specs.declared.cause.ScramFault.{ScramFault}
use Rattle.pg_scram.specs.declared.challenge.Challenge.{Challenge}
use Rattle.pg_scram.specs.declared.challenge.Form.{Form}
use Rattle.pg_scram.specs.Faults.{Refuses}

-- what commas cut apart
abbrev pub fields_of : List ℕ → List (List ℕ)
fields_of = slice_split (λ c. c == byte ",")

-- three fields and no more
abbrev pub three_of : List (List ℕ) → Option (List ℕ × (List ℕ × List ℕ))
three_of (a ∷ b ∷ c ∷ []) = Some (a, (b, c))
three_of fields = None

-- the form of a server's first message, or that it has none
abbrev pub ReadsForm : List ℕ → Option Form → Type 0
ReadsForm message None = (client_nonce : List ℕ) → server_first_of client_nonce message ≡ Err spec.BadMessage
ReadsForm message (Some form) =
    ((client_nonce : List ℕ) → server_first_of client_nonce message ≡ judged client_nonce form.nonce.now form.salt.now form.digits.now)
    × (all_ascii_digits form.digits.now ≡ true)

-- what a challenge says
abbrev pub server_first : Challenge → ServerFirst
server_first challenge = record {
  nonce = challenge.nonce.now;
  salt = challenge.salt.items;
  iterations = challenge.iterations;
}

-- a challenge is read as the definition has it, and refused as it has it
abbrev pub ReadsAs : Result Challenge ScramFault → Result ServerFirst spec.ScramFault → Type 0
ReadsAs (Ok challenge) answer = answer ≡ Ok (server_first challenge)
ReadsAs (Err fault) answer = Refuses fault answer
