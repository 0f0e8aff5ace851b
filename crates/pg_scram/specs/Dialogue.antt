-- What the states of a SCRAM dialogue hold.
use Rattle.std.specs.Prelude.{◌≡◌, ℕ, List, Result, Ok, Err}
use Rattle.pg_spec.specs.Faults as spec
use Rattle.pg_spec.specs.Passwords.{ClientFinal}
use Rattle.pg_types.specs.declared.cause.ScramFault.{ScramFault}
use Rattle.pg_scram.specs.declared.binding.ChannelBinding.{ChannelBinding}
use Rattle.pg_scram.specs.declared.sasl.ScramSha256.{ScramSha256}
use Rattle.pg_scram.specs.declared.sasl.ScramSha256Final.{ScramSha256Final}
use Rattle.pg_scram.specs.Bindings.{binding_of}
use Rattle.pg_spec.specs.Bindings.{client_first, client_final_of}
use Rattle.pg_scram.specs.Faults.{Refuses}

-- the state with the client's first message
pub record IsOpened (password : List ℕ) (binding : ChannelBinding) (nonce : List ℕ) (scram : ScramSha256) : Type 0 where
  pub password_kept : scram.password ≡ password
  pub binding_kept : scram.binding ≡ binding
  pub nonce_kept : scram.nonce ≡ nonce
  pub first : scram.message ≡ client_first (binding_of binding) nonce

-- what the state makes of the server's first message
abbrev pub reply_of : ScramSha256 → List ℕ → Result ClientFinal spec.ScramFault
reply_of scram server_first = client_final_of (binding_of scram.binding) scram.password scram.nonce server_first

-- what the state with the client's last message holds
abbrev pub final_of : ScramSha256Final → ClientFinal
final_of final = record { message = final.message; signature = final.signature }

-- a reply is made as the definition has it, and refused as it has it
abbrev pub RepliesAs : Result ScramSha256Final ScramFault → Result ClientFinal spec.ScramFault → Type 0
RepliesAs (Ok final) answer = answer ≡ Ok (final_of final)
RepliesAs (Err fault) answer = Refuses fault answer
