-- The messages of SCRAM under a channel binding (RFC 5802, section 6 and section 7; RFC 5929, section 4).
use Rattle.std.specs.Prelude.{ℕ, List, [], ◌++◌, Result, Ok, codes}
use Rattle.pg_spec.specs.Faults.{◌>>=◌, ScramFault}
use Rattle.pg_spec.specs.Passwords.{ClientFinal, client_first_bare, client_proof, server_first_of, server_signature, hi, base64}

-- how the dialogue is bound to its channel: the client has nothing to bind it by, the server doesn't offer
-- it, or by the hash of the server's certificate
pub data Binding : Type 0 where
  Unsupported : Binding
  Unrequested : Binding
  ServerEndPoint : (hash : List ℕ) → Binding

-- gs2-header, without an authorization identity
abbrev pub gs2_header : Binding → List ℕ
gs2_header Unsupported = codes "n,,"
gs2_header Unrequested = codes "y,,"
gs2_header (ServerEndPoint hash) = codes "p=tls-server-end-point,,"

-- cbind-data
abbrev pub binding_data : Binding → List ℕ
binding_data (ServerEndPoint hash) = hash
binding_data other = []

-- client-first-message, with the header that says how the channel is bound
abbrev pub client_first : Binding → (nonce : List ℕ) → List ℕ
client_first binding nonce = gs2_header binding ++ client_first_bare nonce

-- client-final-message-without-proof: the header and what the channel is bound by (RFC 5802, section 7:
-- cbind-input), and the whole nonce
abbrev pub client_final_bare : Binding → (nonce : List ℕ) → List ℕ
client_final_bare binding nonce = codes "c=" ++ base64 (gs2_header binding ++ binding_data binding) ++ codes ",r=" ++ nonce

-- AuthMessage (RFC 5802, section 3)
abbrev pub auth_message : (client_nonce server_first final_bare : List ℕ) → List ℕ
auth_message client_nonce server_first final_bare =
    client_first_bare client_nonce ++ codes "," ++ server_first ++ codes "," ++ final_bare

-- client-final-message
abbrev pub with_proof : (final_bare proof : List ℕ) → List ℕ
with_proof final_bare proof = final_bare ++ codes ",p=" ++ base64 proof

-- client-final-message, and the signature that the server must give, for a salted password
abbrev pub client_final : Binding → (client_nonce server_first nonce salted : List ℕ) → ClientFinal
client_final binding client_nonce server_first nonce salted =
    let final_bare = client_final_bare binding nonce in
    let auth = auth_message client_nonce server_first final_bare in
    record {
      message = with_proof final_bare (client_proof salted auth);
      signature = server_signature salted auth;
    }

-- the reply to the server's first message
abbrev pub client_final_of : Binding → (password client_nonce server_first : List ℕ) → Result ClientFinal ScramFault
client_final_of binding password client_nonce server_first = do
  server ← server_first_of client_nonce server_first
  Ok (client_final binding client_nonce server_first server.nonce (hi password server.salt server.iterations))
