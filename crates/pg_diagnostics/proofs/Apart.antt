-- No two causes have the same words: each is found at its own place in the list of all words.
use Rattle.std.proofs.Common.{◌≡◌, refl, sym, ap, ◌∙◌, ℕ, ◌+◌, List, [], ◌∷◌, Bool, true, false, codes}
use Rattle.std.proofs.Math.Dec.{eqb}
use Rattle.pg_types.specs.declared.cause.Cause.{Cause}
use Rattle.pg_types.specs.declared.cause.Cause.TheVariants as cause
use Rattle.pg_types.specs.declared.cause.ScramFault.TheVariants as scram
use Rattle.pg_types.specs.declared.fault.ValueFault.TheVariants as value
use Rattle.pg_types.specs.declared.faults.FrameFault.TheVariants as frame
use Rattle.pg_types.specs.declared.faults.WireFault.TheVariants as wire
use Rattle.pg_diagnostics.specs.Words.{cause_words, place_of}

-- whether two texts are the same
same : List ℕ → List ℕ → Bool
same [] [] = true
same [] (y ∷ ys) = false
same (x ∷ xs) [] = false
same (x ∷ xs) (y ∷ ys) = both (eqb x y) (same xs ys)
  where
    both : Bool → Bool → Bool
    both true b = b
    both false b = false

-- at which place of a list a text stands first
place_in : List (List ℕ) → List ℕ → ℕ
place_in [] text = 0
place_in (t ∷ ts) text = here (same t text) (place_in ts text)
  where
    here : Bool → ℕ → ℕ
    here true later = 0
    here false later = 1 + later

table : List (List ℕ)
table = codes "a read or a write failed"
    ∷ codes "the connection ended too early"
    ∷ codes "a message is shorter than its own length field"
    ∷ codes "a message is of an unknown type"
    ∷ codes "a message breaks its layout"
    ∷ codes "a text in a message isn't UTF-8"
    ∷ codes "memory lacked for a message"
    ∷ codes "the fields of an error or a notice can't be read"
    ∷ codes "a row has another number of cells than there are columns"
    ∷ codes "the data of a binary copy are out of form"
    ∷ codes "a text isn't UTF-8"
    ∷ codes "a text holds a zero byte"
    ∷ codes "a message is longer than 2147483647 bytes"
    ∷ codes "a message has more than 65535 items"
    ∷ codes "memory lacked for a frame"
    ∷ codes "statements or portals can't be counted any further"
    ∷ codes "a value can't stand for this type of the server"
    ∷ codes "a value is null"
    ∷ codes "a value is out of the form of its type"
    ∷ codes "memory lacked for a value"
    ∷ codes "no user is set"
    ∷ codes "the nonce isn't 24 printable characters without a comma"
    ∷ codes "the server asks for a password, and none is set"
    ∷ codes "hosts, addresses and ports don't fit together"
    ∷ codes "the scripts are out of their rules"
    ∷ codes "TLS is to begin at once where it is only preferred"
    ∷ codes "the server has no TLS, and it is required"
    ∷ codes "TLS needs the name of the host, and none is set"
    ∷ codes "the handshake failed, as it does where a client has no TLS"
    ∷ codes "the server asks for a way to log in that isn't known"
    ∷ codes "the server offers no SASL mechanism that is known"
    ∷ codes "channel binding is required, and can't be had"
    ∷ codes "a password for SCRAM isn't ASCII"
    ∷ codes "a SCRAM message of the server is out of form"
    ∷ codes "the server's SCRAM nonce doesn't begin with the client's"
    ∷ codes "the server's SCRAM salt isn't base64"
    ∷ codes "the server's number of SCRAM iterations is out of range"
    ∷ codes "the server's SCRAM signature is wrong: it doesn't know the password"
    ∷ codes "the server ended the SCRAM dialogue with an error"
    ∷ codes "memory lacked for the SCRAM dialogue"
    ∷ codes "it is out of form"
    ∷ codes "an option of it isn't known"
    ∷ codes "the value of an option is out of form"
    ∷ codes "the session can't write, and was to"
    ∷ codes "the session can write, and was to be read only" ∷ []

stands : (c : Cause) → place_in table (cause_words c) ≡ place_of c
unfolding place_in table same
stands cause.Link = refl
stands cause.Ended = refl
stands (cause.Wire wire.BadLength) = refl
stands (cause.Wire wire.UnknownTag) = refl
stands (cause.Wire wire.Layout) = refl
stands (cause.Wire wire.NotUtf8) = refl
stands (cause.Wire wire.OutOfMemory) = refl
stands cause.Fields = refl
stands cause.FieldCount = refl
stands cause.BinaryCopy = refl
stands cause.NotUtf8 = refl
stands (cause.Frame frame.ZeroByte) = refl
stands (cause.Frame frame.TooLong) = refl
stands (cause.Frame frame.TooMany) = refl
stands (cause.Frame frame.OutOfMemory) = refl
stands cause.Counter = refl
stands (cause.Value (value.WrongType types)) = refl
stands (cause.Value value.WasNull) = refl
stands (cause.Value value.BadValue) = refl
stands (cause.Value value.OutOfMemory) = refl
stands cause.NoUser = refl
stands cause.Nonce = refl
stands cause.NoPassword = refl
stands cause.Hosts = refl
stands cause.Scripts = refl
stands cause.PreferDirect = refl
stands cause.Refused = refl
stands cause.NoHostname = refl
stands cause.Handshake = refl
stands cause.Method = refl
stands cause.Mechanism = refl
stands cause.BindingRequired = refl
stands cause.NotAscii = refl
stands (cause.Scram scram.BadMessage) = refl
stands (cause.Scram scram.BadNonce) = refl
stands (cause.Scram scram.BadSalt) = refl
stands (cause.Scram scram.BadIterations) = refl
stands (cause.Scram scram.BadSignature) = refl
stands (cause.Scram (scram.ServerError word)) = refl
stands (cause.Scram scram.OutOfMemory) = refl
stands cause.Syntax = refl
stands (cause.UnknownOption key) = refl
stands (cause.InvalidValue key) = refl
stands (cause.ReadOnly answer) = refl
stands (cause.NotReadOnly answer) = refl

pub own_words : (a b : Cause) → cause_words a ≡ cause_words b → place_of a ≡ place_of b
own_words a b same_words = sym (stands a) ∙ ap (place_in table) same_words ∙ stands b
