-- Errors and their causes in words, as a program says them. None of the words comes from a text, a connection string or the server.
use Rattle.std.specs.Prelude.{ℕ, List, codes}
use Rattle.pg_types.specs.declared.cause.Cause.{Cause}
use Rattle.pg_types.specs.declared.cause.Cause.TheVariants as cause
use Rattle.pg_types.specs.declared.cause.ScramFault.{ScramFault}
use Rattle.pg_types.specs.declared.cause.ScramFault.TheVariants as scram
use Rattle.pg_types.specs.declared.error.Error.{Error}
use Rattle.pg_types.specs.declared.error.Error.TheVariants as error
use Rattle.pg_types.specs.declared.fault.ValueFault.{ValueFault}
use Rattle.pg_types.specs.declared.fault.ValueFault.TheVariants as value
use Rattle.pg_types.specs.declared.faults.FrameFault.{FrameFault}
use Rattle.pg_types.specs.declared.faults.FrameFault.TheVariants as frame
use Rattle.pg_types.specs.declared.faults.WireFault.{WireFault}
use Rattle.pg_types.specs.declared.faults.WireFault.TheVariants as wire

-- what kind of error it is
abbrev pub error_words : Error → List ℕ
error_words (error.Io c) = codes "error communicating with the server"
error_words error.UnexpectedMessage = codes "unexpected message from server"
error_words (error.Tls c) = codes "error performing TLS handshake"
error_words (error.ToSql place c) = codes "error serializing parameter"
error_words (error.FromSql place c) = codes "error deserializing column"
error_words (error.Column column) = codes "invalid column"
error_words error.ColumnCount = codes "query returned an unexpected number of columns"
error_words (error.Parameters given expected) = codes "unexpected number of parameters"
error_words error.Closed = codes "connection closed"
error_words (error.Db e) = codes "error of the server"
error_words (error.Parse c) = codes "error parsing response from server"
error_words (error.Encode c) = codes "error encoding message to server"
error_words (error.Authentication c) = codes "authentication error"
error_words (error.ConfigParse c) = codes "invalid connection string"
error_words (error.Config c) = codes "invalid configuration"
error_words error.RowCount = codes "query returned an unexpected number of rows"
error_words (error.Connect c) = codes "error connecting to server"
error_words (error.Stalled before after) = codes "connection stalled"
error_words (error.LimitReached given limit) = codes "byte limit reached"
error_words error.Missing = codes "nothing open there"
error_words error.OutOfMemory = codes "out of memory"

-- what is wrong with received bytes
abbrev pub wire_words : WireFault → List ℕ
wire_words wire.BadLength = codes "a message is shorter than its own length field"
wire_words wire.UnknownTag = codes "a message is of an unknown type"
wire_words wire.Layout = codes "a message breaks its layout"
wire_words wire.NotUtf8 = codes "a text in a message isn't UTF-8"
wire_words wire.OutOfMemory = codes "memory lacked for a message"

-- why a frame can't be written
abbrev pub frame_words : FrameFault → List ℕ
frame_words frame.ZeroByte = codes "a text holds a zero byte"
frame_words frame.TooLong = codes "a message is longer than 2147483647 bytes"
frame_words frame.TooMany = codes "a message has more than 65535 items"
frame_words frame.OutOfMemory = codes "memory lacked for a frame"

-- why a value can't be written or read
abbrev pub value_words : ValueFault → List ℕ
value_words (value.WrongType types) = codes "a value can't stand for this type of the server"
value_words value.WasNull = codes "a value is null"
value_words value.BadValue = codes "a value is out of the form of its type"
value_words value.OutOfMemory = codes "memory lacked for a value"

-- what is wrong in the SCRAM dialogue (RFC 5802)
abbrev pub scram_words : ScramFault → List ℕ
scram_words scram.BadMessage = codes "a SCRAM message of the server is out of form"
scram_words scram.BadNonce = codes "the server's SCRAM nonce doesn't begin with the client's"
scram_words scram.BadSalt = codes "the server's SCRAM salt isn't base64"
scram_words scram.BadIterations = codes "the server's number of SCRAM iterations is out of range"
scram_words scram.BadSignature = codes "the server's SCRAM signature is wrong: it doesn't know the password"
scram_words (scram.ServerError word) = codes "the server ended the SCRAM dialogue with an error"
scram_words scram.OutOfMemory = codes "memory lacked for the SCRAM dialogue"

-- what an error comes from
abbrev pub cause_words : Cause → List ℕ
cause_words cause.Link = codes "a read or a write failed"
cause_words cause.Ended = codes "the connection ended too early"
cause_words (cause.Wire fault) = wire_words fault
cause_words cause.Fields = codes "the fields of an error or a notice can't be read"
cause_words cause.FieldCount = codes "a row has another number of cells than there are columns"
cause_words cause.BinaryCopy = codes "the data of a binary copy are out of form"
cause_words cause.NotUtf8 = codes "a text isn't UTF-8"
cause_words (cause.Frame fault) = frame_words fault
cause_words cause.Counter = codes "statements or portals can't be counted any further"
cause_words (cause.Value fault) = value_words fault
cause_words cause.NoUser = codes "no user is set"
cause_words cause.Nonce = codes "the nonce isn't 24 printable characters without a comma"
cause_words cause.NoPassword = codes "the server asks for a password, and none is set"
cause_words cause.Hosts = codes "hosts, addresses and ports don't fit together"
cause_words cause.Scripts = codes "the scripts are out of their rules"
cause_words cause.PreferDirect = codes "TLS is to begin at once where it is only preferred"
cause_words cause.Refused = codes "the server has no TLS, and it is required"
cause_words cause.NoHostname = codes "TLS needs the name of the host, and none is set"
cause_words cause.Handshake = codes "the handshake failed, as it does where a client has no TLS"
cause_words cause.Method = codes "the server asks for a way to log in that isn't known"
cause_words cause.Mechanism = codes "the server offers no SASL mechanism that is known"
cause_words cause.BindingRequired = codes "channel binding is required, and can't be had"
cause_words cause.NotAscii = codes "a password for SCRAM isn't ASCII"
cause_words (cause.Scram fault) = scram_words fault
cause_words cause.Syntax = codes "it is out of form"
cause_words (cause.UnknownOption key) = codes "an option of it isn't known"
cause_words (cause.InvalidValue key) = codes "the value of an option is out of form"
cause_words (cause.ReadOnly answer) = codes "the session can't write, and was to"
cause_words (cause.NotReadOnly answer) = codes "the session can write, and was to be read only"

-- which of the causes it is: no two have one number
abbrev pub place_of : Cause → ℕ
place_of cause.Link = 0
place_of cause.Ended = 1
place_of (cause.Wire wire.BadLength) = 2
place_of (cause.Wire wire.UnknownTag) = 3
place_of (cause.Wire wire.Layout) = 4
place_of (cause.Wire wire.NotUtf8) = 5
place_of (cause.Wire wire.OutOfMemory) = 6
place_of cause.Fields = 7
place_of cause.FieldCount = 8
place_of cause.BinaryCopy = 9
place_of cause.NotUtf8 = 10
place_of (cause.Frame frame.ZeroByte) = 11
place_of (cause.Frame frame.TooLong) = 12
place_of (cause.Frame frame.TooMany) = 13
place_of (cause.Frame frame.OutOfMemory) = 14
place_of cause.Counter = 15
place_of (cause.Value (value.WrongType types)) = 16
place_of (cause.Value value.WasNull) = 17
place_of (cause.Value value.BadValue) = 18
place_of (cause.Value value.OutOfMemory) = 19
place_of cause.NoUser = 20
place_of cause.Nonce = 21
place_of cause.NoPassword = 22
place_of cause.Hosts = 23
place_of cause.Scripts = 24
place_of cause.PreferDirect = 25
place_of cause.Refused = 26
place_of cause.NoHostname = 27
place_of cause.Handshake = 28
place_of cause.Method = 29
place_of cause.Mechanism = 30
place_of cause.BindingRequired = 31
place_of cause.NotAscii = 32
place_of (cause.Scram scram.BadMessage) = 33
place_of (cause.Scram scram.BadNonce) = 34
place_of (cause.Scram scram.BadSalt) = 35
place_of (cause.Scram scram.BadIterations) = 36
place_of (cause.Scram scram.BadSignature) = 37
place_of (cause.Scram (scram.ServerError word)) = 38
place_of (cause.Scram scram.OutOfMemory) = 39
place_of cause.Syntax = 40
place_of (cause.UnknownOption key) = 41
place_of (cause.InvalidValue key) = 42
place_of (cause.ReadOnly answer) = 43
place_of (cause.NotReadOnly answer) = 44
