-- What a message of the crate stands for.
use Rattle.std.specs.Prelude.{Option, Some, None}
use Rattle.pg_spec.specs.Messages as spec
use Rattle.pg_wire.specs.declared.body.DataRowBody.{DataRowBody}
use Rattle.pg_wire.specs.declared.body.ErrorResponseBody.{ErrorResponseBody}
use Rattle.pg_wire.specs.declared.message.Message.{Message}
use Rattle.pg_wire.specs.declared.message.Message.TheVariants as wire

-- the message with its parts not yet read
abbrev pub message_view : Message → spec.Message
message_view wire.AuthenticationCleartextPassword = spec.AuthenticationCleartextPassword
message_view wire.AuthenticationGss = spec.AuthenticationGss
message_view (wire.AuthenticationGssContinue b) = spec.AuthenticationGssContinue b.data
message_view wire.AuthenticationKerberosV5 = spec.AuthenticationKerberosV5
message_view (wire.AuthenticationMd5Password b) = spec.AuthenticationMd5Password b.salt
message_view wire.AuthenticationOk = spec.AuthenticationOk
message_view (wire.AuthenticationSasl b) = spec.AuthenticationSasl b.mechanisms
message_view (wire.AuthenticationSaslContinue b) = spec.AuthenticationSaslContinue b.data
message_view (wire.AuthenticationSaslFinal b) = spec.AuthenticationSaslFinal b.data
message_view wire.AuthenticationScmCredential = spec.AuthenticationScmCredential
message_view wire.AuthenticationSspi = spec.AuthenticationSspi
message_view (wire.BackendKeyData b) = spec.BackendKeyData b.process_id b.secret_key
message_view wire.BindComplete = spec.BindComplete
message_view wire.CloseComplete = spec.CloseComplete
message_view (wire.CommandComplete b) = spec.CommandComplete b.tag
message_view (wire.CopyData b) = spec.CopyData b.data
message_view wire.CopyDone = spec.CopyDone
message_view (wire.CopyInResponse b) = spec.CopyInResponse
message_view (wire.CopyOutResponse b) = spec.CopyOutResponse
message_view (wire.DataRow b) = spec.DataRow b.count b.cells
message_view wire.EmptyQueryResponse = spec.EmptyQueryResponse
message_view (wire.ErrorResponse b) = spec.ErrorResponse b.fields
message_view wire.NoData = spec.NoData
message_view (wire.NoticeResponse b) = spec.NoticeResponse b.fields
message_view (wire.NotificationResponse b) = spec.NotificationResponse b.process_id b.channel b.payload
message_view (wire.ParameterDescription b) = spec.ParameterDescription b.count b.oids
message_view (wire.ParameterStatus b) = spec.ParameterStatus b.name b.value
message_view wire.ParseComplete = spec.ParseComplete
message_view wire.PortalSuspended = spec.PortalSuspended
message_view (wire.ReadyForQuery b) = spec.ReadyForQuery b.status
message_view (wire.RowDescription b) = spec.RowDescription b.count b.fields

-- the body of a row
abbrev pub row_body_of : Message → Option DataRowBody
row_body_of (wire.DataRow body) = Some body
row_body_of _ = None

-- the body of an error
abbrev pub error_body_of : Message → Option ErrorResponseBody
error_body_of (wire.ErrorResponse body) = Some body
error_body_of _ = None

-- the body of a notice
abbrev pub notice_body_of : Message → Option ErrorResponseBody
notice_body_of (wire.NoticeResponse body) = Some body
notice_body_of _ = None
