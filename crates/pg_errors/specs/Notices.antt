-- What the reader of a notification answers.
use Rattle.std.specs.Prelude.{◌≡◌, ◌&&◌, true, false, Result, Ok, Err}
use Rattle.std.specs.Str.{is_utf8}
use Rattle.pg_wire.specs.Bodies.{Notified}
use Rattle.pg_errors.specs.declared.async_message.Notification.{Notification}
use Rattle.pg_types.specs.declared.cause.Cause.TheVariants as cause
use Rattle.pg_types.specs.declared.error.Error.{Error}
use Rattle.pg_types.specs.declared.error.Error.TheVariants as error

-- the notification holds what was read
pub record IsNotification (body : Notified) (n : Notification) : Type 0 where
  pub process_id : n.process_id ≡ body.process_id
  pub channel : n.channel ≡ body.channel
  pub payload : n.payload ≡ body.payload
  pub texts : (is_utf8 body.channel && is_utf8 body.payload) ≡ true

-- the notification, or that a text isn't UTF-8
abbrev pub ReadsNotification : Notified → Result Notification Error → Type 0
ReadsNotification body (Ok n) = IsNotification body n
ReadsNotification body (Err (error.Parse cause.NotUtf8)) = (is_utf8 body.channel && is_utf8 body.payload) ≡ false
ReadsNotification body (Err error.OutOfMemory) = Unit {0}
ReadsNotification body (Err _) = ⊥
