-- What messages aside stand for.
use Rattle.pg_spec.specs.Report as said
use Rattle.pg_errors.specs.declared.async_message.AsyncMessage.{AsyncMessage}
use Rattle.pg_errors.specs.declared.async_message.AsyncMessage.TheVariants as aside

-- a message aside
abbrev pub async_of : AsyncMessage → said.AsyncMessage
async_of (aside.Notice e) = said.Notice e
async_of (aside.Notification n) = said.Notification n.process_id n.channel n.payload
