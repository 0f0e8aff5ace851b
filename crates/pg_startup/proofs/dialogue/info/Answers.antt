use Rattle.std.proofs.Common.{Err, sym, subst}
use Rattle.pg_spec.specs.Startup.{startup_message, Info}
use Rattle.pg_wire.specs.Messages.{message_view}
use Rattle.pg_wire.specs.declared.message.Message.{Message}
use Rattle.pg_startup.specs.Steps.{IsMove}
use Rattle.pg_startup.proofs.dialogue.info.Goals as goal

pub returns-in-ErrorResponse : goal.returns-in-ErrorResponse
returns-in-ErrorResponse c = λ l.
    subst (λ (m : Message). IsMove l (startup_message l Info (message_view m)) (Err c.server_error.result)) (sym c.in-ErrorResponse.is) (c.server_error.ensures l)
