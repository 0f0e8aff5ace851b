-- Which calls of a desk a question is.
use Rattle.std.specs.Prelude.{Result}
use Rattle.pg_desk.specs.Asking.{IsAsking}
use Rattle.pg_desk.specs.declared.event.DeskFault.{DeskFault}
use Rattle.pg_desk.specs.declared.event.Event.{Event}
use Rattle.pg_desk.specs.declared.event.Event.TheVariants as call
use Rattle.pg_query.specs.declared.desk_call.DeskCall.{DeskCall}
use Rattle.pg_query.specs.declared.desk_call.DeskCall.TheVariants as desk_call
use Rattle.pg_query.specs.declared.desk_call.Reply.{Reply}
use Rattle.pg_query.specs.Dialogue.{Told}

-- what tells a command something is a call that asks for it, and no other
pub told-asks : (q : DeskCall) (e : Event) (r : Result Reply DeskFault) → Told q e r → IsAsking e
told-asks desk_call.NextStatement (call.NextStatement answer) r t = tt
told-asks desk_call.NextPortal (call.NextPortal answer) r t = tt
told-asks q (call.Catalog c) r t = tt
told-asks q e r t = absurd t
