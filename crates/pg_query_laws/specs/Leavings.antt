-- What is left to do where a command is given up.
use Rattle.std.specs.Prelude.{List, [], ◌∷◌, Some, None, codes, pos}
use Rattle.pg_spec.specs.RawMessages.{RawMessage}
use Rattle.pg_types.specs.declared.value.Value.TheVariants as value
use Rattle.pg_query.specs.declared.desk_call.Cleanup.{Cleanup}
use Rattle.pg_query.specs.declared.desk_call.DeskCall.{DeskCall}
use Rattle.pg_query.specs.declared.desk_call.DeskCall.TheVariants as desk_call
use Rattle.pg_query.specs.declared.desk_call.Reply.{Reply}
use Rattle.pg_query.specs.declared.desk_call.Reply.TheVariants as reply
use Rattle.pg_query.specs.Dialogue.{Dialogue, Answer, Ask, Send, Leave, Read, Put, Finish, Close, HangUp, Call, Hear}
use Rattle.pg_core.specs.Lookups.{prepare}
use Rattle.pg_execute.specs.Executes.{execute, on_text}
use Rattle.pg_execute.specs.Parameters.{given_of}

-- what a new desk tells
abbrev pub told : DeskCall → Reply
told desk_call.NextStatement = reply.Number 0
told desk_call.NextPortal = reply.Number 0
told (desk_call.TypeOf oid) = reply.Type None
told (desk_call.SetType oid ty) = reply.Type (Some ty)
told desk_call.ClearTypes = reply.Cleared
told (desk_call.LookupOf which) = reply.Statement None
told (desk_call.SetLookup which s) = reply.Statement (Some s)

-- what is left to do where a command is given up behind these replies, in the reading of the next
abbrev pub left_behind : {T : Type 0} → List (List RawMessage) → Dialogue T → List Cleanup
left_behind replies (Answer r) = []
left_behind replies (Ask copying part d) = left_behind replies d
left_behind replies (Send part refused d) = left_behind replies d
left_behind replies (Leave id d) = left_behind replies d
left_behind [] (Read cleanup decides next) = cleanup
left_behind (ms ∷ replies) (Read cleanup decides next) = left_behind replies (next ms)
left_behind replies (Put cleanup part d) = left_behind replies d
left_behind replies (Finish part d) = left_behind replies d
left_behind replies (Close part d) = left_behind replies d
left_behind replies (HangUp d) = left_behind replies d
left_behind replies (Call q refused next) = left_behind replies (next (told q))
left_behind replies (Hear next) = []

-- the same of the text `q`, executed with the value 7
abbrev pub q_left_behind : List (List RawMessage) → List Cleanup
q_left_behind replies = left_behind replies (on_text (prepare (codes "q") []) (λ s. execute s (given_of (value.Int (pos 7) ∷ []))))
