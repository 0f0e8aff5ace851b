-- Types are kept under their own oids, and no command but a clear drops them.
use Rattle.std.proofs.Common.{◌≡◌, ℕ, List, [], Bool, Option, Result, refl}
use Rattle.pg_spec.specs.RawMessages.{RawMessage}
use Rattle.pg_types.specs.declared.error.Error.{Error}
use Rattle.pg_types.specs.declared.pg_type.PgType.{PgType}
use Rattle.pg_execute.specs.Parameters.{Params}
use Rattle.pg_desk.specs.declared.statement.Described.{Described as Statement}
use Rattle.pg_query.specs.Dialogue.{Dialogue}
use Rattle.pg_query.specs.declared.desk_call.DeskCall.TheVariants.{ClearTypes}
use Rattle.pg_query.specs.declared.desk_call.Reply.{Reply}
use Rattle.pg_query.specs.declared.desk_call.Reply.TheVariants as reply
use Rattle.pg_core.specs.Lookups.{clear, cleared_told, find, find_all, prepare}
use Rattle.pg_execute.specs.Executes.{close, executes, on_text}
use Rattle.pg_execute.specs.Typed.{execute_typed, query_typed}
use Rattle.pg_execute.specs.declared.how_many.HowMany.{HowMany}
use Rattle.pg_query_laws.specs.Kept.{EachAsked, IsNoClear, IsOwn, KeepsTypes}
use Rattle.pg_query_laws.proofs.Asking.{Grants, finding, finding-all, preparing-text}
use Rattle.pg_query_laws.proofs.AskingExecutions.{closing, executing, executing-typed, on-text, querying-typed}

own : Grants IsOwn
own = record { number = tt; type_of = λ oid. tt; lookup_of = λ which. tt; set_lookup = λ which s. tt; set_type = λ oid ty e. e }

no-clear : Grants IsNoClear
no-clear = record { number = tt; type_of = λ oid. tt; lookup_of = λ which. tt; set_lookup = λ which s. tt; set_type = λ oid ty e. tt }

pub find-keeps : (more : ℕ) (busy : List ℕ) (oid : ℕ) → KeepsTypes (find more busy oid)
find-keeps more busy oid = record { own = finding IsOwn own more busy oid; clears_nothing = finding IsNoClear no-clear more busy oid }

pub find-all-keeps : (oids : List ℕ) → KeepsTypes (find_all oids)
find-all-keeps oids = record { own = finding-all IsOwn own oids; clears_nothing = finding-all IsNoClear no-clear oids }

pub prepare-keeps : (text oids : List ℕ) → KeepsTypes (prepare text oids)
prepare-keeps text oids = record { own = preparing-text IsOwn own text oids; clears_nothing = preparing-text IsNoClear no-clear text oids }

pub execute-keeps : {A : Type 0} (stops : Bool) (reading : List RawMessage → Option (Result A Error)) (s : Statement) (vs : Params) → KeepsTypes (executes stops reading s vs)
execute-keeps stops reading s vs = record { own = executing IsOwn stops reading s vs; clears_nothing = executing IsNoClear stops reading s vs }

pub close-keeps : (s : Statement) → KeepsTypes (close s)
close-keeps s = record { own = closing IsOwn s; clears_nothing = closing IsNoClear s }

pub text-keeps : {T : Type 0} (text : List ℕ) (body : Statement → Dialogue T) → ((s : Statement) → KeepsTypes (body s)) → KeepsTypes (on_text (prepare text []) body)
text-keeps text body h = record { own = on-text IsOwn own text body (λ s. (h s).own); clears_nothing = on-text IsNoClear no-clear text body (λ s. (h s).clears_nothing) }

pub typed-query-keeps : (how : HowMany) (text : List ℕ) (types : List PgType) (vs : Params) → KeepsTypes (query_typed find_all how text types vs)
typed-query-keeps how text types vs = record { own = querying-typed IsOwn own how text types vs; clears_nothing = querying-typed IsNoClear no-clear how text types vs }

pub typed-execute-keeps : (text : List ℕ) (types : List PgType) (vs : Params) → KeepsTypes (execute_typed text types vs)
typed-execute-keeps text types vs = record { own = executing-typed IsOwn text types vs; clears_nothing = executing-typed IsNoClear text types vs }

-- a clear asks for that alone
cleared : (r : Reply) → EachAsked (λ q. q ≡ ClearTypes) (cleared_told r)
cleared reply.Cleared = tt
cleared other = tt

pub clear-asks : EachAsked (λ q. q ≡ ClearTypes) clear
clear-asks = (refl, λ e. tt, cleared)
