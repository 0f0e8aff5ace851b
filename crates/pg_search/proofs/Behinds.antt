-- How the statement that looks something up comes, and what it is asked.
use Rattle.std.proofs.Common.{◌≡◌, ℕ, List, [], Bool, true, false, Option, Some, None, Result, Err, if◌then◌else◌, refl, sym, ap, ◌∙◌}
use Rattle.pg_spec.specs.RawMessages.{RawMessage}
use Rattle.pg_types.specs.declared.error.Error.{Error}
use Rattle.pg_desk.specs.declared.statement.Described.{Described as Statement}
use Rattle.pg_desk.specs.declared.statement.Lookup.{Lookup}
use Rattle.pg_query.specs.declared.desk_call.DeskCall.TheVariants as desk_call
use Rattle.pg_query.specs.declared.desk_call.Reply.{Reply}
use Rattle.pg_query.specs.declared.desk_call.Reply.TheVariants as reply
use Rattle.pg_query.specs.Dialogue.{Dialogue, Answer, Call}
use Rattle.pg_query.specs.Reading.{reads}
use Rattle.pg_core.specs.Behind.{behind}
use Rattle.pg_core.specs.Sequences.{or_answer, then_do}
use Rattle.pg_core.specs.Composing.{asks_for}
use Rattle.pg_core.specs.Lookups.{lookup_statement, or_prepared, or_second, prepared, keeps_statement, is_unknown, unknown_code}
use Rattle.pg_search.specs.Asking.{or_first}
use Rattle.pg_search.specs.Keeping.{kept, kept_told}

-- what comes behind the reply of the desk
behind-reply : (which : Lookup) (r : Reply) → behind [] (kept_told r) (or_answer (or_first which)) ≡ or_prepared which r
behind-reply which (reply.Statement (Some s)) = refl
behind-reply which (reply.Statement None) = refl
behind-reply which (reply.Number n) = refl
behind-reply which reply.Spent = refl
behind-reply which (reply.Type found) = refl
behind-reply which reply.Cleared = refl

-- the statement that is kept, or else one that is prepared, is the statement that looks this up
lookup-is : (which : Lookup) → then_do (kept which) (or_first which) ≡ lookup_statement which
lookup-is which = λ i. Call (desk_call.LookupOf which) (λ e. Answer (Err e)) (λ r. behind-reply which r i)

-- the same of a script that stands there
pub looks-up : (which : Lookup) (d : Dialogue (Option Statement)) → d ≡ kept which → then_do d (or_first which) ≡ lookup_statement which
looks-up which d is = ap (λ (x : Dialogue (Option Statement)). then_do x (or_first which)) is ∙ lookup-is which

-- one dialogue in place of another
pub then-same : {A T : Type 0} (a b : Dialogue A) (f : A → Dialogue T) → a ≡ b → then_do a f ≡ then_do b f
then-same {A} a b f is = ap (λ (x : Dialogue A). then_do x f) is

-- the same with what comes behind an error too
pub behind-same : {A T : Type 0} (a b : Dialogue A) (f : Result A Error → Dialogue T) → a ≡ b → behind [] a f ≡ behind [] b f
behind-same {A} a b f is = ap (λ (x : Dialogue A). behind [] x f) is

-- the second text
pub second : (which : Lookup) (e : Error) (d : Dialogue Statement) → is_unknown (unknown_code which) e ≡ true → d ≡ prepared which false →
    then_do d (keeps_statement which) ≡ or_second which (Err e)
second which e d unknown is =
    then-same d (prepared which false) (keeps_statement which) is
    ∙ ap (λ (b : Bool). let x : Dialogue Statement = if b then then_do (prepared which false) (keeps_statement which) else Answer (Err e) in x) (sym unknown)

-- the error of the first text
pub no-second : (which : Lookup) (e : Error) → is_unknown (unknown_code which) e ≡ false → Answer (Err e) ≡ or_second which (Err e)
no-second which e unknown =
    ap (λ (b : Bool). let x : Dialogue Statement = if b then then_do (prepared which false) (keeps_statement which) else Answer (Err e) in x) (sym unknown)

-- a request is asked, whose reply is read as it is to be
pub asked : {T : Type 0} (stops : Bool) (request request' : Result (List ℕ) Error) (told told' : List RawMessage → Option (Result T Error)) (d : Dialogue T) →
    d ≡ asks_for request (reads stops told) → request ≡ request' → told ≡ told' → d ≡ asks_for request' (reads stops told')
asked {T} stops request request' told told' d made is same =
    made ∙ ap (λ (r : Result (List ℕ) Error). asks_for r (reads stops told)) is
    ∙ ap (λ (t : List RawMessage → Option (Result T Error)). asks_for request' (reads stops t)) same
