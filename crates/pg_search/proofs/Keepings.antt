-- The question that has the desk keep a statement.
use Rattle.std.proofs.Common.{◌≡◌, Option, Some, None, refl, sym, subst}
use Rattle.pg_desk.specs.declared.statement.Described.{Described as Statement}
use Rattle.pg_desk.specs.declared.statement.Lookup.{Lookup}
use Rattle.pg_query.specs.declared.desk_call.DeskCall.TheVariants as desk_call
use Rattle.pg_query.specs.declared.script.Action.TheVariants as act
use Rattle.pg_query.specs.declared.script.Want.TheVariants as want
use Rattle.pg_query.specs.Scripts.{GoesOn, waiting_at}
use Rattle.pg_search.specs.Keeping.{keeps_at, keeps_from, keeps_refuses}
use Rattle.pg_search.specs.declared.kept.Keeps.{Keeps}

-- it is asked, and its reply is waited for
pub keeps-asks : (which : Lookup) (old new : Option Statement) (s : Statement) → old ≡ Some s → new ≡ None →
    GoesOn keeps_at keeps_refuses (λ (k : Keeps). waiting_at (keeps_at k)) (keeps_from which old) (want.Act (act.Call (desk_call.SetLookup which s))) (record { which = which; statement = new })
keeps-asks which old new s is none =
    subst (λ (o : Option Statement). GoesOn keeps_at keeps_refuses (λ (k : Keeps). waiting_at (keeps_at k)) (keeps_from which o) (want.Act (act.Call (desk_call.SetLookup which s))) (record { which = which; statement = new })) (sym is)
    (subst (λ (n : Option Statement). GoesOn keeps_at keeps_refuses (λ (k : Keeps). waiting_at (keeps_at k)) (keeps_from which (Some s)) (want.Act (act.Call (desk_call.SetLookup which s))) (record { which = which; statement = n })) (sym none)
    (record { is = refl; wanted = record { waiting = tt; there = tt } }))
