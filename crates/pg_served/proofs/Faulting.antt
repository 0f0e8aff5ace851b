-- A session text over a link to a server: when it fails for its link, and which fault the link has.
use Rattle.std.proofs.Common.{◌≡◌, ℕ, true, Option, Some, None, Err, inl, inr, refl, sym, subst, ◌∙◌, codes, arith}
use Rattle.std.specs.Prelude.{IsSome}
use Rattle.std.proofs.lemmas.Option.{none-some}
use Rattle.pg_spec.specs.Faults.{Io, Link}
use Rattle.pg_spec.specs.Links.{LinkView, Rose}
use Rattle.pg_wire.specs.LinkCalls.{Continues}
use Rattle.pg_wire.specs.Memory.{as_count}
use Rattle.pg_server.specs.declared.fault.ServerFault.{ServerFault}
use Rattle.pg_server.specs.ByteLists.{are_bytes}
use Rattle.pg_server.specs.Handlers.{Step}
use Rattle.pg_server.specs.ServerLinks.{FailsByFault, Served, link_of}
use Rattle.pg_server.proofs.FaultCourseLaws.{fault-of-new}
use Rattle.pg_tool.specs.RunContract.{SessionAnswer}
use Rattle.pg_play.proofs.Following.{continues_same}
use Rattle.pg_tool.proofs.Piped.{piped}
use Rattle.pg_served.specs.Rehearsals.{Around, FailsByServer, HasItsFault, PlaysOver, over}

-- its link fails only where the server has a fault
has-fault : {S : Type 0} (new : Served S) (before : ℕ) → FailsByFault new → Rose before (as_count new.crossed.faults) → IsSome new.fault
has-fault new before fails rose = by new.fault refl
  where
    by : (o : Option ServerFault) → new.fault ≡ o → IsSome o
    by None is = absurd (let none : new.crossed.faults ≡ 0 = fails is in omega (arith, none, rose))
    by (Some fault) is = refl

pub fails-by-server : {S : Type 0} (step : Step S) (old new : Served S) (a : Around) → FailsByFault new → PlaysOver (link_of step old) (link_of step new) a → FailsByServer new a.result
fails-by-server step old new a fails (inl contract) is =
    let played = piped (over a (link_of step old) (link_of step new)) (codes "-") (codes "-") (Err (Io Link)) refl is contract in
    has-fault new (as_count old.crossed.faults) fails played.1.by_table.cause
fails-by-server step old new a fails (inr lacks) is = absurd (none-some (Err (Io Link)) (sym lacks.result ∙ is))

-- the link went on from where it stood
goes-on : {S : Type 0} (step : Step S) (old new : Served S) (a : Around) → PlaysOver (link_of step old) (link_of step new) a → Continues (link_of step old) (link_of step new)
goes-on {S = S} step old new a plays = by plays
  where
    still : link_of step new ≡ link_of step old → Continues (link_of step old) (link_of step new)
    still same = subst (λ (l : LinkView). Continues (link_of step old) l) (sym same) (continues_same (link_of step old))

    by : PlaysOver (link_of step old) (link_of step new) a → Continues (link_of step old) (link_of step new)
    by (inr lacks) = still lacks.link
    by (inl contract) = by_result a.result refl
      where
        by_result : (o : Option SessionAnswer) → a.result ≡ o → Continues (link_of step old) (link_of step new)
        by_result None is = still (contract.link is)
        by_result (Some result) is = (piped (over a (link_of step old) (link_of step new)) (codes "-") (codes "-") result refl is contract).1.by_table.link

pub its-fault : {S : Type 0} (step : Step S) (old new : Served S) (a : Around) → are_bytes new.crossed.taken ≡ true → PlaysOver (link_of step old) (link_of step new) a → HasItsFault step old new
its-fault {S = S} step old new a bytes plays = λ state startup cut room made.
    fault-of-new step state startup cut room new (subst (λ (m : Served S). Continues (link_of step m) (link_of step new)) made (goes-on step old new a plays)) bytes
