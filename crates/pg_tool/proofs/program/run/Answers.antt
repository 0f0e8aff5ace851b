use Rattle.std.proofs.Common.{ℕ, List, refl, subst}
use Rattle.pg_tool.specs.RunContract.{Written}
use Rattle.pg_tool.proofs.Telling.{run_sums, run_text, run_usage}
use Rattle.pg_tool.proofs.program.run.Goals as goal

pub returns-in_default-asked_link : goal.returns-in_default-asked_link
returns-in_default-asked_link g c =
    run_usage _ refl refl (c.in_default-asked_link.ensures, c.in_default.ensures) c.refuse.ensures.none
    (subst (λ (t : List ℕ). Written (g.K.Sink.state c.args.sink.now) (g.K.Sink.state c.refuse.new.sink) t 2 c.refuse.result.status) c.as_bytes.ensures.value c.refuse.ensures.status)

pub returns-in-Ok : goal.returns-in-Ok
returns-in-Ok g c =
    run_text _ c.in-Some-asked_link.over c.in-Ok.text.items c.play.ensures.unused c.in-Some-asked_link.ensures c.in-Ok.ensures c.play.ensures.played

pub sum_up-requires : goal.sum_up-requires
sum_up-requires g c = let asked = c.in-Some.ensures in record { count = record { least = asked.3.1; most = asked.3.0.2 } }

pub returns-in-Some : goal.returns-in-Some
returns-in-Some g c = run_sums _ c.in-Some.numbers refl refl c.in-Some.ensures c.sum_up.ensures
