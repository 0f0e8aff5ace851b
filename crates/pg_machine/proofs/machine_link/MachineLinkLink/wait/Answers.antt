use Rattle.std.proofs.Common.{◌≡◌, ap, subst, true, arith}
use Rattle.pg_machine.specs.MachineLinks.{Served, is_ready}
use Rattle.pg_machine.proofs.ServedLaws.{is_ready-more}
use Rattle.pg_machine.proofs.machine_link.MachineLinkLink.wait.Goals as goal

pub returns-then-self-len-clause-exact : goal.returns-then-self-len-clause-exact
returns-then-self-len-clause-exact c = (
  subst (λ (m : Served). is_ready m ≡ true) c.self.view_is (is_ready-more c.self.inside c.self.invariant (omega (arith, c.if-self-len.true, c.len.ensures))),
  ap (λ (m : Served). record m { promised = true }) c.self.view_is,
)
