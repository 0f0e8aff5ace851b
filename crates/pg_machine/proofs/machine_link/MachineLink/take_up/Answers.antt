use Rattle.std.proofs.Common.{refl, sym, ap, ◌∙◌, arith, List, ℕ, ◌++◌, length, take, false}
use Rattle.std.specs.Prelude.{min}
use Rattle.pg_machine.specs.declared.machine_link.MachineLink.TheInside.{Inside}
use Rattle.pg_machine.specs.MachineLinks.{Served}
use Rattle.pg_machine.proofs.ServedLaws.{Wrote, wrote, wrote-view, took-more}
use Rattle.pg_machine.proofs.machine_link.MachineLink.take_up.Goals as goal

pub invariant_of-self-in-Ok : goal.invariant_of-self-in-Ok
invariant_of-self-in-Ok c =
    let link : Inside = c.self.inside in
    let bytes : List ℕ = take c.min-n.result c.args.bytes.now in
    let w : Wrote link bytes c.extend_from_slice.new.self.items c.go_on.new.said.items c.in-Ok.fed
    = wrote link c.self.invariant bytes c.extend_from_slice.new.self.items c.as_slice.result.now c.as_slice-2.result.now c.go_on.new.said.items c.len-taken.result c.in-Ok.fed
    c.extend_from_slice.result c.extend_from_slice.ensures.items (sym c.is_err.ensures.value ∙ c.if-is_err.false) (omega (arith, c.len-taken.ensures)) c.as_slice.ensures c.as_slice-2.ensures.value c.in-Ok.ensures in
    took-more link _ bytes c.self.invariant refl refl w.after_is refl refl refl refl w.feeds w.longer w.said_is

pub returns-in-Ok-clause-exact : goal.returns-in-Ok-clause-exact
returns-in-Ok-clause-exact c =
    let link : Inside = c.self.inside in
    let bytes : List ℕ = take c.min-n.result c.args.bytes.now in
    let w : Wrote link bytes c.extend_from_slice.new.self.items c.go_on.new.said.items c.in-Ok.fed
    = wrote link c.self.invariant bytes c.extend_from_slice.new.self.items c.as_slice.result.now c.as_slice-2.result.now c.go_on.new.said.items c.len-taken.result c.in-Ok.fed
    c.extend_from_slice.result c.extend_from_slice.ensures.items (sym c.is_err.ensures.value ∙ c.if-is_err.false) (omega (arith, c.len-taken.ensures)) c.as_slice.ensures c.as_slice-2.ensures.value c.in-Ok.ensures in (
      c.min-n.ensures ∙ ap (λ (m : Served). min m.room (length c.args.bytes.now)) c.self.view_is,
      wrote-view link (record link { taken = c.extend_from_slice.new.self; fed = c.in-Ok.fed; said = c.go_on.new.said; promised = false; flushed = false }) bytes c.self.invariant refl w.after_is w.longer ∙ ap (λ (m : Served). record m { taken = m.taken ++ bytes; promised = false; flushed = false }) c.self.view_is,
    )
