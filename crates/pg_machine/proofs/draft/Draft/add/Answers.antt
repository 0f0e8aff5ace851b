use Rattle.pg_machine.proofs.draft.Draft.add.Goals as goal

pub returns-in-Startup-clause-said : goal.returns-in-Startup-clause-said
returns-in-Startup-clause-said c = rw c.in-Startup.is (c.set_startup.ensures.said c.args.number)
