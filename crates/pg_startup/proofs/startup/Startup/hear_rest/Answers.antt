use Rattle.pg_startup.proofs.Nearing.{rest-none}
use Rattle.pg_startup.proofs.startup.Startup.hear_rest.Goals as goal

pub returns-in-Ok-clause-heard : goal.returns-in-Ok-clause-heard
returns-in-Ok-clause-heard c l first read stands going = (c.in-Ok.field-0, c.in-Ok.ensures.heard l first read stands going)

pub returns-in-Ok-clause-none : goal.returns-in-Ok-clause-none
returns-in-Ok-clause-none c is going = rest-none c.args.self.now c.hear_all.new.self _ c.in-Ok.field-0 c.in-Ok.ensures.none c.in-Ok.ensures.end going
