use Rattle.std.proofs.Common.{refl}
use Rattle.pg_text.proofs.DraftLaws.{command_steps, command_within}
use Rattle.pg_text.proofs.parse.Draft.add_command.Goals as goal

pub returns-in_ok-stands-in-Some-clause-steps : goal.returns-in_ok-stands-in-Some-clause-steps
returns-in_ok-stands-in-Some-clause-steps c =
    command_steps c.args.self.now (record c.args.self.now { scripts = c.push_last.new.scripts }) c.in-Some.field-0 c.args.command c.in_ok-stands-in-Some.stands c.in-Some.is refl refl refl refl refl refl refl c.in_ok-stands-in-Some.ensures.last

pub returns-in_ok-stands-in-Some-clause-within : goal.returns-in_ok-stands-in-Some-clause-within
returns-in_ok-stands-in-Some-clause-within c = λ n h. record {
  scripts = command_within c.args.command n c.in_ok-stands-in-Some.stands c.args.self.now.scripts.items c.push_last.new.scripts.items c.in_ok-stands-in-Some.ensures.last h.scripts;
  cut = h.cut;
}
