use Rattle.std.proofs.Common.{ℕ, List, Option, arith, refl, subst}
use Rattle.std.proofs.lemmas.Grind.{common_steps}
use Rattle.pg_text.specs.declared.command.Answer.TheVariants as answer
use Rattle.pg_types.specs.declared.value.Value.{Value}
use Rattle.pg_text.specs.Written.{Adds, answered}
use Rattle.pg_text.proofs.Texts.{answered_by, answered_so}
use Rattle.pg_text.proofs.print.put_answer.Goals as goal

pub returns-in-Statement : goal.returns-in-Statement
returns-in-Statement c =
    rw c.in-Statement.is
    (answered_by c.args.handle c.args.command c.in-Statement.statement c.args.out.now c.put_number-2.new.out c.put_statement.new.out c.put_statement.result (grind (arith, common_steps)) c.put_statement.ensures)

pub returns-in-Rows : goal.returns-in-Rows
returns-in-Rows c =
    let added =
    subst (λ (rows : List (List (Option (List ℕ)))). Adds (answered (answer.Rows c.in-Rows.statement rows c.in-Rows.affected)) c.put_number-2.new.out c.put_result.new.out c.put_result.result)
    c.as_slice-in-Rows.ensures c.put_result.ensures in
    rw c.in-Rows.is
    (answered_so c.args.handle c.args.command (answer.Rows c.in-Rows.statement c.in-Rows.rows c.in-Rows.affected) c.args.out.now c.put_number-2.new.out c.put_result.new.out c.put_result.result refl (grind (arith, common_steps)) added)

pub returns-in-Scalars : goal.returns-in-Scalars
returns-in-Scalars c =
    let added =
    subst (λ (values : List Value). Adds (answered (answer.Scalars values)) c.put_number-2.new.out c.put_scalars.new.out c.put_scalars.result) c.as_slice-in-Scalars.ensures c.put_scalars.ensures in
    rw c.in-Scalars.is
    (answered_so c.args.handle c.args.command (answer.Scalars c.in-Scalars.values) c.args.out.now c.put_number-2.new.out c.put_scalars.new.out c.put_scalars.result refl (grind (arith, common_steps)) added)
