use Rattle.std.proofs.Common.{◌≡◌, ℕ, List, [], Option, Result, Ok, Err, None, false, refl, sym, ◌∙◌, ap, subst}
use Rattle.pg_types.specs.declared.error.Error.{Error}
use Rattle.pg_desk.specs.declared.statement.Described.{Described as Statement}
use Rattle.pg_query.specs.Reading.{reads}
use Rattle.pg_core.specs.Composing.{asks_for}
use Rattle.pg_execute.specs.Executes.{closed_by}
use Rattle.pg_execute.specs.Parameters.{execute_request}
use Rattle.pg_streams.specs.Hearing.{IsNoItem}
use Rattle.pg_streams.specs.RowStates.{IsOpening, asked_first, opening_told}
use Rattle.pg_streams.specs.RowStreams.{query_raw, rows_from}
use Rattle.pg_streams.specs.RowTelling.{opening_heard}
use Rattle.pg_streams.specs.declared.items.Items.{Items}
use Rattle.pg_streams.specs.declared.row_giving.RowOpening.{RowOpening}
use Rattle.pg_streams.proofs.Asking.{asks-opened, asks-refused}
use Rattle.pg_streams.proofs.Closing.{refused-closed}
use Rattle.pg_streams.proofs.query_raw.ask.Goals as goal

pub returns-in-Err-clause-goes : goal.returns-in-Err-clause-goes
returns-in-Err-clause-goes g c vs said n =
    let s = c.args.statement in
    let close = c.args.close in
    let is : execute_request s vs ≡ Err c.in-Err.error = sym said ∙ c.in-Err.is in
    refused-closed g.D.Desk.becomes g.met.D.Desk.stays c.args.stamp c.args.desk.now c.fail_behind.new.desk (closed_by close (query_raw s vs)) n close c.in-Err.error c.fail_behind.result (asked_first s)
    (λ first. IsNoItem first.told) (ap (λ (r : Result (List ℕ) Error). closed_by close (asks_for r (reads false (rows_from s false None)))) is) c.fail_behind.ensures tt

opens-so : (items : Items RowOpening) (s : Statement) (id : ℕ) (close : Option (List ℕ)) → items ≡ record { giving = record { statement = s; bound = false }; id = id; batch = []; close = close; over = false } → IsOpening items
opens-so items s id close is = subst (λ (items : Items RowOpening). IsOpening items) (sym is) (record { on = refl; empty = refl; unbound = refl })

pub returns-in-Ok-book-clause-goes : goal.returns-in-Ok-book-clause-goes
returns-in-Ok-book-clause-goes g c vs said n =
    let s = c.args.statement in
    let close = c.args.close in
    let is : execute_request s vs ≡ Ok c.in-Ok.request = sym said ∙ c.in-Ok.is in (
      asks-opened g.D.Desk.becomes c.args.stamp c.args.desk.now c.book.new.self (closed_by close (query_raw s vs)) n c.in-Ok.request close opening_told opening_heard (record { statement = s; bound = false }) c.in-Ok-book.id c.new.result
          (ap (λ (r : Result (List ℕ) Error). closed_by close (asks_for r (reads false (rows_from s false None)))) is) c.in-Ok-book.ensures.event c.new.ensures,
      opens-so c.new.result s c.in-Ok-book.id close c.new.ensures,
    )

pub returns-in-Ok-book-clause-known : goal.returns-in-Ok-book-clause-known
returns-in-Ok-book-clause-known g c = (opens-so c.new.result c.args.statement c.in-Ok-book.id c.args.close c.new.ensures, ap (λ (items : Items RowOpening). items.giving.statement) c.new.ensures)

pub returns-in-Err-book-clause-goes : goal.returns-in-Err-book-clause-goes
returns-in-Err-book-clause-goes g c vs said n =
    let s = c.args.statement in
    let close = c.args.close in
    let is : execute_request s vs ≡ Ok c.in-Ok.request = sym said ∙ c.in-Ok.is in
    asks-refused g.D.Desk.becomes c.args.stamp c.args.desk.now c.book.new.self (closed_by close (query_raw s vs)) (closed_by close (reads false (rows_from s false None))) n c.in-Ok.request c.in-Err-book.fault
    c.error_of.result (asked_first s) (λ first. IsNoItem first.told) (ap (λ (r : Result (List ℕ) Error). closed_by close (asks_for r (reads false (rows_from s false None)))) is) c.in-Err-book.ensures.event c.error_of.ensures tt
