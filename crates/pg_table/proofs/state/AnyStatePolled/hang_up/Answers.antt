use Rattle.pg_table.proofs.state.AnyStatePolled.hang_up.Goals as goal

pub returns-in-Simple : goal.returns-in-Simple
returns-in-Simple g c = rw c.in-Simple.is c.given_up.ensures

pub returns-in-Batch : goal.returns-in-Batch
returns-in-Batch g c = rw c.in-Batch.is c.given_up-in-Batch.ensures

pub returns-in-Check : goal.returns-in-Check
returns-in-Check g c = rw c.in-Check.is c.given_up-in-Check.ensures

pub returns-in-Prepare : goal.returns-in-Prepare
returns-in-Prepare g c = rw c.in-Prepare.is c.given_up-in-Prepare.ensures

pub returns-in-Clear : goal.returns-in-Clear
returns-in-Clear g c = rw c.in-Clear.is c.given_up-in-Clear.ensures

pub returns-in-Query : goal.returns-in-Query
returns-in-Query g c = rw c.in-Query.is c.given_up-in-Query.ensures

pub returns-in-QueryRaw : goal.returns-in-QueryRaw
returns-in-QueryRaw g c = rw c.in-QueryRaw.is c.given_up-in-QueryRaw.ensures

pub returns-in-Scalar : goal.returns-in-Scalar
returns-in-Scalar g c = rw c.in-Scalar.is c.given_up-in-Scalar.ensures

pub returns-in-Execute : goal.returns-in-Execute
returns-in-Execute g c = rw c.in-Execute.is c.given_up-in-Execute.ensures

pub returns-in-QueryTyped : goal.returns-in-QueryTyped
returns-in-QueryTyped g c = rw c.in-QueryTyped.is c.given_up-in-QueryTyped.ensures

pub returns-in-ExecuteTyped : goal.returns-in-ExecuteTyped
returns-in-ExecuteTyped g c = rw c.in-ExecuteTyped.is c.given_up-in-ExecuteTyped.ensures

pub returns-in-Close : goal.returns-in-Close
returns-in-Close g c = rw c.in-Close.is c.given_up-in-Close.ensures

pub returns-in-Begin : goal.returns-in-Begin
returns-in-Begin g c = rw c.in-Begin.is c.given_up-in-Begin.ensures

pub returns-in-Abandon : goal.returns-in-Abandon
returns-in-Abandon g c = rw c.in-Abandon.is c.given_up-in-Abandon.ensures

pub returns-in-Missing : goal.returns-in-Missing
returns-in-Missing g c = rw c.in-Missing.is c.given_up-in-Missing.ensures
