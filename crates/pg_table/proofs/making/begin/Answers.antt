use Rattle.pg_table.proofs.making.begin.Goals as goal

pub returns-in-Prepare-clause-asks : goal.returns-in-Prepare-clause-asks
returns-in-Prepare-clause-asks c = rw c.in-Prepare.is c.prepare.ensures.asks

pub returns-in-Query-clause-asks : goal.returns-in-Query-clause-asks
returns-in-Query-clause-asks c = rw c.in-Query.is c.query.ensures.asks

pub returns-in-QueryOne-clause-asks : goal.returns-in-QueryOne-clause-asks
returns-in-QueryOne-clause-asks c = rw c.in-QueryOne.is c.query-in-QueryOne.ensures.asks

pub returns-in-QueryOpt-clause-asks : goal.returns-in-QueryOpt-clause-asks
returns-in-QueryOpt-clause-asks c = rw c.in-QueryOpt.is c.query-in-QueryOpt.ensures.asks

pub returns-in-QueryRaw-clause-asks : goal.returns-in-QueryRaw-clause-asks
returns-in-QueryRaw-clause-asks c = rw c.in-QueryRaw.is c.query_raw.ensures.asks

pub returns-in-QueryScalar-clause-asks : goal.returns-in-QueryScalar-clause-asks
returns-in-QueryScalar-clause-asks c = rw c.in-QueryScalar.is c.query_scalar.ensures.asks

pub returns-in-QueryOneScalar-clause-asks : goal.returns-in-QueryOneScalar-clause-asks
returns-in-QueryOneScalar-clause-asks c = rw c.in-QueryOneScalar.is c.query_scalar-in-QueryOneScalar.ensures.asks

pub returns-in-QueryOptScalar-clause-asks : goal.returns-in-QueryOptScalar-clause-asks
returns-in-QueryOptScalar-clause-asks c = rw c.in-QueryOptScalar.is c.query_scalar-in-QueryOptScalar.ensures.asks

pub returns-in-Execute-clause-asks : goal.returns-in-Execute-clause-asks
returns-in-Execute-clause-asks c = rw c.in-Execute.is c.execute.ensures.asks

pub returns-in-QueryTyped-clause-asks : goal.returns-in-QueryTyped-clause-asks
returns-in-QueryTyped-clause-asks c = rw c.in-QueryTyped.is c.query_typed.ensures.asks

pub returns-in-QueryTypedOne-clause-asks : goal.returns-in-QueryTypedOne-clause-asks
returns-in-QueryTypedOne-clause-asks c = rw c.in-QueryTypedOne.is c.query_typed-in-QueryTypedOne.ensures.asks

pub returns-in-QueryTypedOpt-clause-asks : goal.returns-in-QueryTypedOpt-clause-asks
returns-in-QueryTypedOpt-clause-asks c = rw c.in-QueryTypedOpt.is c.query_typed-in-QueryTypedOpt.ensures.asks

pub returns-in-ExecuteTyped-clause-asks : goal.returns-in-ExecuteTyped-clause-asks
returns-in-ExecuteTyped-clause-asks c = rw c.in-ExecuteTyped.is c.execute_typed.ensures.asks

pub returns-in-Close-clause-asks : goal.returns-in-Close-clause-asks
returns-in-Close-clause-asks c = rw c.in-Close.is c.close.ensures.asks

pub returns-in-Begin-clause-asks : goal.returns-in-Begin-clause-asks
returns-in-Begin-clause-asks c = rw c.in-Begin.is c.begin_transaction.ensures.asks

pub returns-in-Savepoint-clause-asks : goal.returns-in-Savepoint-clause-asks
returns-in-Savepoint-clause-asks c = rw c.in-Savepoint.is c.savepoint.ensures.asks

pub returns-in-Commit-clause-asks : goal.returns-in-Commit-clause-asks
returns-in-Commit-clause-asks c = rw c.in-Commit.is c.commit.ensures.asks

pub returns-in-Rollback-clause-asks : goal.returns-in-Rollback-clause-asks
returns-in-Rollback-clause-asks c = rw c.in-Rollback.is c.rollback.ensures.asks

pub returns-in-Abandon-clause-asks : goal.returns-in-Abandon-clause-asks
returns-in-Abandon-clause-asks c = rw c.in-Abandon.is c.abandon.ensures.asks
