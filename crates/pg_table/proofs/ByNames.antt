-- The commands of the table go by names.
use Rattle.std.proofs.Common.{◌≡◌, ℕ, List, Option, refl, ap, ◌∙◌}
use Rattle.pg_types.specs.declared.value.Value.{Value}
use Rattle.pg_desk.specs.declared.statement.Described.{Described as Statement}
use Rattle.pg_text.specs.declared.command.Command.{Command}
use Rattle.pg_text.specs.declared.command.Command.TheVariants as command
use Rattle.pg_text.specs.declared.command.CommandTarget.{CommandTarget}
use Rattle.pg_text.specs.declared.command.CommandTarget.TheVariants.{Slot, Text}
use Rattle.pg_query.specs.Dialogue.{Dialogue}
use Rattle.pg_spec.specs.Dialogues.{Answers, behind}
use Rattle.pg_spec.specs.Isolation.{IsByNames, answer_alone}
use Rattle.pg_spec.proofs.Alone.{alone-of}
use Rattle.pg_core.specs.Outcomes.{asked}
use Rattle.pg_execute.specs.Parameters.{given_of}
use Rattle.pg_execute.specs.Executes as execution
use Rattle.pg_execute.specs.declared.how_many.HowMany.{HowMany}
use Rattle.pg_execute.specs.declared.how_many.HowMany.TheVariants.{Any, AtMostOne, One}
use Rattle.pg_session.specs.Speeches.{meaning_of}
use Rattle.pg_table.specs.Mapped.{mapped}
use Rattle.pg_table.specs.Slots.{Slots, statement_in}
use Rattle.pg_table.specs.Levels.{Levels}
use Rattle.pg_table.specs.declared.own.Own.{Own}
use Rattle.pg_table.specs.Table.{in_count, in_done, in_rows, in_scalars, says_abandon, says_close, says_commit, says_execute, says_query, says_query_raw, says_query_scalar, says_rollback, says_savepoint, table}
use Rattle.pg_table.specs.Targets.{on_target, or_missing}
use Rattle.pg_table.specs.declared.state.AnyAnswer.{AnyAnswer}
use Rattle.pg_table.specs.Names.{Named, named, named_by}

-- where a command says the same, whatever its script keeps, so it does but for what its script has then
by-says : (own other : Own) (c : Command) → table.says own c ≡ table.says other c → answer_alone ((meaning_of table).asks own c) ≡ answer_alone ((meaning_of table).asks other c)
by-says own other c same =
    alone-of (asked (table.says own c)) (λ r. Answers (table.ends own c r)) (λ r. Answers (table.ends other c r)) (λ r. refl)
    ∙ ap (λ (d : Dialogue AnyAnswer). answer_alone (behind (asked d) (λ r. Answers (table.ends other c r)))) same

-- what is done with a target is decided by what it names
on-target : {T : Type 0} (own other : Slots) (to : CommandTarget) (body : Statement → Dialogue T) → named_by to own ≡ named_by to other → on_target own to body ≡ on_target other to body
on-target own other (Slot slot) body same = ap (or_missing body) same
on-target own other (Text text) body same = refl

says-query : (how : HowMany) (own other : Slots) (to : CommandTarget) (values : List Value) → named_by to own ≡ named_by to other → says_query how own to values ≡ says_query how other to values
says-query how own other to values same = ap (mapped in_rows) (on-target own other to (λ s. execution.query how s (given_of values)) same)

says-raw : (take : ℕ) (own other : Slots) (to : CommandTarget) (values : List Value) → named_by to own ≡ named_by to other → says_query_raw take own to values ≡ says_query_raw take other to values
says-raw take own other to values same = ap (mapped in_rows) (on-target own other to (λ s. execution.query_raw take s (given_of values)) same)

says-scalar : (how : HowMany) (own other : Slots) (to : CommandTarget) (values : List Value) → named_by to own ≡ named_by to other → says_query_scalar how own to values ≡ says_query_scalar how other to values
says-scalar how own other to values same = ap (mapped in_scalars) (on-target own other to (λ s. execution.query_scalar how s (given_of values)) same)

says-execute : (own other : Slots) (to : CommandTarget) (values : List Value) → named_by to own ≡ named_by to other → says_execute own to values ≡ says_execute other to values
says-execute own other to values same = ap (mapped in_count) (on-target own other to (λ s. execution.execute s (given_of values)) same)

says-close : (own other : Slots) (slot : ℕ) → statement_in own slot ≡ statement_in other slot → says_close own slot ≡ says_close other slot
says-close own other slot same = ap (λ (o : Option Statement). mapped in_done (or_missing execution.close o)) same

-- the parts of what is named
statement-of : {a b : Named} → a ≡ b → a.statement ≡ b.statement
statement-of e = ap (λ (n : Named). n.statement) e

levels-of : {a b : Named} → a ≡ b → a.levels ≡ b.levels
levels-of e = ap (λ (n : Named). n.levels) e

-- what a command names decides what it asks, and what is kept of its answer isn't told by what its script keeps
pub by-names : IsByNames (meaning_of table) named
by-names own other (command.Simple text take) same = by-says own other (command.Simple text take) refl
by-names own other (command.Batch text) same = by-says own other (command.Batch text) refl
by-names own other command.Check same = by-says own other command.Check refl
by-names own other (command.Prepare slot text types) same = by-says own other (command.Prepare slot text types) refl
by-names own other command.Clear same = by-says own other command.Clear refl
by-names own other (command.Query to values) same = by-says own other (command.Query to values) (says-query Any own.slots other.slots to values (statement-of same))
by-names own other (command.QueryOne to values) same = by-says own other (command.QueryOne to values) (says-query One own.slots other.slots to values (statement-of same))
by-names own other (command.QueryOpt to values) same = by-says own other (command.QueryOpt to values) (says-query AtMostOne own.slots other.slots to values (statement-of same))
by-names own other (command.QueryRaw to take values) same = by-says own other (command.QueryRaw to take values) (says-raw take own.slots other.slots to values (statement-of same))
by-names own other (command.QueryScalar to values) same = by-says own other (command.QueryScalar to values) (says-scalar Any own.slots other.slots to values (statement-of same))
by-names own other (command.QueryOneScalar to values) same = by-says own other (command.QueryOneScalar to values) (says-scalar One own.slots other.slots to values (statement-of same))
by-names own other (command.QueryOptScalar to values) same = by-says own other (command.QueryOptScalar to values) (says-scalar AtMostOne own.slots other.slots to values (statement-of same))
by-names own other (command.Execute to values) same = by-says own other (command.Execute to values) (says-execute own.slots other.slots to values (statement-of same))
by-names own other (command.QueryTyped asked) same = by-says own other (command.QueryTyped asked) refl
by-names own other (command.QueryTypedOne asked) same = by-says own other (command.QueryTypedOne asked) refl
by-names own other (command.QueryTypedOpt asked) same = by-says own other (command.QueryTypedOpt asked) refl
by-names own other (command.ExecuteTyped asked) same = by-says own other (command.ExecuteTyped asked) refl
by-names own other (command.Close slot) same = by-says own other (command.Close slot) (says-close own.slots other.slots slot (statement-of same))
by-names own other (command.Begin modes) same = by-says own other (command.Begin modes) refl
by-names own other (command.Savepoint name) same = by-says own other (command.Savepoint name) (ap (λ (levels : Levels). says_savepoint levels name) (levels-of same))
by-names own other command.Commit same = by-says own other command.Commit (ap says_commit (levels-of same))
by-names own other command.Rollback same = by-says own other command.Rollback (ap says_rollback (levels-of same))
by-names own other command.Abandon same = by-says own other command.Abandon (ap says_abandon (levels-of same))
