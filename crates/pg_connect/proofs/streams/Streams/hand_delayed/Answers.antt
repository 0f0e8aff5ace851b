use Rattle.std.proofs.Common.{[], refl, ap, arith, length, subst, Some, Result}
use Rattle.pg_types.specs.declared.db_error.DbError.{DbError}
use Rattle.pg_connect.specs.declared.fault.ConnectionFault.{ConnectionFault}
use Rattle.pg_connect.specs.Reads.{ReadsFirst}
use Rattle.pg_connect.proofs.Joining.{keeps_same, untouched_same}
use Rattle.pg_connect.proofs.Taking.{delayed_taken, piece_none}
use Rattle.pg_connect.proofs.streams.Streams.hand_delayed.Goals as goal

pub returns-in-None-clause-passes : goal.returns-in-None-clause-passes
returns-in-None-clause-passes c = λ l. record {
  handed = [];
  is = refl;
  passes = piece_none c.args.self.now c.args.self.now.buffer c.args.self.now.piece l l c.requires refl (untouched_same l) (keeps_same l);
}

pub returns-in-Some-Err-clause-passes : goal.returns-in-Some-Err-clause-passes
returns-in-Some-Err-clause-passes c = λ l. record {
  handed = [];
  is = refl;
  passes = piece_none c.args.self.now c.args.self.now.buffer c.args.self.now.piece l l c.requires refl (untouched_same l) (keeps_same l);
}

pub returns-in-Some-Ok-clause-passes : goal.returns-in-Some-Ok-clause-passes
returns-in-Some-Ok-clause-passes c =
    let w = c.in-Some-Ok in
    let first = subst (λ (r : Result DbError ConnectionFault). ReadsFirst c.args.self.now (Some r)) w.field-0-is w.ensures in
    λ l. delayed_taken c.args.self.now c.drop_notice.new.self l w.notice c.requires first c.drop_notice.ensures.delayed c.drop_notice.ensures.same

pub returns-in-Some-Ok-clause-end : goal.returns-in-Some-Ok-clause-end
returns-in-Some-Ok-clause-end c =
    let w = c.in-Some-Ok in
    let first = subst (λ (r : Result DbError ConnectionFault). ReadsFirst c.args.self.now (Some r)) w.field-0-is w.ensures in
    omega (arith, ap length first.first)
