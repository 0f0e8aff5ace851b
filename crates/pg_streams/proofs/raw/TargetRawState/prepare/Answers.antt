use Rattle.std.proofs.Common.{Result, refl, inl, subst}
use Rattle.pg_types.specs.declared.error.Error.{Error}
use Rattle.pg_query.specs.Meaning.{GoesToAnswer}
use Rattle.pg_desk.specs.declared.statement.Described.{Described}
use Rattle.pg_execute.specs.Parameters.{Params, params}
use Rattle.pg_streams.specs.Handing.{asking}
use Rattle.pg_streams.specs.RowStates.{IsBegun, asked_first, statement_of}
use Rattle.pg_streams.specs.States.{IsLiveSo, asks_so, finding_so, first_so, place_so, queried_and_closed, statement_so, text_place}
use Rattle.pg_streams.proofs.Begun.{rows-stand}
use Rattle.pg_streams.proofs.Behind.{error-whole, pauses-whole, value-whole}
use Rattle.pg_streams.proofs.Later.{handed-later}
use Rattle.pg_streams.proofs.Targets.{prepared-opens, prepared-known}
use Rattle.pg_streams.proofs.Texts.{queried-deaf}
use Rattle.pg_streams.proofs.raw.TargetRawState.prepare.Goals as goal

pub returns-in-Pending : goal.returns-in-Pending
returns-in-Pending g c =
    let vs : Params = params (g.P.Params.count c.args.values) (g.P.Params.gives_at c.args.values) in
    record {
      finds = (
        inl (
          refl,
          record {
            pauses = pauses-whole (queried_and_closed vs) (queried-deaf vs) g.D.Desk.becomes c.args.stamp c.args.desk.now (g.A.Polled.place c.args.prepare) c.poll.new.desk (g.A.Polled.place c.poll.new.self) c.in-Pending.ensures.0;
            stays = λ k. inl refl;
            came = λ k no. absurd no;
            same = λ k no. refl;
          },
          c.in-Pending.ensures.0,
        ),
        (c.in-Pending.ensures.1, c.requires.asks),
      );
    }

pub returns-in-Ready-Ok : goal.returns-in-Ready-Ok
returns-in-Ready-Ok g c =
    let ok = c.in-Ready-Ok in
    let vs : Params = params (g.P.Params.count c.args.values) (g.P.Params.gives_at c.args.values) in
    let text = c.args.self.now.text in
    let query = record c.args.self.now.query { reply = c.close_behind.new.reply } in
    let finds = value-whole (queried_and_closed vs) (queried-deaf vs) g.D.Desk.becomes c.args.stamp c.args.desk.now (g.A.Polled.place c.args.prepare) c.poll.new.desk ok.field-0 ok.statement ok.field-0-is ok.ensures in
    let found = subst (λ (r : Result Described Error). GoesToAnswer g.D.Desk.becomes c.args.stamp c.args.desk.now (g.A.Polled.place c.args.prepare) c.poll.new.desk r) ok.field-0-is ok.ensures in
    record {
      finds =
          handed-later g.D.Desk.becomes rows-stand IsBegun statement_of c.args.stamp c.args.desk.now (g.A.Polled.place c.args.prepare) (text_place (g.A.Polled.place c.args.prepare) vs) (asking (queried_and_closed vs) asked_first) ok.statement c.poll.new.desk
          ok.ensures.last.reads found finds c.close_behind.new.desk (finding_so g.A.Polled.place text) (place_so g.A.Polled.place (λ p. params (g.P.Params.count p) (g.P.Params.gives_at p)) text query) (asking (asks_so (λ p. params (g.P.Params.count p) (g.P.Params.gives_at p)) text query) (first_so text query)) (statement_so text query) (IsLiveSo g.A.Polled.is_live text query) c.close_behind.result
          (prepared-opens g.A.Polled.place g.A.Polled.is_live (λ p. params (g.P.Params.count p) (g.P.Params.gives_at p)) g.D.Desk.becomes c.args.stamp c.poll.new.desk c.close_behind.new.desk text c.args.self.now.query c.close_behind.new.reply c.requires.alone c.requires.asks ok.statement _ c.close_behind.result
          (c.close_behind.ensures.opens vs c.execute_request-request.ensures ok.ensures.last.reads))
          (prepared-known text c.args.self.now.query c.close_behind.new.reply c.requires.alone c.requires.asks ok.statement c.close_behind.result c.close_behind.ensures.known);
    }

pub returns-in-Ready-Err : goal.returns-in-Ready-Err
returns-in-Ready-Err g c =
    let err = c.in-Ready-Err in
    let vs : Params = params (g.P.Params.count c.args.values) (g.P.Params.gives_at c.args.values) in
    record {
      finds = inl (
        subst (λ (r : Result Described Error). GoesToAnswer g.D.Desk.becomes c.args.stamp c.args.desk.now (g.A.Polled.place c.args.prepare) c.poll.new.desk r) err.field-0-is err.ensures,
        error-whole (queried_and_closed vs) (queried-deaf vs) g.D.Desk.becomes c.args.stamp c.args.desk.now (g.A.Polled.place c.args.prepare) c.poll.new.desk err.field-0 err.error err.field-0-is err.ensures,
      );
    }
