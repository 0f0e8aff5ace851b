use Rattle.std.proofs.Common.{map, ◌++◌, ap, ◌∙◌}
use Rattle.pg_spec.specs.Book.{wire}
use Rattle.pg_spec.specs.Frames.{terminate_frame}
use Rattle.pg_core.specs.Trails.{said_booking}
use Rattle.pg_errors.specs.Views.{async_of}
use Rattle.pg_play.specs.Parameters.{pair_view}
use Rattle.pg_play.specs.declared.report.Report.{Report}
use Rattle.pg_play.proofs.Made.{answers_view}
use Rattle.pg_play.proofs.report.Play+S+S+Answer+S+Slots.into_report.Goals as goal

pub returns-in-Ok-clause-report : goal.returns-in-Ok-clause-report
returns-in-Ok-clause-report g c =
    let told = c.reported.ensures in
    record {
      answers = ap (λ (r : Report _). r.answers) told ∙ (rw c.in-Ok.ensures.answers at c.answers_of.ensures)
          ∙ answers_view g.S.Spoken.speech g.S.Polled.place c.args.self.handles.items;
      asynchronous = ap (λ (r : Report _). map async_of r.asynchronous) told;
      parameters = ap (λ (r : Report _). map pair_view r.parameters) told ∙ (rw c.in-Ok.ensures.parameters at c.parameters_of-parameters.ensures);
      key = ap (λ (r : Report _). (r.process_id, r.secret_key)) told;
      book = ap (λ (r : Report _). map said_booking r.book) told
          ∙ ap (map said_booking) ((rw c.in-Ok.ensures.requests at c.requests_of-requests.ensures.book) ∙ c.into_book.ensures);
      trace = ap (λ (r : Report _). r.trace) told;
      sent = ap (λ (r : Report _). r.sent) told ∙ (rw c.in-Ok.ensures.requests at c.requests_of-requests.ensures.sent)
          ∙ ap (λ book. c.args.opening.items ++ wire (map said_booking book) ++ terminate_frame) c.into_book.ensures;
    }
