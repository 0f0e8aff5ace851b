use Rattle.std.proofs.Common.{[], refl, ap, ◌∙◌}
use Rattle.pg_connect.specs.declared.streams.Streams.{Streams}
use Rattle.pg_connect.specs.Passes.{delayed_in}
use Rattle.pg_connect.proofs.Calm.{calm_more, calm_same}
use Rattle.pg_connect.proofs.Joining.{passes-joined, keeps_same, untouched_same}
use Rattle.pg_connect.proofs.Sends.{passes_took_of, passes_nothing}
use Rattle.pg_connect.proofs.streams.Streams.offer.Goals as goal

pub loop-link-init : goal.loop-link-init
loop-link-init g c = record {
  passes = passes_nothing c.args.self.now (g.L.Link.view c.args.link.now) (g.L.Link.view c.args.link.now) [] c.requires (untouched_same _) (keeps_same _) refl refl refl refl;
  only = record { given = refl; count = refl; buffer = refl; held = refl; delayed = refl; unread = refl; at_end = refl };
  shut = refl;
  closing = refl;
  unread = c.requires;
  calm = calm_same _;
  quiet = refl;
}

pub loop-link-preserved : goal.loop-link-preserved
loop-link-preserved g c =
    let s = c.loop-link.self in
    let t = c.took.new.self in
    let was = c.loop-link.invariant in
    record {
      passes = passes-joined c.args.self.now s t (g.L.Link.view c.args.link.now) (g.L.Link.view c.loop-link.link) (g.L.Link.view c.write.new.self) [] [] [] []
          was.passes
          (passes_took_of s t (g.L.Link.view c.loop-link.link) (g.L.Link.view c.write.new.self) c.in-Took.n c.as_slice.result.now was.unread
          c.as_slice.ensures c.in-Took.ensures.answer.0 c.in-Took.ensures.keeps c.took.ensures);
      only = record {
        given = c.in-Took.ensures.answer.0.given ∙ was.only.given;
        count = ap (λ (x : Streams). x.given) c.took.ensures ∙ was.only.count;
        buffer = ap (λ (x : Streams). x.buffer.items) c.took.ensures ∙ was.only.buffer;
        held = ap (λ (x : Streams). x.held) c.took.ensures ∙ was.only.held;
        delayed = ap delayed_in c.took.ensures ∙ was.only.delayed;
        unread = ap (λ (x : Streams). x.unread) c.took.ensures ∙ was.only.unread;
        at_end = ap (λ (x : Streams). x.at_end) c.took.ensures ∙ was.only.at_end;
      };
      shut = c.in-Took.ensures.answer.0.shut ∙ was.shut;
      closing = ap (λ (x : Streams). x.closing) c.took.ensures ∙ was.closing;
      unread = ap (λ (x : Streams). x.unread) c.took.ensures ∙ was.unread;
      calm = calm_more _ _ _ _ was.calm c.in-Took.ensures.keeps c.in-Took.ensures.promise;
      quiet = c.in-Took.ensures.answer.0.quiet ∙ was.quiet;
    }
