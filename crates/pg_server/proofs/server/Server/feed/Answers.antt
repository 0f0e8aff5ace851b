use Rattle.std.proofs.Common.{ℕ, List, ◌-◌, sym, ap, ◌∙◌, drop, length}
use Rattle.std.proofs.lemmas.Bool.{false≢true}
use Rattle.pg_server.specs.Servers.{Heard, heard_of}
use Rattle.pg_server.specs.Standings.{Standing, standing_of}
use Rattle.pg_server.proofs.FeedingLaws.{takes_fault, added, feeds_fault, heard_settled}
use Rattle.pg_server.proofs.server.Server.feed.Goals as goal

pub invariant_of-self-in-Ok : goal.invariant_of-self-in-Ok
invariant_of-self-in-Ok g c = record {
  settled = heard_settled g.H.Handler.step (standing_of g.H.Handler.state c.args.self.now.session) (standing_of g.H.Handler.state c.hear.new.self) c.as_slice.result.now
      c.args.out.now.items c.hear.new.out.items c.advance.new.self.items c.in-Ok.left c.in-Ok.ensures
      (c.advance.ensures.items ∙ ap (λ (k : ℕ). drop (k - c.in-Ok.left) c.extend_from_slice.new.self.items) c.len.ensures.value
      ∙ sym (ap (λ (b : List ℕ). drop (length b - c.in-Ok.left) b) c.as_slice.ensures));
}

pub returns-in-Err : goal.returns-in-Err
returns-in-Err g c =
    let old : Heard g.H.Handler.State = heard_of g.H.Handler.state c.args.self.now in
    let new : Heard g.H.Handler.State = record { standing = standing_of g.H.Handler.state c.end-in-Err.new.self; left = c.extend_from_slice.new.self.items } in
    feeds_fault g.H.Handler.step old new c.args.bytes.now c.args.out.now.items c.hear.new.out.items c.in-Err.fault
    (λ over. false≢true (sym c.if-is_over.false ∙ c.is_over.ensures.1 over)) (ap (λ (at : Standing g.H.Handler.State). at.stage) c.end-in-Err.ensures)
    (takes_fault g.H.Handler.step old new (standing_of g.H.Handler.state c.hear.new.self) c.as_slice.result.now c.args.bytes.now c.args.out.now.items c.hear.new.out.items c.in-Err.fault
    (c.as_slice.ensures ∙ added c.extend_from_slice.result _ c.extend_from_slice.ensures.ok (sym c.is_err.ensures.value ∙ c.if-is_err.false)) c.in-Err.ensures)
