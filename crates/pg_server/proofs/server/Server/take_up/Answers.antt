use Rattle.std.proofs.Common.{◌≡◌, ℕ, List, ◌++◌, Option, Ok, Err, sym, ap, subst, ◌∙◌}
use Rattle.pg_server.specs.declared.answer.Answer.{Answer}
use Rattle.pg_server.specs.Servers.{Heard, heard_of}
use Rattle.pg_server.specs.Settled.{is_settled}
use Rattle.pg_server.specs.Standings.{Standing, Steps, front, standing_of}
use Rattle.pg_server.proofs.FeedingLaws.{added}
use Rattle.pg_server.proofs.SettledLaws.{waited-settled, given_back, kept-settled, kept-takes, stopped-takes, answered-takes}
use Rattle.pg_server.proofs.server.Server.take_up.Goals as goal

pub invariant_of-self-in-Ok-None : goal.invariant_of-self-in-Ok-None
invariant_of-self-in-Ok-None g c = record {
  settled = waited-settled g.H.Handler.step (standing_of g.H.Handler.state c.args.self.now.session) (standing_of g.H.Handler.state c.step.new.self) c.as_slice.result.now
      c.extend_from_slice.new.self.items c.in-Ok-None.field-0 c.in-Ok-None.field-0-is c.in-Ok-None.ensures c.as_slice.ensures;
}

pub invariant_of-self-in-OutOfMemory : goal.invariant_of-self-in-OutOfMemory
invariant_of-self-in-OutOfMemory g c =
    let added' : c.extend_from_slice.new.self.items ≡ c.args.self.now.left.items ++ c.args.bytes.now
    = added c.extend_from_slice.result _ c.extend_from_slice.ensures.ok (sym c.is_err.ensures.value ∙ c.if-is_err.false) in
    let back : c.truncate.new.self.items ≡ c.args.self.now.left.items
    = given_back c.args.self.now.left.items c.args.bytes.now c.extend_from_slice.new.self.items c.truncate.new.self.items c.len-len.result added' c.len-len.ensures.value c.truncate.ensures.items in record {
      settled = kept-settled g.H.Handler.step (standing_of g.H.Handler.state c.args.self.now.session) (standing_of g.H.Handler.state c.step.new.self) c.as_slice.result.now c.truncate.new.self.items
          c.in-Err.fault c.in-OutOfMemory.is c.in-Err.ensures (ap (is_settled c.args.self.now.session.stage) back ∙ c.args.self.now.settled);
    }

pub returns-in-Ok-Some : goal.returns-in-Ok-Some
returns-in-Ok-Some g c =
    let old : Heard g.H.Handler.State = heard_of g.H.Handler.state c.args.self.now in
    let new : Heard g.H.Handler.State = record { standing = standing_of g.H.Handler.state c.step.new.self; left = c.clear.new.self.items } in
    answered-takes g.H.Handler.step old new c.as_slice.result.now c.args.bytes.now c.in-Ok-Some.said
    (c.as_slice.ensures ∙ added c.extend_from_slice.result _ c.extend_from_slice.ensures.ok (sym c.is_err.ensures.value ∙ c.if-is_err.false)) c.args.self.now.settled
    (subst (λ (o : Option (Answer × ℕ)). Steps (front g.H.Handler.step old.standing c.as_slice.result.now) old.standing new.standing c.as_slice.result.now (Ok o)) c.in-Ok-Some.field-0-is c.in-Ok-Some.ensures)
    c.clear.ensures.items

pub returns-in-OutOfMemory : goal.returns-in-OutOfMemory
returns-in-OutOfMemory g c =
    let old : Heard g.H.Handler.State = heard_of g.H.Handler.state c.args.self.now in
    let new : Heard g.H.Handler.State = record { standing = standing_of g.H.Handler.state c.step.new.self; left = c.truncate.new.self.items } in
    let added' : c.extend_from_slice.new.self.items ≡ c.args.self.now.left.items ++ c.args.bytes.now
    = added c.extend_from_slice.result _ c.extend_from_slice.ensures.ok (sym c.is_err.ensures.value ∙ c.if-is_err.false) in
    kept-takes g.H.Handler.step old new c.as_slice.result.now c.args.bytes.now c.in-Err.fault c.in-OutOfMemory.is c.in-Err.ensures
    (given_back c.args.self.now.left.items c.args.bytes.now c.extend_from_slice.new.self.items c.truncate.new.self.items c.len-len.result added' c.len-len.ensures.value c.truncate.ensures.items)

pub returns-in_default : goal.returns-in_default
returns-in_default g c =
    let old : Heard g.H.Handler.State = heard_of g.H.Handler.state c.args.self.now in
    let new : Heard g.H.Handler.State = record { standing = standing_of g.H.Handler.state c.end.new.self; left = c.extend_from_slice.new.self.items } in
    let added' : c.extend_from_slice.new.self.items ≡ c.args.self.now.left.items ++ c.args.bytes.now
    = added c.extend_from_slice.result _ c.extend_from_slice.ensures.ok (sym c.is_err.ensures.value ∙ c.if-is_err.false) in
    stopped-takes (front g.H.Handler.step old.standing (c.args.self.now.left.items ++ c.args.bytes.now)) old new (standing_of g.H.Handler.state c.step.new.self)
    (c.args.self.now.left.items ++ c.args.bytes.now) c.args.bytes.now c.in-Err.fault c.in_default.not-OutOfMemory
    (subst (λ (b : List ℕ). Steps (front g.H.Handler.step old.standing b) old.standing (standing_of g.H.Handler.state c.step.new.self) b (Err c.in-Err.fault)) (c.as_slice.ensures ∙ added') c.in-Err.ensures)
    (ap (λ (at : Standing g.H.Handler.State). at.stage) c.end.ensures)
