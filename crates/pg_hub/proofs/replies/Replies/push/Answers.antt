use Rattle.std.proofs.Common.{◌≡◌, ◌++◌, ◌∷◌, [], length, List, false, ap, ◌∙◌, arith}
use Rattle.std.proofs.lemmas.Grind.{common_steps}
use Rattle.pg_hub.specs.declared.mailbox.Mailbox.{Mailbox}
use Rattle.pg_hub.specs.declared.mailbox.Mailbox.TheVariants.{Empty}
use Rattle.pg_hub.specs.Mail.{Mail}
use Rattle.pg_hub.proofs.Keeping as keeping
use Rattle.pg_hub.proofs.replies.Replies.push.Goals as goal

pub invariant_of-self-2 : goal.invariant_of-self-2
invariant_of-self-2 c =
    let gone : c.push.new.self.items ≡ c.self.inside.hung_up.items ++ false ∷ [] = grind (arith, common_steps) in
    let number : c.len-id.result ≡ length c.self.inside.hung_up.items = grind (arith, common_steps) in
    let kept : c.push_back_reserved.new.self.items ≡ c.self.inside.kept.items ++ record { id = c.len-id.result; mailbox = Empty } ∷ [] = grind (arith, common_steps) in
    (keeping.one-more-named c.self.inside.hung_up.items c.push.new.self.items c.self.inside.kept.items c.push_back_reserved.new.self.items c.len-id.result c.self.inside.finished c.self.invariant gone number kept).1

pub returns : goal.returns
returns c =
    let gone : c.push.new.self.items ≡ c.self.inside.hung_up.items ++ false ∷ [] = grind (arith, common_steps) in
    let number : c.len-id.result ≡ length c.self.inside.hung_up.items = grind (arith, common_steps) in
    let kept : c.push_back_reserved.new.self.items ≡ c.self.inside.kept.items ++ record { id = c.len-id.result; mailbox = Empty } ∷ [] = grind (arith, common_steps) in
    ap (λ (ms : List Mailbox). record { boxes = ms; finished = c.self.inside.finished })
    (keeping.one-more-named c.self.inside.hung_up.items c.push.new.self.items c.self.inside.kept.items c.push_back_reserved.new.self.items c.len-id.result c.self.inside.finished c.self.invariant gone number kept).0
    ∙ ap (λ (m : Mail). record { boxes = m.boxes ++ Empty ∷ []; finished = m.finished }) c.self.view_is
