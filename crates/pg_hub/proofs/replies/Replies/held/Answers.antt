use Rattle.std.proofs.Common.{◌≡◌, length, ap, ◌∙◌, arith}
use Rattle.std.proofs.lemmas.Grind.{common_steps}
use Rattle.pg_hub.specs.Mail.{Mail, held_from}
use Rattle.pg_hub.proofs.Keeping as keeping
use Rattle.pg_hub.proofs.replies.Replies.held.Goals as goal

pub returns : goal.returns
returns c =
    let size : c.len.result ≡ length c.self.inside.kept.items = grind (arith, common_steps) in
    size ∙ keeping.count-is c.self.inside.hung_up.items c.self.inside.kept.items c.self.inside.finished c.self.invariant ∙ ap (λ (m : Mail). held_from 0 m.finished m.boxes) c.self.view_is
