use Rattle.std.proofs.Common.{◌≡◌, length, sym, ◌∙◌, arith}
use Rattle.std.proofs.lemmas.Grind.{common_steps}
use Rattle.pg_hub.proofs.Keeping.{booked-is}
use Rattle.pg_hub.proofs.replies.Replies.len.Goals as goal

pub returns : goal.returns
returns c =
    let size : c.len.result ≡ length c.self.inside.hung_up.items = grind (arith, common_steps) in
    size ∙ sym (booked-is c.args.self.now c.self.inside.hung_up.items c.self.inside.kept.items c.self.inside.finished c.self.view_is)
