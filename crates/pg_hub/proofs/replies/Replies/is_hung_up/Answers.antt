use Rattle.std.proofs.Common.{◌<◌, length, true, ap, ◌∙◌, arith}
use Rattle.std.proofs.lemmas.Grind.{common_steps}
use Rattle.std.proofs.lemmas.List.{get_or_read}
use Rattle.pg_hub.specs.Mail.{Mail, at, is_gone}
use Rattle.pg_hub.proofs.Keeping as keeping
use Rattle.pg_hub.proofs.replies.Replies.is_hung_up.Goals as goal

pub index-requires : goal.index-requires
index-requires c =
    let all = keeping.booked-is c.args.self.now c.self.inside.hung_up.items c.self.inside.kept.items c.self.inside.finished c.self.view_is in
    let low : c.args.place < length c.self.inside.hung_up.items = omega (arith, all, c.requires) in
    grind (arith, common_steps)

pub returns : goal.returns
returns c =
    let all = keeping.booked-is c.args.self.now c.self.inside.hung_up.items c.self.inside.kept.items c.self.inside.finished c.self.view_is in
    let low : c.args.place < length c.self.inside.hung_up.items = omega (arith, all, c.requires) in
    get_or_read c.self.inside.hung_up.items c.args.place _ low c.index.ensures true
    ∙ keeping.gone-is c.self.inside.hung_up.items c.self.inside.kept.items c.self.inside.finished c.args.place c.self.invariant low
    ∙ ap (λ (m : Mail). is_gone (at m.boxes c.args.place)) c.self.view_is
