use Rattle.std.proofs.Common.{◌≡◌, ◌<◌, length, List, ap, sym, subst, ◌∙◌, arith, slice_set}
use Rattle.pg_hub.specs.declared.mailbox.Mailbox.{Mailbox}
use Rattle.pg_hub.specs.declared.mailbox.Kept.{Kept}
use Rattle.pg_hub.specs.Mail.{Mail, at, first_of, rest_of, KeepsHeld}
use Rattle.pg_hub.proofs.Keeping as keeping
use Rattle.pg_hub.proofs.replies.Replies.take.Goals as goal

pub take_at-requires : goal.take_at-requires
take_at-requires c = keeping.at-low c.args.place c.self.inside.kept.items c.in-Ok.i c.in-Ok.ensures

pub invariant_of-self : goal.invariant_of-self
invariant_of-self c = subst (λ (l : List Kept). KeepsHeld c.self.inside.hung_up.items l c.self.inside.finished) (sym c.take_at.ensures.rest)
    (keeping.taken c.self.inside.hung_up.items c.self.inside.kept.items c.self.inside.finished c.args.place c.in-Ok.i c.self.invariant c.in-Ok.ensures).1

pub returns-in-Err-clause-result : goal.returns-in-Err-clause-result
returns-in-Err-clause-result c =
    let all = keeping.booked-is c.args.self.now c.self.inside.hung_up.items c.self.inside.kept.items c.self.inside.finished c.self.view_is in
    let low : c.args.place < length c.self.inside.hung_up.items = omega (arith, all, c.requires) in
    (keeping.nothing-taken c.self.inside.hung_up.items c.self.inside.kept.items c.args.place c.in-Err.ensures low).0 ∙ ap (λ (m : Mail). first_of (at m.boxes c.args.place)) c.self.view_is

pub returns-in-Err-clause-rest : goal.returns-in-Err-clause-rest
returns-in-Err-clause-rest c =
    let all = keeping.booked-is c.args.self.now c.self.inside.hung_up.items c.self.inside.kept.items c.self.inside.finished c.self.view_is in
    let low : c.args.place < length c.self.inside.hung_up.items = omega (arith, all, c.requires) in
    subst (λ (m : Mail). m ≡ record { boxes = slice_set m.boxes c.args.place (rest_of (at m.boxes c.args.place)); finished = m.finished }) c.self.view_is
    (ap (λ (ms : List Mailbox). record { boxes = ms; finished = c.self.inside.finished }) (keeping.nothing-taken c.self.inside.hung_up.items c.self.inside.kept.items c.args.place c.in-Err.ensures low).1)

pub returns-in-Ok-clause-result : goal.returns-in-Ok-clause-result
returns-in-Ok-clause-result c =
    c.take_at.ensures.result
    ∙ ap first_of (sym (keeping.seen-kept c.self.inside.hung_up.items c.self.inside.kept.items c.self.inside.finished c.args.place c.in-Ok.i c.self.invariant c.in-Ok.ensures))
    ∙ ap (λ (m : Mail). first_of (at m.boxes c.args.place)) c.self.view_is

pub returns-in-Ok-clause-rest : goal.returns-in-Ok-clause-rest
returns-in-Ok-clause-rest c =
    ap (λ (l : List Kept). keeping.mail_of c.self.inside.hung_up.items l c.self.inside.finished) c.take_at.ensures.rest
    ∙ ap (λ (ms : List Mailbox). record { boxes = ms; finished = c.self.inside.finished })
    (keeping.taken c.self.inside.hung_up.items c.self.inside.kept.items c.self.inside.finished c.args.place c.in-Ok.i c.self.invariant c.in-Ok.ensures).0
    ∙ ap (λ (m : Mail). record { boxes = slice_set m.boxes c.args.place (rest_of (at m.boxes c.args.place)); finished = m.finished }) c.self.view_is
