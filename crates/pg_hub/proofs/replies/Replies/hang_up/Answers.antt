use Rattle.std.proofs.Common.{◌≡◌, ◌<◌, length, List, true, ap, sym, subst, ◌∙◌, arith, slice_set, remove}
use Rattle.std.proofs.lemmas.Grind.{common_steps}
use Rattle.pg_hub.specs.declared.mailbox.Mailbox.{Mailbox}
use Rattle.pg_hub.specs.declared.mailbox.Mailbox.TheVariants.{Empty, HungUp}
use Rattle.pg_hub.specs.declared.mailbox.Kept.{Kept}
use Rattle.pg_hub.specs.Mail.{Mail, KeepsHeld}
use Rattle.pg_hub.proofs.Keeping as keeping
use Rattle.pg_hub.proofs.replies.Replies.hang_up.Goals as goal

pub index_mut-requires : goal.index_mut-requires
index_mut-requires c =
    let all = keeping.booked-is c.args.self.now c.self.inside.hung_up.items c.self.inside.kept.items c.self.inside.finished c.self.view_is in
    let low : c.args.place < length c.self.inside.hung_up.items = omega (arith, all, c.requires) in
    grind (arith, common_steps)

pub invariant_of-self : goal.invariant_of-self
invariant_of-self c =
    let inside : c.in-Ok.i < length c.self.inside.kept.items = keeping.at-low c.args.place c.self.inside.kept.items c.in-Ok.i c.in-Ok.ensures in
    let kept : c.remove.new.self.items ≡ remove c.self.inside.kept.items c.in-Ok.i =
    keeping.at-some c.remove.result _ (c.remove.new.self.items ≡ remove c.self.inside.kept.items c.in-Ok.i) (c.remove.ensures.succeeds (record { id = 0; mailbox = Empty }) (grind (arith, common_steps))) c.remove.ensures.items in
    subst (λ (l : List Kept). KeepsHeld (slice_set c.self.inside.hung_up.items c.args.place true) l c.self.inside.finished) (sym kept)
    (keeping.hung-kept c.self.inside.hung_up.items c.self.inside.kept.items c.self.inside.finished c.args.place c.in-Ok.i c.self.invariant c.in-Ok.ensures).1

pub invariant_of-self-in_default : goal.invariant_of-self-in_default
invariant_of-self-in_default c =
    let all = keeping.booked-is c.args.self.now c.self.inside.hung_up.items c.self.inside.kept.items c.self.inside.finished c.self.view_is in
    let low : c.args.place < length c.self.inside.hung_up.items = omega (arith, all, c.requires) in
    (keeping.hung-absent c.self.inside.hung_up.items c.self.inside.kept.items c.self.inside.finished c.args.place c.self.invariant c.in_default.ensures low).1

pub returns-in-Ok : goal.returns-in-Ok
returns-in-Ok c =
    let inside : c.in-Ok.i < length c.self.inside.kept.items = keeping.at-low c.args.place c.self.inside.kept.items c.in-Ok.i c.in-Ok.ensures in
    let kept : c.remove.new.self.items ≡ remove c.self.inside.kept.items c.in-Ok.i =
    keeping.at-some c.remove.result _ (c.remove.new.self.items ≡ remove c.self.inside.kept.items c.in-Ok.i) (c.remove.ensures.succeeds (record { id = 0; mailbox = Empty }) (grind (arith, common_steps))) c.remove.ensures.items in
    ap (λ (l : List Kept). keeping.mail_of (slice_set c.self.inside.hung_up.items c.args.place true) l c.self.inside.finished) kept
    ∙ ap (λ (ms : List Mailbox). record { boxes = ms; finished = c.self.inside.finished })
    (keeping.hung-kept c.self.inside.hung_up.items c.self.inside.kept.items c.self.inside.finished c.args.place c.in-Ok.i c.self.invariant c.in-Ok.ensures).0
    ∙ ap (λ (m : Mail). record { boxes = slice_set m.boxes c.args.place HungUp; finished = m.finished }) c.self.view_is

pub returns-in_default : goal.returns-in_default
returns-in_default c =
    let all = keeping.booked-is c.args.self.now c.self.inside.hung_up.items c.self.inside.kept.items c.self.inside.finished c.self.view_is in
    let low : c.args.place < length c.self.inside.hung_up.items = omega (arith, all, c.requires) in
    ap (λ (ms : List Mailbox). record { boxes = ms; finished = c.self.inside.finished })
    (keeping.hung-absent c.self.inside.hung_up.items c.self.inside.kept.items c.self.inside.finished c.args.place c.self.invariant c.in_default.ensures low).0
    ∙ ap (λ (m : Mail). record { boxes = slice_set m.boxes c.args.place HungUp; finished = m.finished }) c.self.view_is
