use Rattle.std.proofs.Common.{◌≡◌, ◌<◌, ◌+◌, ℕ, length, List, Bool, if◌then◌else◌, None, Some, ap, sym, subst, ◌∙◌, arith, slice_set, add_comm}
use Rattle.std.proofs.lemmas.Grind.{common_steps}
use Rattle.std.proofs.lemmas.List.{get_or_read}
use Rattle.pg_hub.specs.declared.mailbox.Mailbox.{Mailbox}
use Rattle.pg_hub.specs.declared.mailbox.Mailbox.TheVariants.{Empty, HungUp}
use Rattle.pg_hub.specs.declared.mailbox.Kept.{Kept}
use Rattle.pg_hub.specs.Mail.{Mail, at, received_by, boxes_from, KeepsHeld}
use Rattle.pg_hub.specs.Places.{kept_at, mailbox_at}
use Rattle.pg_hub.proofs.Keeping as keeping
use Rattle.pg_hub.proofs.replies.Replies.put.Goals as goal
use Rattle.pg_hub.proofs.replies.Replies.put.Goals.{then-complete, else-complete, then-complete-2, else-complete-2}

pub invariant_of-self : goal.invariant_of-self
invariant_of-self c =
    let inside : c.self.inside.finished < length (boxes_from 0 c.self.inside.hung_up.items c.self.inside.kept.items) = subst (λ (m : Mail). m.finished < length m.boxes) (sym c.self.view_is) c.requires in
    let size = keeping.length-boxes-from 0 c.self.inside.hung_up.items c.self.inside.kept.items in
    let low : c.self.inside.finished < length c.self.inside.hung_up.items = omega (arith, inside, size) in
    let counts : c.if-complete.self ≡ (if c.args.complete then 1 else 0) = elim c.if-complete.branch [
      | then-complete w ↦ w.self-is ∙ ap (λ (b : Bool). if b then 1 else 0) (sym w.if-complete.true)
      | else-complete w ↦ w.self-is ∙ ap (λ (b : Bool). if b then 1 else 0) (sym w.if-complete.false)
    ] in
    let p = keeping.put-gone c.self.inside.hung_up.items c.self.inside.kept.items c.self.inside.finished c.args.batch c.args.complete c.self.invariant c.in-Err.ensures low in
    subst (λ (n : ℕ). KeepsHeld c.self.inside.hung_up.items c.self.inside.kept.items (c.self.inside.finished + n)) (sym counts) p.2

pub index_mut-requires : goal.index_mut-requires
index_mut-requires c =
    let low : c.in-Ok.i < length c.self.inside.kept.items = keeping.at-low c.self.inside.finished c.self.inside.kept.items c.in-Ok.i c.in-Ok.ensures in
    grind (arith, common_steps)

pub invariant_of-self-in-Some : goal.invariant_of-self-in-Some
invariant_of-self-in-Some c =
    let low : c.in-Ok.i < length c.self.inside.kept.items = keeping.at-low c.self.inside.finished c.self.inside.kept.items c.in-Ok.i c.in-Ok.ensures in
    let here : c.index_mut.result.now ≡ kept_at c.self.inside.kept.items c.in-Ok.i = get_or_read c.self.inside.kept.items _ _ low c.index_mut.ensures.value (record { id = 0; mailbox = Empty }) in
    let same : c.put.new.self ≡ kept_at c.self.inside.kept.items c.in-Ok.i =
    ap (λ (n : ℕ). record { id = n; mailbox = c.put.new.self.mailbox }) c.in-Some.ensures.id ∙ ap (λ (m : Mailbox). record { id = c.index_mut.result.now.id; mailbox = m }) c.in-Some.ensures.answer.1 ∙ here in
    let kept : slice_set c.self.inside.kept.items c.in-Ok.i c.put.new.self ≡ c.self.inside.kept.items = keeping.write-same c.self.inside.kept.items c.in-Ok.i c.put.new.self (record { id = 0; mailbox = Empty }) same in
    subst (λ (l : List Kept). KeepsHeld c.self.inside.hung_up.items l c.self.inside.finished) (sym kept) c.self.invariant

pub invariant_of-self-in-None : goal.invariant_of-self-in-None
invariant_of-self-in-None c =
    let low : c.in-Ok.i < length c.self.inside.kept.items = keeping.at-low c.self.inside.finished c.self.inside.kept.items c.in-Ok.i c.in-Ok.ensures in
    let here : c.index_mut.result.now ≡ kept_at c.self.inside.kept.items c.in-Ok.i = get_or_read c.self.inside.kept.items _ _ low c.index_mut.ensures.value (record { id = 0; mailbox = Empty }) in
    let counts : c.if-complete-2.self ≡ (if c.args.complete then 1 else 0) = elim c.if-complete-2.branch [
      | then-complete-2 w ↦ w.self-is ∙ ap (λ (b : Bool). if b then 1 else 0) (sym w.if-complete-2.true)
      | else-complete-2 w ↦ w.self-is ∙ ap (λ (b : Bool). if b then 1 else 0) (sym w.if-complete-2.false)
    ] in
    let got : received_by (mailbox_at c.self.inside.kept.items c.in-Ok.i) c.args.batch ≡ Some c.put.new.self.mailbox =
    subst (λ (m : Kept). received_by m.mailbox c.args.batch ≡ Some c.put.new.self.mailbox) here c.in-None.ensures.answer in
    let p = keeping.put-kept c.self.inside.hung_up.items c.self.inside.kept.items c.self.inside.finished c.in-Ok.i c.put.new.self c.args.batch c.args.complete c.self.invariant c.in-Ok.ensures (c.in-None.ensures.id ∙ ap (λ (m : Kept). m.id) here) got in
    subst (λ (n : ℕ). KeepsHeld c.self.inside.hung_up.items (slice_set c.self.inside.kept.items c.in-Ok.i c.put.new.self) (c.self.inside.finished + n)) (sym counts) p.2

pub returns-after-complete : goal.returns-after-complete
returns-after-complete c =
    let inside : c.self.inside.finished < length (boxes_from 0 c.self.inside.hung_up.items c.self.inside.kept.items) = subst (λ (m : Mail). m.finished < length m.boxes) (sym c.self.view_is) c.requires in
    let size = keeping.length-boxes-from 0 c.self.inside.hung_up.items c.self.inside.kept.items in
    let low : c.self.inside.finished < length c.self.inside.hung_up.items = omega (arith, inside, size) in
    let counts : c.if-complete.self ≡ (if c.args.complete then 1 else 0) = elim c.if-complete.branch [
      | then-complete w ↦ w.self-is ∙ ap (λ (b : Bool). if b then 1 else 0) (sym w.if-complete.true)
      | else-complete w ↦ w.self-is ∙ ap (λ (b : Bool). if b then 1 else 0) (sym w.if-complete.false)
    ] in
    let p = keeping.put-gone c.self.inside.hung_up.items c.self.inside.kept.items c.self.inside.finished c.args.batch c.args.complete c.self.invariant c.in-Err.ensures low in
    subst (λ (m : Mail). (x : Mailbox) × (received_by (at m.boxes m.finished) c.args.batch ≡ Some x)
    × (keeping.mail_of c.self.inside.hung_up.items c.self.inside.kept.items (c.self.inside.finished + c.if-complete.self) ≡ record { boxes = slice_set m.boxes m.finished x; finished = (if c.args.complete then 1 else 0) + m.finished })) c.self.view_is (
      HungUp,
      p.0,
      ap (λ (ms : List Mailbox). record { boxes = ms; finished = c.self.inside.finished + c.if-complete.self }) p.1
          ∙ ap (λ (n : ℕ). record { boxes = slice_set (boxes_from 0 c.self.inside.hung_up.items c.self.inside.kept.items) c.self.inside.finished HungUp; finished = n })
          (add_comm c.self.inside.finished c.if-complete.self ∙ ap (λ (n : ℕ). n + c.self.inside.finished) counts),
    )

pub returns-in-Some : goal.returns-in-Some
returns-in-Some c =
    let low : c.in-Ok.i < length c.self.inside.kept.items = keeping.at-low c.self.inside.finished c.self.inside.kept.items c.in-Ok.i c.in-Ok.ensures in
    let here : c.index_mut.result.now ≡ kept_at c.self.inside.kept.items c.in-Ok.i = get_or_read c.self.inside.kept.items _ _ low c.index_mut.ensures.value (record { id = 0; mailbox = Empty }) in
    let same : c.put.new.self ≡ kept_at c.self.inside.kept.items c.in-Ok.i =
    ap (λ (n : ℕ). record { id = n; mailbox = c.put.new.self.mailbox }) c.in-Some.ensures.id ∙ ap (λ (m : Mailbox). record { id = c.index_mut.result.now.id; mailbox = m }) c.in-Some.ensures.answer.1 ∙ here in
    let kept : slice_set c.self.inside.kept.items c.in-Ok.i c.put.new.self ≡ c.self.inside.kept.items = keeping.write-same c.self.inside.kept.items c.in-Ok.i c.put.new.self (record { id = 0; mailbox = Empty }) same in
    let none : received_by (mailbox_at c.self.inside.kept.items c.in-Ok.i) c.args.batch ≡ None = subst (λ (m : Kept). received_by m.mailbox c.args.batch ≡ None) here c.in-Some.ensures.answer.2 in (
      c.in-Some.ensures.answer.0,
      ap (λ (l : List Kept). keeping.mail_of c.self.inside.hung_up.items l c.self.inside.finished) kept ∙ c.self.view_is,
      subst (λ (m : Mail). received_by (at m.boxes m.finished) c.args.batch ≡ None) c.self.view_is
          (ap (λ (m : Mailbox). received_by m c.args.batch) (keeping.seen-kept c.self.inside.hung_up.items c.self.inside.kept.items c.self.inside.finished c.self.inside.finished c.in-Ok.i c.self.invariant c.in-Ok.ensures) ∙ none),
    )

pub returns-after-complete-2 : goal.returns-after-complete-2
returns-after-complete-2 c =
    let low : c.in-Ok.i < length c.self.inside.kept.items = keeping.at-low c.self.inside.finished c.self.inside.kept.items c.in-Ok.i c.in-Ok.ensures in
    let here : c.index_mut.result.now ≡ kept_at c.self.inside.kept.items c.in-Ok.i = get_or_read c.self.inside.kept.items _ _ low c.index_mut.ensures.value (record { id = 0; mailbox = Empty }) in
    let counts : c.if-complete-2.self ≡ (if c.args.complete then 1 else 0) = elim c.if-complete-2.branch [
      | then-complete-2 w ↦ w.self-is ∙ ap (λ (b : Bool). if b then 1 else 0) (sym w.if-complete-2.true)
      | else-complete-2 w ↦ w.self-is ∙ ap (λ (b : Bool). if b then 1 else 0) (sym w.if-complete-2.false)
    ] in
    let got : received_by (mailbox_at c.self.inside.kept.items c.in-Ok.i) c.args.batch ≡ Some c.put.new.self.mailbox =
    subst (λ (m : Kept). received_by m.mailbox c.args.batch ≡ Some c.put.new.self.mailbox) here c.in-None.ensures.answer in
    let p = keeping.put-kept c.self.inside.hung_up.items c.self.inside.kept.items c.self.inside.finished c.in-Ok.i c.put.new.self c.args.batch c.args.complete c.self.invariant c.in-Ok.ensures (c.in-None.ensures.id ∙ ap (λ (m : Kept). m.id) here) got in
    subst (λ (m : Mail). (x : Mailbox) × (received_by (at m.boxes m.finished) c.args.batch ≡ Some x)
    × (keeping.mail_of c.self.inside.hung_up.items (slice_set c.self.inside.kept.items c.in-Ok.i c.put.new.self) (c.self.inside.finished + c.if-complete-2.self) ≡ record { boxes = slice_set m.boxes m.finished x; finished = (if c.args.complete then 1 else 0) + m.finished })) c.self.view_is (
      c.put.new.self.mailbox,
      p.0,
      ap (λ (ms : List Mailbox). record { boxes = ms; finished = c.self.inside.finished + c.if-complete-2.self }) p.1
          ∙ ap (λ (n : ℕ). record { boxes = slice_set (boxes_from 0 c.self.inside.hung_up.items c.self.inside.kept.items) c.self.inside.finished c.put.new.self.mailbox; finished = n })
          (add_comm c.self.inside.finished c.if-complete-2.self ∙ ap (λ (n : ℕ). n + c.self.inside.finished) counts),
    )
