use Rattle.std.proofs.Common.{[], ◌∷◌, ◌++◌, refl}
use Rattle.pg_types.specs.declared.error.Error.TheVariants.{OutOfMemory}
use Rattle.pg_execute.specs.Typed.{all_known, or_else}
use Rattle.pg_streams.proofs.Brought.{nothing-popped}
use Rattle.pg_streams.proofs.Telling.{none-of}
use Rattle.pg_streams.proofs.Knowing.{all-found, all-lack, none-asked, one-fails, one-more, one-unknown}
use Rattle.pg_wire.proofs.HandedOn.{handed-on}
use Rattle.pg_streams.proofs.known.all_known.Goals as goal

pub loop-oid-init : goal.loop-oid-init
loop-oid-init g c rows stamp ms first later next =
    rw c.empty-found.ensures (none-asked g.D.Desk.becomes g.met.D.Desk.stays g.met.D.Desk.joins stamp ms c.args.id first later next c.args.desk.now c.args.oids.items)

pub returns-in_err-ty : goal.returns-in_err-ty
returns-in_err-ty g c rows stamp ms first later next =
    let e = c.in_err-ty.field-0.0 in
    let rest = c.pop_front.new.self.items in
    rw (handed-on c.from_residual.result e c.from_residual.ensures.1)
    (one-fails g.D.Desk.becomes g.met.D.Desk.stays g.met.D.Desk.joins stamp ms c.args.id first later next c.args.desk.now c.loop-oid.desk c.known.new.desk c.args.oids.items c.loop-oid.oids.items rest c.loop-oid.found c.in-Some.oid
    c.in-Some.ensures.items (c.loop-oid.invariant rows stamp ms first later next) e (c.in_err-ty.ensures rows stamp ms first (or_else later (λ ty. all_known later next rest (c.loop-oid.found ++ ty ∷ [])))))

pub returns-in_default-2 : goal.returns-in_default-2
returns-in_default-2 g c rows stamp ms first later next =
    let rest = c.pop_front.new.self.items in
    one-unknown g.D.Desk.becomes g.met.D.Desk.stays g.met.D.Desk.joins stamp ms c.args.id first later next c.args.desk.now c.loop-oid.desk c.known.new.desk c.args.oids.items c.loop-oid.oids.items rest c.loop-oid.found c.in-Some.oid
    c.in-Some.ensures.items (c.loop-oid.invariant rows stamp ms first later next) c.in_ok-ty.field-0 (none-of c.in_ok-ty.field-0 c.in_default-2.not-Some) (c.in_ok-ty.ensures rows stamp ms first (or_else later (λ ty. all_known later next rest (c.loop-oid.found ++ ty ∷ []))))

pub loop-oid-preserved : goal.loop-oid-preserved
loop-oid-preserved g c rows stamp ms first later next =
    let rest = c.pop_front.new.self.items in
    rw c.in_ok-push.ensures
    (one-more g.D.Desk.becomes g.met.D.Desk.stays g.met.D.Desk.joins stamp ms c.args.id first later next c.args.desk.now c.loop-oid.desk c.known.new.desk c.args.oids.items c.loop-oid.oids.items rest c.loop-oid.found c.in-Some.oid
    c.in-Some.ensures.items (c.loop-oid.invariant rows stamp ms first later next) c.in_ok-ty.field-0 c.in-Some-2.ty c.in-Some-2.is (c.in_ok-ty.ensures rows stamp ms first (or_else later (λ ty. all_known later next rest (c.loop-oid.found ++ ty ∷ [])))))

pub returns-in_err-push : goal.returns-in_err-push
returns-in_err-push g c rows stamp ms first later next =
    let rest = c.pop_front.new.self.items in
    rw (handed-on c.from_residual-in_err-push.result OutOfMemory c.from_residual-in_err-push.ensures.1)
    (all-lack g.D.Desk.becomes g.met.D.Desk.stays g.met.D.Desk.joins stamp ms c.args.id first later next c.args.desk.now c.known.new.desk c.args.oids.items rest (c.loop-oid.found ++ c.in-Some-2.ty ∷ []) OutOfMemory refl
    (one-more g.D.Desk.becomes g.met.D.Desk.stays g.met.D.Desk.joins stamp ms c.args.id first later next c.args.desk.now c.loop-oid.desk c.known.new.desk c.args.oids.items c.loop-oid.oids.items rest c.loop-oid.found c.in-Some.oid
    c.in-Some.ensures.items (c.loop-oid.invariant rows stamp ms first later next) c.in_ok-ty.field-0 c.in-Some-2.ty c.in-Some-2.is (c.in_ok-ty.ensures rows stamp ms first (or_else later (λ ty. all_known later next rest (c.loop-oid.found ++ ty ∷ []))))))

pub returns : goal.returns
returns g c rows stamp ms first later next =
    all-found g.D.Desk.becomes g.met.D.Desk.stays g.met.D.Desk.joins stamp ms c.args.id first later next c.args.desk.now c.loop-oid.desk c.args.oids.items c.loop-oid.oids.items c.loop-oid.found
    (nothing-popped c.loop-oid.oids.items c.pop_front.new.self.items c.in_default.ensures.items c.in_default.ensures.rest) (c.loop-oid.invariant rows stamp ms first later next)
