use Rattle.std.proofs.Common.{◌≡◌, ◌<◌, ◌≤◌, ℕ, zero, suc, ◌-◌, ◌==◌, List, [], ◌∷◌, length, drop, get_or, Some, None, true, Bool, if◌then◌else◌, is_some, refl, sym, ◌∙◌, ap, subst, arith, drop-cons}
use Rattle.std.proofs.lemmas.Bool.Decides.{nat_tests}
use Rattle.pg_types.specs.declared.pg_type.PgType.{PgType}
use Rattle.pg_desk.specs.declared.event.FoundType.{FoundType}
use Rattle.pg_desk.specs.Catalog.{last_of, unless_later}
use Rattle.pg_hub.proofs.catalog.type_in.Goals as goal

-- what the back of a list tells, the whole tells
last-behind : (oid n : ℕ) (ts : List FoundType) (t : PgType) → last_of oid (drop n ts) ≡ Some t → last_of oid ts ≡ Some t
last-behind oid zero ts t h = h
last-behind oid (suc n) [] t h = h
last-behind oid (suc n) (f ∷ fs) t h = ap (unless_later f oid) (last-behind oid n fs t h)

-- an item is there, whatever stands for none
same-item : (ts : List FoundType) (n : ℕ) (d e : FoundType) → n < length ts → get_or ts n d ≡ get_or ts n e
same-item [] n d e low = absurd (omega arith)
same-item (t ∷ ts) zero d e low = refl
same-item (t ∷ ts) (suc n) d e low = same-item ts n d e (omega arith)

-- an item of this oid, behind which there is none
last-here : (oid n behind : ℕ) (ts : List FoundType) (d e : FoundType) → behind ≡ suc n → behind ≤ length ts → (get_or ts n d).oid ≡ oid →
    last_of oid (drop behind ts) ≡ None → last_of oid ts ≡ Some (get_or ts n e).type_
last-here oid n behind ts d e is low same none =
    let f : FoundType = get_or ts n d in
    let rest : last_of oid (drop (suc n) ts) ≡ None = subst (λ (k : ℕ). last_of oid (drop k ts) ≡ None) is none in
    let own : (f.oid == oid) ≡ true = grind (arith, nat_tests) in
    last-behind oid n ts (get_or ts n e).type_ (ap (last_of oid) (drop-cons ts n d (omega arith)) ∙ ap (unless_later f oid) rest ∙ ap (λ (b : Bool). if b then Some f.type_ else None) own
    ∙ ap (λ (g : FoundType). Some g.type_) (same-item ts n d e (omega arith)))

pub returns-in-Err : goal.returns-in-Err
returns-in-Err c =
    ap is_some (last-here c.args.oid (c.loop-i.i - 1) c.loop-i.i c.args.types.now c.index-types-i.result c.index-types-i.result (omega (arith, c.loop-i-test.true)) c.loop-i.invariant.0 c.if-types-i.true c.loop-i.invariant.1)

pub returns-in-Ok : goal.returns-in-Ok
returns-in-Ok c =
    ap Some c.in-Ok.ensures ∙ sym (last-here c.args.oid (c.loop-i.i - 1) c.loop-i.i c.args.types.now c.index-types-i.result c.index-types-i-then-types-i.result (omega (arith, c.loop-i-test.true)) c.loop-i.invariant.0 c.if-types-i.true c.loop-i.invariant.1)
