-- How many steps a search takes.
use Rattle.std.proofs.Common.{◌≡◌, ◌<◌, ◌≤◌, ℕ, zero, suc, ◌+◌, ◌-◌, ◌*◌, List, [], ◌∷◌, length, Bool, true, false, not, ◌&&◌, nat_lt, Result, Ok, Err, IfOk, refl, ap, subst, arith}
use Rattle.std.proofs.Math.Nat.{mul-le-mul_right}
use Rattle.std.proofs.lemmas.Bool.{ltb-true}
use Rattle.pg_core.specs.Lookups.{TypeRow, is_among}
use Rattle.pg_core.specs.Searches.{busy_of}
use Rattle.pg_search.specs.declared.sort.Wrap.{Wrap}
use Rattle.pg_search.specs.declared.frame.Frame.{Frame}
use Rattle.pg_search.specs.declared.frame.Frame.TheVariants.{Wrapped, Part}
use Rattle.pg_search.specs.declared.frame.OpenComposite.{OpenComposite}
use Rattle.pg_search.specs.declared.stack.Stack.{Stack}
use Rattle.pg_search.specs.Frames.{frames_of}
use Rattle.pg_search.specs.Stacks.{may_find}
use Rattle.pg_search.specs.Steps.{finding_steps, frames_steps, most_fields, more_at, more_over, row_steps, stack_steps}

-- finding a type takes a step
pub finding-some : (most more : ℕ) → 0 < finding_steps most more
unfolding finding_steps
finding-some most zero = omega arith
finding-some most (suc more) = omega arith

-- all that waits is counted once
pub frames-length : (fs : List Frame) → length (frames_of fs) ≡ length fs
frames-length [] = refl
frames-length (f ∷ fs) = ap suc (frames-length fs)

finding-more : (most n : ℕ) → n < 64 → finding_steps most (64 - n) ≡ 2 + most + most + most_fields * finding_steps most (64 - suc n)
unfolding finding_steps
finding-more most n h =
    let e : 64 - n ≡ suc (64 - suc n) = omega arith in
    ap (finding_steps most) e

both-true : (a b : Bool) → (a && b) ≡ true → a ≡ true
both-true true b e = refl
both-true false b e = e

-- where an oid may be looked up, its row is counted
pub looking-up : (most : ℕ) (s : Stack) (oid n : ℕ) → may_find s oid ≡ true → n ≤ most → n + (row_steps most (more_over s) + stack_steps most s) ≤ finding_steps most (more_at s) - 1 + stack_steps most s
unfolding may_find more_at more_over
looking-up most s oid n may h =
    let few : nat_lt (length (frames_of s.frames.items)) 64 ≡ true = both-true (nat_lt (length (frames_of s.frames.items)) 64) (not (is_among oid (busy_of (frames_of s.frames.items)))) may in
    let less : length (frames_of s.frames.items) < 64 = ltb-true (length (frames_of s.frames.items)) 64 few in
    let low : length s.frames.items < 64 = subst (λ (k : ℕ). k < 64) (frames-length s.frames.items) less in
    let is = finding-more most (length s.frames.items) low in
    omega arith

-- a type that was made of the one that is found
pub pops-wrapped-steps : (most : ℕ) (s t : Stack) (oid : ℕ) (row : TypeRow) (wrap : Wrap) → t.left.items ≡ s.left.items → s.frames.items ≡ Wrapped oid row wrap ∷ t.frames.items → 1 + stack_steps most t ≤ stack_steps most s
unfolding stack_steps
pops-wrapped-steps most s t oid row wrap left e =
    let a = ap (λ (l : List ℕ). length l * finding_steps most 64) left in
    let b = ap (frames_steps most) e in
    omega arith

-- a composite, whose field the type is that is found
pub pops-part-steps : (most : ℕ) (s t : Stack) (c : OpenComposite) (name : List ℕ) → t.left.items ≡ s.left.items → s.frames.items ≡ Part c name ∷ t.frames.items →
    1 + length c.left.items * finding_steps most (more_over t) + stack_steps most t ≤ stack_steps most s
unfolding stack_steps more_over
pops-part-steps most s t c name left e =
    let a = ap (λ (l : List ℕ). length l * finding_steps most 64) left in
    let b = ap (frames_steps most) e in
    omega arith

-- below all that waits
pub pops-none-steps : (most : ℕ) (s t : Stack) → t.left.items ≡ s.left.items → s.frames.items ≡ t.frames.items → stack_steps most t ≤ stack_steps most s
unfolding stack_steps
pops-none-steps most s t left e =
    let a = ap (λ (l : List ℕ). length l * finding_steps most 64) left in
    let b = ap (frames_steps most) e in
    omega arith

-- the room that is left counts no step
pub any-room-steps : (most : ℕ) (s : Stack) (n : ℕ) → stack_steps most (record s { room = n }) ≡ stack_steps most s
unfolding stack_steps
any-room-steps most s n = refl

-- the next oid that is left
pub rests-some-steps : (most : ℕ) (s t : Stack) (oid : ℕ) → s.frames.items ≡ [] → t.frames.items ≡ [] → s.left.items ≡ oid ∷ t.left.items → finding_steps most (more_at t) + stack_steps most t ≤ stack_steps most s
unfolding stack_steps more_at
rests-some-steps most s t oid e e' left =
    let a = ap (λ (l : List ℕ). length l * finding_steps most 64) left in
    let b = ap (frames_steps most) e in
    let c = ap (frames_steps most) e' in
    let d = ap (λ (fs : List Frame). finding_steps most (64 - length fs)) e' in
    omega arith

-- a field's type is to be found
pub fields-some-steps : (most : ℕ) (s t : Stack) (c c' : OpenComposite) (name : List ℕ) (n : ℕ) → t.left.items ≡ s.left.items → t.frames.items ≡ Part c' name ∷ s.frames.items → n ≡ suc (length c'.left.items) →
    finding_steps most (more_at t) + stack_steps most t ≤ 1 + n * finding_steps most (more_over s) + stack_steps most s
unfolding stack_steps more_at more_over
fields-some-steps most s t c c' name n left e is =
    let a = ap (λ (l : List ℕ). length l * finding_steps most 64) left in
    let b = ap (frames_steps most) e in
    let d = ap (λ (fs : List Frame). finding_steps most (64 - length fs)) e in
    let f = ap (λ (k : ℕ). k * finding_steps most (64 - suc (length s.frames.items))) is in
    omega arith

-- a type that waits for another
pub waits-steps : (most : ℕ) (s t : Stack) (oid : ℕ) (row : TypeRow) (wrap : Wrap) → t.left.items ≡ s.left.items → t.frames.items ≡ Wrapped oid row wrap ∷ s.frames.items →
    finding_steps most (more_at t) + stack_steps most t ≤ row_steps most (more_over s) + stack_steps most s
unfolding stack_steps more_at more_over
waits-steps most s t oid row wrap left e =
    let a = ap (λ (l : List ℕ). length l * finding_steps most 64) left in
    let b = ap (frames_steps most) e in
    let d = ap (λ (fs : List Frame). finding_steps most (64 - length fs)) e in
    omega arith

-- no composite has more fields than are counted
pub fields-steps : (most more n rest : ℕ) → n ≤ most_fields → 1 + n * finding_steps most more + rest ≤ 1 + most_fields * finding_steps most more + rest
fields-steps most more n rest h = omega (arith, mul-le-mul_right (finding_steps most more) h)

-- what is below less is below more
pub ok-less : {X E : Type 0} (r : Result X E) (f : X → ℕ) (a b : ℕ) → a ≤ b → IfOk r (λ x. f x ≤ a) → IfOk r (λ x. f x ≤ b)
ok-less (Ok x) f a b h low = omega (arith, h, low)
ok-less (Err e) f a b h low = tt

-- a new stack
pub new-steps : (most n : ℕ) (s : Stack) (oids : List ℕ) → s.left.items ≡ oids → s.frames.items ≡ [] → n ≤ stack_steps most s → n ≤ length oids * finding_steps most 64
unfolding stack_steps
new-steps most n s oids left e h =
    let a = ap (λ (l : List ℕ). length l * finding_steps most 64) left in
    let b = ap (frames_steps most) e in
    omega arith
