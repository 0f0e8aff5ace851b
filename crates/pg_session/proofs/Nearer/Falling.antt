-- Numbers of which the first that changes falls.
use Rattle.std.proofs.Common.{◌≡◌, inl, inr, ◌⊎◌, ℕ, ◌+◌, ◌<◌, ◌≤◌, Bool, true, false, ◌||◌, if◌then◌else◌, ap, ◌∙◌, arith}
use Rattle.std.proofs.lemmas.Bool.{cases_lt}
use Rattle.pg_session.specs.Measure.{Left, IsLess, LessUnread, FewerCommands, LessUnsent}

-- 1 where it is so
abbrev pub one_if : Bool → ℕ
one_if holds = if holds then 1 else 0

-- one of two things moved
pub one-or : (a b : Bool) → one_if (a || b) ≤ one_if a + one_if b
one-or true b = omega arith
one-or false b = omega arith

-- The first of the numbers that differs is less. Where neither of the first two does, the last is less by so much.
pub data Falls (by : ℕ) (x y : Left) : Type 0 where
  Unread : x.unread < y.unread → Falls by x y
  Commands : x.unread ≡ y.unread → x.commands < y.commands → Falls by x y
  Unsent : x.unread ≡ y.unread → x.commands ≡ y.commands → x.unsent + by ≤ y.unsent → Falls by x y

-- by how much they fell
pub falls-less : (x y : Left) → Falls 1 x y → IsLess x y
falls-less x y (Unread h) = LessUnread h
falls-less x y (Commands u h) = FewerCommands u h
falls-less x y (Unsent u c h) = LessUnsent u c (omega (arith, h))

same-left : (x y : Left) → x.unread ≡ y.unread → x.commands ≡ y.commands → x.unsent ≡ y.unsent → x ≡ y
same-left x y u c s =
    ap (λ (n : ℕ). record { unread = n; commands = x.commands; unsent = x.unsent }) u
    ∙ ap (λ (n : ℕ). record { unread = y.unread; commands = n; unsent = x.unsent }) c
    ∙ ap (λ (n : ℕ). record { unread = y.unread; commands = y.commands; unsent = n }) s

pub falls-no-more : (x y : Left) → Falls 0 x y → IsLess x y ⊎ (x ≡ y)
falls-no-more x y (Unread h) = inl (LessUnread h)
falls-no-more x y (Commands u h) = inl (FewerCommands u h)
falls-no-more x y (Unsent u c h) = by (cases_lt x.unsent y.unsent)
  where
    by : (x.unsent < y.unsent) ⊎ (y.unsent ≤ x.unsent) → IsLess x y ⊎ (x ≡ y)
    by (inl less) = inl (LessUnsent u c less)
    by (inr more) = inr (same-left x y u c (omega (arith, h, more)))

-- and the other way
pub less-falls : (by : ℕ) (x y : Left) → by ≤ 1 → IsLess x y → Falls by x y
less-falls by x y le (LessUnread h) = Unread h
less-falls by x y le (FewerCommands u h) = Commands u h
less-falls by x y le (LessUnsent u c h) = Unsent u c (omega (arith, le, h))

pub no-more-falls : (x y : Left) → IsLess x y ⊎ (x ≡ y) → Falls 0 x y
no-more-falls x y (inl h) = less-falls 0 x y (omega arith) h
no-more-falls x y (inr h) =
    let unsent = ap (λ (z : Left). z.unsent) h in Unsent (ap (λ (z : Left). z.unread) h) (ap (λ (z : Left). z.commands) h) (omega (arith, unsent))

-- one fall behind another
pub falls-joined : (a b c : ℕ) (x y z : Left) → Falls a x y → Falls b y z → c ≤ a + b → Falls c x z
falls-joined a b c x y z (Unread h) (Unread k) le = Unread (omega (arith, h, k))
falls-joined a b c x y z (Unread h) (Commands u k) le = Unread (omega (arith, h, u))
falls-joined a b c x y z (Unread h) (Unsent u v k) le = Unread (omega (arith, h, u))
falls-joined a b c x y z (Commands u h) (Unread k) le = Unread (omega (arith, u, k))
falls-joined a b c x y z (Commands u h) (Commands v k) le = Commands (u ∙ v) (omega (arith, h, k))
falls-joined a b c x y z (Commands u h) (Unsent v w k) le = Commands (u ∙ v) (omega (arith, h, w))
falls-joined a b c x y z (Unsent u v h) (Unread k) le = Unread (omega (arith, u, k))
falls-joined a b c x y z (Unsent u v h) (Commands w k) le = Commands (u ∙ w) (omega (arith, v, k))
falls-joined a b c x y z (Unsent u v h) (Unsent w r k) le = Unsent (u ∙ w) (v ∙ r) (omega (arith, h, k, le))

-- the same where other numbers stand beside each, or in their place
pub falls-beside : (by : ℕ) (x y p q : Left) → Falls by x y → p.unread + y.unread ≡ q.unread + x.unread → p.commands + y.commands ≡ q.commands + x.commands →
    p.unsent + y.unsent ≡ q.unsent + x.unsent → Falls by p q
falls-beside by x y p q (Unread h) u c s = Unread (omega (arith, h, u))
falls-beside by x y p q (Commands a h) u c s = Commands (omega (arith, a, u)) (omega (arith, h, c))
falls-beside by x y p q (Unsent a b h) u c s = Unsent (omega (arith, a, u)) (omega (arith, b, c)) (omega (arith, h, s))

-- neither what is read nor what is sent grows, and one of them falls where it has to
pub falls-either : (by read sent : ℕ) (x y : Left) → x.unread + read ≤ y.unread → x.commands ≡ y.commands → x.unsent + sent ≤ y.unsent → by ≤ read + sent → Falls by x y
falls-either by read sent x y u c s le = split (cases_lt x.unread y.unread)
  where
    split : (x.unread < y.unread) ⊎ (y.unread ≤ x.unread) → Falls by x y
    split (inl less) = Unread less
    split (inr more) = Unsent (omega (arith, u, more)) c (omega (arith, u, more, s, le))

-- what is read doesn't grow, and what commands do falls
pub falls-by-command : (by : ℕ) (x y : Left) → x.unread ≤ y.unread → x.commands < y.commands → Falls by x y
falls-by-command by x y u c = split (cases_lt x.unread y.unread)
  where
    split : (x.unread < y.unread) ⊎ (y.unread ≤ x.unread) → Falls by x y
    split (inl less) = Unread less
    split (inr more) = Commands (omega (arith, u, more)) c

-- what is read is as it was, what commands do doesn't grow, and what is sent falls
pub falls-sent : (by : ℕ) (x y : Left) → x.unread ≡ y.unread → x.commands ≤ y.commands → x.unsent + by ≤ y.unsent → Falls by x y
falls-sent by x y u c s = split (cases_lt x.commands y.commands)
  where
    split : (x.commands < y.commands) ⊎ (y.commands ≤ x.commands) → Falls by x y
    split (inl less) = Commands u less
    split (inr more) = Unsent u (omega (arith, c, more)) s
