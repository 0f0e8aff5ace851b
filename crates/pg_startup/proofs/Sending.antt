-- Bytes that are unsent, taken piece by piece and passed on.
use Rattle.std.proofs.Common.{◌≡◌, ℕ, ◌≤◌, Bool, true, false, not, ◌||◌, List, [], ◌∷◌, ◌++◌, take, drop, length, arith, append_assoc, take-append-drop, refl, sym, ap, subst, ◌∙◌}
use Rattle.pg_spec.specs.Batches.{is_nothing}
use Rattle.pg_spec.specs.Links.{LinkView}
use Rattle.pg_wire.specs.LinkCalls.{Flushes, Keeps, Takes}
use Rattle.pg_connect.specs.Passes.{Untouched}
use Rattle.pg_connect.proofs.Joining.{keeps_same, keeps_then, grew_same, grew_then, unmoved_before, untouched_same, untouched_then}
use Rattle.pg_connect.proofs.Sends.{or_false, or_true, some_taken}
use Rattle.pg_startup.specs.declared.transfer.Transfer.{Transfer}
use Rattle.pg_startup.specs.Transfers.{Sends}

-- a call of the link that took nothing and passed nothing on
pub sends-none : (s : Transfer) (a b : LinkView) → Untouched a b → b.flushed ≡ a.flushed → b.shut ≡ a.shut → Keeps a b → Sends s s a b
sends-none s a b same flushed shut keeps = record {
  sent = [];
  taken = grew_same a.taken b.taken same.bytes.taken;
  given = same.bytes.given;
  out = refl;
  same = refl;
  moved = or_false s.moved;
  still = λ none. same;
  flushed = λ was is. let before = was is in (before.0, λ open_. flushed ∙ before.1 (sym shut ∙ open_));
  stays = λ none open_ is. flushed ∙ is;
  shut = shut;
  link = keeps;
}

-- no call
pub sends-nothing : (s : Transfer) (a : LinkView) → Sends s s a a
sends-nothing s a = sends-none s a a (untouched_same a) refl refl (keeps_same a)

-- what was taken whole was passed on
pub sends-flush : (s : Transfer) (a b : LinkView) → s.unsent.items ≡ [] → Flushes a b → b.promised ≡ a.promised → Keeps a b → Sends s (record s { flushed = true }) a b
sends-flush s a b none flushes promised keeps = record {
  sent = [];
  taken = grew_same a.taken b.taken flushes.bytes.taken;
  given = flushes.bytes.given;
  out = refl;
  same = refl;
  moved = or_false s.moved;
  still = λ unmoved. record { bytes = flushes.bytes; promised = promised };
  flushed = λ was is. (none, λ open_. flushes.flushed (sym flushes.shut ∙ open_));
  stays = λ nothing open_ is. flushes.flushed open_;
  shut = flushes.shut;
  link = keeps;
}

nothing-left : (unsent : List ℕ) (n : ℕ) → 1 ≤ n → n ≤ length unsent → unsent ≡ [] → ⊥
nothing-left unsent n some fits none = omega (arith, some, fits, ap (λ (l : List ℕ). length l) none)

some-not-none : (xs : List ℕ) → not (is_nothing xs) ≡ true → xs ≡ [] → ⊥
some-not-none [] some none = let no : false ≡ true = some in cc
some-not-none (x ∷ xs) some none = cc

-- one call that took a piece
pub sends-piece : (s t : Transfer) (a b : LinkView) (n : ℕ) → Takes a b s.unsent.items n → Keeps a b → t.unsent.items ≡ drop n s.unsent.items →
    t ≡ record s { unsent = t.unsent; moved = true } → Sends s t a b
sends-piece s t a b n takes keeps left is =
    let some : not (is_nothing (take n s.unsent.items)) ≡ true = some_taken n s.unsent.items takes.some takes.fits in
    subst (λ (x : Transfer). Sends s x a b) (sym is)
    (record {
      sent = take n s.unsent.items;
      taken = takes.taken;
      given = takes.given;
      out = sym (take-append-drop n s.unsent.items) ∙ ap (λ (l : List ℕ). take n s.unsent.items ++ l) (sym left);
      same = refl;
      moved = or_true s.moved ∙ ap (λ (x : Bool). s.moved || x) (sym some);
      still = λ none. absurd (let no : true ≡ false = none in cc);
      flushed = λ was is_. absurd (nothing-left s.unsent.items n takes.some takes.fits (was is_).0);
      stays = λ none. absurd (some-not-none (take n s.unsent.items) some none);
      shut = takes.shut;
      link = keeps;
    })

none-front : (xs ys : List ℕ) → xs ++ ys ≡ [] → xs ≡ []
none-front [] ys e = refl
none-front (x ∷ xs) ys e = absurd cc

none-back : (xs ys : List ℕ) → xs ++ ys ≡ [] → ys ≡ []
none-back [] ys e = e
none-back (x ∷ xs) ys e = absurd cc

some-append : (xs ys : List ℕ) → not (is_nothing (xs ++ ys)) ≡ (not (is_nothing xs) || not (is_nothing ys))
some-append [] ys = refl
some-append (x ∷ xs) ys = refl

or_assoc : (a b c : Bool) → ((a || b) || c) ≡ (a || (b || c))
or_assoc true b c = refl
or_assoc false b c = refl

-- two calls, one after the other
pub sends-then : (s t u : Transfer) (a b c : LinkView) → Sends s t a b → Sends t u b c → Sends s u a c
sends-then s t u a b c first then = record {
  sent = first.sent ++ then.sent;
  taken = grew_then a.taken b.taken c.taken first.sent then.sent first.taken then.taken;
  given = then.given ∙ first.given;
  out = first.out ∙ ap (λ (l : List ℕ). first.sent ++ l) then.out ∙ sym (append_assoc first.sent then.sent u.unsent.items);
  same = then.same ∙ ap (λ (x : Transfer). record x { unsent = u.unsent; flushed = u.flushed; moved = u.moved }) first.same;
  moved = then.moved ∙ ap (λ (x : Bool). x || not (is_nothing then.sent)) first.moved ∙ or_assoc s.moved (not (is_nothing first.sent)) (not (is_nothing then.sent))
      ∙ ap (λ (x : Bool). s.moved || x) (sym (some-append first.sent then.sent));
  still = λ none. untouched_then a b c (first.still (unmoved_before t.moved u.moved (not (is_nothing then.sent)) then.moved none)) (then.still none);
  flushed = λ was. then.flushed (first.flushed was);
  stays = λ none open_ is.
      then.stays (none-back first.sent then.sent none) (first.shut ∙ open_) (first.stays (none-front first.sent then.sent none) open_ is);
  shut = then.shut ∙ first.shut;
  link = keeps_then a b c first.link then.link;
}
