-- What a slot holds behind a statement that was put into one.
use Rattle.std.proofs.Common.{◌≡◌, ◌≢◌, ℕ, ◌==◌, [], ◌∷◌, ◌++◌, Bool, true, false, not, cond, if◌then◌else◌, Option, Some, None, refl, sym, ap, ◌∙◌}
use Rattle.std.proofs.lemmas.Bool.{eq-eqb, eqb-true}
use Rattle.pg_desk.specs.declared.statement.Described.{Described as Statement}
use Rattle.pg_table.specs.declared.slots.Slot.{Slot}
use Rattle.pg_table.specs.Slots.{Slots, statement_in, with_statement, without}

-- it holds the one that was put
pub held : (slots : Slots) (number : ℕ) (statement : Statement) → statement_in (with_statement slots number statement) number ≡ Some statement
held [] number statement = ap (λ (b : Bool). if b then Some statement else None) (eq-eqb number number refl)
held (slot ∷ slots) number statement = by (slot.number == number) refl (held slots number statement)
  where
    new : Slot
    new = record { number = number; statement = statement }

    by : (b : Bool) → (slot.number == number) ≡ b → statement_in (with_statement slots number statement) number ≡ Some statement →
        statement_in (cond (not b) (slot ∷ without slots number) (without slots number) ++ new ∷ []) number ≡ Some statement
    by true e h = h
    by false e h = ap (λ (b : Bool). if b then Some slot.statement else statement_in (with_statement slots number statement) number) e ∙ h

-- other numbers differ
differs : (a b : ℕ) → b ≢ a → (a == b) ≡ false
differs a b apart = by (a == b) refl
  where
    by : (t : Bool) → (a == b) ≡ t → (a == b) ≡ false
    by true e = absurd (apart (sym (eqb-true a b e)))
    by false e = e

-- the others hold what they held
pub holds-as-before : (slots : Slots) (number other : ℕ) (statement : Statement) → other ≢ number → statement_in (with_statement slots number statement) other ≡ statement_in slots other
holds-as-before [] number other statement apart = ap (λ (b : Bool). if b then Some statement else None) (differs number other apart)
holds-as-before (slot ∷ slots) number other statement apart = by (slot.number == number) refl (holds-as-before slots number other statement apart)
  where
    new : Slot
    new = record { number = number; statement = statement }

    or_later : Option Statement → Bool → Option Statement
    or_later later b = if b then Some slot.statement else later

    by : (b : Bool) → (slot.number == number) ≡ b → statement_in (with_statement slots number statement) other ≡ statement_in slots other →
        statement_in (cond (not b) (slot ∷ without slots number) (without slots number) ++ new ∷ []) other ≡ or_later (statement_in slots other) (slot.number == other)
    by true e h =
        h ∙ sym (ap (or_later (statement_in slots other))
        (ap (λ (n : ℕ). n == other) (eqb-true slot.number number e) ∙ differs number other apart))
    by false e h = ap (λ (later : Option Statement). or_later later (slot.number == other)) h

-- ---- a slot that was emptied

pub emptied : (slots : Slots) (number : ℕ) → statement_in (without slots number) number ≡ None
emptied [] number = refl
emptied (slot ∷ slots) number = by (slot.number == number) refl (emptied slots number)
  where
    by : (b : Bool) → (slot.number == number) ≡ b → statement_in (without slots number) number ≡ None →
        statement_in (cond (not b) (slot ∷ without slots number) (without slots number)) number ≡ None
    by true e h = h
    by false e h = ap (λ (b : Bool). if b then Some slot.statement else statement_in (without slots number) number) e ∙ h

-- the others hold what they held
pub left-as-before : (slots : Slots) (number other : ℕ) → other ≢ number → statement_in (without slots number) other ≡ statement_in slots other
left-as-before [] number other apart = refl
left-as-before (slot ∷ slots) number other apart = by (slot.number == number) refl (left-as-before slots number other apart)
  where
    or_later : Option Statement → Bool → Option Statement
    or_later later b = if b then Some slot.statement else later

    by : (b : Bool) → (slot.number == number) ≡ b → statement_in (without slots number) other ≡ statement_in slots other →
        statement_in (cond (not b) (slot ∷ without slots number) (without slots number)) other ≡ or_later (statement_in slots other) (slot.number == other)
    by true e h =
        h ∙ sym (ap (or_later (statement_in slots other))
        (ap (λ (n : ℕ). n == other) (eqb-true slot.number number e) ∙ differs number other apart))
    by false e h = ap (λ (later : Option Statement). or_later later (slot.number == other)) h
