-- A startup that is done with all that a plan holds isn't refused by a front of it.
use Rattle.std.proofs.Common.{◌≡◌, ◌≤◌, ◌+◌, ◌⊎◌, ℕ, suc, List, [], ◌∷◌, ◌++◌, length, Result, Ok, Err, inl, inr, refl, sym, ap, ◌∙◌, arith, length-append}
use Rattle.pg_spec.specs.Faults.{Failure, FrameFault}
use Rattle.pg_spec.specs.RawMessages.{RawMessage}
use Rattle.pg_spec.specs.Settings.{Settings}
use Rattle.pg_spec.specs.Startup.{Startup, Outcome, Done, Refused, More, Move, Writes, Ends, Refuses, Login, Phase, First, used_of, moved_by, startup_move, dialogue, begun_by, startup, plain_login}
use Rattle.pg_spec.proofs.StartupLaws.{startup-append}

-- one message behind another
abbrev later_of : Outcome → Outcome
later_of o = elim o [ Done used ↦ Done (used + 1) | Refused failure ↦ Refused failure | More ↦ More ]

used-fit : (move : Move) (many : Phase → Startup) (n used : ℕ) → ((p : Phase) (u : ℕ) → (many p).outcome ≡ Done u → u ≤ n) → (moved_by move many).outcome ≡ Done used → used ≤ suc n
used-fit (Writes frames next) many n used h done = by (many next).outcome refl
  where
    by : (o : Outcome) → (many next).outcome ≡ o → used ≤ suc n
    by (Done u) is = let e : u + 1 ≡ used = ap used_of (sym (ap later_of is) ∙ done) in omega (arith, e, h next u is)
    by (Refused f) is = absurd (let no : Refused f ≡ Done used = sym (ap later_of is) ∙ done in cc)
    by More is = absurd (let no : More ≡ Done used = sym (ap later_of is) ∙ done in cc)
used-fit Ends many n used h done = let e : 1 ≡ used = ap used_of done in omega (arith, e)
used-fit (Refuses f) many n used h done = absurd cc

module _ (s : Settings) (nonce : List ℕ) where
  fits-within : (phase : Phase) (xs : List RawMessage) (used : ℕ) → (dialogue (plain_login s nonce) phase xs).outcome ≡ Done used → used ≤ length xs
  fits-within phase [] used done = absurd cc
  fits-within phase (x ∷ xs) used done =
      used-fit (startup_move (plain_login s nonce) phase x) (λ p. dialogue (plain_login s nonce) p xs) (length xs) used (λ p u d. fits-within p xs u d) done

-- the same of the whole startup
begun-done : (r : Result (List ℕ) FrameFault) (d : Startup) (used : ℕ) → (begun_by r d).outcome ≡ Done used → d.outcome ≡ Done used
begun-done (Ok frame) d used e = e
begun-done (Err fault) d used e = absurd cc

pub used-within : (s : Settings) (nonce : List ℕ) (xs : List RawMessage) (used : ℕ) → (startup s nonce xs).outcome ≡ Done used → used ≤ length xs
used-within s nonce xs used done = fits-within s nonce First xs used (begun-done _ (dialogue (plain_login s nonce) First xs) used done)

-- what a front of the messages makes of it: it waits, or is done with as many
pub front-startup : (s : Settings) (nonce : List ℕ) (xs ys : List RawMessage) (used : ℕ) → (startup s nonce (xs ++ ys)).outcome ≡ Done used →
    ((startup s nonce xs).outcome ≡ More) ⊎ ((startup s nonce xs).outcome ≡ Done used)
front-startup s nonce xs ys used done = elim (startup-append s nonce xs ys) [
  | inl open_ ↦ inl open_
  | inr same ↦ inr (sym (ap (λ (x : Startup). x.outcome) same) ∙ done)
]

pub never-refused : (s : Settings) (nonce : List ℕ) (xs ys : List RawMessage) (used : ℕ) (f : Failure) → (startup s nonce (xs ++ ys)).outcome ≡ Done used → (startup s nonce xs).outcome ≡ Refused f → ⊥
never-refused s nonce xs ys used f done refused = elim (front-startup s nonce xs ys used done) [
  | inl open_ ↦ let no : Refused f ≡ More = sym refused ∙ open_ in cc
  | inr same ↦ let no : Refused f ≡ Done used = sym refused ∙ same in cc
]

-- what is done stays done
pub done-later : (s : Settings) (nonce : List ℕ) (xs ys : List RawMessage) (used : ℕ) → (startup s nonce xs).outcome ≡ Done used → (startup s nonce (xs ++ ys)).outcome ≡ Done used
done-later s nonce xs ys used done = elim (startup-append s nonce xs ys) [
  | inl open_ ↦ absurd (let no : Done used ≡ More = sym done ∙ open_ in cc)
  | inr same ↦ ap (λ (x : Startup). x.outcome) same ∙ done
]

-- and nothing more is written
pub same-later : (s : Settings) (nonce : List ℕ) (xs ys : List RawMessage) (used : ℕ) → (startup s nonce xs).outcome ≡ Done used → startup s nonce (xs ++ ys) ≡ startup s nonce xs
same-later s nonce xs ys used done = elim (startup-append s nonce xs ys) [
  | inl open_ ↦ absurd (let no : Done used ≡ More = sym done ∙ open_ in cc)
  | inr same ↦ same
]

-- more messages write no fewer frames
grown-move : (move : Move) (few many : Phase → Startup) → ((p : Phase) → length (few p).frames ≤ length (many p).frames) → length (moved_by move few).frames ≤ length (moved_by move many).frames
grown-move (Writes frames next) few many h = omega (arith, h next, length-append frames (few next).frames, length-append frames (many next).frames)
grown-move Ends few many h = omega arith
grown-move (Refuses f) few many h = omega arith

grown : (l : Login) (phase : Phase) (xs ys : List RawMessage) → length (dialogue l phase xs).frames ≤ length (dialogue l phase (xs ++ ys)).frames
grown l phase [] ys = omega arith
grown l phase (x ∷ xs) ys = grown-move (startup_move l phase x) (λ p. dialogue l p xs) (λ p. dialogue l p (xs ++ ys)) (λ p. grown l p xs ys)

begun-grown : (r : Result (List ℕ) FrameFault) (few many : Startup) → length few.frames ≤ length many.frames → length (begun_by r few).frames ≤ length (begun_by r many).frames
begun-grown (Ok frame) few many h = omega (arith, h)
begun-grown (Err fault) few many h = omega arith

pub frames-grow : (s : Settings) (nonce : List ℕ) (xs ys : List RawMessage) → length (startup s nonce xs).frames ≤ length (startup s nonce (xs ++ ys)).frames
frames-grow s nonce xs ys =
    begun-grown _ (dialogue (plain_login s nonce) First xs) (dialogue (plain_login s nonce) First (xs ++ ys)) (grown (plain_login s nonce) First xs ys)
