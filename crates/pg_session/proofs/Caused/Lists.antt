-- Lists, and the bytes that are left behind whole messages.
use Rattle.std.proofs.Common.{◌≡◌, ◌≢◌, ◌<◌, ℕ, zero, suc, List, [], ◌∷◌, length, Bool, true, false, not, if◌then◌else◌, Option, Some, None, refl, sym, ap, ◌∙◌, arith}
use Rattle.std.specs.Prelude.{filter, Contains, slice_index_or, ◌-◌}
use Rattle.std.specs.Int.{w32}
use Rattle.std.proofs.lemmas.List.Elements.{Contains-append_right}
use Rattle.std.specs.Option.{option_and_then}
use Rattle.pg_spec.specs.Bytes.{bytes_at, number_at}
use Rattle.pg_spec.specs.RawMessages.{RawMessage, is_length, message_at, messages, bytes_left, has_bad_header}
use Rattle.pg_wire.proofs.Cuts.{messages_of_one, left_of_none}

-- ---- lists

pub first-stands : {X : Type 0} (x : X) (xs : List X) → Contains (x ∷ xs) x
first-stands x xs = (0, omega arith, refl)

pub later-stands : {X : Type 0} (y x : X) (xs : List X) → Contains xs x → Contains (y ∷ xs) x
later-stands y x xs h = Contains-append_right (y ∷ []) xs x h

either-stands : {X : Type 0} (b : Bool) (y x : X) (few all : List X) → (Contains few x → Contains all x) → Contains (if b then y ∷ few else few) x → Contains (y ∷ all) x
either-stands {X} true y x few all h c = by_place c.0 c.1 c.2
  where
    by_place : (k : ℕ) → k < length (y ∷ few) → slice_index_or (y ∷ few) k x ≡ x → Contains (y ∷ all) x
    by_place zero low is = (0, omega arith, is)
    by_place (suc k) low is = later-stands y x all (h (k, omega arith, is))
either-stands false y x few all h c = later-stands y x all (h c)

-- what passes a test stands in the list itself
pub unfiltered : {X : Type 0} (p : X → Bool) (xs : List X) (x : X) → Contains (filter p xs) x → Contains xs x
unfiltered p [] x h = h
unfiltered p (y ∷ xs) x h = either-stands (p y) y x (filter p xs) xs (unfiltered p xs x) h

-- ---- bytes

pub not-none : (l : List ℕ) → 0 < length l → l ≢ []
not-none [] some = λ e. omega (arith, some)
not-none (x ∷ xs) some = λ e. absurd cc

-- where no message is whole, all is left
pub all-left : (bytes : List ℕ) → messages bytes ≡ [] → bytes_left bytes ≡ bytes
all-left bytes none = by_front (message_at bytes) refl
  where
    by_front : (o : Option (RawMessage × List ℕ)) → message_at bytes ≡ o → bytes_left bytes ≡ bytes
    by_front None e = left_of_none bytes e
    by_front (Some first) e = absurd (let no : first.0 ∷ messages first.1 ≡ [] = sym (messages_of_one bytes first.0 first.1 e) ∙ none in cc)

-- a message of this tag, and what follows it
abbrev taken-off : ℕ → List ℕ × List ℕ → RawMessage × List ℕ
taken-off tag body = (record { tag = tag; body = body.0 }, body.1)

-- a header whose length is below 4 is in front of no message
pub no-message : (bytes : List ℕ) → has_bad_header bytes ≡ true → message_at bytes ≡ None
no-message [] bad = refl
no-message (tag ∷ bytes) bad = by_number (number_at w32 bytes) bad
  where
    by_length : (b : Bool) (body : Option (List ℕ × List ℕ)) → not b ≡ true →
        option_and_then (λ (body : List ℕ × List ℕ). if b then Some (taken-off tag body) else None) body ≡ None
    by_length true body bad = absurd cc
    by_length false None bad = refl
    by_length false (Some body) bad = refl

    by_number : (o : Option (ℕ × List ℕ)) → elim o [ None ↦ false | Some n ↦ not (is_length n.0) ] ≡ true →
        option_and_then (λ (n : ℕ × List ℕ). option_and_then (λ (body : List ℕ × List ℕ). if is_length n.0 then Some (taken-off tag body) else None)
        (bytes_at (n.0 - 4) n.1)) o ≡ None
    by_number None bad = refl
    by_number (Some n) bad = by_length (is_length n.0) (bytes_at (n.0 - 4) n.1) bad

pub bad-left : (bytes : List ℕ) → has_bad_header bytes ≡ true → has_bad_header (bytes_left bytes) ≡ true
bad-left bytes bad = ap has_bad_header (left_of_none bytes (no-message bytes bad)) ∙ bad
