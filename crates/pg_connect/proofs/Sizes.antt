-- How many bytes messages take.
use Rattle.std.proofs.Common.{◌≡◌, ℕ, zero, suc, ◌+◌, ◌-◌, ◌<◌, ◌≤◌, List, [], ◌∷◌, length, take, drop, Option, Some, None, refl, sym, ap, subst, ◌∙◌, arith, leb, if◌then◌else◌}
use Rattle.std.specs.Int.{w32, from_be_bytes}
use Rattle.std.proofs.lemmas.Bool.{leb-true}
use Rattle.std.proofs.lemmas.Option.{cond_some, option_and_then_some}
use Rattle.std.proofs.lemmas.List.{length-drop, length-take-le}
use Rattle.pg_spec.specs.Bytes.{◌>>=◌, bytes_at, number_at}
use Rattle.pg_spec.specs.RawMessages.{RawMessage, messages, bytes_left, message_at, is_length}
use Rattle.pg_spec.proofs.Readers.{items_of-some, items_of-none}
use Rattle.pg_spec.proofs.MessageLaws.{message_at-Shrinks}
use Rattle.pg_wire.specs.Decode.{CutsOff}
use Rattle.pg_wire.proofs.Cuts.{messages_of_one, left_of_none}

-- the bytes of the messages
abbrev pub sizes : List RawMessage → ℕ
sizes [] = 0
sizes (m ∷ ms) = (5 + length m.body) + sizes ms

bytes_at-size : (n : ℕ) (bytes item rest : List ℕ) → bytes_at n bytes ≡ Some (item, rest) → (length item ≡ n) × (length bytes ≡ n + length rest)
bytes_at-size n bytes item rest e =
    let parts = cond_some (leb n (length bytes)) (take n bytes, drop n bytes) (item, rest) e in
    let enough : n ≤ length bytes = leb-true _ _ parts.0 in
    let item-is : take n bytes ≡ item = ap (λ (p : List ℕ × List ℕ). p.0) parts.1 in
    let rest-is : drop n bytes ≡ rest = ap (λ (p : List ℕ × List ℕ). p.1) parts.1 in
    (sym (ap length item-is) ∙ length-take-le n bytes enough, omega (arith, ap length rest-is, length-drop n bytes))

number_at-size : (bytes : List ℕ) (n : ℕ) (rest : List ℕ) → number_at w32 bytes ≡ Some (n, rest) → length bytes ≡ 4 + length rest
number_at-size bytes n rest e =
    option_and_then_some (λ (digits : List ℕ × List ℕ). Some (from_be_bytes w32 digits.0, digits.1)) (bytes_at 4 bytes) (n, rest) e (λ x at found.
    let same : x.1 ≡ rest = same_rest (from_be_bytes w32 x.0, x.1) (n, rest) found in
    (bytes_at-size 4 bytes x.0 x.1 at).1 ∙ ap (λ (r : List ℕ). 4 + length r) same)
  where
    same_rest : (p q : ℕ × List ℕ) → Some p ≡ Some q → p.1 ≡ q.1
    same_rest p q e = cc

-- what is made of a length and a body
abbrev finish : ℕ → ℕ → List ℕ → List ℕ → Option (RawMessage × List ℕ)
finish tag n body rest = if is_length n then Some (record { tag = tag; body = body }, rest) else None

finish-size : (tag n : ℕ) (body left : List ℕ) (m : RawMessage) (rest : List ℕ) → finish tag n body left ≡ Some (m, rest) → (body ≡ m.body) × (left ≡ rest)
finish-size tag n body left m rest e =
    let parts = cond_some (is_length n) (record { tag = tag; body = body }, left) (m, rest) e in
    (ap (λ (p : RawMessage × List ℕ). p.0.body) parts.1, ap (λ (p : RawMessage × List ℕ). p.1) parts.1)

-- a message takes five bytes and those of its body
pub message_at-size : (s : List ℕ) (m : RawMessage) (rest : List ℕ) → message_at s ≡ Some (m, rest) → length s ≡ (5 + length m.body) + length rest
message_at-size [] m rest e = absurd cc
message_at-size (tag ∷ bytes) m rest e =
    option_and_then_some (λ (n : ℕ × List ℕ). bytes_at (n.0 - 4) n.1 >>= λ body. finish tag n.0 body.0 body.1) (number_at w32 bytes) (m, rest) e (λ n at found.
    option_and_then_some (λ (body : List ℕ × List ℕ). finish tag n.0 body.0 body.1) (bytes_at (n.0 - 4) n.1) (m, rest) found (λ b here last.
    let is = finish-size tag n.0 b.0 b.1 m rest last in
    let sized = bytes_at-size (n.0 - 4) n.1 b.0 b.1 here in
    omega (arith, number_at-size bytes n.0 n.1 at, sized.0, sized.1, ap length is.0, ap length is.1)))

sized_by : (k : ℕ) (s : List ℕ) → length s ≤ k → length s ≡ sizes (messages s) + length (bytes_left s)
sized_by zero [] fits = refl
sized_by zero (b ∷ s) fits = absurd (omega arith)
sized_by (suc k) s fits =
    elim (message_at s) as (λ r. message_at s ≡ r → length s ≡ sizes (messages s) + length (bytes_left s)) [
      | None ↦ λ e.
          let is = items_of-none message_at message_at-Shrinks s e in
          subst (λ (p : List RawMessage × List ℕ). length s ≡ sizes p.0 + length p.1) (sym is) (omega arith)
      | Some first ↦ λ e.
          let is = items_of-some message_at message_at-Shrinks s first.0 first.1 e in
          let here = message_at-size s first.0 first.1 e in
          subst (λ (p : List RawMessage × List ℕ). length s ≡ sizes p.0 + length p.1) (sym is)
          (omega (arith, here, sized_by k first.1 (omega (arith, here, fits))))
    ] refl

-- the bytes are those of the whole messages, and those that are left
pub sized : (s : List ℕ) → length s ≡ sizes (messages s) + length (bytes_left s)
sized s = sized_by (length s) s (omega arith)

-- where bytes came off whole, so did a message
pub some_came_off : (old new : List ℕ) (front : List RawMessage) → CutsOff old new front → 0 < length front
some_came_off old new [] cut =
    let none = cut.messages in
    absurd (omega (arith, sized old, sized new, ap sizes none, ap length cut.left, cut.shorter))
some_came_off old new (m ∷ front) cut = omega arith

-- where no message is whole, all is left
pub all-left : (bytes : List ℕ) → messages bytes ≡ [] → bytes_left bytes ≡ bytes
all-left bytes none = by_front (message_at bytes) refl
  where
    by_front : (o : Option (RawMessage × List ℕ)) → message_at bytes ≡ o → bytes_left bytes ≡ bytes
    by_front None e = left_of_none bytes e
    by_front (Some first) e = absurd (let no : first.0 ∷ messages first.1 ≡ [] = sym (messages_of_one bytes first.0 first.1 e) ∙ none in cc)
