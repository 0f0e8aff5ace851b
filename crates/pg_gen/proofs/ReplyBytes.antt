-- The bytes of a reply, as they are written one behind another.
use Rattle.std.proofs.Common.{◌≡◌, ℕ, zero, suc, ◌+◌, ◌<◌, ◌≤◌, Bool, true, false, List, [], ◌∷◌, ◌++◌, length, get_or, replicate, refl, sym, ap, ◌∙◌, arith, codes, decimal, append_assoc, append-nil}
use Rattle.std.specs.Int.{w32, to_be_bytes}
use Rattle.std.proofs.lemmas.Fmt.{decimal_digit}
use Rattle.std.proofs.lemmas.Nat.{be_bytes_4}
use Rattle.std.proofs.lemmas.List.{replicate_more}
use Rattle.std.proofs.lemmas.List.Concat.{flat_map-append}
use Rattle.pg_spec.specs.RawMessages.{RawMessage, message_bytes}
use Rattle.pg_gen.specs.Generated.{before_rows, behind_rows, reply}
use Rattle.pg_gen.specs.Messages.{bytes_of, command_complete, notification, one_cell, ready}

-- a number below 256, in four bytes
each_below : (n : ℕ) → n < 256 → (i : ℕ) → get_or (0 ∷ 0 ∷ 0 ∷ n ∷ []) i 0 < 256
each_below n below zero = omega arith
each_below n below (suc zero) = omega arith
each_below n below (suc (suc zero)) = omega arith
each_below n below (suc (suc (suc zero))) = below
each_below n below (suc (suc (suc (suc i)))) = omega arith

in_last : (n : ℕ) → n < 256 → to_be_bytes w32 n ≡ 0 ∷ 0 ∷ 0 ∷ n ∷ []
in_last n below = be_bytes_4 (0 ∷ 0 ∷ 0 ∷ n ∷ []) n refl (each_below n below) (omega arith)

row_is : (value : List ℕ) → length value ≤ 40 →
    (68 ∷ 0 ∷ 0 ∷ 0 ∷ (length value + 10) ∷ 0 ∷ 1 ∷ 0 ∷ 0 ∷ 0 ∷ length value ∷ []) ++ value ≡ message_bytes (one_cell value)
row_is value short =
    let n : length value + 10 ≡ 4 + length (one_cell value).body = omega arith in
    ap (λ (l : List ℕ). 68 ∷ (l ++ (0 ∷ 1 ∷ 0 ∷ 0 ∷ 0 ∷ length value ∷ value))) (sym (in_last (length value + 10) (omega arith)))
    ∙ ap (λ (l : List ℕ). 68 ∷ (to_be_bytes w32 (length value + 10) ++ (0 ∷ 1 ∷ (l ++ value)))) (sym (in_last (length value) (omega arith)))
    ∙ ap (λ k. 68 ∷ (to_be_bytes w32 k ++ (0 ∷ 1 ∷ (to_be_bytes w32 (length value) ++ value)))) n

-- what stands before ReadyForQuery
abbrev done : ℕ → List ℕ
done digit = 67 ∷ 0 ∷ 0 ∷ 0 ∷ 13 ∷ 83 ∷ 69 ∷ 76 ∷ 69 ∷ 67 ∷ 84 ∷ 32 ∷ digit ∷ 0 ∷ []

abbrev ready_bytes : List ℕ
ready_bytes = 90 ∷ 0 ∷ 0 ∷ 0 ∷ 5 ∷ 73 ∷ []

-- the column
abbrev columns : List ℕ
columns = 84 ∷ 0 ∷ 0 ∷ 0 ∷ 26 ∷ 0 ∷ 1 ∷ 118 ∷ 0 ∷ 0 ∷ 0 ∷ 0 ∷ 0 ∷ 0 ∷ 0 ∷ 0 ∷ 0 ∷ 0 ∷ 23 ∷ 0 ∷ 4 ∷ 255 ∷ 255 ∷ 255 ∷ 255 ∷ 0 ∷ 0 ∷ []

-- ---- what is written

pub row_written : (old value a new : List ℕ) → length value ≤ 40 → a ≡ old ++ 68 ∷ 0 ∷ 0 ∷ 0 ∷ (length value + 10) ∷ 0 ∷ 1 ∷ 0 ∷ 0 ∷ 0 ∷ length value ∷ [] →
    new ≡ a ++ value → new ≡ old ++ message_bytes (one_cell value)
row_written old value a new short p q =
    q ∙ ap (λ l. l ++ value) p
    ∙ append_assoc old (68 ∷ 0 ∷ 0 ∷ 0 ∷ (length value + 10) ∷ 0 ∷ 1 ∷ 0 ∷ 0 ∷ 0 ∷ length value ∷ []) value
    ∙ ap (λ l. old ++ l) (row_is value short)

pub end_written : (old a new : List ℕ) (rows : ℕ) → rows < 10 → a ≡ old ++ done (48 + rows) → new ≡ a ++ ready_bytes → new ≡ old ++ bytes_of (behind_rows rows)
end_written old a new rows few p q =
    q ∙ ap (λ l. l ++ ready_bytes) p ∙ append_assoc old (done (48 + rows)) ready_bytes
    ∙ ap (λ digits. old ++ bytes_of (command_complete (codes "SELECT " ++ digits) ∷ ready ∷ [])) (sym (decimal_digit rows few))

pub notified_written : (old payload mid new : List ℕ) (notified : Bool) → notified ≡ true →
    mid ≡ old ++ message_bytes (notification 1 (codes "c") payload) → new ≡ mid ++ columns → new ≡ old ++ bytes_of (before_rows payload notified)
notified_written old payload mid new notified is p q =
    q ∙ ap (λ l. l ++ columns) p ∙ append_assoc old (message_bytes (notification 1 (codes "c") payload)) columns
    ∙ ap (λ b. old ++ bytes_of (before_rows payload b)) (sym is)

pub unnotified_written : (old payload new : List ℕ) (notified : Bool) → notified ≡ false → new ≡ old ++ columns → new ≡ old ++ bytes_of (before_rows payload notified)
unnotified_written old payload new notified is q = q ∙ ap (λ b. old ++ bytes_of (before_rows payload b)) (sym is)

-- a row more
pub one_row_more : (n : ℕ) (m : RawMessage) (old bytes : List ℕ) → bytes ≡ old ++ bytes_of (replicate n m) → bytes ++ message_bytes m ≡ old ++ bytes_of (replicate (n + 1) m)
one_row_more n m old bytes e =
    ap (λ l. l ++ message_bytes m) e
    ∙ append_assoc old (bytes_of (replicate n m)) (message_bytes m)
    ∙ ap (λ l. old ++ (bytes_of (replicate n m) ++ l)) (sym (append-nil (message_bytes m)))
    ∙ ap (λ l. old ++ l) (sym (flat_map-append message_bytes (replicate n m) (m ∷ [])))
    ∙ ap (λ ms. old ++ bytes_of ms) (replicate_more n m)

pub reply_is : (k rows : ℕ) (notified : Bool) →
    (bytes_of (before_rows (decimal k) notified) ++ bytes_of (replicate rows (one_cell (decimal k)))) ++ bytes_of (behind_rows rows) ≡ bytes_of (reply k rows notified)
reply_is k rows notified =
    ap (λ l. l ++ bytes_of (behind_rows rows)) (sym (flat_map-append message_bytes (before_rows (decimal k) notified) (replicate rows (one_cell (decimal k)))))
    ∙ sym (flat_map-append message_bytes (before_rows (decimal k) notified ++ replicate rows (one_cell (decimal k))) (behind_rows rows))
