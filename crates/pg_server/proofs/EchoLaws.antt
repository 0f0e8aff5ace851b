-- The rows of a text, byte by byte.
use Rattle.std.proofs.Common.{◌≡◌, ℕ, suc, ◌+◌, List, [], ◌∷◌, ◌++◌, ap, ◌∙◌, length, append_assoc, arith}
use Rattle.std.specs.Int.{w16, w32, to_be_bytes}
use Rattle.std.specs.Str.{byte}
use Rattle.pg_spec.specs.RawMessages.{message_bytes}
use Rattle.pg_server.specs.Echoes.{description, complete, rows_of}

-- seven pieces, one behind another
pub seven : (a b c d e f g : List ℕ) → ((((((a ++ b) ++ c) ++ d) ++ e) ++ f) ++ g) ≡ a ++ (b ++ c ++ d ++ e ++ f) ++ g
seven a b c d e f g = simp append_assoc

-- the same, added one behind another
pub added_up : (b0 b1 b2 b3 b4 b5 b6 b7 a b c d e f g : List ℕ) → b0 ≡ [] → b1 ≡ b0 ++ a → b2 ≡ b1 ++ b → b3 ≡ b2 ++ c → b4 ≡ b3 ++ d → b5 ≡ b4 ++ e → b6 ≡ b5 ++ f → b7 ≡ b6 ++ g →
    b7 ≡ ((((((a ++ b) ++ c) ++ d) ++ e) ++ f) ++ g)
added_up b0 b1 b2 b3 b4 b5 b6 b7 a b c d e f g e0 e1 e2 e3 e4 e5 e6 e7 =
    e7
    ∙ ap (λ (x : List ℕ). x ++ g) (e6
    ∙ ap (λ (x : List ℕ). x ++ f) (e5
    ∙ ap (λ (x : List ℕ). x ++ e) (e4
    ∙ ap (λ (x : List ℕ). x ++ d) (e3
    ∙ ap (λ (x : List ℕ). x ++ c) (e2
    ∙ ap (λ (x : List ℕ). x ++ b) (e1 ∙ ap (λ (x : List ℕ). x ++ a) e0))))))

pub rows_spelled : (text : List ℕ) (n m : ℕ) → m ≡ length text → n ≡ m + 10 →
    ((((((message_bytes description ++ byte "D" ∷ []) ++ to_be_bytes w32 n) ++ to_be_bytes w16 1) ++ to_be_bytes w32 m) ++ text) ++ message_bytes complete) ≡ rows_of text
rows_spelled text n m m_is n_is =
    seven (message_bytes description) (byte "D" ∷ []) (to_be_bytes w32 n) (to_be_bytes w16 1) (to_be_bytes w32 m) text (message_bytes complete)
    ∙ ap (λ (k : ℕ). message_bytes description ++ (byte "D" ∷ to_be_bytes w32 n ++ to_be_bytes w16 1 ++ to_be_bytes w32 k ++ text) ++ message_bytes complete) m_is
    ∙ ap (λ (k : ℕ). message_bytes description ++ (byte "D" ∷ to_be_bytes w32 k ++ to_be_bytes w16 1 ++ to_be_bytes w32 (length text) ++ text) ++ message_bytes complete)
    (let e : n ≡ 4 + length (to_be_bytes w16 1 ++ to_be_bytes w32 (length text) ++ text) = n_is ∙ ap (λ (k : ℕ). k + 10) m_is ∙ sized (length text) in e)
  where
    sized : (k : ℕ) → k + 10 ≡ 4 + suc (suc (suc (suc (suc (suc k)))))
    sized k = omega arith
