-- A startup frame that was sent in part.
use Rattle.std.proofs.Common.{◌≡◌, ℕ, ◌+◌, ◌^◌, ◌<◌, Bool, false, ◌==◌, List, [], ◌∷◌, ◌++◌, length, drop, Option, Some, None, refl, sym, ap, ◌∙◌, arith, if◌then◌else◌}
use Rattle.std.specs.Int.{w32, byte_at, to_be_bytes}
use Rattle.std.proofs.lemmas.Bool.{lt-ltb, and_right}
use Rattle.std.proofs.lemmas.List.{length-append}
use Rattle.pg_spec.specs.Bytes.{number_at}
use Rattle.pg_spec.specs.Frames.{untagged}
use Rattle.pg_spec.specs.Sent.{asked_for_tls, after_ssl_request, behind_length, after_startup_frame}
use Rattle.pg_spec.proofs.Readers.{number_at-Reader, number_at_front}

number_in : Option (ℕ × List ℕ) → ℕ
number_in None = 0
number_in (Some n) = n.0

none-behind : (body t rest : List ℕ) (x : ℕ) → t ++ x ∷ rest ≡ untagged body → 4 + length body < 2 ^ 32 → behind_length t (number_at w32 t) ≡ None
unfolding number_in
none-behind body t rest x e fits = by (number_at w32 t) refl
  where
    short : length t < 4 + length body
    short = omega (arith, ap length e, length-append t (x ∷ rest), length-append (to_be_bytes w32 (4 + length body)) body)

    by : (o : Option (ℕ × List ℕ)) → number_at w32 t ≡ o → behind_length t o ≡ None
    by None at = refl
    by (Some n) at =
        let whole : number_at w32 (t ++ x ∷ rest) ≡ Some (4 + length body, body) = ap (number_at w32) e ∙ number_at_front (4 + length body) body fits in
        let same : n.0 ≡ 4 + length body = ap number_in (sym (number_at-Reader t n.0 n.1 (x ∷ rest) at) ∙ whole) in
        let low : length t < n.0 = omega (arith, same, short) in
        ap (λ (b : Bool). if b then None else Some (drop n.0 t)) (lt-ltb (length t) n.0 low)

-- it doesn't go on as an SSLRequest
no-request : (a b c d : ℕ) (body t rest : List ℕ) → t ++ rest ≡ a ∷ b ∷ c ∷ d ∷ 0 ∷ body → asked_for_tls t ≡ false
no-request a b c d body [] rest e = refl
no-request a b c d body (p ∷ []) rest e = and_right (0 == p) _ refl
no-request a b c d body (p ∷ q ∷ []) rest e = and_right (0 == p) _ (and_right (0 == q) _ refl)
no-request a b c d body (p ∷ q ∷ r ∷ []) rest e = and_right (0 == p) _ (and_right (0 == q) _ (and_right (0 == r) _ refl))
no-request a b c d body (p ∷ q ∷ r ∷ s ∷ []) rest e = and_right (0 == p) _ (and_right (0 == q) _ (and_right (0 == r) _ (and_right (8 == s) _ refl)))
no-request a b c d body (p ∷ q ∷ r ∷ s ∷ u ∷ t) rest e =
    let five : u ≡ 0 = cc in
    ap (λ (n : ℕ). asked_for_tls (p ∷ q ∷ r ∷ s ∷ n ∷ t)) five ∙ and_right (0 == p) _ (and_right (0 == q) _ (and_right (0 == r) _ (and_right (8 == s) _ refl)))

-- so nothing stands behind it
pub part-silent : (body t rest : List ℕ) (x : ℕ) → t ++ x ∷ rest ≡ untagged (0 ∷ body) → 5 + length body < 2 ^ 32 → after_startup_frame t ≡ None
part-silent body t rest x e fits =
    let n = 4 + length (0 ∷ body) in
    let plain : after_ssl_request t ≡ t
    = ap (λ (b : Bool). if b then drop 8 t else t) (no-request (byte_at 3 n) (byte_at 2 n) (byte_at 1 n) (byte_at 0 n) body t (x ∷ rest) e) in
    ap (λ (l : List ℕ). behind_length l (number_at w32 l)) plain ∙ none-behind (0 ∷ body) t rest x e (omega (arith, fits))
