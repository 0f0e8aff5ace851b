-- What stands in a head that a piece was added to.
use Rattle.std.proofs.Common.{◌≡◌, ℕ, ◌+◌, ◌-◌, ◌≤◌, List, ◌++◌, length, take, min, sym, ap, ◌∙◌, arith, length-take-le}
use Rattle.std.proofs.Math.Seq.{take-append-add}
use Rattle.std.proofs.lemmas.List.{take_min}
use Rattle.std.proofs.lemmas.Slice.{take-put_mid}
use borrow.Rule.Slice.PartMut.{put_mid}

-- the front of what stood there goes on by the front of the piece
pub grows : (bytes old piece new : List ℕ) (len n : ℕ) → len ≤ 32 → length bytes ≡ 32 → take len bytes ≡ old → n ≡ min (32 - len) (length piece) → new ≡ take n piece →
    take (len + n) (put_mid len (len + n - len) bytes new) ≡ take 32 (old ++ piece)
grows bytes old piece new len n fits size stood n_is new_is =
    let new_len : length new ≡ n = ap length new_is ∙ length-take-le n piece (omega (arith, n_is)) in
    let old_len : length old ≡ len = ap length (sym stood) ∙ length-take-le len bytes (omega (arith, fits, size)) in
    let whole : length old + (32 - len) ≡ 32 = omega (arith, old_len, fits) in
    let shorter : take n piece ≡ take (32 - len) piece = ap (λ (k : ℕ). take k piece) n_is ∙ take_min (32 - len) piece in
    take-put_mid len (len + n - len) bytes new (len + n) (omega (arith, new_len)) (omega (arith, fits, size))
    ∙ ap (λ (front : List ℕ). front ++ new) stood
    ∙ ap (λ (rest : List ℕ). old ++ rest) (new_is ∙ shorter)
    ∙ sym (take-append-add old piece (32 - len))
    ∙ ap (λ (k : ℕ). take k (old ++ piece)) whole
