-- The cells of a row.
use Rattle.std.proofs.Common.{◌≡◌, ℕ, ◌+◌, ◌-◌, ◌≤◌, Bool, true, false, cond, List, length, take, drop, Option, Some, None, Result, Ok, Err, refl, sym, ap, subst, ◌∙◌, arith, to_z, of_z, ℤ, pos}
use mir.Val.{SFits}
use lib.IntN.{nat_abs, negsuc}
use lib.Signed.{lt_z}
use Rattle.std.specs.Prelude.{slice_range}
use Rattle.std.specs.Int.{w32, from_be_bytes, cast_signed}
use Rattle.std.proofs.lemmas.Int.{to_z-of_z}
use Rattle.std.proofs.lemmas.Bool.{ne_eqb}
use Rattle.std.proofs.lemmas.List.{length-drop, drop-drop}
use Rattle.pg_spec.specs.Bytes.{bytes_at}
use Rattle.pg_spec.specs.Bodies.{or_layout, cell_at}
use Rattle.pg_spec.specs.Faults as spec
use Rattle.pg_spec.specs.Faults.{◌>>=◌}
use Rattle.pg_wire.specs.Steps.{CellsLeft, cells_left, cell_step}
use Rattle.pg_wire.proofs.Items.{signed_taken, rest_is, bytes_at_all, step_goes_on}

-- what a cell's length makes of the bytes behind it
abbrev behind_length : Bool → ℕ → List ℕ → Result (Option (List ℕ) × List ℕ) spec.WireFault
behind_length null n rest = cond null (Ok (None, rest)) (or_layout (bytes_at n rest) >>= λ cell. Ok (Some cell.0, cell.1))

abbrev cell_by : Result (ℤ × List ℕ) spec.WireFault → Result (Option (List ℕ) × List ℕ) spec.WireFault
cell_by read = read >>= λ n. behind_length (lt_z n.0 (pos 0)) (of_z w32 n.0) n.1

-- the length in front of a cell
record LengthRead (buffer : List ℕ) (at : ℕ) (z : ℤ) (rest : List ℕ) : Type 0 where
  fits : at + 4 ≤ length buffer
  behind : rest ≡ drop (at + 4) buffer
  by_length : cell_at (drop at buffer) ≡ behind_length (lt_z z (pos 0)) (of_z w32 z) (drop (at + 4) buffer)

length_read : (buffer rest : List ℕ) (at : ℕ) (z : ℤ) → SFits w32 z →
    z ≡ cast_signed w32 (from_be_bytes w32 (take 4 (take (length buffer - at) (drop at buffer)))) →
    (4 ≤ length (take (length buffer - at) (drop at buffer))) × (rest ≡ drop 4 (take (length buffer - at) (drop at buffer))) → at ≤ length buffer →
    LengthRead buffer at z rest
length_read buffer rest at z fits is took within =
    let s : List ℕ = drop at buffer in
    let same : take (length buffer - at) s ≡ s = rest_is buffer at in
    let is' : z ≡ cast_signed w32 (from_be_bytes w32 (take 4 s)) = is ∙ ap (λ (x : List ℕ). cast_signed w32 (from_be_bytes w32 (take 4 x))) same in
    let long : 4 ≤ length s = subst (λ (x : List ℕ). 4 ≤ length x) same took.0 in
    let behind : drop 4 s ≡ drop (at + 4) buffer = drop-drop 4 at buffer in
    let back : to_z w32 (of_z w32 z) ≡ z = to_z-of_z w32 z fits in
    record {
      fits = omega (arith, length-drop at buffer, long);
      behind = took.1 ∙ ap (drop 4) same ∙ behind;
      by_length = ap cell_by (signed_taken w32 s (drop 4 s) z fits is' (long, refl))
          ∙ ap (λ (x : ℤ). behind_length (lt_z x (pos 0)) (of_z w32 x) (drop 4 s)) back
          ∙ ap (λ (x : List ℕ). behind_length (lt_z z (pos 0)) (of_z w32 z) x) behind;
    }

-- whether the length is negative, as the code asks
as_asked : (z : ℤ) (b : Bool) → SFits w32 z → lt_z (to_z w32 (of_z w32 z)) (pos 0) ≡ b → lt_z z (pos 0) ≡ b
as_asked z b fits asked = ap (λ (x : ℤ). lt_z x (pos 0)) (sym (to_z-of_z w32 z fits)) ∙ asked

pub null_cell : (buffer rest : List ℕ) (at : ℕ) (z : ℤ) → SFits w32 z →
    z ≡ cast_signed w32 (from_be_bytes w32 (take 4 (take (length buffer - at) (drop at buffer)))) →
    (4 ≤ length (take (length buffer - at) (drop at buffer))) × (rest ≡ drop 4 (take (length buffer - at) (drop at buffer))) → at ≤ length buffer →
    lt_z (to_z w32 (of_z w32 z)) (pos 0) ≡ true → Unit {0} × (at + 4 ≤ length buffer) × (cell_at (drop at buffer) ≡ Ok (None, drop (at + 4) buffer))
null_cell buffer rest at z fits is took within negative =
    let read = length_read buffer rest at z fits is took within in
    (tt, read.fits, read.by_length ∙ ap (λ b. behind_length b (of_z w32 z) (drop (at + 4) buffer)) (as_asked z true fits negative))

-- a length that isn't negative is the number of bytes
as_number : (z : ℤ) → SFits w32 z → lt_z z (pos 0) ≡ false → nat_abs (to_z w32 (of_z w32 z)) ≡ of_z w32 z
as_number (pos n) fits low = ap nat_abs (to_z-of_z w32 (pos n) fits)
as_number (negsuc n) fits low = absurd cc

abbrev length_of : ℤ → ℕ
length_of z = nat_abs (to_z w32 (of_z w32 z))

pub some_cell : (buffer rest : List ℕ) (at : ℕ) (z : ℤ) → SFits w32 z →
    z ≡ cast_signed w32 (from_be_bytes w32 (take 4 (take (length buffer - at) (drop at buffer)))) →
    (4 ≤ length (take (length buffer - at) (drop at buffer))) × (rest ≡ drop 4 (take (length buffer - at) (drop at buffer))) → at ≤ length buffer →
    lt_z (to_z w32 (of_z w32 z)) (pos 0) ≡ false → length_of z ≤ length rest →
    ((at + 4 ≤ at + 4 + length_of z) × (at + 4 + length_of z ≤ length buffer)) × (at + 4 + length_of z ≤ length buffer)
    × (cell_at (drop at buffer) ≡ Ok (Some (slice_range buffer (at + 4) (at + 4 + length_of z)), drop (at + 4 + length_of z) buffer))
some_cell buffer rest at z fits is took within low enough =
    let read = length_read buffer rest at z fits is took within in
    let n : ℕ = length_of z in
    let behind : List ℕ = drop (at + 4) buffer in
    let enough' : n ≤ length behind = subst (λ (x : List ℕ). n ≤ length x) read.behind enough in
    let fits' : at + 4 + n ≤ length buffer = omega (arith, length-drop (at + 4) buffer, enough', read.fits) in
    let size : at + 4 + n - (at + 4) ≡ n = omega arith in
    let both : ◌≡◌ {A = Option (List ℕ) × List ℕ} (Some (take n behind), drop n behind) (Some (slice_range buffer (at + 4) (at + 4 + n)), drop (at + 4 + n) buffer) =
    λ i. (Some (take (sym size i) behind), drop-drop n (at + 4) buffer i) in
    let counted : cell_at (drop at buffer) ≡ behind_length false n behind =
    read.by_length ∙ ap (λ b. behind_length b (of_z w32 z) behind) (as_asked z false fits low)
    ∙ ap (λ (k : ℕ). behind_length false k behind) (sym (as_number z fits (as_asked z false fits low))) in
    let cut : behind_length false n behind ≡ Ok (Some (take n behind), drop n behind) =
    ap (λ r. or_layout r >>= λ cell. Ok (Some cell.0, cell.1)) (bytes_at_all n behind enough') in
    ((omega arith, fits'), fits', counted ∙ cut ∙ ap (λ p. Ok p) both)

-- bytes are left behind the last cell
pub cells_go_on : (count at : ℕ) (buffer : List ℕ) (left : CellsLeft) → ◌≡◌ {A = CellsLeft} (record { count = count; at = at; buffer = buffer }) left →
    at ≤ length buffer → count ≡ 0 → (at ≡ length buffer → ⊥) → cell_step left ≡ Err spec.Layout
cells_go_on count at buffer left is within none more =
    step_goes_on cell_at count (drop at buffer) (cells_left left) (ap cells_left is) none
    (sym (ne_eqb (length (drop at buffer)) 0 (λ e. more (omega (arith, length-drop at buffer, e, within)))))
