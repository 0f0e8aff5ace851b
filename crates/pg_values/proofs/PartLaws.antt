-- A part in front of some bytes is the only one.
use Rattle.std.proofs.Common.{◌≡◌, ℕ, suc, ◌<◌, ◌≤◌, ◌≢◌, ◌^◌, ◌+◌, Bool, false, List, [], ◌++◌, length, Option, Some, None, ap, refl, sym, ◌∙◌, arith, append_assoc, length-append, w32}
use Rattle.std.specs.Int.{to_be_bytes}
use Rattle.pg_values.specs.Parts.{part_bytes, PartFits, IsPart}
use Rattle.pg_values.proofs.ByteLaws.{word_same, word_rest, same_front, same_rest}

-- the length field, and what stands behind it
abbrev pub field_of : Option (List ℕ) → ℕ
field_of None = 4294967295
field_of (Some bytes) = length bytes

abbrev pub behind_field : Option (List ℕ) → List ℕ
behind_field None = []
behind_field (Some bytes) = bytes

pub part_split : (part : Option (List ℕ)) (rest : List ℕ) → part_bytes part ++ rest ≡ to_be_bytes w32 (field_of part) ++ (behind_field part ++ rest)
part_split None rest = refl
part_split (Some bytes) rest = append_assoc (to_be_bytes w32 (length bytes)) bytes rest

field_fits : (nullable : Bool) (part : Option (List ℕ)) → PartFits nullable part → field_of part < 2 ^ 32
field_fits nullable None fits = omega arith
field_fits nullable (Some bytes) fits = omega (arith, fits)

-- what a part of these bytes says of the first four
pub field_is : {nullable : Bool} {part : Option (List ℕ)} {bytes rest : List ℕ} (n : ℕ) (behind : List ℕ) → n < 2 ^ 32
    → bytes ≡ to_be_bytes w32 n ++ behind → IsPart nullable part bytes rest → (field_of part ≡ n) × (behind ≡ behind_field part ++ rest)
field_is {nullable} {part} {bytes} {rest} n behind less e p =
    let both : to_be_bytes w32 n ++ behind ≡ to_be_bytes w32 (field_of part) ++ (behind_field part ++ rest) = sym e ∙ p.spelled ∙ part_split part rest in (
      sym (word_same n (field_of part) behind (behind_field part ++ rest) less (field_fits nullable part p.fits) both),
      word_rest n (field_of part) behind (behind_field part ++ rest) both,
    )

-- there are four bytes
pub has_field : {nullable : Bool} {part : Option (List ℕ)} {bytes rest : List ℕ} → length bytes < 4 → IsPart nullable part bytes rest → ⊥
has_field {nullable} {part} {bytes} {rest} less p =
    let e : length bytes ≡ suc (suc (suc (suc (length (behind_field part ++ rest))))) = ap length (p.spelled ∙ part_split part rest) in
    omega (arith, e, less)

-- which part it is
null_part : (nullable : Bool) (part : Option (List ℕ)) → PartFits nullable part → field_of part ≡ 4294967295 → part ≡ None
null_part nullable None fits e = refl
null_part nullable (Some bytes) fits e = absurd (omega (arith, fits, e))

pub no_null : (part : Option (List ℕ)) → PartFits false part → field_of part ≡ 4294967295 → ⊥
no_null None fits e = absurd (cc)
no_null (Some bytes) fits e = omega (arith, fits, e)

pub no_long : (nullable : Bool) (part : Option (List ℕ)) (n : ℕ) → PartFits nullable part → field_of part ≡ n → n ≢ 4294967295 → 2 ^ 31 ≤ n → ⊥
no_long nullable None n fits e other long = other (sym e)
no_long nullable (Some bytes) n fits e other long = omega (arith, fits, e, long)

pub no_room : (nullable : Bool) (part : Option (List ℕ)) (n : ℕ) (behind rest : List ℕ) → field_of part ≡ n → n ≢ 4294967295 → behind ≡ behind_field part ++ rest → length behind < n → ⊥
no_room nullable None n behind rest e other is less = other (sym e)
no_room nullable (Some bytes) n behind rest e other is less =
    let l : length behind ≡ length bytes + length rest = ap length is ∙ length-append bytes rest in omega (arith, e, l, less)

-- two parts in front are one
same_part : (nullable : Bool) (p q : Option (List ℕ)) (r s : List ℕ) → PartFits nullable p → PartFits nullable q → field_of p ≡ field_of q
    → behind_field p ++ r ≡ behind_field q ++ s → (p ≡ q) × (r ≡ s)
same_part nullable None None r s fp fq e is = (refl, is)
same_part nullable None (Some b) r s fp fq e is = absurd (omega (arith, fq, e))
same_part nullable (Some a) None r s fp fq e is = absurd (omega (arith, fp, e))
same_part nullable (Some a) (Some b) r s fp fq e is =
    (ap (λ (l : List ℕ). Some l) (same_front (length b) a b r s e refl is), same_rest (length b) a b r s e refl is)

pub part_only : {nullable : Bool} {p q : Option (List ℕ)} {bytes r s : List ℕ} → IsPart nullable p bytes r → IsPart nullable q bytes s → (p ≡ q) × (r ≡ s)
part_only {nullable} {p} {q} {bytes} {r} {s} a b =
    let both : to_be_bytes w32 (field_of p) ++ (behind_field p ++ r) ≡ to_be_bytes w32 (field_of q) ++ (behind_field q ++ s) =
    sym (part_split p r) ∙ sym a.spelled ∙ b.spelled ∙ part_split q s in
    same_part nullable p q r s a.fits b.fits
    (word_same (field_of p) (field_of q) (behind_field p ++ r) (behind_field q ++ s) (field_fits nullable p a.fits) (field_fits nullable q b.fits) both)
    (word_rest (field_of p) (field_of q) (behind_field p ++ r) (behind_field q ++ s) both)
