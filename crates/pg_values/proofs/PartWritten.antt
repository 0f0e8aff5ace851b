-- A part, written.
use Rattle.std.proofs.Common.{◌≡◌, inr, ℕ, ◌<◌, ◌≤◌, ◌+◌, ◌-◌, ◌^◌, Bool, true, false, List, [], ◌∷◌, ◌++◌, length, take, drop, None, Result, Ok, Err, MatchResult, refl, sym, subst, arith, w32}
use Rattle.std.specs.Int.{to_be_bytes}
use Rattle.pg_types.specs.declared.fault.ValueFault.{ValueFault}
use Rattle.pg_types.specs.declared.fault.ValueFault.TheVariants as fault
use Rattle.pg_types.specs.declared.pg_type.Kind as k
use Rattle.pg_values.specs.declared.datum.Datum as d
use Rattle.pg_values.specs.declared.datum.Datum.{Datum}
use Rattle.pg_values.specs.Parts.{IsNext, part_bytes}
use Rattle.pg_values.specs.Spelling.{SpellsKind}
use Rattle.pg_values.specs.Writing.{HasNone, Puts, WritesAs}
use Rattle.pg_values.proofs.WriteLaws.{nothing, begun, first, lacked, refused, null_part, no_part, part_size, part_written}
use Rattle.pg_values.proofs.PlainLaws.{kind_some}

-- what `set_len` answers
abbrev pub SetsLen : {A : Type 0} → (at : ℕ) (out new : List ℕ) → Result A ValueFault → Type 0
SetsLen at out new result = MatchResult result
    (λ _. (length out - (at + 4) < 2 ^ 31) × (new ≡ take at out ++ to_be_bytes w32 (length out - (at + 4)) ++ drop (at + 4) out))
    (λ f. (f ≡ fault.BadValue) × (2 ^ 31 ≤ length out - (at + 4)) × (new ≡ out))

pub part_ends : (nullable : Bool) (W S : Datum → List ℕ → Type 0) (v : Datum) (old bytes new mid out : List ℕ) (r : Result (Unit {0}) ValueFault) → mid ≡ old ++ (0 ∷ 0 ∷ 0 ∷ 0 ∷ [])
    → out ≡ mid ++ bytes → W v bytes → (2 ^ 31 ≤ length bytes → HasNone (λ b. IsNext nullable S v b [])) → SetsLen (length old) out new r → WritesAs (λ b. IsNext nullable W v b []) (λ b. IsNext nullable S v b []) old new r
part_ends nullable W S v old bytes new mid out (Ok x) e f is long set = part_written nullable W v old bytes new mid out e f is set.0 set.1
part_ends nullable W S v old bytes new mid out (Err g) e f is long set =
    let size : length out - (length old + 4) ≡ length bytes = part_size old bytes mid out e f in
    refused (λ b. IsNext nullable W v b []) (λ b. IsNext nullable S v b []) old new g set.0 (long (omega (arith, size, set.1)))
    (begun (first (0 ∷ 0 ∷ 0 ∷ 0 ∷ []) e) (begun (first bytes f) (nothing set.2)))

null_put : (W S : Datum → List ℕ → Type 0) (v : Datum) (old new : List ℕ) (r : Result (Unit {0}) ValueFault) → v ≡ d.Null → Puts (part_bytes None) old new r
    → WritesAs (λ b. IsNext true W v b []) (λ b. IsNext true S v b []) old new r
null_put W S v old new (Ok x) is put = record { bytes = part_bytes None; formed = null_part W v is; behind = put }
null_put W S v old new (Err f) is put = lacked (λ b. IsNext true W v b []) (λ b. IsNext true S v b []) old new f put.0 (nothing put.1)

null_refused : (oid : ℕ) (kind : k.Kind) (v : Datum) (old new : List ℕ) (r : Result (Unit {0}) ValueFault) → v ≡ d.Null → r ≡ Err fault.BadValue → new ≡ old
    → WritesAs (λ b. IsNext false (SpellsKind true oid kind) v b []) (λ b. IsNext false (SpellsKind false oid kind) v b []) old new r
null_refused oid kind v old new r is refused e =
    let W : List ℕ → Type 0 = λ b. IsNext false (SpellsKind true oid kind) v b [] in
    let T : List ℕ → Type 0 = λ b. IsNext false (SpellsKind false oid kind) v b [] in
    let none : HasNone (SpellsKind false oid kind v) = λ bytes are spelled. kind_some oid kind bytes (subst (λ (w : Datum). SpellsKind false oid kind w bytes) is spelled) in
    subst (λ (q : Result (Unit {0}) ValueFault). WritesAs W T old new q) (sym refused) (no_part false (SpellsKind false oid kind) v (inr refl) none, nothing e)

pub null_ends : (nullable : Bool) (oid : ℕ) (kind : k.Kind) (v : Datum) (old new : List ℕ) (r : Result (Unit {0}) ValueFault) → v ≡ d.Null
    → (nullable ≡ true → Puts (part_bytes None) old new r) → (nullable ≡ false → (r ≡ Err fault.BadValue) × (new ≡ old))
    → WritesAs (λ b. IsNext nullable (SpellsKind true oid kind) v b []) (λ b. IsNext nullable (SpellsKind false oid kind) v b []) old new r
null_ends true oid kind v old new r is = λ yes no. null_put (SpellsKind true oid kind) (SpellsKind false oid kind) v old new r is (yes refl)
null_ends false oid kind v old new r is = λ yes no. let refused = no refl in null_refused oid kind v old new r is refused.0 refused.1
