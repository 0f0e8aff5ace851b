-- What a cell tells that isn't null.
use Rattle.std.proofs.Common.{◌≡◌, ℕ, List, Bool, true, false, if◌then◌else◌, Some, Result, Ok, Err, IfOk, sym, ap, ◌∙◌}
use Rattle.std.specs.Str.{is_utf8}
use Rattle.std.specs.declared.alloc.AllocError.{AllocError}
use Rattle.pg_config.specs.declared.modes.TargetSessionAttrs.{TargetSessionAttrs}
use Rattle.pg_spec.specs.Faults as spec
use Rattle.pg_types.specs.declared.fault.ValueFault.TheVariants.{BadValue}
use Rattle.pg_client.specs.Showing.{Told, told_by_cell, told_by_value}

-- a text, or none
abbrev by_utf8 : TargetSessionAttrs → List ℕ → Bool → Told
by_utf8 attrs bytes b = if b then told_by_value attrs bytes else Err (spec.FromSql 0 (spec.Value BadValue))

-- a text tells what its value does
pub text-told : (r : Result Told AllocError) (attrs : TargetSessionAttrs) (bytes value : List ℕ) → value ≡ bytes → is_utf8 bytes ≡ true →
    IfOk r (λ told. told ≡ told_by_value attrs value) → IfOk r (λ told. told ≡ told_by_cell attrs (Some bytes))
text-told (Ok told) attrs bytes value same utf8 is = is ∙ ap (λ (v : List ℕ). told_by_value attrs v) same ∙ sym (ap (λ (b : Bool). by_utf8 attrs bytes b) utf8)
text-told (Err e) attrs bytes value same utf8 is = tt

-- other bytes are an error
pub no-text-told : (attrs : TargetSessionAttrs) (bytes : List ℕ) → is_utf8 bytes ≡ false → Err (spec.FromSql 0 (spec.Value BadValue)) ≡ told_by_cell attrs (Some bytes)
no-text-told attrs bytes none = sym (ap (λ (b : Bool). by_utf8 attrs bytes b) none)
