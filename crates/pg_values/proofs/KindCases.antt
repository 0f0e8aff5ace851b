-- What the definitions by cases on a kind say of a kind that holds types.
use Rattle.std.proofs.Common.{◌≡◌, ℕ, Bool, List, ap}
use Rattle.pg_types.specs.declared.pg_type.PgType.{PgType}
use Rattle.pg_types.specs.declared.pg_type.Field.{Field}
use Rattle.pg_types.specs.declared.pg_type.Kind as k
use Rattle.pg_types.proofs.KindLaws.{array_is, range_is, domain_is, composite_is, row_of}
use Rattle.pg_values.specs.declared.datum.Datum.{Datum}
use Rattle.pg_values.specs.Supported.{is_supported, is_supported_kind, are_supported}
use Rattle.pg_values.specs.Spelling.{SpellsKind, IsArray, IsRange, IsComposite, SpellFields, count_fields}

-- ---- which types are supported

pub array_supported : (oid : ℕ) (e : PgType) → is_supported_kind oid (k.Array e) ≡ is_supported e
array_supported oid e = ap (is_supported_kind oid) (array_is e)

pub range_supported : (oid : ℕ) (e : PgType) → is_supported_kind oid (k.Range e) ≡ is_supported e
range_supported oid e = ap (is_supported_kind oid) (range_is e)

pub domain_supported : (oid : ℕ) (e : PgType) → is_supported_kind oid (k.Domain e) ≡ is_supported e
domain_supported oid e = ap (is_supported_kind oid) (domain_is e)

pub composite_supported : (oid : ℕ) (fs : List Field) → is_supported_kind oid (k.Composite fs) ≡ are_supported (row_of fs)
composite_supported oid fs = ap (is_supported_kind oid) (composite_is fs)

-- ---- what is spelled

pub array_spells : (plain : Bool) (oid : ℕ) (e : PgType) (v : Datum) (bytes : List ℕ)
    → SpellsKind plain oid (k.Array e) v bytes ≡ IsArray plain e.oid (SpellsKind plain e.oid e.kind) v bytes
array_spells plain oid e v bytes = ap (λ (kind : k.Kind). SpellsKind plain oid kind v bytes) (array_is e)

pub range_spells : (plain : Bool) (oid : ℕ) (e : PgType) (v : Datum) (bytes : List ℕ)
    → SpellsKind plain oid (k.Range e) v bytes ≡ IsRange plain (SpellsKind plain e.oid e.kind) v bytes
range_spells plain oid e v bytes = ap (λ (kind : k.Kind). SpellsKind plain oid kind v bytes) (range_is e)

pub domain_spells : (plain : Bool) (oid : ℕ) (e : PgType) (v : Datum) (bytes : List ℕ)
    → SpellsKind plain oid (k.Domain e) v bytes ≡ SpellsKind plain e.oid e.kind v bytes
domain_spells plain oid e v bytes = ap (λ (kind : k.Kind). SpellsKind plain oid kind v bytes) (domain_is e)

pub composite_spells : (plain : Bool) (oid : ℕ) (fs : List Field) (v : Datum) (bytes : List ℕ)
    → SpellsKind plain oid (k.Composite fs) v bytes ≡ IsComposite (count_fields (row_of fs)) (SpellFields plain (row_of fs)) v bytes
composite_spells plain oid fs v bytes = ap (λ (kind : k.Kind). SpellsKind plain oid kind v bytes) (composite_is fs)
