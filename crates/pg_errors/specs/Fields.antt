-- The fields in front of the body of an error or a notice.
use Rattle.std.specs.Prelude.{ℕ, List, map, filter, Option, None, ◌==◌}
use Rattle.std.specs.List.{last_or}
use Rattle.pg_spec.specs.Bytes.{items_of}
use Rattle.pg_spec.specs.DbErrors.{ErrorField, error_field_at}

-- the fields that can be read one after another
abbrev pub fields_in : List ℕ → List ErrorField
fields_in body = (items_of error_field_at body).0

-- the bytes of the fields of a kind, in order
abbrev pub values_of : ℕ → List ErrorField → List (List ℕ)
values_of kind fields = map (λ f. f.text) (filter (λ f. f.kind == kind) fields)

-- the last of them counts
abbrev pub value_of : ℕ → List ErrorField → Option (List ℕ)
value_of kind fields = last_or None (values_of kind fields)
