-- Where the finding of types stands that must all be known.
use Rattle.std.specs.Prelude.{ℕ, List, [], ◌∷◌, ◌++◌, length, Bool, true, false, Err}
use Rattle.pg_types.specs.declared.pg_type.PgType.{PgType}
use Rattle.pg_types.specs.declared.error.Error.{Error}
use Rattle.pg_query.specs.Dialogue.{Dialogue, Answer, Hear}
use Rattle.pg_query.specs.Scripts.{Waiting, Nothing, AReply}
use Rattle.pg_core.specs.Prepares.{known_types, needs_type, type_told}
use Rattle.pg_core.specs.declared.known_types.KnownTypes.{KnownTypes}

-- a type was asked for, and these oids are left behind it
abbrev pub hears_type : (oids : List ℕ) → (found : List PgType) → Dialogue (List PgType)
hears_type oids found = Hear (type_told (needs_type (λ ty. known_types oids (found ++ ty ∷ []))))

-- the same, where one was asked for or not
abbrev pub known_from : (hears : Bool) → (oids : List ℕ) → (found : List PgType) → Dialogue (List PgType)
known_from true oids found = hears_type oids found
known_from false oids found = known_types oids found

-- what is still asked and answered
abbrev pub known_at : KnownTypes → Dialogue (List PgType)
known_at s = known_from s.hears s.left.items s.found

-- what is waited for: a reply, where a type was asked for
abbrev pub known_waits_from : (hears : Bool) → (oids : List ℕ) → (found : List PgType) → Waiting (known_from hears oids found)
known_waits_from true oids found = AReply tt
known_waits_from false oids found = Nothing

-- the same of the script
abbrev pub known_waits : (s : KnownTypes) → Waiting (known_at s)
known_waits s = known_waits_from s.hears s.left.items s.found

-- where the desk refuses a question, its error is the answer
abbrev pub known_refuses : KnownTypes → Error → Dialogue (List PgType)
known_refuses s e = Answer (Err e)

-- how many steps are left
abbrev pub known_steps : KnownTypes → ℕ
known_steps s = length s.left.items
