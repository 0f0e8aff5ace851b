-- Where the asking for types stands that may not all be known.
use Rattle.std.specs.Prelude.{ℕ, ◌+◌, List, [], ◌∷◌, ◌++◌, length, Option, Some, None, Ok, Err}
use Rattle.pg_types.specs.declared.pg_type.PgType.{PgType}
use Rattle.pg_types.specs.declared.error.Error.{Error}
use Rattle.pg_query.specs.Dialogue.{Dialogue, Answer, HangUp, Hear}
use Rattle.pg_query.specs.Scripts.{Waiting, Nothing, AReply}
use Rattle.pg_execute.specs.Typed.{all_known, or_else, type_told}
use Rattle.pg_execute.specs.declared.knows_all.Asking.{Asking}
use Rattle.pg_execute.specs.declared.knows_all.Asking.TheVariants.{Asked, Fails, Goes}
use Rattle.pg_execute.specs.declared.knows_all.KnowsAll.{KnowsAll}

-- one isn't known
abbrev pub unknown : Dialogue (Option (List PgType))
unknown = Answer (Ok None)

-- the types of these oids behind those that were found, where all of them are known
abbrev pub knows : (oids : List ℕ) → (found : List PgType) → Dialogue (Option (List PgType))
knows oids found = all_known unknown (λ types. Answer (Ok (Some types))) oids found

-- a type was asked for, and these oids are left behind it
abbrev pub hears_known : (oids : List ℕ) → (found : List PgType) → Dialogue (Option (List PgType))
hears_known oids found = Hear (type_told (or_else unknown (λ ty. knows oids (found ++ ty ∷ []))))

-- what is still asked and answered, by where it stands
abbrev pub knows_from : Asking → (oids : List ℕ) → (found : List PgType) → Dialogue (Option (List PgType))
knows_from Goes oids found = knows oids found
knows_from Asked oids found = hears_known oids found
knows_from (Fails e) oids found = Answer (Err e)

-- the same of the script
abbrev pub knows_at : KnowsAll → Dialogue (Option (List PgType))
knows_at s = knows_from s.asking s.left.items s.found

-- what is waited for: a reply, where a type was asked for
abbrev pub knows_waits_from : (a : Asking) → (oids : List ℕ) → (found : List PgType) → Waiting (knows_from a oids found)
knows_waits_from Goes oids found = Nothing
knows_waits_from Asked oids found = AReply tt
knows_waits_from (Fails e) oids found = Nothing

-- the same of the script
abbrev pub knows_waits : (s : KnowsAll) → Waiting (knows_at s)
knows_waits s = knows_waits_from s.asking s.left.items s.found

-- where the desk refuses a question, the request is hung up, and its error is the answer
abbrev pub knows_refuses : KnowsAll → Error → Dialogue (Option (List PgType))
knows_refuses s e = HangUp (Answer (Err e))

-- how many steps are left: a question for each oid, and the hanging up
abbrev pub knows_steps_from : Asking → (oids : List ℕ) → ℕ
knows_steps_from Goes oids = length oids + 1
knows_steps_from Asked oids = length oids + 1
knows_steps_from (Fails e) oids = 0

-- the same of the script
abbrev pub knows_steps : KnowsAll → ℕ
knows_steps s = knows_steps_from s.asking s.left.items
