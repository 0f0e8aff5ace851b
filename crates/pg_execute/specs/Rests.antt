-- Where the rest of a reply is taken, before the types of its columns are found.
use Rattle.std.specs.Prelude.{◌≡◌, ℕ, List, [], ◌∷◌, Bool, true, false, Option, Some, None, Result, Ok, Err}
use Rattle.pg_spec.specs.RawMessages.{RawMessage}
use Rattle.pg_types.specs.declared.error.Error.{Error}
use Rattle.pg_query.specs.declared.desk_call.Cleanup.TheVariants.{Release}
use Rattle.pg_query.specs.Dialogue.{Dialogue, Answer, HangUp, Read}
use Rattle.pg_execute.specs.Rows.{rows_read}
use Rattle.pg_execute.specs.Typed.{columns_came, has_ended, told_or}
use Rattle.pg_execute.specs.declared.got.Got.{Got}
use Rattle.pg_execute.specs.declared.how_many.HowMany.{HowMany}
use Rattle.pg_execute.specs.declared.takes_rest.TakesRest.{TakesRest}

-- what rows tell, before anything is made of them
abbrev pub rows_told : HowMany → (columns : ℕ) → Got → List RawMessage → Option (Result Got Error)
rows_told how columns = rows_read how columns (λ g. Ok g)

-- messages are taken by this up to the end of the reply, and the request is hung up
abbrev pub takes_by : (List RawMessage → Option (Result Got Error)) → Dialogue (Result Got Error)
takes_by reading = Read (Release ∷ []) has_ended (λ taken. HangUp (Answer (Ok (told_or (reading taken)))))

-- the rest behind so many columns
abbrev pub takes_rest_of : HowMany → (columns : ℕ) → Dialogue (Result Got Error)
takes_rest_of how columns = takes_by (rows_told how columns columns_came)

-- what was told stands, or else messages tell it
abbrev pub told_before : Option (Result Got Error) → Option (Result Got Error) → Option (Result Got Error)
told_before (Some r) later = Some r
told_before None later = later

-- what messages tell from here on
abbrev pub rest_told : TakesRest → List RawMessage → Option (Result Got Error)
rest_told s taken = told_before s.told (rows_told s.how_many s.columns s.got taken)

-- a message was taken
pub record Takes (old : TakesRest) (raw : RawMessage) (new : TakesRest) : Type 0 where
  pub told : told_or new.told ≡ told_or (rest_told old (raw ∷ []))
  pub later : (ms : List RawMessage) → rest_told old (raw ∷ ms) ≡ rest_told new ms

-- what is still read and answered, where it was hung up or not
abbrev pub rest_from : (ended : Bool) → TakesRest → Dialogue (Result Got Error)
rest_from true s = Answer (Ok (told_or s.told))
rest_from false s = takes_by (rest_told s)

-- the same of the script
abbrev pub rest_at : TakesRest → Dialogue (Result Got Error)
rest_at s = rest_from s.ended s

-- it sends and asks nothing that a desk could refuse
abbrev pub rest_refuses : TakesRest → Error → Dialogue (Result Got Error)
rest_refuses s e = Answer (Err e)
