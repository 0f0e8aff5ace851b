-- Items of a reply that was taken whole before they are given, and whose request was hung up then.
use Rattle.std.specs.Prelude.{ℕ, List, [], ◌∷◌, ◌++◌, Bool, true, false, Option, Some, None, Result, Err}
use Rattle.pg_spec.specs.RawMessages.{RawMessage}
use Rattle.pg_types.specs.declared.error.Error.{Error}
use Rattle.pg_types.specs.declared.error.Error.TheVariants.{UnexpectedMessage}
use Rattle.pg_query.specs.Dialogue.{Dialogue, Answer, HangUp, Send, feed}
use Rattle.pg_streams.specs.Families.{Family}
use Rattle.pg_streams.specs.Hearing.{First}
use Rattle.pg_streams.specs.declared.giving.Told.{Told}
use Rattle.pg_streams.specs.declared.giving.Told.TheVariants.{Fails}

-- the messages of several batches, in order
abbrev pub joined : List (List RawMessage) → List RawMessage
joined [] = []
joined (ms ∷ batches) = ms ++ joined batches

-- what one has who collects, where the reply was hung up and no more of it comes
abbrev pub collected : {W : Type 0} → Dialogue W → Result W Error
collected (Answer r) = r
collected (HangUp d) = collected d
collected (Send part refused d) = collected d
collected other = Err UnexpectedMessage

-- messages that tell nothing up to their end tell that the reply isn't right
abbrev pub or_unexpected : {G I : Type 0} → Option (Told I) → First G I → First G I
or_unexpected (Some told) first = first
or_unexpected None first = record { told = Some (Fails UnexpectedMessage); giving = first.giving; left = [] }

-- where one stands who reads on, once the messages behind are there too and nothing else comes
abbrev pub brought : {P W G I : Type 0} → (later : List RawMessage) → Family P W G I → Family P W G I
brought later p = record {
  place = λ plan. record { dialogue = Answer (collected (feed later (p.place plan).dialogue)); reads = (p.place plan).reads };
  first = λ more. or_unexpected (p.first later).told (p.first later);
}

-- the same where that was taken before, and else where one reads on
abbrev pub brought_if : {P W G I : Type 0} → (taken : Bool) → (later : List RawMessage) → Family P W G I → Family P W G I
brought_if true later p = brought later p
brought_if false later p = p
