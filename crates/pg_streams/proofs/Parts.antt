-- What a message of the reply to a simple query tells a stream of its parts.
use Rattle.std.proofs.Common.{◌≡◌, List, [], ◌∷◌, Option, Some, Result, Ok, Err, sym, ◌∙◌, ap, subst}
use Rattle.pg_spec.specs.Faults as spec
use Rattle.pg_spec.specs.Messages.{Message, message_of}
use Rattle.pg_spec.specs.RawMessages.{RawMessage}
use Rattle.pg_types.specs.declared.error.Error.{Error}
use Rattle.pg_rows.specs.declared.simple_column.SimpleColumn.{SimpleColumn}
use Rattle.pg_streams.specs.PartTelling.{Shows, part_heard, parts_heard}
use Rattle.pg_streams.specs.SimpleStreams.{Said, Part, Ready, Wrong, simple_said, said_by, told_by, parts_from}
use Rattle.pg_streams.specs.Telling.{GivesOn}
use Rattle.pg_streams.specs.declared.giving.Told.{Told}
use Rattle.pg_streams.specs.declared.giving.Told.TheVariants.{Item, Ends, Fails}
use Rattle.pg_streams.specs.declared.simple_giving.SimpleGiving.{SimpleGiving}
use Rattle.pg_streams.specs.declared.simple_query_message.SimpleQueryMessage.{SimpleQueryMessage}

abbrev Answer : Type 0
Answer = Option (Result (List SimpleQueryMessage) Error)

abbrev told-parts : SimpleGiving → List RawMessage → Answer
told-parts g = parts_from g.columns

-- what the message means is what it says
pub says-meant : (columns : Option (List SimpleColumn)) (raw : RawMessage) (m : Message) → message_of raw ≡ Ok m → said_by columns raw ≡ simple_said columns m
says-meant columns raw m is = ap (λ (read : Result Message spec.WireFault). elim read as (λ _. Said) [ Ok m ↦ simple_said columns m | Err f ↦ Wrong (spec.Parse (spec.Wire f)) ]) is

-- what a message tells by what it says
told-said : (columns : Option (List SimpleColumn)) (raw : RawMessage) (said : Said) → said_by columns raw ≡ said → (ms : List RawMessage) → parts_from columns (raw ∷ ms) ≡ told_by said (λ later. parts_from later ms)
told-said columns raw said is ms = ap (λ (x : Said). told_by x (λ later. parts_from later ms)) is

-- a message gives what it shows
pub gives-shown : (old new : SimpleGiving) (raw : RawMessage) (said : Said) (told : Option (Told SimpleQueryMessage)) → said_by old.columns raw ≡ said → Shows said old told new →
    GivesOn told-parts (λ part parts. part ∷ parts) (λ g. []) old raw told new
gives-shown old new raw (Part columns part) (Some (Item given)) is h =
    subst (λ (x : SimpleQueryMessage). GivesOn told-parts (λ part parts. part ∷ parts) (λ g. []) old raw (Some (Item x)) new) (sym h.0)
    (subst (λ (g : SimpleGiving). GivesOn told-parts (λ part parts. part ∷ parts) (λ g. []) old raw (Some (Item part)) g) (sym h.1) (
      told-said old.columns raw (Part columns part) is [],
      λ ms. told-said old.columns raw (Part columns part) is ms,
    ))
gives-shown old new raw Ready (Some Ends) is h = told-said old.columns raw Ready is []
gives-shown old new raw (Wrong f) (Some (Fails e)) is h = told-said old.columns raw (Wrong f) is [] ∙ ap (λ (x : Error). let a : Answer = Some (Err x) in a) (sym h.0)
gives-shown old new raw said told is h = absurd h

-- ---- the reading

-- what was seen of a message gives that
pub gives-seen : (old new : SimpleGiving) (raw : RawMessage) (m : Message) → message_of raw ≡ Ok m → (told : Told SimpleQueryMessage) → Shows (simple_said old.columns m) old (Some told) new →
    GivesOn told-parts (λ part parts. part ∷ parts) (λ g. []) old raw (Some told) new
gives-seen old new raw m means told h = gives-shown old new raw (simple_said old.columns m) (Some told) (says-meant old.columns raw m means) h

-- ---- what is told first

-- what a message shows is told
part-shown : (old new : SimpleGiving) (said : Said) (told : Option (Told SimpleQueryMessage)) → Shows said old told new → part_heard old said ≡ record { told = told; giving = new }
part-shown old new (Part columns part) (Some (Item given)) h = λ i. record { told = Some (Item (sym h.0 i)); giving = sym h.1 i }
part-shown old new Ready (Some Ends) h = λ i. record { told = Some Ends; giving = sym h i }
part-shown old new (Wrong f) (Some (Fails e)) h = λ i. record { told = Some (Fails (sym h.0 i)); giving = sym h.1 i }
part-shown old new said told h = absurd h

-- and is heard
pub parts-heard : (old new : SimpleGiving) (raw : RawMessage) (m : Message) → message_of raw ≡ Ok m → (told : Told SimpleQueryMessage) → Shows (simple_said old.columns m) old (Some told) new → parts_heard old raw ≡ record { told = Some told; giving = new }
parts-heard old new raw m means told h = ap (λ (said : Said). part_heard old said) (says-meant old.columns raw m means) ∙ part-shown old new (simple_said old.columns m) (Some told) h
