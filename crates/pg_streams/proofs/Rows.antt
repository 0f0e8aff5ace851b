-- What a message of the reply to a statement tells a stream of its rows.
use Rattle.std.proofs.Common.{◌≡◌, ℕ, List, [], ◌∷◌, ◌++◌, length, Bool, true, false, IfOk, Option, Some, None, option_map, Result, Ok, Err, refl, sym, ◌∙◌, ap, subst}
use Rattle.std.specs.declared.alloc.AllocError.{AllocError}
use Rattle.pg_spec.specs.Messages.{Message, message_of}
use Rattle.pg_spec.specs.RawMessages.{RawMessage}
use Rattle.pg_spec.specs.Readings.{Next, GoesOn, Decision, decided_by, decision, one_later}
use Rattle.pg_types.specs.declared.error.Error.{Error}
use Rattle.pg_desk.specs.declared.column.Column.{Column}
use Rattle.pg_desk.specs.declared.statement.Described.{Described as Statement}
use Rattle.pg_core.specs.QueryReplies.{Said, Bound, Row, Complete, Empty, Suspended, Ready, Fails as Wrong, query_said, said_by}
use Rattle.pg_rows.specs.Rows.{Cells, RowOf}
use Rattle.pg_spec.specs.Faults.{WireFault, Parse, Wire}
use Rattle.pg_execute.specs.Rows.{rows_by, rows_read}
use Rattle.pg_execute.specs.declared.got.Got.{Got}
use Rattle.pg_execute.specs.declared.how_many.HowMany.TheVariants.{Any}
use Rattle.pg_streams.specs.RowStreams.{RowsGiven, rows_from, rows_given, with_row}
use Rattle.pg_streams.specs.RowTelling.{Shows, ShowsOpening, bound_heard, opening_heard, row_heard, rows_heard}
use Rattle.pg_streams.specs.Telling.{GivesOn, told_behind}
use Rattle.pg_streams.proofs.Telling.{told-whole}
use Rattle.pg_streams.specs.declared.giving.Told.{Told}
use Rattle.pg_streams.specs.declared.giving.Told.TheVariants.{Item, Ends, Fails}
use Rattle.pg_streams.specs.declared.row_giving.RowGiving.{RowGiving}
use Rattle.pg_streams.specs.declared.row_giving.RowOpening.{RowOpening}

abbrev Answer : Type 0
Answer = Option (Result RowsGiven Error)

-- ---- a message by what it says

-- what the messages decide from a state on
abbrev decided : Statement → Got → List RawMessage → Option (Decision (Result RowsGiven Error))
decided s got ms = decision (λ x. None) (λ g raw. rows_by Any (rows_given s) g (said_by g.bound (length s.columns) raw)) got ms

-- what is told behind a message that does this
abbrev by : Statement → Next Got (Result RowsGiven Error) → List RawMessage → Answer
by s next ms = option_map (λ d. d.answer) (decided_by next (λ later. decided s later ms))

-- what the messages tell from a state on
abbrev from : Statement → Got → List RawMessage → Answer
from s got ms = rows_read Any (length s.columns) (rows_given s) got ms

-- a decision is the same one message later
later-same : (d : Option (Decision (Result RowsGiven Error))) → option_map (λ d. d.answer) (option_map one_later d) ≡ option_map (λ d. d.answer) d
later-same None = refl
later-same (Some d) = refl

-- a row in front of those that were kept
abbrev got-behind : Cells → (bound : Bool) → (rows : List Cells) → (affected : Option ℕ) → Got
got-behind c bound rows affected = record { bound = bound; rows = c ∷ rows; affected = affected }

-- the same without it
abbrev got-of : (bound : Bool) → (rows : List Cells) → (affected : Option ℕ) → Got
got-of bound rows affected = record { bound = bound; rows = rows; affected = affected }

-- the row that they are
abbrev row-under : Statement → Cells → RowOf Column
row-under s c = record { columns = s.columns; cells = c }

-- it stands in front of what is told, where it does behind the next message
front-on : (s : Statement) (c : Cells) (ms : List RawMessage) (long short : Got) → from s long ms ≡ told_behind (with_row (row-under s c)) (from s short ms) → by s (GoesOn long) ms ≡ told_behind (with_row (row-under s c)) (by s (GoesOn short) ms)
front-on s c ms long short h = later-same (decided s long ms) ∙ h ∙ sym (ap (told_behind (with_row (row-under s c))) (later-same (decided s short ms)))

front-by : (s : Statement) (c : Cells) (bound : Bool) (rows : List Cells) (affected : Option ℕ) (ms : List RawMessage) →
    ((b : Bool) (rs : List Cells) (n : Option ℕ) → from s (got-behind c b rs n) ms ≡ told_behind (with_row (row-under s c)) (from s (got-of b rs n) ms)) → (said : Said) →
    by s (rows_by Any (rows_given s) (got-behind c bound rows affected) said) ms ≡ told_behind (with_row (row-under s c)) (by s (rows_by Any (rows_given s) (got-of bound rows affected) said) ms)
front-by s c bound rows affected ms ih Bound = front-on s c ms (got-behind c true rows affected) (got-of true rows affected) (ih true rows affected)
front-by s c bound rows affected ms ih (Row cells) = front-on s c ms (got-behind c bound (rows ++ cells ∷ []) affected) (got-of bound (rows ++ cells ∷ []) affected) (ih bound (rows ++ cells ∷ []) affected)
front-by s c bound rows affected ms ih (Complete n) = front-on s c ms (got-behind c bound rows (Some n)) (got-of bound rows (Some n)) (ih bound rows (Some n))
front-by s c bound rows affected ms ih Empty = front-on s c ms (got-behind c bound rows affected) (got-of bound rows affected) (ih bound rows affected)
front-by s c bound rows affected ms ih Suspended = front-on s c ms (got-behind c bound rows affected) (got-of bound rows affected) (ih bound rows affected)
front-by s c bound rows affected ms ih Ready = refl
front-by s c bound rows affected ms ih (Wrong e) = refl

-- it stands in front of what is told
in-front : (s : Statement) (c : Cells) (bound : Bool) (rows : List Cells) (affected : Option ℕ) (ms : List RawMessage) →
    from s (got-behind c bound rows affected) ms ≡ told_behind (with_row (row-under s c)) (from s (got-of bound rows affected) ms)
in-front s c bound rows affected [] = refl
in-front s c bound rows affected (raw ∷ ms) = front-by s c bound rows affected ms (λ b rs n. in-front s c b rs n ms) (said_by bound (length s.columns) raw)

-- what a message tells by what it says
told-said : (s : Statement) (bound : Bool) (affected : Option ℕ) (raw : RawMessage) (said : Said) → said_by bound (length s.columns) raw ≡ said → (ms : List RawMessage) →
    rows_from s bound affected (raw ∷ ms) ≡ by s (rows_by Any (rows_given s) (record { bound = bound; rows = []; affected = affected }) said) ms
told-said s bound affected raw said is ms = ap (λ (x : Said). by s (rows_by Any (rows_given s) (record { bound = bound; rows = []; affected = affected }) x) ms) is

-- ---- behind BindComplete

abbrev told-rows : RowGiving → List RawMessage → Answer
told-rows g = rows_from g.statement true g.affected

abbrev end-rows : RowGiving → RowsGiven
end-rows g = record { rows = []; affected = g.affected }

-- a message gives what it shows
pub gives-shown : (old new : RowGiving) (raw : RawMessage) (said : Said) (told : Option (Told (RowOf Column))) → said_by true (length old.statement.columns) raw ≡ said → Shows said old told new →
    GivesOn told-rows with_row end-rows old raw told new
gives-shown old new raw (Row cells) (Some (Item row)) is h =
    subst (λ (r : RowOf Column). GivesOn told-rows with_row end-rows old raw (Some (Item r)) new) (sym h.0)
    (subst (λ (n : RowGiving). GivesOn told-rows with_row end-rows old raw (Some (Item (record { columns = old.statement.columns; cells = cells }))) n) (sym h.1) (
      told-said old.statement true old.affected raw (Row cells) is [],
      λ ms. told-said old.statement true old.affected raw (Row cells) is ms ∙ later-same (decided old.statement (record { bound = true; rows = cells ∷ []; affected = old.affected }) ms) ∙ in-front old.statement cells true [] old.affected ms,
    ))
gives-shown old new raw (Complete n) None is h =
    subst (λ (g : RowGiving). GivesOn told-rows with_row end-rows old raw None g) (sym h) (
      told-said old.statement true old.affected raw (Complete n) is [],
      λ ms. told-said old.statement true old.affected raw (Complete n) is ms ∙ later-same (decided old.statement (record { bound = true; rows = []; affected = Some n }) ms),
    )
gives-shown old new raw Empty None is h =
    subst (λ (g : RowGiving). GivesOn told-rows with_row end-rows old raw None g) (sym h) (
      told-said old.statement true old.affected raw Empty is [],
      λ ms. told-said old.statement true old.affected raw Empty is ms ∙ later-same (decided old.statement (record { bound = true; rows = []; affected = old.affected }) ms),
    )
gives-shown old new raw Suspended None is h =
    subst (λ (g : RowGiving). GivesOn told-rows with_row end-rows old raw None g) (sym h) (
      told-said old.statement true old.affected raw Suspended is [],
      λ ms. told-said old.statement true old.affected raw Suspended is ms ∙ later-same (decided old.statement (record { bound = true; rows = []; affected = old.affected }) ms),
    )
gives-shown old new raw Ready (Some Ends) is h =
    subst (λ (g : RowGiving). GivesOn told-rows with_row end-rows old raw (Some Ends) g) (sym h) (told-said old.statement true old.affected raw Ready is [])
gives-shown old new raw (Wrong f) (Some (Fails e)) is h =
    told-said old.statement true old.affected raw (Wrong f) is [] ∙ ap (λ (x : Error). let a : Answer = Some (Err x) in a) (sym h.0)
gives-shown old new raw said told is h = absurd h

-- ---- up to BindComplete

abbrev told-opening : RowOpening → List RawMessage → Answer
told-opening o = rows_from o.statement o.bound None

-- BindComplete adds nothing
abbrev take-none : Unit {0} → RowsGiven → RowsGiven
take-none u whole = whole

abbrev end-opening : RowOpening → RowsGiven
end-opening o = record { rows = []; affected = None }

pub opens-shown : (old new : RowOpening) (raw : RawMessage) (said : Said) (told : Option (Told (Unit {0}))) → old.bound ≡ false → said_by false (length old.statement.columns) raw ≡ said → ShowsOpening said old told new →
    GivesOn told-opening take-none end-opening old raw told new
opens-shown old new raw Bound (Some (Item u)) unbound is h =
    let tells : (ms : List RawMessage) → told-opening old (raw ∷ ms) ≡ rows_from old.statement true None ms =
    λ ms. ap (λ (b : Bool). rows_from old.statement b None (raw ∷ ms)) unbound ∙ told-said old.statement false None raw Bound is ms ∙ later-same (decided old.statement (record { bound = true; rows = []; affected = None }) ms) in
    subst (λ (o : RowOpening). GivesOn told-opening take-none end-opening old raw (Some (Item u)) o) (sym h) (
      tells [],
      λ ms. tells ms ∙ sym (told-whole (rows_from old.statement true None ms)),
    )
opens-shown old new raw (Wrong f) (Some (Fails e)) unbound is h =
    ap (λ (b : Bool). rows_from old.statement b None (raw ∷ [])) unbound ∙ told-said old.statement false None raw (Wrong f) is [] ∙ ap (λ (x : Error). let a : Answer = Some (Err x) in a) (sym h.0)
opens-shown old new raw said told unbound is h = absurd h

-- ---- what is told first

-- what a message shows is told
row-shown : (old new : RowGiving) (said : Said) (told : Option (Told (RowOf Column))) → Shows said old told new → row_heard old said ≡ record { told = told; giving = new }
row-shown old new (Row cells) (Some (Item row)) h = λ i. record { told = Some (Item (sym h.0 i)); giving = sym h.1 i }
row-shown old new (Complete n) None h = λ i. record { told = None; giving = sym h i }
row-shown old new Empty None h = λ i. record { told = None; giving = sym h i }
row-shown old new Suspended None h = λ i. record { told = None; giving = sym h i }
row-shown old new Ready (Some Ends) h = λ i. record { told = Some Ends; giving = sym h i }
row-shown old new (Wrong f) (Some (Fails e)) h = λ i. record { told = Some (Fails (sym h.0 i)); giving = sym h.1 i }
row-shown old new said told h = absurd h

-- the same before BindComplete
bound-shown : (old new : RowOpening) (said : Said) (told : Option (Told (Unit {0}))) → ShowsOpening said old told new → bound_heard old said ≡ record { told = told; giving = new }
bound-shown old new Bound (Some (Item u)) h = λ i. record { told = Some (Item u); giving = sym h i }
bound-shown old new (Wrong f) (Some (Fails e)) h = λ i. record { told = Some (Fails (sym h.0 i)); giving = sym h.1 i }
bound-shown old new said told h = absurd h

-- ---- the readings

-- what is said by what a message means
abbrev said-of : (bound : Bool) → ℕ → Result Message WireFault → Said
said-of bound columns read = elim read as (λ _. Said) [ Ok m ↦ query_said bound columns m | Err fault ↦ Wrong (Parse (Wire fault)) ]

says-meant : (bound : Bool) (columns : ℕ) (raw : RawMessage) (m : Message) → message_of raw ≡ Ok m → said_by bound columns raw ≡ query_said bound columns m
says-meant bound columns raw m is = ap (said-of bound columns) is

-- what was seen of a message gives that
pub gives-seen : (old new : RowGiving) (raw : RawMessage) (m : Message) → message_of raw ≡ Ok m → (r : Result (Option (Told (RowOf Column))) AllocError) →
    IfOk r (λ told. Shows (query_said true (length old.statement.columns) m) old told new) → IfOk r (λ told. GivesOn told-rows with_row end-rows old raw told new)
gives-seen old new raw m means (Ok told) h = gives-shown old new raw (query_said true (length old.statement.columns) m) told (says-meant true (length old.statement.columns) raw m means) h
gives-seen old new raw m means (Err e) h = tt

pub opens-seen : (old new : RowOpening) (raw : RawMessage) (m : Message) → message_of raw ≡ Ok m → old.bound ≡ false → (told : Told (Unit {0})) →
    ShowsOpening (query_said false (length old.statement.columns) m) old (Some told) new → GivesOn told-opening take-none end-opening old raw (Some told) new
opens-seen old new raw m means unbound told h = opens-shown old new raw (query_said false (length old.statement.columns) m) (Some told) unbound (says-meant false (length old.statement.columns) raw m means) h

-- and is heard
pub rows-heard : (old new : RowGiving) (raw : RawMessage) (m : Message) → message_of raw ≡ Ok m → (r : Result (Option (Told (RowOf Column))) AllocError) →
    IfOk r (λ told. Shows (query_said true (length old.statement.columns) m) old told new) → IfOk r (λ told. rows_heard old raw ≡ record { told = told; giving = new })
rows-heard old new raw m means (Ok told) h =
    ap (λ (said : Said). row_heard old said) (says-meant true (length old.statement.columns) raw m means) ∙ row-shown old new (query_said true (length old.statement.columns) m) told h
rows-heard old new raw m means (Err e) h = tt

pub opening-heard : (old new : RowOpening) (raw : RawMessage) (m : Message) → message_of raw ≡ Ok m → (told : Told (Unit {0})) →
    ShowsOpening (query_said false (length old.statement.columns) m) old (Some told) new → opening_heard old raw ≡ record { told = Some told; giving = new }
opening-heard old new raw m means told h =
    ap (λ (said : Said). bound_heard old said) (says-meant false (length old.statement.columns) raw m means) ∙ bound-shown old new (query_said false (length old.statement.columns) m) (Some told) h
