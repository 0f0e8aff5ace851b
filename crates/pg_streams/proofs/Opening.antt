-- What is told first where rows are opened: BindComplete, or an error.
use Rattle.std.proofs.Common.{◌≡◌, List, [], ◌∷◌, ◌++◌, length, Bool, true, false, ◌||◌, Option, Some, None, Result, Ok, Err, refl, sym, ◌∙◌, ap, subst}
use Rattle.futures.specs.declared.task.Poll.TheVariants.{Ready as Comes}
use Rattle.pg_spec.specs.RawMessages.{RawMessage}
use Rattle.pg_spec.specs.declared.stamps.Stamp.{Stamp}
use Rattle.pg_desk.specs.declared.event.Event.{Event}
use Rattle.pg_types.specs.declared.error.Error.{Error}
use Rattle.pg_core.specs.QueryReplies.{Said, Bound, Row, Complete, Empty, Suspended, Ready, Fails as Wrong, said_by}
use Rattle.pg_streams.specs.Brought.{joined}
use Rattle.pg_streams.specs.Collecting.{Gives, NoItemFirst, is_last, family_behind, family_of, place_of, untold, was_told}
use Rattle.pg_streams.specs.Families.{AnswersFor, Family, GoesFor}
use Rattle.pg_streams.specs.Handing.{alone}
use Rattle.pg_streams.specs.Hearing.{Brings, First, first_told, told_or}
use Rattle.pg_streams.specs.RowStates.{IsLiveAt, IsLiveSo, IsLiveState, opening, opening_told, rows_opened, rows_over, rows_place, stage_statement, state_statement, statement_so, unread, unread_if}
use Rattle.pg_streams.specs.RowStreams.{RowsGiven}
use Rattle.pg_streams.specs.RowTelling.{bound_heard, opening_heard}
use Rattle.pg_streams.specs.declared.giving.Told.{Told}
use Rattle.pg_streams.specs.declared.giving.Told.TheVariants.{Item, Ends, Fails}
use Rattle.pg_streams.specs.declared.items.Items.{Items}
use Rattle.pg_streams.specs.declared.query_raw.StatementAsks.{StatementAsks}
use Rattle.pg_streams.specs.declared.query_raw.StatementRawState.{StatementRawState}
use Rattle.pg_streams.specs.declared.query_raw.Stage.{Stage}
use Rattle.pg_streams.specs.declared.query_raw.Stage.TheVariants.{Opens, Done}
use Rattle.pg_streams.specs.declared.row_giving.RowGiving.{RowGiving}
use Rattle.pg_streams.specs.declared.row_giving.RowOpening.{RowOpening}
use Rattle.pg_streams.specs.declared.row_stream.RowStream.{RowStream}
use Rattle.pg_streams.proofs.Asking.{whole-goes, whole-of}
use Rattle.pg_streams.proofs.Going.{brings-kept}

-- BindComplete came where it was told, and it didn't where nothing was
abbrev bound-by : Option (Told (Unit {0})) → Bool → Type 0
bound-by None bound = bound ≡ false
bound-by (Some (Item u)) bound = bound ≡ true
bound-by (Some Ends) bound = ⊥
bound-by (Some (Fails e)) bound = Unit {0}

abbrev IsBound : First RowOpening (Unit {0}) → Type 0
IsBound first = bound-by first.told first.giving.bound

-- by what a message says
by-said : (o : RowOpening) (said : Said) (ms : List RawMessage) (later : First RowOpening (Unit {0})) → IsBound (told_or (bound_heard o said).told (bound_heard o said).giving ms later)
by-said o Bound ms later = refl
by-said o (Row cells) ms later = tt
by-said o (Complete n) ms later = tt
by-said o Empty ms later = tt
by-said o Suspended ms later = tt
by-said o Ready ms later = tt
by-said o (Wrong e) ms later = tt

first-bound : (o : RowOpening) → o.bound ≡ false → (ms : List RawMessage) → IsBound (first_told opening_heard o ms)
first-bound o unbound [] = unbound
first-bound o unbound (m ∷ ms) = by-said o (said_by false (length o.statement.columns) m) ms (first_told opening_heard (opening_heard o m).giving ms)

module _ (old new : Items RowOpening) (unbound : old.giving.bound ≡ false) (es : List Event) where
  kept : (last : List RawMessage → First RowOpening (Unit {0})) → Brings (untold opening_heard old) es last → IsBound (last [])
  kept last h = brings-kept IsBound (untold opening_heard old) last es (λ more. first-bound old.giving unbound (old.batch ++ more)) h []

  -- it didn't come where all was read
  pub still-unbound : Brings (untold opening_heard old) es (untold opening_heard new) → new.batch ≡ [] → new.giving.bound ≡ false
  still-unbound h empty = subst (λ (l : List RawMessage). IsBound (first_told opening_heard new.giving (l ++ []))) empty (kept (untold opening_heard new) h)

  -- it came where it was told
  pub now-bound : Brings (untold opening_heard old) es (was_told (Item tt) new) → new.giving.bound ≡ true
  now-bound h = kept (was_told (Item tt) new) h

-- ---- a stream

-- BindComplete adds nothing
abbrev take-none : Unit {0} → RowsGiven → RowsGiven
take-none u whole = whole

abbrev end-opening : RowOpening → RowsGiven
end-opening o = record { rows = []; affected = None }

-- the items of the stream that an opening becomes
abbrev rows-of : Items RowOpening → Items RowGiving
rows-of s = record { giving = record { statement = s.giving.statement; affected = None }; id = s.id; batch = s.batch; close = s.close; over = s.over }

-- a stream stands where its opening did behind BindComplete
pub opened-goes : {D : Type 0} {becomes : D → List Event → D → Type 0} {stamp : Stamp} {a b : D} (old new : Items RowOpening) (stream : RowStream) → rows_place stream ≡ place_of opening_told new → stream.items ≡ rows-of new → stream.taken ≡ false →
    GoesFor becomes stamp a (family_of opening_told opening_heard old) b (family_behind opening_told take-none end-opening (Item tt) new) → GoesFor becomes stamp a (opening old) b (alone (rows_place stream) (rows_opened stream))
opened-goes {becomes = becomes} {stamp} {a} {b} old new stream place same live h =
    let behind : Family (RowsGiven → RowsGiven) RowsGiven RowOpening (Unit {0}) = family_behind opening_told take-none end-opening (Item tt) new in
    let left : unread stream ≡ new.batch =
    ap (λ (taken : Bool). unread_if taken stream.items.batch (joined stream.later.items)) live ∙ ap (λ (items : Items RowGiving). items.batch) same in
    let is : alone (rows_place stream) (rows_opened stream) ≡ whole-of behind = λ i. alone (place i) (λ more. record { told = Some (Item tt); giving = tt; left = left i ++ more }) in
    subst (λ (q : Family (Unit {0}) RowsGiven (Unit {0}) (Unit {0})). GoesFor becomes stamp a (opening old) b q) (sym is) (whole-goes (family_of opening_told opening_heard old) behind h)

-- and gives more
pub opened-on : (old new : Items RowOpening) (stream : RowStream) (r : Option (Result (Unit {0}) Error)) (x : Result (Unit {0}) Error) → stream.items ≡ rows-of new → old.over ≡ false → new.over ≡ (old.over || is_last (Comes r)) → r ≡ Some x → x ≡ Ok tt → rows_over stream ≡ false
opened-on old new stream r x same on over is-some is-ok =
    ap (λ (items : Items RowGiving). items.over) same
    ∙ over
    ∙ ap (λ (o : Option (Result (Unit {0}) Error)). old.over || is_last (Comes o)) is-some
    ∙ ap (λ (y : Result (Unit {0}) Error). old.over || is_last (Comes (Some y))) is-ok
    ∙ ap (λ (b : Bool). b || false) on

module _ {D : Type 0} (becomes : D → List Event → D → Type 0) (stamp : Stamp) (a b : D) (old new : Items RowOpening) (r : Option (Result (Unit {0}) Error)) (x : Result (Unit {0}) Error) (is : r ≡ Some x)
    (h : Gives becomes opening_told take-none end-opening stamp a (family_of opening_told opening_heard old) b new r) where
  -- what a poll gave, by what it is
  given : (y : Result (Unit {0}) Error) → x ≡ y → Gives becomes opening_told take-none end-opening stamp a (family_of opening_told opening_heard old) b new (Some y)
  given y same =
      let both : r ≡ Some y = is ∙ ap (λ (z : Result (Unit {0}) Error). let o : Option (Result (Unit {0}) Error) = Some z in o) same in
      subst (λ (o : Option (Result (Unit {0}) Error)). Gives becomes opening_told take-none end-opening stamp a (family_of opening_told opening_heard old) b new o) both h

  pub given-bound : (u : Unit {0}) → x ≡ Ok u → GoesFor becomes stamp a (family_of opening_told opening_heard old) b (family_behind opening_told take-none end-opening (Item tt) new)
  given-bound u same = given (Ok u) same

  pub given-error : (e : Error) → x ≡ Err e → AnswersFor becomes stamp a (family_of opening_told opening_heard old) b (λ before. Err e) (NoItemFirst new)
  given-error e same = given (Err e) same

-- ---- a state

-- until it answered it knows its statement
known-live : (stage : Stage) → IsLiveAt stage → stage_statement stage ≡ None → ⊥
known-live (Opens items) live is = cc
known-live Done live is = live

known-so : {P : Type 0} (asks : Option (StatementAsks P)) (stage : Stage) → IsLiveSo asks stage → statement_so asks stage ≡ None → ⊥
known-so (Some a) stage live is = cc
known-so None stage live is = known-live stage live is

pub known-state : {P : Type 0} (s : StatementRawState P) → IsLiveState s → state_statement s ≡ None → ⊥
known-state s live is = known-so s.asks s.reply.stage live is
