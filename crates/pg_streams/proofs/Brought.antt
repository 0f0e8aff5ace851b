-- Rows that were taken whole before they are given.
use Rattle.std.proofs.Common.{◌≡◌, ◌⊎◌, ℕ, List, [], ◌∷◌, ◌++◌, drop, length, Bool, true, false, ◌||◌, Option, Some, None, is_some, Result, Ok, Err, refl, sym, ◌∙◌, ap, subst, inl, inr, arith}
use Rattle.futures.specs.declared.task.Poll.{Poll}
use Rattle.futures.specs.declared.task.Poll.TheVariants.{Ready, Pending}
use Rattle.pg_spec.specs.RawMessages.{RawMessage}
use Rattle.pg_spec.specs.declared.stamps.Stamp.{Stamp}
use Rattle.pg_desk.specs.declared.event.Event.{Event}
use Rattle.pg_types.specs.declared.error.Error.{Error}
use Rattle.pg_types.specs.declared.error.Error.TheVariants.{OutOfMemory, UnexpectedMessage}
use Rattle.pg_desk.specs.declared.column.Column.{Column}
use Rattle.pg_query.specs.Dialogue.{Dialogue, Answer, HangUp, Read, feed}
use Rattle.pg_query.specs.Meaning.{GoesToAnswer, MatchPoll, Place}
use Rattle.pg_query.specs.Reading.{ends, reads}
use Rattle.pg_query.specs.declared.desk_call.Cleanup.TheVariants.{Release}
use Rattle.pg_core.proofs.Fed.{feed-answer, feed-hang-up, feed-joined, feed-send}
use Rattle.pg_execute.specs.Executes.{posts_before}
use Rattle.pg_rows.specs.Rows.{RowOf}
use Rattle.pg_streams.specs.Brought.{brought, brought_if, collected, joined, or_unexpected}
use Rattle.pg_streams.specs.Collecting.{Awaits, EndFirst, Gives, Keeps, NoItemFirst, Reads, collects, family_behind, family_of, given_up, told_end}
use Rattle.pg_streams.specs.Families.{AnswersFor, Family, GoesFor, PausesFor}
use Rattle.pg_streams.specs.Hearing.{First, Heard, first_told}
use Rattle.pg_streams.specs.RowStates.{AwaitsRow, GivesRow, GivesTaken, given_up_if, no_rows, rows_behind, rows_given_up, rows_stand, rows_told, unread, unread_if}
use Rattle.pg_streams.specs.RowStreams.{RowsGiven, with_row}
use Rattle.pg_streams.specs.RowTelling.{rows_heard}
use Rattle.pg_streams.specs.Telling.{told_behind}
use Rattle.pg_streams.specs.declared.giving.Told.{Told}
use Rattle.pg_streams.specs.declared.giving.Told.TheVariants.{Item, Ends, Fails}
use Rattle.pg_streams.specs.declared.items.Items.{Items}
use Rattle.pg_streams.specs.declared.row_giving.RowGiving.{RowGiving}
use Rattle.pg_streams.specs.declared.row_stream.RowStream.{RowStream}
use Rattle.pg_streams.proofs.Going.{goes-nowhere}
use Rattle.pg_streams.proofs.Telling.{told-whole}

-- ---- what one has who collects

posted-so : {W : Type 0} (close : Option (List ℕ)) (r : Result W Error) → collected (posts_before close r) ≡ r
posted-so None r = refl
posted-so (Some part) r = refl

-- behind the answer messages count for nothing
posted-collected : {W : Type 0} (ms : List RawMessage) (close : Option (List ℕ)) (r : Result W Error) → collected (feed ms (posts_before close r)) ≡ r
posted-collected ms None r = ap collected (feed-answer ms r)
posted-collected ms (Some part) r = ap collected (feed-send ms part (λ e. Answer (Err e)) (Answer r)) ∙ ap collected (feed-answer ms r)

hung-collected : {W : Type 0} (ms : List RawMessage) (close : Option (List ℕ)) (r : Result W Error) → collected (feed ms (HangUp (posts_before close r))) ≡ r
hung-collected ms close r = ap collected (feed-hang-up ms (posts_before close r)) ∙ posted-so close r

-- one who has had nothing, and closes nothing behind it
pub reads-whole : {W : Type 0} (R : List RawMessage → Option (Result W Error)) → collects None (λ ms. told_behind (λ whole. whole) (R ms)) ≡ reads false R
reads-whole {W} R = λ i. Read (Release ∷ []) (λ ms. is_some (told-whole (R ms) i)) (λ ms. ends-so (R ms) i)
  where
    ends-so : (o : Option (Result W Error)) → told_end None (told_behind (λ whole. whole) o) ≡ ends false o
    ends-so None = refl
    ends-so (Some (Ok w)) = refl
    ends-so (Some (Err e)) = refl

-- ---- the batches, one behind another

module _ {G I W : Type 0} (tells : G → List RawMessage → Option (Result W Error)) (hears : G → RawMessage → Heard G I) (with_item : I → W → W) (at_end : G → W) (s : Items G) (empty : s.batch ≡ []) where
  -- the next batch is read
  pub refilled : (ms later : List RawMessage) → brought later (family_of tells hears (record s { batch = ms })) ≡ brought (ms ++ later) (family_of tells hears s)
  refilled ms later =
      let reading : (W → W) → Dialogue W = λ before. collects s.close (λ more. told_behind before (tells s.giving more)) in
      let fed : (before : W → W) → feed later (feed ms (reading before)) ≡ feed (ms ++ later) (feed s.batch (reading before)) =
      λ before. sym (feed-joined ms later (reading before)) ∙ ap (λ (l : List RawMessage). feed (ms ++ later) (feed l (reading before))) (sym empty) in
      let heard : first_told hears s.giving (ms ++ later) ≡ first_told hears s.giving (s.batch ++ (ms ++ later)) =
      ap (λ (l : List RawMessage). first_told hears s.giving (l ++ (ms ++ later))) (sym empty) in
      λ i. record { place = λ before. record { dialogue = Answer (collected (fed before i)); reads = s.id }; first = λ more. or_unexpected (heard i).told (heard i) }

  -- none is left, and nothing was told
  pub spent : brought [] (family_behind tells with_item at_end (Fails UnexpectedMessage) s) ≡ brought [] (family_of tells hears s)
  spent =
      let reading : (W → W) → Dialogue W = λ before. collects s.close (λ more. told_behind before (tells s.giving more)) in
      let fed : (before : W → W) → collected (HangUp (posts_before s.close (let r : Result W Error = Err UnexpectedMessage in r))) ≡ collected (feed s.batch (reading before)) =
      λ before. posted-so s.close (Err UnexpectedMessage) ∙ ap (λ (l : List RawMessage). collected (feed l (reading before))) (sym empty) in
      let heard : first_told hears s.giving [] ≡ first_told hears s.giving (s.batch ++ []) = ap (λ (l : List RawMessage). first_told hears s.giving (l ++ [])) (sym empty) in
      λ i. record { place = λ before. record { dialogue = Answer (fed before i); reads = s.id }; first = λ more. or_unexpected (heard i).told (heard i) }

-- ---- a stream

abbrev live-rows : RowStream → Family (RowsGiven → RowsGiven) RowsGiven RowGiving (RowOf Column)
live-rows s = family_of rows_told rows_heard s.items

abbrev live-behind : Told (RowOf Column) → RowStream → Family (RowsGiven → RowsGiven) RowsGiven RowGiving (RowOf Column)
live-behind told s = family_behind rows_told with_row no_rows told s.items

-- where it goes on, whether it was taken before or not
at-flag : (s : RowStream) (b : Bool) → s.taken ≡ b → rows_behind s ≡ brought_if b (joined s.later.items) (live-rows s)
at-flag s b is = ap (λ (t : Bool). brought_if t (joined s.later.items) (live-rows s)) is

stands-flag : (told : Told (RowOf Column)) (s : RowStream) (b : Bool) → s.taken ≡ b → rows_stand told s ≡ brought_if b (joined s.later.items) (live-behind told s)
stands-flag told s b is = ap (λ (t : Bool). brought_if t (joined s.later.items) (live-behind told s)) is

-- ---- what was taken is read

-- the messages of a batch tell this
pub told-read : (old new : Items RowGiving) (o : Option (Told (RowOf Column))) (told : Told (RowOf Column)) → o ≡ Some told → Reads rows_told rows_heard with_row no_rows old new (Ok o) →
    family_behind rows_told with_row no_rows told new ≡ family_of rows_told rows_heard old
told-read old new o told is h = subst (λ (x : Option (Told (RowOf Column))). Reads rows_told rows_heard with_row no_rows old new (Ok x)) is h

-- or nothing
pub none-read : (old new : Items RowGiving) (o : Option (Told (RowOf Column))) → o ≡ None → Reads rows_told rows_heard with_row no_rows old new (Ok o) →
    (family_of rows_told rows_heard new ≡ family_of rows_told rows_heard old) × (new.batch ≡ [])
none-read old new o is h = subst (λ (x : Option (Told (RowOf Column))). Reads rows_told rows_heard with_row no_rows old new (Ok x)) is h

-- nothing is told by this batch
pub none-taken : (old new : RowStream) → old.taken ≡ true → new.taken ≡ true → new.later.items ≡ old.later.items → live-rows new ≡ live-rows old → rows_behind new ≡ rows_behind old
none-taken old new was is same h =
    at-flag new true is ∙ (λ i. brought (joined (same i)) (h i)) ∙ sym (at-flag old true was)

-- the next batch is read behind it
pub next-taken : (old : RowStream) (new : RowStream) (ms : List RawMessage) → old.taken ≡ true → new.taken ≡ true → old.items.batch ≡ [] → old.later.items ≡ ms ∷ new.later.items → new.items ≡ record old.items { batch = ms } → rows_behind new ≡ rows_behind old
next-taken old new ms was is empty front same =
    at-flag new true is
    ∙ ap (λ (items : Items RowGiving). brought (joined new.later.items) (family_of rows_told rows_heard items)) same
    ∙ refilled rows_told rows_heard with_row no_rows old.items empty ms (joined new.later.items)
    ∙ ap (λ (batches : List (List RawMessage)). brought (joined batches) (live-rows old)) (sym front)
    ∙ sym (at-flag old true was)

-- no batch was taken off
no-shorter : {A : Type 0} (x : A) (xs : List A) → x ∷ xs ≡ xs → ⊥
no-shorter x xs h = omega (arith, ap length h)

pub nothing-popped : {A : Type 0} (xs ys : List A) → xs ≡ ys → ys ≡ drop 1 xs → xs ≡ []
nothing-popped [] ys same rest = refl
nothing-popped (x ∷ xs) ys same rest = absurd (no-shorter x xs (same ∙ rest))

-- this is told
pub one-taken : (old new : RowStream) (told : Told (RowOf Column)) → old.taken ≡ true → new.taken ≡ true → new.later.items ≡ old.later.items → live-behind told new ≡ live-rows old → rows_stand told new ≡ rows_behind old
one-taken old new told was is same h =
    stands-flag told new true is ∙ (λ i. brought (joined (same i)) (h i)) ∙ sym (at-flag old true was)

-- none is left
pub all-taken : (s : RowStream) → s.taken ≡ true → s.items.batch ≡ [] → s.later.items ≡ [] → rows_stand (Fails UnexpectedMessage) s ≡ rows_behind s
all-taken s is empty none =
    stands-flag (Fails UnexpectedMessage) s true is
    ∙ ap (λ (batches : List (List RawMessage)). brought (joined batches) (live-behind (Fails UnexpectedMessage) s)) none
    ∙ spent rows_told rows_heard with_row no_rows s.items empty
    ∙ ap (λ (batches : List (List RawMessage)). brought (joined batches) (live-rows s)) (sym none)
    ∙ sym (at-flag s true is)

-- ---- what a poll gives

module _ {D : Type 0} (becomes : D → List Event → D → Type 0) (stamp : Stamp) where
  -- of what was taken
  pub taken-gives : ((a : D) → becomes a [] a) → (a : D) (old new : RowStream) → new.taken ≡ true → (r : Option (Result (RowOf Column) Error)) → GivesTaken old new r → GivesRow becomes stamp a (rows_behind old) a new r
  taken-gives stays a old new is (Some (Ok row)) h = goes-nowhere becomes stays stamp a (rows_behind old) (rows_stand (Item row) new) h
  taken-gives stays a old new is None h =
      let stood = stands-flag Ends new true is in
      record {
        last = rows_stand Ends new;
        goes = goes-nowhere becomes stays stamp a (rows_behind old) (rows_stand Ends new) h;
        answers = λ before. inl (ap (λ (p : Family _ _ _ _). (p.place before).dialogue) stood
            ∙ ap (λ (x : Result RowsGiven Error). Answer x) (posted-collected (joined new.later.items) new.items.close (Ok (before (no_rows new.items.giving)))));
        found = inl (subst (λ (p : Family _ _ _ _). EndFirst new.items (p.first [])) (sym stood) (refl, refl));
      }
  taken-gives stays a old new is (Some (Err e)) (inl h) =
      let stood = stands-flag (Fails e) new true is in
      record {
        last = rows_stand (Fails e) new;
        goes = goes-nowhere becomes stays stamp a (rows_behind old) (rows_stand (Fails e) new) h;
        answers = λ before. inl (ap (λ (p : Family _ _ _ _). (p.place before).dialogue) stood
            ∙ ap (λ (x : Result RowsGiven Error). Answer x) (hung-collected (joined new.later.items) new.items.close (Err e)));
        found = inl (subst (λ (p : Family _ _ _ _). NoItemFirst new.items (p.first [])) (sym stood) (tt, refl));
      }
  taken-gives stays a old new is (Some (Err e)) (inr lack) =
      let lacks : (let r : Result RowsGiven Error = Err e in r) ≡ Err OutOfMemory = ap (λ (x : Error). let r : Result RowsGiven Error = Err x in r) lack in
      record {
        last = rows_behind old;
        goes = goes-nowhere becomes stays stamp a (rows_behind old) (rows_behind old) refl;
        answers = λ before. inr lacks;
        found = inr (λ before. lacks);
      }

  -- of what is read
  pub live-gives : (a b : D) (old new : RowStream) → old.taken ≡ false → new.taken ≡ false → (r : Poll (Option (Result (RowOf Column) Error))) →
      MatchPoll r (λ next. Gives becomes rows_told with_row no_rows stamp a (live-rows old) b new.items next) (Awaits becomes rows_told rows_heard stamp a (live-rows old) b new.items) →
      MatchPoll r (λ next. GivesRow becomes stamp a (rows_behind old) b new next) (AwaitsRow becomes stamp a (rows_behind old) b new)
  live-gives a b old new was is (Ready (Some (Ok row))) h =
      subst (λ (p : Family _ _ _ _). GoesFor becomes stamp a p b (rows_stand (Item row) new)) (sym (at-flag old false was))
      (subst (λ (q : Family _ _ _ _). GoesFor becomes stamp a (live-rows old) b q) (sym (stands-flag (Item row) new false is)) h)
  live-gives a b old new was is (Ready None) h =
      subst (λ (p : Family _ _ _ _). AnswersFor becomes stamp a p b (λ before. let r : Result RowsGiven Error = Ok (before (no_rows new.items.giving)) in r) (EndFirst new.items)) (sym (at-flag old false was)) h
  live-gives a b old new was is (Ready (Some (Err e))) h =
      subst (λ (p : Family _ _ _ _). AnswersFor becomes stamp a p b (λ before. let r : Result RowsGiven Error = Err e in r) (NoItemFirst new.items)) (sym (at-flag old false was)) h
  live-gives a b old new was is Pending h = record {
    pauses = subst (λ (p : Family _ _ _ _). PausesFor becomes stamp a p b (rows_behind new)) (sym (at-flag old false was))
        (subst (λ (q : Family _ _ _ _). PausesFor becomes stamp a (live-rows old) b q) (sym (at-flag new false is)) h.pauses);
    empty = ap (λ (t : Bool). unread_if t new.items.batch (joined new.later.items)) is ∙ h.empty;
  }

  -- ---- it is given up

  pub taken-given-up : ((a : D) → becomes a [] a) → (a : D) (s : RowStream) → s.taken ≡ true → GoesToAnswer becomes stamp a (rows_given_up s) a (Ok tt)
  taken-given-up stays a s is = record {
    last = rows_given_up s;
    goes = record { events = []; became = stays a; walked = (refl, refl) };
    answers = inl (ap (λ (t : Bool). (given_up_if t s.items).dialogue) is);
  }

  pub live-given-up : (a b : D) (s : RowStream) → s.taken ≡ false → (r : Result (Unit {0}) Error) → GoesToAnswer becomes stamp a (given_up s.items) b r → GoesToAnswer becomes stamp a (rows_given_up s) b r
  live-given-up a b s is r h = subst (λ (p : Place (Unit {0})). GoesToAnswer becomes stamp a p b r) (sym (ap (λ (t : Bool). given_up_if t s.items) is)) h
