-- What a poll comes to, behind what was done before.
use Rattle.std.proofs.Common.{◌≡◌, ◌⊎◌, ℕ, List, [], ◌∷◌, ◌++◌, Bool, true, false, ◌||◌, if◌then◌else◌, Option, Some, None, Result, Ok, Err, MatchResult, refl, sym, ◌∙◌, ap, subst, inl, inr}
use Rattle.futures.specs.declared.task.Poll.{Poll}
use Rattle.futures.specs.declared.task.Poll.TheVariants.{Ready, Pending}
use Rattle.pg_spec.specs.Bodies.{Field}
use Rattle.pg_spec.specs.RawMessages.{RawMessage}
use Rattle.pg_spec.specs.declared.stamps.Stamp.{Stamp}
use Rattle.pg_desk.specs.declared.event.DeskFault.{DeskFault}
use Rattle.pg_desk.specs.declared.event.Event.{Event}
use Rattle.pg_desk.specs.declared.event.Event.TheVariants as call
use Rattle.pg_types.specs.declared.pg_type.PgType.{PgType}
use Rattle.pg_types.specs.declared.error.Error.{Error}
use Rattle.pg_types.specs.declared.error.Error.TheVariants.{OutOfMemory}
use Rattle.pg_query.specs.Dialogue.{Dialogue, Answer, Ask, Call, HangUp, cleaning, feed, feed_one, Walks}
use Rattle.pg_query.specs.Faults.{of_fault}
use Rattle.pg_execute.specs.Parameters.{Params}
use Rattle.pg_query.specs.Meaning.{ForMessage, ForRoom, GivesUp, Goes, GoesToAnswer, MatchPoll, Pauses, Place, WaitsAt}
use Rattle.pg_query.specs.Reading.{reads}
use Rattle.pg_query.specs.Scripts.{IsPut, IsRead, cleanup_of}
use Rattle.pg_query.specs.declared.desk_call.Cleanup.{Cleanup}
use Rattle.pg_query.specs.declared.desk_call.Cleanup.TheVariants.{Release}
use Rattle.pg_core.proofs.Fed.{feed-answer}
use Rattle.pg_query.proofs.Walking.{answer-joined, end-joined, goes-joined as place-joined, goes-nowhere as place-nowhere}
use Rattle.pg_core.specs.Sequences.{then_do}
use Rattle.pg_core.specs.Lookups.{find_all}
use Rattle.pg_execute.specs.Typed.{all_known, columns_came, has_ended, unnamed}
use Rattle.pg_execute.specs.declared.how_many.HowMany.TheVariants.{Any}
use Rattle.pg_streams.specs.Families.{Family, GoesFor, PausesFor}
use Rattle.pg_streams.specs.Handing.{AllCame, BroughtBefore, HandsOnLater, IsFound, PausesLater, SomeCame, WholeCame, alone, asking}
use Rattle.pg_streams.specs.Hearing.{First, IsNoItem}
use Rattle.pg_streams.specs.RowStates.{IsBegun, rows_opened, rows_place, rows_taken, statement_of}
use Rattle.pg_streams.specs.RowStreams.{RowsGiven, rows_given}
use Rattle.pg_streams.specs.declared.giving.Told.{Told}
use Rattle.pg_streams.specs.declared.giving.Told.TheVariants.{Item}
use Rattle.pg_streams.specs.declared.row_stream.RowStream.{RowStream}
use Rattle.pg_streams.proofs.Going.{Joins, goes-joined, goes-nowhere, pauses-joined}
use Rattle.pg_streams.specs.Heads.{heads, with_columns}
use Rattle.pg_streams.specs.Known.{KnowsAll, stands_behind}
use Rattle.pg_streams.specs.Rests.{came, rests, takes_so, whole_first}
use Rattle.pg_streams.specs.TypedRawStates.{Finishes, FindsOn, FindsOut, GivesOn, ForMore, ForTypes, Hands, HandsLive, HandsTaken, IsLiveAt, IsLiveSo, Polls, ReadsOn, TakesOn, Waits, WaitsToo, behind_columns, behind_rest, columns_first, first_so, found_first, had_of, known_of, known_on, opens_first, place_so, rest_told, rests_first, rows_of, stage_first, stage_place}
use Rattle.pg_streams.specs.TypedRaw.{Asked, FoundRows, found_rows, oids_of}
use Rattle.pg_streams.specs.declared.heads.Heads.{Heads}
use Rattle.pg_streams.specs.declared.rests.Rest.{Rest}
use Rattle.pg_streams.specs.declared.state.Stage.{Stage}
use Rattle.pg_streams.specs.declared.state.TypedAsks.{TypedAsks}
use Rattle.pg_streams.specs.declared.state.Stage.TheVariants.{Reads, Takes, Finds, Done}
use Rattle.pg_streams.proofs.Ending.{ended, ended-alone, ended-more, rows-steady, rows-told}
use Rattle.pg_streams.proofs.Fresh.{IsFresh, Renumbered, finds-fresh, fresh-then, renumber}
use Rattle.pg_streams.proofs.Takes.{goes-mapped, one-plan, pauses-mapped, plan-lacks}

abbrev rows-stand : RowStream → Family (Unit {0}) RowsGiven (Unit {0}) (Unit {0})
rows-stand s = alone (rows_place s) (rows_opened s)

-- where one waits behind what was done before
waits-on : {W : Type 0} (q : Place W) (es fs : List Event) → WaitsAt q fs → WaitsAt q (es ++ fs)
waits-on q es fs (ForMessage is last) = ForMessage is (end-joined es fs _ last)
waits-on q es fs (ForRoom is part last) = ForRoom is part (end-joined es fs _ last)

module _ {D : Type 0} {becomes : D → List Event → D → Type 0} (joins : Joins becomes) {stamp : Stamp} where
  pub pauses-later : {T : Type 0} {a b : D} (p q : Place T) → Goes becomes stamp a p b q → (c : D) (r : Place T) → Pauses becomes stamp b q c r → Pauses becomes stamp a p c r
  pauses-later {a = a} {b} p q h c r k = record { goes = place-joined becomes joins stamp a p b q c r h k.goes; waits = waits-on r h.events k.goes.events k.waits }

  -- ---- behind events that bring what is told first

  brought-joined : {a b : D} (p q : Place RowsGiven) (f g last : List RawMessage → First (Unit {0}) (Unit {0})) → GoesFor becomes stamp a (alone p f) b (alone q g) → (IsBehind : D → Place RowsGiven → Type 0) →
      BroughtBefore becomes stamp b (alone q g) last IsBehind → BroughtBefore becomes stamp a (alone p f) last IsBehind
  brought-joined p q f g last h IsBehind k = record { mid = k.mid; place = k.place; brings = goes-joined joins h k.mid (alone k.place last) k.brings; behind = k.behind }

  waits-joined : {a b : D} (p q : Place RowsGiven) (f g : List RawMessage → First (Unit {0}) (Unit {0})) → GoesFor becomes stamp a (alone p f) b (alone q g) → (c : D) (new : Stage) →
      Waits becomes stamp b q g c new → Waits becomes stamp a p f c new
  waits-joined p q f g h c new (ForMore k) = ForMore (pauses-joined joins h c (alone (stage_place true new) (stage_first new true)) k)
  waits-joined p q f g h c new (ForTypes item k) = ForTypes item (brought-joined p q f g (stage_first new true) h (λ mid r. Pauses becomes stamp mid r c (stage_place true new)) k)

  taken-joined : {a b : D} (p q : Place RowsGiven) (f g : List RawMessage → First (Unit {0}) (Unit {0})) → GoesFor becomes stamp a (alone p f) b (alone q g) → (c : D) (stream : RowStream) →
      HandsTaken becomes stamp b q g c stream → HandsTaken becomes stamp a p f c stream
  taken-joined p q f g h c stream k = record {
    taken = k.taken;
    brought = brought-joined p q f g (rows_opened stream) h (λ mid r. (n : ℕ) × Goes becomes stamp mid r c (record { dialogue = (rows_place stream).dialogue; reads = n })) k.brought;
  }

  err-joined : {T : Type 0} {a b : D} (p q : Place T) → Goes becomes stamp a p b q → (c : D) (e : Error) → GoesToAnswer becomes stamp b q c (Err e) → GoesToAnswer becomes stamp a p c (Err e)
  err-joined {a = a} {b} p q h c e k = answer-joined becomes joins stamp a p b q c (Err e) h k

  found-joined : {a b : D} (p q : (rows : Bool) → Place (Asked rows)) → Goes becomes stamp a (p false) b (q false) → (c : D) (stream : RowStream) → FindsOut becomes stamp b q c stream → FindsOut becomes stamp a p c stream
  found-joined {a} {b} p q h c stream k = answer-joined becomes joins stamp a (p false) b (q false) c (Ok (known_of stream)) h k

  -- where the rest is taken
  pub takes-joined : {a b : D} (p q : (rows : Bool) → Place (Asked rows)) (f g : List RawMessage → First (Unit {0}) (Unit {0})) → ((rows : Bool) → GoesFor becomes stamp a (alone (p rows) f) b (alone (q rows) g)) → (c : D) (new : Stage) (r : Poll (Result RowStream Error)) →
      TakesOn becomes stamp b q g c new r → TakesOn becomes stamp a p f c new r
  takes-joined p q f g h c new (Ready (Ok stream)) k = (taken-joined (p true) (q true) f g (h true) c stream k.0, k.1, found-joined p q (one-plan (h false) tt) c stream k.2)
  takes-joined p q f g h c new (Ready (Err e)) k = λ rows. err-joined (p rows) (q rows) (one-plan (h rows) tt) c e (k rows)
  takes-joined p q f g h c new Pending k = (waits-joined (p true) (q true) f g (h true) c new k.0, pauses-later (p false) (q false) (one-plan (h false) tt) c (stage_place false new) k.1, k.2)

  hands-joined : {a b : D} (p q : (rows : Bool) → Place (Asked rows)) (f g : Bool → List RawMessage → First (Unit {0}) (Unit {0})) → ((rows rest : Bool) → GoesFor becomes stamp a (alone (p rows) (f rest)) b (alone (q rows) (g rest))) → (c : D) (r : Result RowStream Error) →
      Hands becomes stamp b q g c r → Hands becomes stamp a p f c r
  hands-joined p q f g h c (Ok stream) (inl k, begun, finds) = (inl (record { live = k.live; goes = goes-joined joins (h true false) c (rows-stand stream) k.goes }), begun, found-joined p q (one-plan (h false false) tt) c stream finds)
  hands-joined p q f g h c (Ok stream) (inr k, begun, finds) = (inr (taken-joined (p true) (q true) (f true) (g true) (h true true) c stream k), begun, found-joined p q (one-plan (h false true) tt) c stream finds)
  hands-joined p q f g h c (Err e) k = λ rows. err-joined (p rows) (q rows) (one-plan (h rows true) tt) c e (k rows)

  -- whatever is told first
  pub polls-joined : {a b : D} (p q : (rows : Bool) → Place (Asked rows)) (f g : Bool → List RawMessage → First (Unit {0}) (Unit {0})) → ((rows rest : Bool) → GoesFor becomes stamp a (alone (p rows) (f rest)) b (alone (q rows) (g rest))) → (c : D) (new : Stage) (r : Poll (Result RowStream Error)) →
      Polls becomes stamp b q g c new r → Polls becomes stamp a p f c new r
  polls-joined p q f g h c new (Ready r) k = hands-joined p q f g h c r k
  polls-joined p q f g h c new Pending k = (waits-joined (p true) (q true) (f true) (g true) (h true true) c new k.0, pauses-later (p false) (q false) (one-plan (h false true) tt) c (stage_place false new) k.1, k.2)

-- ---- the rest is taken behind the columns

pub takes-polls : {D : Type 0} (becomes : D → List Event → D → Type 0) (stamp : Stamp) (a b : D) (p : (rows : Bool) → Place (Asked rows)) (new : Stage) (f : Bool → List RawMessage → First (Unit {0}) (Unit {0})) (r : Poll (Result RowStream Error)) →
    TakesOn becomes stamp a p (f true) b new r → Polls becomes stamp a p f b new r
takes-polls becomes stamp a b p new f (Ready (Ok stream)) k = (inr k.0, k.1, k.2)
takes-polls becomes stamp a b p new f (Ready (Err e)) k = k
takes-polls becomes stamp a b p new f Pending k = k

-- ---- what a caller is told

-- the stream is brought whole where the rest is taken
abbrev is-whole : FoundRows → Type 0
is-whole k = k.taken ≡ true

not-whole : (taken : Bool) → taken ≡ false → taken ≡ true → ⊥
not-whole taken h e = cc

-- where the reply is asked for, by what is known of it
abbrev pub asked-by : Place RowsGiven → (first : Bool → List RawMessage → First (Unit {0}) (Unit {0})) → FoundRows → ℕ → Family (Unit {0}) RowsGiven (Unit {0}) (Unit {0})
asked-by p first = asking (λ k. p.dialogue) (λ k. first k.taken)

not-taken : (taken : Bool) → (taken ≡ true → ⊥) → taken ≡ false
not-taken false h = refl
not-taken true h = absurd (h refl)

-- of a reply whose rest isn't taken nothing came
pub nothing-came : (stage : Stage) → IsLiveAt stage → stage_first stage false ≡ opens_first false
nothing-came (Reads s) live = ap (λ (l : List RawMessage). let f : List RawMessage → First (Unit {0}) (Unit {0}) = λ more. opens_first false (l ++ more) in f) live
nothing-came (Takes columns s) live = refl
nothing-came (Finds columns batches s) live = refl
nothing-came Done live = absurd live

module _ {D : Type 0} (becomes : D → List Event → D → Type 0) (stays : (a : D) → becomes a [] a) (joins : Joins becomes) (stamp : Stamp) (a b : D) (p : (rows : Bool) → Place (Asked rows)) (first : Bool → List RawMessage → First (Unit {0}) (Unit {0}))
    (none : first false ≡ opens_first false) (new : Stage) where
  -- nothing comes behind what was found out
  found-now : (stream : RowStream) → FindsOut becomes stamp a p b stream → IsFound becomes stamp a (p false) b (known_of stream)
  found-now stream k = record { mid = b; found = k; events = []; became = stays b }

  -- where one waits
  waits-at : Waits becomes stamp a (p true) (first true) b new → Pauses becomes stamp a (p true) b (stage_place true new)
  waits-at (ForMore k) = record { goes = record { events = k.goes.events; became = k.goes.became; walked = k.goes.walked tt }; waits = k.waits tt }
  waits-at (ForTypes item k) = pauses-later joins (p true) k.place (one-plan k.brings tt) b (stage_place true new) k.behind

  -- what came where the rest is taken
  came-whole : Waits becomes stamp a (p true) (first true) b new → WholeCame becomes stamp a (alone (p true) (first true)) b (alone (stage_place true new) (stage_first new true))
  came-whole (ForMore k) = SomeCame k
  came-whole (ForTypes item k) = AllCame item k

  -- by whether it is
  came-so : Waits becomes stamp a (p true) (first true) b new → (taken : Bool) → taken ≡ true → WholeCame becomes stamp a (alone (p true) (first taken)) b (alone (stage_place true new) (stage_first new taken))
  came-so k taken is = subst (λ (x : Bool). WholeCame becomes stamp a (alone (p true) (first x)) b (alone (stage_place true new) (stage_first new x))) (sym is) (came-whole k)

  same-so : IsLiveAt new → (taken : Bool) → (taken ≡ true → ⊥) → stage_first new taken ≡ first taken
  same-so live taken h = subst (λ (x : Bool). stage_first new x ≡ first x) (sym (not-taken taken h)) (nothing-came new live ∙ sym none)

  pub later : (r : Poll (Result RowStream Error)) → Polls becomes stamp a p first b new r →
      MatchPoll r (λ x. HandsOnLater becomes rows-stand IsBegun known_of is-whole stamp a (p false) (p true) (asked-by (p true) first) b x)
      (PausesLater becomes stamp a (p false) (p true) (asked-by (p true) first) is-whole b (stage_place false new) (stage_place true new) (asked-by (stage_place true new) (stage_first new)) None × IsLiveAt new)
  later (Ready (Ok stream)) (inl k, begun, finds) = (
    inl (record {
      known = known_of stream;
      apart = not-whole (rows_taken stream) k.live;
      mid = a;
      reads = (p true).reads;
      finds = place-nowhere becomes stays stamp a (p true);
      behind = ((subst (λ (rest : Bool). GoesFor becomes stamp a (alone (p true) (first rest)) b (rows-stand stream)) (sym k.live) k.goes, begun), refl);
    }),
    found-now stream finds,
  )
  later (Ready (Ok stream)) (inr k, begun, finds) = (
    inr (
      subst (λ (rest : Bool). BroughtBefore becomes stamp a (alone (p true) (first rest)) (rows_opened stream) (λ mid q. (n : ℕ) × Goes becomes stamp mid q b (record { dialogue = (rows_place stream).dialogue; reads = n }))) (sym k.taken) k.brought,
      begun,
      k.taken,
    ),
    found-now stream finds,
  )
  later (Ready (Err e)) k = inl (k false, k true)
  later Pending (k, too, live) = (inl (refl, record { pauses = waits-at k; stays = λ known. inr (refl, refl); came = λ known is. came-so k known.taken is; same = λ known h. same-so live known.taken h }, too), live)

-- ---- the columns

-- what is told first, by whether the rest is taken
abbrev opens-by : Bool → First (Unit {0}) (Unit {0}) → First (Unit {0}) (Unit {0})
opens-by false f = f
opens-by true f = whole_first f.told f

silent : (rest : Bool) (f : First (Unit {0}) (Unit {0})) → f.told ≡ None → (opens-by rest f).told ≡ None
silent false f h = h
silent true f h = ap (λ (o : Option (Told (Unit {0}))). (whole_first o f).told) h ∙ h

-- the columns came
pub columns-came : {D : Type 0} {becomes : D → List Event → D → Type 0} {stamp : Stamp} {a b : D} (fields : List Field) (old new : Heads) → old.batch ≡ [] → (rows : Bool) → GoesFor becomes stamp a (heads rows old) b (with_columns rows fields new) → (next : List Field → Dialogue (Asked rows)) → (rest : Bool) →
    GoesFor becomes stamp a (alone ((heads rows old).place next) (opens_first rest)) b (alone ((with_columns rows fields new).place next) (columns_first new.batch rest))
columns-came {becomes = becomes} {stamp} {a} {b} fields old new empty rows goes next false =
    subst (λ (l : List RawMessage). GoesFor becomes stamp a (alone ((heads rows old).place next) (λ more. opens_first false (l ++ more))) b (alone ((with_columns rows fields new).place next) (columns_first new.batch false))) empty
    (goes-mapped (opens-by false) (silent false) goes next)
columns-came {becomes = becomes} {stamp} {a} {b} fields old new empty rows goes next true =
    subst (λ (l : List RawMessage). GoesFor becomes stamp a (alone ((heads rows old).place next) (λ more. opens_first true (l ++ more))) b (alone ((with_columns rows fields new).place next) (columns_first new.batch true))) empty
    (goes-mapped (opens-by true) (silent true) goes next)

-- one waits for them
heads-await : {D : Type 0} {becomes : D → List Event → D → Type 0} {stamp : Stamp} {a b : D} (rows : Bool) (old new : Heads) → PausesFor becomes stamp a (heads rows old) b (heads rows new) → (next : List Field → Dialogue (Asked rows)) →
    Pauses becomes stamp a ((heads rows old).place next) b ((heads rows new).place next)
heads-await rows old new h next = record { goes = record { events = h.goes.events; became = h.goes.became; walked = h.goes.walked next }; waits = h.waits next }

pub columns-awaited : {D : Type 0} {becomes : D → List Event → D → Type 0} {stamp : Stamp} {a b : D} (old new : Heads) → old.batch ≡ [] → ((rows : Bool) → PausesFor becomes stamp a (heads rows old) b (heads rows new)) →
    Waits becomes stamp a ((heads true old).place (behind_columns true)) (opens_first true) b (Reads new) × WaitsToo becomes stamp a (λ rows. (heads rows old).place (behind_columns rows)) b (Reads new)
columns-awaited {becomes = becomes} {stamp} {a} {b} old new empty h =
    let next = behind_columns true in (
      ForMore (subst (λ (l : List RawMessage). PausesFor becomes stamp a (alone ((heads true old).place next) (λ more. opens_first true (l ++ more))) b (alone ((heads true new).place next) (λ more. opens_first true (new.batch ++ more)))) empty
          (pauses-mapped (opens-by true) (silent true) (h true) next)),
      heads-await false old new (h false) (behind_columns false),
    )

-- the rows are read on
pub read-on : {D : Type 0} {becomes : D → List Event → D → Type 0} {stamp : Stamp} {a b : D} (p : Place RowsGiven) (f : List RawMessage → First (Unit {0}) (Unit {0})) (fields : List Field) (types : List PgType) (s : Heads) (stream : RowStream) → ReadsOn fields types s stream →
    GoesFor becomes stamp a (alone p f) b (alone (record { dialogue = feed s.batch (reads false (rows_of fields types)); reads = s.id }) (columns_first s.batch false)) → HandsLive becomes stamp a p f b stream
read-on {becomes = becomes} {stamp} {a} {b} p f fields types s stream on goes = record {
  live = on.live;
  goes = subst (λ (q : Family (Unit {0}) RowsGiven (Unit {0}) (Unit {0})). GoesFor becomes stamp a (alone p f) b q)
      (λ i. alone (sym on.stands i) (λ more. record { told = Some (Item tt); giving = tt; left = sym on.left i ++ more })) goes;
}

-- ---- the rest

-- by one plan
pub rests-go : {D : Type 0} {becomes : D → List Event → D → Type 0} {stamp : Stamp} {a b : D} (rows : Bool) (old new : Rest) → GoesFor becomes stamp a (rests rows old) b (rests rows new) → (next : List RawMessage → Dialogue (Asked rows)) →
    GoesFor becomes stamp a (alone ((rests rows old).place next) (rests_first (came old))) b (alone ((rests rows new).place next) (rests_first (came new)))
rests-go rows old new goes next = record { events = goes.events; became = goes.became; walked = λ u. goes.walked next; brought = goes.brought }

pub rests-wait : {D : Type 0} {becomes : D → List Event → D → Type 0} {stamp : Stamp} {a b : D} (rows : Bool) (old new : Rest) → PausesFor becomes stamp a (rests rows old) b (rests rows new) → (next : List RawMessage → Dialogue (Asked rows)) →
    PausesFor becomes stamp a (alone ((rests rows old).place next) (rests_first (came old))) b (alone ((rests rows new).place next) (rests_first (came new)))
rests-wait rows old new h next = record {
  goes = record { events = h.goes.events; became = h.goes.became; walked = λ u. h.goes.walked next; brought = h.goes.brought };
  waits = λ u. h.waits next;
}

-- so waits who only finds out what the rows are
pub rests-wait-too : {D : Type 0} {becomes : D → List Event → D → Type 0} {stamp : Stamp} {a b : D} (rows : Bool) (old new : Rest) → PausesFor becomes stamp a (rests rows old) b (rests rows new) → (next : List RawMessage → Dialogue (Asked rows)) →
    Pauses becomes stamp a ((rests rows old).place next) b ((rests rows new).place next)
rests-wait-too rows old new h next = record { goes = record { events = h.goes.events; became = h.goes.became; walked = h.goes.walked next }; waits = h.waits next }

-- all that came opens the rows
ended-first : (ms : List RawMessage) → has_ended ms ≡ true → rests_first ms ≡ found_first ms
ended-first ms h = λ i. λ more.
    ap (λ (b : Bool). let f : First (Unit {0}) (Unit {0}) = if b then record { told = Some (Item tt); giving = tt; left = ms ++ more } else record { told = None; giving = tt; left = [] } in f)
    (ended-more ms more ∙ ap (λ (b : Bool). b || has_ended more) h) i

-- which an item does
opens-so : (new : Stage) (ms : List RawMessage) → stage_first new true ≡ found_first ms → IsNoItem (stage_first new true []).told → ⊥
opens-so new ms same none = subst (λ (f : List RawMessage → First (Unit {0}) (Unit {0})). IsNoItem (f []).told) same none

-- what it leads to
pub rest-ended : (rows : Bool) (fields : List Field) (ms : List RawMessage) → has_ended ms ≡ true → feed ms (takes_so (behind_rest rows fields)) ≡ HangUp (then_do (find_all (oids_of fields)) (had_of rows fields ms))
rest-ended false fields ms h = ended-alone (then_do (find_all (oids_of fields)) (λ types. Answer (Ok (found_rows true fields types)))) ms h
rest-ended true fields ms h =
    ended (λ (told : List PgType → Result RowsGiven Error). then_do (find_all (oids_of fields)) (λ types. Answer (told types))) (rows_of fields)
    (λ types. rows-steady Any _ (rows_given (unnamed fields types)) columns_came) (λ types. rows-told Any _ (rows_given (unnamed fields types)) columns_came) ms h

-- where it has ended
abbrev pub ended-at : List Field → List RawMessage → (id : ℕ) → (rows : Bool) → Place (Asked rows)
ended-at fields ms id rows = record { dialogue = feed ms (takes_so (behind_rest rows fields)); reads = id }

module _ {D : Type 0} {becomes : D → List Event → D → Type 0} (stays : (a : D) → becomes a [] a) (joins : Joins becomes) {stamp : Stamp} {a : D} (fields : List Field) (ms : List RawMessage) (id : ℕ) (is : has_ended ms ≡ true) where
  -- it is hung up, and the types are found
  pub hung : (b : D) → becomes a (call.HangUp id (Ok tt) ∷ []) b → (rows : Bool) → Goes becomes stamp a (ended-at fields ms id rows) b (record { dialogue = then_do (find_all (oids_of fields)) (had_of rows fields ms); reads = id })
  hung b ev rows = record {
    events = call.HangUp id (Ok tt) ∷ [];
    became = ev;
    walked = subst (λ (d : Dialogue (Asked rows)). Walks stamp d id (call.HangUp id (Ok tt) ∷ []) (then_do (find_all (oids_of fields)) (had_of rows fields ms)) id) (sym (rest-ended rows fields ms is)) (_, id, (refl, refl, refl), (refl, refl));
  }

  -- and memory lacks
  pub hung-lacks : (b : D) → becomes a (call.HangUp id (Ok tt) ∷ []) b → (e : Error) → e ≡ OutOfMemory → (rows : Bool) → GoesToAnswer becomes stamp a (ended-at fields ms id rows) b (Err e)
  hung-lacks b ev e lack rows = record {
    last = record { dialogue = then_do (find_all (oids_of fields)) (had_of rows fields ms); reads = id };
    goes = hung b ev rows;
    answers = inr (ap (λ (x : Error). let r : Result (Asked rows) Error = Err x in r) lack);
  }

  -- or the desk refused
  pub not-hung : (b : D) (fault : DeskFault) (e : Error) → becomes a (call.HangUp id (Err fault) ∷ []) b → e ≡ of_fault fault → (rows : Bool) → GoesToAnswer becomes stamp a (ended-at fields ms id rows) b (Err e)
  not-hung b fault e ev same rows = record {
    last = record { dialogue = Answer (Err (of_fault fault)); reads = id };
    goes = record {
      events = call.HangUp id (Err fault) ∷ [];
      became = ev;
      walked = subst (λ (d : Dialogue (Asked rows)). Walks stamp d id (call.HangUp id (Err fault) ∷ []) (Answer (Err (of_fault fault))) id) (sym (rest-ended rows fields ms is)) (_, id, (refl, refl, refl), (refl, refl));
    };
    answers = inl (ap (λ (x : Error). let d : Dialogue (Asked rows) = Answer (Err x) in d) (sym same));
  }

  -- nothing of the reply comes from there on
  brought : (last : List RawMessage → First (Unit {0}) (Unit {0})) → last ≡ found_first ms → (IsBehind : D → Place RowsGiven → Type 0) → IsBehind a (ended-at fields ms id true) → BroughtBefore becomes stamp a (alone (ended-at fields ms id true) (rests_first ms)) last IsBehind
  brought last same IsBehind behind = record {
    mid = a;
    place = ended-at fields ms id true;
    brings = goes-nowhere becomes stays stamp a (alone (ended-at fields ms id true) (rests_first ms)) (alone (ended-at fields ms id true) last) (λ i. alone (ended-at fields ms id true) ((same ∙ sym (ended-first ms is)) i));
    behind = behind;
  }

  -- what comes of the finding
  pub ended-takes : (b : D) (p : (rows : Bool) → Place (Asked rows)) → ((rows : Bool) → Goes becomes stamp a (ended-at fields ms id rows) b (p rows)) → (c : D) (new : Stage) (r : Poll (Result RowStream Error)) →
      MatchPoll r (λ x. Finishes becomes stamp b p ms c x) (FindsOn becomes stamp b p ms c new) → TakesOn becomes stamp a (ended-at fields ms id) (rests_first ms) c new r
  ended-takes b p h c new (Ready (Ok stream)) k = (
    record {
      taken = k.taken;
      brought = brought (rows_opened stream) (λ i. λ more. record { told = Some (Item tt); giving = tt; left = k.left i ++ more }) (λ mid q. (n : ℕ) × Goes becomes stamp mid q c (record { dialogue = (rows_place stream).dialogue; reads = n }))
          (k.reads, place-joined becomes joins stamp a (ended-at fields ms id true) b (p true) c (record { dialogue = (rows_place stream).dialogue; reads = k.reads }) (h true) k.goes);
    },
    k.begun,
    answer-joined becomes joins stamp a (ended-at fields ms id false) b (p false) c (Ok (known_of stream)) (h false) k.finds,
  )
  ended-takes b p h c new (Ready (Err e)) k = λ rows. answer-joined becomes joins stamp a (ended-at fields ms id rows) b (p rows) c (Err e) (h rows) (k rows)
  ended-takes b p h c new Pending k =
      let waits : (rows : Bool) → Pauses becomes stamp a (ended-at fields ms id rows) c (stage_place rows new) = λ rows. pauses-later joins (ended-at fields ms id rows) (p rows) (h rows) c (stage_place rows new) (k.pauses rows) in
      (ForTypes (opens-so new ms k.first) (brought (stage_first new true) k.first (λ mid q. Pauses becomes stamp mid q c (stage_place true new)) (waits true)), waits false, k.live)

-- ---- types that are found

-- messages count for nothing behind it
pub had-deaf : (rows : Bool) (fields : List Field) (ms : List RawMessage) (types : List PgType) (m : RawMessage) → feed_one m (had_of rows fields ms types) ≡ had_of rows fields ms types
had-deaf true fields ms types m = refl
had-deaf false fields ms types m = refl

-- a poll that began there
pub found-polls : {D : Type 0} (becomes : D → List Event → D → Type 0) → ((a : D) → becomes a [] a) → (stamp : Stamp) (a b : D) (p : (rows : Bool) → Place (Asked rows)) (ms : List RawMessage) (new : Stage) (r : Poll (Result RowStream Error)) →
    MatchPoll r (λ x. Finishes becomes stamp a p ms b x) (FindsOn becomes stamp a p ms b new) → Polls becomes stamp a p (rest_told (found_first ms)) b new r
found-polls becomes stays stamp a b p ms new (Ready (Ok stream)) k = (
  inr (record {
    taken = k.taken;
    brought = record {
      mid = a;
      place = p true;
      brings = goes-nowhere becomes stays stamp a (alone (p true) (found_first ms)) (alone (p true) (rows_opened stream)) (λ i. alone (p true) (λ more. record { told = Some (Item tt); giving = tt; left = k.left i ++ more }));
      behind = (k.reads, k.goes);
    };
  }),
  k.begun,
  k.finds,
)
found-polls becomes stays stamp a b p ms new (Ready (Err e)) k = k
found-polls becomes stays stamp a b p ms new Pending k = (
  ForTypes (opens-so new ms k.first) (record {
    mid = a;
    place = p true;
    brings = goes-nowhere becomes stays stamp a (alone (p true) (found_first ms)) (alone (p true) (stage_first new true)) (λ i. alone (p true) (k.first i));
    behind = k.pauses true;
  }),
  k.pauses false,
  k.live,
)

-- ---- what a poll does in one step

-- want of memory may be the answer at any place
pub lacks-here : {D T : Type 0} (becomes : D → List Event → D → Type 0) → ((a : D) → becomes a [] a) → (stamp : Stamp) (a : D) (p : Place T) (e : Error) → e ≡ OutOfMemory → GoesToAnswer becomes stamp a p a (Err e)
lacks-here {T = T} becomes stays stamp a p e is = record { last = p; goes = place-nowhere becomes stays stamp a p; answers = inr (ap (λ (x : Error). let r : Result T Error = Err x in r) is) }

-- what was found out is what is known of the stream
told-so : (taken : Bool) (fields : List Field) (types : List PgType) (stream : RowStream) → rows_taken stream ≡ taken → statement_of stream ≡ unnamed fields types →
    (let d : Dialogue FoundRows = Answer (Ok (found_rows taken fields types)) in d) ≡ Answer (Ok (known_of stream))
told-so taken fields types stream is same = λ i. Answer (Ok (record { taken = sym is i; statement = sym same i }))

module _ {D : Type 0} {becomes : D → List Event → D → Type 0} {stamp : Stamp} {a b : D} where
  -- the types are known
  pub knows-some : {T : Type 0} (ms : List RawMessage) (id : ℕ) (first : List RawMessage → First (Unit {0}) (Unit {0})) (fields : List Field) (types : List PgType) (oids : List ℕ) → oids ≡ oids_of fields → (o : Option (List PgType)) → o ≡ Some types →
      (later : Dialogue T) (next : List PgType → Dialogue T) → KnowsAll becomes stamp a ms id first later next oids b (Ok o) →
      GoesFor becomes stamp a (alone (stands_behind ms (all_known later next (oids_of fields) []) id) first) b (alone (stands_behind ms (next types) id) first)
  knows-some ms id first fields types oids are o is later next h =
      subst (λ (l : List ℕ). GoesFor becomes stamp a (alone (stands_behind ms (all_known later next l []) id) first) b (alone (stands_behind ms (next types) id) first)) are
      (subst (λ (x : Option (List PgType)). KnowsAll becomes stamp a ms id first later next oids b (Ok x)) is h)

  -- one isn't
  pub knows-none : {T : Type 0} (ms : List RawMessage) (id : ℕ) (first : List RawMessage → First (Unit {0}) (Unit {0})) (fields : List Field) (oids : List ℕ) → oids ≡ oids_of fields → (o : Option (List PgType)) → o ≡ None →
      (later : Dialogue T) (next : List PgType → Dialogue T) → KnowsAll becomes stamp a ms id first later next oids b (Ok o) →
      GoesFor becomes stamp a (alone (stands_behind ms (all_known later next (oids_of fields) []) id) first) b (alone (stands_behind ms later id) first)
  knows-none ms id first fields oids are o is later next h =
      subst (λ (l : List ℕ). GoesFor becomes stamp a (alone (stands_behind ms (all_known later next l []) id) first) b (alone (stands_behind ms later id) first)) are
      (subst (λ (x : Option (List PgType)). KnowsAll becomes stamp a ms id first later next oids b (Ok x)) is h)

  -- an error
  pub knows-err : {T : Type 0} (ms : List RawMessage) (id : ℕ) (first : List RawMessage → First (Unit {0}) (Unit {0})) (fields : List Field) (oids : List ℕ) → oids ≡ oids_of fields → (e : Error) →
      (later : Dialogue T) (next : List PgType → Dialogue T) → KnowsAll becomes stamp a ms id first later next oids b (Err e) → GoesToAnswer becomes stamp a (stands_behind ms (all_known later next (oids_of fields) []) id) b (Err e)
  knows-err ms id first fields oids are e later next h = subst (λ (l : List ℕ). GoesToAnswer becomes stamp a (stands_behind ms (all_known later next l []) id) b (Err e)) are h

  -- the rows are read on, or memory lacks
  pub read-hands : (p : (rows : Bool) → Place (Asked rows)) (f : Bool → List RawMessage → First (Unit {0}) (Unit {0})) (fields : List Field) (types : List PgType) (s : Heads) (r : Result RowStream Error) → MatchResult r (λ stream. ReadsOn fields types s stream) (λ e. e ≡ OutOfMemory) →
      ((rows : Bool) → GoesFor becomes stamp a (alone (p rows) (f false)) b (alone (stands_behind s.batch (known_on rows fields types) s.id) (columns_first s.batch false))) → Hands becomes stamp a p f b r
  read-hands p f fields types s (Ok stream) on goes = (
    inl (read-on (p true) (f false) fields types s stream on (goes true)),
    on.begun,
    record {
      last = stands_behind s.batch (known_on false fields types) s.id;
      goes = one-plan (goes false) tt;
      answers = inl (feed-answer s.batch (Ok (found_rows false fields types)) ∙ told-so false fields types stream on.live on.statement);
    },
  )
  read-hands p f fields types s (Err e) is goes = λ rows. plan-lacks (goes rows) tt e is

  -- the types were found, and rows are given of what was taken, or memory lacks
  pub give-finishes : (fields : List Field) (types : List PgType) (ms : List RawMessage) (p : (rows : Bool) → Place (Asked rows)) (n : ℕ) → ((rows : Bool) → Goes becomes stamp a (p rows) b (record { dialogue = had_of rows fields ms types; reads = n })) → (r : Result RowStream Error) →
      MatchResult r (λ stream. GivesOn fields types ms stream) (λ e. e ≡ OutOfMemory) → Finishes becomes stamp a p ms b r
  give-finishes fields types ms p n goes (Ok stream) on = record {
    reads = n;
    goes = subst (λ (d : Dialogue RowsGiven). Goes becomes stamp a (p true) b (record { dialogue = d; reads = n })) (sym on.stands) (goes true);
    finds = record { last = record { dialogue = had_of false fields ms types; reads = n }; goes = goes false; answers = inl (told-so true fields types stream on.taken on.statement) };
    left = on.left;
    taken = on.taken;
    begun = on.begun;
  }
  give-finishes fields types ms p n goes (Err e) is = λ rows. record {
    last = record { dialogue = had_of rows fields ms types; reads = n };
    goes = goes rows;
    answers = inr (ap (λ (x : Error). let r : Result (Asked rows) Error = Err x in r) is);
  }

-- the rest begins with these messages
pub rest-takes : {D : Type 0} (becomes : D → List Event → D → Type 0) (stamp : Stamp) (a b : D) (ms : List RawMessage) (id : ℕ) (s : Rest) → came s ≡ ms → s.id ≡ id → (next : (rows : Bool) → List RawMessage → Dialogue (Asked rows)) (new : Stage) (r : Poll (Result RowStream Error)) →
    TakesOn becomes stamp a (λ rows. (rests rows s).place (next rows)) (rests_first (came s)) b new r → TakesOn becomes stamp a (λ rows. stands_behind ms (takes_so (next rows)) id) (rests_first ms) b new r
rest-takes becomes stamp a b ms id s is same next new r k =
    subst (λ (n : ℕ). TakesOn becomes stamp a (λ rows. stands_behind ms (takes_so (next rows)) n) (rests_first ms) b new r) same
    (subst (λ (l : List RawMessage). TakesOn becomes stamp a (λ rows. stands_behind l (takes_so (next rows)) s.id) (rests_first l) b new r) is k)

-- ---- the finding begins

-- what waits isn't fresh
waits-not : {T : Type 0} (q : Place T) (es : List Event) → WaitsAt q es → IsFresh q.dialogue → ⊥
waits-not {T} q es (ForMessage is last) h = read-not q.dialogue is h
  where
    read-not : (d : Dialogue T) → IsRead d → IsFresh d → ⊥
    read-not (Answer r) is h = is
    read-not (Ask copying part d) is h = is
    read-not (Call q refused next) is h = is
    read-not _ is h = h
waits-not {T} q es (ForRoom is part last) h = put-not q.dialogue is h
  where
    put-not : (d : Dialogue T) → IsPut d → IsFresh d → ⊥
    put-not (Answer r) is h = is
    put-not (Ask copying part d) is h = is
    put-not (Call q refused next) is h = is
    put-not _ is h = h

-- where it begins, and where the request was hung up
abbrev pub finding-at : List Field → List RawMessage → Dialogue (List PgType) → (id : ℕ) → (rows : Bool) → Place (Asked rows)
finding-at fields ms d id rows = record { dialogue = then_do d (had_of rows fields ms); reads = id }

had-fresh : (rows : Bool) (fields : List Field) (ms : List RawMessage) (types : List PgType) → IsFresh (had_of rows fields ms types)
had-fresh true fields ms types = tt
had-fresh false fields ms types = tt

module _ {D : Type 0} (becomes : D → List Event → D → Type 0) (stamp : Stamp) (b : D) (fields : List Field) (ms : List RawMessage) (d : Dialogue (List PgType)) (is : d ≡ find_all (oids_of fields)) (reads-it id : ℕ) where
  abbrev at-finding : (rows : Bool) → Place (Asked rows)
  at-finding = finding-at fields ms d reads-it

  abbrev at-hung : (rows : Bool) → Place (Asked rows)
  at-hung = finding-at fields ms (find_all (oids_of fields)) id

  -- the same walk from there
  from-hung : (rows : Bool) (c : D) (q : Place (Asked rows)) → (h : Goes becomes stamp b (at-finding rows) c q) → Renumbered stamp (at-hung rows).dialogue reads-it id h.events q.dialogue q.reads
  from-hung rows c q h =
      renumber stamp (at-hung rows).dialogue reads-it id h.events q.dialogue q.reads (fresh-then (find_all (oids_of fields)) (had_of rows fields ms) (finds-fresh (oids_of fields)) (had-fresh rows fields ms))
      (subst (λ (x : Dialogue (List PgType)). Walks stamp (then_do x (had_of rows fields ms)) reads-it h.events q.dialogue q.reads) is h.walked)

  -- an answer of one of both
  answered : (rows : Bool) (c : D) (r : Result (Asked rows) Error) → GoesToAnswer becomes stamp b (at-finding rows) c r → GoesToAnswer becomes stamp b (at-hung rows) c r
  answered rows c r here =
      let k = from-hung rows c here.last here.goes in
      record { last = record { dialogue = here.last.dialogue; reads = k.reads }; goes = record { events = here.goes.events; became = here.goes.became; walked = k.walked }; answers = here.answers }

  -- one of both waits
  waited : (rows : Bool) (c : D) (q : Place (Asked rows)) → Pauses becomes stamp b (at-finding rows) c q → Pauses becomes stamp b (at-hung rows) c q
  waited rows c q h = by k.same
    where
      k : Renumbered stamp (at-hung rows).dialogue reads-it id h.goes.events q.dialogue q.reads
      k = from-hung rows c q h.goes

      by : (k.reads ≡ q.reads) ⊎ IsFresh q.dialogue → Pauses becomes stamp b (at-hung rows) c q
      by (inl same) = record {
        goes = record { events = h.goes.events; became = h.goes.became; walked = subst (λ (n : ℕ). Walks stamp (at-hung rows).dialogue id h.goes.events q.dialogue n) same k.walked };
        waits = h.waits;
      }
      by (inr fresh) = absurd (waits-not q h.goes.events h.waits fresh)

  pub found-hung : (c : D) (new : Stage) (r : Poll (Result RowStream Error)) → MatchPoll r (λ x. Finishes becomes stamp b at-finding ms c x) (FindsOn becomes stamp b at-finding ms c new) →
      MatchPoll r (λ x. Finishes becomes stamp b at-hung ms c x) (FindsOn becomes stamp b at-hung ms c new)
  found-hung c new (Ready (Ok stream)) h =
      let k = from-hung true c (record { dialogue = (rows_place stream).dialogue; reads = h.reads }) h.goes in
      record { reads = k.reads; goes = record { events = h.goes.events; became = h.goes.became; walked = k.walked }; finds = answered false c (Ok (known_of stream)) h.finds; left = h.left; taken = h.taken; begun = h.begun }
  found-hung c new (Ready (Err e)) h = λ rows. answered rows c (Err e) (h rows)
  found-hung c new Pending h = record { pauses = λ rows. waited rows c (stage_place rows new) (h.pauses rows); first = h.first; live = h.live }

-- ---- it is given up

-- where the request is left to be hung up
pub gives-up : {D : Type 0} {becomes : D → List Event → D → Type 0} {stamp : Stamp} {a b : D} (p : Place RowsGiven) → cleanup_of p.dialogue ≡ Release ∷ [] → (r : Result (Unit {0}) Error) →
    GoesToAnswer becomes stamp a (record { dialogue = HangUp (Answer (Ok tt)); reads = p.reads }) b r → GivesUp becomes stamp a p b r
gives-up {becomes = becomes} {stamp} {a} {b} p is r h = subst (λ (c : List Cleanup). GoesToAnswer becomes stamp a (record { dialogue = cleaning c; reads = p.reads }) b r) (sym is) h

-- ---- a stage that is polled

pub polls-stage : {D : Type 0} (becomes : D → List Event → D → Type 0) (stamp : Stamp) (a b : D) (old stage : Stage) → old ≡ stage → (new : Stage) (r : Poll (Result RowStream Error)) → Polls becomes stamp a (λ rows. stage_place rows stage) (stage_first stage) b new r →
    Polls becomes stamp a (λ rows. stage_place rows old) (stage_first old) b new r
polls-stage becomes stamp a b old stage is new r k = subst (λ (s : Stage). Polls becomes stamp a (λ rows. stage_place rows s) (stage_first s) b new r) (sym is) k

-- where nothing that came is left
pub reads-polls : {D : Type 0} (becomes : D → List Event → D → Type 0) (stamp : Stamp) (a b : D) (p : (rows : Bool) → Place (Asked rows)) (s : Heads) → s.batch ≡ [] → (new : Stage) (r : Poll (Result RowStream Error)) → Polls becomes stamp a p opens_first b new r →
    Polls becomes stamp a p (λ rest more. opens_first rest (s.batch ++ more)) b new r
reads-polls becomes stamp a b p s empty new r k = subst (λ (l : List RawMessage). Polls becomes stamp a p (λ rest more. opens_first rest (l ++ more)) b new r) (sym empty) k

-- ---- a state that is polled

module _ {P : Type 0} (of : P → Params) {D : Type 0} (becomes : D → List Event → D → Type 0) (stays : (a : D) → becomes a [] a) (joins : Joins becomes) (stamp : Stamp) (a b : D) (old : Option (TypedAsks P)) (stage : Stage) (asks : Option (TypedAsks P)) (new : Stage) (gone : asks ≡ None)
    (r : Poll (Result RowStream Error)) where
  -- what its poll comes to
  abbrev comes-so : Option (TypedAsks P) → Option (TypedAsks P) → Type 0
  comes-so x y =
      MatchPoll r (λ k. HandsOnLater becomes rows-stand IsBegun known_of is-whole stamp a (place_so of false x stage) (place_so of true x stage) (asked-by (place_so of true x stage) (first_so x stage)) b k)
      (PausesLater becomes stamp a (place_so of false x stage) (place_so of true x stage) (asked-by (place_so of true x stage) (first_so x stage)) is-whole b (place_so of false y new) (place_so of true y new) (asked-by (place_so of true y new) (first_so y new)) None × IsLiveSo y new)

  pub polls-asked : (t : TypedAsks P) → old ≡ Some t → Polls becomes stamp a (λ rows. place_so of rows (Some t) stage) opens_first b new r → comes-so old asks
  polls-asked t is k =
      subst (λ (x : Option (TypedAsks P)). comes-so x asks) (sym is)
      (subst (λ (y : Option (TypedAsks P)). comes-so (Some t) y) (sym gone) (later becomes stays joins stamp a b (λ rows. place_so of rows (Some t) stage) opens_first refl new r k))

  pub polls-goes : old ≡ None → IsLiveAt stage → Polls becomes stamp a (λ rows. stage_place rows stage) (stage_first stage) b new r → comes-so old asks
  polls-goes is live k =
      subst (λ (x : Option (TypedAsks P)). comes-so x asks) (sym is)
      (subst (λ (y : Option (TypedAsks P)). comes-so None y) (sym gone) (later becomes stays joins stamp a b (λ rows. stage_place rows stage) (stage_first stage) (nothing-came stage live) new r k))
