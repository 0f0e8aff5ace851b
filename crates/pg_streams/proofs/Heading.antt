-- What a message tells where the columns of a reply are read.
use Rattle.std.proofs.Common.{◌≡◌, List, [], ◌∷◌, ◌++◌, Bool, false, if◌then◌else◌, Option, Some, None, is_some, option_map, IfOk, Result, Ok, Err, refl, sym, ◌∙◌, ap, subst}
use Rattle.std.specs.declared.alloc.AllocError.{AllocError}
use Rattle.pg_spec.specs.Bodies.{Field}
use Rattle.pg_spec.specs.Faults as spec
use Rattle.pg_spec.specs.Messages.{Message, message_of}
use Rattle.pg_spec.specs.RawMessages.{RawMessage}
use Rattle.pg_spec.specs.Readings.{Next, GoesOn, Answers, decided_by, decision}
use Rattle.pg_spec.specs.declared.stamps.Stamp.{Stamp}
use Rattle.pg_desk.specs.declared.event.Event.{Event}
use Rattle.pg_desk.specs.declared.event.Event.TheVariants as call
use Rattle.pg_desk.specs.declared.event.Take.TheVariants as taking
use Rattle.pg_wire.specs.Backend.{Nexts, RefusedBy, RefusesFirst, TakesFirst}
use Rattle.pg_wire.specs.Faults.{wire_fault}
use Rattle.pg_wire.specs.Messages.{message_view}
use Rattle.pg_wire.specs.declared.message.Message.{Message as Wired}
use Rattle.pg_types.specs.declared.faults.WireFault.{WireFault}
use Rattle.pg_types.specs.declared.error.Error.{Error}
use Rattle.pg_query.specs.Dialogue.{Dialogue, Answer, HangUp, Read, feed, feed_one}
use Rattle.pg_query.specs.Meaning.{GoesToAnswer}
use Rattle.pg_query.specs.Reading.{ReadsOn as GoesByReading, ends, reads}
use Rattle.pg_query.specs.Scripts.{IsRead, cleanup_of}
use Rattle.pg_query.specs.declared.desk_call.Cleanup.TheVariants.{Release}
use Rattle.pg_core.specs.Behind.{behind}
use Rattle.pg_core.proofs.Fed.{feed-hang-up}
use Rattle.pg_core.specs.Sequences.{or_answer, then_do}
use Rattle.pg_execute.specs.Typed.{head, head_message, head_next}
use Rattle.pg_streams.specs.Families.{Family, GoesFor}
use Rattle.pg_streams.specs.Hearing.{First, Heard, first_told, told_or}
use Rattle.pg_streams.specs.declared.giving.Told.TheVariants.{Item, Fails}
use Rattle.pg_streams.proofs.Going.{Joins}
use Rattle.pg_streams.specs.Heads.{HeadComes, HeadReads, HeadTells, HeadWaits, IsRefusal, head_does, head_first, head_heard, heads, with_columns, with_error}
use Rattle.pg_streams.specs.Taking.{StopsReading}
use Rattle.pg_streams.specs.TypedRaw.{Asked}
use Rattle.pg_streams.specs.declared.heads.Heads.{Heads}
use Rattle.pg_streams.proofs.Takes.{batch-came, fed, no-more, none-came, plan-answers, plan-lacks}

-- ---- what is told

-- what is told by one message alone
abbrev telling : Next (Unit {0}) (Result (List Field) Error) → Option (Result (List Field) Error)
telling n = option_map (λ d. d.answer) (decided_by n (λ later. decision (λ s. None) head_next later []))

-- what is heard by that
abbrev heard-by : Option (Result (List Field) Error) → Heard (Unit {0}) (Unit {0})
heard-by None = record { told = None; giving = tt }
heard-by (Some (Ok fields)) = record { told = Some (Item tt); giving = tt }
heard-by (Some (Err e)) = record { told = Some (Fails e); giving = tt }

answered-by : (r : Result (List Field) Error) → head_does (Answers r) ≡ heard-by (Some r)
answered-by (Ok fields) = refl
answered-by (Err e) = refl

does-tell : (n : Next (Unit {0}) (Result (List Field) Error)) → head_does n ≡ heard-by (telling n)
does-tell (GoesOn u) = refl
does-tell (Answers r) = answered-by r

at-told : (raw : RawMessage) (told : Option (Result (List Field) Error)) → HeadTells raw told → telling (head_next tt raw) ≡ told
at-told raw (Some r) h = h
at-told raw None h = h.0

-- what a message tells is heard
heard-so : (raw : RawMessage) (told : Option (Result (List Field) Error)) → HeadTells raw told → head_heard tt raw ≡ heard-by told
heard-so raw told h = does-tell (head_next tt raw) ∙ ap heard-by (at-told raw told h)

-- a malformed message is an error
malformed-tells : (raw : RawMessage) (fault : spec.WireFault) → message_of raw ≡ Err fault → HeadTells raw (Some (Err (spec.Parse (spec.Wire fault))))
malformed-tells raw fault is =
    ap (λ (read : Result Message spec.WireFault). telling (elim read as (λ _. Next (Unit {0}) (Result (List Field) Error)) [ Ok m ↦ head_message m | Err f ↦ Answers (Err (spec.Parse (spec.Wire f))) ])) is

-- as the reading says it
pub told-so : {R : Type 0} (old new : R) (raw : RawMessage) (r : Result (Option (Result (List Field) Error)) AllocError) → IfOk r (λ told. GoesByReading (λ (x : R). head) old raw told new) → IfOk r (λ told. HeadTells raw told)
told-so old new raw (Ok (Some x)) h = h
told-so old new raw (Ok None) h = h
told-so old new raw (Err e) h = tt

-- ---- the dialogue

-- what is read
abbrev pub reading : {T : Type 0} → (List Field → Dialogue T) → Dialogue T
reading next = then_do (reads false head) next

-- what comes of what was told
abbrev behind-told : {T : Type 0} → (List Field → Dialogue T) → Option (Result (List Field) Error) → Dialogue T
behind-told next o = behind [] (ends false o) (or_answer next)

fed-by : {T : Type 0} (next : List Field → Dialogue T) (raw : RawMessage) (o : Option (Result (List Field) Error)) → head (raw ∷ []) ≡ o →
    feed_one raw (reading next) ≡ (if is_some o then behind-told next o else Read (Release ∷ []) (λ ms. is_some (head (raw ∷ ms))) (λ ms. behind-told next (head (raw ∷ ms))))
fed-by next raw o h = ap (λ (x : Option (Result (List Field) Error)).
    if is_some x then behind-told next x else Read (Release ∷ []) (λ ms. is_some (head (raw ∷ ms))) (λ ms. behind-told next (head (raw ∷ ms)))) h

fed-more : {T : Type 0} (next : List Field → Dialogue T) (raw : RawMessage) → HeadTells raw None → feed_one raw (reading next) ≡ reading next
fed-more next raw h = fed-by next raw None h.0 ∙ (λ i. Read (Release ∷ []) (λ ms. is_some (h.1 ms i)) (λ ms. behind-told next (h.1 ms i)))

-- ---- one message, by what it tells

module _ (old new : Heads) (raw : RawMessage) (rest : List RawMessage) (front : old.batch ≡ raw ∷ rest) (same : new.id ≡ old.id) where
  -- what it leads to
  led : {T : Type 0} (next : List Field → Dialogue T) (d : Dialogue T) → feed_one raw (reading next) ≡ d → feed rest d ≡ feed old.batch (reading next)
  led {T} next d is = sym (ap (λ (x : Dialogue T). feed rest x) is) ∙ sym (ap (λ (l : List RawMessage). feed l (reading next)) front)

  -- what is told first then
  first-by : (h : Heard (Unit {0}) (Unit {0})) → head_heard tt raw ≡ h → (more : List RawMessage) → told_or h.told h.giving (rest ++ more) (first_told head_heard h.giving (rest ++ more)) ≡ head_first (old.batch ++ more)
  first-by h is more =
      sym (ap (λ (x : Heard (Unit {0}) (Unit {0})). told_or x.told x.giving (rest ++ more) (first_told head_heard x.giving (rest ++ more))) is)
      ∙ sym (ap (λ (l : List RawMessage). head_first (l ++ more)) front)

  -- nothing yet
  pub none-told : new.batch ≡ rest → HeadTells raw None → (rows : Bool) → heads rows new ≡ heads rows old
  none-told left h rows =
      let d : (next : List Field → Dialogue (Asked rows)) → feed new.batch (reading next) ≡ feed old.batch (reading next) =
      λ next. ap (λ (l : List RawMessage). feed l (reading next)) left ∙ led next (reading next) (fed-more next raw h) in
      let f : (more : List RawMessage) → head_first (new.batch ++ more) ≡ head_first (old.batch ++ more) =
      λ more. ap (λ (l : List RawMessage). head_first (l ++ more)) left ∙ first-by (heard-by None) (heard-so raw None h) more in
      λ i. record { place = λ next. record { dialogue = d next i; reads = same i }; first = λ more. f more i }

  -- the columns
  pub columns-told : new.batch ≡ rest → (fields : List Field) → HeadTells raw (Some (Ok fields)) → (rows : Bool) → with_columns rows fields new ≡ heads rows old
  columns-told left fields h rows =
      let d : (next : List Field → Dialogue (Asked rows)) → feed new.batch (next fields) ≡ feed old.batch (reading next) =
      λ next. ap (λ (l : List RawMessage). feed l (next fields)) left ∙ led next (next fields) (fed-by next raw (Some (Ok fields)) h) in
      let f : (more : List RawMessage) → (let x : First (Unit {0}) (Unit {0}) = record { told = Some (Item tt); giving = tt; left = new.batch ++ more } in x) ≡ head_first (old.batch ++ more) =
      λ more. ap (λ (l : List RawMessage). let x : First (Unit {0}) (Unit {0}) = record { told = Some (Item tt); giving = tt; left = l ++ more } in x) left ∙ first-by (heard-by (Some (Ok fields))) (heard-so raw (Some (Ok fields)) h) more in
      λ i. record { place = λ next. record { dialogue = d next i; reads = same i }; first = λ more. f more i }

  -- an error
  pub error-told : (e : Error) → HeadTells raw (Some (Err e)) → (rows : Bool) → with_error rows e new ≡ heads rows old
  error-told e h rows =
      let d : (next : List Field → Dialogue (Asked rows)) → (let x : Dialogue (Asked rows) = HangUp (Answer (Err e)) in x) ≡ feed old.batch (reading next) =
      λ next. sym (feed-hang-up rest (Answer (Err e))) ∙ led next (HangUp (Answer (Err e))) (fed-by next raw (Some (Err e)) h) in
      λ i. record { place = λ next. record { dialogue = d next i; reads = same i }; first = λ more. first-by (heard-by (Some (Err e))) (heard-so raw (Some (Err e)) h) more i }

  -- what it tells
  pub some-told : new.batch ≡ rest → (r : Result (List Field) Error) → HeadTells raw (Some r) → HeadReads old new (Ok (Some r))
  some-told left (Ok fields) h = columns-told left fields h
  some-told left (Err e) h = error-told e h

-- ---- the loop, by what was taken off

module _ (begin s new : Heads) (same : new.id ≡ s.id) (so : (rows : Bool) → heads rows s ≡ heads rows begin) where
  -- none is left
  pub all-read : (o : Option Wired) → o ≡ None → Nexts s.batch new.batch (Ok o) → HeadReads begin new (Ok None)
  all-read o is h =
      let none : (s.batch ≡ []) × (new.batch ≡ []) = subst (λ (x : Option Wired). Nexts s.batch new.batch (Ok x)) is h in
      let batch : new.batch ≡ s.batch = none.1 ∙ sym none.0 in
      let here : (rows : Bool) → heads rows new ≡ heads rows s = λ rows i. record { place = λ next. record { dialogue = feed (batch i) (reading next); reads = same i }; first = λ more. head_first (batch i ++ more) } in (
        λ rows. here rows ∙ so rows,
        none.1,
      )

  -- the message that was taken off
  taken : (o : Option Wired) (m : Wired) → o ≡ Some m → Nexts s.batch new.batch (Ok o) → TakesFirst s.batch new.batch m
  taken o m is h = subst (λ (x : Option Wired). Nexts s.batch new.batch (Ok x)) is h

  -- what is told, where it was the answer before
  at-begin : (r : Result (List Field) Error) → HeadReads s new (Ok (Some r)) → HeadReads begin new (Ok (Some r))
  at-begin (Ok fields) h = λ rows. h rows ∙ so rows
  at-begin (Err e) h = λ rows. h rows ∙ so rows

  pub one-told : (o : Option Wired) (m : Wired) → o ≡ Some m → Nexts s.batch new.batch (Ok o) → (t : Option (Result (List Field) Error)) (r : Result (List Field) Error) → t ≡ Some r →
      ((raw : RawMessage) → message_of raw ≡ Ok (message_view m) → HeadTells raw t) → HeadReads begin new (Ok (Some r))
  one-told o m is h t r told-is tells =
      let k = taken o m is h in
      at-begin r (some-told s new k.raw new.batch k.front same refl r (subst (λ (x : Option (Result (List Field) Error)). HeadTells k.raw x) told-is (tells k.raw k.means)))

  pub more-told : (o : Option Wired) (m : Wired) → o ≡ Some m → Nexts s.batch new.batch (Ok o) → (t : Option (Result (List Field) Error)) → t ≡ None →
      ((raw : RawMessage) → message_of raw ≡ Ok (message_view m) → HeadTells raw t) → (rows : Bool) → heads rows new ≡ heads rows begin
  more-told o m is h t told-is tells rows =
      let k = taken o m is h in
      none-told s new k.raw new.batch k.front same refl (subst (λ (x : Option (Result (List Field) Error)). HeadTells k.raw x) told-is (tells k.raw k.means)) rows ∙ so rows

  -- a malformed one
  pub fault-told : (fault : WireFault) (e : Error) → IsRefusal fault (Ok e) → RefusedBy s.batch new.batch (wire_fault fault) → HeadReads begin new (Ok (Some (Err e)))
  fault-told fault e is h rows =
      let k : RefusesFirst s.batch new.batch is.0 = subst (λ (x : Option spec.WireFault). RefusedBy s.batch new.batch x) is.1 h in
      let error = spec.Parse (spec.Wire is.0) in
      subst (λ (x : Error). with_error rows x new ≡ heads rows begin) (sym is.2) (error-told s new k.raw k.rest k.front same error (malformed-tells k.raw is.0 k.means) rows ∙ so rows)

-- ---- where a message is awaited

-- nothing is left, so one is read
pub head-reads : {T : Type 0} (s : Heads) → s.batch ≡ [] → (next : List Field → Dialogue T) → IsRead (feed s.batch (reading next))
head-reads s empty next = subst (λ (l : List RawMessage). IsRead (feed l (reading next))) (sym empty) tt

-- and the request is left to be hung up
pub head-left : {T : Type 0} (s : Heads) → s.batch ≡ [] → (next : List Field → Dialogue T) → cleanup_of (feed s.batch (reading next)) ≡ Release ∷ []
head-left s empty next = ap (λ (l : List RawMessage). cleanup_of (feed l (reading next))) empty

-- and nothing is told
pub head-silent : (s : Heads) → s.batch ≡ [] → (head_first (s.batch ++ [])).told ≡ None
head-silent s empty = ap (λ (l : List RawMessage). (head_first (l ++ [])).told) empty

-- ---- polls

-- a batch that came is read next
head-refilled : (rows : Bool) (s next : Heads) (ms : List RawMessage) → s.batch ≡ [] → next ≡ record s { batch = ms } → fed ms (heads rows s) ≡ heads rows next
head-refilled rows s next ms empty is =
    let d : (after : List Field → Dialogue (Asked rows)) → feed ms (feed s.batch (reading after)) ≡ feed ms (reading after) = λ after. ap (λ (l : List RawMessage). feed ms (feed l (reading after))) empty in
    let f : (more : List RawMessage) → head_first (s.batch ++ (ms ++ more)) ≡ head_first (ms ++ more) = λ more. ap (λ (l : List RawMessage). head_first (l ++ (ms ++ more))) empty in
    let here : fed ms (heads rows s) ≡ heads rows (record s { batch = ms }) = λ i. record { place = λ after. record { dialogue = d after i; reads = s.id }; first = λ more. f more i } in
    here ∙ ap (λ (x : Heads). heads rows x) (sym is)

module _ {D : Type 0} {becomes : D → List Event → D → Type 0} {stamp : Stamp} {a b : D} (begin s t : Heads) (goes : (rows : Bool) → GoesFor becomes stamp a (heads rows begin) b (heads rows s)) where
  -- the columns came
  pub to-columns : (o : Option (Result (List Field) Error)) (x : Result (List Field) Error) (fields : List Field) → o ≡ Some x → x ≡ Ok fields → HeadReads s t (Ok o) → HeadComes becomes stamp a begin b t (Ok fields)
  to-columns o x fields is-some is-ok h rows =
      let both : o ≡ Some (Ok fields) = is-some ∙ ap (λ (y : Result (List Field) Error). let q : Option (Result (List Field) Error) = Some y in q) is-ok in
      let k : HeadReads s t (Ok (Some (Ok fields))) = subst (λ (q : Option (Result (List Field) Error)). HeadReads s t (Ok q)) both h in
      subst (λ (p : Family _ _ _ _). GoesFor becomes stamp a (heads rows begin) b p) (sym (k rows)) (goes rows)

  -- an error came, behind which the request was hung up
  pub to-error : Joins becomes → (o : Option (Result (List Field) Error)) (x : Result (List Field) Error) (e : Error) → o ≡ Some x → x ≡ Err e → HeadReads s t (Ok o) → (c : D) (given : Error) →
      ((rows : Bool) → GoesToAnswer {T = Asked rows} becomes stamp b (record { dialogue = HangUp (Answer (Err e)); reads = t.id }) c (Err given)) → HeadComes becomes stamp a begin c t (Err given)
  to-error joins o x e is-some is-err h c given hung rows next =
      let both : o ≡ Some (Err e) = is-some ∙ ap (λ (y : Result (List Field) Error). let q : Option (Result (List Field) Error) = Some y in q) is-err in
      let k : HeadReads s t (Ok (Some (Err e))) = subst (λ (q : Option (Result (List Field) Error)). HeadReads s t (Ok q)) both h in
      let there : GoesFor becomes stamp a (heads rows begin) b (with_error rows e t) = subst (λ (p : Family _ _ _ _). GoesFor becomes stamp a (heads rows begin) b p) (sym (k rows)) (goes rows) in
      plan-answers there next joins c (Err given) (hung rows)

  -- memory lacked
  pub to-lack : (e : Error) → HeadReads s t (Err e) → HeadComes becomes stamp a begin b t (Err e)
  to-lack e is rows next = plan-lacks (goes rows) next e is

  -- all that came was read
  pub to-read : (o : Option (Result (List Field) Error)) → o ≡ None → HeadReads s t (Ok o) → ((rows : Bool) → GoesFor becomes stamp a (heads rows begin) b (heads rows t)) × (t.batch ≡ [])
  to-read o is h =
      let k : HeadReads s t (Ok None) = subst (λ (q : Option (Result (List Field) Error)). HeadReads s t (Ok q)) is h in
      (λ rows. subst (λ (p : Family _ _ _ _). GoesFor becomes stamp a (heads rows begin) b p) (sym (k.0 rows)) (goes rows), k.1)

module _ {D : Type 0} {becomes : D → List Event → D → Type 0} (joins : Joins becomes) {stamp : Stamp} {a b : D} (begin t : Heads) (out : ((rows : Bool) → GoesFor becomes stamp a (heads rows begin) b (heads rows t)) × (t.batch ≡ [])) where
  -- a batch came
  pub head-batch : (c : D) (ms : List RawMessage) → becomes b (call.Take t.id (Ok (taking.Batch ms)) ∷ []) c → (next : Heads) → next ≡ record t { batch = ms } → (rows : Bool) → GoesFor becomes stamp a (heads rows begin) c (heads rows next)
  head-batch c ms ev next is rows =
      subst (λ (p : Family _ _ _ _). GoesFor becomes stamp a (heads rows begin) c p) (head-refilled rows t next ms out.1 is)
      (batch-came joins (out.0 rows) t.id (head-reads t out.1) (λ plan. refl) (head-silent t out.1) c ms ev)

  -- none came yet
  pub head-none : (c : D) → becomes b (call.Take t.id (Ok taking.Empty) ∷ []) c → HeadWaits becomes stamp a begin c t
  head-none c ev = record { pauses = λ rows. none-came joins (out.0 rows) t.id (head-reads t out.1) (λ plan. refl) (head-silent t out.1) c ev; empty = out.1 }

  -- no more comes
  pub head-stops : (c : D) (e : Error) → StopsReading becomes b t.id c e → HeadComes becomes stamp a begin c t (Err e)
  head-stops c e s rows next = no-more joins (out.0 rows) t.id (head-reads t out.1) (λ plan. refl) c e s (s.walked rows) next
