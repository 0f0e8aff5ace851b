-- The rest of a reply that is taken, up to its end.
use Rattle.std.proofs.Common.{◌≡◌, ℕ, List, [], ◌∷◌, ◌++◌, Bool, true, false, ◌||◌, if◌then◌else◌, Option, Some, None, is_some, option_map, Result, Ok, Err, refl, sym, ◌∙◌, ap, subst, append_assoc}
use Rattle.std.proofs.lemmas.List.{append-nil}
use Rattle.pg_spec.specs.Faults as spec
use Rattle.pg_spec.specs.Messages as message
use Rattle.pg_spec.specs.Messages.{message_of}
use Rattle.pg_spec.specs.RawMessages.{RawMessage}
use Rattle.pg_spec.specs.Readings.{Next, GoesOn, Answers, Decision, decided_by, decision, one_later}
use Rattle.pg_spec.specs.declared.stamps.Stamp.{Stamp}
use Rattle.pg_desk.specs.declared.event.Event.{Event}
use Rattle.pg_desk.specs.declared.event.Event.TheVariants as call
use Rattle.pg_desk.specs.declared.event.Take.TheVariants as taking
use Rattle.pg_wire.specs.Backend.{Nexts, RefusedBy, TakesFirst}
use Rattle.pg_wire.specs.Messages.{message_view}
use Rattle.pg_wire.specs.declared.message.Message.{Message as Wired}
use Rattle.pg_types.specs.declared.error.Error.{Error}
use Rattle.pg_types.specs.declared.error.Error.TheVariants.{OutOfMemory}
use Rattle.pg_query.specs.Dialogue.{Dialogue, Answer, HangUp, Read, feed}
use Rattle.pg_query.specs.Reading.{ends, reads}
use Rattle.pg_query.specs.Replies.{malformed_error}
use Rattle.pg_query.specs.Scripts.{IsRead, cleanup_of}
use Rattle.pg_query.specs.declared.desk_call.Cleanup.{Cleanup}
use Rattle.pg_query.specs.declared.desk_call.Cleanup.TheVariants.{Release}
use Rattle.pg_core.proofs.Fed.{feed-answer, feed-hang-up, feed-joined}
use Rattle.pg_core.specs.QueryReplies.{Said, Fails, query_said, said_by, told_by}
use Rattle.pg_execute.specs.Rows.{rows_by, rows_read}
use Rattle.pg_execute.specs.Typed.{ends_reply, has_ended, is_end, told_or}
use Rattle.pg_execute.specs.declared.got.Got.{Got}
use Rattle.pg_execute.specs.declared.how_many.HowMany.{HowMany}
use Rattle.pg_streams.specs.Brought.{collected, joined}
use Rattle.pg_streams.specs.Families.{Family, GoesFor}
use Rattle.pg_streams.specs.Hearing.{First}
use Rattle.pg_streams.specs.RowStreams.{RowsGiven}
use Rattle.pg_streams.specs.declared.giving.Told.TheVariants.{Item}
use Rattle.pg_streams.proofs.Going.{Joins}
use Rattle.pg_streams.specs.Rests.{Adds, IsRest, RestComes, RestWaits, came, rest_first, rests, takes_so}
use Rattle.pg_streams.specs.Taking.{StopsReading}
use Rattle.pg_streams.specs.TypedRaw.{Asked}
use Rattle.pg_streams.specs.declared.rests.Rest.{Rest}
use Rattle.pg_streams.proofs.Takes.{batch-came, fed, no-more, none-came, plan-lacks}

-- ---- batches

-- one batch more
pub joined-more : (batches : List (List RawMessage)) (ms : List RawMessage) → joined (batches ++ ms ∷ []) ≡ joined batches ++ ms
joined-more [] ms = append-nil ms
joined-more (b ∷ batches) ms = ap (λ (l : List RawMessage). b ++ l) (joined-more batches ms) ∙ sym (append_assoc b (joined batches) ms)

-- they end the reply where one of them does
pub ended-more : (xs ys : List RawMessage) → has_ended (xs ++ ys) ≡ (has_ended xs || has_ended ys)
ended-more [] ys = refl
ended-more (m ∷ xs) ys = by (is_end m) (ended-more xs ys)
  where
    by : (b : Bool) → has_ended (xs ++ ys) ≡ (has_ended xs || has_ended ys) → (b || has_ended (xs ++ ys)) ≡ ((b || has_ended xs) || has_ended ys)
    by true h = refl
    by false h = h

-- ---- messages that are looked at

-- none is left
pub none-ends : (old new : List RawMessage) (o : Option Wired) → o ≡ None → Nexts old new (Ok o) → has_ended old ≡ false
none-ends old new o is h =
    let none : (old ≡ []) × (new ≡ []) = subst (λ (x : Option Wired). Nexts old new (Ok x)) is h in
    ap has_ended none.0

-- the first was taken off
pub one-ends : (old new : List RawMessage) (o : Option Wired) (m : Wired) → o ≡ Some m → Nexts old new (Ok o) → has_ended old ≡ (ends_reply (message_view m) || has_ended new)
one-ends old new o m is h =
    let k : TakesFirst old new m = subst (λ (x : Option Wired). Nexts old new (Ok x)) is h in
    ap has_ended k.front
    ∙ ap (λ (read : Result message.Message spec.WireFault). (elim read as (λ _. Bool) [ Ok m ↦ ends_reply m | Err fault ↦ true ]) || has_ended new) k.means

-- it is malformed
pub fault-ends : (old new : List RawMessage) (fault : Option spec.WireFault) (e : Error) → Some e ≡ malformed_error fault → RefusedBy old new fault → has_ended old ≡ true
fault-ends old new None e is h = absurd cc
fault-ends old new (Some c) e is k =
    ap has_ended k.front
    ∙ ap (λ (read : Result message.Message spec.WireFault). (elim read as (λ _. Bool) [ Ok m ↦ ends_reply m | Err fault ↦ true ]) || has_ended k.rest) k.means

-- ---- the rest hasn't ended

-- by whether a message ends it
unended-by : {T : Type 0} (cleanup : List Cleanup) (m : RawMessage) (ms : List RawMessage) (next : List RawMessage → Dialogue T) (b : Bool) → is_end m ≡ b → (b || has_ended ms) ≡ false →
    (has_ended ms ≡ false → feed ms (Read cleanup has_ended (λ l. next (m ∷ l))) ≡ Read cleanup (λ l. has_ended (ms ++ l)) (λ l. next (m ∷ (ms ++ l)))) →
    feed (m ∷ ms) (Read cleanup has_ended next) ≡ Read cleanup (λ l. has_ended ((m ∷ ms) ++ l)) (λ l. next ((m ∷ ms) ++ l))
unended-by cleanup m ms next true e h more = absurd cc
unended-by {T} cleanup m ms next false e h more =
    ap (λ (b : Bool). feed ms (if b || false then next (m ∷ []) else Read cleanup (λ l. b || has_ended l) (λ l. next (m ∷ l)))) e
    ∙ more h
    ∙ ap (λ (b : Bool). let d : Dialogue T = Read cleanup (λ l. b || has_ended (ms ++ l)) (λ l. next (m ∷ (ms ++ l))) in d) (sym e)

pub unended : {T : Type 0} (cleanup : List Cleanup) (ms : List RawMessage) (next : List RawMessage → Dialogue T) → has_ended ms ≡ false →
    feed ms (Read cleanup has_ended next) ≡ Read cleanup (λ l. has_ended (ms ++ l)) (λ l. next (ms ++ l))
unended cleanup [] next h = refl
unended cleanup (m ∷ ms) next h = unended-by cleanup m ms next (is_end m) refl h (unended cleanup ms (λ l. next (m ∷ l)))

-- it has: the request is hung up, whatever was taken; by whether a message ends it
alone-by : {T : Type 0} (d : Dialogue T) (m : RawMessage) (ms : List RawMessage) (b : Bool) → is_end m ≡ b → (b || has_ended ms) ≡ true → (has_ended ms ≡ true → feed ms (Read (Release ∷ []) has_ended (λ taken. HangUp d)) ≡ HangUp d) →
    feed (m ∷ ms) (let x : Dialogue T = Read (Release ∷ []) has_ended (λ taken. HangUp d) in x) ≡ HangUp d
alone-by {T} d m ms true e h more =
    ap (λ (b : Bool). feed ms (let x : Dialogue T = if b || false then HangUp d else Read (Release ∷ []) (λ l. b || has_ended l) (λ l. HangUp d) in x)) e
    ∙ feed-hang-up ms d
alone-by {T} d m ms false e h more =
    ap (λ (b : Bool). feed ms (let x : Dialogue T = if b || false then HangUp d else Read (Release ∷ []) (λ l. b || has_ended l) (λ l. HangUp d) in x)) e
    ∙ more h

-- so it is
pub ended-alone : {T : Type 0} (d : Dialogue T) (ms : List RawMessage) → has_ended ms ≡ true → feed ms (Read (Release ∷ []) has_ended (λ taken. HangUp d)) ≡ HangUp d
ended-alone d [] h = absurd cc
ended-alone d (m ∷ ms) h = alone-by d m ms (is_end m) refl h (ended-alone d ms)

-- a message is read there
pub rest-reads : {T : Type 0} (s : Rest) → has_ended (came s) ≡ false → (next : List RawMessage → Dialogue T) → IsRead (feed (came s) (takes_so next))
rest-reads {T} s on next = subst (λ (d : Dialogue T). IsRead d) (sym (unended (Release ∷ []) (came s) (λ taken. HangUp (next taken)) on)) tt

-- and the request is left to be hung up
pub rest-left : {T : Type 0} (s : Rest) → has_ended (came s) ≡ false → (next : List RawMessage → Dialogue T) → cleanup_of (feed (came s) (takes_so next)) ≡ Release ∷ []
rest-left {T} s on next = ap (λ (d : Dialogue T). cleanup_of d) (unended (Release ∷ []) (came s) (λ taken. HangUp (next taken)) on)

-- nothing is told there
pub rest-silent : (s : Rest) → has_ended (came s) ≡ false → (rest_first (came s ++ [])).told ≡ None
rest-silent s on =
    ap (λ (l : List RawMessage). (rest_first l).told) (append-nil (came s))
    ∙ ap (λ (b : Bool). (let f : First (Unit {0}) (Unit {0}) = if b then record { told = Some (Item tt); giving = tt; left = came s } else record { told = None; giving = tt; left = [] } in f).told) on

-- messages that came behind it
pub rest-fed : (rows : Bool) (old new : Rest) (ms : List RawMessage) → came new ≡ came old ++ ms → new.id ≡ old.id → rests rows new ≡ fed ms (rests rows old)
rest-fed rows old new ms is same =
    let d : (next : List RawMessage → Dialogue (Asked rows)) → feed (came new) (takes_so next) ≡ feed ms (feed (came old) (takes_so next)) =
    λ next. ap (λ (l : List RawMessage). feed l (takes_so next)) is ∙ feed-joined (came old) ms (takes_so next) in
    let f : (more : List RawMessage) → rest_first (came new ++ more) ≡ rest_first (came old ++ (ms ++ more)) =
    λ more. ap (λ (l : List RawMessage). rest_first (l ++ more)) is ∙ ap rest_first (append_assoc (came old) ms more) in
    λ i. record { place = λ next. record { dialogue = d next i; reads = same i }; first = λ more. f more i }

-- ---- what is told of it

-- what was told stays
abbrev pub IsSteady : (List RawMessage → Option (Result RowsGiven Error)) → Type 0
IsSteady R = (pre : List RawMessage) (m : RawMessage) (r : Result RowsGiven Error) → R (pre ++ m ∷ []) ≡ Some r → (ms : List RawMessage) → R (pre ++ m ∷ ms) ≡ Some r

-- something is told at the end of the reply
abbrev pub TellsAtEnd : (List RawMessage → Option (Result RowsGiven Error)) → Type 0
TellsAtEnd R = (pre : List RawMessage) (m : RawMessage) → is_end m ≡ true → (r : Result RowsGiven Error) × (R (pre ++ m ∷ []) ≡ Some r)

-- what one has who collects, behind the answer
ended-so : (ms : List RawMessage) (r : Result RowsGiven Error) → collected (feed ms (ends false (Some r))) ≡ r
ended-so ms (Ok x) = ap collected (feed-answer ms (Ok x))
ended-so ms (Err e) = ap collected (feed-hang-up ms (Answer (Err e)))

-- the next message, by what it tells
fed-so : (R : List RawMessage → Option (Result RowsGiven Error)) (m : RawMessage) (ms : List RawMessage) (o : Option (Result RowsGiven Error)) → R (m ∷ []) ≡ o →
    collected (feed (m ∷ ms) (reads false R)) ≡ collected (feed ms (if is_some o then ends false o else reads false (λ l. R (m ∷ l))))
fed-so R m ms o is = ap (λ (x : Option (Result RowsGiven Error)). collected (feed ms (if is_some x then ends false x else reads false (λ l. R (m ∷ l))))) is

-- where the first message told it, all behind it tell the same
told-before : (R : List RawMessage → Option (Result RowsGiven Error)) (r : Result RowsGiven Error) → ((l : List RawMessage) → R l ≡ Some r) → (ms : List RawMessage) → has_ended ms ≡ true → collected (feed ms (reads false R)) ≡ r
told-before R r always [] h = absurd cc
told-before R r always (m ∷ ms) h = fed-so R m ms (Some r) (always (m ∷ [])) ∙ ended-so ms r

module _ {X : Type 0} (G : (X → Result RowsGiven Error) → Dialogue RowsGiven) where
  -- what was taken is read
  abbrev reads-taken : (X → List RawMessage → Option (Result RowsGiven Error)) → List RawMessage → Dialogue RowsGiven
  reads-taken R taken = G (λ x. told_or (R x taken))

  module _ (R : X → List RawMessage → Option (Result RowsGiven Error)) (steady : (x : X) → IsSteady (R x)) (tells : (x : X) → TellsAtEnd (R x)) (m : RawMessage) (ms : List RawMessage) where
    -- what stands behind the message
    behind-one : (b : Bool) → is_end m ≡ b → feed (m ∷ ms) (takes_so (reads-taken R)) ≡ feed ms (if b || false then HangUp (reads-taken R (m ∷ [])) else Read (Release ∷ []) (λ l. b || has_ended l) (λ l. HangUp (reads-taken R (m ∷ l))))
    behind-one b e = ap (λ (b : Bool). feed ms (if b || false then HangUp (reads-taken R (m ∷ [])) else Read (Release ∷ []) (λ l. b || has_ended l) (λ l. HangUp (reads-taken R (m ∷ l))))) e

    -- it was the last
    at-end : is_end m ≡ true → (x : X) → told_or (R x (m ∷ [])) ≡ collected (feed (m ∷ ms) (reads false (R x)))
    at-end e x =
        let t = tells x [] m e in
        ap (λ (o : Option (Result RowsGiven Error)). told_or o) t.1 ∙ sym (fed-so (R x) m ms (Some t.0) t.1 ∙ ended-so ms t.0)

    -- it wasn't, and what is told is told by it or by the others
    before-end : (x : X) (o : Option (Result RowsGiven Error)) → R x (m ∷ []) ≡ o → has_ended ms ≡ true → collected (feed ms (reads false (λ l. R x (m ∷ l)))) ≡ collected (feed (m ∷ ms) (reads false (R x)))
    before-end x None is h = sym (fed-so (R x) m ms None is)
    before-end x (Some r) is h = told-before (λ l. R x (m ∷ l)) r (λ l. steady x [] m r is l) ms h ∙ sym (fed-so (R x) m ms (Some r) is ∙ ended-so ms r)

    -- by whether the message ends it
    ended-by : (b : Bool) → is_end m ≡ b → (b || has_ended ms) ≡ true →
        (has_ended ms ≡ true → feed ms (takes_so (reads-taken (λ x l. R x (m ∷ l)))) ≡ HangUp (G (λ x. collected (feed ms (reads false (λ l. R x (m ∷ l))))))) →
        feed (m ∷ ms) (takes_so (reads-taken R)) ≡ HangUp (G (λ x. collected (feed (m ∷ ms) (reads false (R x)))))
    ended-by true e h more = behind-one true e ∙ feed-hang-up ms (reads-taken R (m ∷ [])) ∙ (λ i. HangUp (G (λ x. at-end e x i)))
    ended-by false e h more = behind-one false e ∙ more h ∙ (λ i. HangUp (G (λ x. before-end x (R x (m ∷ [])) refl h i)))

  -- it has ended: the request is hung up, and what was taken is as it is collected
  pub ended : (R : X → List RawMessage → Option (Result RowsGiven Error)) → ((x : X) → IsSteady (R x)) → ((x : X) → TellsAtEnd (R x)) → (ms : List RawMessage) → has_ended ms ≡ true →
      feed ms (takes_so (reads-taken R)) ≡ HangUp (G (λ x. collected (feed ms (reads false (R x)))))
  ended R steady tells [] h = absurd cc
  ended R steady tells (m ∷ ms) h = ended-by R steady tells m ms (is_end m) refl h (ended (λ x l. R x (m ∷ l)) (λ x pre. steady x (m ∷ pre)) (λ x pre. tells x (m ∷ pre)) ms)

-- ---- rows are so

-- a decision is the same one message later
later-same : {A : Type 0} (d : Option (Decision A)) → option_map (λ d. d.answer) (option_map one_later d) ≡ option_map (λ d. d.answer) d
later-same None = refl
later-same (Some d) = refl

module _ {S A : Type 0} (next : S → RawMessage → Next S (Result A Error)) where
  -- what is told behind what a message does
  abbrev told-behind : Next S (Result A Error) → List RawMessage → Option (Result A Error)
  told-behind n ms = option_map (λ d. d.answer) (decided_by n (λ later. decision (λ s. None) next later ms))

  steady-by : (xs ys : List RawMessage) (r : Result A Error) (n : Next S (Result A Error)) → ((later : S) → told_by next later xs ≡ Some r → told_by next later ys ≡ Some r) → told-behind n xs ≡ Some r → told-behind n ys ≡ Some r
  steady-by xs ys r (Answers x) more h = h
  steady-by xs ys r (GoesOn later) more h = later-same (decision (λ s. None) next later ys) ∙ more later (sym (later-same (decision (λ s. None) next later xs)) ∙ h)

  pub told-steady : (state : S) (pre : List RawMessage) (m : RawMessage) (r : Result A Error) → told_by next state (pre ++ m ∷ []) ≡ Some r → (ms : List RawMessage) → told_by next state (pre ++ m ∷ ms) ≡ Some r
  told-steady state [] m r h ms = by (next state m) h
    where
      by : (n : Next S (Result A Error)) → told-behind n [] ≡ Some r → told-behind n ms ≡ Some r
      by (Answers x) h = h
      by (GoesOn later) h = absurd cc
  told-steady state (p ∷ pre) m r h ms = steady-by (pre ++ m ∷ []) (pre ++ m ∷ ms) r (next state p) (λ later told. told-steady later pre m r told ms) h

  at-by : (xs : List RawMessage) (n : Next S (Result A Error)) → ((later : S) → (r : Result A Error) × (told_by next later xs ≡ Some r)) → (r : Result A Error) × (told-behind n xs ≡ Some r)
  at-by xs (Answers x) more = (x, refl)
  at-by xs (GoesOn later) more = let k = more later in (k.0, later-same (decision (λ s. None) next later xs) ∙ k.1)

  -- something is told where a message answers in each state
  pub told-at : (m : RawMessage) → ((state : S) → (r : Result A Error) × (next state m ≡ Answers r)) → (state : S) (pre : List RawMessage) → (r : Result A Error) × (told_by next state (pre ++ m ∷ []) ≡ Some r)
  told-at m answers state [] = let k = answers state in (k.0, ap (λ (n : Next S (Result A Error)). told-behind n []) k.1)
  told-at m answers state (p ∷ pre) = at-by (pre ++ m ∷ []) (next state p) (λ later. told-at m answers later pre)

module _ {A : Type 0} (how : HowMany) (columns : ℕ) (makes : Got → Result A Error) where
  -- what a message does
  abbrev does : Got → RawMessage → Next Got (Result A Error)
  does g raw = rows_by how makes g (said_by g.bound columns raw)

  -- one that ends the reply answers
  ends-so : (g : Got) (bound : Bool) (m : message.Message) → ends_reply m ≡ true → (r : Result A Error) × (rows_by how makes g (query_said bound columns m) ≡ Answers r)
  ends-so g bound (message.ErrorResponse fields) h = (_, refl)
  ends-so g true (message.ReadyForQuery status) h = (_, refl)
  ends-so g false (message.ReadyForQuery status) h = (_, refl)
  ends-so g bound other h = absurd cc

  answers-at-end : (m : RawMessage) → is_end m ≡ true → (g : Got) → (r : Result A Error) × (does g m ≡ Answers r)
  answers-at-end m h g = by (message_of m) h
    where
      by : (read : Result message.Message spec.WireFault) → (elim read [ Ok m ↦ ends_reply m | Err fault ↦ true ]) ≡ true →
          (r : Result A Error) × (rows_by how makes g (elim read as (λ _. Said) [ Ok m ↦ query_said g.bound columns m | Err fault ↦ Fails (spec.Parse (spec.Wire fault)) ]) ≡ Answers r)
      by (Ok m) h = ends-so g g.bound m h
      by (Err fault) h = (_, refl)

  pub rows-told : (g : Got) (pre : List RawMessage) (m : RawMessage) → is_end m ≡ true → (r : Result A Error) × (rows_read how columns makes g (pre ++ m ∷ []) ≡ Some r)
  rows-told g pre m h = told-at does m (answers-at-end m h) g pre

  pub rows-steady : (g : Got) (pre : List RawMessage) (m : RawMessage) (r : Result A Error) → rows_read how columns makes g (pre ++ m ∷ []) ≡ Some r → (ms : List RawMessage) → rows_read how columns makes g (pre ++ m ∷ ms) ≡ Some r
  rows-steady g pre m r h ms = told-steady does g pre m r h ms

-- ---- one batch more is kept

pub added : (old : Rest) (ms : List RawMessage) (new : Rest) (ended : Bool) → new.batches.items ≡ old.batches.items ++ ms ∷ [] → ended ≡ has_ended ms → new.ended ≡ (old.ended || ended) → new.id ≡ old.id → Adds old ms new
added old ms new ended items so is same =
    let messages : came new ≡ came old ++ ms = ap joined items ∙ joined-more old.batches.items ms in
    record {
      messages = messages;
      id = same;
      is = λ was. is ∙ (λ i. was i || so i) ∙ sym (ended-more (came old) ms) ∙ sym (ap has_ended messages);
    }

-- ---- polls

module _ {D : Type 0} {becomes : D → List Event → D → Type 0} (joins : Joins becomes) {stamp : Stamp} {a b : D} (begin s : Rest) (goes : (rows : Bool) → GoesFor becomes stamp a (rests rows begin) b (rests rows s)) (on : has_ended (came s) ≡ false) where
  -- a batch came, which is kept or not
  came-more : (c : D) (ms : List RawMessage) → becomes b (call.Take s.id (Ok (taking.Batch ms)) ∷ []) c → (rows : Bool) → GoesFor becomes stamp a (rests rows begin) c (fed ms (rests rows s))
  came-more c ms ev rows = batch-came joins (goes rows) s.id (rest-reads s on) (λ plan. refl) (rest-silent s on) c ms ev

  pub rest-batch : (c : D) (ms : List RawMessage) → becomes b (call.Take s.id (Ok (taking.Batch ms)) ∷ []) c → (next : Rest) → Adds s ms next → (rows : Bool) → GoesFor becomes stamp a (rests rows begin) c (rests rows next)
  rest-batch c ms ev next adds rows = subst (λ (p : Family _ _ _ _). GoesFor becomes stamp a (rests rows begin) c p) (sym (rest-fed rows s next ms adds.messages adds.id)) (came-more c ms ev rows)

  pub rest-lacks : (c : D) (ms : List RawMessage) → becomes b (call.Take s.id (Ok (taking.Batch ms)) ∷ []) c → (new : Rest) (e : Error) → e ≡ OutOfMemory → RestComes becomes stamp a begin c new (Err e)
  rest-lacks c ms ev new e is rows next = plan-lacks (came-more c ms ev rows) next e is

  -- none came yet
  pub rest-none : (c : D) → IsRest s → becomes b (call.Take s.id (Ok taking.Empty) ∷ []) c → RestWaits becomes stamp a begin c s
  rest-none c is ev = record { pauses = λ rows. none-came joins (goes rows) s.id (rest-reads s on) (λ plan. refl) (rest-silent s on) c ev; is = is; on = on }

  -- no more comes
  pub rest-stops : (c : D) (new : Rest) (e : Error) → StopsReading becomes b s.id c e → RestComes becomes stamp a begin c new (Err e)
  rest-stops c new e stops rows next = no-more joins (goes rows) s.id (rest-reads s on) (λ plan. refl) c e stops (stops.walked rows) next
