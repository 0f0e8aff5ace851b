-- What a part of a typed query wants, hears and reads, in the whole.
use Rattle.std.proofs.Common.{◌≡◌, ◌+◌, ◌^◌, ℕ, List, Option, Some, false, Result, Ok, Err, IfOk, refl, sym, ◌∙◌, ap, subst}
use Rattle.std.specs.declared.alloc.AllocError.{AllocError}
use Rattle.pg_spec.specs.Bodies.{Field}
use Rattle.pg_spec.specs.RawMessages.{RawMessage}
use Rattle.pg_types.specs.declared.pg_type.PgType.{PgType}
use Rattle.pg_types.specs.declared.error.Error.{Error}
use Rattle.pg_types.specs.Texts.{sql_text}
use Rattle.pg_query.specs.Reading.{reads}
use Rattle.pg_query.specs.Dialogue.{Dialogue, Answer, feed_one}
use Rattle.pg_query.specs.Scripts.{Falls, GoesOn, IsMessage, IsReply, Waiting, cleanup_of, heard, waiting_at}
use Rattle.pg_query.specs.SingleRequests.{refuses_of, steps_of}
use Rattle.pg_query.specs.declared.desk_call.Cleanup.{Cleanup}
use Rattle.pg_query.specs.declared.desk_call.Reply.{Reply}
use Rattle.pg_query.specs.declared.script.Want.{Want}
use Rattle.pg_query.specs.declared.script.Want.TheVariants as want
use Rattle.pg_query.specs.declared.single_request.SingleRequest.{SingleRequest}
use Rattle.pg_core.specs.Sequences.{then_do}
use Rattle.pg_core.specs.Composing.{asks_for}
use Rattle.pg_execute.specs.Knowing.{knows_at, knows_refuses, knows_steps, knows_waits}
use Rattle.pg_execute.specs.Parameters.{Params}
use Rattle.pg_execute.specs.Passing.{Passes}
use Rattle.pg_execute.specs.Reads.{reads_refuses}
use Rattle.pg_execute.specs.Rests.{rest_at, rest_refuses}
use Rattle.pg_execute.specs.Typed.{behind_head, head, query_typed, typed_request}
use Rattle.pg_execute.specs.TypedQueries.{FindFalls, FindWants, HeadFalls, HeadWants, KnowFalls, KnowWants, QueryGoes, RestFalls, RestWants, after_find, after_head, after_know, after_rest, begun, find_with, head_at, head_most, head_with, know_most, know_with, makes, or_closed, or_none, query_at, query_refuses, query_steps, query_waits, rest_most, rest_with, rows_at, unwritten}
use Rattle.pg_execute.specs.Types.{types_in}
use Rattle.pg_execute.specs.Typing.{by_known, finds_typed}
use Rattle.pg_execute.specs.declared.got.Got.{Got}
use Rattle.pg_execute.specs.declared.head_reading.HeadReading.{HeadReading}
use Rattle.pg_execute.specs.declared.how_many.HowMany.{HowMany}
use Rattle.pg_execute.specs.declared.knows_all.KnowsAll.{KnowsAll}
use Rattle.pg_execute.specs.declared.make.WholeRows.{WholeRows}
use Rattle.pg_execute.specs.declared.query_typed.QueryTyped.{QueryTyped}
use Rattle.pg_execute.specs.declared.query_typed.QueryTyped.TheVariants.{Begins, Finds, Heads, Knows, Rests, Rows, Spent}
use Rattle.pg_execute.specs.declared.reads_on.ReadsOn.{ReadsOn}
use Rattle.pg_execute.specs.declared.result_set.ResultSet.{ResultSet}
use Rattle.pg_execute.specs.declared.rows_reading.RowsReading.{RowsReading}
use Rattle.pg_execute.specs.declared.takes_rest.TakesRest.{TakesRest}
use Rattle.pg_execute.specs.declared.typed_requests.Unwritten.{Unwritten}
use Rattle.pg_execute.proofs.PassingOn.{falls-more, goes-as, passes-falls, passes-on, passes-all, stage-heard, stage-left, stage-message, stage-passes, stage-reply}

module _ {F S P : Type 0} (finds : F → List ℕ → Dialogue (List PgType)) (searches : S → Dialogue (List PgType)) (refuses : S → Error → Dialogue (List PgType)) (waits : (s : S) → Waiting (searches s)) (given : P → Params) where
  abbrev Goes : Dialogue ResultSet → Want ResultSet → QueryTyped F S P → Type 0
  Goes d w s = QueryGoes finds searches refuses waits given d w s

  -- what the reading of the columns wants but a value, the whole wants
  pub head-passes : (s : QueryTyped F S P) (d : Dialogue (List Field)) (w : Want (List Field)) (v : Want ResultSet) → Passes w v → HeadWants d w s → Goes (head_with finds s d) v s
  head-passes (Begins a b c) x w v p h = absurd h
  head-passes (Heads a how finder) d w v p h = stage-passes head_at refuses_of (λ one. waiting_at (head_at one)) (behind_head (finds finder) how) (query_at finds searches given) (query_refuses finds refuses) (query_waits finds searches waits given) a (Heads a how finder) refl refl (λ x. x) (λ x. x) d w v p h
  head-passes (Knows a b c d) x w v p h = absurd h
  head-passes (Rows a) x w v p h = absurd h
  head-passes (Rests a b c) x w v p h = absurd h
  head-passes (Finds a b c) x w v p h = absurd h
  head-passes Spent x w v p h = absurd h

  -- a message for it
  pub head-message : (s : QueryTyped F S P) {a : SingleRequest HeadReading (List Field)} {how : HowMany} {finder : F} → s ≡ Heads a how finder → (m : RawMessage) → IsMessage (query_waits finds searches waits given s) → (w : Want (List Field)) (new : SingleRequest HeadReading (List Field)) →
      (IsMessage (waiting_at (head_at a)) → GoesOn head_at refuses_of (λ one. waiting_at (head_at one)) (feed_one m (head_at a)) w new) → (r : Result (Want ResultSet) AllocError) (t : QueryTyped F S P) →
      ((d : Dialogue (List Field)) → HeadWants {F = F} {S = S} {P = P} d w (Heads new how finder) → IfOk r (λ v. Goes (then_do d (behind_head (finds finder) how)) v t)) → IfOk r (λ v. Goes (feed_one m (query_at finds searches given s)) v t)
  head-message s {a} {how} {finder} e m h w new g r t went =
      stage-message head_at refuses_of (λ one. waiting_at (head_at one)) (behind_head (finds finder) how) (query_at finds searches given) (query_refuses finds refuses) (query_waits finds searches waits given) s (Heads a how finder) a e refl (λ x. x) m h w new g (λ (d : Dialogue ResultSet). IfOk r (λ v. Goes d v t)) went

  -- what is left to do
  pub head-left : (Q : List Cleanup → Type 0) (s : QueryTyped F S P) {a : SingleRequest HeadReading (List Field)} {how : HowMany} {finder : F} → s ≡ Heads a how finder → (IsMessage (waiting_at (head_at a)) → Q (cleanup_of (head_at a))) →
      IsMessage (query_waits finds searches waits given s) → Q (cleanup_of (query_at finds searches given s))
  head-left Q s {a} {how} {finder} e g h = stage-left head_at refuses_of (λ one. waiting_at (head_at one)) (behind_head (finds finder) how) (query_at finds searches given) (query_refuses finds refuses) (query_waits finds searches waits given) s (Heads a how finder) a e refl (λ x. x) Q g h

  -- what the asking for types wants but a value, the whole wants
  pub know-passes : (s : QueryTyped F S P) (d : Dialogue (Option (List PgType))) (w : Want (Option (List PgType))) (v : Want ResultSet) → Passes w v → KnowWants d w s → Goes (know_with finds s d) v s
  know-passes (Begins a b c) x w v p h = absurd h
  know-passes (Heads a b c) x w v p h = absurd h
  know-passes (Knows a how columns finder) d w v p h = stage-passes knows_at knows_refuses knows_waits (by_known (finds finder) how columns) (query_at finds searches given) (query_refuses finds refuses) (query_waits finds searches waits given) a (Knows a how columns finder) refl refl (λ x. x) (λ x. x) d w v p h
  know-passes (Rows a) x w v p h = absurd h
  know-passes (Rests a b c) x w v p h = absurd h
  know-passes (Finds a b c) x w v p h = absurd h
  know-passes Spent x w v p h = absurd h

  -- a reply for it
  pub know-reply : (s : QueryTyped F S P) {a : KnowsAll} {how : HowMany} {columns : List Field} {finder : F} → s ≡ Knows a how columns finder → (m : Reply) → IsReply (query_waits finds searches waits given s) → (w : Want (Option (List PgType))) (new : KnowsAll) →
      (IsReply (knows_waits a) → GoesOn knows_at knows_refuses knows_waits (heard m (knows_at a)) w new) → (r : Result (Want ResultSet) AllocError) (t : QueryTyped F S P) →
      ((d : Dialogue (Option (List PgType))) → KnowWants {F = F} {S = S} {P = P} d w (Knows new how columns finder) → IfOk r (λ v. Goes (then_do d (by_known (finds finder) how columns)) v t)) → IfOk r (λ v. Goes (heard m (query_at finds searches given s)) v t)
  know-reply s {a} {how} {columns} {finder} e m h w new g r t went =
      stage-reply knows_at knows_refuses knows_waits (by_known (finds finder) how columns) (query_at finds searches given) (query_refuses finds refuses) (query_waits finds searches waits given) s (Knows a how columns finder) a e refl (λ x. x) m h w new g (λ (d : Dialogue ResultSet). IfOk r (λ v. Goes d v t)) went

  pub know-heard : (s : QueryTyped F S P) {a : KnowsAll} {how : HowMany} {columns : List Field} {finder : F} → s ≡ Knows a how columns finder → IsReply (query_waits finds searches waits given s) → IsReply (knows_waits a)
  know-heard s {a} {how} {columns} {finder} e h = stage-heard knows_at knows_refuses knows_waits (by_known (finds finder) how columns) (query_at finds searches given) (query_refuses finds refuses) (query_waits finds searches waits given) s (Knows a how columns finder) a e (λ x. x) h

  -- what the taking of the rest wants but a value, the whole wants
  pub rest-passes : (s : QueryTyped F S P) (d : Dialogue (Result Got Error)) (w : Want (Result Got Error)) (v : Want ResultSet) → Passes w v → RestWants d w s → Goes (rest_with finds s d) v s
  rest-passes (Begins a b c) x w v p h = absurd h
  rest-passes (Heads a b c) x w v p h = absurd h
  rest-passes (Knows a b c d) x w v p h = absurd h
  rest-passes (Rows a) x w v p h = absurd h
  rest-passes (Rests a columns finder) d w v p h = stage-passes rest_at rest_refuses (λ s. waiting_at (rest_at s)) (finds_typed (finds finder) columns) (query_at finds searches given) (query_refuses finds refuses) (query_waits finds searches waits given) a (Rests a columns finder) refl refl (λ x. x) (λ x. x) d w v p h
  rest-passes (Finds a b c) x w v p h = absurd h
  rest-passes Spent x w v p h = absurd h

  -- a message for it
  pub rest-message : (s : QueryTyped F S P) {a : TakesRest} {columns : List Field} {finder : F} → s ≡ Rests a columns finder → (m : RawMessage) → IsMessage (query_waits finds searches waits given s) → (w : Want (Result Got Error)) (new : TakesRest) →
      (IsMessage (waiting_at (rest_at a)) → GoesOn rest_at rest_refuses (λ s. waiting_at (rest_at s)) (feed_one m (rest_at a)) w new) → (r : Result (Want ResultSet) AllocError) (t : QueryTyped F S P) →
      ((d : Dialogue (Result Got Error)) → RestWants {F = F} {S = S} {P = P} d w (Rests new columns finder) → IfOk r (λ v. Goes (then_do d (finds_typed (finds finder) columns)) v t)) → IfOk r (λ v. Goes (feed_one m (query_at finds searches given s)) v t)
  rest-message s {a} {columns} {finder} e m h w new g r t went =
      stage-message rest_at rest_refuses (λ s. waiting_at (rest_at s)) (finds_typed (finds finder) columns) (query_at finds searches given) (query_refuses finds refuses) (query_waits finds searches waits given) s (Rests a columns finder) a e refl (λ x. x) m h w new g (λ (d : Dialogue ResultSet). IfOk r (λ v. Goes d v t)) went

  -- what is left to do
  pub rest-left : (Q : List Cleanup → Type 0) (s : QueryTyped F S P) {a : TakesRest} {columns : List Field} {finder : F} → s ≡ Rests a columns finder → (IsMessage (waiting_at (rest_at a)) → Q (cleanup_of (rest_at a))) →
      IsMessage (query_waits finds searches waits given s) → Q (cleanup_of (query_at finds searches given s))
  rest-left Q s {a} {columns} {finder} e g h = stage-left rest_at rest_refuses (λ s. waiting_at (rest_at s)) (finds_typed (finds finder) columns) (query_at finds searches given) (query_refuses finds refuses) (query_waits finds searches waits given) s (Rests a columns finder) a e refl (λ x. x) Q g h

  -- what the search wants but a value, the whole wants
  pub find-passes : (s : QueryTyped F S P) (d : Dialogue (List PgType)) (w : Want (List PgType)) (v : Want ResultSet) → Passes w v → FindWants searches refuses waits d w s → Goes (find_with s d) v s
  find-passes (Begins a b c) x w v p h = absurd h
  find-passes (Heads a b c) x w v p h = absurd h
  find-passes (Knows a b c d) x w v p h = absurd h
  find-passes (Rows a) x w v p h = absurd h
  find-passes (Rests a b c) x w v p h = absurd h
  find-passes (Finds a columns told) d w v p h = stage-passes searches refuses waits (makes columns told) (query_at finds searches given) (query_refuses finds refuses) (query_waits finds searches waits given) a (Finds a columns told) refl refl (λ x. x) (λ x. x) d w v p h
  find-passes Spent x w v p h = absurd h

  -- a message for it
  pub find-message : (s : QueryTyped F S P) {a : S} {columns : List Field} {told : Result Got Error} → s ≡ Finds a columns told → (m : RawMessage) → IsMessage (query_waits finds searches waits given s) → (w : Want (List PgType)) (new : S) →
      (IsMessage (waits a) → GoesOn searches refuses waits (feed_one m (searches a)) w new) → (r : Result (Want ResultSet) AllocError) (t : QueryTyped F S P) →
      ((d : Dialogue (List PgType)) → FindWants {F = F} {S = S} {P = P} searches refuses waits d w (Finds new columns told) → IfOk r (λ v. Goes (then_do d (makes columns told)) v t)) → IfOk r (λ v. Goes (feed_one m (query_at finds searches given s)) v t)
  find-message s {a} {columns} {told} e m h w new g r t went =
      stage-message searches refuses waits (makes columns told) (query_at finds searches given) (query_refuses finds refuses) (query_waits finds searches waits given) s (Finds a columns told) a e refl (λ x. x) m h w new g (λ (d : Dialogue ResultSet). IfOk r (λ v. Goes d v t)) went

  -- a reply for it
  pub find-reply : (s : QueryTyped F S P) {a : S} {columns : List Field} {told : Result Got Error} → s ≡ Finds a columns told → (m : Reply) → IsReply (query_waits finds searches waits given s) → (w : Want (List PgType)) (new : S) →
      (IsReply (waits a) → GoesOn searches refuses waits (heard m (searches a)) w new) → (r : Result (Want ResultSet) AllocError) (t : QueryTyped F S P) →
      ((d : Dialogue (List PgType)) → FindWants {F = F} {S = S} {P = P} searches refuses waits d w (Finds new columns told) → IfOk r (λ v. Goes (then_do d (makes columns told)) v t)) → IfOk r (λ v. Goes (heard m (query_at finds searches given s)) v t)
  find-reply s {a} {columns} {told} e m h w new g r t went =
      stage-reply searches refuses waits (makes columns told) (query_at finds searches given) (query_refuses finds refuses) (query_waits finds searches waits given) s (Finds a columns told) a e refl (λ x. x) m h w new g (λ (d : Dialogue ResultSet). IfOk r (λ v. Goes d v t)) went

  pub find-heard : (s : QueryTyped F S P) {a : S} {columns : List Field} {told : Result Got Error} → s ≡ Finds a columns told → IsReply (query_waits finds searches waits given s) → IsReply (waits a)
  find-heard s {a} {columns} {told} e h = stage-heard searches refuses waits (makes columns told) (query_at finds searches given) (query_refuses finds refuses) (query_waits finds searches waits given) s (Finds a columns told) a e (λ x. x) h

  -- what is left to do
  pub find-left : (Q : List Cleanup → Type 0) (s : QueryTyped F S P) {a : S} {columns : List Field} {told : Result Got Error} → s ≡ Finds a columns told → (IsMessage (waits a) → Q (cleanup_of (searches a))) →
      IsMessage (query_waits finds searches waits given s) → Q (cleanup_of (query_at finds searches given s))
  find-left Q s {a} {columns} {told} e g h = stage-left searches refuses waits (makes columns told) (query_at finds searches given) (query_refuses finds refuses) (query_waits finds searches waits given) s (Finds a columns told) a e refl (λ x. x) Q g h

  -- ---- the whole

  -- it stands at the same
  pub goes-at : (d q : Dialogue ResultSet) → d ≡ q → (r : Result (Want ResultSet) AllocError) (t : QueryTyped F S P) → IfOk r (λ v. Goes d v t) → IfOk r (λ v. Goes q v t)
  goes-at d q e r t g = subst (λ (x : Dialogue ResultSet). IfOk r (λ v. Goes x v t)) e g

  pub next-at : (s x : QueryTyped F S P) → s ≡ x → (r : Result (Want ResultSet) AllocError) (t : QueryTyped F S P) → IfOk r (λ v. Goes (query_at finds searches given x) v t) → IfOk r (λ v. Goes (query_at finds searches given s) v t)
  next-at s x e r t g = subst (λ (y : QueryTyped F S P). IfOk r (λ v. Goes (query_at finds searches given y) v t)) (sym e) g

  pub refused-at : (s x : QueryTyped F S P) → s ≡ x → (error : Error) (r : Result (Want ResultSet) AllocError) (t : QueryTyped F S P) →
      IfOk r (λ v. Goes (query_refuses finds refuses x error) v t) → IfOk r (λ v. Goes (query_refuses finds refuses s error) v t)
  refused-at s x e error r t g = subst (λ (y : QueryTyped F S P). IfOk r (λ v. Goes (query_refuses finds refuses y error) v t)) (sym e) g

  -- the request is written
  pub begun-at : (s old : QueryTyped F S P) → old ≡ s → {request : Unwritten P} {how : HowMany} {finder : F} → unwritten old ≡ Some (request, how, finder) → (written : Result (List ℕ) Error) →
      written ≡ typed_request (sql_text request.text) (types_in request.types) (given request.values) → (r : Result (Want ResultSet) AllocError) (t : QueryTyped F S P) →
      IfOk r (λ v. Goes (asks_for written (then_do (reads false head) (behind_head (finds finder) how))) v t) → IfOk r (λ v. Goes (begun finds given s) v t)
  begun-at s old same {request} {how} {finder} e written is r t g =
      goes-at (asks_for written (then_do (reads false head) (behind_head (finds finder) how))) (begun finds given s)
      (ap (λ (x : Result (List ℕ) Error). asks_for x (then_do (reads false head) (behind_head (finds finder) how))) is
      ∙ sym (ap (λ (o : Option (Unwritten P × HowMany × F)). or_closed (λ (k : Unwritten P × HowMany × F). query_typed (finds k.2) k.1 (sql_text k.0.text) (types_in k.0.types) (given k.0.values)) o) (ap (λ (x : QueryTyped F S P). unwritten x) (sym same) ∙ e))) r t g

  -- the rows are read on
  pub rows-go : (new : ReadsOn (RowsReading WholeRows)) (d q : Dialogue ResultSet) → d ≡ q → (w : Want ResultSet) → GoesOn rows_at reads_refuses (λ s. waiting_at (rows_at s)) d w new → Goes q w (Rows new)
  rows-go new d q e w h = goes-as rows_at reads_refuses (λ s. waiting_at (rows_at s)) (query_at finds searches given) (query_refuses finds refuses) (query_waits finds searches waits given) new (Rows new) refl refl (λ x. x) (λ x. x) q w (subst (λ (x : Dialogue ResultSet). GoesOn rows_at reads_refuses (λ s. waiting_at (rows_at s)) x w new) e h)

  rows-ok : (d : Dialogue ResultSet) (r : Result (Want ResultSet) AllocError) (new : ReadsOn (RowsReading WholeRows)) → IfOk r (λ w. GoesOn rows_at reads_refuses (λ s. waiting_at (rows_at s)) d w new) → IfOk r (λ w. Goes d w (Rows new))
  rows-ok d (Ok w) new h = rows-go new d d refl w h
  rows-ok d (Err e) new h = tt

  -- a message for them, and what becomes of it
  pub rows-message : (s : QueryTyped F S P) {a : ReadsOn (RowsReading WholeRows)} → s ≡ Rows a → (m : RawMessage) (r : Result (Want ResultSet) AllocError) (new : ReadsOn (RowsReading WholeRows)) →
      (IsMessage (waiting_at (rows_at a)) → IfOk r (λ w. GoesOn rows_at reads_refuses (λ s. waiting_at (rows_at s)) (feed_one m (rows_at a)) w new)) →
      IsMessage (query_waits finds searches waits given s) → IfOk r (λ w. Goes (feed_one m (query_at finds searches given s)) w (Rows new))
  rows-message s {a} e m r new g =
      subst (λ (x : QueryTyped F S P). IsMessage (query_waits finds searches waits given x) → IfOk r (λ w. Goes (feed_one m (query_at finds searches given x)) w (Rows new))) (sym e) (λ h. rows-ok (feed_one m (rows_at a)) r new (g h))

  -- what is left to do
  pub rows-left : (Q : List Cleanup → Type 0) (s : QueryTyped F S P) {a : ReadsOn (RowsReading WholeRows)} → s ≡ Rows a → (IsMessage (waiting_at (rows_at a)) → Q (cleanup_of (rows_at a))) →
      IsMessage (query_waits finds searches waits given s) → Q (cleanup_of (query_at finds searches given s))
  rows-left Q s {a} e g = subst (λ (x : QueryTyped F S P). IsMessage (query_waits finds searches waits given x) → Q (cleanup_of (query_at finds searches given x))) (sym e) g

-- ---- steps

module _ {F S P : Type 0} (most : F → ℕ) (steps : S → ℕ) where
  pub steps-at : (s x : QueryTyped F S P) → s ≡ x → (k : ℕ) (r : Result (Want ResultSet) AllocError) → IfOk r (λ v. Falls v (query_steps most steps x) k) → IfOk r (λ v. Falls v (query_steps most steps s) k)
  steps-at s x e k r g = subst (λ (y : QueryTyped F S P). IfOk r (λ v. Falls v (query_steps most steps y) k)) (sym e) g
