-- Scripts that ask the catalog, inside a search.
use Rattle.std.proofs.Common.{◌≡◌, ◌≤◌, ◌+◌, ◌*◌, ℕ, List, [], Result, Ok, Err, IfOk, refl, sym, ◌∙◌, ap, subst, arith}
use Rattle.pg_spec.specs.RawMessages.{RawMessage}
use Rattle.pg_types.specs.declared.pg_type.PgType.{PgType}
use Rattle.pg_types.specs.declared.error.Error.{Error}
use Rattle.pg_query.specs.declared.desk_call.Reply.{Reply}
use Rattle.pg_query.specs.declared.script.Want.{Want}
use Rattle.pg_query.specs.declared.script.Want.TheVariants as want
use Rattle.pg_query.specs.declared.script.Action.{Action}
use Rattle.pg_query.specs.Dialogue.{Dialogue, feed_one}
use Rattle.pg_query.specs.Scripts.{Waiting, IsMessage, IsReply, Falls, GoesOn, heard}
use Rattle.pg_core.specs.Behind.{behind}
use Rattle.pg_core.specs.Lookups.{TypeRow, FieldRows}
use Rattle.pg_search.specs.declared.stack.Stack.{Stack}
use Rattle.pg_search.specs.declared.search.Job.{Job}
use Rattle.pg_search.specs.declared.search.Job.TheVariants as job
use Rattle.pg_search.specs.declared.search.SearchBy.{SearchBy}
use Rattle.pg_search.specs.Stacks.{row_goes, labels_goes, fields_goes}
use Rattle.pg_search.specs.Steps.{most_fields, finding_steps, row_steps, stack_steps, more_over}
use Rattle.pg_search.specs.Searching.{Searched, job_dialogue, job_waits, job_steps, search_dialogue, search_refuses, search_waits}
use Rattle.pg_search.proofs.Inside.{acts-held, reads-held, fed-inside, heard-inside, message-inside, reply-inside}

-- what a search that holds a script wants
module _ {A R L F : Type 0} (rd : R → Dialogue TypeRow) (rr : R → Error → Dialogue TypeRow) (rk : (r : R) → Waiting (rd r))
    (ld : L → Dialogue (List (List ℕ))) (lr : L → Error → Dialogue (List (List ℕ))) (lk : (l : L) → Waiting (ld l))
    (fd : F → Dialogue FieldRows) (fr : F → Error → Dialogue FieldRows) (fk : (f : F) → Waiting (fd f)) where
  pub row-acts : (a : A) (st : Stack) (oid : ℕ) (script : R) (d : Dialogue TypeRow) (w : Want TypeRow) (x : Action) → w ≡ want.Act x → GoesOn rd rr rk d w script →
      Searched rd rr rk ld lr lk fd fr fk (behind [] d (row_goes st oid)) (want.Act x) (record { asker = a; stack = st; job = job.Row oid script })
  row-acts a st oid script d w x e g = acts-held rd rr rk (search_dialogue rd ld fd) (search_refuses rr lr fr) (search_waits rd rk ld lk fd fk) script (row_goes st oid) (record { asker = a; stack = st; job = job.Row oid script }) (record { stands = refl; denied = refl; waiting = λ h. h; hears = λ h. h }) d x (subst (λ (y : Want TypeRow). GoesOn rd rr rk d y script) e g)

  pub row-reads : (a : A) (st : Stack) (oid : ℕ) (script : R) (d : Dialogue TypeRow) (w : Want TypeRow) → w ≡ want.Read → GoesOn rd rr rk d w script →
      Searched rd rr rk ld lr lk fd fr fk (behind [] d (row_goes st oid)) want.Read (record { asker = a; stack = st; job = job.Row oid script })
  row-reads a st oid script d w e g = reads-held rd rr rk (search_dialogue rd ld fd) (search_refuses rr lr fr) (search_waits rd rk ld lk fd fk) script (row_goes st oid) (record { asker = a; stack = st; job = job.Row oid script }) (record { stands = refl; denied = refl; waiting = λ h. h; hears = λ h. h }) d (subst (λ (y : Want TypeRow). GoesOn rd rr rk d y script) e g)

  pub labels-acts : (a : A) (st : Stack) (oid : ℕ) (row : TypeRow) (script : L) (d : Dialogue (List (List ℕ))) (w : Want (List (List ℕ))) (x : Action) → w ≡ want.Act x → GoesOn ld lr lk d w script →
      Searched rd rr rk ld lr lk fd fr fk (behind [] d (labels_goes st oid row)) (want.Act x) (record { asker = a; stack = st; job = job.Labels oid row script })
  labels-acts a st oid row script d w x e g = acts-held ld lr lk (search_dialogue rd ld fd) (search_refuses rr lr fr) (search_waits rd rk ld lk fd fk) script (labels_goes st oid row) (record { asker = a; stack = st; job = job.Labels oid row script }) (record { stands = refl; denied = refl; waiting = λ h. h; hears = λ h. h }) d x (subst (λ (y : Want (List (List ℕ))). GoesOn ld lr lk d y script) e g)

  pub labels-reads : (a : A) (st : Stack) (oid : ℕ) (row : TypeRow) (script : L) (d : Dialogue (List (List ℕ))) (w : Want (List (List ℕ))) → w ≡ want.Read → GoesOn ld lr lk d w script →
      Searched rd rr rk ld lr lk fd fr fk (behind [] d (labels_goes st oid row)) want.Read (record { asker = a; stack = st; job = job.Labels oid row script })
  labels-reads a st oid row script d w e g = reads-held ld lr lk (search_dialogue rd ld fd) (search_refuses rr lr fr) (search_waits rd rk ld lk fd fk) script (labels_goes st oid row) (record { asker = a; stack = st; job = job.Labels oid row script }) (record { stands = refl; denied = refl; waiting = λ h. h; hears = λ h. h }) d (subst (λ (y : Want (List (List ℕ))). GoesOn ld lr lk d y script) e g)

  pub fields-acts : (a : A) (st : Stack) (oid : ℕ) (row : TypeRow) (script : F) (d : Dialogue FieldRows) (w : Want FieldRows) (x : Action) → w ≡ want.Act x → GoesOn fd fr fk d w script →
      Searched rd rr rk ld lr lk fd fr fk (behind [] d (fields_goes st oid row)) (want.Act x) (record { asker = a; stack = st; job = job.Fields oid row script })
  fields-acts a st oid row script d w x e g = acts-held fd fr fk (search_dialogue rd ld fd) (search_refuses rr lr fr) (search_waits rd rk ld lk fd fk) script (fields_goes st oid row) (record { asker = a; stack = st; job = job.Fields oid row script }) (record { stands = refl; denied = refl; waiting = λ h. h; hears = λ h. h }) d x (subst (λ (y : Want FieldRows). GoesOn fd fr fk d y script) e g)

  pub fields-reads : (a : A) (st : Stack) (oid : ℕ) (row : TypeRow) (script : F) (d : Dialogue FieldRows) (w : Want FieldRows) → w ≡ want.Read → GoesOn fd fr fk d w script →
      Searched rd rr rk ld lr lk fd fr fk (behind [] d (fields_goes st oid row)) want.Read (record { asker = a; stack = st; job = job.Fields oid row script })
  fields-reads a st oid row script d w e g = reads-held fd fr fk (search_dialogue rd ld fd) (search_refuses rr lr fr) (search_waits rd rk ld lk fd fk) script (fields_goes st oid row) (record { asker = a; stack = st; job = job.Fields oid row script }) (record { stands = refl; denied = refl; waiting = λ h. h; hears = λ h. h }) d (subst (λ (y : Want FieldRows). GoesOn fd fr fk d y script) e g)

  pub moved : (w : Want (List PgType)) (new : SearchBy A R L F) (a b : Dialogue (List PgType)) → a ≡ b → Searched rd rr rk ld lr lk fd fr fk a w new → Searched rd rr rk ld lr lk fd fr fk b w new
  moved w new a b e g = record { is = g.is ∙ e; wanted = g.wanted }

  pub moved-ok : {E : Type 0} (r : Result (Want (List PgType)) E) (new : SearchBy A R L F) (a b : Dialogue (List PgType)) → a ≡ b → IfOk r (λ w. Searched rd rr rk ld lr lk fd fr fk a w new) → IfOk r (λ w. Searched rd rr rk ld lr lk fd fr fk b w new)
  moved-ok (Ok w) new a b e g = moved w new a b e g
  moved-ok (Err x) new a b e g = tt

-- what such a script answers, reads and hears
module _ {R L F : Type 0} (rd : R → Dialogue TypeRow) (rr : R → Error → Dialogue TypeRow) (rk : (r : R) → Waiting (rd r))
    (ld : L → Dialogue (List (List ℕ))) (lr : L → Error → Dialogue (List (List ℕ))) (lk : (l : L) → Waiting (ld l))
    (fd : F → Dialogue FieldRows) (fr : F → Error → Dialogue FieldRows) (fk : (f : F) → Waiting (fd f)) where
  pub row-answers : (st : Stack) (oid : ℕ) (script : R) (d : Dialogue TypeRow) (w : Want TypeRow) (x y : Result TypeRow Error) → w ≡ want.Answer x → x ≡ y → GoesOn rd rr rk d w script → row_goes st oid y ≡ behind [] d (row_goes st oid)
  row-answers st oid script d w x y e e' g =
      ap (λ (c : Dialogue TypeRow). behind [] c (row_goes st oid)) (subst (λ (y : Want TypeRow). GoesOn rd rr rk d y script) (e ∙ ap want.Answer e') g).is

  pub row-fed : (st : Stack) (oid : ℕ) (script : R) (j : Job R L F) → j ≡ job.Row oid script → (m : RawMessage) → IsMessage (job_waits rd rk ld lk fd fk st j) → (Q : Dialogue (List PgType) → Type 0) →
      (IsMessage (rk script) → Q (behind [] (feed_one m (rd script)) (row_goes st oid))) → Q (feed_one m (job_dialogue rd ld fd st j))
  row-fed st oid script j e m h Q k =
      subst (λ (x : Job R L F). IsMessage (job_waits rd rk ld lk fd fk st x) → Q (feed_one m (job_dialogue rd ld fd st x))) (sym e)
      (λ h. subst Q (sym (fed-inside (row_goes st oid) m (rd script) (rk script) h)) (k (message-inside (row_goes st oid) (rd script) (rk script) h))) h

  pub row-heard : (st : Stack) (oid : ℕ) (script : R) (j : Job R L F) → j ≡ job.Row oid script → (m : Reply) → IsReply (job_waits rd rk ld lk fd fk st j) → (Q : Dialogue (List PgType) → Type 0) →
      (IsReply (rk script) → Q (behind [] (heard m (rd script)) (row_goes st oid))) → Q (heard m (job_dialogue rd ld fd st j))
  row-heard st oid script j e m h Q k =
      subst (λ (x : Job R L F). IsReply (job_waits rd rk ld lk fd fk st x) → Q (heard m (job_dialogue rd ld fd st x))) (sym e)
      (λ h. subst Q (sym (heard-inside (row_goes st oid) m (rd script) (rk script) h)) (k (reply-inside (row_goes st oid) (rd script) (rk script) h))) h

  pub row-heard-steps : (most : ℕ) (rs : R → ℕ) (ls : L → ℕ) (fs : F → ℕ) (st : Stack) (oid : ℕ) (script : R) (j : Job R L F) → j ≡ job.Row oid script → IsReply (job_waits rd rk ld lk fd fk st j) → (Q : ℕ → Type 0) →
      (IsReply (rk script) → Q (rs script + (row_steps most (more_over st) + stack_steps most st))) → Q (job_steps most rs ls fs st j)
  row-heard-steps most rs ls fs st oid script j e h Q k =
      subst (λ (x : Job R L F). IsReply (job_waits rd rk ld lk fd fk st x) → Q (job_steps most rs ls fs st x)) (sym e)
      (λ h. k (reply-inside (row_goes st oid) (rd script) (rk script) h)) h

  pub labels-answers : (st : Stack) (oid : ℕ) (row : TypeRow) (script : L) (d : Dialogue (List (List ℕ))) (w : Want (List (List ℕ))) (x y : Result (List (List ℕ)) Error) → w ≡ want.Answer x → x ≡ y → GoesOn ld lr lk d w script → labels_goes st oid row y ≡ behind [] d (labels_goes st oid row)
  labels-answers st oid row script d w x y e e' g =
      ap (λ (c : Dialogue (List (List ℕ))). behind [] c (labels_goes st oid row)) (subst (λ (y : Want (List (List ℕ))). GoesOn ld lr lk d y script) (e ∙ ap want.Answer e') g).is

  pub labels-fed : (st : Stack) (oid : ℕ) (row : TypeRow) (script : L) (j : Job R L F) → j ≡ job.Labels oid row script → (m : RawMessage) → IsMessage (job_waits rd rk ld lk fd fk st j) → (Q : Dialogue (List PgType) → Type 0) →
      (IsMessage (lk script) → Q (behind [] (feed_one m (ld script)) (labels_goes st oid row))) → Q (feed_one m (job_dialogue rd ld fd st j))
  labels-fed st oid row script j e m h Q k =
      subst (λ (x : Job R L F). IsMessage (job_waits rd rk ld lk fd fk st x) → Q (feed_one m (job_dialogue rd ld fd st x))) (sym e)
      (λ h. subst Q (sym (fed-inside (labels_goes st oid row) m (ld script) (lk script) h)) (k (message-inside (labels_goes st oid row) (ld script) (lk script) h))) h

  pub labels-heard : (st : Stack) (oid : ℕ) (row : TypeRow) (script : L) (j : Job R L F) → j ≡ job.Labels oid row script → (m : Reply) → IsReply (job_waits rd rk ld lk fd fk st j) → (Q : Dialogue (List PgType) → Type 0) →
      (IsReply (lk script) → Q (behind [] (heard m (ld script)) (labels_goes st oid row))) → Q (heard m (job_dialogue rd ld fd st j))
  labels-heard st oid row script j e m h Q k =
      subst (λ (x : Job R L F). IsReply (job_waits rd rk ld lk fd fk st x) → Q (heard m (job_dialogue rd ld fd st x))) (sym e)
      (λ h. subst Q (sym (heard-inside (labels_goes st oid row) m (ld script) (lk script) h)) (k (reply-inside (labels_goes st oid row) (ld script) (lk script) h))) h

  pub labels-heard-steps : (most : ℕ) (rs : R → ℕ) (ls : L → ℕ) (fs : F → ℕ) (st : Stack) (oid : ℕ) (row : TypeRow) (script : L) (j : Job R L F) → j ≡ job.Labels oid row script → IsReply (job_waits rd rk ld lk fd fk st j) → (Q : ℕ → Type 0) →
      (IsReply (lk script) → Q (ls script + (1 + stack_steps most st))) → Q (job_steps most rs ls fs st j)
  labels-heard-steps most rs ls fs st oid row script j e h Q k =
      subst (λ (x : Job R L F). IsReply (job_waits rd rk ld lk fd fk st x) → Q (job_steps most rs ls fs st x)) (sym e)
      (λ h. k (reply-inside (labels_goes st oid row) (ld script) (lk script) h)) h

  pub fields-answers : (st : Stack) (oid : ℕ) (row : TypeRow) (script : F) (d : Dialogue FieldRows) (w : Want FieldRows) (x y : Result FieldRows Error) → w ≡ want.Answer x → x ≡ y → GoesOn fd fr fk d w script → fields_goes st oid row y ≡ behind [] d (fields_goes st oid row)
  fields-answers st oid row script d w x y e e' g =
      ap (λ (c : Dialogue FieldRows). behind [] c (fields_goes st oid row)) (subst (λ (y : Want FieldRows). GoesOn fd fr fk d y script) (e ∙ ap want.Answer e') g).is

  pub fields-fed : (st : Stack) (oid : ℕ) (row : TypeRow) (script : F) (j : Job R L F) → j ≡ job.Fields oid row script → (m : RawMessage) → IsMessage (job_waits rd rk ld lk fd fk st j) → (Q : Dialogue (List PgType) → Type 0) →
      (IsMessage (fk script) → Q (behind [] (feed_one m (fd script)) (fields_goes st oid row))) → Q (feed_one m (job_dialogue rd ld fd st j))
  fields-fed st oid row script j e m h Q k =
      subst (λ (x : Job R L F). IsMessage (job_waits rd rk ld lk fd fk st x) → Q (feed_one m (job_dialogue rd ld fd st x))) (sym e)
      (λ h. subst Q (sym (fed-inside (fields_goes st oid row) m (fd script) (fk script) h)) (k (message-inside (fields_goes st oid row) (fd script) (fk script) h))) h

  pub fields-heard : (st : Stack) (oid : ℕ) (row : TypeRow) (script : F) (j : Job R L F) → j ≡ job.Fields oid row script → (m : Reply) → IsReply (job_waits rd rk ld lk fd fk st j) → (Q : Dialogue (List PgType) → Type 0) →
      (IsReply (fk script) → Q (behind [] (heard m (fd script)) (fields_goes st oid row))) → Q (heard m (job_dialogue rd ld fd st j))
  fields-heard st oid row script j e m h Q k =
      subst (λ (x : Job R L F). IsReply (job_waits rd rk ld lk fd fk st x) → Q (heard m (job_dialogue rd ld fd st x))) (sym e)
      (λ h. subst Q (sym (heard-inside (fields_goes st oid row) m (fd script) (fk script) h)) (k (reply-inside (fields_goes st oid row) (fd script) (fk script) h))) h

  pub fields-heard-steps : (most : ℕ) (rs : R → ℕ) (ls : L → ℕ) (fs : F → ℕ) (st : Stack) (oid : ℕ) (row : TypeRow) (script : F) (j : Job R L F) → j ≡ job.Fields oid row script → IsReply (job_waits rd rk ld lk fd fk st j) → (Q : ℕ → Type 0) →
      (IsReply (fk script) → Q (fs script + (1 + most_fields * finding_steps most (more_over st) + stack_steps most st))) → Q (job_steps most rs ls fs st j)
  fields-heard-steps most rs ls fs st oid row script j e h Q k =
      subst (λ (x : Job R L F). IsReply (job_waits rd rk ld lk fd fk st x) → Q (job_steps most rs ls fs st x)) (sym e)
      (λ h. k (reply-inside (fields_goes st oid row) (fd script) (fk script) h)) h

-- fewer steps than more
pub falls-more : {T E : Type 0} (r : Result (Want T) E) (m n k : ℕ) → m ≤ n → IfOk r (λ w. Falls w m k) → IfOk r (λ w. Falls w n k)
falls-more (Err x) m n k h f = tt
falls-more (Ok (want.Act a)) m n k h f = omega (arith, f)
falls-more (Ok (want.Answer r)) m n k h f = tt
falls-more (Ok want.Read) m n k h f = tt
