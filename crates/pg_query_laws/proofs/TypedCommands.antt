-- Typed queries and executes are commands that a session takes.
use Rattle.std.proofs.Common.{◌≡◌, ℕ, List, [], ◌∷◌, ◌++◌, length, map, Bool, true, false, ◌||◌, Option, Some, None, Err, refl, sym, subst}
use Rattle.std.proofs.lemmas.Bool.{eqb-true}
use Rattle.pg_spec.specs.Bodies.{Field}
use Rattle.pg_spec.specs.RawMessages.{RawMessage, is_ready, ends_in}
use Rattle.pg_types.specs.declared.pg_type.PgType.{PgType}
use Rattle.pg_execute.specs.Parameters.{Params}
use Rattle.pg_types.specs.BuiltIns.{built_in_type}
use Rattle.pg_types.specs.declared.error.Error.TheVariants.{Closed}
use Rattle.pg_query.specs.Dialogue.{Dialogue, Answer, HangUp}
use Rattle.pg_query.specs.Reading.{reads}
use Rattle.pg_query.specs.declared.desk_call.DeskCall.TheVariants as desk_call
use Rattle.pg_query.specs.declared.desk_call.Reply.{Reply}
use Rattle.pg_query.specs.declared.desk_call.Reply.TheVariants as reply
use Rattle.pg_core.specs.Sequences.{then_do}
use Rattle.pg_core.specs.Lookups.{find_all}
use Rattle.pg_core.specs.QueryReplies.{told_by}
use Rattle.pg_execute.specs.Executes.{whole_rows}
use Rattle.pg_execute.specs.Typed.{all_known, behind_head, columns_came, execute_typed, has_ended, head, is_end, known_or, or_else, query_typed, takes_rest, told_or, type_told, typed_count_next, typed_request, typed_rows, unnamed}
use Rattle.pg_execute.specs.declared.how_many.HowMany.{HowMany}
use Rattle.pg_execute.specs.declared.result_set.ResultSet.{ResultSet}
use Rattle.pg_query_laws.specs.Taken.{IsTaken}
use Rattle.pg_query_laws.proofs.Commands.{finding-all}
use Rattle.pg_query_laws.proofs.ExecutionReadings.{reads-rows}
use Rattle.pg_query_laws.proofs.Taken.{IsReadOn, answers, asks-on, booked, hung-behind, reading, reads-none, thens}
use Rattle.pg_query_laws.proofs.TypedReadings.{head-then, reads-count}
use Rattle.pg_query_laws.proofs.TypedRequests.{whole-typed}

-- ---- types that are asked for

type-told-on : {T : Type 0} (n : Option PgType → Dialogue T) → ((o : Option PgType) → IsReadOn (n o)) → (r : Reply) → IsReadOn (type_told n r)
type-told-on n h (reply.Type found) = h found
type-told-on n h other = hung-behind (Answer (Err Closed)) (answers (Err Closed))

known-on : {T : Type 0} (oid : ℕ) (o : Option PgType) (n : Option PgType → Dialogue T) → ((o : Option PgType) → IsReadOn (n o)) → IsReadOn (known_or oid o n)
known-on oid (Some ty) n h = h (Some ty)
known-on oid None n h = asks-on (desk_call.TypeOf oid) (type_told n) (λ r fit. type-told-on n h r)

all-known-on : {T : Type 0} (later : Dialogue T) (next : List PgType → Dialogue T) → IsReadOn later → ((types : List PgType) → IsReadOn (next types)) → (oids : List ℕ) (found : List PgType) →
    IsReadOn (all_known later next oids found)
all-known-on later next l h [] found = h found
all-known-on {T} later next l h (oid ∷ oids) found =
    known-on oid (built_in_type oid) (or_else later (λ ty. all_known later next oids (found ++ ty ∷ []))) (each (λ ty. all-known-on later next l h oids (found ++ ty ∷ [])))
  where
    each : ((ty : PgType) → IsReadOn (all_known later next oids (found ++ ty ∷ []))) → (o : Option PgType) → IsReadOn (or_else later (λ ty. all_known later next oids (found ++ ty ∷ [])) o)
    each k (Some ty) = k ty
    each k None = l

-- ---- the rest that is taken

-- a ReadyForQuery ends a reply
ready-ends-so : (body : List ℕ) → is_end (record { tag = 90; body = body }) ≡ true
ready-ends-so [] = refl
ready-ends-so (b ∷ []) = refl
ready-ends-so (b ∷ d ∷ rest) = refl

ready-ends : (m : RawMessage) → is_ready m ≡ true → is_end m ≡ true
ready-ends m h = subst (λ (n : ℕ). is_end (record { tag = n; body = m.body }) ≡ true) (sym (eqb-true m.tag 90 h)) (ready-ends-so m.body)

either-of : (b d : Bool) → b ≡ true → (b || d) ≡ true
either-of true d h = refl
either-of false d h = absurd cc

or-later : (b d : Bool) → d ≡ true → (b || d) ≡ true
or-later true d h = refl
or-later false d h = h

ended-by : (ms : List RawMessage) → ends_in is_ready ms ≡ true → has_ended ms ≡ true
ended-by [] h = absurd cc
ended-by (m ∷ []) h = either-of (is_end m) false (ready-ends m h)
ended-by (m ∷ x ∷ ms) h = or-later (is_end m) (has_ended (x ∷ ms)) (ended-by (x ∷ ms) h)

-- what is asked once the rest was taken
abbrev looked-up : HowMany → List Field → List RawMessage → Dialogue ResultSet
looked-up how fields taken = then_do (find_all (map (λ f. f.type_oid) fields)) (λ types. Answer (told_or (typed_rows how fields types taken)))

rest-taken : (how : HowMany) (fields : List Field) (taken : List RawMessage) → IsTaken (looked-up how fields taken)
rest-taken how fields taken =
    thens (find_all (map (λ f. f.type_oid) fields)) (λ types. Answer (told_or (typed_rows how fields types taken))) (finding-all (map (λ f. f.type_oid) fields)) (λ types. answers (told_or (typed_rows how fields types taken)))

rest-on : (how : HowMany) (fields : List Field) → IsReadOn (takes_rest find_all how fields)
rest-on how fields =
    reading has_ended (λ ms. HangUp (looked-up how fields ms)) ended-by (λ ms. (hung-behind (looked-up how fields ms) (rest-taken how fields ms)).well) (λ ms e any. reads-none (looked-up how fields ms) (rest-taken how fields ms))
    (λ h ms e. (rest-taken how fields ms).lets_go)

-- ---- they are taken

-- what stands behind the columns reads on
head-on-read : (how : HowMany) (fields : List Field) → IsReadOn (behind_head find_all how fields)
head-on-read how fields =
    all-known-on (takes_rest find_all how fields) (λ types. reads false (typed_rows how fields types)) (rest-on how fields) (λ types. reads-rows how (length fields) (whole_rows (unnamed fields types)) columns_came) (map (λ f. f.type_oid) fields) []

pub typed-queries-taken : (how : HowMany) (text : List ℕ) (types : List PgType) (vs : Params) → IsTaken (query_typed find_all how text types vs)
typed-queries-taken how text types vs =
    booked (typed_request text types vs) (then_do (reads false head) (behind_head find_all how)) (whole-typed text types vs) (head-then (behind_head find_all how) (head-on-read how))

pub typed-executes-taken : (text : List ℕ) (types : List PgType) (vs : Params) → IsTaken (execute_typed text types vs)
typed-executes-taken text types vs = booked (typed_request text types vs) (reads false (told_by typed_count_next 0)) (whole-typed text types vs) (reads-count 0)
