-- The same of executions and of typed queries.
use Rattle.std.proofs.Common.{ℕ, List, [], ◌∷◌, ◌++◌, map, Bool, false, Option, Some, None, Result, Ok, Err}
use Rattle.pg_spec.specs.Bodies.{Field}
use Rattle.pg_spec.specs.RawMessages.{RawMessage}
use Rattle.pg_types.specs.BuiltIns.{built_in_type}
use Rattle.pg_types.specs.declared.error.Error.{Error}
use Rattle.pg_types.specs.declared.pg_type.PgType.{PgType}
use Rattle.pg_desk.specs.declared.statement.Described.{Described as Statement}
use Rattle.pg_query.specs.Dialogue.{Dialogue, Answer}
use Rattle.pg_query.specs.Reading.{reads}
use Rattle.pg_query.specs.declared.desk_call.DeskCall.{DeskCall}
use Rattle.pg_query.specs.declared.desk_call.Reply.{Reply}
use Rattle.pg_query.specs.declared.desk_call.Reply.TheVariants as reply
use Rattle.pg_core.specs.Composing.{or_encode}
use Rattle.pg_core.specs.Lookups.{find_all, prepare}
use Rattle.pg_core.specs.QueryReplies.{told_by}
use Rattle.pg_core.specs.Sequences.{then_do}
use Rattle.pg_execute.specs.Executes.{close, close_part, close_request, closed_by, executes, on_text, posts, posts_before, sends}
use Rattle.pg_execute.specs.Parameters.{Params, execute_request}
use Rattle.pg_execute.specs.Typed.{all_known, behind_head, execute_typed, head, known_or, or_else, query_typed, takes_rest, told_or, type_told, typed_count_next, typed_request, typed_rows}
use Rattle.pg_execute.specs.declared.how_many.HowMany.{HowMany}
use Rattle.pg_execute.specs.declared.result_set.ResultSet.{ResultSet}
use Rattle.pg_query_laws.specs.Kept.{EachAsked}
use Rattle.pg_query_laws.proofs.Asking.{Grants, booked, each-behind, finding-all, preparing-text, read, thens}

module _ (P : DeskCall → Type 0) where
  -- ---- a statement

  pub executing : {A : Type 0} (stops : Bool) (reading : List RawMessage → Option (Result A Error)) (s : Statement) (vs : Params) → EachAsked P (executes stops reading s vs)
  executing stops reading s vs = booked P (execute_request s vs) (reads stops reading) (read P stops reading)

  sending : (request : Result (List ℕ) Error) → EachAsked P (sends request)
  sending (Ok part) = (λ e. tt, tt)
  sending (Err e) = tt

  pub closing : (s : Statement) → EachAsked P (close s)
  closing s = sending (or_encode (close_request s.name))

  -- ---- a text

  posting : {T : Type 0} (part : Option (List ℕ)) (r : Result T Error) → EachAsked P (posts_before part r)
  posting None r = tt
  posting (Some part) r = (λ e. tt, tt)

  closed : {T : Type 0} (part : Option (List ℕ)) (d : Dialogue T) → EachAsked P d → EachAsked P (closed_by part d)
  closed part d h = each-behind P (posts part) (posts_before part) (posting part) d h

  pub on-text : {T : Type 0} (grants : Grants P) (text : List ℕ) (body : Statement → Dialogue T) → ((s : Statement) → EachAsked P (body s)) → EachAsked P (on_text (prepare text []) body)
  on-text grants text body h = thens P (prepare text []) (λ s. closed_by (close_part s.name) (body s)) (preparing-text P grants text []) (λ s. closed (close_part s.name) (body s) (h s))

  -- ---- a text with the types of its values

  type-told : {T : Type 0} (next : Option PgType → Dialogue T) → ((o : Option PgType) → EachAsked P (next o)) → (r : Reply) → EachAsked P (type_told next r)
  type-told next h (reply.Type found) = h found
  type-told next h other = tt

  known-by : {T : Type 0} (grants : Grants P) (oid : ℕ) (o : Option PgType) (next : Option PgType → Dialogue T) → ((o : Option PgType) → EachAsked P (next o)) → EachAsked P (known_or oid o next)
  known-by grants oid (Some ty) next h = h (Some ty)
  known-by grants oid None next h = (grants.type_of oid, λ e. tt, type-told next h)

  all-known : {T : Type 0} (grants : Grants P) (later : Dialogue T) (next : List PgType → Dialogue T) → EachAsked P later → ((types : List PgType) → EachAsked P (next types)) → (oids : List ℕ) (found : List PgType) → EachAsked P (all_known later next oids found)
  all-known grants later next l h [] found = h found
  all-known {T} grants later next l h (oid ∷ oids) found =
      known-by grants oid (built_in_type oid) (or_else later (λ ty. all_known later next oids (found ++ ty ∷ []))) (each (λ ty. all-known grants later next l h oids (found ++ ty ∷ [])))
    where
      each : ((ty : PgType) → EachAsked P (all_known later next oids (found ++ ty ∷ []))) → (o : Option PgType) → EachAsked P (or_else later (λ ty. all_known later next oids (found ++ ty ∷ [])) o)
      each k (Some ty) = k ty
      each k None = l

  taking-rest : (grants : Grants P) (how : HowMany) (fields : List Field) → EachAsked P (takes_rest find_all how fields)
  taking-rest grants how fields = λ ms. thens P (find_all (map (λ f. f.type_oid) fields)) (rows_of ms) (finding-all P grants (map (λ f. f.type_oid) fields)) (λ types. tt)
    where
      rows_of : List RawMessage → List PgType → Dialogue ResultSet
      rows_of ms types = Answer (told_or (typed_rows how fields types ms))

  heading : (grants : Grants P) (how : HowMany) (fields : List Field) → EachAsked P (behind_head find_all how fields)
  heading grants how fields = all-known grants (takes_rest find_all how fields) (λ types. reads false (typed_rows how fields types)) (taking-rest grants how fields) (λ types. read P false (typed_rows how fields types)) (map (λ f. f.type_oid) fields) []

  pub querying-typed : (grants : Grants P) (how : HowMany) (text : List ℕ) (types : List PgType) (vs : Params) → EachAsked P (query_typed find_all how text types vs)
  querying-typed grants how text types vs = booked P (typed_request text types vs) (then_do (reads false head) (behind_head find_all how)) (thens P (reads false head) (behind_head find_all how) (read P false head) (heading grants how))

  pub executing-typed : (text : List ℕ) (types : List PgType) (vs : Params) → EachAsked P (execute_typed text types vs)
  executing-typed text types vs = booked P (typed_request text types vs) (reads false (told_by typed_count_next 0)) (read P false (told_by typed_count_next 0))
