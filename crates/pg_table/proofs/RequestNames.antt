-- The requests that execute statements and texts, and that close statements, name none in a Parse frame.
use Rattle.std.proofs.Common.{◌≡◌, ℕ, List, [], ◌++◌, length, Bool, true, false, ◌==◌, if◌then◌else◌, Option, Some, Result, Ok, Err, refl, sym, ap, ◌∙◌, append_assoc}
use Rattle.std.specs.Prelude.{map, pos}
use Rattle.std.specs.Str.{byte}
use Rattle.pg_spec.specs.Faults.{◌>>=◌, FrameFault, Parameters}
use Rattle.pg_spec.specs.Frames.{bind_frame, close_frame, describe_frame, execute_frame, parse_frame, sync_frame}
use Rattle.pg_types.specs.declared.pg_type.PgType.{PgType}
use Rattle.pg_types.specs.declared.error.Error.{Error}
use Rattle.pg_desk.specs.declared.statement.Described.{Described as Statement}
use Rattle.pg_core.specs.Composing.{or_encode}
use Rattle.pg_execute.specs.Executes.{close_part, close_request, written}
use Rattle.pg_execute.specs.Parameters.{Params, execute_frames, execute_request, given_behind}
use Rattle.pg_execute.specs.Typed.{or_parse, typed_frames, typed_request}
use Rattle.pg_table.specs.FreshNames.{statement_names}
use Rattle.pg_table.proofs.FrameNames.{bind-front, bound-names, close-front, describe-front, execute-front, frame-in, made-ok, parse-front}

pub execute-names : (s : Statement) (vs : Params) (part : List ℕ) → execute_request s vs ≡ Ok part → statement_names part ≡ []
execute-names s vs part e = by (vs.count == length s.params) e
  where
    with-values : (given : Result (List (Option (List ℕ))) Error) → (given >>= λ values. or_encode (execute_frames s.name values)) ≡ Ok part → statement_names part ≡ []
    with-values (Ok values) e = bound-names s.name (map (λ v. pos 1) values) values part (made-ok (execute_frames s.name values) part e)
    with-values (Err failure) e = absurd cc

    by : (b : Bool) → (if b then (given_behind [] s.params vs >>= λ values. or_encode (execute_frames s.name values)) else Err (Parameters (vs.count) (length s.params))) ≡ Ok part → statement_names part ≡ []
    by true e = with-values (given_behind [] s.params vs) e
    by false e = absurd cc

-- Close, Sync
pub closing-names : (name part : List ℕ) → close_request name ≡ Ok part → statement_names part ≡ []
closing-names name part e = by (close_frame (byte "S") name) refl e
  where
    by : (x : Result (List ℕ) FrameFault) → close_frame (byte "S") name ≡ x → (x >>= λ close. Ok (close ++ sync_frame)) ≡ Ok part → statement_names part ≡ []
    by (Ok one) is e = ap statement_names (sym (ap frame-in e)) ∙ close-front name one sync_frame is
    by (Err fault) is e = absurd cc

pub close-names : (name part : List ℕ) → close_part name ≡ Some part → statement_names part ≡ []
close-names name part e = closing-names name part (written-ok (close_request name) e)
  where
    written-ok : (o : Result (List ℕ) FrameFault) → written o ≡ Some part → o ≡ Ok part
    written-ok (Ok x) e = let same : x ≡ part = cc in ap (λ (l : List ℕ). let r : Result (List ℕ) FrameFault = Ok l in r) same
    written-ok (Err fault) e = absurd cc

-- Parse and Bind without names, Describe, Execute, Sync
typed-rest-names : (given : List (Option (List ℕ))) (rest : List ℕ) → typed_frames given ≡ Ok rest → statement_names rest ≡ []
typed-rest-names given rest e = by (bind_frame [] [] (map (λ v. pos 1) given) given (pos 1)) (describe_frame (byte "S") []) (execute_frame [] (pos 0)) refl refl refl e
  where
    by : (x y z : Result (List ℕ) FrameFault) → bind_frame [] [] (map (λ v. pos 1) given) given (pos 1) ≡ x → describe_frame (byte "S") [] ≡ y → execute_frame [] (pos 0) ≡ z →
        (x >>= λ bind. y >>= λ describe. z >>= λ execute. Ok (bind ++ describe ++ execute ++ sync_frame)) ≡ Ok rest → statement_names rest ≡ []
    by (Ok one) (Ok two) (Ok three) a b c e =
        ap statement_names (sym (ap frame-in e) ∙ append_assoc (one ++ two) three sync_frame ∙ append_assoc one two (three ++ sync_frame))
        ∙ bind-front [] [] (map (λ v. pos 1) given) given (pos 1) one (two ++ (three ++ sync_frame)) a
        ∙ describe-front [] two (three ++ sync_frame) b ∙ execute-front [] (pos 0) three sync_frame c
    by (Ok one) (Ok two) (Err fault) a b c e = absurd cc
    by (Ok one) (Err fault) z a b c e = absurd cc
    by (Err fault) y z a b c e = absurd cc

-- the request that was made
abbrev part-in : Result (List ℕ) Error → List ℕ
part-in (Ok part) = part
part-in (Err e) = []

pub typed-names : (text : List ℕ) (types : List PgType) (vs : Params) (part : List ℕ) → typed_request text types vs ≡ Ok part → statement_names part ≡ []
typed-names text types vs part e = by (parse_frame [] text oids) refl e
  where
    oids : List ℕ
    oids = map (λ (ty : PgType). ty.oid) types

    last : (one : List ℕ) (values : List (Option (List ℕ))) (r : Result (List ℕ) FrameFault) → parse_frame [] text oids ≡ Ok one → typed_frames values ≡ r → (or_encode r >>= λ rest. Ok (one ++ rest)) ≡ Ok part → statement_names part ≡ []
    last one values (Ok rest) is also e = ap statement_names (sym (ap part-in e)) ∙ parse-front [] text oids one rest is ∙ typed-rest-names values rest also
    last one values (Err fault) is also e = absurd cc

    given : (one : List ℕ) (values : Result (List (Option (List ℕ))) Error) → parse_frame [] text oids ≡ Ok one → (values >>= λ given. or_encode (typed_frames given) >>= λ rest. Ok (one ++ rest)) ≡ Ok part → statement_names part ≡ []
    given one (Ok values) is e = last one values (typed_frames values) is refl e
    given one (Err failure) is e = absurd cc

    by : (o : Result (List ℕ) FrameFault) → parse_frame [] text oids ≡ o → (or_parse o >>= λ parse. given_behind [] types vs >>= λ given. or_encode (typed_frames given) >>= λ rest. Ok (parse ++ rest)) ≡ Ok part → statement_names part ≡ []
    by (Ok one) is e = given one (given_behind [] types vs) is e
    by (Err fault) is e = absurd cc
