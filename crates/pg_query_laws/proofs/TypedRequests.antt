-- The request of a typed query or execute is whole.
use Rattle.std.proofs.Common.{◌≡◌, ℕ, List, [], ◌∷◌, ◌++◌, length, Option, Result, Ok, Err, refl, sym, ap, subst, ◌∙◌, append-nil, append_assoc}
use Rattle.std.specs.Prelude.{ℤ, map, pos}
use Rattle.std.specs.List.{flat_map}
use Rattle.std.specs.Int.{w16, w32, to_be_bytes, cast_unsigned}
use Rattle.std.specs.Str.{byte}
use Rattle.pg_spec.specs.Bytes.{text0}
use Rattle.pg_spec.specs.Faults.{◌>>=◌, FrameFault}
use Rattle.pg_spec.specs.Frames.{bind_frame, describe_frame, execute_frame, parse_frame, sync_frame, value_bytes}
use Rattle.pg_spec.specs.RawMessages.{RawMessage, message_bytes}
use Rattle.pg_types.specs.declared.pg_type.PgType.{PgType}
use Rattle.pg_types.specs.declared.error.Error.{Error}
use Rattle.pg_session.specs.Speeches.{IsWholeRequest}
use Rattle.pg_core.specs.Composing.{or_encode}
use Rattle.pg_query_laws.proofs.Requests.{IsOne, one-tagged, sync-fits, whole-of}
use Rattle.pg_execute.specs.Parameters.{Params, given_behind}
use Rattle.pg_execute.specs.Typed.{or_parse, typed_frames, typed_request}

-- the request that was made
abbrev part-in : Result (List ℕ) Error → List ℕ
part-in (Ok part) = part
part-in (Err e) = []

-- four frames and what follows, one by one
one-by-one : (n o q rest : List ℕ) → n ++ o ++ q ++ rest ≡ n ++ (o ++ (q ++ rest))
one-by-one n o q rest = append_assoc (n ++ o) q rest ∙ append_assoc n o (q ++ rest)

-- Parse, Bind, Describe, Execute and a Sync
joined : (p b d x : List ℕ) → IsOne (byte "P") p → IsOne (byte "B") b → IsOne (byte "D") d → IsOne (byte "E") x → IsWholeRequest (p ++ (b ++ d ++ x ++ sync_frame))
joined p b d x one two three four =
    let m : RawMessage = record { tag = byte "P"; body = one.body } in
    let n : RawMessage = record { tag = byte "B"; body = two.body } in
    let o : RawMessage = record { tag = byte "D"; body = three.body } in
    let q : RawMessage = record { tag = byte "E"; body = four.body } in
    let s : RawMessage = record { tag = byte "S"; body = [] } in
    whole-of (m ∷ n ∷ o ∷ q ∷ s ∷ []) (p ++ (b ++ d ++ x ++ sync_frame)) (one.fits, (two.fits, (three.fits, (four.fits, (sync-fits, tt))))) (refl, refl, refl, (refl, refl, refl, (refl, refl, refl, (refl, refl, refl, refl))))
    (ap (λ (l : List ℕ). l ++ (b ++ d ++ x ++ sync_frame)) one.is
    ∙ ap (λ (l : List ℕ). message_bytes m ++ (l ++ d ++ x ++ sync_frame)) two.is
    ∙ ap (λ (l : List ℕ). message_bytes m ++ (message_bytes n ++ l ++ x ++ sync_frame)) three.is
    ∙ ap (λ (l : List ℕ). message_bytes m ++ (message_bytes n ++ message_bytes o ++ l ++ sync_frame)) four.is
    ∙ ap (λ (l : List ℕ). message_bytes m ++ (message_bytes n ++ message_bytes o ++ message_bytes q ++ l)) (sym (append-nil (message_bytes s)))
    ∙ ap (λ (l : List ℕ). message_bytes m ++ l) (one-by-one (message_bytes n) (message_bytes o) (message_bytes q) (message_bytes s ++ [])))

-- the frames behind Parse, by what each of them is
behind-parse : (p : List ℕ) → IsOne (byte "P") p → (b d x : Result (List ℕ) FrameFault) → ((f : List ℕ) → b ≡ Ok f → IsOne (byte "B") f) → ((f : List ℕ) → d ≡ Ok f → IsOne (byte "D") f) → ((f : List ℕ) → x ≡ Ok f → IsOne (byte "E") f) →
    (part : List ℕ) → (or_encode (b >>= λ bind. d >>= λ describe. x >>= λ execute. Ok (bind ++ describe ++ execute ++ sync_frame)) >>= λ rest. Ok (p ++ rest)) ≡ Ok part → IsWholeRequest part
behind-parse p one (Ok b) (Ok d) (Ok x) two three four part e = subst IsWholeRequest (ap part-in e) (joined p b d x one (two b refl) (three d refl) (four x refl))
behind-parse p one (Ok b) (Ok d) (Err fault) two three four part e = absurd cc
behind-parse p one (Ok b) (Err fault) x two three four part e = absurd cc
behind-parse p one (Err fault) d x two three four part e = absurd cc

-- each frame of it
bound-one : (given : List (Option (List ℕ))) (f : List ℕ) → bind_frame [] [] (map (λ v. pos 1) given) given (pos 1) ≡ Ok f → IsOne (byte "B") f
bound-one given f is =
    let formats : List ℤ = map (λ v. pos 1) given in
    one-tagged (byte "B") ([] ∷ [] ∷ []) (length formats ∷ length given ∷ [])
    (text0 [] ++ text0 [] ++ to_be_bytes w16 (length formats) ++ flat_map (λ format. to_be_bytes w16 (cast_unsigned w16 format)) formats
    ++ to_be_bytes w16 (length given) ++ flat_map value_bytes given ++ to_be_bytes w16 1 ++ to_be_bytes w16 (cast_unsigned w16 (pos 1))) f is

described-one : (f : List ℕ) → describe_frame (byte "S") [] ≡ Ok f → IsOne (byte "D") f
described-one f is = one-tagged (byte "D") ([] ∷ []) [] (byte "S" ∷ text0 []) f is

executed-one : (f : List ℕ) → execute_frame [] (pos 0) ≡ Ok f → IsOne (byte "E") f
executed-one f is = one-tagged (byte "E") ([] ∷ []) [] (text0 [] ++ to_be_bytes w32 (cast_unsigned w32 (pos 0))) f is

parsed-one : (text : List ℕ) (oids : List ℕ) (f : List ℕ) → parse_frame [] text oids ≡ Ok f → IsOne (byte "P") f
parsed-one text oids f is = one-tagged (byte "P") ([] ∷ text ∷ []) (length oids ∷ []) (text0 [] ++ text0 text ++ to_be_bytes w16 (length oids) ++ flat_map (to_be_bytes w32) oids) f is

-- the values stand, or are refused
with-given : (p : List ℕ) → IsOne (byte "P") p → (given : Result (List (Option (List ℕ))) Error) (part : List ℕ) → (given >>= λ vs. or_encode (typed_frames vs) >>= λ rest. Ok (p ++ rest)) ≡ Ok part → IsWholeRequest part
with-given p one (Ok vs) part e =
    behind-parse p one (bind_frame [] [] (map (λ v. pos 1) vs) vs (pos 1)) (describe_frame (byte "S") []) (execute_frame [] (pos 0)) (bound-one vs) described-one executed-one part e
with-given p one (Err failure) part e = absurd cc

pub whole-typed : (text : List ℕ) (types : List PgType) (vs : Params) (part : List ℕ) → typed_request text types vs ≡ Ok part → IsWholeRequest part
whole-typed text types vs part e = by (parse_frame [] text oids) refl e
  where
    oids : List ℕ
    oids = map (λ (ty : PgType). ty.oid) types

    by : (o : Result (List ℕ) FrameFault) → parse_frame [] text oids ≡ o → (or_parse o >>= λ parse. given_behind [] types vs >>= λ given. or_encode (typed_frames given) >>= λ rest. Ok (parse ++ rest)) ≡ Ok part → IsWholeRequest part
    by (Ok p) is e = with-given p (parsed-one text oids p is) (given_behind [] types vs) part e
    by (Err fault) is e = absurd cc
