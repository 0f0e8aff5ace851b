-- The names of statements in frames that were written, and in the requests that prepare texts and look types up.
use Rattle.std.proofs.Common.{◌≡◌, ◌<◌, ◌≤◌, ℕ, zero, suc, ◌+◌, ◌^◌, List, [], ◌∷◌, ◌++◌, length, Bool, true, false, ◌||◌, ◌==◌, if◌then◌else◌, nat_lt, Option, Some, None, Result, Ok, Err, refl, sym, ap, ◌∙◌, append-nil, append_assoc, arith}
use Rattle.std.specs.Prelude.{ℤ, filter_map, pos}
use Rattle.std.specs.List.{cons_option, flat_map, list_any}
use Rattle.std.specs.Option.{option_and_then}
use Rattle.std.specs.Int.{w16, w32, to_be_bytes, cast_unsigned}
use Rattle.std.specs.Str.{byte}
use Rattle.std.proofs.lemmas.Bool.Decides.{nat_tests}
use Rattle.pg_spec.specs.Bytes.{text0, text0_at}
use Rattle.pg_spec.specs.Faults.{◌>>=◌, FrameFault, ZeroByte, TooMany, TooLong, ToSql, Value as OfValue}
use Rattle.pg_spec.specs.Frames.{bind_frame, close_frame, describe_frame, execute_frame, has_zero, parse_frame, query_frame, sync_frame, tagged, tagged_frame, unless_fault, value_bytes}
use Rattle.pg_spec.specs.RawMessages.{RawMessage, message_bytes}
use Rattle.pg_spec.proofs.MessageLaws.{messages-front}
use Rattle.pg_types.specs.declared.pg_type.PgType.{PgType}
use Rattle.pg_types.specs.declared.fault.ValueFault.TheVariants.{WrongType}
use Rattle.pg_types.specs.declared.fault.RustType.TheVariants as rust
use Rattle.pg_types.specs.Oids as oids
use Rattle.pg_types.specs.Values.{oid_bytes, wrong_type}
use Rattle.pg_core.specs.Composing.{or_encode}
use Rattle.pg_core.specs.Lookups.{oid_frames, oid_request}
use Rattle.pg_core.specs.Prepares.{prepare_request, statement_name}
use Rattle.pg_table.specs.FreshNames.{if_named, name_by, statement_names}

-- ---- a frame that was written

-- what was written
abbrev pub frame-in : Result (List ℕ) FrameFault → List ℕ
frame-in (Ok frame) = frame
frame-in (Err fault) = []

-- a request that can't be made is an error
pub made-ok : (o : Result (List ℕ) FrameFault) (x : List ℕ) → or_encode o ≡ Ok x → o ≡ Ok x
made-ok (Ok part) x e = let same : part ≡ x = cc in ap (λ (l : List ℕ). let r : Result (List ℕ) FrameFault = Ok l in r) same
made-ok (Err fault) x e = absurd cc

-- it is one message, short enough, of texts without a zero byte
record IsWritten (tag : ℕ) (texts : List (List ℕ)) (body frame : List ℕ) : Type 0 where
  is : frame ≡ message_bytes (record { tag = tag; body = body })
  fits : 4 + length body < 2 ^ 31
  none : list_any has_zero texts ≡ false

frame-written : (tag : ℕ) (texts : List (List ℕ)) (counts : List ℕ) (body frame : List ℕ) → tagged_frame tag texts counts body ≡ Ok frame → IsWritten tag texts body frame
frame-written tag texts counts body frame e = by (list_any has_zero texts) (list_any (λ count. nat_lt 65535 count) counts) (nat_lt 2147483647 (4 + length body)) refl refl e
  where
    by : (a b c : Bool) → list_any has_zero texts ≡ a → nat_lt 2147483647 (4 + length body) ≡ c →
        unless_fault (if a then Some ZeroByte else if b then Some TooMany else if c then Some TooLong else None) (tagged tag body) ≡ Ok frame → IsWritten tag texts body frame
    by true b c zeros is e = absurd cc
    by false true c zeros is e = absurd cc
    by false false true zeros is e = absurd cc
    by false false false zeros is e = record {
      is = sym (ap frame-in e);
      fits = let high : 4 + length body ≤ 2147483647 = grind (arith, nat_tests) in omega (arith, high);
      none = zeros;
    }

-- in front of other frames
names-front : (tag : ℕ) (texts : List (List ℕ)) (body frame rest : List ℕ) → IsWritten tag texts body frame →
    statement_names (frame ++ rest) ≡ cons_option (name_by (byte "P") (record { tag = tag; body = body })) (statement_names rest)
names-front tag texts body frame rest w =
    let m : RawMessage = record { tag = tag; body = body } in
    ap (λ (x : List ℕ). statement_names (x ++ rest)) w.is ∙ ap (filter_map (name_by (byte "P"))) (messages-front m rest w.fits)

-- one that is no Parse gives no name
other-front : (tag : ℕ) (texts : List (List ℕ)) (body frame rest : List ℕ) → (tag == byte "P") ≡ false → IsWritten tag texts body frame → statement_names (frame ++ rest) ≡ statement_names rest
other-front tag texts body frame rest other w =
    names-front tag texts body frame rest w
    ∙ ap (λ (b : Bool). cons_option (if b then if_named (text0_at body) else None) (statement_names rest)) other

-- ---- each of them

pub bind-front : (portal name : List ℕ) (formats : List ℤ) (values : List (Option (List ℕ))) (format : ℤ) (frame rest : List ℕ) → bind_frame portal name formats values format ≡ Ok frame → statement_names (frame ++ rest) ≡ statement_names rest
bind-front portal name formats values format frame rest e =
    let body = text0 portal ++ text0 name ++ to_be_bytes w16 (length formats) ++ flat_map (λ format. to_be_bytes w16 (cast_unsigned w16 format)) formats
    ++ to_be_bytes w16 (length values) ++ flat_map value_bytes values ++ to_be_bytes w16 1 ++ to_be_bytes w16 (cast_unsigned w16 format) in
    other-front (byte "B") (portal ∷ name ∷ []) body frame rest refl (frame-written (byte "B") (portal ∷ name ∷ []) (length formats ∷ length values ∷ []) body frame e)

pub describe-front : (name frame rest : List ℕ) → describe_frame (byte "S") name ≡ Ok frame → statement_names (frame ++ rest) ≡ statement_names rest
describe-front name frame rest e = other-front (byte "D") (name ∷ []) (byte "S" ∷ text0 name) frame rest refl (frame-written (byte "D") (name ∷ []) [] (byte "S" ∷ text0 name) frame e)

pub close-front : (name frame rest : List ℕ) → close_frame (byte "S") name ≡ Ok frame → statement_names (frame ++ rest) ≡ statement_names rest
close-front name frame rest e = other-front (byte "C") (name ∷ []) (byte "S" ∷ text0 name) frame rest refl (frame-written (byte "C") (name ∷ []) [] (byte "S" ∷ text0 name) frame e)

pub execute-front : (portal : List ℕ) (rows : ℤ) (frame rest : List ℕ) → execute_frame portal rows ≡ Ok frame → statement_names (frame ++ rest) ≡ statement_names rest
execute-front portal rows frame rest e =
    let body = text0 portal ++ to_be_bytes w32 (cast_unsigned w32 rows) in
    other-front (byte "E") (portal ∷ []) body frame rest refl (frame-written (byte "E") (portal ∷ []) [] body frame e)

-- a Query
pub query-names : (text frame : List ℕ) → query_frame text ≡ Ok frame → statement_names frame ≡ []
query-names text frame e =
    ap statement_names (sym (append-nil frame))
    ∙ other-front (byte "Q") (text ∷ []) (text0 text) frame [] refl (frame-written (byte "Q") (text ∷ []) [] (text0 text) frame e)

-- Sync alone
pub sync-names : statement_names sync_frame ≡ []
sync-names = refl

-- ---- Parse

or-false : (a b : Bool) → (a || b) ≡ false → (a ≡ false) × (b ≡ false)
or-false true b e = absurd cc
or-false false b e = (refl, e)

-- a text is read up to its zero byte
text-front : (text more : List ℕ) → has_zero text ≡ false → text0_at (text ++ 0 ∷ more) ≡ Some (text, more)
text-front [] more none = refl
text-front (zero ∷ text) more none = absurd cc
text-front (suc b ∷ text) more none =
    ap (option_and_then (λ (rest : List ℕ × List ℕ). Some (suc b ∷ rest.0, rest.1))) (text-front text more (or-false (suc b == 0) (has_zero text) none).1)

-- the body behind the name
behind-name : (name b c d : List ℕ) → text0 name ++ b ++ c ++ d ≡ name ++ 0 ∷ (b ++ (c ++ d))
behind-name name b c d = append_assoc (text0 name ++ b) c d ∙ append_assoc (text0 name) b (c ++ d) ∙ append_assoc name (0 ∷ []) (b ++ (c ++ d))

-- it gives its name
pub parse-front : (name text : List ℕ) (oids : List ℕ) (frame rest : List ℕ) → parse_frame name text oids ≡ Ok frame →
    statement_names (frame ++ rest) ≡ cons_option (if_named (Some (name, text0 text ++ (to_be_bytes w16 (length oids) ++ flat_map (to_be_bytes w32) oids)))) (statement_names rest)
parse-front name text oids frame rest e =
    let body = text0 name ++ text0 text ++ to_be_bytes w16 (length oids) ++ flat_map (to_be_bytes w32) oids in
    let w = frame-written (byte "P") (name ∷ text ∷ []) (length oids ∷ []) body frame e in
    let none : has_zero name ≡ false = (or-false (has_zero name) (list_any has_zero (text ∷ [])) w.none).0 in
    names-front (byte "P") (name ∷ text ∷ []) body frame rest w
    ∙ ap (λ (o : Option (List ℕ × List ℕ)). cons_option (if_named o) (statement_names rest))
    (ap text0_at (behind-name name (text0 text) (to_be_bytes w16 (length oids)) (flat_map (to_be_bytes w32) oids))
    ∙ text-front name (text0 text ++ (to_be_bytes w16 (length oids) ++ flat_map (to_be_bytes w32) oids)) none)

-- ---- requests

-- Parse, Describe, Sync: the name of the number
pub prepare-names : (n : ℕ) (text oids part : List ℕ) → prepare_request n text oids ≡ Ok part → statement_names part ≡ statement_name n ∷ []
prepare-names n text oids part e = by (parse_frame (statement_name n) text oids) (describe_frame (byte "S") (statement_name n)) refl refl e
  where
    by : (x y : Result (List ℕ) FrameFault) → parse_frame (statement_name n) text oids ≡ x → describe_frame (byte "S") (statement_name n) ≡ y →
        (x >>= λ parse. y >>= λ describe. Ok (parse ++ describe ++ sync_frame)) ≡ Ok part → statement_names part ≡ statement_name n ∷ []
    by (Ok one) (Ok two) is also e =
        ap statement_names (sym (ap frame-in e)) ∙ ap statement_names (append_assoc one two sync_frame)
        ∙ parse-front (statement_name n) text oids one (two ++ sync_frame) is
        ∙ ap (λ (l : List (List ℕ)). statement_name n ∷ l) (describe-front (statement_name n) two sync_frame also)
    by (Ok one) (Err fault) is also e = absurd cc
    by (Err fault) y is also e = absurd cc

-- Bind, Execute, Sync
pub bound-names : (name : List ℕ) (formats : List ℤ) (values : List (Option (List ℕ))) (part : List ℕ) →
    (bind_frame [] name formats values (pos 1) >>= λ bind. execute_frame [] (pos 0) >>= λ execute. Ok (bind ++ execute ++ sync_frame)) ≡ Ok part → statement_names part ≡ []
bound-names name formats values part e = by (bind_frame [] name formats values (pos 1)) (execute_frame [] (pos 0)) refl refl e
  where
    by : (x y : Result (List ℕ) FrameFault) → bind_frame [] name formats values (pos 1) ≡ x → execute_frame [] (pos 0) ≡ y → (x >>= λ bind. y >>= λ execute. Ok (bind ++ execute ++ sync_frame)) ≡ Ok part → statement_names part ≡ []
    by (Ok one) (Ok two) is also e =
        ap statement_names (sym (ap frame-in e)) ∙ ap statement_names (append_assoc one two sync_frame)
        ∙ bind-front [] name formats values (pos 1) one (two ++ sync_frame) is ∙ execute-front [] (pos 0) two sync_frame also
    by (Ok one) (Err fault) is also e = absurd cc
    by (Err fault) y is also e = absurd cc

pub oid-names : (name : List ℕ) (params : List PgType) (oid : ℕ) (part : List ℕ) → oid_request name params oid ≡ Ok part → statement_names part ≡ []
oid-names name [] oid part e = absurd cc
oid-names name (ty ∷ []) oid part e = by (ty.oid == oids.oid) e
  where
    by : (b : Bool) → (if b then or_encode (oid_frames name oid) else Err (ToSql 0 (OfValue (WrongType (wrong_type ty.oid rust.U32))))) ≡ Ok part → statement_names part ≡ []
    by true e = bound-names name (pos 1 ∷ []) (Some (oid_bytes oid) ∷ []) part (made-ok (oid_frames name oid) part e)
    by false e = absurd cc
oid-names name (ty ∷ other ∷ params) oid part e = absurd cc
