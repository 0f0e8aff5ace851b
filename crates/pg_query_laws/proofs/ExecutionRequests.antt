-- The requests of an execution are whole.
use Rattle.std.proofs.Common.{◌≡◌, ◌≢◌, ◌<◌, ◌≤◌, ℕ, zero, suc, ◌+◌, ◌^◌, List, [], ◌∷◌, ◌++◌, length, Bool, true, false, ◌||◌, if◌then◌else◌, nat_lt, ◌==◌, Option, Some, None, Result, Ok, Err, decimal, refl, sym, ap, subst, ◌∙◌, append-nil, arith, ne_eqb}
use Rattle.std.specs.Prelude.{pos, map}
use Rattle.std.specs.Char.{digit_value}
use Rattle.std.specs.Str.{byte}
use Rattle.std.specs.Str.Parse.{AllDigits}
use Rattle.std.proofs.lemmas.Bool.Decides.{nat_tests}
use Rattle.std.proofs.lemmas.Fmt.{decimal_is_IsNumeral, length-decimal-le}
use Rattle.std.proofs.lemmas.List.{length-append}
use Rattle.pg_spec.specs.Bytes.{text0}
use Rattle.pg_spec.specs.Faults.{◌>>=◌, FrameFault, ZeroByte, TooMany, TooLong, Parameters}
use Rattle.pg_spec.specs.Frames.{close_frame, has_zero, sync_frame, tagged, tagged_frame, unless_fault}
use Rattle.pg_spec.specs.RawMessages.{RawMessage, message_bytes}
use Rattle.pg_types.specs.declared.error.Error.{Error}
use Rattle.pg_desk.specs.declared.statement.Described.{Described as Statement}
use Rattle.pg_session.specs.Speeches.{IsWholeRequest}
use Rattle.pg_core.specs.Composing.{or_encode}
use Rattle.pg_core.specs.Prepares.{statement_name}
use Rattle.pg_query_laws.proofs.Requests.{IsOne, frame-in, made-ok, one-tagged, sync-fits, whole-execute, whole-of}
use Rattle.pg_execute.specs.Executes.{close_part, close_request, written}
use Rattle.pg_execute.specs.Parameters.{Params, execute_frames, execute_request, given_behind}

-- ---- an execution

with-values : (s : Statement) (given : Result (List (Option (List ℕ))) Error) (part : List ℕ) → (given >>= λ values. or_encode (execute_frames s.name values)) ≡ Ok part → IsWholeRequest part
with-values s (Ok values) part e = whole-execute [] s.name (map (λ v. pos 1) values) values (pos 1) (pos 0) part (made-ok (execute_frames s.name values) part e)
with-values s (Err failure) part e = absurd cc

pub whole-execution : (s : Statement) (vs : Params) (part : List ℕ) → execute_request s vs ≡ Ok part → IsWholeRequest part
whole-execution s vs part e = by (vs.count == length s.params) e
  where
    by : (b : Bool) → (if b then (given_behind [] s.params vs >>= λ values. or_encode (execute_frames s.name values)) else Err (Parameters (vs.count) (length s.params))) ≡ Ok part → IsWholeRequest part
    by true e = with-values s (given_behind [] s.params vs) part e
    by false e = absurd cc

-- ---- a closing

-- a Close and a Sync
closing : (one : List ℕ) → IsOne (byte "C") one → IsWholeRequest (one ++ sync_frame)
closing one a =
    let m : RawMessage = record { tag = byte "C"; body = a.body } in
    let s : RawMessage = record { tag = byte "S"; body = [] } in
    whole-of (m ∷ s ∷ []) (one ++ sync_frame) (a.fits, (sync-fits, tt)) (refl, refl, refl, refl)
    (ap (λ (x : List ℕ). x ++ sync_frame) a.is ∙ ap (λ (x : List ℕ). message_bytes m ++ x) (sym (append-nil (message_bytes s))))

closed : (o : Result (List ℕ) FrameFault) (part : List ℕ) → ((one : List ℕ) → o ≡ Ok one → IsOne (byte "C") one) → (o >>= λ close. Ok (close ++ sync_frame)) ≡ Ok part → IsWholeRequest part
closed (Ok one) part a e = subst IsWholeRequest (ap frame-in e) (closing one (a one refl))
closed (Err fault) part a e = absurd cc

written-ok : (o : Result (List ℕ) FrameFault) (part : List ℕ) → written o ≡ Some part → o ≡ Ok part
written-ok (Ok x) part e = let same : x ≡ part = cc in ap (λ (l : List ℕ). let r : Result (List ℕ) FrameFault = Ok l in r) same
written-ok (Err fault) part e = absurd cc

pub whole-closing : (name : List ℕ) (part : List ℕ) → close_request name ≡ Ok part → IsWholeRequest part
whole-closing name part e = closed (close_frame (byte "S") name) part (λ one is. one-tagged (byte "C") (name ∷ []) [] (byte "S" ∷ text0 name) one is) e

pub whole-close : (name : List ℕ) (part : List ℕ) → close_part name ≡ Some part → IsWholeRequest part
whole-close name part e = whole-closing name part (written-ok (close_request name) part e)

-- ---- the name of a statement that is prepared

-- no digit is a zero byte
digits-no_zero : (text : List ℕ) → AllDigits 10 text → has_zero text ≡ false
digits-no_zero [] digits = refl
digits-no_zero (zero ∷ text) digits = let low : digit_value 0 < 10 = digits.0 in absurd (omega (arith, low))
digits-no_zero (suc b ∷ text) digits = ap (λ first. first || has_zero text) (ne_eqb (suc b) 0 (λ e. omega (arith, e))) ∙ digits-no_zero text digits.1

named-no_zero : (n : ℕ) → n < 2 ^ 32 → has_zero (statement_name n) ≡ false
named-no_zero n low = digits-no_zero (decimal n) (decimal_is_IsNumeral n (omega (arith, low))).0.1

-- the frame of a body that is short, and of a text without a zero byte
frame-written : (tag : ℕ) (text body : List ℕ) → has_zero text ≡ false → length body < 100 → tagged_frame tag (text ∷ []) [] body ≡ Ok (tagged tag body)
frame-written tag text body none short = by (has_zero text) (nat_lt 2147483647 (4 + length body)) none refl
  where
    by : (a c : Bool) → a ≡ false → nat_lt 2147483647 (4 + length body) ≡ c →
        unless_fault (if a || false then Some ZeroByte else if false then Some TooMany else if c then Some TooLong else None) (tagged tag body) ≡ Ok (tagged tag body)
    by true c none is = absurd cc
    by false true none is = let high : 2147483647 < 4 + length body = grind (arith, nat_tests) in absurd (omega (arith, high, short))
    by false false none is = refl

part-written : (o : Result (List ℕ) FrameFault) (frame : List ℕ) → o ≡ Ok frame → written (o >>= λ close. Ok (close ++ sync_frame)) ≢ None
part-written (Ok one) frame is = λ e. cc
part-written (Err fault) frame is = absurd cc

name-short : (digits : List ℕ) → length digits ≤ 10 → length (byte "S" ∷ text0 (byte "s" ∷ digits)) < 100
name-short digits few =
    let end : length (digits ++ 0 ∷ []) ≡ length digits + 1 = length-append digits (0 ∷ []) in
    let short : suc (suc (length (digits ++ 0 ∷ []))) < 100 = omega (arith, end, few) in
    short

-- it can be closed
pub prepared-closes : (n : ℕ) → n < 2 ^ 32 → close_part (statement_name n) ≢ None
prepared-closes n low =
    let name = statement_name n in
    let short = name-short (decimal n) (length-decimal-le 10 n (omega arith) (omega (arith, low)) (omega (arith, low))) in
    part-written (close_frame (byte "S") name) (tagged (byte "C") (byte "S" ∷ text0 name)) (frame-written (byte "C") name (byte "S" ∷ text0 name) (named-no_zero n low) short)
