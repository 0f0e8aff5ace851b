-- The frame of a simple query is a whole request.
use Rattle.std.proofs.Common.{◌≡◌, ◌<◌, ◌≤◌, ℕ, ◌+◌, ◌^◌, List, [], ◌∷◌, ◌++◌, length, Bool, true, false, if◌then◌else◌, Some, None, Result, Ok, Err, refl, sym, ap, subst, ◌∙◌, append-nil, arith, nat_lt}
use Rattle.std.specs.List.{list_any}
use Rattle.std.specs.Str.{byte}
use Rattle.std.proofs.lemmas.Bool.Decides.{nat_tests}
use Rattle.pg_spec.specs.Bytes.{text0}
use Rattle.pg_spec.specs.Faults.{FrameFault, ZeroByte, TooMany, TooLong}
use Rattle.pg_spec.specs.Frames.{has_zero, query_frame, tagged, unless_fault}
use Rattle.pg_spec.specs.RawMessages.{RawMessage, message_at, message_bytes, messages, bytes_left}
use Rattle.pg_spec.proofs.MessageLaws.{messages-front, message_at_front, message_at-Shrinks}
use Rattle.pg_spec.proofs.Readers.{items_of-some}
use Rattle.pg_session.specs.Speeches.{EndsAlone, IsWholeRequest}

-- the part is one Query
pub record IsQuery (part : List ℕ) : Type 0 where
  pub body : List ℕ
  pub is : part ≡ message_bytes (record { tag = byte "Q"; body = body })
  pub fits : 4 + length body < 2 ^ 31

-- the frame that was written
abbrev frame-in : Result (List ℕ) FrameFault → List ℕ
frame-in (Ok frame) = frame
frame-in (Err fault) = []

pub a-query : (text frame : List ℕ) → query_frame text ≡ Ok frame → IsQuery frame
a-query text frame e = by_tests (list_any has_zero (text ∷ [])) (nat_lt 2147483647 (4 + length (text0 text))) refl e
  where
    by_tests : (a c : Bool) → nat_lt 2147483647 (4 + length (text0 text)) ≡ c →
        unless_fault (if a then Some ZeroByte else if list_any (λ count. nat_lt 65535 count) [] then Some TooMany else if c then Some TooLong else None) (tagged (byte "Q") (text0 text)) ≡ Ok frame → IsQuery frame
    by_tests true c is e = absurd cc
    by_tests false true is e = absurd cc
    by_tests false false is e = record {
      body = text0 text;
      is = sym (ap frame-in e);
      fits = let high : 4 + length (text0 text) ≤ 2147483647 = grind (arith, nat_tests) in omega (arith, high);
    }

-- what is read off it
reads-query : (part : List ℕ) → (q : IsQuery part) → messages part ≡ record { tag = byte "Q"; body = q.body } ∷ []
reads-query part q =
    let m : RawMessage = record { tag = byte "Q"; body = q.body } in
    ap messages (q.is ∙ sym (append-nil (message_bytes m))) ∙ messages-front m [] q.fits

none-left : (m : RawMessage) (part : List ℕ) → part ≡ message_bytes m → 4 + length m.body < 2 ^ 31 → bytes_left part ≡ []
none-left m part is fits =
    ap bytes_left (is ∙ sym (append-nil (message_bytes m)))
    ∙ ap (λ (p : List RawMessage × List ℕ). p.1) (items_of-some message_at message_at-Shrinks (message_bytes m ++ []) m [] (message_at_front m [] fits))

pub whole-query : (text frame : List ℕ) → query_frame text ≡ Ok frame → IsWholeRequest frame
whole-query text frame e =
    let q = a-query text frame e in
    record {
      whole = none-left (record { tag = byte "Q"; body = q.body }) frame q.is q.fits;
      frames = subst EndsAlone (sym (reads-query frame q)) refl;
    }
