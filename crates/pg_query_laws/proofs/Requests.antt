-- Frames of which the last is a Sync are a whole request.
use Rattle.std.proofs.Common.{◌≡◌, ◌<◌, ◌≤◌, ℕ, ◌+◌, ◌^◌, List, [], ◌∷◌, ◌++◌, length, Bool, true, false, if◌then◌else◌, nat_lt, Option, Some, None, Result, Ok, Err, refl, sym, ap, subst, ◌∙◌, append-nil, append_assoc, arith}
use Rattle.std.specs.Prelude.{ℤ}
use Rattle.std.specs.List.{flat_map, list_any, AllByRecursion}
use Rattle.std.specs.Int.{w16, w32, to_be_bytes, cast_unsigned}
use Rattle.std.specs.Str.{byte}
use Rattle.std.proofs.lemmas.Bool.Decides.{nat_tests}
use Rattle.pg_spec.specs.Bytes.{text0}
use Rattle.pg_spec.specs.Faults.{◌>>=◌, FrameFault, ZeroByte, TooMany, TooLong}
use Rattle.pg_spec.specs.Frames.{bind_frame, describe_frame, execute_frame, has_zero, parse_frame, sync_frame, tagged, tagged_frame, unless_fault, value_bytes}
use Rattle.pg_spec.specs.RawMessages.{RawMessage, message_at, message_bytes, messages, bytes_left}
use Rattle.pg_spec.proofs.MessageLaws.{Fits, messages-join, message_at_front, message_at-Shrinks}
use Rattle.pg_spec.proofs.Readers.{items_of-some}
use Rattle.pg_core.specs.Composing.{or_encode}
use Rattle.pg_session.specs.Speeches.{EndsAlone, IsWholeRequest}

-- ---- frames by their messages

-- nothing is left behind whole messages
none-left : (ms : List RawMessage) → AllByRecursion Fits ms → bytes_left (flat_map message_bytes ms) ≡ []
none-left [] fits = refl
none-left (m ∷ ms) fits =
    ap (λ (p : List RawMessage × List ℕ). p.1)
    (items_of-some message_at message_at-Shrinks (message_bytes m ++ flat_map message_bytes ms) m (flat_map message_bytes ms) (message_at_front m (flat_map message_bytes ms) fits.0))
    ∙ none-left ms fits.1

-- so they are a whole request, where the last one ends it
pub whole-of : (ms : List RawMessage) (part : List ℕ) → AllByRecursion Fits ms → EndsAlone ms → part ≡ flat_map message_bytes ms → IsWholeRequest part
whole-of ms part fits ends is = record {
  whole = ap bytes_left is ∙ none-left ms fits;
  frames = subst EndsAlone (sym (ap messages (is ∙ sym (append-nil (flat_map message_bytes ms))) ∙ messages-join ms [] fits ∙ append-nil ms)) ends;
}

-- ---- frames that were written

-- a request that can't be made is an error
pub made-ok : (o : Result (List ℕ) FrameFault) (x : List ℕ) → or_encode o ≡ Ok x → o ≡ Ok x
made-ok (Ok part) x e = let same : part ≡ x = cc in ap (λ (l : List ℕ). let r : Result (List ℕ) FrameFault = Ok l in r) same
made-ok (Err fault) x e = absurd cc

-- a frame is one message of this tag
pub record IsOne (tag : ℕ) (frame : List ℕ) : Type 0 where
  pub body : List ℕ
  pub is : frame ≡ message_bytes (record { tag = tag; body = body })
  pub fits : 4 + length body < 2 ^ 31

-- the frame that was written
abbrev pub frame-in : Result (List ℕ) FrameFault → List ℕ
frame-in (Ok frame) = frame
frame-in (Err fault) = []

pub one-tagged : (tag : ℕ) (texts : List (List ℕ)) (counts : List ℕ) (body frame : List ℕ) → tagged_frame tag texts counts body ≡ Ok frame → IsOne tag frame
one-tagged tag texts counts body frame e = by (list_any has_zero texts) (list_any (λ count. nat_lt 65535 count) counts) (nat_lt 2147483647 (4 + length body)) refl e
  where
    by : (a b c : Bool) → nat_lt 2147483647 (4 + length body) ≡ c →
        unless_fault (if a then Some ZeroByte else if b then Some TooMany else if c then Some TooLong else None) (tagged tag body) ≡ Ok frame → IsOne tag frame
    by true b c is e = absurd cc
    by false true c is e = absurd cc
    by false false true is e = absurd cc
    by false false false is e = record {
      body = body;
      is = sym (ap frame-in e);
      fits = let high : 4 + length body ≤ 2147483647 = grind (arith, nat_tests) in omega (arith, high);
    }

pub sync-fits : 4 + length {A = ℕ} [] < 2 ^ 31
sync-fits = omega arith

-- two frames and a Sync
three : (first second : ℕ) (one two : List ℕ) → IsOne first one → IsOne second two → ((body next : List ℕ) → EndsAlone (record { tag = first; body = body } ∷ record { tag = second; body = next } ∷ record { tag = byte "S"; body = [] } ∷ [])) →
    IsWholeRequest (one ++ two ++ sync_frame)
three first second one two a b ends =
    let m : RawMessage = record { tag = first; body = a.body } in
    let n : RawMessage = record { tag = second; body = b.body } in
    let s : RawMessage = record { tag = byte "S"; body = [] } in
    whole-of (m ∷ n ∷ s ∷ []) (one ++ two ++ sync_frame) (a.fits, (b.fits, (sync-fits, tt))) (ends a.body b.body)
    (ap (λ (x : List ℕ). x ++ two ++ sync_frame) a.is ∙ ap (λ (x : List ℕ). message_bytes m ++ x ++ sync_frame) b.is
    ∙ ap (λ (x : List ℕ). message_bytes m ++ message_bytes n ++ x) (sym (append-nil (message_bytes s)))
    ∙ append_assoc (message_bytes m) (message_bytes n) (message_bytes s ++ []))

-- two frames, one behind the other, and a Sync
abbrev both : Result (List ℕ) FrameFault → Result (List ℕ) FrameFault → Result (List ℕ) FrameFault
both x y = x >>= λ one. y >>= λ two. Ok (one ++ two ++ sync_frame)

both-whole : (first second : ℕ) (x y : Result (List ℕ) FrameFault) (part : List ℕ) → ((one : List ℕ) → x ≡ Ok one → IsOne first one) → ((two : List ℕ) → y ≡ Ok two → IsOne second two) →
    ((body next : List ℕ) → EndsAlone (record { tag = first; body = body } ∷ record { tag = second; body = next } ∷ record { tag = byte "S"; body = [] } ∷ [])) → both x y ≡ Ok part → IsWholeRequest part
both-whole first second (Ok one) (Ok two) part a b ends e = subst IsWholeRequest (ap frame-in e) (three first second one two (a one refl) (b two refl) ends)
both-whole first second (Ok one) (Err fault) part a b ends e = absurd cc
both-whole first second (Err fault) y part a b ends e = absurd cc

-- Parse, Describe, Sync
pub whole-prepare : (name text : List ℕ) (oids : List ℕ) (part : List ℕ) → both (parse_frame name text oids) (describe_frame (byte "S") name) ≡ Ok part → IsWholeRequest part
whole-prepare name text oids part e =
    both-whole (byte "P") (byte "D") (parse_frame name text oids) (describe_frame (byte "S") name) part
    (λ one is. one-tagged (byte "P") (name ∷ text ∷ []) (length oids ∷ []) (text0 name ++ text0 text ++ to_be_bytes w16 (length oids) ++ flat_map (to_be_bytes w32) oids) one is)
    (λ two is. one-tagged (byte "D") (name ∷ []) [] (byte "S" ∷ text0 name) two is) (λ body next. (refl, refl, refl, (refl, refl, refl, refl))) e

-- Bind, Execute, Sync
pub whole-execute : (portal name : List ℕ) (formats : List ℤ) (values : List (Option (List ℕ))) (format rows : ℤ) (part : List ℕ) → both (bind_frame portal name formats values format) (execute_frame portal rows) ≡ Ok part →
    IsWholeRequest part
whole-execute portal name formats values format rows part e =
    both-whole (byte "B") (byte "E") (bind_frame portal name formats values format) (execute_frame portal rows) part
    (λ one is.
    one-tagged (byte "B") (portal ∷ name ∷ []) (length formats ∷ length values ∷ [])
    (text0 portal ++ text0 name ++ to_be_bytes w16 (length formats) ++ flat_map (λ format. to_be_bytes w16 (cast_unsigned w16 format)) formats
    ++ to_be_bytes w16 (length values) ++ flat_map value_bytes values ++ to_be_bytes w16 1 ++ to_be_bytes w16 (cast_unsigned w16 format)) one is)
    (λ two is. one-tagged (byte "E") (portal ∷ []) [] (text0 portal ++ to_be_bytes w32 (cast_unsigned w32 rows)) two is) (λ body next. (refl, refl, refl, (refl, refl, refl, refl))) e
