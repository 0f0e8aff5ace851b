-- Frames that were written are read back.
use Rattle.std.proofs.Common.{◌≡◌, ℕ, ◌+◌, ◌^◌, ◌<◌, ◌≤◌, Bool, true, false, cond, inl, inr, List, [], ◌∷◌, ◌++◌, length, Option, Some, None, Result, Ok, refl, ap, ◌∙◌, arith, append_assoc, append-nil, length-append, ℤ}
use mir.Val.{SFits}
use Rattle.std.specs.Prelude.{nat_lt, flat_map, IsTrue}
use Rattle.std.specs.List.{list_any, AllByRecursion}
use Rattle.std.specs.Option.{option_and_then}
use Rattle.std.specs.Int.{w16, w32, to_be_bytes, cast_unsigned}
use Rattle.std.proofs.lemmas.Bool.{lt-ltb, cases_lt}
use Rattle.pg_spec.specs.Bytes.{◌>>=◌, number_at, signed_at, text0, text0_at, if_all_read}
use Rattle.pg_spec.specs.Faults as spec
use Rattle.pg_spec.specs.Frames as frames
use Rattle.pg_spec.specs.Frames.{has_zero, unless_fault, tagged, tagged_frame, value_bytes}
use Rattle.pg_spec.specs.RawMessages.{RawMessage}
use Rattle.pg_spec.proofs.Readers.{number_at_front}
use Rattle.pg_spec.proofs.MessageLaws.{message_at_front}
use Rattle.pg_spec.specs.ClientFrames as found
use Rattle.pg_spec.specs.ClientFrames.{ClientFrame, one_text, counted_at, value_at, parsing, binding, target, executing, is_variant, client_frame_of, client_frame_at, password_of, sasl_initial_of}
use Rattle.pg_wire.specs.Items.{oid_bytes, format_item, format_bytes}
use Rattle.pg_wire.proofs.Written.{are_many}
use Rattle.pg_wire.proofs.Numbers.{or_false, text0_front, text0_whole, signed16_front, signed32_front, ReadsBack, counted_front, value_front, values_fit}

-- ---- any tagged frame

-- it was written, so nothing is wrong with it
pub record IsFrame (tag : ℕ) (texts : List (List ℕ)) (counts body bytes : List ℕ) : Type 0 where
  pub no_zero : list_any has_zero texts ≡ false
  pub few : are_many counts ≡ false
  pub short : 4 + length body < 2 ^ 31
  pub spelled : bytes ≡ tagged tag body

abbrev by_tests : Bool → Bool → Bool → List ℕ → Result (List ℕ) spec.FrameFault
by_tests zeros many long bytes = unless_fault (cond zeros (Some spec.ZeroByte) (cond many (Some spec.TooMany) (cond long (Some spec.TooLong) None))) bytes

not_above : (n m : ℕ) → nat_lt n m ≡ false → m ≤ n
not_above n m e = elim (cases_lt n m) [
  | inl less ↦ absurd (both (nat_lt n m) (lt-ltb n m less) e)
  | inr enough ↦ enough
]
  where
    both : (b : Bool) → b ≡ true → b ≡ false → ⊥
    both b yes_it is = cc

pub is_frame : (tag : ℕ) (texts : List (List ℕ)) (counts body bytes : List ℕ) → tagged_frame tag texts counts body ≡ Ok bytes → IsFrame tag texts counts body bytes
is_frame tag texts counts body bytes written =
    by_cases (list_any has_zero texts) (are_many counts) (nat_lt 2147483647 (4 + length body)) refl refl refl written
  where
    by_cases : (zeros many long : Bool) → list_any has_zero texts ≡ zeros → are_many counts ≡ many → nat_lt 2147483647 (4 + length body) ≡ long →
        by_tests zeros many long (tagged tag body) ≡ Ok bytes → IsFrame tag texts counts body bytes
    by_cases true many long z m l e = absurd cc
    by_cases false true long z m l e = absurd cc
    by_cases false false true z m l e = absurd cc
    by_cases false false false z m l e = record { no_zero = z; few = m; short = omega (arith, not_above 2147483647 (4 + length body) l); spelled = cc }

pub in_front : (tag : ℕ) (texts : List (List ℕ)) (counts body bytes more : List ℕ) (frame : ClientFrame) → IsFrame tag texts counts body bytes →
    client_frame_of (record { tag = tag; body = body }) ≡ Some frame → client_frame_at (bytes ++ more) ≡ Some (frame, more)
in_front tag texts counts body bytes more frame is means =
    ap (λ (b : List ℕ). client_frame_at (b ++ more)) is.spelled
    ∙ ap (option_and_then (λ (raw : RawMessage × List ℕ). client_frame_of raw.0 >>= λ f. Some (f, raw.1)))
    (message_at_front (record { tag = tag; body = body }) more is.short)
    ∙ ap (option_and_then (λ (f : ClientFrame). Some (f, more))) means

pub first_text : (a : List ℕ) (others : List (List ℕ)) → list_any has_zero (a ∷ others) ≡ false → has_zero a ≡ false
first_text a others e = (or_false (has_zero a) (list_any has_zero others) e).0

pub second_text : (a b : List ℕ) (others : List (List ℕ)) → list_any has_zero (a ∷ b ∷ others) ≡ false → has_zero b ≡ false
second_text a b others e = first_text b others (or_false (has_zero a) (list_any has_zero (b ∷ others)) e).1

pub first_count : (n : ℕ) (others : List ℕ) → are_many (n ∷ others) ≡ false → n < 2 ^ 16
first_count n others e = omega (arith, not_above 65535 n (or_false (nat_lt 65535 n) (are_many others) e).0)

pub second_count : (n m : ℕ) (others : List ℕ) → are_many (n ∷ m ∷ others) ≡ false → m < 2 ^ 16
second_count n m others e = first_count m others (or_false (nat_lt 65535 n) (are_many (m ∷ others)) e).1

-- ---- frames of one text

one_text_whole : (frame : List ℕ → ClientFrame) (t : List ℕ) → has_zero t ≡ false → one_text frame (text0 t) ≡ Some (frame t)
one_text_whole frame t e = ap (option_and_then (λ (text : List ℕ × List ℕ). if_all_read (frame text.0, text.1))) (text0_whole t e)

pub query_back : (text bytes more : List ℕ) → frames.query_frame text ≡ Ok bytes → client_frame_at (bytes ++ more) ≡ Some (found.Query text, more)
query_back text bytes more written =
    let is = is_frame 81 (text ∷ []) [] (text0 text) bytes written in
    in_front 81 (text ∷ []) [] (text0 text) bytes more (found.Query text) is (one_text_whole found.Query text (first_text text [] is.no_zero))

pub copy_fail_back : (message bytes more : List ℕ) → frames.copy_fail_frame message ≡ Ok bytes → client_frame_at (bytes ++ more) ≡ Some (found.CopyFail message, more)
copy_fail_back message bytes more written =
    let is = is_frame 102 (message ∷ []) [] (text0 message) bytes written in
    in_front 102 (message ∷ []) [] (text0 message) bytes more (found.CopyFail message) is
    (one_text_whole found.CopyFail message (first_text message [] is.no_zero))

-- ---- statements and portals

target_whole : (frame : ℕ → List ℕ → ClientFrame) (variant : ℕ) (name : List ℕ) → IsTrue (is_variant variant) → has_zero name ≡ false →
    target frame (variant ∷ text0 name) ≡ Some (frame variant name)
target_whole frame variant name meant e =
    ap (option_and_then (λ (text : List ℕ × List ℕ). cond (is_variant variant) (if_all_read (frame variant text.0, text.1)) None)) (text0_whole name e)
    ∙ ap (λ b. cond b (Some (frame variant name)) None) meant

pub describe_back : (variant : ℕ) (name bytes more : List ℕ) → IsTrue (is_variant variant) → frames.describe_frame variant name ≡ Ok bytes →
    client_frame_at (bytes ++ more) ≡ Some (found.Describe variant name, more)
describe_back variant name bytes more meant written =
    let is = is_frame 68 (name ∷ []) [] (variant ∷ text0 name) bytes written in
    in_front 68 (name ∷ []) [] (variant ∷ text0 name) bytes more (found.Describe variant name) is
    (target_whole found.Describe variant name meant (first_text name [] is.no_zero))

pub close_back : (variant : ℕ) (name bytes more : List ℕ) → IsTrue (is_variant variant) → frames.close_frame variant name ≡ Ok bytes →
    client_frame_at (bytes ++ more) ≡ Some (found.Close variant name, more)
close_back variant name bytes more meant written =
    let is = is_frame 67 (name ∷ []) [] (variant ∷ text0 name) bytes written in
    in_front 67 (name ∷ []) [] (variant ∷ text0 name) bytes more (found.Close variant name) is
    (target_whole found.Close variant name meant (first_text name [] is.no_zero))

execute_taken : (s r : List ℕ) (portal : List ℕ) (max_rows : ℤ) → text0_at s ≡ Some (portal, r) → signed_at w32 r ≡ Some (max_rows, []) →
    executing s ≡ Some (found.Execute portal max_rows)
execute_taken s r portal max_rows e1 e2 = rw (e1, e2) refl

pub execute_back : (portal : List ℕ) (max_rows : ℤ) (bytes more : List ℕ) → SFits w32 max_rows → frames.execute_frame portal max_rows ≡ Ok bytes →
    client_frame_at (bytes ++ more) ≡ Some (found.Execute portal max_rows, more)
execute_back portal max_rows bytes more fits written =
    let digits = to_be_bytes w32 (cast_unsigned w32 max_rows) in
    let is = is_frame 69 (portal ∷ []) [] (text0 portal ++ digits) bytes written in
    in_front 69 (portal ∷ []) [] (text0 portal ++ digits) bytes more (found.Execute portal max_rows) is
    (execute_taken (text0 portal ++ digits) digits portal max_rows (text0_front portal digits (first_text portal [] is.no_zero))
    (signed32_front max_rows [] fits))

-- ---- Parse and Bind

parse_taken : (s r1 r2 name text : List ℕ) (oids : List ℕ) → text0_at s ≡ Some (name, r1) → text0_at r1 ≡ Some (text, r2) →
    counted_at (number_at w32) r2 ≡ Some (oids, []) → parsing s ≡ Some (found.Parse name text oids)
parse_taken s r1 r2 name text oids e1 e2 e3 = rw (e1, e2, e3) refl

oids_read : (oids : List ℕ) → AllByRecursion (λ oid. oid < 2 ^ 32) oids → AllByRecursion (ReadsBack (number_at w32) (to_be_bytes w32)) oids
oids_read [] all = tt
oids_read (oid ∷ oids) all = ((λ more. number_at_front oid more all.0), oids_read oids all.1)

three_behind : (a b c d : List ℕ) → a ++ b ++ c ++ d ≡ a ++ (b ++ (c ++ (d ++ [])))
three_behind a b c d = simp (append_assoc, append-nil)

pub parse_back : (name text : List ℕ) (oids : List ℕ) (bytes more : List ℕ) → AllByRecursion (λ oid. oid < 2 ^ 32) oids →
    frames.parse_frame name text oids ≡ Ok bytes → client_frame_at (bytes ++ more) ≡ Some (found.Parse name text oids, more)
parse_back name text oids bytes more all written =
    let count = to_be_bytes w16 (length oids) in
    let body = text0 name ++ text0 text ++ count ++ oid_bytes oids in
    let r2 = count ++ (oid_bytes oids ++ []) in
    let r1 = text0 text ++ r2 in
    let is = is_frame 80 (name ∷ text ∷ []) (length oids ∷ []) body bytes written in
    in_front 80 (name ∷ text ∷ []) (length oids ∷ []) body bytes more (found.Parse name text oids) is
    (ap parsing (three_behind (text0 name) (text0 text) count (oid_bytes oids))
    ∙ parse_taken (text0 name ++ r1) r1 r2 name text oids (text0_front name r1 (first_text name (text ∷ []) is.no_zero))
    (text0_front text r2 (second_text name text [] is.no_zero))
    (counted_front (number_at w32) (to_be_bytes w32) oids [] (first_count (length oids) [] is.few) (oids_read oids all)))

bind_taken : (s r1 r2 r3 r4 portal statement : List ℕ) (formats : List ℤ) (values : List (Option (List ℕ))) (results : List ℤ) →
    text0_at s ≡ Some (portal, r1) → text0_at r1 ≡ Some (statement, r2) → counted_at (signed_at w16) r2 ≡ Some (formats, r3) →
    counted_at value_at r3 ≡ Some (values, r4) → counted_at (signed_at w16) r4 ≡ Some (results, []) →
    binding s ≡ Some (found.Bind portal statement formats values results)
bind_taken s r1 r2 r3 r4 portal statement formats values results e1 e2 e3 e4 e5 = rw (e1, e2, e3, e4, e5) refl

formats_read : (formats : List ℤ) → AllByRecursion (SFits w16) formats → AllByRecursion (ReadsBack (signed_at w16) format_item) formats
formats_read [] all = tt
formats_read (format ∷ formats) all = ((λ more. signed16_front format more all.0), formats_read formats all.1)

seven_behind : (a b c d e f g h : List ℕ) → a ++ b ++ c ++ d ++ e ++ f ++ g ++ h ≡ a ++ (b ++ (c ++ (d ++ (e ++ (f ++ (g ++ ((h ++ []) ++ [])))))))
seven_behind a b c d e f g h = simp (append_assoc, append-nil)

-- the bytes of a part aren't more than those of the whole
part_fits : (front part behind : List ℕ) (n : ℕ) → length (front ++ part ++ behind) < n → length part < n
part_fits front part behind n fits = omega (arith, fits, length-append (front ++ part) behind, length-append front part)

pub bind_back : (portal statement : List ℕ) (formats : List ℤ) (values : List (Option (List ℕ))) (result : ℤ) (bytes more : List ℕ) →
    AllByRecursion (SFits w16) formats → SFits w16 result → frames.bind_frame portal statement formats values result ≡ Ok bytes →
    client_frame_at (bytes ++ more) ≡ Some (found.Bind portal statement formats values (result ∷ []), more)
bind_back portal statement formats values result bytes more all fits written =
    let number = to_be_bytes w16 (length formats) in
    let count = to_be_bytes w16 (length values) in
    let spelled = flat_map value_bytes values in
    let front = text0 portal ++ text0 statement ++ number ++ format_bytes formats ++ count in
    let body = front ++ spelled ++ to_be_bytes w16 1 ++ format_item result in
    let r4 = to_be_bytes w16 1 ++ (format_bytes (result ∷ []) ++ []) in
    let r3 = count ++ (spelled ++ r4) in
    let r2 = number ++ (format_bytes formats ++ r3) in
    let r1 = text0 statement ++ r2 in
    let is = is_frame 66 (portal ∷ statement ∷ []) (length formats ∷ length values ∷ []) body bytes written in
    let size = length-append (front ++ spelled ++ to_be_bytes w16 1) (format_item result) in
    let room : length (front ++ spelled ++ to_be_bytes w16 1) < 2 ^ 31 = omega (arith, is.short, size) in
    in_front 66 (portal ∷ statement ∷ []) (length formats ∷ length values ∷ []) body bytes more (found.Bind portal statement formats values (result ∷ [])) is
    (ap binding (seven_behind (text0 portal) (text0 statement) number (format_bytes formats) count spelled (to_be_bytes w16 1) (format_item result))
    ∙ bind_taken (text0 portal ++ r1) r1 r2 r3 r4 portal statement formats values (result ∷ [])
    (text0_front portal r1 (first_text portal (statement ∷ []) is.no_zero)) (text0_front statement r2 (second_text portal statement [] is.no_zero))
    (counted_front (signed_at w16) format_item formats r3 (first_count (length formats) (length values ∷ []) is.few) (formats_read formats all))
    (counted_front value_at value_bytes values r4 (second_count (length formats) (length values) [] is.few)
    (values_fit values (part_fits front spelled (to_be_bytes w16 1) (2 ^ 31) room)))
    (counted_front (signed_at w16) format_item (result ∷ []) [] (omega arith) (formats_read (result ∷ []) (fits, tt))))

-- ---- copies, and frames without a body

pub copy_data_back : (piece bytes more : List ℕ) → frames.copy_data_frame piece ≡ Ok bytes → client_frame_at (bytes ++ more) ≡ Some (found.CopyData piece, more)
copy_data_back piece bytes more written =
    in_front 100 [] [] piece bytes more (found.CopyData piece) (is_frame 100 [] [] piece bytes written) refl

-- ---- answers to a request for authentication

pub sasl_back : (response bytes more : List ℕ) → frames.sasl_frame response ≡ Ok bytes → client_frame_at (bytes ++ more) ≡ Some (found.Answer response, more)
sasl_back response bytes more written =
    in_front 112 [] [] response bytes more (found.Answer response) (is_frame 112 [] [] response bytes written) refl

pub password_back : (password bytes more : List ℕ) → frames.password_frame password ≡ Ok bytes →
    (body : List ℕ) × (client_frame_at (bytes ++ more) ≡ Some (found.Answer body, more)) × (password_of body ≡ Some password)
password_back password bytes more written =
    let is = is_frame 112 (password ∷ []) [] (text0 password) bytes written in (
      text0 password,
      in_front 112 (password ∷ []) [] (text0 password) bytes more (found.Answer (text0 password)) is refl,
      ap (option_and_then if_all_read) (text0_whole password (first_text password [] is.no_zero)),
    )

initial_taken : (s r mechanism response : List ℕ) → text0_at s ≡ Some (mechanism, r) → value_at r ≡ Some (Some response, []) →
    sasl_initial_of s ≡ Some (mechanism, Some response)
initial_taken s r mechanism response e1 e2 = rw (e1, e2) refl

pub sasl_initial_back : (mechanism response bytes more : List ℕ) → frames.sasl_initial_frame mechanism response ≡ Ok bytes →
    (body : List ℕ) × (client_frame_at (bytes ++ more) ≡ Some (found.Answer body, more)) × (sasl_initial_of body ≡ Some (mechanism, Some response))
sasl_initial_back mechanism response bytes more written =
    let sized = value_bytes (Some response) in
    let body = text0 mechanism ++ to_be_bytes w32 (length response) ++ response in
    let is = is_frame 112 (mechanism ∷ []) [] body bytes written in
    let r = sized ++ [] in
    let behind : body ≡ text0 mechanism ++ r = simp (append_assoc, append-nil) in
    let room : length sized < 2 ^ 31 = omega (
      arith,
      is.short,
      length-append (text0 mechanism ++ to_be_bytes w32 (length response)) response,
      length-append (text0 mechanism) (to_be_bytes w32 (length response)),
      length-append (to_be_bytes w32 (length response)) response,
    ) in (
      body,
      in_front 112 (mechanism ∷ []) [] body bytes more (found.Answer body) is refl,
      ap sasl_initial_of behind
          ∙ initial_taken (text0 mechanism ++ r) r mechanism response (text0_front mechanism r (first_text mechanism [] is.no_zero))
          (value_front (Some response) room []),
    )
