-- A frame of several parts: what was appended is the frame, and what is refused is refused by it.
use Rattle.std.proofs.Common.{◌≡◌, ℕ, ◌+◌, ◌-◌, ◌*◌, ◌^◌, ◌<◌, ◌≤◌, Bool, false, cond, List, [], ◌∷◌, ◌++◌, length, min, Option, Some, None, Result, Ok, refl, sym, ap, subst, ◌∙◌, arith, append_assoc, length-append, ℤ}
use Rattle.std.specs.Prelude.{◌||◌, nat_lt, flat_map}
use Rattle.std.specs.List.{list_any}
use Rattle.std.specs.Int.{w16, w32, to_be_bytes}
use Rattle.std.proofs.lemmas.Bool.{lt-ltb, le-ltb}
use Rattle.pg_spec.specs.Bytes.{text0}
use Rattle.pg_spec.specs.Faults as spec
use Rattle.pg_spec.specs.Frames.{has_zero, unless_fault, tagged, tagged_frame, value_bytes, parse_frame, bind_frame}
use Rattle.pg_types.specs.declared.faults.FrameFault.{FrameFault}
use Rattle.pg_types.specs.declared.faults.FrameFault.TheVariants as frame
use Rattle.pg_wire.specs.Faults as faults
use Rattle.pg_wire.specs.Writes.{IsRefusal}
use Rattle.pg_wire.specs.Begins.{Begins, RefusedFor, RefusesLength}
use Rattle.pg_wire.specs.Items.{oid_bytes, format_item, format_bytes, SpellValues}

-- ---- any tagged frame

-- what the three tests make of the frame
abbrev by_tests : Bool → Bool → Bool → List ℕ → Result (List ℕ) spec.FrameFault
by_tests zeros many long bytes = unless_fault (cond zeros (Some spec.ZeroByte) (cond many (Some spec.TooMany) (cond long (Some spec.TooLong) None))) bytes

-- a count passes its field
abbrev pub are_many : List ℕ → Bool
are_many counts = list_any (λ count. nat_lt 65535 count) counts

by_length : (tag : ℕ) (texts : List (List ℕ)) (counts body : List ℕ) → list_any has_zero texts ≡ false → are_many counts ≡ false →
    tagged_frame tag texts counts body ≡ by_tests false false (nat_lt 2147483647 (4 + length body)) (tagged tag body)
by_length tag texts counts body no_zeros few =
    ap (λ b. by_tests b (are_many counts) (nat_lt 2147483647 (4 + length body)) (tagged tag body)) no_zeros
    ∙ ap (λ b. by_tests false b (nat_lt 2147483647 (4 + length body)) (tagged tag body)) few

pub tagged_written : (tag : ℕ) (texts : List (List ℕ)) (counts body : List ℕ) (size spare : ℕ) (old mid new : List ℕ) →
    list_any has_zero texts ≡ false → are_many counts ≡ false → Begins tag size old mid spare → size ≡ length body → new ≡ mid ++ body →
    (bytes : List ℕ) × (tagged_frame tag texts counts body ≡ Ok bytes) × (new ≡ old ++ bytes)
tagged_written tag texts counts body size spare old mid new no_zeros few begins is put =
    let short : 4 + length body ≤ 2147483647 = omega (arith, begins.fits, is) in (
      tagged tag body,
      by_length tag texts counts body no_zeros few
          ∙ ap (λ b. by_tests false false b (tagged tag body)) (le-ltb 2147483647 (4 + length body) short),
      put ∙ ap (λ (x : List ℕ). x ++ body) (begins.header ∙ ap (λ (k : ℕ). old ++ tag ∷ to_be_bytes w32 (4 + k)) is)
          ∙ append_assoc old (tag ∷ to_be_bytes w32 (4 + length body)) body,
    )

pub tagged_refused : (tag : ℕ) (texts : List (List ℕ)) (counts body : List ℕ) (size : ℕ) (old new : List ℕ) (fault : FrameFault) →
    list_any has_zero texts ≡ false → are_many counts ≡ false → (2147483647 < 4 + size → 2147483647 < 4 + length body) → RefusesLength size old new fault →
    IsRefusal (tagged_frame tag texts counts body) (faults.frame_fault fault) × (new ≡ old)
tagged_refused tag texts counts body size old new fault no_zeros few past refuses = (by_fault fault refuses.cause, refuses.same)
  where
    by_fault : (fault : FrameFault) → RefusedFor size fault → IsRefusal (tagged_frame tag texts counts body) (faults.frame_fault fault)
    by_fault frame.TooLong long =
        by_length tag texts counts body no_zeros few
        ∙ ap (λ b. by_tests false false b (tagged tag body)) (lt-ltb 2147483647 (4 + length body) (past long))
    by_fault frame.OutOfMemory cause = tt
    by_fault frame.ZeroByte cause = absurd cause
    by_fault frame.TooMany cause = absurd cause

-- ---- two texts and their counts

pub no_zero_in_two : (a b : List ℕ) → false ≡ has_zero a → false ≡ has_zero b → list_any has_zero (a ∷ b ∷ []) ≡ false
no_zero_in_two a b first second =
    ap (λ x. x || (has_zero b || false)) (sym first) ∙ ap (λ x. x || false) (sym second)

pub few_in_one : (n : ℕ) → n ≤ 65535 → are_many (n ∷ []) ≡ false
few_in_one n few = ap (λ x. x || false) (le-ltb 65535 n few)

pub few_in_two : (n m : ℕ) → n ≤ 65535 → m ≤ 65535 → are_many (n ∷ m ∷ []) ≡ false
few_in_two n m few also = ap (λ x. x || (nat_lt 65535 m || false)) (le-ltb 65535 n few) ∙ ap (λ x. x || false) (le-ltb 65535 m also)

-- ---- Parse

oids_size : (oids : List ℕ) → length (oid_bytes oids) ≡ 4 * length oids
oids_size [] = refl
oids_size (oid ∷ oids) = omega (arith, length-append (to_be_bytes w32 oid) (oid_bytes oids), oids_size oids)

-- what stands behind the length of Parse
abbrev parse_body : List ℕ → List ℕ → List ℕ → List ℕ
parse_body name text oids = text0 name ++ text0 text ++ to_be_bytes w16 (length oids) ++ oid_bytes oids

parse_size : (name text oids : List ℕ) → length (parse_body name text oids) ≡ length oids * 4 + 4 + length name + length text
parse_size name text oids =
    omega (
      arith,
      length-append (text0 name ++ text0 text ++ to_be_bytes w16 (length oids)) (oid_bytes oids),
      oids_size oids,
      length-append (text0 name ++ text0 text) (to_be_bytes w16 (length oids)),
      length-append (text0 name) (text0 text),
      length-append name (0 ∷ []),
      length-append text (0 ∷ []),
    )

pub parse_refused : (name text seen_name seen_text oids : List ℕ) (some size : ℕ) (old new : List ℕ) (fault : FrameFault) → seen_name ≡ name → seen_text ≡ text →
    false ≡ has_zero seen_name → false ≡ has_zero seen_text → length oids ≤ 65535 →
    some ≡ min (length oids * 4 + 4 + length seen_name) (2 ^ 64 - 1) → size ≡ min (some + length seen_text) (2 ^ 64 - 1) →
    RefusesLength size old new fault → IsRefusal (parse_frame name text oids) (faults.frame_fault fault) × (new ≡ old)
parse_refused name text seen_name seen_text oids some size old new fault same also no_zero nor few is sum refuses =
    tagged_refused 80 (name ∷ text ∷ []) (length oids ∷ []) (parse_body name text oids) size old new fault
    (no_zero_in_two name text (no_zero ∙ ap has_zero same) (nor ∙ ap has_zero also)) (few_in_one (length oids) few)
    (λ long. omega (arith, parse_size name text oids, ap length same, ap length also, is, sum, long)) refuses

put_four : (mid a b c d n1 n2 n3 n4 : List ℕ) → n1 ≡ mid ++ a → n2 ≡ n1 ++ b → n3 ≡ n2 ++ c → n4 ≡ n3 ++ d → n4 ≡ mid ++ (a ++ b ++ c ++ d)
put_four mid a b c d n1 n2 n3 n4 e1 e2 e3 e4 = rw (e4, e3, e2, e1) (simp append_assoc)

pub parse_written : (name text seen_name seen_text oids : List ℕ) (some size spare : ℕ) (old mid n1 n2 n3 new : List ℕ) → seen_name ≡ name → seen_text ≡ text →
    false ≡ has_zero seen_name → false ≡ has_zero seen_text → length oids ≤ 65535 →
    some ≡ min (length oids * 4 + 4 + length seen_name) (2 ^ 64 - 1) → size ≡ min (some + length seen_text) (2 ^ 64 - 1) →
    Begins 80 size old mid spare → n1 ≡ mid ++ text0 seen_name → n2 ≡ n1 ++ text0 seen_text → n3 ≡ n2 ++ to_be_bytes w16 (length oids) →
    new ≡ n3 ++ oid_bytes oids → (bytes : List ℕ) × (parse_frame name text oids ≡ Ok bytes) × (new ≡ old ++ bytes)
parse_written name text seen_name seen_text oids some size spare old mid n1 n2 n3 new same also no_zero nor few is sum begins e1 e2 e3 e4 =
    tagged_written 80 (name ∷ text ∷ []) (length oids ∷ []) (parse_body name text oids) size spare old mid new
    (no_zero_in_two name text (no_zero ∙ ap has_zero same) (nor ∙ ap has_zero also)) (few_in_one (length oids) few) begins
    (omega (arith, parse_size name text oids, ap length same, ap length also, is, sum, begins.fits))
    (put_four mid (text0 name) (text0 text) (to_be_bytes w16 (length oids)) (oid_bytes oids) n1 n2 n3 new
    (e1 ∙ ap (λ (x : List ℕ). mid ++ text0 x) same) (e2 ∙ ap (λ (x : List ℕ). n1 ++ text0 x) also) e3 e4)

-- ---- Bind

formats_size : (formats : List ℤ) → length (format_bytes formats) ≡ 2 * length formats
formats_size [] = refl
formats_size (format ∷ formats) = omega (arith, length-append (format_item format) (format_bytes formats), formats_size formats)

-- what stands behind the length of Bind
abbrev bind_body : List ℕ → List ℕ → List ℤ → ℕ → List ℕ → ℤ → List ℕ
bind_body portal statement formats count values result =
    text0 portal ++ text0 statement ++ to_be_bytes w16 (length formats) ++ format_bytes formats ++ to_be_bytes w16 count ++ values
    ++ to_be_bytes w16 1 ++ format_item result

-- the frame of these values, by their number and their bytes
abbrev bind_of : List ℕ → List ℕ → List ℤ → ℕ → List ℕ → ℤ → Result (List ℕ) spec.FrameFault
bind_of portal statement formats count values result =
    tagged_frame 66 (portal ∷ statement ∷ []) (length formats ∷ count ∷ []) (bind_body portal statement formats count values result)

pub bind_is : (portal statement : List ℕ) (formats : List ℤ) (count : ℕ) (values : List ℕ) (result : ℤ) (given : List (Option (List ℕ))) →
    SpellValues count values given → bind_frame portal statement formats given result ≡ bind_of portal statement formats count values result
bind_is portal statement formats count values result given spell =
    ap (λ (k : ℕ). bind_of portal statement formats k (flat_map value_bytes given) result) spell.counted
    ∙ ap (λ (v : List ℕ). bind_of portal statement formats count v result) spell.spelled

bind_size : (portal statement : List ℕ) (formats : List ℤ) (count : ℕ) (values : List ℕ) (result : ℤ) →
    length (bind_body portal statement formats count values result) ≡ length formats * 2 + 10 + length portal + length statement + length values
bind_size portal statement formats count values result =
    let texts = text0 portal ++ text0 statement in
    let number = texts ++ to_be_bytes w16 (length formats) in
    let all_formats = number ++ format_bytes formats in
    let counted = all_formats ++ to_be_bytes w16 count in
    let all_values = counted ++ values in
    omega (
      arith,
      length-append (all_values ++ to_be_bytes w16 1) (format_item result),
      length-append all_values (to_be_bytes w16 1),
      length-append counted values,
      length-append all_formats (to_be_bytes w16 count),
      length-append number (format_bytes formats),
      formats_size formats,
      length-append texts (to_be_bytes w16 (length formats)),
      length-append (text0 portal) (text0 statement),
      length-append portal (0 ∷ []),
      length-append statement (0 ∷ []),
    )

pub bind_refused : (portal statement seen also_seen : List ℕ) (formats : List ℤ) (count : ℕ) (values : List ℕ) (result : ℤ) (one two size : ℕ)
    (old new : List ℕ) (fault : FrameFault) → seen ≡ portal → also_seen ≡ statement →
    false ≡ has_zero seen → false ≡ has_zero also_seen → length formats ≤ 65535 → count ≤ 65535 →
    one ≡ min (length formats * 2 + 10 + length seen) (2 ^ 64 - 1) → two ≡ min (one + length also_seen) (2 ^ 64 - 1) →
    size ≡ min (two + length values) (2 ^ 64 - 1) → RefusesLength size old new fault →
    (given : List (Option (List ℕ))) → SpellValues count values given →
    IsRefusal (bind_frame portal statement formats given result) (faults.frame_fault fault) × (new ≡ old)
bind_refused portal statement seen also_seen formats count values result one two size old new fault same too no_zero nor few also first second third refuses given spell =
    subst (λ (f : Result (List ℕ) spec.FrameFault). IsRefusal f (faults.frame_fault fault) × (new ≡ old))
    (sym (bind_is portal statement formats count values result given spell))
    (tagged_refused 66 (portal ∷ statement ∷ []) (length formats ∷ count ∷ []) (bind_body portal statement formats count values result) size old new fault
    (no_zero_in_two portal statement (no_zero ∙ ap has_zero same) (nor ∙ ap has_zero too)) (few_in_two (length formats) count few also)
    (λ long. omega (arith, bind_size portal statement formats count values result, ap length same, ap length too, first, second, third, long)) refuses)

put_eight : (mid a b c d e f g h n1 n2 n3 n4 n5 n6 n7 n8 : List ℕ) → n1 ≡ mid ++ a → n2 ≡ n1 ++ b → n3 ≡ n2 ++ c → n4 ≡ n3 ++ d →
    n5 ≡ n4 ++ e → n6 ≡ n5 ++ f → n7 ≡ n6 ++ g → n8 ≡ n7 ++ h → n8 ≡ mid ++ (a ++ b ++ c ++ d ++ e ++ f ++ g ++ h)
put_eight mid a b c d e f g h n1 n2 n3 n4 n5 n6 n7 n8 e1 e2 e3 e4 e5 e6 e7 e8 = rw (e8, e7, e6, e5, e4, e3, e2, e1) (simp append_assoc)

pub bind_written : (portal statement seen also_seen : List ℕ) (formats : List ℤ) (count : ℕ) (values : List ℕ) (result : ℤ) (one two size spare : ℕ)
    (old mid n1 n2 n3 n4 n5 n6 n7 new digits : List ℕ) → seen ≡ portal → also_seen ≡ statement →
    false ≡ has_zero seen → false ≡ has_zero also_seen → length formats ≤ 65535 → count ≤ 65535 →
    one ≡ min (length formats * 2 + 10 + length seen) (2 ^ 64 - 1) → two ≡ min (one + length also_seen) (2 ^ 64 - 1) →
    size ≡ min (two + length values) (2 ^ 64 - 1) →
    Begins 66 size old mid spare → n1 ≡ mid ++ text0 seen → n2 ≡ n1 ++ text0 also_seen → n3 ≡ n2 ++ to_be_bytes w16 (length formats) →
    n4 ≡ n3 ++ format_bytes formats → n5 ≡ n4 ++ to_be_bytes w16 count → n6 ≡ n5 ++ values → n7 ≡ n6 ++ to_be_bytes w16 1 →
    new ≡ n7 ++ digits → digits ≡ format_item result → (given : List (Option (List ℕ))) → SpellValues count values given →
    (bytes : List ℕ) × (bind_frame portal statement formats given result ≡ Ok bytes) × (new ≡ old ++ bytes)
bind_written portal statement seen also_seen formats count values result one two size spare old mid n1 n2 n3 n4 n5 n6 n7 new digits same too no_zero nor few also
    first second third begins e1 e2 e3 e4 e5 e6 e7 e8 is given spell =
    let body = bind_body portal statement formats count values result in
    let written = tagged_written 66 (portal ∷ statement ∷ []) (length formats ∷ count ∷ []) body size spare old mid new
    (no_zero_in_two portal statement (no_zero ∙ ap has_zero same) (nor ∙ ap has_zero too)) (few_in_two (length formats) count few also) begins
    (omega (arith, bind_size portal statement formats count values result, ap length same, ap length too, first, second, third, begins.fits))
    (put_eight mid (text0 portal) (text0 statement) (to_be_bytes w16 (length formats)) (format_bytes formats) (to_be_bytes w16 count) values
    (to_be_bytes w16 1) (format_item result) n1 n2 n3 n4 n5 n6 n7 new (e1 ∙ ap (λ (x : List ℕ). mid ++ text0 x) same)
    (e2 ∙ ap (λ (x : List ℕ). n1 ++ text0 x) too) e3 e4 e5 e6 e7 (e8 ∙ ap (λ (x : List ℕ). n7 ++ x) is)) in
    (written.0, bind_is portal statement formats count values result given spell ∙ written.1, written.2)
