-- Bytes that are read as messages are those messages, spelled.
use Rattle.std.proofs.Common.{◌≡◌, ℕ, zero, suc, ◌+◌, ◌-◌, ◌^◌, ◌<◌, ◌≤◌, Bool, true, false, cond, ◌&&◌, List, [], ◌∷◌, ◌++◌, Option, Some, None, refl, sym, ap, ◌∙◌, subst, append_assoc, append-nil, arith, length, take, drop, get_or}
use Rattle.std.specs.Prelude.{nat_le, nat_lt, if◌then◌else◌}
use Rattle.std.specs.List.{AllByRecursion}
use Rattle.std.specs.Int.{w32, from_be_bytes, to_be_bytes}
use Rattle.std.proofs.lemmas.Bool.{leb-true, ltb-true}
use Rattle.std.proofs.lemmas.List.{take-append-drop, length-take-le}
use Rattle.std.proofs.lemmas.Nat.{be_bytes_4}
use Rattle.std.proofs.lemmas.Option.{cond_some}
use Rattle.pg_spec.specs.Bytes.{◌>>=◌, bytes_at, items_within, onto_items}
use Rattle.pg_spec.specs.RawMessages.{RawMessage, is_length, message_at, message_bytes, messages, bytes_left}
use Rattle.pg_spec.proofs.MessageLaws.{Fits}
use Rattle.pg_machine.specs.Sessions.{spoken}
use Rattle.pg_machine.specs.Tags.{AreBytes}

pub bytes-from : (s : List ℕ) → ((i : ℕ) → get_or s i 0 < 256) → AreBytes s
bytes-from [] h = tt
bytes-from (b ∷ s) h = (h 0, bytes-from s (λ i. h (suc i)))

pub bytes-at : (s : List ℕ) (i : ℕ) → AreBytes s → get_or s i 0 < 256
bytes-at [] i are = omega arith
bytes-at (b ∷ s) zero are = are.0
bytes-at (b ∷ s) (suc i) are = bytes-at s i are.1

pub bytes-parts : (a b : List ℕ) → AreBytes (a ++ b) → AreBytes a × AreBytes b
bytes-parts [] b are = (tt, are)
bytes-parts (x ∷ a) b are = let rest = bytes-parts a b are.1 in ((are.0, rest.0), rest.1)

-- a message was found in front
record Found (s : List ℕ) (m : RawMessage) (rest : List ℕ) : Type 0 where
  spelled : s ≡ message_bytes m ++ rest
  fits : Fits m

abbrev finish : ℕ → ℕ → List ℕ → List ℕ → Option (RawMessage × List ℕ)
finish tag n body rest = if is_length n then Some (record { tag = tag; body = body }, rest) else None

-- a test that had to hold
tested : {A B : Type 0} (c : Bool) (x : A) (f : A → Option B) (y : B) → (cond c (Some x) None >>= f) ≡ Some y → (c ≡ true) × (f x ≡ Some y)
tested true x f y e = (refl, e)
tested false x f y e = absurd cc

both_true : (a b : Bool) → (a && b) ≡ true → (a ≡ true) × (b ≡ true)
both_true true b e = (refl, e)
both_true false b e = absurd cc

tested_twice : {A B C : Type 0} (c : Bool) (x : A) (f : A → Option B) (g : B → Option C) (y : C) → ((cond c (Some x) None >>= f) >>= g) ≡ Some y →
    (c ≡ true) × ((f x >>= g) ≡ Some y)
tested_twice true x f g y e = (refl, e)
tested_twice false x f g y e = absurd cc

-- behind a body
finished : (tag n : ℕ) (body behind : List ℕ) (m : RawMessage) (rest : List ℕ) → finish tag n body behind ≡ Some (m, rest) →
    (is_length n ≡ true) × (record { tag = tag; body = body } ≡ m) × (behind ≡ rest)
finished tag n body behind m rest e =
    let parts = cond_some (is_length n) (record { tag = tag; body = body }, behind) (m, rest) e in
    (parts.0, ap (λ (p : RawMessage × List ℕ). p.0) parts.1, ap (λ (p : RawMessage × List ℕ). p.1) parts.1)

of_parts : (tag n : ℕ) (bytes : List ℕ) → AreBytes bytes → 4 ≤ length bytes → n ≡ from_be_bytes w32 (take 4 bytes) →
    n - 4 ≤ length (drop 4 bytes) → is_length n ≡ true →
    Found (tag ∷ bytes) (record { tag = tag; body = take (n - 4) (drop 4 bytes) }) (drop (n - 4) (drop 4 bytes))
of_parts tag n bytes are long is enough length_is =
    let after : List ℕ = drop 4 bytes in
    let body : List ℕ = take (n - 4) after in
    let low = both_true (nat_le 4 n) (nat_lt n (2 ^ 31)) length_is in
    let four : 4 ≤ n = leb-true 4 n low.0 in
    let size : length body ≡ n - 4 = length-take-le (n - 4) after enough in
    let digits : to_be_bytes w32 n ≡ take 4 bytes
    = be_bytes_4 (take 4 bytes) n (length-take-le 4 bytes long)
    (λ i. bytes-at (take 4 bytes) i (bytes-parts (take 4 bytes) after (subst AreBytes (sym (take-append-drop 4 bytes)) are)).0) is in
    let sized : to_be_bytes w32 (4 + length body) ≡ take 4 bytes
    = ap (to_be_bytes w32) (let e : 4 + length body ≡ n = omega (arith, size) in e) ∙ digits in
    let behind : List ℕ = drop (n - 4) after in
    record {
      spelled = ap (λ rest. tag ∷ rest) (sym (take-append-drop 4 bytes) ∙ ap (λ rest. take 4 bytes ++ rest) (sym (take-append-drop (n - 4) after))
          ∙ ap (λ front. front ++ (body ++ behind)) (sym sized) ∙ sym (append_assoc (to_be_bytes w32 (4 + length body)) body behind));
      fits = let less : n < 2 ^ 31 = ltb-true n (2 ^ 31) low.1 in omega (arith, size);
    }

found : (tag : ℕ) (bytes : List ℕ) (m : RawMessage) (rest : List ℕ) → AreBytes bytes → message_at (tag ∷ bytes) ≡ Some (m, rest) → Found (tag ∷ bytes) m rest
found tag bytes m rest are e =
    let n : ℕ = from_be_bytes w32 (take 4 bytes) in
    let after : List ℕ = drop 4 bytes in
    let one = tested_twice (nat_le 4 (length bytes)) (take 4 bytes, after) (λ d. Some (from_be_bytes w32 d.0, d.1))
    (λ n. bytes_at (n.0 - 4) n.1 >>= λ body. finish tag n.0 body.0 body.1) (m, rest) e in
    let two = tested (nat_le (n - 4) (length after)) (take (n - 4) after, drop (n - 4) after) (λ body. finish tag n body.0 body.1) (m, rest) one.1 in
    let three = finished tag n (take (n - 4) after) (drop (n - 4) after) m rest two.1 in
    let whole = of_parts tag n bytes are (leb-true 4 (length bytes) one.0) refl (leb-true (n - 4) (length after) two.0) three.0 in
    subst (λ message. Found (tag ∷ bytes) message rest) three.1 (subst (λ behind. Found (tag ∷ bytes) (record { tag = tag; body = take (n - 4) after }) behind) three.2 whole)

-- a message in front is spelled there
pub message_at-Found : (s : List ℕ) (m : RawMessage) (rest : List ℕ) → AreBytes s → message_at s ≡ Some (m, rest) →
    (s ≡ message_bytes m ++ rest) × Fits m
message_at-Found [] m rest are e = absurd cc
message_at-Found (tag ∷ bytes) m rest are e = let f = found tag bytes m rest are.1 e in (f.spelled, f.fits)

-- so are all of them
within-spelled : (n : ℕ) (s : List ℕ) → AreBytes s →
    (s ≡ spoken (items_within n message_at s).0 ++ (items_within n message_at s).1) × AllByRecursion Fits (items_within n message_at s).0
within-spelled zero s are = (refl, tt)
within-spelled (suc n) s are = by_front (message_at s) refl (λ rest h. within-spelled n rest h)
  where
    by_front : (o : Option (RawMessage × List ℕ)) → message_at s ≡ o →
        ((rest : List ℕ) → AreBytes rest → (rest ≡ spoken (items_within n message_at rest).0 ++ (items_within n message_at rest).1) × AllByRecursion Fits (items_within n message_at rest).0) →
        (s ≡ spoken (onto_items o s (items_within n message_at)).0 ++ (onto_items o s (items_within n message_at)).1) × AllByRecursion Fits (onto_items o s (items_within n message_at)).0
    by_front None is later = (refl, tt)
    by_front (Some (m, rest)) is later =
        let here = message_at-Found s m rest are is in
        let behind = later rest (bytes-parts (message_bytes m) rest (subst AreBytes here.0 are)).1 in (
          here.0 ∙ ap (λ r. message_bytes m ++ r) behind.0 ∙ sym (append_assoc (message_bytes m) (spoken (items_within n message_at rest).0) (items_within n message_at rest).1),
          (here.1, behind.1),
        )

-- bytes that are whole messages are these, spelled
pub messages-spelled : (s : List ℕ) → AreBytes s → bytes_left s ≡ [] → spoken (messages s) ≡ s
messages-spelled s are whole = sym ((within-spelled (length s) s are).0 ∙ ap (λ left. spoken (messages s) ++ left) whole ∙ append-nil (spoken (messages s)))

pub messages-Fit : (s : List ℕ) → AreBytes s → AllByRecursion Fits (messages s)
messages-Fit s are = (within-spelled (length s) s are).1

-- ---- whatever numbers stand there, a message that is read fits its length field

found-Fits : (tag : ℕ) (bytes : List ℕ) (m : RawMessage) (rest : List ℕ) → message_at (tag ∷ bytes) ≡ Some (m, rest) → Fits m
found-Fits tag bytes m rest e =
    let n : ℕ = from_be_bytes w32 (take 4 bytes) in
    let after : List ℕ = drop 4 bytes in
    let one = tested_twice (nat_le 4 (length bytes)) (take 4 bytes, after) (λ d. Some (from_be_bytes w32 d.0, d.1))
    (λ n. bytes_at (n.0 - 4) n.1 >>= λ body. finish tag n.0 body.0 body.1) (m, rest) e in
    let two = tested (nat_le (n - 4) (length after)) (take (n - 4) after, drop (n - 4) after) (λ body. finish tag n body.0 body.1) (m, rest) one.1 in
    let three = finished tag n (take (n - 4) after) (drop (n - 4) after) m rest two.1 in
    let low = both_true (nat_le 4 n) (nat_lt n (2 ^ 31)) three.0 in
    let four : 4 ≤ n = leb-true 4 n low.0 in
    let less : n < 2 ^ 31 = ltb-true n (2 ^ 31) low.1 in
    let size : length (take (n - 4) after) ≡ n - 4 = length-take-le (n - 4) after (leb-true (n - 4) (length after) two.0) in
    subst Fits three.1 (let fits : 4 + length (take (n - 4) after) < 2 ^ 31 = omega (arith, size, less, four) in fits)

message_at-Fits : (s : List ℕ) (m : RawMessage) (rest : List ℕ) → message_at s ≡ Some (m, rest) → Fits m
message_at-Fits [] m rest e = absurd cc
message_at-Fits (tag ∷ bytes) m rest e = found-Fits tag bytes m rest e

within-Fit : (n : ℕ) (s : List ℕ) → AllByRecursion Fits (items_within n message_at s).0
within-Fit zero s = tt
within-Fit (suc n) s = by_front (message_at s) refl (λ rest. within-Fit n rest)
  where
    by_front : (o : Option (RawMessage × List ℕ)) → message_at s ≡ o → ((rest : List ℕ) → AllByRecursion Fits (items_within n message_at rest).0) →
        AllByRecursion Fits (onto_items o s (items_within n message_at)).0
    by_front None is later = tt
    by_front (Some (m, rest)) is later = (message_at-Fits s m rest is, later rest)

pub all-messages-Fit : (s : List ℕ) → AllByRecursion Fits (messages s)
all-messages-Fit s = within-Fit (length s) s
