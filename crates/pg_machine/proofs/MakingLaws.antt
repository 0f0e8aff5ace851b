-- Bytes that are one ErrorResponse.
use Rattle.std.proofs.Common.{◌≡◌, ◌≢◌, ℕ, ◌-◌, Bool, true, false, ◌&&◌, List, [], ◌∷◌, Option, Some, None, Result, Ok, refl, sym, ap, ◌∙◌, arith, length, drop}
use Rattle.std.specs.Prelude.{is_some}
use Rattle.std.specs.Str.{byte}
use Rattle.std.proofs.lemmas.Bool.{eqb-true}
use Rattle.std.proofs.lemmas.List.{length-drop}
use Rattle.pg_spec.specs.Batches.{is_nothing}
use Rattle.pg_spec.specs.DbErrors.{db_error_of}
use Rattle.pg_spec.specs.Faults.{WireFault}
use Rattle.pg_spec.specs.Messages.{Message, ErrorResponse, message_of}
use Rattle.pg_spec.specs.RawMessages.{RawMessage, message_at, messages, bytes_left}
use Rattle.pg_wire.specs.Fronts.{IsWhole, message_of_bytes}
use Rattle.pg_wire.proofs.Cuts.{messages_of_one, left_of_one, left_of_none}
use Rattle.pg_machine.specs.Serving.{is_error}
use Rattle.pg_machine.specs.Machines.{is_one_error, is_refusal, is_readable_error}
use Rattle.pg_machine.specs.Making.{error_of}

-- what is asked of the messages
abbrev one_error : List RawMessage → Bool
one_error ms = elim ms [ [] ↦ false | m ∷ ms ↦ is_nothing ms && is_error m ]

and_false : (b : Bool) → (b && false) ≡ false
and_false true = refl
and_false false = refl

both_true : (a b : Bool) → (a && b) ≡ true → (a ≡ true) × (b ≡ true)
both_true true b e = (refl, e)
both_true false b e = absurd cc

-- more stands behind the first message
pub not_one : (s : List ℕ) (n : ℕ) → IsWhole s n → n ≢ length s → is_one_error s ≡ false
not_one s n whole more = by_rest (message_at (drop n s)) refl
  where
    m : RawMessage
    m = message_of_bytes n s

    msgs : messages s ≡ m ∷ messages (drop n s)
    msgs = messages_of_one s m (drop n s) whole.front

    left : bytes_left s ≡ bytes_left (drop n s)
    left = left_of_one s m (drop n s) whole.front

    some_left : (rest : List ℕ) → length rest ≡ length s - n → is_nothing rest ≡ false
    some_left [] e = absurd (more (let w = whole.fits in omega (arith, e)))
    some_left (b ∷ rest) e = refl

    by_rest : (o : Option (RawMessage × List ℕ)) → message_at (drop n s) ≡ o → is_one_error s ≡ false
    by_rest None is =
        ap (λ (l : List ℕ). is_nothing l && one_error (messages s)) (left ∙ left_of_none (drop n s) is)
        ∙ ap (λ (b : Bool). b && one_error (messages s)) (some_left (drop n s) (length-drop n s))
    by_rest (Some (x, rest)) is =
        ap (λ (ms : List RawMessage). is_nothing (bytes_left s) && one_error ms) (msgs ∙ ap (λ (ms : List RawMessage). m ∷ ms) (messages_of_one (drop n s) x rest is))
        ∙ and_false (is_nothing (bytes_left s))

-- one message stands there, and it is an error
pub one_raw : (s : List ℕ) (raw : RawMessage) (rest : List ℕ) → is_one_error s ≡ true → message_at s ≡ Some (raw, rest) → (messages s ≡ raw ∷ []) × (raw.tag ≡ byte "E")
one_raw s raw rest one front =
    let msgs = messages_of_one s raw rest front in
    let parts = both_true (is_nothing (bytes_left s)) (one_error (messages s)) one in
    let both = both_true (is_nothing (messages rest)) (is_error raw) (ap one_error (sym msgs) ∙ parts.1) in
    (msgs ∙ ap (λ (ms : List RawMessage). raw ∷ ms) (none (messages rest) both.0), eqb-true raw.tag (byte "E") both.1)
  where
    none : (ms : List RawMessage) → is_nothing ms ≡ true → ms ≡ []
    none [] e = refl
    none (x ∷ ms) e = absurd cc

fields_in : Result Message WireFault → List ℕ
fields_in (Ok (ErrorResponse fields)) = fields
fields_in other = []

error_means : (tag : ℕ) (body fields : List ℕ) → tag ≡ byte "E" → message_of (record { tag = tag; body = body }) ≡ Ok (ErrorResponse fields) → body ≡ fields
unfolding fields_in
error_means tag body fields is means = ap fields_in (ap (λ (t : ℕ). message_of (record { tag = t; body = body })) (sym is) ∙ means)

-- the message is this error
pub error_is : (s : List ℕ) (raw : RawMessage) (rest fields : List ℕ) → is_one_error s ≡ true → message_at s ≡ Some (raw, rest) → message_of raw ≡ Ok (ErrorResponse fields) →
    messages s ≡ error_of fields ∷ []
error_is s raw rest fields one front means =
    let known = one_raw s raw rest one front in
    known.0 ∙ ap (λ (t : ℕ). record { tag = t; body = raw.body } ∷ []) known.1 ∙ ap (λ (b : List ℕ). error_of b ∷ []) (error_means raw.tag raw.body fields known.1 means)

-- whether it is a refusal is whether its fields can be read
pub refusal_is : (s fields : List ℕ) (b : Bool) → is_one_error s ≡ true → messages s ≡ error_of fields ∷ [] → is_some (db_error_of fields) ≡ b → b ≡ is_refusal s
refusal_is s fields b one msgs read =
    let parts = both_true (is_nothing (bytes_left s)) (one_error (messages s)) one in
    sym (ap (λ (l : Bool). l && (elim (messages s) [ [] ↦ false | m ∷ ms ↦ is_nothing ms && is_readable_error m ])) parts.0
    ∙ ap (λ (ms : List RawMessage). elim ms [ [] ↦ false | m ∷ ms ↦ is_nothing ms && is_readable_error m ]) msgs ∙ read)

pub no_refusal : (s : List ℕ) → is_one_error s ≡ false → is_refusal s ≡ false
no_refusal s one = by_messages (is_nothing (bytes_left s)) (messages s) one
  where
    by_tests : (a b c : Bool) → (a && b) ≡ false → (a && (b && c)) ≡ false
    by_tests false b c e = refl
    by_tests true false c e = refl
    by_tests true true c e = absurd cc

    by_messages : (whole : Bool) (ms : List RawMessage) → (whole && one_error ms) ≡ false → (whole && (elim ms [ [] ↦ false | m ∷ ms ↦ is_nothing ms && is_readable_error m ])) ≡ false
    by_messages false ms e = refl
    by_messages true [] e = refl
    by_messages true (m ∷ ms) e = by_tests (is_nothing ms) (is_error m) (is_some (db_error_of m.body)) e
