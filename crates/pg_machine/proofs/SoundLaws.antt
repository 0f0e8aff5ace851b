-- Each answer of a table that keeps to the rules is one that a server may give, whatever frames come.
use Rattle.std.proofs.Common.{◌≡◌, ℕ, ◌+◌, ◌^◌, Bool, true, false, cond, not, ◌&&◌, ◌||◌, List, [], ◌∷◌, Option, Some, None, refl, sym, ap, ◌∙◌, length}
use Rattle.std.specs.Prelude.{IsTrue, IfSome, ◌==◌, find, option_map, is_some}
use Rattle.std.specs.List.{list_all, AllByRecursion}
use Rattle.std.specs.Str.{byte, bytes_eq}
use Rattle.std.proofs.lemmas.Bool.{eqb-true, lt-ltb}
use Rattle.std.proofs.lemmas.Option.{same_Some}
use Rattle.std.proofs.lemmas.Slice.Eq.{bytes_eq-Decides}
use Rattle.pg_spec.specs.Batches.{is_nothing}
use Rattle.pg_spec.specs.RawMessages.{RawMessage, messages, message_bytes, bytes_left, is_ready}
use Rattle.pg_spec.specs.DbErrors.{db_error_of}
use Rattle.pg_spec.proofs.MessageLaws.{Fits}
use Rattle.pg_machine.specs.declared.serving.Turn.{Turn}
use Rattle.pg_machine.specs.declared.serving.Turn.TheVariants.{Silent, Ready, AnswersReady, Answers, TakesData, EndsCopy, Refuses}
use Rattle.pg_machine.specs.Serving.{Effect, Serving, serve, turn, kind_of, is_error}
use Rattle.pg_machine.specs.Requests.{is_sound, is_copy_in, asked, SoundAlong}
use Rattle.pg_machine.proofs.Spelled.{all-messages-Fit}
use Rattle.pg_machine.specs.declared.machine.MachineRow.{MachineRow}
use Rattle.pg_machine.specs.Machines.{Table, service_of, row_of, effect_of, refusal_of, own_answer, tagged_as, is_row, is_refusal, is_readable_error, IsMachine}

both_true : (a b : Bool) → (a && b) ≡ true → (a ≡ true) × (b ≡ true)
both_true true b e = (refl, e)
both_true false b e = absurd cc

-- what is found passes the test, and what all pass
found-passes : {X : Type 0} (p q : X → Bool) (xs : List X) (x : X) → find p xs ≡ Some x → list_all q xs ≡ true → (p x ≡ true) × (q x ≡ true)
found-passes p q [] x e all = absurd cc
found-passes {X = X} p q (y ∷ ys) x e all = by_test (p y) refl (both_true (q y) (list_all q ys) all) (λ later. found-passes p q ys x later (both_true (q y) (list_all q ys) all).1) e
  where
    by_test : (b : Bool) → p y ≡ b → (q y ≡ true) × (list_all q ys ≡ true) → (find p ys ≡ Some x → (p x ≡ true) × (q x ≡ true)) → cond b (Some y) (find p ys) ≡ Some x →
        (p x ≡ true) × (q x ≡ true)
    by_test true is passes later e = let same : y ≡ x = same_Some y x e in (ap p (sym same) ∙ is, ap q (sym same) ∙ passes.0)
    by_test false is passes later e = later e

-- the answer of a row is sound for the frame that it was found for
row-sound : (table : Table) (state : ℕ) (frame : RawMessage) (row : MachineRow) → IsMachine table → row_of table.rows state (message_bytes frame) ≡ Some row →
    IsTrue (is_sound frame (effect_of row))
row-sound table state frame row is found =
    let passes = found-passes (λ (row : MachineRow). row.state == state && bytes_eq row.frame (message_bytes frame)) is_row table.rows row found is.rows in
    let same : row.frame ≡ message_bytes frame = (bytes_eq-Decides row.frame (message_bytes frame)).0 (both_true (row.state == state) (bytes_eq row.frame (message_bytes frame)) passes.0).1 in
    let sound : is_sound (tagged_as row.frame) (effect_of row) ≡ true = (both_true (is_nothing (bytes_left row.reply)) (is_sound (tagged_as row.frame) (effect_of row)) passes.1).1 in
    ap (λ (f : List ℕ). is_sound (tagged_as f) (effect_of row)) (sym same) ∙ sound

-- an error is no ReadyForQuery and no CopyInResponse
one-error-sound : (frame m : RawMessage) → Fits m → is_error m ≡ true → is_sound frame (record { reply = m ∷ []; opens = false }) ≡ true
one-error-sound frame m fit is =
    ap (λ (b : Bool). ((b && not (is_ready m)) && true) && not (is_copy_in m || false)) (lt-ltb (4 + length m.body) (2 ^ 31) fit)
    ∙ ap (λ (tag : ℕ). (not (tag == byte "Z") && true) && not (tag == byte "G" || false)) (eqb-true m.tag (byte "E") is)

refusal-sound : (frame : RawMessage) (refusal : List ℕ) → is_refusal refusal ≡ true → IsTrue (is_sound frame (refusal_of refusal))
refusal-sound frame refusal is =
    by_messages (messages refusal) (all-messages-Fit refusal) (both_true (is_nothing (bytes_left refusal)) (elim (messages refusal) [ [] ↦ false | m ∷ ms ↦ is_nothing ms && is_readable_error m ]) is).1
  where
    by_messages : (ms : List RawMessage) → AllByRecursion Fits ms → (elim ms [ [] ↦ false | m ∷ ms ↦ is_nothing ms && is_readable_error m ]) ≡ true →
        is_sound frame (record { reply = ms; opens = false }) ≡ true
    by_messages [] fit e = absurd cc
    by_messages (m ∷ []) fit e = one-error-sound frame m fit.0 (both_true (is_error m) (is_some (db_error_of m.body)) e).0
    by_messages (m ∷ n ∷ ms) fit e = absurd cc

-- an answer, or else the refusal
abbrev or_refused : Table → ℕ → Option (Effect × ℕ) → Effect × ℕ
or_refused table state o = elim o [ None ↦ (refusal_of table.refusal, state) | Some answer ↦ answer ]

-- so is what a frame is answered in any turn
asked-sound : (table : Table) (state : ℕ) (t : Turn) (frame : RawMessage) → IsMachine table → IfSome (asked (service_of table) state t frame) (λ a. IsTrue (is_sound frame a.0))
asked-sound table state t frame is = by_turn t
  where
    own : (o : Option MachineRow) → row_of table.rows state (message_bytes frame) ≡ o → IfSome {T = Effect × ℕ} (option_map (λ (row : MachineRow). (effect_of row, row.next)) o) (λ a. IsTrue (is_sound frame a.0))
    own None found = tt
    own (Some row) found = row-sound table state frame row is found

    or_refusal : (o : Option (Effect × ℕ)) → IfSome o (λ a. IsTrue (is_sound frame a.0)) → IsTrue (is_sound frame (or_refused table state o).0)
    or_refusal None sound = refusal-sound frame table.refusal is.refusal
    or_refusal (Some answer) sound = sound

    by_turn : (t : Turn) → IfSome (asked (service_of table) state t frame) (λ a. IsTrue (is_sound frame a.0))
    by_turn Silent = tt
    by_turn Ready = tt
    by_turn AnswersReady = or_refusal (own_answer table state (message_bytes frame)) (own (row_of table.rows state (message_bytes frame)) refl)
    by_turn Answers = or_refusal (own_answer table state (message_bytes frame)) (own (row_of table.rows state (message_bytes frame)) refl)
    by_turn TakesData = own (row_of table.rows state (message_bytes frame)) refl
    by_turn EndsCopy = or_refusal (own_answer table state (message_bytes frame)) (own (row_of table.rows state (message_bytes frame)) refl)
    by_turn Refuses = refusal-sound frame table.refusal is.refusal

pub machine-SoundAlong : (table : Table) → IsMachine table → (at : Serving ℕ) (frames : List RawMessage) → SoundAlong (service_of table) at frames
machine-SoundAlong table is at [] = tt
machine-SoundAlong table is at (frame ∷ frames) =
    (asked-sound table at.state (turn at.mode (kind_of frame)) frame is, machine-SoundAlong table is (serve (service_of table) at frame).next frames)
