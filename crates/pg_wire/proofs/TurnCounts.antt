-- The turns that bytes give, frame by frame.
use Rattle.std.proofs.Common.{◌≡◌, ℕ, ◌+◌, ◌-◌, ◌<◌, ◌≤◌, inl, inr, Bool, true, cond, List, [], ◌++◌, length, take, drop, count_by, Option, Some, None, refl, sym, ap, subst, ◌∙◌, append_assoc, append-nil, arith, if◌then◌else◌}
use Rattle.std.proofs.lemmas.List.Sums.{sum_by-cons}
use Rattle.std.proofs.lemmas.Bool.{true≢false}
use Rattle.std.proofs.lemmas.List.{length-append, length-drop, drop-append-le, drop-drop}
use Rattle.std.proofs.Math.Seq.{take-length}
use Rattle.pg_spec.specs.RawMessages.{message_at, messages}
use Rattle.pg_spec.specs.Sent.{asked_for_tls, gives_turn, turns_given}
use Rattle.pg_spec.proofs.MessageLaws.{message_at-Reader}
use Rattle.pg_wire.specs.Fronts.{IsWhole, message_of_bytes}
use Rattle.pg_wire.specs.declared.turning.Stage.{Stage}
use Rattle.pg_wire.specs.declared.turning.Stage.TheVariants.{Start, Startup}
use Rattle.pg_wire.specs.declared.turning.Turning.{Turning}
use Rattle.pg_wire.specs.Turning.{counted, started, most_turns, stages_left, steps_of, turns_of, Counts, AsksForTls, IsNext}
use Rattle.pg_wire.proofs.Cuts.{messages_of_one, messages_of_none}

-- a whole frame
pub frame_whole : (bytes more : List ℕ) (n : ℕ) → IsWhole bytes n →
    counted (bytes ++ more) ≡ (if gives_turn (message_of_bytes n bytes) then 1 else 0) + counted (drop n (bytes ++ more))
frame_whole bytes more n whole =
    ap (count_by gives_turn) (messages_of_one (bytes ++ more) (message_of_bytes n bytes) (drop n bytes ++ more)
    (message_at-Reader bytes (message_of_bytes n bytes) (drop n bytes) more whole.front))
    ∙ sum_by-cons (λ m. cond (gives_turn m) 1 0) (message_of_bytes n bytes) (messages (drop n bytes ++ more))
    ∙ ap (λ l. (if gives_turn (message_of_bytes n bytes) then 1 else 0) + counted l) (sym (drop-append-le n bytes more whole.fits))

pub frame_none : (bytes : List ℕ) → message_at bytes ≡ None → counted bytes ≡ 0
frame_none bytes none = ap (count_by gives_turn) (messages_of_none bytes none)

-- ---- going past it

-- what was gone past gave k turns
pub counts-next : (sent : List ℕ) (t next : Turning) (k n : ℕ) → Counts sent t → n ≤ length (drop t.at sent) → next.at ≡ t.at + n → next.turns ≡ t.turns + k →
    next.turns ≤ most_turns next.stage next.at →
    ((more : List ℕ) → turns_of t.stage (drop t.at sent ++ more) ≡ k + turns_of next.stage (drop n (drop t.at sent ++ more))) → Counts sent next
counts-next sent t next k n c fits at turns few step =
    let l : length (drop t.at sent) ≡ length sent - t.at = length-drop t.at sent in
    let w = c.within in
    record {
      within = omega arith;
      few = few;
      turns = λ more.
          let same : drop t.at (sent ++ more) ≡ drop t.at sent ++ more = drop-append-le t.at sent more c.within in
          let behind : drop n (drop t.at sent ++ more) ≡ drop next.at (sent ++ more) =
          ap (drop n) (sym same) ∙ drop-drop n t.at (sent ++ more) ∙ ap (λ (j : ℕ). drop j (sent ++ more)) (sym at) in
          let all : turns_given (sent ++ more) ≡ t.turns + (k + turns_of next.stage (drop next.at (sent ++ more))) =
          c.turns more ∙ ap (λ (x : List ℕ). t.turns + turns_of t.stage x) same ∙ ap (λ (x : ℕ). t.turns + x) (step more)
          ∙ ap (λ (x : List ℕ). t.turns + (k + turns_of next.stage x)) behind in
          omega arith;
    }

-- more bytes came
pub counts-more : (sent more : List ℕ) (t : Turning) → Counts sent t → Counts (sent ++ more) t
counts-more sent more t c = record {
  within = let w = c.within in omega (arith, length-append sent more);
  few = c.few;
  turns = λ later. subst (λ (x : List ℕ). turns_given x ≡ t.turns + turns_of t.stage (drop t.at x)) (sym (append_assoc sent more later)) (c.turns (more ++ later));
}

-- where nothing stands whole, all turns were counted
pub counts-all : (sent : List ℕ) (t : Turning) → Counts sent t → turns_of t.stage (drop t.at sent) ≡ 0 → t.turns ≡ turns_given sent
counts-all sent t c none =
    let all : turns_given sent ≡ t.turns + turns_of t.stage (drop t.at sent) =
    subst (λ (x : List ℕ). turns_given x ≡ t.turns + turns_of t.stage (drop t.at x)) (append-nil sent) (c.turns []) in
    omega arith

-- what bytes give that begin with an SSLRequest
turns-asked : (bytes : List ℕ) → asked_for_tls bytes ≡ true → turns_given bytes ≡ 1 + started (drop 8 bytes)
turns-asked bytes e = ap (λ (b : Bool). cond b 1 0 + started (cond b (drop 8 bytes) bytes)) e

-- an SSLRequest was gone past
pub past_tls : (sent : List ℕ) (t : Turning) (asked : Bool) → Counts sent t → t.stage ≡ Start →
    AsksForTls (take (length sent - t.at) (drop t.at sent)) (Some asked) → asked ≡ true →
    Counts sent (record { stage = Startup; at = t.at + 8; turns = t.turns + 1 })
    × (steps_of (length sent) (record { stage = Startup; at = t.at + 8; turns = t.turns + 1 }) < steps_of (length sent) t)
past_tls sent t asked c start asks is =
    let l : length (drop t.at sent) ≡ length sent - t.at = length-drop t.at sent in
    let all : take (length sent - t.at) (drop t.at sent) ≡ drop t.at sent = ap (λ (n : ℕ). take n (drop t.at sent)) (sym l) ∙ take-length (drop t.at sent) in
    let known : AsksForTls (drop t.at sent) (Some asked) = subst (λ (x : List ℕ). AsksForTls x (Some asked)) all asks in
    let long : 8 ≤ length (drop t.at sent) = elim (known.0) [ inl h ↦ h | inr never ↦ absurd (true≢false (sym is ∙ never)) ] in
    let few : t.turns ≤ 0 = subst (λ (s : Stage). t.turns ≤ most_turns s t.at) start c.few in
    let rank : stages_left t.stage ≡ 2 = ap stages_left start in (
      counts-next sent t (record { stage = Startup; at = t.at + 8; turns = t.turns + 1 }) 1 8 c long refl refl (omega arith)
          (λ more. ap (λ (s : Stage). turns_of s (drop t.at sent ++ more)) start ∙ turns-asked (drop t.at sent ++ more) (known.1 more ∙ is)),
      omega arith,
    )

-- where nothing stands whole, no turn does
pub next-none : (sent : List ℕ) (t : Turning) (next : Option Turning) → ((x : Turning) → next ≡ Some x → ⊥) → IsNext sent t next → turns_of t.stage (drop t.at sent) ≡ 0
next-none sent t None never is = is
next-none sent t (Some x) never is = absurd (never x refl)
