-- What comes of a command by what it met so far.
use Rattle.std.proofs.Common.{◌≡◌, ℕ, List, [], ◌∷◌, drop, take, Option, Some, None, option_map, refl, ap}
use Rattle.pg_spec.specs.RawMessages.{RawMessage}
use Rattle.pg_spec.specs.Dialogues.{Dialogue, Answers, Asks, Sends, Reads, Puts, Closes, Calls, behind, decided_after}
use Rattle.pg_spec.specs.Courses.{Met, Outcome, nothing_yet, outcome, with_part, with_question, with_request, with_sent, first_reply, later_replies, past_reply}

-- where nothing more is told, nothing more is asked
pub asks-nothing : {Q R A : Type 0} (d : Dialogue Q R A) (replies : List (List RawMessage)) (left : List RawMessage) → (outcome d (record { replies = replies; told = [] }) left).asked ≡ []
asks-nothing (Answers a) replies left = refl
asks-nothing (Asks copying part d) replies left = asks-nothing d (later_replies replies) (first_reply replies)
asks-nothing (Sends part d) replies left = asks-nothing d (later_replies replies) left
asks-nothing {Q} {R} {A} (Reads decides next) replies left = by (decided_after decides left) (λ n. asks-nothing (next (take n left)) replies (drop n left))
  where
    so : Option ℕ → Outcome Q A
    so o = elim o as (λ _. Outcome Q A) [ None ↦ nothing_yet | Some n ↦ outcome (next (take n left)) (record { replies = replies; told = [] }) (drop n left) ]

    by : (o : Option ℕ) → ((n : ℕ) → (outcome (next (take n left)) (record { replies = replies; told = [] }) (drop n left)).asked ≡ []) → (so o).asked ≡ []
    by None h = refl
    by (Some n) h = h n
asks-nothing (Puts part d) replies left = asks-nothing d replies left
asks-nothing (Closes part d) replies left = asks-nothing d replies left
asks-nothing (Calls q next) replies left = refl

-- the same, with its answer told in other words
abbrev pub in_words : {Q A B : Type 0} → (A → B) → Outcome Q A → Outcome Q B
in_words f o = record { parts = o.parts; requests = o.requests; asked = o.asked; answer = option_map f o.answer; left = o.left }

pub words-alone : {Q R A B : Type 0} (d : Dialogue Q R A) (f : A → B) (met : Met R) (left : List RawMessage) → outcome (behind d (λ a. Answers (f a))) met left ≡ in_words f (outcome d met left)
words-alone (Answers a) f met left = refl
words-alone (Asks copying part d) f met left = ap (with_request part) (words-alone d f (past_reply met) (first_reply met.replies))
words-alone (Sends part d) f met left = ap (with_sent part) (words-alone d f (past_reply met) left)
words-alone {Q} {R} {A} {B} (Reads decides next) f met left = by (decided_after decides left) (λ n. words-alone (next (take n left)) f met (drop n left))
  where
    by : (o : Option ℕ) → ((n : ℕ) → outcome (behind (next (take n left)) (λ a. Answers (f a))) met (drop n left) ≡ in_words f (outcome (next (take n left)) met (drop n left))) → ◌≡◌ {A = Outcome Q B}
        (elim o as (λ _. Outcome Q B) [ None ↦ nothing_yet | Some n ↦ outcome (behind (next (take n left)) (λ a. Answers (f a))) met (drop n left) ])
        (in_words f (elim o as (λ _. Outcome Q A) [ None ↦ nothing_yet | Some n ↦ outcome (next (take n left)) met (drop n left) ]))
    by None h = refl
    by (Some n) h = h n
words-alone (Puts part d) f met left = ap (with_part part) (words-alone d f met left)
words-alone (Closes part d) f met left = ap (with_part part) (words-alone d f met left)
words-alone {Q} {R} {A} {B} (Calls q next) f met left = by met.told (λ r more. words-alone (next r) f (record { replies = met.replies; told = more }) left)
  where
    by : (told : List R) → ((r : R) (more : List R) → outcome (behind (next r) (λ a. Answers (f a))) (record { replies = met.replies; told = more }) left ≡ in_words f (outcome (next r) (record { replies = met.replies; told = more }) left)) → ◌≡◌ {A = Outcome Q B}
        (elim told as (λ _. Outcome Q B) [ [] ↦ nothing_yet | r ∷ more ↦ with_question q (outcome (behind (next r) (λ a. Answers (f a))) (record { replies = met.replies; told = more }) left) ])
        (in_words f (elim told as (λ _. Outcome Q A) [ [] ↦ nothing_yet | r ∷ more ↦ with_question q (outcome (next r) (record { replies = met.replies; told = more }) left) ]))
    by [] h = refl
    by (r ∷ more) h = ap (with_question q) (h r more)
