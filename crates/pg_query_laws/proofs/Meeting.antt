-- What comes of a dialogue by what it met: what it asks, and what holds where it answers a value.
use Rattle.std.proofs.Common.{◌≡◌, ℕ, List, [], ◌∷◌, ◌++◌, take, drop, false, Option, Some, None, Result, Ok, Err, sym, ap, subst, append-nil, append_assoc}
use Rattle.std.proofs.lemmas.List.Elements.{All-cons, All-nil}
use Rattle.std.specs.Prelude.{All, zip}
use Rattle.pg_spec.specs.Courses.{Met, Outcome, first_reply, nothing_yet, outcome, past_reply, with_question}
use Rattle.pg_spec.specs.Dialogues.{Answers, decided_after}
use Rattle.pg_spec.specs.RawMessages.{RawMessage}
use Rattle.pg_types.specs.declared.error.Error.{Error}
use Rattle.pg_types.specs.declared.error.Error.TheVariants.{Closed}
use Rattle.pg_query.specs.Dialogue.{Dialogue, Answer, Ask, Send, Leave, Read, Put, Finish, Close, HangUp, Call, Hear}
use Rattle.pg_query.specs.declared.desk_call.DeskCall.{DeskCall}
use Rattle.pg_query.specs.declared.desk_call.Reply.{Reply}
use Rattle.pg_core.specs.Outcomes.{asked}
use Rattle.pg_core.specs.Sequences.{then_do}
use Rattle.pg_query_laws.specs.Kept.{EachAsked}

-- ---- what is asked

pub all-asked : {T : Type 0} (P : DeskCall → Type 0) (d : Dialogue T) → EachAsked P d → (met : Met Reply) (left : List RawMessage) → All P (outcome (asked d) met left).asked
all-asked P (Answer r) h met left = All-nil P
all-asked P (Ask copying part d) h met left = all-asked P d h (past_reply met) (first_reply met.replies)
all-asked P (Send part refused d) h met left = all-asked P d h.1 (past_reply met) left
all-asked P (Leave id d) h met left = all-asked P d h met left
all-asked {T} P (Read cleanup decides next) h met left = by (decided_after decides left) (λ n. all-asked P (next (take n left)) (h (take n left)) met (drop n left))
  where
    by : (o : Option ℕ) → ((n : ℕ) → All P (outcome (asked (next (take n left))) met (drop n left)).asked) →
        All P (elim o as (λ _. Outcome DeskCall (Result T Error)) [ None ↦ nothing_yet | Some n ↦ outcome (asked (next (take n left))) met (drop n left) ]).asked
    by None k = All-nil P
    by (Some n) k = k n
all-asked P (Put cleanup part d) h met left = all-asked P d h met left
all-asked P (Finish part d) h met left = all-asked P d h met left
all-asked P (Close part d) h met left = all-asked P d h met left
all-asked P (HangUp d) h met left = all-asked P d h met left
all-asked {T} P (Call q refused next) h met left = by met.told (λ r more. all-asked P (next r) (h.2 r) (record { replies = met.replies; told = more }) left)
  where
    by : (told : List Reply) → ((r : Reply) (more : List Reply) → All P (outcome (asked (next r)) (record { replies = met.replies; told = more }) left).asked) →
        All P (elim told as (λ _. Outcome DeskCall (Result T Error)) [ [] ↦ nothing_yet | r ∷ more ↦ with_question q (outcome (asked (next r)) (record { replies = met.replies; told = more }) left) ]).asked
    by [] k = All-nil P
    by (r ∷ more) k = All-cons P q (outcome (asked (next r)) (record { replies = met.replies; told = more }) left).asked h.0 (k r more)
all-asked {T} P (Hear next) h met left = by (decided_after (λ ms. false) left)
  where
    by : (o : Option ℕ) → All P (elim o as (λ _. Outcome DeskCall (Result T Error)) [ None ↦ nothing_yet | Some n ↦ outcome {Q = DeskCall} {R = Reply} {A = Result T Error} (Answers (Err Closed)) met (drop n left) ]).asked
    by None = All-nil P
    by (Some n) = All-nil P

-- ---- where a value is answered

-- what the desk was asked and told
abbrev pub Asks : Type 0
Asks = List (DeskCall × Reply)

-- P of each value that a dialogue answers and of what was asked and told up to there, behind this
abbrev pub Ends : {T : Type 0} → (Asks → T → Type 0) → Asks → Dialogue T → Type 0
Ends P former (Answer (Ok x)) = P former x
Ends P former (Answer (Err e)) = Unit {0}
Ends P former (Ask copying part d) = Ends P former d
Ends P former (Send part refused d) = Ends P former d
Ends P former (Leave id d) = Ends P former d
Ends P former (Read cleanup decides next) = (ms : List RawMessage) → Ends P former (next ms)
Ends P former (Put cleanup part d) = Ends P former d
Ends P former (Finish part d) = Ends P former d
Ends P former (Close part d) = Ends P former d
Ends P former (HangUp d) = Ends P former d
Ends P former (Call q refused next) = (r : Reply) → Ends P (former ++ (q, r) ∷ []) (next r)
Ends P former (Hear next) = Unit {0}

-- it is so in its outcome
pub ends-so : {T : Type 0} (P : Asks → T → Type 0) (former : Asks) (d : Dialogue T) → Ends P former d → (met : Met Reply) (left : List RawMessage) (x : T) → (outcome (asked d) met left).answer ≡ Some (Ok x) →
    P (former ++ zip (outcome (asked d) met left).asked met.told) x
ends-so {T} P former (Answer (Ok y)) h met left x e =
    let same : y ≡ x = ap (λ (o : Option (Result T Error)). elim o as (λ _. T) [ None ↦ y | Some r ↦ elim r as (λ _. T) [ Ok z ↦ z | Err f ↦ y ] ]) e in
    subst (λ (z : T). P (former ++ []) z) same (subst (λ (a : Asks). P a y) (sym (append-nil former)) h)
ends-so P former (Answer (Err f)) h met left x e = absurd cc
ends-so P former (Ask copying part d) h met left x e = ends-so P former d h (past_reply met) (first_reply met.replies) x e
ends-so P former (Send part refused d) h met left x e = ends-so P former d h (past_reply met) left x e
ends-so P former (Leave id d) h met left x e = ends-so P former d h met left x e
ends-so {T} P former (Read cleanup decides next) h met left x e = by (decided_after decides left) (λ n. ends-so P former (next (take n left)) (h (take n left)) met (drop n left) x) e
  where
    after : Option ℕ → Outcome DeskCall (Result T Error)
    after o = elim o as (λ _. Outcome DeskCall (Result T Error)) [ None ↦ nothing_yet | Some n ↦ outcome (asked (next (take n left))) met (drop n left) ]

    by : (o : Option ℕ) → ((n : ℕ) → (outcome (asked (next (take n left))) met (drop n left)).answer ≡ Some (Ok x) → P (former ++ zip (outcome (asked (next (take n left))) met (drop n left)).asked met.told) x) →
        (after o).answer ≡ Some (Ok x) → P (former ++ zip (after o).asked met.told) x
    by None k f = absurd cc
    by (Some n) k f = k n f
ends-so P former (Put cleanup part d) h met left x e = ends-so P former d h met left x e
ends-so P former (Finish part d) h met left x e = ends-so P former d h met left x e
ends-so P former (Close part d) h met left x e = ends-so P former d h met left x e
ends-so P former (HangUp d) h met left x e = ends-so P former d h met left x e
ends-so {T} P former (Call q refused next) h met left x e = by met.told (λ r more. ends-so P (former ++ (q, r) ∷ []) (next r) (h r) (record { replies = met.replies; told = more }) left x) e
  where
    behind_reply : Reply → List Reply → Outcome DeskCall (Result T Error)
    behind_reply r more = outcome (asked (next r)) (record { replies = met.replies; told = more }) left

    after : List Reply → Outcome DeskCall (Result T Error)
    after told = elim told as (λ _. Outcome DeskCall (Result T Error)) [ [] ↦ nothing_yet | r ∷ more ↦ with_question q (outcome (asked (next r)) (record { replies = met.replies; told = more }) left) ]

    by : (told : List Reply) → ((r : Reply) (more : List Reply) → (behind_reply r more).answer ≡ Some (Ok x) → P ((former ++ (q, r) ∷ []) ++ zip (behind_reply r more).asked more) x) →
        (after told).answer ≡ Some (Ok x) → P (former ++ zip (after told).asked told) x
    by [] k f = absurd cc
    by (r ∷ more) k f = subst (λ (a : Asks). P a x) (append_assoc former ((q, r) ∷ []) (zip (behind_reply r more).asked more)) (k r more f)
ends-so {T} P former (Hear next) h met left x e = by (decided_after (λ ms. false) left) e
  where
    after : Option ℕ → Outcome DeskCall (Result T Error)
    after o = elim o as (λ _. Outcome DeskCall (Result T Error)) [ None ↦ nothing_yet | Some n ↦ outcome {Q = DeskCall} {R = Reply} {A = Result T Error} (Answers (Err Closed)) met (drop n left) ]

    by : (o : Option ℕ) → (after o).answer ≡ Some (Ok x) → P (former ++ zip (after o).asked met.told) x
    by None f = absurd cc
    by (Some n) f = absurd cc

-- whatever it asks, nothing is asked of it
pub ends-any : {T : Type 0} (former : Asks) (d : Dialogue T) → Ends (λ asks x. Unit {0}) former d
ends-any former (Answer (Ok x)) = tt
ends-any former (Answer (Err e)) = tt
ends-any former (Ask copying part d) = ends-any former d
ends-any former (Send part refused d) = ends-any former d
ends-any former (Leave id d) = ends-any former d
ends-any former (Read cleanup decides next) = λ ms. ends-any former (next ms)
ends-any former (Put cleanup part d) = ends-any former d
ends-any former (Finish part d) = ends-any former d
ends-any former (Close part d) = ends-any former d
ends-any former (HangUp d) = ends-any former d
ends-any former (Call q refused next) = λ r. ends-any (former ++ (q, r) ∷ []) (next r)
ends-any former (Hear next) = tt

-- what stays so whatever more is asked is so there too
pub ends-still : {T : Type 0} (S : Asks → Type 0) (stays : (asks : Asks) (a : DeskCall × Reply) → S asks → S (asks ++ a ∷ [])) (P : Asks → T → Type 0) (former : Asks) (d : Dialogue T) → S former → Ends P former d →
    Ends (λ asks x. S asks × P asks x) former d
ends-still S stays P former (Answer (Ok x)) s h = (s, h)
ends-still S stays P former (Answer (Err e)) s h = tt
ends-still S stays P former (Ask copying part d) s h = ends-still S stays P former d s h
ends-still S stays P former (Send part refused d) s h = ends-still S stays P former d s h
ends-still S stays P former (Leave id d) s h = ends-still S stays P former d s h
ends-still S stays P former (Read cleanup decides next) s h = λ ms. ends-still S stays P former (next ms) s (h ms)
ends-still S stays P former (Put cleanup part d) s h = ends-still S stays P former d s h
ends-still S stays P former (Finish part d) s h = ends-still S stays P former d s h
ends-still S stays P former (Close part d) s h = ends-still S stays P former d s h
ends-still S stays P former (HangUp d) s h = ends-still S stays P former d s h
ends-still S stays P former (Call q refused next) s h = λ r. ends-still S stays P (former ++ (q, r) ∷ []) (next r) (stays former (q, r) s) (h r)
ends-still S stays P former (Hear next) s h = tt

-- one behind another
pub ends-then : {A T : Type 0} (Q : Asks → A → Type 0) (P : Asks → T → Type 0) (f : A → Dialogue T) → ((asks : Asks) (x : A) → Q asks x → Ends P asks (f x)) → (former : Asks) (d : Dialogue A) → Ends Q former d →
    Ends P former (then_do d f)
ends-then Q P f later former (Answer (Ok x)) h = later former x h
ends-then Q P f later former (Answer (Err e)) h = tt
ends-then Q P f later former (Ask copying part d) h = ends-then Q P f later former d h
ends-then Q P f later former (Send part refused d) h = ends-then Q P f later former d h
ends-then Q P f later former (Leave id d) h = ends-then Q P f later former d h
ends-then Q P f later former (Read cleanup decides next) h = λ ms. ends-then Q P f later former (next ms) (h ms)
ends-then Q P f later former (Put cleanup part d) h = ends-then Q P f later former d h
ends-then Q P f later former (Finish part d) h = ends-then Q P f later former d h
ends-then Q P f later former (Close part d) h = ends-then Q P f later former d h
ends-then Q P f later former (HangUp d) h = ends-then Q P f later former d h
ends-then Q P f later former (Call q refused next) h = λ r. ends-then Q P f later (former ++ (q, r) ∷ []) (next r) (h r)
ends-then Q P f later former (Hear next) h = tt

-- whatever stood before it
pub ends-after : {A T : Type 0} (P : Asks → T → Type 0) (f : A → Dialogue T) → ((asks : Asks) (x : A) → Ends P asks (f x)) → (former : Asks) (d : Dialogue A) → Ends P former (then_do d f)
ends-after P f later former d = ends-then (λ asks x. Unit {0}) P f (λ asks x u. later asks x) former d (ends-any former d)
