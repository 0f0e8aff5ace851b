-- A plan that conforms, and two that don't.
use Rattle.std.proofs.Common.{◌≡◌, ℕ, zero, suc, ◌+◌, ◌<◌, ◌≤◌, List, [], Err, refl, subst, sym, ap, arith, codes, length, take, drop}
use Rattle.std.proofs.lemmas.List.Elements.{All-from_recursion, recursion_from_All}
use Rattle.std.specs.Prelude.{All, IsTrue, false, ◌||◌}
use Rattle.std.specs.List.{concat}
use Rattle.pg_spec.specs.Startup.{Done, used_of}
use Rattle.std.specs.Str.{is_utf8, chars}
use lib.Utf8.{encode}
use Rattle.pg_spec.specs.Settings.{only_user}
use Rattle.pg_promises.specs.Examples.{asked, asked_so, good_plan, hasty_plan, login_plan, with_password, with_password_sent}
use Rattle.pg_spec.specs.Faults.{Failure, OutOfMemory}
use Rattle.pg_promises.specs.Promises.{AnswersStartup, Conforms, EndsWell, IsOneReply, IsValid, MustEndWell, dialogue_over}
use Rattle.pg_spec.specs.Sent.{turns_given}
use Rattle.pg_spec.specs.RawMessages.{RawMessage, messages, bytes_left, is_async, is_parameter}
use Rattle.pg_promises.proofs.WorkedStrings.{means_a}

pub only_first : (P : ℕ → Type 0) → P 0 → (i : ℕ) → i < 1 → P i
only_first P p zero lt = p
only_first P p (suc i) lt = absurd (omega (arith, lt))

pub replies_all : (n : ℕ) → n ≤ 2 → All IsOneReply (drop 1 (take n good_plan.entries))
unfolding is_utf8 chars encode
replies_all zero few = All-from_recursion IsOneReply (drop 1 (take 0 good_plan.entries)) tt
replies_all (suc zero) few = All-from_recursion IsOneReply (drop 1 (take 1 good_plan.entries)) tt
replies_all (suc (suc zero)) few = All-from_recursion IsOneReply (drop 1 (take 2 good_plan.entries)) ((refl, refl), tt)
replies_all (suc (suc (suc n))) few = absurd (omega (arith, few))

-- its startup is answered
opens_so : (sent : List ℕ) → AnswersStartup (asked_so good_plan sent) (only_user (codes "a")) good_plan
unfolding is_utf8 chars encode
opens_so sent = record {
  untroubled = refl;
  whole = All-from_recursion (λ entry. bytes_left entry ≡ []) good_plan.entries (refl, (refl, tt));
  frames = 1;
  started = (2, refl, All-from_recursion (λ m. IsTrue (is_async m || is_parameter m)) [] tt);
  each_frame = only_first _ refl;
  all_frames = refl;
  readable = refl;
}

-- whatever the client sends, so long as it gives the server two turns at most
conforms_so : (sent taken : List ℕ) → turns_given taken ≤ 2 → Conforms (asked_so good_plan sent) (only_user (codes "a")) good_plan taken
unfolding is_utf8 chars encode opens_so
conforms_so sent taken few = record { opens = opens_so sent; later = record { entries = few; replies = replies_all (turns_given taken) few } }

pub conforms : (taken : List ℕ) → turns_given taken ≤ 2 → Conforms (asked good_plan) (only_user (codes "a")) good_plan taken
conforms = conforms_so []

-- ---- with a password

only_two : (P : ℕ → Type 0) → P 0 → P 1 → (i : ℕ) → i < 2 → P i
only_two P p q zero lt = p
only_two P p q (suc zero) lt = q
only_two P p q (suc (suc i)) lt = absurd (omega (arith, lt))

opens_login : AnswersStartup (asked login_plan) with_password login_plan
unfolding is_utf8 chars encode
opens_login = record {
  untroubled = refl;
  whole = All-from_recursion (λ entry. bytes_left entry ≡ []) login_plan.entries (refl, (refl, (refl, tt)));
  frames = 2;
  started = (3, refl, All-from_recursion (λ m. IsTrue (is_async m || is_parameter m)) [] tt);
  each_frame = only_two _ refl refl;
  all_frames = refl;
  readable = refl;
}

replies_login : (n : ℕ) → n ≤ 3 → All IsOneReply (drop 2 (take n login_plan.entries))
unfolding is_utf8 chars encode
replies_login zero few = All-from_recursion IsOneReply (drop 2 (take 0 login_plan.entries)) tt
replies_login (suc zero) few = All-from_recursion IsOneReply (drop 2 (take 1 login_plan.entries)) tt
replies_login (suc (suc zero)) few = All-from_recursion IsOneReply (drop 2 (take 2 login_plan.entries)) tt
replies_login (suc (suc (suc zero))) few = All-from_recursion IsOneReply (drop 2 (take 3 login_plan.entries)) ((refl, refl), tt)
replies_login (suc (suc (suc (suc n)))) few = absurd (omega (arith, few))

pub logs_in : (taken : List ℕ) → turns_given taken ≤ 3 → Conforms (asked login_plan) with_password login_plan taken
unfolding is_utf8 chars encode opens_login
logs_in taken few = record { opens = opens_login; later = record { entries = few; replies = replies_login (turns_given taken) few } }

-- ---- valid input

-- its user is named, and its frame is made
valid : (sent : List ℕ) → IsValid (asked_so good_plan sent) (only_user (codes "a")) good_plan
unfolding is_utf8 chars encode
valid sent = record { user = refl; nonce = refl; frame = refl; no_tls = λ e. cc; no_binding = λ e. cc; limit = omega arith }

-- only want of memory may stand in place of a session that must end well
ends_so : (failure : Failure) → EndsWell (Err failure) → failure ≡ OutOfMemory
ends_so OutOfMemory ends = refl
ends_so _ ends = absurd ends

pub only_memory : (failure : Failure) (taken : List ℕ) → turns_given taken ≤ 2 → MustEndWell (asked_so good_plan taken) (Err failure) → failure ≡ OutOfMemory
only_memory failure taken few must =
    ends_so failure (must good_plan (only_user (codes "a")) taken refl refl refl refl means_a (valid taken) (conforms_so taken taken few))

-- a message that no request asks for
abbrev IsAside : RawMessage → Type 0
IsAside m = IsTrue (is_async m || is_parameter m)

no_reply : IsTrue false → ⊥
no_reply fact = absurd cc

-- no number of the entries is the startup's: over the first alone two frames are written, and behind the
-- startup in the first two a reply stands
by_frames : (frames used : ℕ) → (dialogue_over (asked hasty_plan) with_password hasty_plan frames).outcome ≡ Done used →
    All IsAside (drop used (messages (concat (take frames hasty_plan.entries)))) →
    ((i : ℕ) → i < frames → length (dialogue_over (asked hasty_plan) with_password hasty_plan i).frames ≡ i + 1) →
    length (dialogue_over (asked hasty_plan) with_password hasty_plan frames).frames ≡ frames → ⊥
unfolding is_utf8 chars encode
by_frames zero used done aside each all = absurd (omega (arith, all))
by_frames (suc zero) used done aside each all = absurd (omega (arith, all))
by_frames (suc (suc zero)) used done aside each all =
    let behind : List ℕ = concat (take 2 hasty_plan.entries) in
    let three : used ≡ 3 = ap used_of (sym done) in
    let asides : All IsAside (drop 3 (messages behind)) = subst (λ k. All IsAside (drop k (messages behind))) three aside in
    let first = recursion_from_All IsAside (drop 3 (messages behind)) asides in
    no_reply first.0
by_frames (suc (suc (suc n))) used done aside each all = absurd (omega (arith, each 2 (omega arith)))

pub not_hasty : Conforms (asked hasty_plan) with_password hasty_plan with_password_sent → ⊥
not_hasty c = by_frames c.opens.frames c.opens.started.0 c.opens.started.1 c.opens.started.2 c.opens.each_frame c.opens.all_frames
