-- A generated session is well made, and the one of two commands is the worked one.
use Rattle.std.proofs.Common.{◌≡◌, ℕ, zero, suc, ◌+◌, ◌%◌, ◌<◌, ◌≤◌, true, false, cond, ◌==◌, ◌||◌, if◌then◌else◌, nat_lt, List, [], ◌∷◌, ◌++◌, length, map, filter, filter_map, Some, None, Ok, Err, All, codes, decimal, refl, sym, ap, ◌∙◌, arith, add-one}
use Rattle.std.specs.Prelude.{IsTrue}
use Rattle.std.specs.List.{AllByRecursion, cons_option, range_with_len}
use Rattle.std.specs.Str.{chars, is_utf8}
use lib.Utf8.{encode}
use Rattle.std.proofs.lemmas.List.{length-append, length-map, length_push}
use Rattle.std.proofs.lemmas.List.Elements.{All-filter, All-from_recursion, All-weaker, recursion_from_All}
use Rattle.std.proofs.lemmas.Bool.{le-ltb}
use Rattle.std.proofs.lemmas.Nat.{mod_below}
use Rattle.pg_spec.specs.Bytes.{text0}
use Rattle.pg_spec.specs.Faults.{ZeroByte, TooMany, TooLong}
use Rattle.pg_spec.specs.Frames.{tagged, unless_fault}
use Rattle.pg_spec.specs.Passwords.{is_nonce}
use Rattle.pg_spec.specs.RawMessages.{is_async, is_parameter}
use Rattle.pg_spec.specs.Sent.{turns_given}
use Rattle.pg_spec.specs.Settings.{only_user}
use Rattle.pg_promises.specs.Causes.{Call}
use Rattle.pg_promises.specs.Promises.{AnswersStartup, IsValid, request_frame, requests_in}
use Rattle.pg_promises.proofs.WorkedPlans.{only_first}
use Rattle.pg_promises.proofs.WorkedStrings.{means_a}
use Rattle.pg_gen.specs.Generated.{IsCount, command, generated, script}
use Rattle.pg_gen.specs.Laws.{IsCallOf, IsWellMade, plan_of}
use Rattle.pg_gen.proofs.DigitLaws.{decimal-no_zero, decimal-short}
use Rattle.pg_gen.proofs.PlanLaws.{below, entries, plan_short, readable, replies_given, whole}
use Rattle.pg_gen.proofs.SessionLaws.{script_no, script_yes}

-- ---- what is asked

-- the frame of command i is made
asked : (i : ℕ) → i < 1000000 → request_frame (command i) ≡ Some (tagged 81 (text0 (codes "q" ++ decimal i)))
asked i small =
    let text : List ℕ = codes "q" ++ decimal i in
    let long : nat_lt 2147483647 (4 + length (text0 text)) ≡ false = le-ltb 2147483647 (4 + length (text0 text)) (omega (arith, decimal-short i small, length-append (decimal i) (0 ∷ []))) in
    ap (λ zero_. elim (unless_fault (if zero_ || false then Some ZeroByte else (if false then Some TooMany else (if nat_lt 2147483647 (4 + length (text0 text)) then Some TooLong else None))) (tagged 81 (text0 text))) [
      | Ok frame ↦ Some frame
      | Err fault ↦ None
    ]) (decimal-no_zero i small)
    ∙ ap (λ long. elim (unless_fault (if long then Some TooLong else None) (tagged 81 (text0 text))) [
      | Ok frame ↦ Some frame
      | Err fault ↦ None
    ]) long

all_asked : (numbers : List ℕ) → AllByRecursion (λ i. i < 1000000) numbers → length (filter_map request_frame (map command numbers)) ≡ length numbers
all_asked [] each = refl
all_asked (i ∷ numbers) each =
    ap (λ first. length (cons_option first (filter_map request_frame (map command numbers)))) (asked i each.0)
    ∙ ap suc (all_asked numbers each.1)

-- the numbers of a script's commands
abbrev numbers : (n handle : ℕ) → List ℕ
numbers n handle = filter (λ i. i % 8 == handle) (range_with_len 0 n)

-- each command of a script asks one request
script_asked : (n handle : ℕ) → n ≤ 100000 → length (filter_map request_frame (script n handle)) ≡ length (script n handle)
script_asked n handle few =
    let small : All (λ i. i < 1000000) (numbers n handle) =
    All-filter (λ i. i % 8 == handle) (λ i. i < 1000000) (range_with_len 0 n) (All-weaker (λ i. i < n) (λ i. i < 1000000) (λ i lt. omega (arith, lt, few)) (range_with_len 0 n) (below n)) in
    all_asked (numbers n handle) (recursion_from_All (λ i. i < 1000000) (numbers n handle) small) ∙ sym (length-map (numbers n handle) command)

-- a command more makes one script longer
script_longer : (n handle : ℕ) → length (script (n + 1) handle) ≡ length (script n handle) + cond (n % 8 == handle) 1 0
script_longer n handle =
    elim (n % 8 == handle) as (λ mine. (n % 8 == handle) ≡ mine → length (script (n + 1) handle) ≡ length (script n handle) + cond mine 1 0) [
      | true ↦ λ mine. ap length (script_yes handle n mine) ∙ length_push (script n handle) (command n)
      | false ↦ λ mine. omega (arith, ap length (script_no handle n mine))
    ] refl

-- a number below eight is one of eight
one_of_eight : (r : ℕ) → r < 8 →
    cond (r == 0) 1 0 + cond (r == 1) 1 0 + cond (r == 2) 1 0 + cond (r == 3) 1 0 + cond (r == 4) 1 0 + cond (r == 5) 1 0 + cond (r == 6) 1 0 + cond (r == 7) 1 0 ≡ 1
one_of_eight zero lt = refl
one_of_eight (suc zero) lt = refl
one_of_eight (suc (suc zero)) lt = refl
one_of_eight (suc (suc (suc zero))) lt = refl
one_of_eight (suc (suc (suc (suc zero)))) lt = refl
one_of_eight (suc (suc (suc (suc (suc zero))))) lt = refl
one_of_eight (suc (suc (suc (suc (suc (suc zero)))))) lt = refl
one_of_eight (suc (suc (suc (suc (suc (suc (suc zero))))))) lt = refl
one_of_eight (suc (suc (suc (suc (suc (suc (suc (suc r)))))))) lt = absurd (omega (arith, lt))

-- how many commands the eight scripts have
abbrev in_scripts : ℕ → ℕ
in_scripts n =
    length (script n 0) + length (script n 1) + length (script n 2) + length (script n 3)
    + length (script n 4) + length (script n 5) + length (script n 6) + length (script n 7)

all_in_scripts : (n : ℕ) → in_scripts n ≡ n
all_in_scripts zero = refl
all_in_scripts (suc n) =
    let more : in_scripts (n + 1) ≡ suc n =
    omega (
      arith,
      all_in_scripts n,
      one_of_eight (n % 8) (mod_below n 8 (omega arith)),
      script_longer n 0,
      script_longer n 1,
      script_longer n 2,
      script_longer n 3,
      script_longer n 4,
      script_longer n 5,
      script_longer n 6,
      script_longer n 7,
    ) in
    ap in_scripts (sym (add-one n)) ∙ more

pub requests : (n seed : ℕ) → IsCount n → requests_in (generated n seed).scripts ≡ n
requests n seed count =
    omega (
      arith,
      all_in_scripts n,
      script_asked n 0 count.most,
      script_asked n 1 count.most,
      script_asked n 2 count.most,
      script_asked n 3 count.most,
      script_asked n 4 count.most,
      script_asked n 5 count.most,
      script_asked n 6 count.most,
      script_asked n 7 count.most,
    )

-- ---- what is answered

valid : (n seed : ℕ) (call : Call) → IsCount n → IsCallOf call (generated n seed) → IsValid call (only_user (codes "a")) (plan_of (generated n seed))
unfolding is_utf8 chars encode
valid n seed call count of_ = record {
  user = refl;
  nonce = ap is_nonce of_.nonce;
  frame = refl;
  no_tls = λ e. cc;
  no_binding = λ e. cc;
  limit = omega (arith, plan_short n seed count.most, of_.limit);
}

opens : (n seed : ℕ) (call : Call) → IsCount n → AnswersStartup call (only_user (codes "a")) (plan_of (generated n seed))
unfolding is_utf8 chars encode
opens n seed call count = record {
  untroubled = refl;
  whole = whole n seed count.most;
  frames = 1;
  started = (2, refl, All-from_recursion (λ m. IsTrue (is_async m || is_parameter m)) [] tt);
  each_frame = only_first _ refl;
  all_frames = refl;
  readable = readable n seed count.most;
}

pub well_made : (n seed : ℕ) (call : Call) → IsCount n → IsCallOf call (generated n seed) → IsWellMade call (generated n seed)
unfolding opens
well_made n seed call count of_ = record {
  settings = only_user (codes "a");
  means = means_a;
  valid = valid n seed call count of_;
  opens = opens n seed call count;
  conforms = λ taken few. record {
    entries = omega (arith, few, requests n seed count, entries n seed);
    replies = replies_given n seed (turns_given taken) count.most;
  };
}
