-- The parts of a generated session, one command more.
use Rattle.std.proofs.Common.{◌≡◌, ◌⊎◌, inl, inr, ℕ, suc, ◌+◌, ◌*◌, ◌%◌, ◌^◌, ◌≤◌, ◌<◌, Bool, true, false, cond, ◌==◌, List, [], ◌∷◌, ◌++◌, length, map, refl, sym, ap, subst, ◌∙◌, arith, append-nil, map-id, filter, eq-eqb, ne_eqb, Vec}
use Rattle.std.specs.Prelude.{◌&&◌}
use Rattle.std.specs.List.{AllByRecursion, list_all, range_with_len}
use Rattle.std.proofs.lemmas.List.{length-map, map-append, map_push}
use Rattle.std.proofs.lemmas.List.Elements.{All-from_recursion, filter-append}
use Rattle.std.proofs.lemmas.List.FromFn.{length-range_with_len, map-range_with_len_more}
use Rattle.std.proofs.lemmas.List.Sums.{count_by-le-length, length-filter}
use Rattle.pg_spec.specs.RawMessages.{RawMessage}
use Rattle.pg_spec.specs.Report as said
use Rattle.pg_wire.specs.Giving.{lists}
use Rattle.pg_text.specs.Levels.{KeepLevels}
use Rattle.pg_text.specs.Scripts.{AreShort, are_typed, is_typed, most_scripts}
use Rattle.pg_text.proofs.NestingLaws.{simple_levels}
use Rattle.pg_text.specs.Views.{as_command, as_scripts}
use Rattle.pg_text.specs.declared.command.Command.{Command}
use Rattle.pg_gen.specs.Draws.{draw, drawn, next_number, number_after}
use Rattle.pg_gen.specs.Generated.{command, is_notified, opening, replies, reply, rows_of, script}
use Rattle.pg_gen.specs.Messages.{bytes_of}

-- ---- scripts

pub range_more : (n : ℕ) → range_with_len 0 (n + 1) ≡ range_with_len 0 n ++ n ∷ []
range_more n =
    sym (map-id (range_with_len 0 (n + 1))) ∙ map-range_with_len_more (λ x. x) 0 n n (omega arith)
    ∙ ap (λ l. l ++ n ∷ []) (map-id (range_with_len 0 n))

-- the commands of a script, one number more
abbrev with_next : (handle n : ℕ) → Bool → List said.Command
with_next handle n mine = script n handle ++ map command (cond mine (n ∷ []) [])

script_more : (handle n : ℕ) → script (n + 1) handle ≡ with_next handle n (n % 8 == handle)
script_more handle n =
    let mine : ℕ → Bool = λ i. i % 8 == handle in
    ap (λ l. map command (filter mine l)) (range_more n)
    ∙ ap (map command) (filter-append mine (range_with_len 0 n) (n ∷ []))
    ∙ map-append command (filter mine (range_with_len 0 n)) (cond (n % 8 == handle) (n ∷ []) [])

-- the next number is one of them
pub script_yes : (handle n : ℕ) → (n % 8 == handle) ≡ true → script (n + 1) handle ≡ script n handle ++ command n ∷ []
script_yes handle n mine = script_more handle n ∙ ap (with_next handle n) mine

pub script_no : (handle n : ℕ) → (n % 8 == handle) ≡ false → script (n + 1) handle ≡ script n handle
script_no handle n mine = script_more handle n ∙ ap (with_next handle n) mine ∙ append-nil (script n handle)

pub commands_yes : (handle n : ℕ) (old new : List Command) (c : Command) → n % 8 ≡ handle → old ≡ map as_command (script n handle) →
    new ≡ old ++ c ∷ [] → c ≡ as_command (command n) → new ≡ map as_command (script (n + 1) handle)
commands_yes handle n old new c mine before pushed is =
    pushed ∙ (λ i. before i ++ is i ∷ []) ∙ sym (map_push as_command (script n handle) (command n))
    ∙ ap (map as_command) (sym (script_yes handle n (eq-eqb (n % 8) handle mine)))

pub commands_no : (handle n : ℕ) (old new : List Command) → (n % 8 ≡ handle → ⊥) → old ≡ map as_command (script n handle) → new ≡ old → new ≡ map as_command (script (n + 1) handle)
commands_no handle n old new other before same = same ∙ before ∙ ap (map as_command) (sym (script_no handle n (ne_eqb (n % 8) handle other)))

-- it has no more commands than there are
pub script_short : (n handle : ℕ) → length (script n handle) ≤ n
script_short n handle =
    let mine : ℕ → Bool = λ i. i % 8 == handle in
    omega (arith, length-map (filter mine (range_with_len 0 n)) command, length-filter mine (range_with_len 0 n), count_by-le-length mine (range_with_len 0 n), length-range_with_len 0 n)

-- a script more
pub scripts_more : (n handle : ℕ) (old new : List (List Command)) (commands : List Command) → old ≡ as_scripts (map (script n) (range_with_len 0 handle)) →
    new ≡ old ++ commands ∷ [] → commands ≡ map as_command (script n handle) → new ≡ as_scripts (map (script n) (range_with_len 0 (handle + 1)))
scripts_more n handle old new commands before pushed is =
    pushed ∙ (λ i. before i ++ is i ∷ []) ∙ sym (map_push (map as_command) (map (script n) (range_with_len 0 handle)) (script n handle))
    ∙ ap as_scripts (sym (map-range_with_len_more (script n) 0 handle handle (omega arith)))

-- each is short
short-each : (n : ℕ) → n ≤ 100000 → (handles : List ℕ) → AllByRecursion (λ script. length script < 2 ^ 32) (as_scripts (map (script n) handles))
short-each n few [] = tt
short-each n few (handle ∷ handles) = (let same = length-map (script n handle) as_command in let short = script_short n handle in omega (arith, same, short, few), short-each n few handles)

pub short_from : (n : ℕ) (scripts : List (List Command)) → n ≤ 100000 → scripts ≡ as_scripts (map (script n) (range_with_len 0 8)) → AreShort scripts
short_from n scripts few e =
    subst (λ (x : List (List Command)). AreShort x) (sym e)
    (All-from_recursion (λ script. length script < 2 ^ 32) (as_scripts (map (script n) (range_with_len 0 8))) (short-each n few (range_with_len 0 8)))

pub eight_from : (n : ℕ) (scripts : List (List Command)) → scripts ≡ as_scripts (map (script n) (range_with_len 0 8)) → length scripts ≡ 8
eight_from n scripts e = ap (λ (x : List (List Command)). length x) e

-- none of them has levels of a transaction
levels_from : (n : ℕ) (scripts : List (List Command)) → scripts ≡ as_scripts (map (script n) (range_with_len 0 8)) → KeepLevels scripts
levels_from n scripts e = subst (λ (x : List (List Command)). KeepLevels x) (sym e) (simple_levels (map (script n) (range_with_len 0 8)))

-- so they aren't refused
pub refused_never : (n : ℕ) (scripts : List (List Command)) → scripts ≡ as_scripts (map (script n) (range_with_len 0 8)) → (most_scripts < length scripts) ⊎ (KeepLevels scripts → ⊥) → ⊥
refused_never n scripts e (inl many) = omega (arith, many, eight_from n scripts e)
refused_never n scripts e (inr broken) = broken (levels_from n scripts e)

-- none of them has values
simple-typed : (commands : List said.Command) → list_all is_typed (map as_command commands) ≡ true
simple-typed [] = refl
simple-typed (said.Simple text take ∷ commands) = simple-typed commands

each-typed : (n : ℕ) (handles : List ℕ) → are_typed (as_scripts (map (script n) handles)) ≡ true
each-typed n [] = refl
each-typed n (handle ∷ handles) = both (simple-typed (script n handle)) (each-typed n handles)
  where
    both : {a b : Bool} → a ≡ true → b ≡ true → (a && b) ≡ true
    both p q = (λ i. p i && q i)

pub typed_from : (n : ℕ) (scripts : List (List Command)) → scripts ≡ as_scripts (map (script n) (range_with_len 0 8)) → are_typed scripts ≡ true
typed_from n scripts e = ap are_typed e ∙ each-typed n (range_with_len 0 8)

-- ---- the plan

-- the bytes of reply k
abbrev pub reply_bytes : (seed k : ℕ) → List ℕ
reply_bytes seed k = bytes_of (reply k (rows_of seed k) (is_notified seed k))

pub replies_more : (seed n : ℕ) → map bytes_of (replies (n + 1) seed) ≡ map bytes_of (replies n seed) ++ reply_bytes seed n ∷ []
replies_more seed n =
    let answer : ℕ → List RawMessage = λ k. reply k (rows_of seed k) (is_notified seed k) in
    ap (λ rs. map bytes_of (opening ∷ rs)) (map-range_with_len_more answer 0 n n (omega arith))
    ∙ map_push bytes_of (replies n seed) (reply n (rows_of seed n) (is_notified seed n))

-- the two draws for reply k, and the number behind them
pub rows_drawn : (seed k x : ℕ) → x ≡ number_after seed (2 * k) → drawn (next_number x) % 4 ≡ rows_of seed k
rows_drawn seed k x e = ap (λ y. drawn (next_number y) % 4) e

pub notified_drawn : (seed k x : ℕ) → x ≡ number_after seed (2 * k) → (drawn (next_number (next_number x)) % 16 == 1) ≡ is_notified seed k
notified_drawn seed k x e =
    let second : suc (2 * k) ≡ 2 * k + 1 = omega arith in
    ap (λ y. drawn (next_number (next_number y)) % 16 == 1) e ∙ ap (λ i. draw seed i % 16 == 1) second

pub next_drawn : (seed k x : ℕ) → x ≡ number_after seed (2 * k) → next_number (next_number x) ≡ number_after seed (2 * (k + 1))
next_drawn seed k x e =
    let two : suc (suc (2 * k)) ≡ 2 * (k + 1) = omega arith in
    ap (λ y. next_number (next_number y)) e ∙ ap (number_after seed) two

-- a reply more
pub entries_more : {Z : Type 0} (seed k x rows : ℕ) (notified : Bool) (old new : List (Vec ℕ Z)) (entry : Vec ℕ Z) → new ≡ old ++ entry ∷ [] →
    lists old ≡ map bytes_of (replies k seed) → x ≡ number_after seed (2 * k) → rows ≡ drawn (next_number x) % 4 →
    notified ≡ (drawn (next_number (next_number x)) % 16 == 1) → entry.items ≡ bytes_of (reply k rows notified) → lists new ≡ map bytes_of (replies (k + 1) seed)
entries_more {Z = Z} seed k x rows notified old new entry pushed before at r n e =
    let a : rows ≡ rows_of seed k = r ∙ rows_drawn seed k x at in
    let b : notified ≡ is_notified seed k = n ∙ notified_drawn seed k x at in
    let same : entry.items ≡ reply_bytes seed k = e ∙ (λ i. bytes_of (reply k (a i) (b i))) in
    ap lists pushed ∙ map_push (λ (v : Vec ℕ Z). v.items) old entry ∙ (λ i. before i ++ same i ∷ []) ∙ sym (replies_more seed k)
