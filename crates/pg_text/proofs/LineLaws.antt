-- Lines are read as they are spelled.
use Rattle.std.proofs.Common.{◌≡◌, ◌≢◌, ◌<◌, ◌⊎◌, ℕ, true, false, List, [], ◌∷◌, ◌++◌, length, get_or, map, Option, Some, None, codes, refl, sym, ap, subst, ◌∙◌, append_assoc, append-nil, inl, inr}
use Rattle.std.specs.Prelude.{IsUtf8, is_none, cond, ◌==◌}
use Rattle.std.specs.List.{AllZip, concat, join_with_byte}
use Rattle.std.proofs.lemmas.Bool.{eqb-false}
use Rattle.std.proofs.lemmas.List.Concat.{flat_map-append}
use Rattle.pg_text.specs.SessionText as said
use Rattle.pg_spec.specs.SessionText.{IsBytes, IsNumber, IsQuoted}
use Rattle.pg_text.specs.SessionText.{IsPair, IsSlot, IsTarget, IsTypeName, IsValue, Spells, SpellsExecution, SpellsTyped}
use Rattle.pg_types.specs.declared.value.Value.{Value}
use Rattle.pg_text.specs.declared.command.CommandTarget.{CommandTarget}
use Rattle.pg_text.specs.declared.command.TypedText.{TypedText}
use Rattle.pg_text.specs.declared.execution.Execution.{Execution}
use Rattle.pg_text.specs.declared.execution.Execution.TheVariants as form
use Rattle.pg_text.specs.declared.execution.TypedExecution.{TypedExecution}
use Rattle.pg_text.specs.declared.execution.TypedExecution.TheVariants as typed
use Rattle.pg_text.specs.Executions.{FirstWordOf, command_of, execution_word, typed_command_of, typed_word}
use Rattle.pg_text.specs.declared.line.Keyword.{Keyword}
use Rattle.pg_text.specs.declared.line.Keyword.TheVariants.{Config, Nonce, Limit, Turns, Handle, Step, Cut, End, Simple, Batch, Check, Prepare, Clear, Executes, QueryRaw, ExecutesTyped, Close, Begin, Savepoint, Commit, Rollback, Abandon}
use Rattle.pg_text.specs.declared.line.Line.{Line}
use Rattle.pg_text.specs.declared.line.Line.TheVariants as line
use Rattle.pg_text.specs.declared.command.Command.TheVariants as command
use Rattle.pg_text.specs.Lines.{FirstWord, FirstWordAmong, command_keywords, first_word, level_keywords, session_keywords, ReadsLine, ReadsRest, SaysSomething, WordsOf}
use Rattle.pg_text.specs.Modes.{mode_words}
use Rattle.pg_text.specs.Words.{AllWords, behind, IsTake, IsTextOf, IsUtf8Quoted, IsWord, left_text, NoSpace, OneWord, Takes, TookAll}
use Rattle.pg_text.proofs.WordLaws.{Ends, bytes_ends, no_space_from, number_ends, quoted_ends, word_ends}
use Rattle.pg_text.proofs.TypeNames.{type_name_ends}
use Rattle.pg_text.proofs.GivenLaws.{pair_ends, slot_ends, target_ends, value_ends}
use Rattle.pg_text.proofs.LevelLaws.{left_of, left_of_is, none_left, one_modes, some_left}
use Rattle.pg_steps.specs.declared.modes.Modes.{Modes}

-- ---- words behind one another

cc_tail : {b c : ℕ} {v w : List ℕ} → b ∷ v ≡ c ∷ w → v ≡ w
cc_tail e = cc

-- a kind of words that is told from what stands behind it, taken off the front of words that are known
pub after_word : {A : Type 0} (Is : A → List ℕ → Type 0) → Ends Is → (old new : Option (List ℕ)) (x : A) → Takes Is old (Some x) new →
    (y : A) (word : List ℕ) (words : List (List ℕ)) → Is y word → left_text old ≡ behind (word ∷ words) → (x ≡ y) × (left_text new ≡ behind words)
after_word Is ends old new x taken y word words is e =
    let tail : taken.0 ++ left_text new ≡ word ++ left_text (left_of words) = cc_tail (sym taken.2 ∙ e) ∙ ap (λ t. word ++ t) (sym (left_of_is words)) in
    let same = ends x y taken.0 word new (left_of words) taken.1 is tail in
    (same.0, ap left_text same.2 ∙ left_of_is words)

pub no_word : {A : Type 0} (Is : A → List ℕ → Type 0) (old new : Option (List ℕ)) → Takes Is old None new →
    (y : A) (word : List ℕ) (words : List (List ℕ)) → Is y word → left_text old ≡ behind (word ∷ words) → ⊥
no_word Is old new none y word words is e = none y word (left_of words) is (e ∙ ap (λ t. 32 ∷ word ++ t) (sym (left_of_is words)))

pub only_one : {A : Type 0} (Is : A → List ℕ → Type 0) (old new : Option (List ℕ)) (r : Option A) → Takes Is old r new → is_none new ≡ true → OneWord Is old r
only_one Is old new None none done = λ x word is e. no_word Is old new none x word [] is e
only_one Is old new (Some x) taken done = (taken.0, taken.1, taken.2 ∙ ap (λ l. 32 ∷ taken.0 ++ left_text l) (none_left new done))

pub no_one : {A : Type 0} (Is : A → List ℕ → Type 0) (old new : Option (List ℕ)) → Takes Is old None new → OneWord Is old None
no_one Is old new none x word is e = no_word Is old new none x word [] is e

pub not_one : {A : Type 0} (Is : A → List ℕ → Type 0) → Ends Is → (old new : Option (List ℕ)) (r : Option A) → Takes Is old r new → is_none new ≡ false → OneWord Is old None
not_one Is ends old new None none more = no_one Is old new none
not_one Is ends old new (Some x) taken more = λ y word is e. some_left new more (after_word Is ends old new x taken y word [] is e).1

-- ---- texts

pub utf8_taken : (old new : Option (List ℕ)) (x : List ℕ) (r : Option (List ℕ)) → Takes IsQuoted old (Some x) new → IsTextOf x r → Takes IsUtf8Quoted old r new
utf8_taken old new x None taken not_text = λ y word left is e.
    let tail : taken.0 ++ left_text new ≡ word ++ left_text left = cc_tail (sym taken.2 ∙ e) in
    let same = quoted_ends x y taken.0 word new left taken.1 is.1 tail in
    not_text (subst IsUtf8 (sym same.0) is.0)
utf8_taken old new x (Some text) taken is =
    (taken.0, (subst IsUtf8 (sym is.0) is.1, subst (λ (t : List ℕ). IsQuoted t taken.0) (sym is.0) taken.1), taken.2)

pub utf8_none : (old new : Option (List ℕ)) → Takes IsQuoted old None new → Takes IsUtf8Quoted old None new
utf8_none old new none x word left is e = none x word left is.1 e

pub utf8_ends : Ends IsUtf8Quoted
utf8_ends x y v w l k p q e = quoted_ends x y v w l k p.1 q.1 e

-- ---- all words

-- words with a space before each, and what is left behind them, are what is left of a line
left_with : (words : List (List ℕ)) (now : Option (List ℕ)) → (left : Option (List ℕ)) × (left_text left ≡ behind words ++ left_text now)
left_with [] now = (now, refl)
left_with (word ∷ words) now = (Some (word ++ (behind words ++ left_text now)), ap (λ t. 32 ∷ t) (sym (append_assoc word (behind words) (left_text now))))

-- the words that were taken stand in front of all words
skip : {A : Type 0} (Is : A → List ℕ → Type 0) → Ends Is → (xs ys : List A) (ws vs : List (List ℕ)) (now : Option (List ℕ)) →
    AllZip Is xs ws → AllZip Is ys vs → behind ws ++ left_text now ≡ behind vs →
    (zs : List A) × (us : List (List ℕ)) × AllZip Is zs us × (left_text now ≡ behind us)
skip Is ends [] ys [] vs now p q e = (ys, vs, q, e)
skip Is ends [] ys (w ∷ ws) vs now p q e = absurd p
skip Is ends (x ∷ xs) ys [] vs now p q e = absurd p
skip Is ends (x ∷ xs) [] (w ∷ ws) [] now p q e = cc e
skip Is ends (x ∷ xs) [] (w ∷ ws) (v ∷ vs) now p q e = absurd q
skip Is ends (x ∷ xs) (y ∷ ys) (w ∷ ws) [] now p q e = absurd q
skip Is ends (x ∷ xs) (y ∷ ys) (w ∷ ws) (v ∷ vs) now p q e =
    let left = left_with ws now in
    let tail : w ++ left_text left.0 ≡ v ++ left_text (left_of vs) =
    ap (λ t. w ++ t) left.1 ∙ sym (append_assoc w (behind ws) (left_text now)) ∙ cc_tail e ∙ ap (λ t. v ++ t) (sym (left_of_is vs)) in
    let same = ends x y w v left.0 (left_of vs) p.0 q.0 tail in
    skip Is ends xs ys ws vs now p.1 q.1 (sym left.1 ∙ ap left_text same.2 ∙ left_of_is vs)

refused : {A : Type 0} (Is : A → List ℕ → Type 0) (now new : Option (List ℕ)) → is_none now ≡ false → Takes Is now None new →
    (zs : List A) (us : List (List ℕ)) → AllZip Is zs us → left_text now ≡ behind us → ⊥
refused Is now new more none [] [] p e = some_left now more e
refused Is now new more none [] (u ∷ us) p e = absurd p
refused Is now new more none (z ∷ zs) [] p e = absurd p
refused Is now new more none (z ∷ zs) (u ∷ us) p e = no_word Is now new none z u us p.0 e

pub all_refused : {A : Type 0} (Is : A → List ℕ → Type 0) → Ends Is → (items : List A) (old now new : Option (List ℕ)) →
    TookAll Is items old now → is_none now ≡ false → Takes Is now None new → AllWords Is old None
all_refused Is ends items old now new took more none ys vs q e =
    let rest = skip Is ends items ys took.0 vs now took.1 q (sym took.2 ∙ e) in
    refused Is now new more none rest.0 rest.1 rest.2 rest.3

pub zip_more : {A B : Type 0} (R : A → B → Type 0) (xs : List A) (ys : List B) (x : A) (y : B) → AllZip R xs ys → R x y → AllZip R (xs ++ x ∷ []) (ys ++ y ∷ [])
zip_more R [] [] x y h r = (r, tt)
zip_more R [] (b ∷ ys) x y h r = absurd h
zip_more R (a ∷ xs) [] x y h r = absurd h
zip_more R (a ∷ xs) (b ∷ ys) x y h r = (h.0, zip_more R xs ys x y h.1 r)

pub one_more : {A : Type 0} (Is : A → List ℕ → Type 0) (items : List A) (x : A) (old now new : Option (List ℕ)) →
    TookAll Is items old now → Takes Is now (Some x) new → TookAll Is (items ++ x ∷ []) old new
one_more Is items x old now new took taken = (
  took.0 ++ taken.0 ∷ [],
  zip_more Is items took.0 x taken.0 took.1 taken.1,
  took.2 ∙ ap (λ t. behind took.0 ++ t) (taken.2 ∙ ap (λ t. t ++ left_text new) (sym (append-nil (32 ∷ taken.0))))
      ∙ sym (append_assoc (behind took.0) (behind (taken.0 ∷ [])) (left_text new))
      ∙ ap (λ t. t ++ left_text new) (sym (flat_map-append (λ (word : List ℕ). 32 ∷ word) took.0 (taken.0 ∷ []))),
)

pub concat_more : (pieces : List (List ℕ)) (piece : List ℕ) → concat (pieces ++ piece ∷ []) ≡ concat pieces ++ piece
concat_more [] piece = append-nil piece
concat_more (p ∷ pieces) piece = ap (λ t. p ++ t) (concat_more pieces piece) ∙ sym (append_assoc p (concat pieces) piece)

-- ---- lines

take_no_space : NoSpace (codes "take")
take_no_space = (λ e. absurd cc, (λ e. absurd cc, (λ e. absurd cc, (λ e. absurd cc, tt))))

-- `take` and a number are told from what stands behind them
pub take_ends : Ends IsTake
take_ends x y v w l k (n, p, is) (m, q, also) e =
    let both : codes "take" ++ 32 ∷ n ++ left_text l ≡ codes "take" ++ 32 ∷ m ++ left_text k = ap (λ t. t ++ left_text l) (sym is) ∙ e ∙ ap (λ t. t ++ left_text k) also in
    let same = number_ends 18446744073709551615 x y n m l k p q (cc_tail (cc_tail (cc_tail (cc_tail (cc_tail both))))) in
    (same.0, is ∙ ap (λ t. codes "take" ++ 32 ∷ t) same.1 ∙ sym also, same.2)

pub take_none : (old new : Option (List ℕ)) → Takes IsWord old None new → Takes IsTake old None new
take_none old new none n word left (number, is, same) e =
    none (codes "take") (codes "take") (Some (number ++ left_text left)) (refl, take_no_space) (e ∙ ap (λ t. 32 ∷ t ++ left_text left) same)

-- the word in front of a `take` is that
take_word : (old mid : Option (List ℕ)) (word number : List ℕ) (left : Option (List ℕ)) (taken : Takes IsWord old (Some word) mid) → left_text old ≡ 32 ∷ codes "take" ++ 32 ∷ number ++ left_text left →
    (taken.0 ≡ codes "take") × (mid ≡ Some (number ++ left_text left))
take_word old mid word number left taken e =
    word_ends taken.0 (codes "take") mid (Some (number ++ left_text left)) taken.1.1 take_no_space (cc_tail (sym taken.2 ∙ e))

pub take_other : (old mid new : Option (List ℕ)) (word : List ℕ) → Takes IsWord old (Some word) mid → word ≢ codes "take" → Takes IsTake old None new
take_other old mid new word taken other n spelled left (number, is, same) e =
    other (taken.1.0 ∙ (take_word old mid word number left taken (e ∙ ap (λ t. 32 ∷ t ++ left_text left) same)).0)

pub take_number : (old mid new : Option (List ℕ)) (word : List ℕ) (r : Option ℕ) → Takes IsWord old (Some word) mid → word ≡ codes "take" → Takes (IsNumber 18446744073709551615) mid r new →
    Takes IsTake old r new
take_number old mid new word (Some n) taken is (number, digits, e) =
    (codes "take" ++ 32 ∷ number, (number, digits, refl), taken.2 ∙ ap (λ t. 32 ∷ t ++ left_text mid) (sym taken.1.0 ∙ is) ∙ ap (λ t. 32 ∷ codes "take" ++ t) e)
take_number old mid new word None taken is none = λ n spelled left found e.
    let front = take_word old mid word found.0 left taken (e ∙ ap (λ t. 32 ∷ t ++ left_text left) found.2) in
    none n found.0 left found.1 (ap left_text front.1)

pub config_some : (old : Option (List ℕ)) (text : List ℕ) → OneWord IsUtf8Quoted old (Some text) → ReadsRest Config old (Some (line.Config text))
config_some old text (word, is, e) = (said.ConfigLine text, word ∷ [], (text, word, refl, is.0, is.1, refl), e, refl)

pub config_none : (old : Option (List ℕ)) → OneWord IsUtf8Quoted old None → ReadsRest Config old None
config_none old none l words (text, word, is, utf8, quoted, same) e = none text word (utf8, quoted) (e ∙ ap behind same)

pub nonce_some : (old : Option (List ℕ)) (bytes nonce : List ℕ) → nonce ≡ bytes → OneWord IsQuoted old (Some bytes) → ReadsRest Nonce old (Some (line.Nonce nonce))
nonce_some old bytes nonce same (word, is, e) =
    (said.NonceLine nonce, word ∷ [], (nonce, word, refl, subst (λ (t : List ℕ). IsQuoted t word) (sym same) is, refl), e, refl)

pub nonce_none : (old : Option (List ℕ)) → OneWord IsQuoted old None → ReadsRest Nonce old None
nonce_none old none l words (nonce, word, is, quoted, same) e = none nonce word quoted (e ∙ ap behind same)

pub limit_some : (old : Option (List ℕ)) (n : ℕ) → OneWord (IsNumber 9223372036854775807) old (Some n) → ReadsRest Limit old (Some (line.Limit n))
limit_some old n (word, is, e) = (said.LimitLine n, word ∷ [], (n, word, refl, is, refl), e, refl)

pub cut_some : (old : Option (List ℕ)) (n : ℕ) → 0 < n → OneWord (IsNumber 18446744073709551615) old (Some n) → ReadsRest Cut old (Some (line.Cut n))
cut_some old n some (word, is, e) = (said.CutLine n, word ∷ [], (n, word, refl, some, is, refl), e, refl)

pub simple_none : (old new : Option (List ℕ)) → Takes IsUtf8Quoted old None new → ReadsRest Simple old None
simple_none old new none l words (text, word, utf8, quoted, inl (is, same)) e = no_word IsUtf8Quoted old new none text word [] (utf8, quoted) (e ∙ ap behind same)
simple_none old new none l words (text, word, utf8, quoted, inr (n, number, is, digits, same)) e =
    no_word IsUtf8Quoted old new none text word (codes "take" ∷ number ∷ []) (utf8, quoted) (e ∙ ap behind same)

pub simple_alone : (old new : Option (List ℕ)) (text : List ℕ) → Takes IsUtf8Quoted old (Some text) new → is_none new ≡ true →
    ReadsRest Simple old (Some (line.Command (command.Simple text None)))
simple_alone old new text taken done =
    let one = only_one IsUtf8Quoted old new (Some text) taken done in
    (said.CommandLine (command.Simple text None), one.0 ∷ [], (text, one.0, one.1.0, one.1.1, inl (refl, refl)), one.2, refl)

pub simple_take : (old new : Option (List ℕ)) (text : List ℕ) (n : ℕ) → Takes IsUtf8Quoted old (Some text) new → OneWord IsTake new (Some n) →
    ReadsRest Simple old (Some (line.Command (command.Simple text (Some n))))
simple_take old new text n taken (spelled, (number, digits, is), e) = (
  said.CommandLine (command.Simple text (Some n)),
  taken.0 ∷ codes "take" ∷ number ∷ [],
  (text, taken.0, taken.1.0, taken.1.1, inr (n, number, refl, digits, refl)),
  taken.2 ∙ ap (λ t. 32 ∷ taken.0 ++ t) (e ∙ ap (λ t. behind (t ∷ [])) is),
  refl,
)

pub simple_refused : (old new : Option (List ℕ)) (text : List ℕ) → Takes IsUtf8Quoted old (Some text) new → is_none new ≡ false → OneWord IsTake new None → ReadsRest Simple old None
simple_refused old new text taken more none l words (text', word, utf8, quoted, inl (is, same)) e =
    some_left new more (after_word IsUtf8Quoted utf8_ends old new text taken text' word [] (utf8, quoted) (e ∙ ap behind same)).1
simple_refused old new text taken more none l words (text', word, utf8, quoted, inr (n, number, is, digits, same)) e =
    none n (codes "take" ++ 32 ∷ number) (number, digits, refl) (after_word IsUtf8Quoted utf8_ends old new text taken text' word (codes "take" ∷ number ∷ []) (utf8, quoted) (e ∙ ap behind same)).1

pub batch_some : (old : Option (List ℕ)) (text : List ℕ) → OneWord IsUtf8Quoted old (Some text) → ReadsRest Batch old (Some (line.Command (command.Batch text)))
batch_some old text (word, is, e) = (said.CommandLine (command.Batch text), word ∷ [], (text, word, refl, is.0, is.1, refl), e, refl)

pub batch_none : (old : Option (List ℕ)) → OneWord IsUtf8Quoted old None → ReadsRest Batch old None
batch_none old none l words (text, word, is, utf8, quoted, same) e = none text word (utf8, quoted) (e ∙ ap behind same)

pub prepare_some : (old mid last : Option (List ℕ)) (slot : ℕ) (text types given : List ℕ) → given ≡ types →
    Takes (IsNumber 18446744073709551615) old (Some slot) mid → Takes IsUtf8Quoted mid (Some text) last → AllWords IsTypeName last (Some types) →
    ReadsRest Prepare old (Some (line.Command (command.Prepare slot text given)))
prepare_some old mid last slot text types given same number quoted names = (
  said.CommandLine (command.Prepare slot text given),
  number.0 ∷ quoted.0 ∷ names.0,
  (slot, text, given, number.0, quoted.0, names.0, refl, quoted.1.0, number.1, quoted.1.1, subst (λ (t : List ℕ). AllZip IsTypeName t names.0) (sym same) names.1, refl),
  number.2 ∙ ap (λ t. 32 ∷ number.0 ++ t) (quoted.2 ∙ ap (λ t. 32 ∷ quoted.0 ++ t) names.2),
  refl,
)

pub prepare_slotless : (old new : Option (List ℕ)) → Takes (IsNumber 18446744073709551615) old None new → ReadsRest Prepare old None
prepare_slotless old new none l words (slot, text, types, number, word, names, is, utf8, digits, quoted, each, same) e =
    no_word (IsNumber 18446744073709551615) old new none slot number (word ∷ names) digits (e ∙ ap behind same)

pub prepare_textless : (old mid new : Option (List ℕ)) (slot : ℕ) → Takes (IsNumber 18446744073709551615) old (Some slot) mid → Takes IsUtf8Quoted mid None new →
    ReadsRest Prepare old None
prepare_textless old mid new slot taken none l words (slot', text, types, number, word, names, is, utf8, digits, quoted, each, same) e =
    let left = (after_word (IsNumber 18446744073709551615) (number_ends 18446744073709551615) old mid slot taken slot' number (word ∷ names) digits (e ∙ ap behind same)).1 in
    no_word IsUtf8Quoted mid new none text word names (utf8, quoted) left

pub prepare_typeless : (old mid last : Option (List ℕ)) (slot : ℕ) (text : List ℕ) →
    Takes (IsNumber 18446744073709551615) old (Some slot) mid → Takes IsUtf8Quoted mid (Some text) last → AllWords IsTypeName last None → ReadsRest Prepare old None
prepare_typeless old mid last slot text taken quoted none l words (slot', text', types, number, word, names, is, utf8, digits, spelled, each, same) e =
    let first = (after_word (IsNumber 18446744073709551615) (number_ends 18446744073709551615) old mid slot taken slot' number (word ∷ names) digits (e ∙ ap behind same)).1 in
    let second = (after_word IsUtf8Quoted utf8_ends mid last text quoted text' word names (utf8, spelled) first).1 in
    none types names each second

pub execution_some : (execution : Execution) (old mid : Option (List ℕ)) (to : CommandTarget) (values given : List Value) → given ≡ values →
    Takes IsTarget old (Some to) mid → AllWords IsValue mid (Some values) → ReadsRest (Executes execution) old (Some (line.Command (command_of execution to given)))
execution_some execution old mid to values given same taken all = (
  said.CommandLine (command_of execution to given),
  taken.0 ∷ all.0,
  (to, given, taken.0, all.0, refl, taken.1, subst (λ (t : List Value). AllZip IsValue t all.0) (sym same) all.1, refl),
  taken.2 ∙ ap (λ t. 32 ∷ taken.0 ++ t) all.2,
  refl,
)

pub execution_targetless : (execution : Execution) (old new : Option (List ℕ)) → Takes IsTarget old None new → ReadsRest (Executes execution) old None
execution_targetless execution old new none l words (to, values, word, given, is, named, each, same) e = no_word IsTarget old new none to word given named (e ∙ ap behind same)

pub execution_valueless : (execution : Execution) (old mid : Option (List ℕ)) (to : CommandTarget) → Takes IsTarget old (Some to) mid → AllWords IsValue mid None → ReadsRest (Executes execution) old None
execution_valueless execution old mid to taken none l words (other, values, word, given, is, named, each, same) e =
    none values given each (after_word IsTarget target_ends old mid to taken other word given named (e ∙ ap behind same)).1

pub raw_some : (old mid last : Option (List ℕ)) (to : CommandTarget) (n : ℕ) (values given : List Value) → given ≡ values →
    Takes IsTarget old (Some to) mid → Takes IsTake mid (Some n) last → AllWords IsValue last (Some values) → ReadsRest QueryRaw old (Some (line.Command (command.QueryRaw to n given)))
raw_some old mid last to n values given same taken (spelled, (number, digits, is), e) all = (
  said.CommandLine (command.QueryRaw to n given),
  taken.0 ∷ codes "take" ∷ number ∷ all.0,
  (to, n, given, taken.0, number, all.0, refl, taken.1, digits, subst (λ (t : List Value). AllZip IsValue t all.0) (sym same) all.1, refl),
  taken.2 ∙ ap (λ t. 32 ∷ taken.0 ++ t) (e ∙ (λ i. 32 ∷ is i ++ all.2 i)),
  refl,
)

pub raw_targetless : (old new : Option (List ℕ)) → Takes IsTarget old None new → ReadsRest QueryRaw old None
raw_targetless old new none l words (to, n, values, word, number, given, is, named, digits, each, same) e = no_word IsTarget old new none to word (codes "take" ∷ number ∷ given) named (e ∙ ap behind same)

-- behind the target `take` and a number stand, and values
raw_behind : (old mid : Option (List ℕ)) (to : CommandTarget) → Takes IsTarget old (Some to) mid → (other : CommandTarget) (word number : List ℕ) (given : List (List ℕ)) →
    IsTarget other word → left_text old ≡ behind (word ∷ codes "take" ∷ number ∷ given) → left_text mid ≡ behind ((codes "take" ++ 32 ∷ number) ∷ given)
raw_behind old mid to taken other word number given named e = (after_word IsTarget target_ends old mid to taken other word (codes "take" ∷ number ∷ given) named e).1

pub raw_takeless : (old mid new : Option (List ℕ)) (to : CommandTarget) → Takes IsTarget old (Some to) mid → Takes IsTake mid None new → ReadsRest QueryRaw old None
raw_takeless old mid new to taken none l words (other, n, values, word, number, given, is, named, digits, each, same) e =
    no_word IsTake mid new none n (codes "take" ++ 32 ∷ number) given (number, digits, refl) (raw_behind old mid to taken other word number given named (e ∙ ap behind same))

pub raw_valueless : (old mid last : Option (List ℕ)) (to : CommandTarget) (m : ℕ) → Takes IsTarget old (Some to) mid → Takes IsTake mid (Some m) last → AllWords IsValue last None → ReadsRest QueryRaw old None
raw_valueless old mid last to m taken took none l words (other, n, values, word, number, given, is, named, digits, each, same) e =
    let front = raw_behind old mid to taken other word number given named (e ∙ ap behind same) in
    none values given each (after_word IsTake take_ends mid last m took n (codes "take" ++ 32 ∷ number) given (number, digits, refl) front).1

pub typed_some : (execution : TypedExecution) (old mid : Option (List ℕ)) (text : List ℕ) (pairs : List (ℕ × Value)) (types : List ℕ) (values : List Value) →
    types ≡ map (λ p. p.0) pairs → values ≡ map (λ p. p.1) pairs → Takes IsUtf8Quoted old (Some text) mid → AllWords IsPair mid (Some pairs) →
    ReadsRest (ExecutesTyped execution) old (Some (line.Command (typed_command_of execution (record { text = text; types = types; values = values }))))
typed_some execution old mid text pairs types values t v taken all = (
  said.CommandLine (typed_command_of execution (record { text = text; types = types; values = values })),
  taken.0 ∷ all.0,
  (text, pairs, taken.0, all.0, (λ i. said.CommandLine (typed_command_of execution (record { text = text; types = t i; values = v i }))), taken.1.0, taken.1.1, all.1, refl),
  taken.2 ∙ ap (λ x. 32 ∷ taken.0 ++ x) all.2,
  refl,
)

pub typed_textless : (execution : TypedExecution) (old new : Option (List ℕ)) → Takes IsUtf8Quoted old None new → ReadsRest (ExecutesTyped execution) old None
typed_textless execution old new none l words (text, pairs, word, given, is, utf8, quoted, each, same) e = no_word IsUtf8Quoted old new none text word given (utf8, quoted) (e ∙ ap behind same)

pub typed_pairless : (execution : TypedExecution) (old mid : Option (List ℕ)) (text : List ℕ) → Takes IsUtf8Quoted old (Some text) mid → AllWords IsPair mid None → ReadsRest (ExecutesTyped execution) old None
typed_pairless execution old mid text taken none l words (other, pairs, word, given, is, utf8, quoted, each, same) e =
    none pairs given each (after_word IsUtf8Quoted utf8_ends old mid text taken other word given (utf8, quoted) (e ∙ ap behind same)).1

pub close_some : (old : Option (List ℕ)) (slot : ℕ) → OneWord IsSlot old (Some slot) → ReadsRest Close old (Some (line.Command (command.Close slot)))
close_some old slot (word, is, e) = (said.CommandLine (command.Close slot), word ∷ [], (slot, word, refl, is, refl), e, refl)

pub close_none : (old : Option (List ℕ)) → OneWord IsSlot old None → ReadsRest Close old None
close_none old none l words (slot, word, is, named, same) e = none slot word named (e ∙ ap behind same)

pub begin_some : (old : Option (List ℕ)) (modes : Modes) → left_text old ≡ behind (mode_words modes) → ReadsRest Begin old (Some (line.Command (command.Begin modes)))
begin_some old modes e = (said.CommandLine (command.Begin modes), mode_words modes, (modes, refl, refl), e, refl)

pub begin_none : (old : Option (List ℕ)) → ((modes : Modes) → left_text old ≡ behind (mode_words modes) → ⊥) → ReadsRest Begin old None
begin_none old none l words (modes, is, same) e = none modes (e ∙ ap behind same)

pub savepoint_alone : (old : Option (List ℕ)) → is_none old ≡ true → ReadsRest Savepoint old (Some (line.Command (command.Savepoint None)))
savepoint_alone old done = (said.CommandLine (command.Savepoint None), [], inl (refl, refl), ap left_text (none_left old done), refl)

pub savepoint_some : (old : Option (List ℕ)) (name : List ℕ) → OneWord IsUtf8Quoted old (Some name) → ReadsRest Savepoint old (Some (line.Command (command.Savepoint (Some name))))
savepoint_some old name (word, is, e) = (said.CommandLine (command.Savepoint (Some name)), word ∷ [], inr (name, word, refl, is.0, is.1, refl), e, refl)

pub savepoint_none : (old : Option (List ℕ)) → is_none old ≡ false → OneWord IsUtf8Quoted old None → ReadsRest Savepoint old None
savepoint_none old more none l words (inl (is, same)) e = some_left old more (e ∙ ap behind same)
savepoint_none old more none l words (inr (name, word, is, utf8, quoted, same)) e = none name word (utf8, quoted) (e ∙ ap behind same)

-- ---- spelled lines

join_words : (word : List ℕ) (words : List (List ℕ)) → join_with_byte 32 (word ∷ words) ≡ word ++ behind words
join_words word [] = sym (append-nil word)
join_words word (w ∷ words) = ap (λ t. word ++ (32 ∷ t)) (join_words w words)

-- the words of a line that executes something
execution_words : (execution : Execution) (to : CommandTarget) (values : List Value) (s : List ℕ) → SpellsExecution (execution_word execution) to values s →
    (words : List (List ℕ)) × WordsOf (Executes execution) (said.CommandLine (command_of execution to values)) words × (s ≡ execution_word execution ++ behind words)
execution_words execution to values s (word, given, named, each, e) = (word ∷ given, (to, values, word, given, refl, named, each, refl), e ∙ join_words (execution_word execution) (word ∷ given))

-- and back
execution_spells : (execution : Execution) (to : CommandTarget) (values : List Value) (s : List ℕ) → SpellsExecution (execution_word execution) to values s → Spells (said.CommandLine (command_of execution to values)) s
execution_spells form.Query to values s h = h
execution_spells form.QueryOne to values s h = h
execution_spells form.QueryOpt to values s h = h
execution_spells form.QueryScalar to values s h = h
execution_spells form.QueryOneScalar to values s h = h
execution_spells form.QueryOptScalar to values s h = h
execution_spells form.Execute to values s h = h

-- the same of a text in one request
typed_words : (execution : TypedExecution) (asked : TypedText) (s : List ℕ) → SpellsTyped (typed_word execution) asked s →
    (words : List (List ℕ)) × WordsOf (ExecutesTyped execution) (said.CommandLine (typed_command_of execution asked)) words × (s ≡ typed_word execution ++ behind words)
typed_words execution asked s (utf8, pairs, word, given, t, v, quoted, each, e) =
    (word ∷ given, (asked.text, pairs, word, given, (λ i. said.CommandLine (typed_command_of execution (record { text = asked.text; types = t i; values = v i }))), utf8, quoted, each, refl), e ∙ join_words (typed_word execution) (word ∷ given))

typed_spells : (execution : TypedExecution) (asked : TypedText) (s : List ℕ) → SpellsTyped (typed_word execution) asked s → Spells (said.CommandLine (typed_command_of execution asked)) s
typed_spells typed.Query asked s h = h
typed_spells typed.QueryOne asked s h = h
typed_spells typed.QueryOpt asked s h = h
typed_spells typed.Execute asked s h = h

-- a line says nothing, or its first word tells what it is
pub spelled_words : (l : said.Line) (s : List ℕ) → Spells l s →
    ((l ≡ said.Nothing) × ((s ≡ []) ⊎ ((rest : List ℕ) × (s ≡ 35 ∷ rest))))
    ⊎ ((keyword : Keyword) × (words : List (List ℕ)) × WordsOf keyword l words × (s ≡ first_word keyword ++ behind words))
spelled_words said.Nothing s h = inl (refl, h)
spelled_words (said.ConfigLine text) s (utf8, word, quoted, e) =
    inr (Config, word ∷ [], (text, word, refl, utf8, quoted, refl), e ∙ join_words (codes "config") (word ∷ []))
spelled_words (said.NonceLine nonce) s (word, is, e) = inr (Nonce, word ∷ [], (nonce, word, refl, is, refl), e ∙ join_words (codes "nonce") (word ∷ []))
spelled_words (said.LimitLine n) s (word, is, e) = inr (Limit, word ∷ [], (n, word, refl, is, refl), e ∙ join_words (codes "limit") (word ∷ []))
spelled_words (said.TurnsLine turns) s (words, is, e) = inr (Turns, words, (turns, refl, is), e ∙ join_words (codes "turns") words)
spelled_words said.HandleLine s h = inr (Handle, [], (refl, refl), h)
spelled_words (said.StepLine pieces) s (words, is, e) = inr (Step, words, (pieces, refl, is), e ∙ join_words (codes "step") words)
spelled_words (said.CutLine n) s (word, some, is, e) = inr (Cut, word ∷ [], (n, word, refl, some, is, refl), e ∙ join_words (codes "cut") (word ∷ []))
spelled_words said.EndLine s h = inr (End, [], (refl, refl), h)
spelled_words (said.CommandLine (command.Simple text None)) s (utf8, word, quoted, e) =
    inr (Simple, word ∷ [], (text, word, utf8, quoted, inl (refl, refl)), e ∙ join_words (codes "simple") (word ∷ []))
spelled_words (said.CommandLine (command.Simple text (Some n))) s (utf8, word, number, quoted, digits, e) =
    inr (
      Simple,
      word ∷ codes "take" ∷ number ∷ [],
      (text, word, utf8, quoted, inr (n, number, refl, digits, refl)),
      e ∙ join_words (codes "simple") (word ∷ codes "take" ∷ number ∷ []),
    )
spelled_words (said.CommandLine (command.Batch text)) s (utf8, word, quoted, e) =
    inr (Batch, word ∷ [], (text, word, refl, utf8, quoted, refl), e ∙ join_words (codes "batch") (word ∷ []))
spelled_words (said.CommandLine command.Check) s h = inr (Check, [], (refl, refl), h)
spelled_words (said.CommandLine (command.Prepare slot text types)) s (utf8, number, word, names, digits, quoted, each, e) =
    inr (
      Prepare,
      number ∷ word ∷ names,
      (slot, text, types, number, word, names, refl, utf8, digits, quoted, each, refl),
      e ∙ join_words (codes "prepare") (number ∷ word ∷ names),
    )
spelled_words (said.CommandLine command.Clear) s h = inr (Clear, [], (refl, refl), h)
spelled_words (said.CommandLine (command.Query to values)) s h = let found = execution_words form.Query to values s h in inr (Executes form.Query, found.0, found.1, found.2)
spelled_words (said.CommandLine (command.QueryOne to values)) s h = let found = execution_words form.QueryOne to values s h in inr (Executes form.QueryOne, found.0, found.1, found.2)
spelled_words (said.CommandLine (command.QueryOpt to values)) s h = let found = execution_words form.QueryOpt to values s h in inr (Executes form.QueryOpt, found.0, found.1, found.2)
spelled_words (said.CommandLine (command.QueryRaw to n values)) s (word, number, given, named, digits, each, e) =
    inr (
      QueryRaw,
      word ∷ codes "take" ∷ number ∷ given,
      (to, n, values, word, number, given, refl, named, digits, each, refl),
      e ∙ join_words (codes "query_raw") (word ∷ codes "take" ∷ number ∷ given),
    )
spelled_words (said.CommandLine (command.QueryScalar to values)) s h = let found = execution_words form.QueryScalar to values s h in inr (Executes form.QueryScalar, found.0, found.1, found.2)
spelled_words (said.CommandLine (command.QueryOneScalar to values)) s h = let found = execution_words form.QueryOneScalar to values s h in inr (Executes form.QueryOneScalar, found.0, found.1, found.2)
spelled_words (said.CommandLine (command.QueryOptScalar to values)) s h = let found = execution_words form.QueryOptScalar to values s h in inr (Executes form.QueryOptScalar, found.0, found.1, found.2)
spelled_words (said.CommandLine (command.Execute to values)) s h = let found = execution_words form.Execute to values s h in inr (Executes form.Execute, found.0, found.1, found.2)
spelled_words (said.CommandLine (command.QueryTyped asked)) s h = let found = typed_words typed.Query asked s h in inr (ExecutesTyped typed.Query, found.0, found.1, found.2)
spelled_words (said.CommandLine (command.QueryTypedOne asked)) s h = let found = typed_words typed.QueryOne asked s h in inr (ExecutesTyped typed.QueryOne, found.0, found.1, found.2)
spelled_words (said.CommandLine (command.QueryTypedOpt asked)) s h = let found = typed_words typed.QueryOpt asked s h in inr (ExecutesTyped typed.QueryOpt, found.0, found.1, found.2)
spelled_words (said.CommandLine (command.ExecuteTyped asked)) s h = let found = typed_words typed.Execute asked s h in inr (ExecutesTyped typed.Execute, found.0, found.1, found.2)
spelled_words (said.CommandLine (command.Close slot)) s (word, named, e) = inr (Close, word ∷ [], (slot, word, refl, named, refl), e ∙ join_words (codes "close") (word ∷ []))
spelled_words (said.CommandLine (command.Begin modes)) s e = inr (Begin, mode_words modes, (modes, refl, refl), e ∙ join_words (codes "begin") (mode_words modes))
spelled_words (said.CommandLine (command.Savepoint None)) s h = inr (Savepoint, [], inl (refl, refl), h)
spelled_words (said.CommandLine (command.Savepoint (Some name))) s (utf8, word, quoted, e) =
    inr (Savepoint, word ∷ [], inr (name, word, refl, utf8, quoted, refl), e ∙ join_words (codes "savepoint") (word ∷ []))
spelled_words (said.CommandLine command.Commit) s h = inr (Commit, [], (refl, refl), h)
spelled_words (said.CommandLine command.Rollback) s h = inr (Rollback, [], (refl, refl), h)
spelled_words (said.CommandLine command.Abandon) s h = inr (Abandon, [], (refl, refl), h)

pub words_spell : (keyword : Keyword) (l : said.Line) (words : List (List ℕ)) (s : List ℕ) → WordsOf keyword l words → s ≡ first_word keyword ++ behind words → Spells l s
words_spell Config l words s (text, word, is, utf8, quoted, same) e =
    subst (λ (m : said.Line). Spells m s) (sym is) (utf8, word, quoted, e ∙ sym (join_words (codes "config") words) ∙ ap (λ w. join_with_byte 32 (codes "config" ∷ w)) same)
words_spell Nonce l words s (nonce, word, is, quoted, same) e =
    subst (λ (m : said.Line). Spells m s) (sym is) (word, quoted, e ∙ sym (join_words (codes "nonce") words) ∙ ap (λ w. join_with_byte 32 (codes "nonce" ∷ w)) same)
words_spell Limit l words s (n, word, is, digits, same) e =
    subst (λ (m : said.Line). Spells m s) (sym is) (word, digits, e ∙ sym (join_words (codes "limit") words) ∙ ap (λ w. join_with_byte 32 (codes "limit" ∷ w)) same)
words_spell Turns l words s (turns, is, all) e =
    subst (λ (m : said.Line). Spells m s) (sym is) (words, all, e ∙ sym (join_words (codes "turns") words))
words_spell Handle l words s (is, same) e = subst (λ (m : said.Line). Spells m s) (sym is) (e ∙ ap (λ w. codes "handle" ++ behind w) same)
words_spell Step l words s (pieces, is, all) e =
    subst (λ (m : said.Line). Spells m s) (sym is) (words, all, e ∙ sym (join_words (codes "step") words))
words_spell Cut l words s (n, word, is, some, digits, same) e =
    subst (λ (m : said.Line). Spells m s) (sym is) (word, some, digits, e ∙ sym (join_words (codes "cut") words) ∙ ap (λ w. join_with_byte 32 (codes "cut" ∷ w)) same)
words_spell End l words s (is, same) e = subst (λ (m : said.Line). Spells m s) (sym is) (e ∙ ap (λ w. codes "end" ++ behind w) same)
words_spell Simple l words s (text, word, utf8, quoted, inl (is, same)) e =
    subst (λ (m : said.Line). Spells m s) (sym is) (utf8, word, quoted, e ∙ sym (join_words (codes "simple") words) ∙ ap (λ w. join_with_byte 32 (codes "simple" ∷ w)) same)
words_spell Simple l words s (text, word, utf8, quoted, inr (n, number, is, digits, same)) e =
    subst (λ (m : said.Line). Spells m s) (sym is) (utf8, word, number, quoted, digits, e ∙ sym (join_words (codes "simple") words) ∙ ap (λ w. join_with_byte 32 (codes "simple" ∷ w)) same)
words_spell Batch l words s (text, word, is, utf8, quoted, same) e =
    subst (λ (m : said.Line). Spells m s) (sym is) (utf8, word, quoted, e ∙ sym (join_words (codes "batch") words) ∙ ap (λ w. join_with_byte 32 (codes "batch" ∷ w)) same)
words_spell Check l words s (is, same) e = subst (λ (m : said.Line). Spells m s) (sym is) (e ∙ ap (λ w. codes "check" ++ behind w) same)
words_spell Prepare l words s (slot, text, types, number, word, names, is, utf8, digits, quoted, each, same) e =
    subst (λ (m : said.Line). Spells m s) (sym is)
    (utf8, number, word, names, digits, quoted, each, e ∙ sym (join_words (codes "prepare") words) ∙ ap (λ w. join_with_byte 32 (codes "prepare" ∷ w)) same)
words_spell Clear l words s (is, same) e = subst (λ (m : said.Line). Spells m s) (sym is) (e ∙ ap (λ w. codes "clear" ++ behind w) same)
words_spell (Executes execution) l words s (to, values, word, given, is, named, each, same) e =
    subst (λ (m : said.Line). Spells m s) (sym is)
    (execution_spells execution to values s (word, given, named, each, e ∙ sym (join_words (execution_word execution) words) ∙ ap (λ w. join_with_byte 32 (execution_word execution ∷ w)) same))
words_spell QueryRaw l words s (to, n, values, word, number, given, is, named, digits, each, same) e =
    subst (λ (m : said.Line). Spells m s) (sym is)
    (word, number, given, named, digits, each, e ∙ sym (join_words (codes "query_raw") words) ∙ ap (λ w. join_with_byte 32 (codes "query_raw" ∷ w)) same)
words_spell (ExecutesTyped execution) l words s (text, pairs, word, given, is, utf8, quoted, each, same) e =
    subst (λ (m : said.Line). Spells m s) (sym is)
    (typed_spells execution (record { text = text; types = map (λ p. p.0) pairs; values = map (λ p. p.1) pairs }) s
    (utf8, pairs, word, given, refl, refl, quoted, each, e ∙ sym (join_words (typed_word execution) words) ∙ ap (λ w. join_with_byte 32 (typed_word execution ∷ w)) same))
words_spell Close l words s (slot, word, is, named, same) e =
    subst (λ (m : said.Line). Spells m s) (sym is) (word, named, e ∙ sym (join_words (codes "close") words) ∙ ap (λ w. join_with_byte 32 (codes "close" ∷ w)) same)
words_spell Begin l words s (modes, is, same) e =
    subst (λ (m : said.Line). Spells m s) (sym is) (e ∙ sym (join_words (codes "begin") words) ∙ ap (λ w. join_with_byte 32 (codes "begin" ∷ w)) same)
words_spell Savepoint l words s (inl (is, same)) e = subst (λ (m : said.Line). Spells m s) (sym is) (e ∙ ap (λ w. codes "savepoint" ++ behind w) same)
words_spell Savepoint l words s (inr (name, word, is, utf8, quoted, same)) e =
    subst (λ (m : said.Line). Spells m s) (sym is) (utf8, word, quoted, e ∙ sym (join_words (codes "savepoint") words) ∙ ap (λ w. join_with_byte 32 (codes "savepoint" ∷ w)) same)
words_spell Commit l words s (is, same) e = subst (λ (m : said.Line). Spells m s) (sym is) (e ∙ ap (λ w. codes "commit" ++ behind w) same)
words_spell Rollback l words s (is, same) e = subst (λ (m : said.Line). Spells m s) (sym is) (e ∙ ap (λ w. codes "rollback" ++ behind w) same)
words_spell Abandon l words s (is, same) e = subst (λ (m : said.Line). Spells m s) (sym is) (e ∙ ap (λ w. codes "abandon" ++ behind w) same)

first_no_space : (keyword : Keyword) → NoSpace (first_word keyword)
first_no_space Config = no_space_from (first_word Config) refl
first_no_space Nonce = no_space_from (first_word Nonce) refl
first_no_space Limit = no_space_from (first_word Limit) refl
first_no_space Turns = no_space_from (first_word Turns) refl
first_no_space Handle = no_space_from (first_word Handle) refl
first_no_space Step = no_space_from (first_word Step) refl
first_no_space Cut = no_space_from (first_word Cut) refl
first_no_space End = no_space_from (first_word End) refl
first_no_space Simple = no_space_from (first_word Simple) refl
first_no_space Batch = no_space_from (first_word Batch) refl
first_no_space Check = no_space_from (first_word Check) refl
first_no_space Prepare = no_space_from (first_word Prepare) refl
first_no_space Clear = no_space_from (first_word Clear) refl
first_no_space (Executes form.Query) = no_space_from (execution_word form.Query) refl
first_no_space (Executes form.QueryOne) = no_space_from (execution_word form.QueryOne) refl
first_no_space (Executes form.QueryOpt) = no_space_from (execution_word form.QueryOpt) refl
first_no_space (Executes form.QueryScalar) = no_space_from (execution_word form.QueryScalar) refl
first_no_space (Executes form.QueryOneScalar) = no_space_from (execution_word form.QueryOneScalar) refl
first_no_space (Executes form.QueryOptScalar) = no_space_from (execution_word form.QueryOptScalar) refl
first_no_space (Executes form.Execute) = no_space_from (execution_word form.Execute) refl
first_no_space QueryRaw = no_space_from (first_word QueryRaw) refl
first_no_space (ExecutesTyped typed.Query) = no_space_from (typed_word typed.Query) refl
first_no_space (ExecutesTyped typed.QueryOne) = no_space_from (typed_word typed.QueryOne) refl
first_no_space (ExecutesTyped typed.QueryOpt) = no_space_from (typed_word typed.QueryOpt) refl
first_no_space (ExecutesTyped typed.Execute) = no_space_from (typed_word typed.Execute) refl
first_no_space Close = no_space_from (first_word Close) refl
first_no_space Begin = no_space_from (first_word Begin) refl
first_no_space Savepoint = no_space_from (first_word Savepoint) refl
first_no_space Commit = no_space_from (first_word Commit) refl
first_no_space Rollback = no_space_from (first_word Rollback) refl
first_no_space Abandon = no_space_from (first_word Abandon) refl

-- the query that a word begins, by what stands behind its first two letters
query_at : List ℕ → Keyword
query_at w =
    cond (length w == 3) (Executes form.Query) (cond (length w == 10) (Executes form.QueryScalar)
    (cond (length w == 7) (cond (get_or w 5 0 == 110) (Executes form.QueryOne) (cond (get_or w 5 0 == 112) (Executes form.QueryOpt) QueryRaw))
    (cond (length w == 9) (ExecutesTyped typed.Query)
    (cond (length w == 13) (cond (get_or w 11 0 == 110) (ExecutesTyped typed.QueryOne) (ExecutesTyped typed.QueryOpt))
    (cond (get_or w 5 0 == 110) (Executes form.QueryOneScalar) (Executes form.QueryOptScalar))))))

-- the execution that a word begins
execution_at : List ℕ → Keyword
execution_at w = cond (length w == 5) (Executes form.Execute) (ExecutesTyped typed.Execute)

-- the line that a word begins, told by its letters
keyword_at : List ℕ → Keyword
keyword_at [] = Config
keyword_at (a ∷ []) = Config
keyword_at (a ∷ b ∷ w) =
    cond (a == 99) (cond (b == 111) (cond (get_or w 0 0 == 110) Config Commit) (cond (b == 104) Check (cond (b == 108) (cond (get_or w 0 0 == 101) Clear Close) Cut)))
    (cond (a == 110) Nonce (cond (a == 108) Limit (cond (a == 116) Turns (cond (a == 104) Handle (cond (a == 101) (cond (b == 110) End (execution_at w))
    (cond (a == 98) (cond (b == 97) Batch Begin) (cond (a == 112) Prepare (cond (a == 113) (query_at w) (cond (a == 114) Rollback (cond (a == 97) Abandon
    (cond (b == 116) Step (cond (b == 97) Savepoint Simple))))))))))))

keyword_at-first_word : (keyword : Keyword) → keyword_at (first_word keyword) ≡ keyword
unfolding keyword_at query_at execution_at
keyword_at-first_word Config = refl
keyword_at-first_word Nonce = refl
keyword_at-first_word Limit = refl
keyword_at-first_word Turns = refl
keyword_at-first_word Handle = refl
keyword_at-first_word Step = refl
keyword_at-first_word Cut = refl
keyword_at-first_word End = refl
keyword_at-first_word Simple = refl
keyword_at-first_word Batch = refl
keyword_at-first_word Check = refl
keyword_at-first_word Prepare = refl
keyword_at-first_word Clear = refl
keyword_at-first_word (Executes form.Query) = refl
keyword_at-first_word (Executes form.QueryOne) = refl
keyword_at-first_word (Executes form.QueryOpt) = refl
keyword_at-first_word (Executes form.QueryScalar) = refl
keyword_at-first_word (Executes form.QueryOneScalar) = refl
keyword_at-first_word (Executes form.QueryOptScalar) = refl
keyword_at-first_word (Executes form.Execute) = refl
keyword_at-first_word QueryRaw = refl
keyword_at-first_word (ExecutesTyped typed.Query) = refl
keyword_at-first_word (ExecutesTyped typed.QueryOne) = refl
keyword_at-first_word (ExecutesTyped typed.QueryOpt) = refl
keyword_at-first_word (ExecutesTyped typed.Execute) = refl
keyword_at-first_word Close = refl
keyword_at-first_word Begin = refl
keyword_at-first_word Savepoint = refl
keyword_at-first_word Commit = refl
keyword_at-first_word Rollback = refl
keyword_at-first_word Abandon = refl

-- a word that begins neither of the lines that are no commands, nor of the commands, begins no line
pub no_keyword : (word : List ℕ) → FirstWordAmong session_keywords word None → FirstWordAmong command_keywords word None → FirstWordAmong level_keywords word None →
    FirstWordOf execution_word word None → FirstWordOf typed_word word None → FirstWord word None
no_keyword word session commands levels none untyped Config = session.0
no_keyword word session commands levels none untyped Nonce = session.1.0
no_keyword word session commands levels none untyped Limit = session.1.1.0
no_keyword word session commands levels none untyped Turns = session.1.1.1.0
no_keyword word session commands levels none untyped Handle = session.1.1.1.1.0
no_keyword word session commands levels none untyped Step = session.1.1.1.1.1.0
no_keyword word session commands levels none untyped Cut = session.1.1.1.1.1.1.0
no_keyword word session commands levels none untyped End = session.1.1.1.1.1.1.1.0
no_keyword word session commands levels none untyped Simple = commands.0
no_keyword word session commands levels none untyped Batch = commands.1.0
no_keyword word session commands levels none untyped Check = commands.1.1.0
no_keyword word session commands levels none untyped Prepare = commands.1.1.1.0
no_keyword word session commands levels none untyped Clear = commands.1.1.1.1.0
no_keyword word session commands levels none untyped QueryRaw = commands.1.1.1.1.1.0
no_keyword word session commands levels none untyped Close = commands.1.1.1.1.1.1.0
no_keyword word session commands levels none untyped Begin = levels.0
no_keyword word session commands levels none untyped Savepoint = levels.1.0
no_keyword word session commands levels none untyped Commit = levels.1.1.0
no_keyword word session commands levels none untyped Rollback = levels.1.1.1.0
no_keyword word session commands levels none untyped Abandon = levels.1.1.1.1.0
no_keyword word session commands levels none untyped (Executes execution) = none execution
no_keyword word session commands levels none untyped (ExecutesTyped execution) = untyped execution

same_keyword : (a b : Keyword) → first_word a ≡ first_word b → a ≡ b
same_keyword a b e = sym (keyword_at-first_word a) ∙ ap keyword_at e ∙ keyword_at-first_word b

says_nothing : (s : List ℕ) → SaysSomething s → (s ≡ []) ⊎ ((rest : List ℕ) × (s ≡ 35 ∷ rest)) → ⊥
says_nothing [] says h = says
says_nothing (b ∷ rest) says (inl e) = cc e
says_nothing (b ∷ rest) says (inr (more, e)) = let head : b ≡ 35 = cc in says head

pub line_found : (s word : List ℕ) (left : Option (List ℕ)) (keyword : Keyword) (found : Option Line) → SaysSomething s →
    Takes IsWord (Some s) (Some word) left → word ≡ first_word keyword → ReadsRest keyword left found → ReadsLine s found
line_found s word left keyword (Some read) says taken first (l, words, of, e, stands) =
    let spelled : s ≡ first_word keyword ++ behind words = cc_tail taken.2 ∙ ap (λ t. t ++ left_text left) (sym taken.1.0 ∙ first) ∙ ap (λ t. first_word keyword ++ t) e in
    (l, words_spell keyword l words s of spelled, stands)
line_found s word left keyword None says taken first none = λ l spells. elim (spelled_words l s spells) [
  | inl nothing ↦ says_nothing s says nothing.1
  | inr (other, words, of, e) ↦
      let both : first_word other ++ left_text (left_of words) ≡ taken.0 ++ left_text left = ap (λ t. first_word other ++ t) (left_of_is words) ∙ sym e ∙ cc_tail taken.2 in
      let same = word_ends (first_word other) taken.0 (left_of words) left (first_no_space other) taken.1.1 both in
      let keyword_same = same_keyword other keyword (same.0 ∙ sym taken.1.0 ∙ first) in
      none l words (subst (λ (k : Keyword). WordsOf k l words) keyword_same of) (ap left_text (sym same.1) ∙ left_of_is words)
]

pub line_unknown : (s word : List ℕ) (left : Option (List ℕ)) → SaysSomething s → Takes IsWord (Some s) (Some word) left →
    ((keyword : Keyword) → word ≢ first_word keyword) → ReadsLine s None
line_unknown s word left says taken unknown = λ l spells. elim (spelled_words l s spells) [
  | inl nothing ↦ says_nothing s says nothing.1
  | inr (other, words, of, e) ↦
      let both : first_word other ++ left_text (left_of words) ≡ taken.0 ++ left_text left = ap (λ t. first_word other ++ t) (left_of_is words) ∙ sym e ∙ cc_tail taken.2 in
      let same = word_ends (first_word other) taken.0 (left_of words) left (first_no_space other) taken.1.1 both in
      unknown other (taken.1.0 ∙ sym same.0)
]

pub line_wordless : (s : List ℕ) (left : Option (List ℕ)) → SaysSomething s → Takes IsWord (Some s) None left → ReadsLine s None
line_wordless s left says none = λ l spells. elim (spelled_words l s spells) [
  | inl nothing ↦ says_nothing s says nothing.1
  | inr (other, words, of, e) ↦ no_word IsWord (Some s) left none (first_word other) (first_word other) words (refl, first_no_space other) (ap (λ t. 32 ∷ t) e)
]

-- ---- one line

-- the first of some words, in two readings
first_of : {A : Type 0} (Is : A → List ℕ → Type 0) → Ends Is → (x y : A) (w v : List ℕ) (ws vs : List (List ℕ)) → Is x w → Is y v →
    behind (w ∷ ws) ≡ behind (v ∷ vs) → (x ≡ y) × (behind ws ≡ behind vs)
first_of Is ends x y w v ws vs p q e =
    let tail : w ++ left_text (left_of ws) ≡ v ++ left_text (left_of vs) = ap (λ t. w ++ t) (left_of_is ws) ∙ cc_tail e ∙ ap (λ t. v ++ t) (sym (left_of_is vs)) in
    let same = ends x y w v (left_of ws) (left_of vs) p q tail in
    (same.0, sym (left_of_is ws) ∙ ap left_text same.2 ∙ left_of_is vs)

all_same : {A : Type 0} (Is : A → List ℕ → Type 0) → Ends Is → (xs ys : List A) (ws vs : List (List ℕ)) → AllZip Is xs ws → AllZip Is ys vs →
    behind ws ≡ behind vs → xs ≡ ys
all_same Is ends [] [] [] [] p q e = refl
all_same Is ends [] [] [] (v ∷ vs) p q e = absurd q
all_same Is ends [] [] (w ∷ ws) vs p q e = absurd p
all_same Is ends [] (y ∷ ys) [] [] p q e = absurd q
all_same Is ends [] (y ∷ ys) [] (v ∷ vs) p q e = cc e
all_same Is ends [] (y ∷ ys) (w ∷ ws) vs p q e = absurd p
all_same Is ends (x ∷ xs) ys [] vs p q e = absurd p
all_same Is ends (x ∷ xs) [] (w ∷ ws) [] p q e = cc e
all_same Is ends (x ∷ xs) [] (w ∷ ws) (v ∷ vs) p q e = absurd q
all_same Is ends (x ∷ xs) (y ∷ ys) (w ∷ ws) [] p q e = absurd q
all_same Is ends (x ∷ xs) (y ∷ ys) (w ∷ ws) (v ∷ vs) p q e =
    let first = first_of Is ends x y w v ws vs p.0 q.0 e in
    let rest = all_same Is ends xs ys ws vs p.1 q.1 first.1 in
    (λ i. first.0 i ∷ rest i)

word_kind_ends : Ends IsWord
word_kind_ends x y v w l k p q e =
    let same = word_ends v w l k p.1 q.1 e in
    (p.0 ∙ same.0 ∙ sym q.0, same.0, same.1)

same_words : (keyword : Keyword) (l m : said.Line) (ws vs : List (List ℕ)) → WordsOf keyword l ws → WordsOf keyword m vs → behind ws ≡ behind vs → l ≡ m
same_words Config l m ws vs (t, w, p, utf8, quoted, a) (u, v, q, utf8', quoted', b) e =
    p ∙ ap said.ConfigLine (first_of IsQuoted quoted_ends t u w v [] [] quoted quoted' (ap behind (sym a) ∙ e ∙ ap behind b)).0 ∙ sym q
same_words Nonce l m ws vs (t, w, p, is, a) (u, v, q, is', b) e =
    p ∙ ap said.NonceLine (first_of IsQuoted quoted_ends t u w v [] [] is is' (ap behind (sym a) ∙ e ∙ ap behind b)).0 ∙ sym q
same_words Limit l m ws vs (n, w, p, is, a) (k, v, q, is', b) e =
    p ∙ ap said.LimitLine (first_of (IsNumber 9223372036854775807) (number_ends 9223372036854775807) n k w v [] [] is is' (ap behind (sym a) ∙ e ∙ ap behind b)).0 ∙ sym q
same_words Turns l m ws vs (ts, p, is) (us, q, is') e =
    p ∙ ap said.TurnsLine (all_same (IsNumber 4294967295) (number_ends 4294967295) ts us ws vs is is' e) ∙ sym q
same_words Handle l m ws vs p q e = p.0 ∙ sym q.0
same_words Step l m ws vs (ts, p, is) (us, q, is') e =
    p ∙ ap said.StepLine (all_same IsBytes bytes_ends ts us ws vs is is' e) ∙ sym q
same_words Cut l m ws vs (n, w, p, some, is, a) (k, v, q, some', is', b) e =
    p ∙ ap said.CutLine (first_of (IsNumber 18446744073709551615) (number_ends 18446744073709551615) n k w v [] [] is is' (ap behind (sym a) ∙ e ∙ ap behind b)).0 ∙ sym q
same_words End l m ws vs p q e = p.0 ∙ sym q.0
same_words Simple l m ws vs (t, w, utf8, quoted, inl (p, a)) (u, v, utf8', quoted', inl (q, b)) e =
    p ∙ ap (λ x. said.CommandLine (command.Simple x None)) (first_of IsQuoted quoted_ends t u w v [] [] quoted quoted' (ap behind (sym a) ∙ e ∙ ap behind b)).0 ∙ sym q
same_words Simple l m ws vs (t, w, utf8, quoted, inl (p, a)) (u, v, utf8', quoted', inr (k, number, q, digits, b)) e =
    absurd (cc (first_of IsQuoted quoted_ends t u w v [] (codes "take" ∷ number ∷ []) quoted quoted' (ap behind (sym a) ∙ e ∙ ap behind b)).1)
same_words Simple l m ws vs (t, w, utf8, quoted, inr (k, number, p, digits, a)) (u, v, utf8', quoted', inl (q, b)) e =
    absurd (cc (first_of IsQuoted quoted_ends t u w v (codes "take" ∷ number ∷ []) [] quoted quoted' (ap behind (sym a) ∙ e ∙ ap behind b)).1)
same_words Simple l m ws vs (t, w, utf8, quoted, inr (n, number, p, digits, a)) (u, v, utf8', quoted', inr (k, other, q, digits', b)) e =
    let first = first_of IsQuoted quoted_ends t u w v (codes "take" ∷ number ∷ []) (codes "take" ∷ other ∷ []) quoted quoted' (ap behind (sym a) ∙ e ∙ ap behind b) in
    let second = first_of IsWord word_kind_ends (codes "take") (codes "take") (codes "take") (codes "take") (number ∷ []) (other ∷ []) (refl, take_no_space) (refl, take_no_space) first.1 in
    let third = first_of (IsNumber 18446744073709551615) (number_ends 18446744073709551615) n k number other [] [] digits digits' second.1 in
    p ∙ (λ i. said.CommandLine (command.Simple (first.0 i) (Some (third.0 i)))) ∙ sym q
same_words Batch l m ws vs (t, w, p, utf8, quoted, a) (u, v, q, utf8', quoted', b) e =
    p ∙ ap (λ x. said.CommandLine (command.Batch x)) (first_of IsQuoted quoted_ends t u w v [] [] quoted quoted' (ap behind (sym a) ∙ e ∙ ap behind b)).0 ∙ sym q
same_words Check l m ws vs p q e = p.0 ∙ sym q.0
same_words Prepare l m ws vs (slot, t, types, number, w, names, p, utf8, digits, quoted, each, a) (slot', u, types', number', v, names', q, utf8', digits', quoted', each', b) e =
    let first = first_of (IsNumber 18446744073709551615) (number_ends 18446744073709551615) slot slot' number number' (w ∷ names) (v ∷ names') digits digits' (ap behind (sym a) ∙ e ∙ ap behind b) in
    let second = first_of IsQuoted quoted_ends t u w v names names' quoted quoted' first.1 in
    let third = all_same IsTypeName type_name_ends types types' names names' each each' second.1 in
    p ∙ (λ i. said.CommandLine (command.Prepare (first.0 i) (second.0 i) (third i))) ∙ sym q
same_words Clear l m ws vs p q e = p.0 ∙ sym q.0
same_words (Executes execution) l m ws vs (to, values, w, given, p, named, each, a) (to', values', v, given', q, named', each', b) e =
    let first = first_of IsTarget target_ends to to' w v given given' named named' (ap behind (sym a) ∙ e ∙ ap behind b) in
    let second = all_same IsValue value_ends values values' given given' each each' first.1 in
    p ∙ (λ i. said.CommandLine (command_of execution (first.0 i) (second i))) ∙ sym q
same_words QueryRaw l m ws vs (to, n, values, w, number, given, p, named, digits, each, a) (to', k, values', v, other, given', q, named', digits', each', b) e =
    let first = first_of IsTarget target_ends to to' w v (codes "take" ∷ number ∷ given) (codes "take" ∷ other ∷ given') named named' (ap behind (sym a) ∙ e ∙ ap behind b) in
    let second = first_of IsWord word_kind_ends (codes "take") (codes "take") (codes "take") (codes "take") (number ∷ given) (other ∷ given') (refl, take_no_space) (refl, take_no_space) first.1 in
    let third = first_of (IsNumber 18446744073709551615) (number_ends 18446744073709551615) n k number other given given' digits digits' second.1 in
    let fourth = all_same IsValue value_ends values values' given given' each each' third.1 in
    p ∙ (λ i. said.CommandLine (command.QueryRaw (first.0 i) (third.0 i) (fourth i))) ∙ sym q
same_words (ExecutesTyped execution) l m ws vs (t, pairs, w, given, p, utf8, quoted, each, a) (u, pairs', v, given', q, utf8', quoted', each', b) e =
    let first = first_of IsQuoted quoted_ends t u w v given given' quoted quoted' (ap behind (sym a) ∙ e ∙ ap behind b) in
    let second = all_same IsPair pair_ends pairs pairs' given given' each each' first.1 in
    p ∙ (λ i. said.CommandLine (typed_command_of execution (record { text = first.0 i; types = map (λ x. x.0) (second i); values = map (λ x. x.1) (second i) }))) ∙ sym q
same_words Close l m ws vs (slot, w, p, named, a) (slot', v, q, named', b) e =
    p ∙ ap (λ n. said.CommandLine (command.Close n)) (first_of IsSlot slot_ends slot slot' w v [] [] named named' (ap behind (sym a) ∙ e ∙ ap behind b)).0 ∙ sym q
same_words Begin l m ws vs (modes, p, a) (modes', q, b) e =
    p ∙ ap (λ x. said.CommandLine (command.Begin x)) (one_modes modes modes' (ap behind (sym a) ∙ e ∙ ap behind b)) ∙ sym q
same_words Savepoint l m ws vs (inl (p, a)) (inl (q, b)) e = p ∙ sym q
same_words Savepoint l m ws vs (inl (p, a)) (inr (name, v, q, utf8, quoted, b)) e = absurd (cc (ap behind (sym a) ∙ e ∙ ap behind b))
same_words Savepoint l m ws vs (inr (name, w, p, utf8, quoted, a)) (inl (q, b)) e = absurd (cc (ap behind (sym a) ∙ e ∙ ap behind b))
same_words Savepoint l m ws vs (inr (t, w, p, utf8, quoted, a)) (inr (u, v, q, utf8', quoted', b)) e =
    p ∙ ap (λ x. said.CommandLine (command.Savepoint (Some x))) (first_of IsQuoted quoted_ends t u w v [] [] quoted quoted' (ap behind (sym a) ∙ e ∙ ap behind b)).0 ∙ sym q
same_words Commit l m ws vs p q e = p.0 ∙ sym q.0
same_words Rollback l m ws vs p q e = p.0 ∙ sym q.0
same_words Abandon l m ws vs p q e = p.0 ∙ sym q.0

word_says : (keyword : Keyword) (t : List ℕ) → SaysSomething (first_word keyword ++ t)
word_says Config t = eqb-false 99 35 refl
word_says Nonce t = eqb-false 110 35 refl
word_says Limit t = eqb-false 108 35 refl
word_says Turns t = eqb-false 116 35 refl
word_says Handle t = eqb-false 104 35 refl
word_says Step t = eqb-false 115 35 refl
word_says Cut t = eqb-false 99 35 refl
word_says End t = eqb-false 101 35 refl
word_says Simple t = eqb-false 115 35 refl
word_says Batch t = eqb-false 98 35 refl
word_says Check t = eqb-false 99 35 refl
word_says Prepare t = eqb-false 112 35 refl
word_says Clear t = eqb-false 99 35 refl
word_says (Executes form.Query) t = eqb-false 113 35 refl
word_says (Executes form.QueryOne) t = eqb-false 113 35 refl
word_says (Executes form.QueryOpt) t = eqb-false 113 35 refl
word_says (Executes form.QueryScalar) t = eqb-false 113 35 refl
word_says (Executes form.QueryOneScalar) t = eqb-false 113 35 refl
word_says (Executes form.QueryOptScalar) t = eqb-false 113 35 refl
word_says (Executes form.Execute) t = eqb-false 101 35 refl
word_says QueryRaw t = eqb-false 113 35 refl
word_says (ExecutesTyped typed.Query) t = eqb-false 113 35 refl
word_says (ExecutesTyped typed.QueryOne) t = eqb-false 113 35 refl
word_says (ExecutesTyped typed.QueryOpt) t = eqb-false 113 35 refl
word_says (ExecutesTyped typed.Execute) t = eqb-false 101 35 refl
word_says Close t = eqb-false 99 35 refl
word_says Begin t = eqb-false 98 35 refl
word_says Savepoint t = eqb-false 115 35 refl
word_says Commit t = eqb-false 99 35 refl
word_says Rollback t = eqb-false 114 35 refl
word_says Abandon t = eqb-false 97 35 refl

-- a line is spelled by at most one line
pub one_line : (l m : said.Line) (s : List ℕ) → Spells l s → Spells m s → l ≡ m
one_line l m s p q =
    elim (spelled_words l s p) [
      | inl nothing ↦ elim (spelled_words m s q) [
        | inl nothing' ↦ nothing.0 ∙ sym nothing'.0
        | inr (keyword, words, of, e) ↦ absurd (says_nothing s (subst SaysSomething (sym e) (word_says keyword (behind words))) nothing.1)
      ]
      | inr (keyword, words, of, e) ↦ elim (spelled_words m s q) [
        | inl nothing ↦ absurd (says_nothing s (subst SaysSomething (sym e) (word_says keyword (behind words))) nothing.1)
        | inr (other, words', of', e') ↦
            let both : first_word keyword ++ left_text (left_of words) ≡ first_word other ++ left_text (left_of words') =
            ap (λ t. first_word keyword ++ t) (left_of_is words) ∙ sym e ∙ e' ∙ ap (λ t. first_word other ++ t) (sym (left_of_is words')) in
            let same = word_ends (first_word keyword) (first_word other) (left_of words) (left_of words') (first_no_space keyword) (first_no_space other) both in
            let keyword_same = same_keyword keyword other same.0 in
            same_words other l m words words' (subst (λ (k : Keyword). WordsOf k l words) keyword_same of) of'
            (sym (left_of_is words) ∙ ap left_text same.1 ∙ left_of_is words')
      ]
    ]
