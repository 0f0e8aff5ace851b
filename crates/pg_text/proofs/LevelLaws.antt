-- The modes of a transaction are told from what stands behind them, and by one meaning.
use Rattle.std.proofs.Common.{◌≡◌, ◌≢◌, ℕ, Bool, true, false, List, [], ◌∷◌, ◌++◌, length, get_or, Option, Some, None, cond, nat_lt, refl, sym, ap, ◌∙◌, append_assoc, append-nil, subst}
use Rattle.std.specs.Prelude.{is_none, ◌==◌}
use Rattle.pg_steps.specs.Transactions.{spelled}
use Rattle.pg_steps.specs.declared.modes.IsolationLevel.{IsolationLevel}
use Rattle.pg_steps.specs.declared.modes.IsolationLevel.TheVariants.{ReadUncommitted, ReadCommitted, RepeatableRead, Serializable}
use Rattle.pg_steps.specs.declared.modes.Modes.{Modes}
use Rattle.pg_text.specs.Modes.{access_word, deferral_word, level_word, mode_words}
use Rattle.pg_text.specs.Executions.{FirstWordOf}
use Rattle.pg_text.specs.Words.{IsWord, NoSpace, Takes, TakesIfThere, behind, left_text}
use Rattle.pg_text.proofs.WordLaws.{no_space_from, takes_no_word, takes_word, word_ends}

cc_tail : {b c : ℕ} {v w : List ℕ} → b ∷ v ≡ c ∷ w → v ≡ w
cc_tail e = cc

-- words with a space before each are what is left of a line
abbrev pub left_of : List (List ℕ) → Option (List ℕ)
left_of [] = None
left_of (word ∷ words) = Some (word ++ behind words)

pub left_of_is : (words : List (List ℕ)) → left_text (left_of words) ≡ behind words
left_of_is [] = refl
left_of_is (word ∷ words) = refl

-- something is left
pub some_left : (left : Option (List ℕ)) → is_none left ≡ false → left_text left ≡ [] → ⊥
some_left None e none = cc e
some_left (Some words) e none = cc none

pub none_left : (left : Option (List ℕ)) → is_none left ≡ true → left ≡ None
none_left None e = refl
none_left (Some words) e = cc e

-- ---- words that stand for something

-- no space stands in them, and no two are the same
pub record AreWords {A : Type 0} (first : A → List ℕ) : Type 0 where
  pub spaceless : (x : A) → NoSpace (first x)
  pub one : (x y : A) → first x ≡ first y → x ≡ y

-- none of them stands at the front
abbrev Apart : {A : Type 0} → (A → List ℕ) → List (List ℕ) → Type 0
Apart first [] = Unit {0}
Apart {A} first (w ∷ words) = NoSpace w × ((x : A) → first x ≢ w)

module _ {A : Type 0} (first : A → List ℕ) (are : AreWords first) where
  not_front : (x : A) (left : Option (List ℕ)) (words : List (List ℕ)) → Apart first words → 32 ∷ first x ++ left_text left ≡ behind words → ⊥
  not_front x left [] apart e = cc e
  not_front x left (w ∷ words) apart e =
      apart.1 x (word_ends (first x) w left (left_of words) (are.spaceless x) apart.0 (cc_tail e ∙ ap (λ t. w ++ t) (sym (left_of_is words)))).0

  both_front : (x y : A) (left : Option (List ℕ)) (words : List (List ℕ)) → 32 ∷ first x ++ left_text left ≡ behind (first y ∷ words) → (x ≡ y) × (left_text left ≡ behind words)
  both_front x y left words e =
      let same = word_ends (first x) (first y) left (left_of words) (are.spaceless x) (are.spaceless y) (cc_tail e ∙ ap (λ t. first y ++ t) (sym (left_of_is words))) in
      (are.one x y same.0, ap left_text same.1 ∙ left_of_is words)

  -- what is spelled there was taken
  read_so : (old new : Option (List ℕ)) (r o : Option A) (words : List (List ℕ)) → Apart first words → TakesIfThere first old r new →
      left_text old ≡ behind (spelled first o ++ words) → (r ≡ o) × (left_text new ≡ behind words)
  read_so old new None None words apart taken e = (refl, ap left_text taken.1 ∙ e)
  read_so old new None (Some y) words apart taken e = absurd (taken.0 y (first y) (left_of words) refl (e ∙ ap (λ t. 32 ∷ first y ++ t) (sym (left_of_is words))))
  read_so old new (Some x) None words apart (word, is, text) e = absurd (not_front x new words apart (ap (λ w. 32 ∷ w ++ left_text new) (sym is) ∙ sym text ∙ e))
  read_so old new (Some x) (Some y) words apart (word, is, text) e =
      let same = both_front x y new words (ap (λ w. 32 ∷ w ++ left_text new) (sym is) ∙ sym text ∙ e) in
      ((λ i. Some (same.0 i)), same.1)

  -- and what was taken is spelled there
  taken_so : (old new : Option (List ℕ)) (r : Option A) (words : List (List ℕ)) → TakesIfThere first old r new → left_text new ≡ behind words →
      left_text old ≡ behind (spelled first r ++ words)
  taken_so old new None words taken e = ap left_text (sym taken.1) ∙ e
  taken_so old new (Some x) words (word, is, text) e = text ∙ (λ i. 32 ∷ is i ++ e i)

  -- what is spelled can be taken
  can_take : (o : Option A) (words : List (List ℕ)) → Apart first words → TakesIfThere first (left_of (spelled first o ++ words)) o (left_of words)
  can_take None words apart = ((λ x word left is e. not_front x left words apart (ap (λ w. 32 ∷ w ++ left_text left) (sym is) ∙ sym e ∙ left_of_is words)), refl)
  can_take (Some x) words apart = (first x, refl, ap (λ t. 32 ∷ first x ++ t) (sym (left_of_is words)))

  -- ---- a word that was looked at

  spaceless_word : (x : A) (word : List ℕ) → word ≡ first x → NoSpace word
  spaceless_word x word is = subst NoSpace (sym is) (are.spaceless x)

  -- there is none
  pub nothing_there : (old ahead new : Option (List ℕ)) → ahead ≡ old → Takes IsWord ahead None new → TakesIfThere first old None old
  nothing_there old ahead new same none =
      (subst (λ (t : Option (List ℕ)). Takes (λ x word. word ≡ first x) t None old) same (takes_no_word (λ x word. word ≡ first x) spaceless_word ahead new none), refl)

  -- there is another
  pub another_there : (old ahead new : Option (List ℕ)) (word : List ℕ) → ahead ≡ old → Takes IsWord ahead (Some word) new → FirstWordOf first word None → TakesIfThere first old None old
  another_there old ahead new word same taken other =
      (subst (λ (t : Option (List ℕ)). Takes (λ x word. word ≡ first x) t None old) same (takes_word (λ x word. word ≡ first x) spaceless_word ahead new word None taken other), refl)

-- ---- the words of modes

-- what passes a test is no word that doesn't
told_apart : (test : List ℕ → Bool) (v w : List ℕ) → test v ≡ true → test w ≡ false → v ≢ w
told_apart test v w p q same = cc (sym p ∙ ap test same ∙ q)

level_at : List ℕ → IsolationLevel
level_at w = cond (length w == 11) ReadUncommitted (cond (length w == 9) ReadCommitted (cond (length w == 10) RepeatableRead Serializable))

level_at-word : (x : IsolationLevel) → level_at (level_word x) ≡ x
unfolding level_at
level_at-word ReadUncommitted = refl
level_at-word ReadCommitted = refl
level_at-word RepeatableRead = refl
level_at-word Serializable = refl

level_spaceless : (x : IsolationLevel) → NoSpace (level_word x)
level_spaceless ReadUncommitted = no_space_from (level_word ReadUncommitted) refl
level_spaceless ReadCommitted = no_space_from (level_word ReadCommitted) refl
level_spaceless RepeatableRead = no_space_from (level_word RepeatableRead) refl
level_spaceless Serializable = no_space_from (level_word Serializable) refl

pub levels : AreWords level_word
levels = record { spaceless = level_spaceless; one = λ x y e. sym (level_at-word x) ∙ ap level_at e ∙ level_at-word y }

access_at : List ℕ → Bool
access_at w = get_or w 1 0 == 111

access_at-word : (b : Bool) → access_at (access_word b) ≡ b
unfolding access_at
access_at-word true = refl
access_at-word false = refl

access_spaceless : (b : Bool) → NoSpace (access_word b)
access_spaceless true = no_space_from (access_word true) refl
access_spaceless false = no_space_from (access_word false) refl

pub accesses : AreWords access_word
accesses = record { spaceless = access_spaceless; one = λ x y e. sym (access_at-word x) ∙ ap access_at e ∙ access_at-word y }

deferral_at : List ℕ → Bool
deferral_at w = length w == 3

deferral_at-word : (b : Bool) → deferral_at (deferral_word b) ≡ b
unfolding deferral_at
deferral_at-word true = refl
deferral_at-word false = refl

deferral_spaceless : (b : Bool) → NoSpace (deferral_word b)
deferral_spaceless true = no_space_from (deferral_word true) refl
deferral_spaceless false = no_space_from (deferral_word false) refl

pub deferrals : AreWords deferral_word
deferrals = record { spaceless = deferral_spaceless; one = λ x y e. sym (deferral_at-word x) ∙ ap deferral_at e ∙ deferral_at-word y }

-- levels have long words, and whether a transaction writes has short ones
is_long : List ℕ → Bool
is_long w = nat_lt 8 (length w)

level_long : (x : IsolationLevel) → is_long (level_word x) ≡ true
unfolding is_long
level_long ReadUncommitted = refl
level_long ReadCommitted = refl
level_long RepeatableRead = refl
level_long Serializable = refl

access_not_long : (b : Bool) → is_long (access_word b) ≡ false
unfolding is_long
access_not_long true = refl
access_not_long false = refl

deferral_not_long : (b : Bool) → is_long (deferral_word b) ≡ false
unfolding is_long
deferral_not_long true = refl
deferral_not_long false = refl

is_short : List ℕ → Bool
is_short w = nat_lt (length w) 3

access_short : (b : Bool) → is_short (access_word b) ≡ true
unfolding is_short
access_short true = refl
access_short false = refl

deferral_not_short : (b : Bool) → is_short (deferral_word b) ≡ false
unfolding is_short
deferral_not_short true = refl
deferral_not_short false = refl

access_apart : (d : Option Bool) → Apart access_word (spelled deferral_word d ++ [])
access_apart None = tt
access_apart (Some b) = (deferral_spaceless b, λ x. told_apart is_short (access_word x) (deferral_word b) (access_short x) (deferral_not_short b))

level_apart : (r d : Option Bool) → Apart level_word (spelled access_word r ++ (spelled deferral_word d ++ []))
level_apart (Some b) d = (access_spaceless b, λ x. told_apart is_long (level_word x) (access_word b) (level_long x) (access_not_long b))
level_apart None None = tt
level_apart None (Some b) = (deferral_spaceless b, λ x. told_apart is_long (level_word x) (deferral_word b) (level_long x) (deferral_not_long b))

-- the words of modes, where nothing stands behind them
words_alone : (m : Modes) → mode_words m ≡ spelled level_word m.isolation_level ++ (spelled access_word m.read_only ++ (spelled deferral_word m.deferrable ++ []))
words_alone m =
    append_assoc (spelled level_word m.isolation_level) (spelled access_word m.read_only) (spelled deferral_word m.deferrable)
    ∙ ap (λ ws. spelled level_word m.isolation_level ++ (spelled access_word m.read_only ++ ws)) (sym (append-nil (spelled deferral_word m.deferrable)))

-- ---- modes

-- modes that were read one after another, of a line that is spelled by these
modes_read : (old mid last new : Option (List ℕ)) (level : Option IsolationLevel) (access deferral : Option Bool) →
    TakesIfThere level_word old level mid → TakesIfThere access_word mid access last → TakesIfThere deferral_word last deferral new →
    (m : Modes) → left_text old ≡ behind (mode_words m) →
    (level ≡ m.isolation_level) × (access ≡ m.read_only) × (deferral ≡ m.deferrable) × (left_text new ≡ [])
modes_read old mid last new level access deferral of_level of_access of_deferral m e =
    let a = read_so level_word levels old mid level m.isolation_level (spelled access_word m.read_only ++ (spelled deferral_word m.deferrable ++ [])) (level_apart m.read_only m.deferrable) of_level (e ∙ ap behind (words_alone m)) in
    let b = read_so access_word accesses mid last access m.read_only (spelled deferral_word m.deferrable ++ []) (access_apart m.deferrable) of_access a.1 in
    let c = read_so deferral_word deferrals last new deferral m.deferrable [] tt of_deferral b.1 in
    (a.0, b.0, c.0, c.1)

pub modes_taken : (old mid last new : Option (List ℕ)) (m : Modes) → TakesIfThere level_word old m.isolation_level mid → TakesIfThere access_word mid m.read_only last →
    TakesIfThere deferral_word last m.deferrable new → is_none new ≡ true → left_text old ≡ behind (mode_words m)
modes_taken old mid last new m of_level of_access of_deferral done =
    taken_so level_word levels old mid m.isolation_level (spelled access_word m.read_only ++ (spelled deferral_word m.deferrable ++ [])) of_level
    (taken_so access_word accesses mid last m.read_only (spelled deferral_word m.deferrable ++ []) of_access
    (taken_so deferral_word deferrals last new m.deferrable [] of_deferral (ap left_text (none_left new done))))
    ∙ ap behind (sym (words_alone m))

pub modes_refused : (old mid last new : Option (List ℕ)) (level : Option IsolationLevel) (access deferral : Option Bool) →
    TakesIfThere level_word old level mid → TakesIfThere access_word mid access last → TakesIfThere deferral_word last deferral new → is_none new ≡ false →
    (m : Modes) → left_text old ≡ behind (mode_words m) → ⊥
modes_refused old mid last new level access deferral of_level of_access of_deferral more m e =
    some_left new more (modes_read old mid last new level access deferral of_level of_access of_deferral m e).3

-- modes are told by their words
pub one_modes : (m n : Modes) → behind (mode_words m) ≡ behind (mode_words n) → m ≡ n
one_modes m n e =
    let behind_level = spelled access_word m.read_only ++ (spelled deferral_word m.deferrable ++ []) in
    let behind_access = spelled deferral_word m.deferrable ++ [] in
    let same = modes_read (left_of (spelled level_word m.isolation_level ++ behind_level)) (left_of behind_level) (left_of behind_access) None m.isolation_level m.read_only m.deferrable
    (can_take level_word levels m.isolation_level behind_level (level_apart m.read_only m.deferrable))
    (can_take access_word accesses m.read_only behind_access (access_apart m.deferrable))
    (can_take deferral_word deferrals m.deferrable [] tt)
    n (left_of_is (spelled level_word m.isolation_level ++ behind_level) ∙ ap behind (sym (words_alone m)) ∙ e) in
    λ i. record { isolation_level = same.0 i; read_only = same.1 i; deferrable = same.2 i }
