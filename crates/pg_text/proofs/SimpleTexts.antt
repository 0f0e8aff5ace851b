-- Texts of sessions of simple queries alone, by the definition on these and by that on all commands.
use Rattle.std.proofs.Common.{◌≡◌, ℕ, Bool, true, false, cond, List, [], ◌∷◌, map, flat_map, ◌++◌, Option, Some, None, refl, sym, ap, subst, ◌∙◌, ◌≤◌}
use Rattle.std.specs.Prelude.{◌||◌, filter, filter_map}
use Rattle.std.specs.List.{AllByRecursion, AllZip, cons_option, list_any, slice_split, onto_first}
use Rattle.std.proofs.lemmas.List.{length-map, map-append}
use Rattle.pg_spec.specs.Report as simple
use Rattle.pg_spec.specs.SessionText as said
use Rattle.pg_spec.specs.SessionText.{default_nonce, one_or}
use Rattle.pg_text.specs.SessionText.{CanNotGoOn, CommandLine, ConfigLine, CutLine, EndLine, HandleLine, IsRefusedAt, IsSessionText, LimitLine, Line, MayBegin, NonceLine, Nothing, Say, SessionText, Spells, StepLine, TurnsLine, command_of, config_of, cut_of, is_end, is_handle, is_said, limit_of, nonce_of, step_of, turns_of}
use Rattle.pg_text.specs.Sessions.{as_session}
use Rattle.pg_text.specs.Views.{as_command, as_scripts}
use Rattle.pg_text.specs.declared.command.Command.{Command}
use Rattle.pg_text.specs.declared.command.Command.TheVariants.{Abandon, Batch, Begin, Check, Clear, Close, Commit, Execute, ExecuteTyped, Prepare, Query, QueryOne, QueryOneScalar, QueryOpt, QueryOptScalar, QueryRaw, QueryScalar, QueryTyped, QueryTypedOne, QueryTypedOpt, Rollback, Savepoint, Simple}
use Rattle.pg_text.proofs.LineLaws.{one_line}
use Rattle.pg_text.proofs.NestingLaws.{simple_levels}

-- ---- lists of what is led elsewhere

-- what passes a test
filter-along : {A B : Type 0} (f : A → B) (p : B → Bool) (q : A → Bool) → ((a : A) → p (f a) ≡ q a) → (xs : List A) → filter p (map f xs) ≡ map f (filter q xs)
filter-along f p q same [] = refl
filter-along {A} f p q same (x ∷ xs) =
    ap (λ b. cond b (f x ∷ filter p (map f xs)) (filter p (map f xs))) (same x) ∙ by (q x) (filter-along f p q same xs)
  where
    by : (b : Bool) → filter p (map f xs) ≡ map f (filter q xs) →
        cond b (f x ∷ filter p (map f xs)) (filter p (map f xs)) ≡ map f (cond b (x ∷ filter q xs) (filter q xs))
    by true e = ap (λ l. f x ∷ l) e
    by false e = e

-- what they have of one kind
fields-along : {A B C : Type 0} (f : A → B) (new : B → Option C) (old : A → Option C) → ((a : A) → new (f a) ≡ old a) → (xs : List A) →
    filter_map new (map f xs) ≡ filter_map old xs
fields-along f new old same [] = refl
fields-along f new old same (x ∷ xs) = λ i. cons_option (same x i) (fields-along f new old same xs i)

any-along : {A B : Type 0} (f : A → B) (p : B → Bool) (q : A → Bool) → ((a : A) → p (f a) ≡ q a) → (xs : List A) → list_any p (map f xs) ≡ list_any q xs
any-along f p q same [] = refl
any-along f p q same (x ∷ xs) = λ i. same x i || any-along f p q same xs i

flat-along : {A B C : Type 0} (f : A → B) (new : B → List C) (old : A → List C) → ((a : A) → new (f a) ≡ old a) → (xs : List A) → flat_map new (map f xs) ≡ flat_map old xs
flat-along f new old same [] = refl
flat-along f new old same (x ∷ xs) = λ i. same x i ++ flat-along f new old same xs i

first-along : {A B : Type 0} (f : A → B) (x : A) (parts : List (List A)) → onto_first (f x) (map (map f) parts) ≡ map (map f) (onto_first x parts)
first-along f x [] = refl
first-along f x (part ∷ parts) = refl

split-along : {A B : Type 0} (f : A → B) (p : B → Bool) (q : A → Bool) → ((a : A) → p (f a) ≡ q a) → (xs : List A) → slice_split p (map f xs) ≡ map (map f) (slice_split q xs)
split-along f p q same [] = refl
split-along {A} f p q same (x ∷ xs) =
    ap (λ b. cond b ([] ∷ slice_split p (map f xs)) (onto_first (f x) (slice_split p (map f xs)))) (same x) ∙ by (q x) (split-along f p q same xs)
  where
    by : (b : Bool) → slice_split p (map f xs) ≡ map (map f) (slice_split q xs) →
        cond b ([] ∷ slice_split p (map f xs)) (onto_first (f x) (slice_split p (map f xs))) ≡ map (map f) (cond b ([] ∷ slice_split q xs) (onto_first x (slice_split q xs)))
    by true e = ap (λ l. [] ∷ l) e
    by false e = ap (onto_first (f x)) e ∙ first-along f x (slice_split q xs)

-- what they have of one kind, itself led elsewhere
picks-along : {A B C D : Type 0} (f : A → B) (g : C → D) (new : B → Option D) (old : A → Option C) →
    ((a : A) (later : List C) → cons_option (new (f a)) (map g later) ≡ map g (cons_option (old a) later)) →
    (xs : List A) → filter_map new (map f xs) ≡ map g (filter_map old xs)
picks-along f g new old same [] = refl
picks-along f g new old same (x ∷ xs) = ap (cons_option (new (f x))) (picks-along f g new old same xs) ∙ same x (filter_map old xs)

parts-along : {A B C D : Type 0} (f : A → B) (g : C → D) (new : B → Option D) (old : A → Option C) →
    ((a : A) (later : List C) → cons_option (new (f a)) (map g later) ≡ map g (cons_option (old a) later)) →
    (parts : List (List A)) → map (filter_map new) (map (map f) parts) ≡ map (map g) (map (filter_map old) parts)
parts-along f g new old same [] = refl
parts-along f g new old same (part ∷ parts) = λ i. picks-along f g new old same part i ∷ parts-along f g new old same parts i

-- what is led there and back is as it was
there-and-back : {A B : Type 0} (f : A → B) (g : B → A) → ((a : A) → g (f a) ≡ a) → (xs : List A) → map g (map f xs) ≡ xs
there-and-back f g same [] = refl
there-and-back f g same (x ∷ xs) = λ i. same x i ∷ there-and-back f g same xs i

-- ---- lines of simple queries are lines of commands

abbrev as_line : said.Line → Line
as_line said.Nothing = Nothing
as_line (said.ConfigLine text) = ConfigLine text
as_line (said.NonceLine nonce) = NonceLine nonce
as_line (said.LimitLine n) = LimitLine n
as_line (said.TurnsLine turns) = TurnsLine turns
as_line said.HandleLine = HandleLine
as_line (said.StepLine pieces) = StepLine pieces
as_line (said.CutLine n) = CutLine n
as_line said.EndLine = EndLine
as_line (said.CommandLine c) = CommandLine (as_command c)

spells-as : (l : said.Line) (w : List ℕ) → said.Spells l w → Spells (as_line l) w
spells-as said.Nothing w h = h
spells-as (said.ConfigLine text) w h = h
spells-as (said.NonceLine nonce) w h = h
spells-as (said.LimitLine n) w h = h
spells-as (said.TurnsLine turns) w h = h
spells-as said.HandleLine w h = h
spells-as (said.StepLine pieces) w h = h
spells-as (said.CutLine n) w h = h
spells-as said.EndLine w h = h
spells-as (said.CommandLine (simple.Simple text None)) w h = h
spells-as (said.CommandLine (simple.Simple text (Some n))) w h = h

zip-as : (lines : List said.Line) (spelled : List (List ℕ)) → AllZip said.Spells lines spelled → AllZip Spells (map as_line lines) spelled
zip-as [] [] h = tt
zip-as [] (w ∷ spelled) h = absurd h
zip-as (l ∷ lines) [] h = absurd h
zip-as (l ∷ lines) (w ∷ spelled) h = (spells-as l w h.0, zip-as lines spelled h.1)

said-as : (l : said.Line) → is_said (as_line l) ≡ said.is_said l
said-as said.Nothing = refl
said-as other = refl

handle-as : (l : said.Line) → is_handle (as_line l) ≡ said.is_handle l
handle-as said.HandleLine = refl
handle-as other = refl

end-as : (l : said.Line) → is_end (as_line l) ≡ said.is_end l
end-as said.EndLine = refl
end-as other = refl

turns-as : (l : said.Line) → turns_of (as_line l) ≡ said.turns_of l
turns-as (said.TurnsLine turns) = refl
turns-as other = refl

config-as : (l : said.Line) → config_of (as_line l) ≡ said.config_of l
config-as (said.ConfigLine text) = refl
config-as other = refl

nonce-as : (l : said.Line) → nonce_of (as_line l) ≡ said.nonce_of l
nonce-as (said.NonceLine nonce) = refl
nonce-as other = refl

limit-as : (l : said.Line) → limit_of (as_line l) ≡ said.limit_of l
limit-as (said.LimitLine n) = refl
limit-as other = refl

cut-as : (l : said.Line) → cut_of (as_line l) ≡ said.cut_of l
cut-as (said.CutLine n) = refl
cut-as other = refl

step-as : (l : said.Line) → step_of (as_line l) ≡ said.step_of l
step-as (said.StepLine pieces) = refl
step-as other = refl

command-as : (l : said.Line) (later : List simple.Command) → cons_option (command_of (as_line l)) (map as_command later) ≡ map as_command (cons_option (said.command_of l) later)
command-as (said.CommandLine c) later = refl
command-as other later = refl

say-as : (lines : List said.Line) (s : said.SessionText) → said.Say lines s → Say (map as_line lines) (as_session s)
say-as lines s say = record {
  others = map as_line say.others;
  first = filter-along as_line is_said said.is_said said-as lines ∙ ap (map as_line) say.first;
  one_config = fields-along as_line config_of said.config_of config-as say.others ∙ say.one_config;
  nonce = ap (one_or default_nonce) (fields-along as_line nonce_of said.nonce_of nonce-as say.others) ∙ say.nonce;
  limit = ap (one_or 16777216) (fields-along as_line limit_of said.limit_of limit-as say.others) ∙ say.limit;
  cut = ap (one_or 8192) (fields-along as_line cut_of said.cut_of cut-as say.others) ∙ say.cut;
  ends = say.ends ∙ sym (any-along as_line is_end said.is_end end-as say.others);
  turns = say.turns ∙ sym (flat-along as_line turns_of said.turns_of turns-as say.others);
  plan = say.plan ∙ sym (fields-along as_line step_of said.step_of step-as say.others);
  scripts =
      ap (map (filter_map command_of)) (split-along as_line is_handle said.is_handle handle-as say.others)
      ∙ parts-along as_line as_command command_of said.command_of command-as (slice_split said.is_handle say.others)
      ∙ ap as_scripts say.scripts;
}

pub text-as : (text : List ℕ) (s : said.SessionText) → said.IsSessionText text s → IsSessionText text (as_session s)
text-as text s h = record {
  spelled = h.spelled;
  lines = map as_line h.lines;
  text_lines = h.text_lines;
  each = zip-as h.lines h.spelled h.each;
  say = say-as h.lines s h.say;
  not_many = subst (λ (n : ℕ). n ≤ 1024) (sym (length-map s.scripts (map as_command))) h.not_many;
  levels = simple_levels s.scripts;
}

-- ---- and back, where any simple query stands for another command

abbrev back_command : Command → simple.Command
back_command (Simple text take) = simple.Simple text take
back_command (Batch text) = simple.Simple text None
back_command Check = simple.Simple [] None
back_command (Prepare slot text types) = simple.Simple text None
back_command Clear = simple.Simple [] None
back_command (Query to values) = simple.Simple [] None
back_command (QueryOne to values) = simple.Simple [] None
back_command (QueryOpt to values) = simple.Simple [] None
back_command (QueryRaw to n values) = simple.Simple [] None
back_command (QueryScalar to values) = simple.Simple [] None
back_command (QueryOneScalar to values) = simple.Simple [] None
back_command (QueryOptScalar to values) = simple.Simple [] None
back_command (Execute to values) = simple.Simple [] None
back_command (QueryTyped asked) = simple.Simple [] None
back_command (QueryTypedOne asked) = simple.Simple [] None
back_command (QueryTypedOpt asked) = simple.Simple [] None
back_command (ExecuteTyped asked) = simple.Simple [] None
back_command (Close slot) = simple.Simple [] None
back_command (Begin modes) = simple.Simple [] None
back_command (Savepoint name) = simple.Simple [] None
back_command Commit = simple.Simple [] None
back_command Rollback = simple.Simple [] None
back_command Abandon = simple.Simple [] None

abbrev back_line : Line → said.Line
back_line Nothing = said.Nothing
back_line (ConfigLine text) = said.ConfigLine text
back_line (NonceLine nonce) = said.NonceLine nonce
back_line (LimitLine n) = said.LimitLine n
back_line (TurnsLine turns) = said.TurnsLine turns
back_line HandleLine = said.HandleLine
back_line (StepLine pieces) = said.StepLine pieces
back_line (CutLine n) = said.CutLine n
back_line EndLine = said.EndLine
back_line (CommandLine c) = said.CommandLine (back_command c)

said-back : (l : Line) → said.is_said (back_line l) ≡ is_said l
said-back Nothing = refl
said-back other = refl

handle-back : (l : Line) → said.is_handle (back_line l) ≡ is_handle l
handle-back HandleLine = refl
handle-back other = refl

end-back : (l : Line) → said.is_end (back_line l) ≡ is_end l
end-back EndLine = refl
end-back other = refl

turns-back : (l : Line) → said.turns_of (back_line l) ≡ turns_of l
turns-back (TurnsLine turns) = refl
turns-back other = refl

config-back : (l : Line) → said.config_of (back_line l) ≡ config_of l
config-back (ConfigLine text) = refl
config-back other = refl

nonce-back : (l : Line) → said.nonce_of (back_line l) ≡ nonce_of l
nonce-back (NonceLine nonce) = refl
nonce-back other = refl

limit-back : (l : Line) → said.limit_of (back_line l) ≡ limit_of l
limit-back (LimitLine n) = refl
limit-back other = refl

cut-back : (l : Line) → said.cut_of (back_line l) ≡ cut_of l
cut-back (CutLine n) = refl
cut-back other = refl

step-back : (l : Line) → said.step_of (back_line l) ≡ step_of l
step-back (StepLine pieces) = refl
step-back other = refl

command-back : (l : Line) (later : List Command) → cons_option (said.command_of (back_line l)) (map back_command later) ≡ map back_command (cons_option (command_of l) later)
command-back (CommandLine c) later = refl
command-back other later = refl

-- a session with these scripts
abbrev back_session : SessionText → List (List simple.Command) → said.SessionText
back_session s scripts = record {
  config = s.config;
  nonce = s.nonce;
  scripts = scripts;
  turns = s.turns;
  limit = s.limit;
  plan = s.plan;
  cut = s.cut;
  ends = s.ends;
}

say-back : (lines : List Line) (s : SessionText) (scripts : List (List simple.Command)) → map (map back_command) s.scripts ≡ scripts →
    Say lines s → said.Say (map back_line lines) (back_session s scripts)
say-back lines s scripts same say = record {
  others = map back_line say.others;
  first = filter-along back_line said.is_said is_said said-back lines ∙ ap (map back_line) say.first;
  one_config = fields-along back_line said.config_of config_of config-back say.others ∙ say.one_config;
  nonce = ap (one_or default_nonce) (fields-along back_line said.nonce_of nonce_of nonce-back say.others) ∙ say.nonce;
  limit = ap (one_or 16777216) (fields-along back_line said.limit_of limit_of limit-back say.others) ∙ say.limit;
  cut = ap (one_or 8192) (fields-along back_line said.cut_of cut_of cut-back say.others) ∙ say.cut;
  ends = say.ends ∙ sym (any-along back_line said.is_end is_end end-back say.others);
  turns = say.turns ∙ sym (flat-along back_line said.turns_of turns_of turns-back say.others);
  plan = say.plan ∙ sym (fields-along back_line said.step_of step_of step-back say.others);
  scripts =
      ap (map (filter_map said.command_of)) (split-along back_line said.is_handle is_handle handle-back say.others)
      ∙ parts-along back_line back_command said.command_of command_of command-back (slice_split is_handle say.others)
      ∙ ap (map (map back_command)) say.scripts
      ∙ ap (λ (x : List (List simple.Command)). [] ∷ x) same;
}

command-again : (c : simple.Command) → back_command (as_command c) ≡ c
command-again (simple.Simple text take) = refl

line-again : (l : said.Line) → back_line (as_line l) ≡ l
line-again (said.CommandLine c) = ap said.CommandLine (command-again c)
line-again other = refl

scripts-again : (scripts : List (List simple.Command)) → map (map back_command) (as_scripts scripts) ≡ scripts
scripts-again scripts = there-and-back (map as_command) (map back_command) (there-and-back as_command back_command command-again) scripts

-- ---- the lines of a session of simple queries alone

abbrev IsSimple : Command → Type 0
IsSimple (Simple text take) = Unit {0}
IsSimple other = ⊥

abbrev IsSimpleLine : Line → Type 0
IsSimpleLine (CommandLine c) = IsSimple c
IsSimpleLine other = Unit {0}

simple-command : (c : simple.Command) → IsSimple (as_command c)
simple-command (simple.Simple text take) = tt

simple-script : (script : List simple.Command) → AllByRecursion IsSimple (map as_command script)
simple-script [] = tt
simple-script (c ∷ script) = (simple-command c, simple-script script)

simple-scripts : (scripts : List (List simple.Command)) → AllByRecursion (AllByRecursion IsSimple) (as_scripts scripts)
simple-scripts [] = tt
simple-scripts (script ∷ scripts) = (simple-script script, simple-scripts scripts)

picked-simple : (l : Line) (later : List Command) → AllByRecursion IsSimple (cons_option (command_of l) later) → IsSimpleLine l × AllByRecursion IsSimple later
picked-simple (CommandLine c) later h = h
picked-simple other later h = (tt, h)

first-simple : (l : Line) (parts : List (List Line)) → AllByRecursion (AllByRecursion IsSimple) (map (filter_map command_of) (onto_first l parts)) →
    IsSimpleLine l × AllByRecursion (AllByRecursion IsSimple) (map (filter_map command_of) parts)
first-simple l [] h = ((picked-simple l [] h.0).0, tt)
first-simple l (part ∷ parts) h = let k = picked-simple l (filter_map command_of part) h.0 in (k.0, (k.1, h.1))

split-simple : (lines : List Line) → AllByRecursion (AllByRecursion IsSimple) (map (filter_map command_of) (slice_split is_handle lines)) → AllByRecursion IsSimpleLine lines
split-simple [] h = tt
split-simple (HandleLine ∷ lines) h = (tt, split-simple lines h.1)
split-simple (other ∷ lines) h = let k = first-simple other (slice_split is_handle lines) h in (k.0, split-simple lines k.1)

said-simple : (lines : List Line) → AllByRecursion IsSimpleLine (filter is_said lines) → AllByRecursion IsSimpleLine lines
said-simple [] h = tt
said-simple (Nothing ∷ lines) h = (tt, said-simple lines h)
said-simple (other ∷ lines) h = (h.0, said-simple lines h.1)

lines-simple : (lines : List Line) (s : said.SessionText) → Say lines (as_session s) → AllByRecursion IsSimpleLine lines
lines-simple lines s say =
    let parts : AllByRecursion (AllByRecursion IsSimple) (map (filter_map command_of) (slice_split is_handle say.others)) =
    subst (AllByRecursion (AllByRecursion IsSimple)) (sym say.scripts) (tt, simple-scripts s.scripts) in
    said-simple lines (subst (AllByRecursion IsSimpleLine) (sym say.first) (tt, split-simple say.others parts))

spells-back : (l : Line) (w : List ℕ) → IsSimpleLine l → Spells l w → said.Spells (back_line l) w
spells-back Nothing w is h = h
spells-back (ConfigLine text) w is h = h
spells-back (NonceLine nonce) w is h = h
spells-back (LimitLine n) w is h = h
spells-back (TurnsLine turns) w is h = h
spells-back HandleLine w is h = h
spells-back (StepLine pieces) w is h = h
spells-back (CutLine n) w is h = h
spells-back EndLine w is h = h
spells-back (CommandLine (Simple text None)) w is h = h
spells-back (CommandLine (Simple text (Some n))) w is h = h
spells-back (CommandLine (Batch text)) w is h = absurd is
spells-back (CommandLine Check) w is h = absurd is
spells-back (CommandLine (Prepare slot text types)) w is h = absurd is
spells-back (CommandLine Clear) w is h = absurd is
spells-back (CommandLine (Query to values)) w is h = absurd is
spells-back (CommandLine (QueryOne to values)) w is h = absurd is
spells-back (CommandLine (QueryOpt to values)) w is h = absurd is
spells-back (CommandLine (QueryRaw to take values)) w is h = absurd is
spells-back (CommandLine (QueryScalar to values)) w is h = absurd is
spells-back (CommandLine (QueryOneScalar to values)) w is h = absurd is
spells-back (CommandLine (QueryOptScalar to values)) w is h = absurd is
spells-back (CommandLine (Execute to values)) w is h = absurd is
spells-back (CommandLine (QueryTyped asked)) w is h = absurd is
spells-back (CommandLine (QueryTypedOne asked)) w is h = absurd is
spells-back (CommandLine (QueryTypedOpt asked)) w is h = absurd is
spells-back (CommandLine (ExecuteTyped asked)) w is h = absurd is
spells-back (CommandLine (Close slot)) w is h = absurd is
spells-back (CommandLine (Begin modes)) w is h = absurd is
spells-back (CommandLine (Savepoint name)) w is h = absurd is
spells-back (CommandLine Commit) w is h = absurd is
spells-back (CommandLine Rollback) w is h = absurd is
spells-back (CommandLine Abandon) w is h = absurd is

zip-back : (lines : List Line) (spelled : List (List ℕ)) → AllByRecursion IsSimpleLine lines → AllZip Spells lines spelled → AllZip said.Spells (map back_line lines) spelled
zip-back [] [] is h = tt
zip-back [] (w ∷ spelled) is h = absurd h
zip-back (l ∷ lines) [] is h = absurd h
zip-back (l ∷ lines) (w ∷ spelled) is h = (spells-back l w is.0 h.0, zip-back lines spelled is.1 h.1)

pub text-back : (text : List ℕ) (s : said.SessionText) → IsSessionText text (as_session s) → said.IsSessionText text s
text-back text s h = record {
  spelled = h.spelled;
  lines = map back_line h.lines;
  text_lines = h.text_lines;
  each = zip-back h.lines h.spelled (lines-simple h.lines s h.say) h.each;
  say = say-back h.lines (as_session s) s.scripts (scripts-again s.scripts) h.say;
  not_many = subst (λ (n : ℕ). n ≤ 1024) (length-map s.scripts (map as_command)) h.not_many;
}

-- ---- refused texts

begin-as : (spelled : List (List ℕ)) → said.MayBegin spelled → MayBegin spelled
begin-as spelled (lines, more, s, each, say) = (
  map as_line lines,
  map as_line more,
  as_session s,
  zip-as lines spelled each,
  subst (λ (x : List Line). Say x (as_session s)) (map-append as_line lines more) (say-as (lines ++ more) s say),
)

stopped-as : (before rest : List (List ℕ)) (text : List ℕ) → CanNotGoOn before rest text → said.CanNotGoOn before rest text
stopped-as before [] text h = λ s is. h (as_session s) (text-as text s is)
stopped-as before (next ∷ rest) text h = λ begun. h (begin-as (before ++ next ∷ []) begun)

same-lines : (lines : List said.Line) (others : List Line) (spelled : List (List ℕ)) → AllZip said.Spells lines spelled → AllZip Spells others spelled → others ≡ map as_line lines
same-lines [] [] spelled a b = refl
same-lines (l ∷ lines) [] [] a b = absurd a
same-lines (l ∷ lines) [] (w ∷ spelled) a b = absurd b
same-lines [] (m ∷ others) [] a b = absurd b
same-lines [] (m ∷ others) (w ∷ spelled) a b = absurd a
same-lines (l ∷ lines) (m ∷ others) [] a b = absurd a
same-lines (l ∷ lines) (m ∷ others) (w ∷ spelled) a b =
    λ i. one_line m (as_line l) w b.0 (spells-as l w a.0) i ∷ same-lines lines others spelled a.1 b.1 i

begin-back : (spelled : List (List ℕ)) (lines : List said.Line) → AllZip said.Spells lines spelled → MayBegin spelled → said.MayBegin spelled
begin-back spelled lines simply (others, more, s, each, say) =
    let kept : map back_line others ≡ lines = ap (map back_line) (same-lines lines others spelled simply each) ∙ there-and-back as_line back_line line-again lines in
    let scripts : List (List simple.Command) = map (map back_command) s.scripts in (
      lines,
      map back_line more,
      back_session s scripts,
      simply,
      subst (λ (x : List said.Line). said.Say x (back_session s scripts)) (map-append back_line others more ∙ ap (λ (x : List said.Line). x ++ map back_line more) kept)
          (say-back (others ++ more) s scripts refl say),
    )

pub refused-back : (text : List ℕ) (n : ℕ) (r : IsRefusedAt text n) (lines : List said.Line) → AllZip said.Spells lines r.before → said.IsRefusedAt text n
refused-back text n r lines simply = record {
  before = r.before;
  rest = r.rest;
  text_lines = r.text_lines;
  number = r.number;
  good = begin-back r.before lines simply r.good;
  bad = stopped-as r.before r.rest text r.bad;
}
