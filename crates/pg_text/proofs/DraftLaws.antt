-- What is said line by line is what the lines mean together.
use Rattle.std.proofs.Common.{◌≡◌, ◌<◌, ◌≤◌, ◌-◌, ◌⊎◌, ℕ, zero, suc, length, get_or, set, arith, ◌+◌, length-append, Bool, true, false, cond, List, [], ◌∷◌, ◌++◌, map, flat_map, Option, Some, None, refl, sym, ap, subst, ◌∙◌, append-nil, inl, inr}
use Rattle.std.specs.Prelude.{◌||◌, filter, filter_map, option_to_list, unwrap_or}
use Rattle.std.specs.List.{All, concat, cons_option, list_any, slice_split, onto_first}
use Rattle.std.proofs.lemmas.List.Elements.{filter-append, filter_map-append}
use Rattle.std.proofs.lemmas.List.{map-append}
use Rattle.std.proofs.lemmas.List.Concat.{flat_map-append}
use Rattle.std.proofs.lemmas.List.Folds.{list_any-append}
use Rattle.std.proofs.Math.Bool.{or-false, or-true}
use Rattle.pg_text.specs.declared.command.Command.{Command}
use Rattle.pg_spec.specs.SessionText.{default_nonce, one_or}
use Rattle.pg_text.specs.SessionText.{ConfigLine, CutLine, CommandLine, EndLine, HandleLine, LimitLine, Line, NonceLine, Nothing, StepLine, TurnsLine, command_of, config_of, cut_of, is_end, is_handle, is_said, limit_of, nonce_of, step_of, turns_of, Say, SessionText}
use Rattle.pg_text.specs.declared.parse.Draft.{Draft}
use Rattle.pg_text.specs.Drafts.{AddsLast, Steps, so_far, SoFar, begun, in_script, once, onto_last, session_so_far, with_line}

-- no line has said anything
pub record SaidNothing (lines : List Line) (s : SoFar) : Type 0 where
  pub first : filter is_said lines ≡ []
  pub config : s.config ≡ None
  pub nonce : s.nonce ≡ None
  pub limit : s.limit ≡ None
  pub cut : s.cut ≡ None
  pub ends : s.ends ≡ false
  pub turns : s.turns ≡ []
  pub plan : s.plan ≡ []
  pub scripts : s.scripts ≡ []

-- the lines have said this behind `config`
pub record Said (lines : List Line) (text : List ℕ) (others : List Line) (s : SoFar) : Type 0 where
  pub first : filter is_said lines ≡ ConfigLine text ∷ others
  pub one_config : filter_map config_of others ≡ []
  pub config : s.config ≡ Some text
  pub nonce : filter_map nonce_of others ≡ option_to_list s.nonce
  pub limit : filter_map limit_of others ≡ option_to_list s.limit
  pub cut : filter_map cut_of others ≡ option_to_list s.cut
  pub ends : s.ends ≡ list_any is_end others
  pub turns : s.turns ≡ flat_map turns_of others
  pub plan : s.plan ≡ filter_map step_of others
  pub scripts : map (filter_map command_of) (slice_split is_handle others) ≡ [] ∷ s.scripts

abbrev pub Drafted : List Line → SoFar → Type 0
Drafted lines s = SaidNothing lines s ⊎ ((text : List ℕ) × (others : List Line) × Said lines text others s)

abbrev pub commands : List (List Line) → List (List Command)
commands parts = map (filter_map command_of) parts

-- ---- scripts

split_some : {A : Type 0} (p : A → Bool) (xs : List A) → (part : List A) × (parts : List (List A)) × (slice_split p xs ≡ part ∷ parts)
split_some p [] = ([], [], refl)
split_some p (x ∷ xs) =
    elim (p x) as (λ t. (part : _) × (parts : _) × (cond t ([] ∷ slice_split p xs) (onto_first x (slice_split p xs)) ≡ part ∷ parts)) [
      | true ↦ ([], slice_split p xs, refl)
      | false ↦ let rest = split_some p xs in (x ∷ rest.0, rest.1, ap (onto_first x) rest.2)
    ]

first_last : {A : Type 0} (x y : A) (parts : List (List A)) (part : List A) → onto_first y (onto_last x (part ∷ parts)) ≡ onto_last x (onto_first y (part ∷ parts))
first_last x y [] part = refl
first_last x y (next ∷ parts) part = refl

-- one more line in the last part
split_more : {A : Type 0} (p : A → Bool) (xs : List A) (x : A) → p x ≡ false → slice_split p (xs ++ x ∷ []) ≡ onto_last x (slice_split p xs)
split_more p [] x e = ap (λ t. cond t ([] ∷ [] ∷ []) ((x ∷ []) ∷ [])) e
split_more p (y ∷ xs) x e =
    let later = split_more p xs x e in
    let some = split_some p xs in
    elim (p y) as (λ t. cond t ([] ∷ slice_split p (xs ++ x ∷ [])) (onto_first y (slice_split p (xs ++ x ∷ []))) ≡ onto_last x (cond t ([] ∷ slice_split p xs) (onto_first y (slice_split p xs)))) [
      | true ↦ rw later (rw some.2 refl)
      | false ↦ rw later (rw some.2 (first_last x y some.1 some.0))
    ]

-- one more part
split_end : {A : Type 0} (p : A → Bool) (xs : List A) (x : A) → p x ≡ true → slice_split p (xs ++ x ∷ []) ≡ slice_split p xs ++ [] ∷ []
split_end p [] x e = ap (λ t. cond t ([] ∷ [] ∷ []) ((x ∷ []) ∷ [])) e
split_end p (y ∷ xs) x e =
    let later = split_end p xs x e in
    let some = split_some p xs in
    elim (p y) as (λ t. cond t ([] ∷ slice_split p (xs ++ x ∷ [])) (onto_first y (slice_split p (xs ++ x ∷ []))) ≡ cond t ([] ∷ slice_split p xs) (onto_first y (slice_split p xs)) ++ [] ∷ []) [
      | true ↦ rw later refl
      | false ↦ rw later (rw some.2 refl)
    ]

same_commands : (l : Line) (part : List Line) → command_of l ≡ None → filter_map command_of (part ++ l ∷ []) ≡ filter_map command_of part
same_commands l part e = filter_map-append command_of part (l ∷ []) ∙ ap (λ c. filter_map command_of part ++ cons_option c []) e ∙ append-nil (filter_map command_of part)

last_none : (l : Line) (part : List Line) (parts : List (List Line)) → command_of l ≡ None → commands (onto_last l (part ∷ parts)) ≡ commands (part ∷ parts)
last_none l part [] e = ap (λ p. p ∷ []) (same_commands l part e)
last_none l part (next ∷ parts) e = ap (λ p. filter_map command_of part ∷ p) (last_none l next parts e)

more_commands : (l : Line) (c : Command) (part : List Line) → command_of l ≡ Some c → filter_map command_of (part ++ l ∷ []) ≡ filter_map command_of part ++ c ∷ []
more_commands l c part e = filter_map-append command_of part (l ∷ []) ∙ ap (λ x. filter_map command_of part ++ cons_option x []) e

last_some : (l : Line) (c : Command) (part : List Line) (parts : List (List Line)) → command_of l ≡ Some c → commands (onto_last l (part ∷ parts)) ≡ onto_last c (commands (part ∷ parts))
last_some l c part [] e = ap (λ p. p ∷ []) (more_commands l c part e)
last_some l c part (next ∷ parts) e = ap (λ p. filter_map command_of part ∷ p) (last_some l c next parts e)

scripts_same : (others : List Line) (l : Line) → is_handle l ≡ false → command_of l ≡ None → commands (slice_split is_handle (others ++ l ∷ [])) ≡ commands (slice_split is_handle others)
scripts_same others l handle none =
    let some = split_some is_handle others in
    ap commands (split_more is_handle others l handle) ∙ ap (λ t. commands (onto_last l t)) some.2 ∙ last_none l some.0 some.1 none ∙ sym (ap commands some.2)

scripts_command : (others : List Line) (l : Line) (c : Command) → is_handle l ≡ false → command_of l ≡ Some c →
    commands (slice_split is_handle (others ++ l ∷ [])) ≡ onto_last c (commands (slice_split is_handle others))
scripts_command others l c handle is =
    let some = split_some is_handle others in
    ap commands (split_more is_handle others l handle) ∙ ap (λ t. commands (onto_last l t)) some.2 ∙ last_some l c some.0 some.1 is ∙ sym (ap (λ t. onto_last c (commands t)) some.2)

scripts_handle : (others : List Line) (l : Line) → is_handle l ≡ true → commands (slice_split is_handle (others ++ l ∷ [])) ≡ commands (slice_split is_handle others) ++ [] ∷ []
scripts_handle others l handle = ap commands (split_end is_handle others l handle) ∙ map-append (filter_map command_of) (slice_split is_handle others) ([] ∷ [])

-- ---- one more line

more_said : (lines : List Line) (text : List ℕ) (others : List Line) (s : SoFar) (l : Line) (t : SoFar) → Said lines text others s →
    filter is_said (l ∷ []) ≡ l ∷ [] → config_of l ≡ None → t.config ≡ s.config →
    option_to_list t.nonce ≡ option_to_list s.nonce ++ cons_option (nonce_of l) [] →
    option_to_list t.limit ≡ option_to_list s.limit ++ cons_option (limit_of l) [] →
    option_to_list t.cut ≡ option_to_list s.cut ++ cons_option (cut_of l) [] →
    t.ends ≡ (s.ends || is_end l) →
    t.turns ≡ s.turns ++ turns_of l → t.plan ≡ s.plan ++ cons_option (step_of l) [] →
    commands (slice_split is_handle (others ++ l ∷ [])) ≡ [] ∷ t.scripts →
    Said (lines ++ l ∷ []) text (others ++ l ∷ []) t
more_said lines text others s l t h says other config nonce limit cut ends turns plan scripts = record {
  first = filter-append is_said lines (l ∷ []) ∙ ap (λ x. x ++ filter is_said (l ∷ [])) h.first ∙ ap (λ x. (ConfigLine text ∷ others) ++ x) says;
  one_config = filter_map-append config_of others (l ∷ []) ∙ ap (λ x. x ++ cons_option (config_of l) []) h.one_config ∙ ap (λ c. cons_option c []) other;
  config = config ∙ h.config;
  nonce = filter_map-append nonce_of others (l ∷ []) ∙ ap (λ x. x ++ cons_option (nonce_of l) []) h.nonce ∙ sym nonce;
  limit = filter_map-append limit_of others (l ∷ []) ∙ ap (λ x. x ++ cons_option (limit_of l) []) h.limit ∙ sym limit;
  cut = filter_map-append cut_of others (l ∷ []) ∙ ap (λ x. x ++ cons_option (cut_of l) []) h.cut ∙ sym cut;
  ends = ends ∙ ap (λ x. x || is_end l) h.ends ∙ sym (list_any-append is_end others (l ∷ []) ∙ ap (λ x. list_any is_end others || x) (or-false (is_end l)));
  turns = turns ∙ ap (λ x. x ++ turns_of l) h.turns ∙ sym (flat_map-append turns_of others (l ∷ []) ∙ ap (λ x. flat_map turns_of others ++ x) (append-nil (turns_of l)));
  plan = plan ∙ ap (λ x. x ++ cons_option (step_of l) []) h.plan ∙ sym (filter_map-append step_of others (l ∷ []));
  scripts = scripts;
}

nothing_more : (lines : List Line) → filter is_said (lines ++ Nothing ∷ []) ≡ filter is_said lines
nothing_more lines = filter-append is_said lines (Nothing ∷ []) ∙ append-nil (filter is_said lines)

along : (lines : List Line) (r : Option SoFar) (o t : SoFar) → r ≡ Some o → Drafted lines o → r ≡ Some t → Drafted lines t
along lines r o t is h e = let same : o ≡ t = cc in subst (Drafted lines) same h

not_begun : {A : Type 0} (c : Option (List ℕ)) (x : Option A) (t : A) → c ≡ None → begun c x ≡ Some t → ⊥
not_begun c x t none e = cc (sym (ap (λ k. begun k x) none) ∙ e)

begun_is : {A : Type 0} (c : Option (List ℕ)) (text : List ℕ) (x : Option A) → c ≡ Some text → begun c x ≡ x
begun_is c text x is = ap (λ k. begun k x) is

once_some : {A B : Type 0} (a : Option A) (o t : B) → once a (Some o) ≡ Some t → (a ≡ None) × (o ≡ t)
once_some None o t e = let same : o ≡ t = cc in (refl, same)
once_some (Some was) o t e = cc e

in_script_some : {A : Type 0} (scripts : List (List Command)) (o t : A) → in_script scripts (Some o) ≡ Some t → (script : List Command) × (more : List (List Command)) × (scripts ≡ script ∷ more) × (o ≡ t)
in_script_some [] o t e = cc e
in_script_some (script ∷ more) o t e = let same : o ≡ t = cc in (script, more, refl, same)

-- what is said stays what the lines mean
pub line_said : (lines : List Line) (s : SoFar) (l : Line) (t : SoFar) → Drafted lines s → with_line l s ≡ Some t → Drafted (lines ++ l ∷ []) t
line_said lines s Nothing t (inl h) e =
    along (lines ++ Nothing ∷ []) (Some s) s t refl (inl (record {
      first = nothing_more lines ∙ h.first;
      config = h.config;
      nonce = h.nonce;
      limit = h.limit;
      cut = h.cut;
      ends = h.ends;
      turns = h.turns;
      plan = h.plan;
      scripts = h.scripts;
    })) e
line_said lines s Nothing t (inr (text, others, h)) e =
    along (lines ++ Nothing ∷ []) (Some s) s t refl (inr (
      text,
      others,
      record {
        first = nothing_more lines ∙ h.first;
        one_config = h.one_config;
        config = h.config;
        nonce = h.nonce;
        limit = h.limit;
        cut = h.cut;
        ends = h.ends;
        turns = h.turns;
        plan = h.plan;
        scripts = h.scripts;
      },
    )) e
line_said lines s (ConfigLine text) t (inl h) e =
    along (lines ++ ConfigLine text ∷ []) (with_line (ConfigLine text) s) (record s { config = Some text }) t (ap (λ c. once c (Some (record s { config = Some text }))) h.config) (inr (
      text,
      [],
      record {
        first = filter-append is_said lines (ConfigLine text ∷ []) ∙ ap (λ x. x ++ ConfigLine text ∷ []) h.first;
        one_config = refl;
        config = refl;
        nonce = sym (ap option_to_list h.nonce);
        limit = sym (ap option_to_list h.limit);
        cut = sym (ap option_to_list h.cut);
        ends = h.ends;
        turns = h.turns;
        plan = h.plan;
        scripts = ap (λ x. [] ∷ x) (sym h.scripts);
      },
    )) e
line_said lines s (ConfigLine text) t (inr (was, others, h)) e = absurd (cc (sym (ap (λ c. once c (Some (record s { config = Some text }))) h.config) ∙ e))
line_said lines s (NonceLine nonce) t (inl h) e = absurd (not_begun s.config (once s.nonce (Some (record s { nonce = Some nonce }))) t h.config e)
line_said lines s (NonceLine nonce) t (inr (text, others, h)) e =
    let fresh = once_some s.nonce (record s { nonce = Some nonce }) t (sym (begun_is s.config text (once s.nonce (Some (record s { nonce = Some nonce }))) h.config) ∙ e) in
    subst (Drafted (lines ++ NonceLine nonce ∷ [])) fresh.1 (inr (
      text,
      others ++ NonceLine nonce ∷ [],
      more_said lines text others s (NonceLine nonce) (record s { nonce = Some nonce }) h refl refl refl
          (ap (λ x. option_to_list x ++ nonce ∷ []) (sym fresh.0)) (sym (append-nil (option_to_list s.limit))) (sym (append-nil (option_to_list s.cut)))
          (sym (or-false s.ends)) (sym (append-nil s.turns)) (sym (append-nil s.plan))
          (scripts_same others (NonceLine nonce) refl refl ∙ h.scripts),
    ))
line_said lines s (LimitLine n) t (inl h) e = absurd (not_begun s.config (once s.limit (Some (record s { limit = Some n }))) t h.config e)
line_said lines s (LimitLine n) t (inr (text, others, h)) e =
    let fresh = once_some s.limit (record s { limit = Some n }) t (sym (begun_is s.config text (once s.limit (Some (record s { limit = Some n }))) h.config) ∙ e) in
    subst (Drafted (lines ++ LimitLine n ∷ [])) fresh.1 (inr (
      text,
      others ++ LimitLine n ∷ [],
      more_said lines text others s (LimitLine n) (record s { limit = Some n }) h refl refl refl
          (sym (append-nil (option_to_list s.nonce))) (ap (λ x. option_to_list x ++ n ∷ []) (sym fresh.0)) (sym (append-nil (option_to_list s.cut)))
          (sym (or-false s.ends)) (sym (append-nil s.turns)) (sym (append-nil s.plan))
          (scripts_same others (LimitLine n) refl refl ∙ h.scripts),
    ))
line_said lines s (CutLine n) t (inl h) e = absurd (not_begun s.config (once s.cut (Some (record s { cut = Some n }))) t h.config e)
line_said lines s (CutLine n) t (inr (text, others, h)) e =
    let fresh = once_some s.cut (record s { cut = Some n }) t (sym (begun_is s.config text (once s.cut (Some (record s { cut = Some n }))) h.config) ∙ e) in
    subst (Drafted (lines ++ CutLine n ∷ [])) fresh.1 (inr (
      text,
      others ++ CutLine n ∷ [],
      more_said lines text others s (CutLine n) (record s { cut = Some n }) h refl refl refl
          (sym (append-nil (option_to_list s.nonce))) (sym (append-nil (option_to_list s.limit))) (ap (λ x. option_to_list x ++ n ∷ []) (sym fresh.0))
          (sym (or-false s.ends)) (sym (append-nil s.turns)) (sym (append-nil s.plan))
          (scripts_same others (CutLine n) refl refl ∙ h.scripts),
    ))
line_said lines s EndLine t (inl h) e = absurd (not_begun s.config (Some (record s { ends = true })) t h.config e)
line_said lines s EndLine t (inr (text, others, h)) e =
    along (lines ++ EndLine ∷ []) (with_line EndLine s) (record s { ends = true }) t (begun_is s.config text (Some (record s { ends = true })) h.config)
    (inr (
      text,
      others ++ EndLine ∷ [],
      more_said lines text others s EndLine (record s { ends = true }) h refl refl refl
          (sym (append-nil (option_to_list s.nonce))) (sym (append-nil (option_to_list s.limit))) (sym (append-nil (option_to_list s.cut)))
          (sym (or-true s.ends)) (sym (append-nil s.turns)) (sym (append-nil s.plan))
          (scripts_same others EndLine refl refl ∙ h.scripts),
    )) e
line_said lines s (TurnsLine turns) t (inl h) e = absurd (not_begun s.config (Some (record s { turns = s.turns ++ turns })) t h.config e)
line_said lines s (TurnsLine turns) t (inr (text, others, h)) e =
    along (lines ++ TurnsLine turns ∷ []) (with_line (TurnsLine turns) s) (record s { turns = s.turns ++ turns }) t (begun_is s.config text (Some (record s { turns = s.turns ++ turns })) h.config)
    (inr (
      text,
      others ++ TurnsLine turns ∷ [],
      more_said lines text others s (TurnsLine turns) (record s { turns = s.turns ++ turns }) h refl refl refl
          (sym (append-nil (option_to_list s.nonce))) (sym (append-nil (option_to_list s.limit))) (sym (append-nil (option_to_list s.cut)))
          (sym (or-false s.ends)) refl (sym (append-nil s.plan))
          (scripts_same others (TurnsLine turns) refl refl ∙ h.scripts),
    )) e
line_said lines s (StepLine pieces) t (inl h) e = absurd (not_begun s.config (Some (record s { plan = s.plan ++ concat pieces ∷ [] })) t h.config e)
line_said lines s (StepLine pieces) t (inr (text, others, h)) e =
    along (lines ++ StepLine pieces ∷ []) (with_line (StepLine pieces) s) (record s { plan = s.plan ++ concat pieces ∷ [] }) t (begun_is s.config text (Some (record s { plan = s.plan ++ concat pieces ∷ [] })) h.config)
    (inr (
      text,
      others ++ StepLine pieces ∷ [],
      more_said lines text others s (StepLine pieces) (record s { plan = s.plan ++ concat pieces ∷ [] }) h refl refl refl
          (sym (append-nil (option_to_list s.nonce))) (sym (append-nil (option_to_list s.limit))) (sym (append-nil (option_to_list s.cut)))
          (sym (or-false s.ends)) (sym (append-nil s.turns)) refl
          (scripts_same others (StepLine pieces) refl refl ∙ h.scripts),
    )) e
line_said lines s HandleLine t (inl h) e = absurd (not_begun s.config (Some (record s { scripts = s.scripts ++ [] ∷ [] })) t h.config e)
line_said lines s HandleLine t (inr (text, others, h)) e =
    along (lines ++ HandleLine ∷ []) (with_line HandleLine s) (record s { scripts = s.scripts ++ [] ∷ [] }) t (begun_is s.config text (Some (record s { scripts = s.scripts ++ [] ∷ [] })) h.config)
    (inr (
      text,
      others ++ HandleLine ∷ [],
      more_said lines text others s HandleLine (record s { scripts = s.scripts ++ [] ∷ [] }) h refl refl refl
          (sym (append-nil (option_to_list s.nonce))) (sym (append-nil (option_to_list s.limit))) (sym (append-nil (option_to_list s.cut)))
          (sym (or-false s.ends)) (sym (append-nil s.turns)) (sym (append-nil s.plan))
          (scripts_handle others HandleLine refl ∙ ap (λ x. x ++ [] ∷ []) h.scripts),
    )) e
line_said lines s (CommandLine c) t (inl h) e = absurd (not_begun s.config (in_script s.scripts (Some (record s { scripts = onto_last c s.scripts }))) t h.config e)
line_said lines s (CommandLine c) t (inr (text, others, h)) e =
    let found = in_script_some s.scripts (record s { scripts = onto_last c s.scripts }) t (sym (begun_is s.config text (in_script s.scripts (Some (record s { scripts = onto_last c s.scripts }))) h.config) ∙ e) in
    subst (Drafted (lines ++ CommandLine c ∷ [])) found.3 (inr (
      text,
      others ++ CommandLine c ∷ [],
      more_said lines text others s (CommandLine c) (record s { scripts = onto_last c s.scripts }) h refl refl refl
          (sym (append-nil (option_to_list s.nonce))) (sym (append-nil (option_to_list s.limit))) (sym (append-nil (option_to_list s.cut)))
          (sym (or-false s.ends)) (sym (append-nil s.turns)) (sym (append-nil s.plan))
          (scripts_command others (CommandLine c) c refl refl ∙ ap (onto_last c) (h.scripts ∙ ap (λ x. [] ∷ x) found.2) ∙ ap (λ x. [] ∷ onto_last c x) (sym found.2)),
    ))

-- ---- lines that may not stand there

cons_empty : {A : Type 0} (o : Option A) (xs : List A) → cons_option o xs ≡ [] → xs ≡ []
cons_empty None xs e = e
cons_empty (Some x) xs e = cc e

-- a command that stands behind no `handle`
stray_command : (others : List Line) (c : Command) (rest : List Line) (scripts : List (List Command)) → commands (slice_split is_handle others) ≡ [] ∷ [] →
    commands (slice_split is_handle (others ++ (CommandLine c ∷ rest))) ≡ [] ∷ scripts → ⊥
stray_command [] c rest scripts none e =
    let some = split_some is_handle rest in
    let shown : (c ∷ filter_map command_of some.0) ∷ commands some.1 ≡ [] ∷ scripts = sym (ap (λ t. commands (onto_first (CommandLine c) t)) some.2) ∙ e in
    cc shown
stray_command (o ∷ others) c rest scripts none e =
    let some = split_some is_handle others in
    let more = split_some is_handle (others ++ (CommandLine c ∷ rest)) in
    elim (is_handle o) as (λ t. commands (cond t ([] ∷ slice_split is_handle others) (onto_first o (slice_split is_handle others))) ≡ [] ∷ [] →
    commands (cond t ([] ∷ slice_split is_handle (others ++ (CommandLine c ∷ rest))) (onto_first o (slice_split is_handle (others ++ (CommandLine c ∷ rest))))) ≡ [] ∷ scripts → ⊥) [
      | true ↦ λ p q.
          let shown : [] ∷ filter_map command_of some.0 ∷ commands some.1 ≡ [] ∷ [] = sym (ap (λ t. [] ∷ commands t) some.2) ∙ p in
          cc shown
      | false ↦ λ p q.
          let before : cons_option (command_of o) (filter_map command_of some.0) ∷ commands some.1 ≡ [] ∷ [] = sym (ap (λ t. commands (onto_first o t)) some.2) ∙ p in
          let after : cons_option (command_of o) (filter_map command_of more.0) ∷ commands more.1 ≡ [] ∷ scripts = sym (ap (λ t. commands (onto_first o t)) more.2) ∙ q in
          let before-head : cons_option (command_of o) (filter_map command_of some.0) ≡ [] = cc in
          let before-tail : commands some.1 ≡ [] = cc in
          let after-head : cons_option (command_of o) (filter_map command_of more.0) ≡ [] = cc in
          let after-tail : commands more.1 ≡ scripts = cc in
          stray_command others c rest scripts
          (ap commands some.2 ∙ (λ i. cons_empty (command_of o) (filter_map command_of some.0) before-head i ∷ before-tail i))
          (ap commands more.2 ∙ (λ i. cons_empty (command_of o) (filter_map command_of more.0) after-head i ∷ after-tail i))
    ] none e

-- the lines behind `config`, where one more stands there
others_are : (lines : List Line) (text : List ℕ) (others : List Line) (s : SoFar) (l : Line) (more : List Line) (t : SessionText) → Said lines text others s →
    (say : Say (lines ++ (l ∷ more)) t) → filter is_said (l ∷ more) ≡ l ∷ filter is_said more → say.others ≡ others ++ (l ∷ filter is_said more)
others_are lines text others s l more t h say says =
    let whole : ConfigLine t.config ∷ say.others ≡ ConfigLine text ∷ (others ++ (l ∷ filter is_said more)) =
    sym say.first ∙ filter-append is_said lines (l ∷ more) ∙ ap (λ x. x ++ filter is_said (l ∷ more)) h.first ∙ ap (λ x. (ConfigLine text ∷ others) ++ x) says in
    cc

said_before : (lines : List Line) (s : SoFar) (l : Line) (more : List Line) (t : SessionText) → SaidNothing lines s →
    (say : Say (lines ++ (l ∷ more)) t) → filter is_said (l ∷ more) ≡ l ∷ filter is_said more → l ≡ ConfigLine t.config
said_before lines s l more t h say says =
    let whole : ConfigLine t.config ∷ say.others ≡ l ∷ filter is_said more =
    sym say.first ∙ filter-append is_said lines (l ∷ more) ∙ ap (λ x. x ++ filter is_said (l ∷ more)) h.first ∙ says in
    cc

once_none : {A B : Type 0} (a : Option A) (o : B) → once a (Some o) ≡ None → (was : A) × (a ≡ Some was)
once_none None o e = cc e
once_none (Some was) o e = (was, refl)

in_script_none : {A : Type 0} (scripts : List (List Command)) (o : A) → in_script scripts (Some o) ≡ None → scripts ≡ []
in_script_none [] o e = refl
in_script_none (script ∷ more) o e = cc e

twice : {A : Type 0} (f : Line → Option A) (default given was n : A) (a : Option A) (others rest lines : List Line) (l : Line) → a ≡ Some was → filter_map f others ≡ option_to_list a →
    f l ≡ Some n → lines ≡ others ++ (l ∷ rest) → one_or default (filter_map f lines) ≡ Some given → ⊥
twice f default given was n a others rest lines l is all here same e =
    let shown : filter_map f lines ≡ was ∷ n ∷ filter_map f rest =
    ap (filter_map f) same ∙ filter_map-append f others (l ∷ rest) ∙ ap (λ x. x ++ filter_map f (l ∷ rest)) (all ∙ ap option_to_list is) ∙ ap (λ c. was ∷ cons_option c (filter_map f rest)) here in
    cc (sym (ap (one_or default) shown) ∙ e)

-- no session goes on with a line that may not stand there
pub line_refused : (lines : List Line) (s : SoFar) (l : Line) (more : List Line) (t : SessionText) → Drafted lines s → with_line l s ≡ None → Say (lines ++ (l ∷ more)) t → ⊥
line_refused lines s Nothing more t h e say = cc e
line_refused lines s (ConfigLine text) more t (inl h) e say = cc (sym (ap (λ c. once c (Some (record s { config = Some text }))) h.config) ∙ e)
line_refused lines s (NonceLine nonce) more t (inl h) e say = cc (said_before lines s (NonceLine nonce) more t h say refl)
line_refused lines s (LimitLine n) more t (inl h) e say = cc (said_before lines s (LimitLine n) more t h say refl)
line_refused lines s (CutLine n) more t (inl h) e say = cc (said_before lines s (CutLine n) more t h say refl)
line_refused lines s EndLine more t (inl h) e say = cc (said_before lines s EndLine more t h say refl)
line_refused lines s (TurnsLine turns) more t (inl h) e say = cc (said_before lines s (TurnsLine turns) more t h say refl)
line_refused lines s (StepLine pieces) more t (inl h) e say = cc (said_before lines s (StepLine pieces) more t h say refl)
line_refused lines s HandleLine more t (inl h) e say = cc (said_before lines s HandleLine more t h say refl)
line_refused lines s (CommandLine c) more t (inl h) e say = cc (said_before lines s (CommandLine c) more t h say refl)
line_refused lines s (ConfigLine again) more t (inr (text, others, h)) e say =
    let are = others_are lines text others s (ConfigLine again) more t h say refl in
    let shown : filter_map config_of say.others ≡ again ∷ filter_map config_of (filter is_said more) =
    ap (filter_map config_of) are ∙ filter_map-append config_of others (ConfigLine again ∷ filter is_said more) ∙ ap (λ x. x ++ filter_map config_of (ConfigLine again ∷ filter is_said more)) h.one_config in
    cc (sym shown ∙ say.one_config)
line_refused lines s (NonceLine nonce) more t (inr (text, others, h)) e say =
    let was = once_none s.nonce (record s { nonce = Some nonce }) (sym (begun_is s.config text (once s.nonce (Some (record s { nonce = Some nonce }))) h.config) ∙ e) in
    twice nonce_of default_nonce t.nonce was.0 nonce s.nonce others (filter is_said more) say.others (NonceLine nonce) was.1 h.nonce refl (others_are lines text others s (NonceLine nonce) more t h say refl) say.nonce
line_refused lines s (LimitLine n) more t (inr (text, others, h)) e say =
    let was = once_none s.limit (record s { limit = Some n }) (sym (begun_is s.config text (once s.limit (Some (record s { limit = Some n }))) h.config) ∙ e) in
    twice limit_of 16777216 t.limit was.0 n s.limit others (filter is_said more) say.others (LimitLine n) was.1 h.limit refl (others_are lines text others s (LimitLine n) more t h say refl) say.limit
line_refused lines s (CutLine n) more t (inr (text, others, h)) e say =
    let was = once_none s.cut (record s { cut = Some n }) (sym (begun_is s.config text (once s.cut (Some (record s { cut = Some n }))) h.config) ∙ e) in
    twice cut_of 8192 t.cut was.0 n s.cut others (filter is_said more) say.others (CutLine n) was.1 h.cut refl (others_are lines text others s (CutLine n) more t h say refl) say.cut
line_refused lines s EndLine more t (inr (text, others, h)) e say = cc (sym (begun_is s.config text (Some (record s { ends = true })) h.config) ∙ e)
line_refused lines s (TurnsLine turns) more t (inr (text, others, h)) e say = cc (sym (begun_is s.config text (Some (record s { turns = s.turns ++ turns })) h.config) ∙ e)
line_refused lines s (StepLine pieces) more t (inr (text, others, h)) e say = cc (sym (begun_is s.config text (Some (record s { plan = s.plan ++ concat pieces ∷ [] })) h.config) ∙ e)
line_refused lines s HandleLine more t (inr (text, others, h)) e say = cc (sym (begun_is s.config text (Some (record s { scripts = s.scripts ++ [] ∷ [] })) h.config) ∙ e)
line_refused lines s (CommandLine c) more t (inr (text, others, h)) e say =
    let none = in_script_none s.scripts (record s { scripts = onto_last c s.scripts }) (sym (begun_is s.config text (in_script s.scripts (Some (record s { scripts = onto_last c s.scripts }))) h.config) ∙ e) in
    stray_command others c (filter is_said more) t.scripts (h.scripts ∙ ap (λ x. [] ∷ x) none)
    (ap (λ x. commands (slice_split is_handle x)) (sym (others_are lines text others s (CommandLine c) more t h say refl)) ∙ say.scripts)

-- ---- the end

one_or_list : {A : Type 0} (default : A) (o : Option A) → one_or default (option_to_list o) ≡ Some (unwrap_or o default)
one_or_list default None = refl
one_or_list default (Some x) = refl

pub said_whole : (lines : List Line) (text : List ℕ) (others : List Line) (s : SoFar) → Said lines text others s → Say lines (session_so_far text s)
said_whole lines text others s h = record {
  others = others;
  first = h.first;
  one_config = h.one_config;
  nonce = ap (one_or default_nonce) h.nonce ∙ one_or_list default_nonce s.nonce;
  limit = ap (one_or 16777216) h.limit ∙ one_or_list 16777216 s.limit;
  cut = ap (one_or 8192) h.cut ∙ one_or_list 8192 s.cut;
  ends = h.ends;
  turns = h.turns;
  plan = h.plan;
  scripts = h.scripts;
}

pub nothing_said : (lines : List Line) (s : SoFar) (t : SessionText) → SaidNothing lines s → Say lines t → ⊥
nothing_said lines s t h say = cc (sym h.first ∙ say.first)

pub same_scripts : (lines : List Line) (text : List ℕ) (others : List Line) (s : SoFar) (t : SessionText) → Said lines text others s → Say lines t → t.scripts ≡ s.scripts
same_scripts lines text others s t h say =
    let whole : ConfigLine t.config ∷ say.others ≡ ConfigLine text ∷ others = sym say.first ∙ h.first in
    let same : say.others ≡ others = cc in
    let parts : [] ∷ t.scripts ≡ [] ∷ s.scripts = sym say.scripts ∙ ap (λ x. commands (slice_split is_handle x)) same ∙ h.scripts in
    cc

-- what was read may begin a session
pub may_begin : (lines : List Line) (s : SoFar) → Drafted lines s → (more : List Line) × (t : SessionText) × Say (lines ++ more) t
may_begin lines s (inl h) = (
  ConfigLine [] ∷ [],
  record { config = []; nonce = default_nonce; scripts = []; turns = []; limit = 16777216; plan = []; cut = 8192; ends = false },
  record {
    others = [];
    first = filter-append is_said lines (ConfigLine [] ∷ []) ∙ ap (λ x. x ++ ConfigLine [] ∷ []) h.first;
    one_config = refl;
    nonce = refl;
    limit = refl;
    cut = refl;
    ends = refl;
    turns = refl;
    plan = refl;
    scripts = refl;
  },
)
may_begin lines s (inr (text, others, h)) =
    ([], session_so_far text s, subst (λ (ls : List Line). Say ls (session_so_far text s)) (sym (append-nil lines)) (said_whole lines text others s h))

-- ---- the last list

set_last : {A : Type 0} (c : A) (n : ℕ) (xs : List (List A)) (last : List A) → length xs ≡ suc n → last ≡ get_or xs n last → set xs n (last ++ c ∷ []) ≡ onto_last c xs
set_last c zero [] last len is = absurd (omega (arith, len))
set_last c zero (part ∷ []) last len is = ap (λ p. (p ++ c ∷ []) ∷ []) is
set_last c zero (part ∷ next ∷ parts) last len is = absurd (omega (arith, len))
set_last c (suc n) [] last len is = absurd (omega (arith, len))
set_last c (suc n) (part ∷ []) last len is = absurd (omega (arith, len))
set_last c (suc n) (part ∷ next ∷ parts) last len is = ap (λ ps. part ∷ ps) (set_last c n (next ∷ parts) last (omega (arith, len)) is)

some_list : {A : Type 0} (xs : List (List A)) → 0 < length xs → (first : List A) × (more : List (List A)) × (xs ≡ first ∷ more)
some_list [] some = absurd (omega (arith, some))
some_list (first ∷ more) some = (first, more, refl)

-- the last list was changed in its place
pub pushed_last : {A : Type 0} (c : A) (xs : List (List A)) (last pushed : List A) (k : ℕ) (stands : Bool) → 0 < k → length xs ≡ k → last ≡ get_or xs (k - 1) last →
    stands ≡ true → pushed ≡ last ++ c ∷ [] → AddsLast c xs stands (set xs (k - 1) pushed)
pushed_last c xs last pushed zero stands some len is holds grew = absurd (omega (arith, some))
pushed_last c xs last pushed (suc n) stands some len is holds grew =
    let down : suc n - 1 ≡ n = omega arith in
    let list = some_list xs (omega (arith, len)) in
    let here : last ≡ get_or xs n last = is ∙ ap (λ m. get_or xs m last) down in
    let new : set xs (suc n - 1) pushed ≡ onto_last c xs = (λ i. set xs (down i) (grew i)) ∙ set_last c n xs last len here in
    subst (λ (b : Bool). AddsLast c xs b (set xs (suc n - 1) pushed)) (sym holds) (list.0, list.1, list.2, new)

-- ---- commands as the program holds them

pub command_steps : (old new : Draft) (text : List ℕ) (c : Command) (stands : Bool) → old.config ≡ Some text →
    new.config ≡ old.config → new.nonce ≡ old.nonce → new.limit ≡ old.limit → new.cut ≡ old.cut → new.ends ≡ old.ends → new.turns ≡ old.turns → new.plan ≡ old.plan →
    AddsLast c old.scripts.items stands new.scripts.items → Steps (with_line (CommandLine c) (so_far old)) stands (so_far new)
command_steps old new text c false is config nonce limit cut ends turns plan added =
    begun_is old.config text (in_script old.scripts.items (Some (record (so_far old) { scripts = onto_last c old.scripts.items }))) is
    ∙ ap (λ x. in_script x (Some (record (so_far old) { scripts = onto_last c old.scripts.items }))) added.0
command_steps old new text c true is config nonce limit cut ends turns plan (first, more, some, grown) =
    begun_is old.config text (in_script old.scripts.items (Some (record (so_far old) { scripts = onto_last c old.scripts.items }))) is
    ∙ ap (λ x. in_script x (Some (record (so_far old) { scripts = onto_last c old.scripts.items }))) some
    ∙ (λ i. Some (record {
      config = sym config i;
      nonce = sym nonce i;
      limit = sym limit i;
      cut = sym cut i;
      ends = sym ends i;
      turns = (sym turns i).items;
      plan = map (λ entry. entry.items) (sym plan i).items;
      scripts = sym grown i;
    }))

last_within : {A : Type 0} (c : A) (n : ℕ) (lists : List (List A)) → All (λ list. length list ≤ n) lists → All (λ list. length list ≤ n + 1) (onto_last c lists)
last_within c n [] h k d fits = absurd (omega arith)
last_within c n (part ∷ []) h zero d fits = let was = h 0 d (omega arith) in omega (arith, was, length-append part (c ∷ []))
last_within c n (part ∷ []) h (suc k) d fits = absurd (omega arith)
last_within c n (part ∷ next ∷ parts) h zero d fits = let was = h 0 d (omega arith) in omega (arith, was)
last_within c n (part ∷ next ∷ parts) h (suc k) d fits =
    last_within c n (next ∷ parts) (λ j e less. h (suc j) e (omega arith)) k d (omega arith)

pub command_within : {A : Type 0} (c : A) (n : ℕ) (stands : Bool) (old new : List (List A)) → AddsLast c old stands new → All (λ list. length list ≤ n) old → All (λ list. length list ≤ n + 1) new
command_within c n true old new (first, more, some, grown) h = subst (All (λ list. length list ≤ n + 1)) (sym grown) (last_within c n old h)
command_within c n false old new (none, empty) h = λ k d fits. absurd (omega (arith, fits, ap (λ (xs : List (List _)). length xs) empty))
