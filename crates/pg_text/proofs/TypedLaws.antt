-- Where values have types in a line, these are built-in, and as many.
use Rattle.std.proofs.Common.{◌≡◌, ℕ, Bool, true, false, List, [], ◌∷◌, ◌++◌, length, map, Option, Some, None, codes, refl, sym, ap, subst, ◌∙◌, eq-eqb}
use Rattle.std.specs.Prelude.{◌&&◌, ◌==◌, option_map}
use Rattle.std.specs.List.{AllZip, concat, list_all}
use Rattle.std.specs.Option.{is_some}
use Rattle.std.proofs.lemmas.List.{length-map}
use Rattle.std.proofs.lemmas.List.Folds.{list_all-append}
use Rattle.pg_types.specs.BuiltIns.{BuiltIn, row_of}
use Rattle.pg_types.specs.declared.value.Value.{Value}
use Rattle.pg_text.specs.declared.command.Command.{Command}
use Rattle.pg_text.specs.declared.command.Command.TheVariants.{ExecuteTyped, QueryTyped, QueryTypedOne, QueryTypedOpt}
use Rattle.pg_text.specs.declared.command.TypedText.{TypedText}
use Rattle.pg_text.specs.Drafts.{ReadsOn, SoFar, begun, in_script, once, onto_last, with_line}
use Rattle.pg_text.specs.Scripts.{are_typed, is_built_in, is_paired, is_typed}
use Rattle.pg_text.specs.SessionText.{CommandLine, ConfigLine, CutLine, EndLine, HandleLine, IsPair, LimitLine, Line, NonceLine, Nothing, Spells, SpellsTyped, StepLine, TurnsLine}

both : (a b : Bool) → a ≡ true → b ≡ true → (a && b) ≡ true
both a b p q = (λ i. p i && q i)

-- ---- what a line gives

-- a name is that of a built-in type
named : (row : Option BuiltIn) (name : List ℕ) → option_map (λ r. r.name) row ≡ Some name → is_some row ≡ true
named None name e = absurd cc
named (Some r) name e = refl

types-built-in : (pairs : List (ℕ × Value)) (words : List (List ℕ)) → AllZip IsPair pairs words → list_all is_built_in (map (λ p. p.0) pairs) ≡ true
types-built-in [] words h = refl
types-built-in (pair ∷ pairs) [] h = absurd h
types-built-in ((oid, v) ∷ pairs) (spelled ∷ words) ((name, word, is, valued, e), more) =
    both (is_built_in oid) (list_all is_built_in (map (λ p. p.0) pairs)) (named (row_of oid) name is) (types-built-in pairs words more)

as-many : (pairs : List (ℕ × Value)) → (length (map (λ p. p.1) pairs) == length (map (λ p. p.0) pairs)) ≡ true
as-many pairs = eq-eqb _ _ (length-map pairs (λ p. p.1) ∙ sym (length-map pairs (λ p. p.0)))

paired : (first : List ℕ) (asked : TypedText) (s : List ℕ) → SpellsTyped first asked s → is_paired asked ≡ true
paired first asked s (utf8, pairs, word, words, types, values, quoted, each, e) =
    both (length asked.values == length asked.types) (list_all is_built_in asked.types)
    ((λ i. length (values i) == length (types i)) ∙ as-many pairs)
    (ap (list_all is_built_in) types ∙ types-built-in pairs words each)

typed-command : (c : Command) (s : List ℕ) → Spells (CommandLine c) s → is_typed c ≡ true
typed-command (QueryTyped asked) s h = paired (codes "query_typed") asked s h
typed-command (QueryTypedOne asked) s h = paired (codes "query_typed_one") asked s h
typed-command (QueryTypedOpt asked) s h = paired (codes "query_typed_opt") asked s h
typed-command (ExecuteTyped asked) s h = paired (codes "execute_typed") asked s h
typed-command other s h = refl

-- ---- a command more

first-all : {A : Type 0} (p : A → Bool) (x : A) (xs : List A) → list_all p (x ∷ xs) ≡ true → (p x ≡ true) × (list_all p xs ≡ true)
first-all p x xs = by (p x)
  where
    by : (b : Bool) → (b && list_all p xs) ≡ true → (b ≡ true) × (list_all p xs ≡ true)
    by true e = (refl, e)
    by false e = absurd cc

last-typed : (c : Command) (scripts : List (List Command)) → is_typed c ≡ true → are_typed scripts ≡ true → are_typed (onto_last c scripts) ≡ true
last-typed c [] is all = refl
last-typed c (script ∷ []) is all =
    let was = first-all (list_all is_typed) script [] all in
    both (list_all is_typed (script ++ c ∷ [])) true (list_all-append is_typed script (c ∷ []) ∙ both (list_all is_typed script) (is_typed c && true) was.0 (both (is_typed c) true is refl)) refl
last-typed c (script ∷ next ∷ scripts) is all =
    let was = first-all (list_all is_typed) script (next ∷ scripts) all in
    both (list_all is_typed script) (are_typed (onto_last c (next ∷ scripts))) was.0 (last-typed c (next ∷ scripts) is was.1)

-- ---- a line more

begun-some : {A : Type 0} (config : Option (List ℕ)) (x : Option A) (t : A) → begun config x ≡ Some t → x ≡ Some t
begun-some None x t e = absurd cc
begun-some (Some config) x t e = e

once-some : {A B : Type 0} (was : Option A) (x : Option B) (t : B) → once was x ≡ Some t → x ≡ Some t
once-some None x t e = e
once-some (Some a) x t e = absurd cc

in-script-some : {A : Type 0} (scripts : List (List Command)) (x : Option A) (t : A) → in_script scripts x ≡ Some t → x ≡ Some t
in-script-some [] x t e = absurd cc
in-script-some (script ∷ scripts) x t e = e

-- the same scripts are left
left : (s t : SoFar) → Some s ≡ Some t → are_typed s.scripts ≡ true → are_typed t.scripts ≡ true
left s t e all = let same : s ≡ t = cc in subst (λ (x : SoFar). are_typed x.scripts ≡ true) same all

line-typed : (l : Line) (s : List ℕ) (old new : SoFar) → Spells l s → with_line l old ≡ Some new → are_typed old.scripts ≡ true → are_typed new.scripts ≡ true
line-typed Nothing s old new h e all = left old new e all
line-typed (ConfigLine text) s old new h e all = left (record old { config = Some text }) new (once-some old.config _ new e) all
line-typed (NonceLine nonce) s old new h e all = left (record old { nonce = Some nonce }) new (once-some old.nonce _ new (begun-some old.config _ new e)) all
line-typed (LimitLine n) s old new h e all = left (record old { limit = Some n }) new (once-some old.limit _ new (begun-some old.config _ new e)) all
line-typed (CutLine n) s old new h e all = left (record old { cut = Some n }) new (once-some old.cut _ new (begun-some old.config _ new e)) all
line-typed EndLine s old new h e all = left (record old { ends = true }) new (begun-some old.config _ new e) all
line-typed (TurnsLine turns) s old new h e all = left (record old { turns = old.turns ++ turns }) new (begun-some old.config _ new e) all
line-typed (StepLine pieces) s old new h e all = left (record old { plan = old.plan ++ concat pieces ∷ [] }) new (begun-some old.config _ new e) all
line-typed HandleLine s old new h e all =
    left (record old { scripts = old.scripts ++ [] ∷ [] }) new (begun-some old.config _ new e)
    (list_all-append (list_all is_typed) old.scripts ([] ∷ []) ∙ both (are_typed old.scripts) true all refl)
line-typed (CommandLine c) s old new h e all =
    left (record old { scripts = onto_last c old.scripts }) new (in-script-some old.scripts _ new (begun-some old.config _ new e)) (last-typed c old.scripts (typed-command c s h) all)

-- scripts stay so with a line that was read
pub typed_next : (old new : SoFar) (s : List ℕ) → ReadsOn old s true new → are_typed old.scripts ≡ true → are_typed new.scripts ≡ true
typed_next old new s (l, spells, with) all = line-typed l s old new spells with all
