-- What the lines of a session text say so far.
use Rattle.std.specs.Prelude.{◌≡◌, ◌<◌, ◌≤◌, ℕ, Bool, true, false, List, [], ◌∷◌, ◌++◌, length, map, Option, Some, None, IfSome, unwrap_or}
use Rattle.std.specs.List.{All, concat}
use Rattle.pg_text.specs.declared.command.Command.{Command}
use Rattle.pg_spec.specs.SessionText.{default_nonce}
use Rattle.pg_text.specs.SessionText.{ConfigLine, CutLine, CommandLine, EndLine, HandleLine, LimitLine, Line, NonceLine, Nothing, StepLine, TurnsLine, SessionText, Spells}
use Rattle.pg_text.specs.declared.line.Line as read
use Rattle.pg_text.specs.declared.line.Line.TheVariants as line
use Rattle.pg_text.specs.declared.parse.Draft.{Draft}

-- a cut is of at least one byte
abbrev pub HasCut : read.Line → Type 0
HasCut (line.Cut n) = 0 < n
HasCut _ = Unit {0}

-- each script has at most n commands, and a cut is of at least one byte
pub record IsWithin (n : ℕ) (d : Draft) : Type 0 where
  pub scripts : All (λ script. length script ≤ n) d.scripts.items
  pub cut : IfSome d.cut (λ cut. 0 < cut)

-- what the lines so far say
pub record SoFar : Type 0 where
  pub config : Option (List ℕ)
  pub nonce : Option (List ℕ)
  pub limit : Option ℕ
  pub cut : Option ℕ
  pub ends : Bool
  pub turns : List ℕ
  pub plan : List (List ℕ)
  pub scripts : List (List Command)

-- what a draft says
abbrev pub so_far : Draft → SoFar
so_far d = record {
  config = d.config;
  nonce = d.nonce;
  limit = d.limit;
  cut = d.cut;
  ends = d.ends;
  turns = d.turns.items;
  plan = map (λ entry. entry.items) d.plan.items;
  scripts = d.scripts.items;
}

-- a command behind those of the last script, if there is one
abbrev pub onto_last : {A : Type 0} → A → List (List A) → List (List A)
onto_last x [] = []
onto_last x (part ∷ []) = (part ++ x ∷ []) ∷ []
onto_last x (part ∷ next ∷ parts) = part ∷ onto_last x (next ∷ parts)

-- what may stand only behind `config`
abbrev pub begun : {A : Type 0} → Option (List ℕ) → Option A → Option A
begun None x = None
begun (Some config) x = x

-- what may be said once
abbrev pub once : {A B : Type 0} → Option A → Option B → Option B
once None x = x
once (Some was) x = None

-- what needs a script
abbrev pub in_script : {A : Type 0} → List (List Command) → Option A → Option A
in_script [] x = None
in_script (script ∷ scripts) x = x

-- with an entry of the plan
abbrev pub with_entry : List ℕ → SoFar → Option SoFar
with_entry entry s = begun s.config (Some (record s { plan = s.plan ++ entry ∷ [] }))

-- what is said with one more line, None where that may not stand there
abbrev pub with_line : Line → SoFar → Option SoFar
with_line Nothing s = Some s
with_line (ConfigLine text) s = once s.config (Some (record s { config = Some text }))
with_line (NonceLine nonce) s = begun s.config (once s.nonce (Some (record s { nonce = Some nonce })))
with_line (LimitLine n) s = begun s.config (once s.limit (Some (record s { limit = Some n })))
with_line (CutLine n) s = begun s.config (once s.cut (Some (record s { cut = Some n })))
with_line EndLine s = begun s.config (Some (record s { ends = true }))
with_line (TurnsLine turns) s = begun s.config (Some (record s { turns = s.turns ++ turns }))
with_line (StepLine pieces) s = with_entry (concat pieces) s
with_line HandleLine s = begun s.config (Some (record s { scripts = s.scripts ++ [] ∷ [] }))
with_line (CommandLine command) s = begun s.config (in_script s.scripts (Some (record s { scripts = onto_last command s.scripts })))

-- what is said with a line that was read; of a step the bytes are joined
abbrev pub with_read : read.Line → SoFar → Option SoFar
with_read line.Nothing s = with_line Nothing s
with_read (line.Config text) s = with_line (ConfigLine text) s
with_read (line.Nonce nonce) s = with_line (NonceLine nonce) s
with_read (line.Limit n) s = with_line (LimitLine n) s
with_read (line.Cut n) s = with_line (CutLine n) s
with_read line.End s = with_line EndLine s
with_read (line.Turns turns) s = with_line (TurnsLine turns.items) s
with_read (line.Step entry) s = with_entry entry.items s
with_read line.Handle s = with_line HandleLine s
with_read (line.Command command) s = with_line (CommandLine command) s

-- what is said next, or nothing where it may not be said
abbrev pub Steps : Option SoFar → Bool → SoFar → Type 0
Steps next true new = next ≡ Some new
Steps next false new = next ≡ None

-- a line was added; or it is no line, or may not stand there
abbrev pub ReadsOn : SoFar → List ℕ → Bool → SoFar → Type 0
ReadsOn old spelled true new = (l : Line) × Spells l spelled × (with_line l old ≡ Some new)
ReadsOn old spelled false new = (l : Line) → Spells l spelled → with_line l old ≡ None

-- the session that is asked for
abbrev pub session_so_far : List ℕ → SoFar → SessionText
session_so_far text s = record {
  config = text;
  nonce = unwrap_or s.nonce default_nonce;
  scripts = s.scripts;
  turns = s.turns;
  limit = unwrap_or s.limit 16777216;
  plan = s.plan;
  cut = unwrap_or s.cut 8192;
  ends = s.ends;
}

-- nothing is said yet
pub record IsEmpty (s : SoFar) : Type 0 where
  pub config : s.config ≡ None
  pub nonce : s.nonce ≡ None
  pub limit : s.limit ≡ None
  pub cut : s.cut ≡ None
  pub ends : s.ends ≡ false
  pub turns : s.turns ≡ []
  pub plan : s.plan ≡ []
  pub scripts : s.scripts ≡ []

-- an item behind those of the last list; or there is no list
abbrev pub AddsLast : {A : Type 0} → A → List (List A) → Bool → List (List A) → Type 0
AddsLast {A} x old true new = (first : List A) × (more : List (List A)) × (old ≡ first ∷ more) × (new ≡ onto_last x old)
AddsLast x old false new = (old ≡ []) × (new ≡ [])
