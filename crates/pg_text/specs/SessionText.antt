-- The text of a session: its lines, how each is spelled, and what they mean together.
use Rattle.std.specs.Prelude.{◌≡◌, ℕ, ℤ, pos, ◌-ℤ◌, ◌+◌, ◌≤◌, ◌⊎◌, Bool, true, false, List, [], ◌∷◌, ◌++◌, length, map, filter, flat_map, filter_map, Option, Some, None, option_map, codes, IsUtf8}
use Rattle.std.specs.List.{concat, slice_split, AllZip, list_any}
use Rattle.std.specs.Str.{byte}
use Rattle.pg_types.specs.BuiltIns.{row_of}
use Rattle.pg_types.specs.declared.value.Value.{Value}
use Rattle.pg_types.specs.declared.value.Value.TheVariants as value
use Rattle.pg_spec.specs.SessionText.{AreLines, IsBytes, IsHex, IsNumber, IsQuoted, IsWords, default_nonce, one_or}
use Rattle.pg_text.specs.declared.command.Command.{Command}
use Rattle.pg_text.specs.declared.command.Command.TheVariants.{Abandon, Batch, Begin, Check, Clear, Close, Commit, Execute, ExecuteTyped, Prepare, Query, QueryOne, QueryOneScalar, QueryOpt, QueryOptScalar, QueryRaw, QueryScalar, QueryTyped, QueryTypedOne, QueryTypedOpt, Rollback, Savepoint, Simple}
use Rattle.pg_text.specs.declared.command.CommandTarget.{CommandTarget}
use Rattle.pg_text.specs.declared.command.CommandTarget.TheVariants as target
use Rattle.pg_text.specs.declared.command.TypedText.{TypedText}
use Rattle.pg_text.specs.Levels.{KeepLevels}
use Rattle.pg_text.specs.Modes.{mode_words}

-- what a line says
pub data Line : Type 0 where
  -- empty, or a comment
  Nothing : Line
  ConfigLine : (text : List ℕ) → Line
  NonceLine : (nonce : List ℕ) → Line
  LimitLine : (bytes : ℕ) → Line
  TurnsLine : (turns : List ℕ) → Line
  HandleLine : Line
  StepLine : (bytes : List (List ℕ)) → Line
  CutLine : (bytes : ℕ) → Line
  EndLine : Line
  CommandLine : Command → Line

-- the name of the built-in type with this oid
abbrev pub IsTypeName : ℕ → List ℕ → Type 0
IsTypeName oid name = option_map (λ row. row.name) (row_of oid) ≡ Some name

-- the number of a slot
abbrev pub IsSlot : ℕ → List ℕ → Type 0
IsSlot slot word = (digits : List ℕ) × IsNumber 18446744073709551615 slot digits × (word ≡ byte "@" ∷ digits)

-- what a command executes
abbrev pub IsTarget : CommandTarget → List ℕ → Type 0
IsTarget (target.Slot slot) word = IsSlot slot word
IsTarget (target.Text text) word = IsUtf8 text × IsQuoted text word

-- as far below 0
abbrev pub minus : ℕ → ℤ
minus n = pos 0 -ℤ pos n

-- an integer of 64 bits, behind a minus where it is below 0
abbrev pub IsInt : ℤ → List ℕ → Type 0
IsInt z word = ((n : ℕ) × IsNumber 9223372036854775807 n word × (z ≡ pos n))
    ⊎ ((n : ℕ) × (digits : List ℕ) × IsNumber 9223372036854775808 n digits × (word ≡ byte "-" ∷ digits) × (z ≡ minus n))

-- a value
abbrev pub IsValue : Value → List ℕ → Type 0
IsValue value.Null word = word ≡ codes "null"
IsValue (value.Bool true) word = word ≡ codes "true"
IsValue (value.Bool false) word = word ≡ codes "false"
IsValue (value.Int z) word = IsInt z word
IsValue (value.Text text) word = IsUtf8 text × IsQuoted text word
IsValue (value.Bytes bytes) word = (digits : List ℕ) × IsHex bytes digits × (word ≡ byte "x" ∷ digits)

-- the name of a type, and a value behind a space
abbrev pub IsPair : ℕ × Value → List ℕ → Type 0
IsPair (oid, v) spelled = (name : List ℕ) × (word : List ℕ) × IsTypeName oid name × IsValue v word × (spelled ≡ name ++ byte " " ∷ word)

-- a target and values behind the first word of a line
abbrev pub SpellsExecution : (first : List ℕ) → CommandTarget → List Value → List ℕ → Type 0
SpellsExecution first to values spelled = (word : List ℕ) × (words : List (List ℕ)) × IsTarget to word × AllZip IsValue values words × IsWords first (word ∷ words) spelled

-- a text, and types and values by turns, behind the first word of a line
abbrev pub SpellsTyped : (first : List ℕ) → TypedText → List ℕ → Type 0
SpellsTyped first asked spelled = IsUtf8 asked.text × (pairs : List (ℕ × Value)) × (word : List ℕ) × (words : List (List ℕ))
    × (asked.types ≡ map (λ p. p.0) pairs) × (asked.values ≡ map (λ p. p.1) pairs) × IsQuoted asked.text word × AllZip IsPair pairs words × IsWords first (word ∷ words) spelled

-- how a line is spelled
abbrev pub Spells : Line → List ℕ → Type 0
Spells Nothing spelled = (spelled ≡ []) ⊎ ((rest : List ℕ) × (spelled ≡ byte "#" ∷ rest))
Spells (ConfigLine text) spelled = IsUtf8 text × (word : List ℕ) × IsQuoted text word × IsWords (codes "config") (word ∷ []) spelled
Spells (NonceLine nonce) spelled = (word : List ℕ) × IsQuoted nonce word × IsWords (codes "nonce") (word ∷ []) spelled
Spells (LimitLine n) spelled = (word : List ℕ) × IsNumber 9223372036854775807 n word × IsWords (codes "limit") (word ∷ []) spelled
Spells (TurnsLine turns) spelled = (words : List (List ℕ)) × AllZip (IsNumber 4294967295) turns words × IsWords (codes "turns") words spelled
Spells HandleLine spelled = spelled ≡ codes "handle"
Spells (StepLine pieces) spelled = (words : List (List ℕ)) × AllZip IsBytes pieces words × IsWords (codes "step") words spelled
Spells (CutLine n) spelled = (word : List ℕ) × (1 ≤ n) × IsNumber 18446744073709551615 n word × IsWords (codes "cut") (word ∷ []) spelled
Spells EndLine spelled = spelled ≡ codes "end"
Spells (CommandLine (Simple text None)) spelled = IsUtf8 text × (word : List ℕ) × IsQuoted text word × IsWords (codes "simple") (word ∷ []) spelled
Spells (CommandLine (Simple text (Some n))) spelled = IsUtf8 text × (word : List ℕ) × (number : List ℕ)
    × IsQuoted text word × IsNumber 18446744073709551615 n number × IsWords (codes "simple") (word ∷ codes "take" ∷ number ∷ []) spelled
Spells (CommandLine (Batch text)) spelled = IsUtf8 text × (word : List ℕ) × IsQuoted text word × IsWords (codes "batch") (word ∷ []) spelled
Spells (CommandLine Check) spelled = spelled ≡ codes "check"
Spells (CommandLine (Prepare slot text types)) spelled = IsUtf8 text × (number : List ℕ) × (word : List ℕ) × (names : List (List ℕ))
    × IsNumber 18446744073709551615 slot number × IsQuoted text word × AllZip IsTypeName types names × IsWords (codes "prepare") (number ∷ word ∷ names) spelled
Spells (CommandLine Clear) spelled = spelled ≡ codes "clear"
Spells (CommandLine (Query to values)) spelled = SpellsExecution (codes "query") to values spelled
Spells (CommandLine (QueryOne to values)) spelled = SpellsExecution (codes "query_one") to values spelled
Spells (CommandLine (QueryOpt to values)) spelled = SpellsExecution (codes "query_opt") to values spelled
Spells (CommandLine (QueryRaw to n values)) spelled = (word : List ℕ) × (number : List ℕ) × (words : List (List ℕ))
    × IsTarget to word × IsNumber 18446744073709551615 n number × AllZip IsValue values words × IsWords (codes "query_raw") (word ∷ codes "take" ∷ number ∷ words) spelled
Spells (CommandLine (QueryScalar to values)) spelled = SpellsExecution (codes "query_scalar") to values spelled
Spells (CommandLine (QueryOneScalar to values)) spelled = SpellsExecution (codes "query_one_scalar") to values spelled
Spells (CommandLine (QueryOptScalar to values)) spelled = SpellsExecution (codes "query_opt_scalar") to values spelled
Spells (CommandLine (Execute to values)) spelled = SpellsExecution (codes "execute") to values spelled
Spells (CommandLine (QueryTyped asked)) spelled = SpellsTyped (codes "query_typed") asked spelled
Spells (CommandLine (QueryTypedOne asked)) spelled = SpellsTyped (codes "query_typed_one") asked spelled
Spells (CommandLine (QueryTypedOpt asked)) spelled = SpellsTyped (codes "query_typed_opt") asked spelled
Spells (CommandLine (ExecuteTyped asked)) spelled = SpellsTyped (codes "execute_typed") asked spelled
Spells (CommandLine (Close slot)) spelled = (word : List ℕ) × IsSlot slot word × IsWords (codes "close") (word ∷ []) spelled
Spells (CommandLine (Begin modes)) spelled = IsWords (codes "begin") (mode_words modes) spelled
Spells (CommandLine (Savepoint None)) spelled = spelled ≡ codes "savepoint"
Spells (CommandLine (Savepoint (Some name))) spelled = IsUtf8 name × (word : List ℕ) × IsQuoted name word × IsWords (codes "savepoint") (word ∷ []) spelled
Spells (CommandLine Commit) spelled = spelled ≡ codes "commit"
Spells (CommandLine Rollback) spelled = spelled ≡ codes "rollback"
Spells (CommandLine Abandon) spelled = spelled ≡ codes "abandon"

-- the text of a `config` line
abbrev pub config_of : Line → Option (List ℕ)
config_of (ConfigLine text) = Some text
config_of other = None

-- the bytes of a `nonce` line
abbrev pub nonce_of : Line → Option (List ℕ)
nonce_of (NonceLine nonce) = Some nonce
nonce_of other = None

-- the number of a `limit` line
abbrev pub limit_of : Line → Option ℕ
limit_of (LimitLine n) = Some n
limit_of other = None

-- the number of a `cut` line
abbrev pub cut_of : Line → Option ℕ
cut_of (CutLine n) = Some n
cut_of other = None

-- the line says that the link ends
abbrev pub is_end : Line → Bool
is_end EndLine = true
is_end other = false

-- the turns of a `turns` line
abbrev pub turns_of : Line → List ℕ
turns_of (TurnsLine turns) = turns
turns_of other = []

-- the bytes of a `step` line, joined
abbrev pub step_of : Line → Option (List ℕ)
step_of (StepLine pieces) = Some (concat pieces)
step_of other = None

-- the command of a command line
abbrev pub command_of : Line → Option Command
command_of (CommandLine command) = Some command
command_of other = None

-- the line begins a script
abbrev pub is_handle : Line → Bool
is_handle HandleLine = true
is_handle other = false

-- the line says something
abbrev pub is_said : Line → Bool
is_said Nothing = false
is_said other = true

-- what a session text asks for
pub record SessionText : Type 0 where
  pub config : List ℕ
  pub nonce : List ℕ
  pub scripts : List (List Command)
  pub turns : List ℕ
  pub limit : ℕ
  pub plan : List (List ℕ)
  pub cut : ℕ
  -- the link ends behind its plan
  pub ends : Bool

-- what the lines mean together: `config` stands first and once, the nonce, the limit and the cut at most once, `end`
-- any number of times, and each command behind a `handle`
pub record Say (lines : List Line) (s : SessionText) : Type 0 where
  pub others : List Line
  pub first : filter is_said lines ≡ ConfigLine s.config ∷ others
  pub one_config : filter_map config_of others ≡ []
  pub nonce : one_or default_nonce (filter_map nonce_of others) ≡ Some s.nonce
  pub limit : one_or 16777216 (filter_map limit_of others) ≡ Some s.limit
  pub cut : one_or 8192 (filter_map cut_of others) ≡ Some s.cut
  pub ends : s.ends ≡ list_any is_end others
  pub turns : s.turns ≡ flat_map turns_of others
  pub plan : s.plan ≡ filter_map step_of others
  pub scripts : map (filter_map command_of) (slice_split is_handle others) ≡ [] ∷ s.scripts

-- the text is that of this session
pub record IsSessionText (text : List ℕ) (s : SessionText) : Type 0 where
  pub spelled : List (List ℕ)
  pub lines : List Line
  pub text_lines : AreLines spelled text
  pub each : AllZip Spells lines spelled
  pub say : Say lines s
  pub not_many : length s.scripts ≤ 1024
  pub levels : KeepLevels s.scripts

-- these lines may begin a session text
abbrev pub MayBegin : List (List ℕ) → Type 0
MayBegin spelled = (lines : List Line) × (more : List Line) × (s : SessionText) × AllZip Spells lines spelled × Say (lines ++ more) s

-- with the next line they may not, or there is none and the session isn't whole
abbrev pub CanNotGoOn : List (List ℕ) → List (List ℕ) → List ℕ → Type 0
CanNotGoOn before [] text = (s : SessionText) → IsSessionText text s → ⊥
CanNotGoOn before (next ∷ rest) text = MayBegin (before ++ next ∷ []) → ⊥

-- the text is refused at line n, counted from 1: the lines before it may begin a session text
pub record IsRefusedAt (text : List ℕ) (n : ℕ) : Type 0 where
  pub before : List (List ℕ)
  pub rest : List (List ℕ)
  pub text_lines : AreLines (before ++ rest) text
  pub number : n ≡ length before + 1
  pub good : MayBegin before
  pub bad : CanNotGoOn before rest text
