-- The lines of a session text, told by their first words.
use Rattle.std.specs.Prelude.{◌≡◌, ◌≢◌, ◌≤◌, ◌⊎◌, ℕ, List, [], ◌∷◌, map, Option, Some, None, IsUtf8, codes}
use Rattle.std.specs.List.{AllByRecursion, AllZip, concat}
use Rattle.pg_text.specs.declared.command.Command.TheVariants as command
use Rattle.pg_text.specs.SessionText as said
use Rattle.pg_spec.specs.SessionText.{IsBytes, IsNumber, IsQuoted}
use Rattle.pg_text.specs.SessionText.{IsPair, IsSlot, IsTarget, IsTypeName, IsValue, Spells}
use Rattle.pg_types.specs.declared.value.Value.{Value}
use Rattle.pg_text.specs.declared.command.CommandTarget.{CommandTarget}
use Rattle.pg_text.specs.Executions.{command_of, execution_word, typed_command_of, typed_word}
use Rattle.pg_text.specs.declared.line.Keyword.{Keyword}
use Rattle.pg_text.specs.declared.line.Keyword.TheVariants.{Config, Nonce, Limit, Turns, Handle, Step, Cut, End, Simple, Batch, Check, Prepare, Clear, Executes, QueryRaw, ExecutesTyped, Close, Begin, Savepoint, Commit, Rollback, Abandon}
use Rattle.pg_text.specs.declared.line.Line.{Line}
use Rattle.pg_text.specs.declared.line.Line.TheVariants as line
use Rattle.pg_text.specs.Modes.{mode_words}
use Rattle.pg_text.specs.Words.{behind, left_text}
use Rattle.pg_steps.specs.declared.modes.Modes.{Modes}

-- the first word of such a line
abbrev pub first_word : Keyword → List ℕ
first_word Config = codes "config"
first_word Nonce = codes "nonce"
first_word Limit = codes "limit"
first_word Turns = codes "turns"
first_word Handle = codes "handle"
first_word Step = codes "step"
first_word Cut = codes "cut"
first_word End = codes "end"
first_word Simple = codes "simple"
first_word Batch = codes "batch"
first_word Check = codes "check"
first_word Prepare = codes "prepare"
first_word Clear = codes "clear"
first_word (Executes execution) = execution_word execution
first_word QueryRaw = codes "query_raw"
first_word (ExecutesTyped execution) = typed_word execution
first_word Close = codes "close"
first_word Begin = codes "begin"
first_word Savepoint = codes "savepoint"
first_word Commit = codes "commit"
first_word Rollback = codes "rollback"
first_word Abandon = codes "abandon"

-- the word begins this line, or none
abbrev pub FirstWord : List ℕ → Option Keyword → Type 0
FirstWord word None = (keyword : Keyword) → word ≢ first_word keyword
FirstWord word (Some keyword) = word ≡ first_word keyword

-- the lines that are no commands
abbrev pub session_keywords : List Keyword
session_keywords = Config ∷ Nonce ∷ Limit ∷ Turns ∷ Handle ∷ Step ∷ Cut ∷ End ∷ []

-- the commands other than those that execute something in one of several forms
abbrev pub command_keywords : List Keyword
command_keywords = Simple ∷ Batch ∷ Check ∷ Prepare ∷ Clear ∷ QueryRaw ∷ Close ∷ []

-- the commands that open and end the levels of a transaction
abbrev pub level_keywords : List Keyword
level_keywords = Begin ∷ Savepoint ∷ Commit ∷ Rollback ∷ Abandon ∷ []

-- the word begins such a line, or none of these
abbrev pub FirstWordAmong : List Keyword → List ℕ → Option Keyword → Type 0
FirstWordAmong keywords word None = AllByRecursion (λ keyword. word ≢ first_word keyword) keywords
FirstWordAmong keywords word (Some keyword) = word ≡ first_word keyword

-- a line that was read stands for this one; of a step its bytes are kept, joined
abbrev pub Stands : Line → said.Line → Type 0
Stands line.Nothing l = l ≡ said.Nothing
Stands (line.Config text) l = l ≡ said.ConfigLine text
Stands (line.Nonce nonce) l = l ≡ said.NonceLine nonce
Stands (line.Limit bytes) l = l ≡ said.LimitLine bytes
Stands (line.Turns turns) l = l ≡ said.TurnsLine turns.items
Stands line.Handle l = l ≡ said.HandleLine
Stands (line.Step entry) l = (pieces : List (List ℕ)) × (l ≡ said.StepLine pieces) × (entry.items ≡ concat pieces)
Stands (line.Cut bytes) l = l ≡ said.CutLine bytes
Stands line.End l = l ≡ said.EndLine
Stands (line.Command c) l = l ≡ said.CommandLine c

-- the words behind the first one of a line
abbrev pub WordsOf : Keyword → said.Line → List (List ℕ) → Type 0
WordsOf Config l words = (text : List ℕ) × (word : List ℕ) × (l ≡ said.ConfigLine text) × IsUtf8 text × IsQuoted text word × (words ≡ word ∷ [])
WordsOf Nonce l words = (nonce : List ℕ) × (word : List ℕ) × (l ≡ said.NonceLine nonce) × IsQuoted nonce word × (words ≡ word ∷ [])
WordsOf Limit l words = (n : ℕ) × (word : List ℕ) × (l ≡ said.LimitLine n) × IsNumber 9223372036854775807 n word × (words ≡ word ∷ [])
WordsOf Turns l words = (turns : List ℕ) × (l ≡ said.TurnsLine turns) × AllZip (IsNumber 4294967295) turns words
WordsOf Handle l words = (l ≡ said.HandleLine) × (words ≡ [])
WordsOf Step l words = (pieces : List (List ℕ)) × (l ≡ said.StepLine pieces) × AllZip IsBytes pieces words
WordsOf Cut l words = (n : ℕ) × (word : List ℕ) × (l ≡ said.CutLine n) × (1 ≤ n) × IsNumber 18446744073709551615 n word × (words ≡ word ∷ [])
WordsOf End l words = (l ≡ said.EndLine) × (words ≡ [])
WordsOf Simple l words = (text : List ℕ) × (word : List ℕ) × IsUtf8 text × IsQuoted text word ×
    (((l ≡ said.CommandLine (command.Simple text None)) × (words ≡ word ∷ []))
    ⊎ ((n : ℕ) × (number : List ℕ) × (l ≡ said.CommandLine (command.Simple text (Some n))) × IsNumber 18446744073709551615 n number
    × (words ≡ word ∷ codes "take" ∷ number ∷ [])))
WordsOf Batch l words = (text : List ℕ) × (word : List ℕ) × (l ≡ said.CommandLine (command.Batch text)) × IsUtf8 text × IsQuoted text word × (words ≡ word ∷ [])
WordsOf Check l words = (l ≡ said.CommandLine command.Check) × (words ≡ [])
WordsOf Prepare l words = (slot : ℕ) × (text : List ℕ) × (types : List ℕ) × (number : List ℕ) × (word : List ℕ) × (names : List (List ℕ))
    × (l ≡ said.CommandLine (command.Prepare slot text types)) × IsUtf8 text × IsNumber 18446744073709551615 slot number × IsQuoted text word
    × AllZip IsTypeName types names × (words ≡ number ∷ word ∷ names)
WordsOf Clear l words = (l ≡ said.CommandLine command.Clear) × (words ≡ [])
WordsOf (Executes execution) l words = (to : CommandTarget) × (values : List Value) × (word : List ℕ) × (given : List (List ℕ))
    × (l ≡ said.CommandLine (command_of execution to values)) × IsTarget to word × AllZip IsValue values given × (words ≡ word ∷ given)
WordsOf QueryRaw l words = (to : CommandTarget) × (n : ℕ) × (values : List Value) × (word : List ℕ) × (number : List ℕ) × (given : List (List ℕ))
    × (l ≡ said.CommandLine (command.QueryRaw to n values)) × IsTarget to word × IsNumber 18446744073709551615 n number × AllZip IsValue values given
    × (words ≡ word ∷ codes "take" ∷ number ∷ given)
WordsOf (ExecutesTyped execution) l words = (text : List ℕ) × (pairs : List (ℕ × Value)) × (word : List ℕ) × (given : List (List ℕ))
    × (l ≡ said.CommandLine (typed_command_of execution (record { text = text; types = map (λ p. p.0) pairs; values = map (λ p. p.1) pairs }))) × IsUtf8 text × IsQuoted text word
    × AllZip IsPair pairs given × (words ≡ word ∷ given)
WordsOf Close l words = (slot : ℕ) × (word : List ℕ) × (l ≡ said.CommandLine (command.Close slot)) × IsSlot slot word × (words ≡ word ∷ [])
WordsOf Begin l words = (modes : Modes) × (l ≡ said.CommandLine (command.Begin modes)) × (words ≡ mode_words modes)
WordsOf Savepoint l words =
    ((l ≡ said.CommandLine (command.Savepoint None)) × (words ≡ []))
    ⊎ ((name : List ℕ) × (word : List ℕ) × (l ≡ said.CommandLine (command.Savepoint (Some name))) × IsUtf8 name × IsQuoted name word × (words ≡ word ∷ []))
WordsOf Commit l words = (l ≡ said.CommandLine command.Commit) × (words ≡ [])
WordsOf Rollback l words = (l ≡ said.CommandLine command.Rollback) × (words ≡ [])
WordsOf Abandon l words = (l ≡ said.CommandLine command.Abandon) × (words ≡ [])

-- behind the first word a line goes on so; None: there is no such line
abbrev pub ReadsRest : Keyword → Option (List ℕ) → Option Line → Type 0
ReadsRest keyword old None = (l : said.Line) (words : List (List ℕ)) → WordsOf keyword l words → left_text old ≡ behind words → ⊥
ReadsRest keyword old (Some read) = (l : said.Line) × (words : List (List ℕ)) × WordsOf keyword l words × (left_text old ≡ behind words) × Stands read l

-- the line is spelled so; None: no line is
abbrev pub ReadsLine : List ℕ → Option Line → Type 0
ReadsLine spelled None = (l : said.Line) → Spells l spelled → ⊥
ReadsLine spelled (Some read) = (l : said.Line) × Spells l spelled × Stands read l

-- it is neither empty nor a comment
abbrev pub SaysSomething : List ℕ → Type 0
SaysSomething [] = ⊥
SaysSomething (b ∷ rest) = b ≢ 35
