-- A session that is made of two numbers: how many commands it has, and a seed.
use Rattle.std.specs.Prelude.{◌≤◌, ℕ, ◌+◌, ◌*◌, ◌%◌, Bool, false, List, [], ◌∷◌, ◌++◌, map, replicate, None, ◌==◌, if◌then◌else◌, codes, decimal}
use Rattle.std.specs.List.{filter, range_with_len}
use Rattle.pg_spec.specs.RawMessages.{RawMessage}
use Rattle.pg_spec.specs.Report.{Command, Simple}
use Rattle.pg_spec.specs.SessionText.{SessionText, default_nonce}
use Rattle.pg_gen.specs.Draws.{draw}
use Rattle.pg_gen.specs.Messages.{bytes_of, authentication_ok, ready, notification, one_column, one_cell, command_complete}

-- how many commands a session may have
pub record IsCount (n : ℕ) : Type 0 where
  pub least : 1 ≤ n
  pub most : n ≤ 100000

-- ---- what is asked

-- command i
abbrev pub command : ℕ → Command
command i = Simple (codes "q" ++ decimal i) None

-- the commands of a script: one in eight
abbrev pub script : (n handle : ℕ) → List Command
script n handle = map command (filter (λ i. i % 8 == handle) (range_with_len 0 n))

-- ---- what is answered

-- how many rows answer command k: by the first of its two draws
abbrev pub rows_of : (seed k : ℕ) → ℕ
rows_of seed k = draw seed (2 * k) % 4

-- a notification comes before them: by the second
abbrev pub is_notified : (seed k : ℕ) → Bool
is_notified seed k = draw seed (2 * k + 1) % 16 == 1

-- what comes before the rows: a notification or none, and the column
abbrev pub before_rows : (payload : List ℕ) (notified : Bool) → List RawMessage
before_rows payload notified = (if notified then notification 1 (codes "c") payload ∷ [] else []) ++ one_column (codes "v") ∷ []

-- what comes behind them
abbrev pub behind_rows : (rows : ℕ) → List RawMessage
behind_rows rows = command_complete (codes "SELECT " ++ decimal rows) ∷ ready ∷ []

-- the messages that answer command k
abbrev pub reply : (k rows : ℕ) (notified : Bool) → List RawMessage
reply k rows notified = before_rows (decimal k) notified ++ replicate rows (one_cell (decimal k)) ++ behind_rows rows

-- the startup is accepted
abbrev pub opening : List RawMessage
opening = authentication_ok ∷ ready ∷ []

-- the messages of each entry of the plan: the startup's, and those of each reply
abbrev pub replies : (n seed : ℕ) → List (List RawMessage)
replies n seed = opening ∷ map (λ k. reply k (rows_of seed k) (is_notified seed k)) (range_with_len 0 n)

-- ---- the session

-- the limit of a text that gives none, in bytes
abbrev pub default_limit : ℕ
default_limit = 16777216

-- the cut of a text that gives none, in bytes
abbrev pub default_cut : ℕ
default_cut = 8192

-- the session of n commands that a seed makes: eight scripts, no turns, and all else as in a text that doesn't say it
abbrev pub generated : (n seed : ℕ) → SessionText
generated n seed = record {
  config = codes "user=a";
  nonce = default_nonce;
  scripts = map (script n) (range_with_len 0 8);
  turns = [];
  limit = default_limit;
  plan = map bytes_of (replies n seed);
  cut = default_cut;
  ends = false;
}
