-- Where a body stands, and what closes its statement behind it.
use Rattle.std.specs.Prelude.{ℕ, ◌+◌, List, Option, Some, None, Result, Ok, Err}
use Rattle.pg_types.specs.declared.error.Error.{Error}
use Rattle.pg_query.specs.Dialogue.{Dialogue, Answer}
use Rattle.pg_query.specs.Scripts.{Waiting, Nothing}
use Rattle.pg_core.specs.Behind.{behind}
use Rattle.pg_core.specs.Thens.{waits_through}
use Rattle.pg_execute.specs.Executes.{posts, posts_before}
use Rattle.pg_execute.specs.declared.closes.Closing.{Closing}
use Rattle.pg_execute.specs.declared.closes.Closing.TheVariants.{Behind, AtError}
use Rattle.pg_execute.specs.declared.closes.Closes.{Closes}

-- ---- behind which answers

-- what is sent before this answer: the request that closes, or nothing where a value takes the statement with it
abbrev pub part_for : {T : Type 0} → Closing → Result T Error → Option (List ℕ) → Option (List ℕ)
part_for Behind r part = part
part_for AtError (Ok x) part = None
part_for AtError (Err e) part = part

-- it is sent before an answer is given, and nobody reads its reply
abbrev pub posts_by : {T : Type 0} → Closing → Option (List ℕ) → Result T Error → Dialogue T
posts_by closing part r = posts_before (part_for closing r part) r

-- a dialogue, and this request behind its answers or its error, also where it is given up
abbrev pub closed_as : {T : Type 0} → Closing → Option (List ℕ) → Dialogue T → Dialogue T
closed_as closing part d = behind (posts part) d (posts_by closing part)

-- ---- where it stands

-- a body that stands here is closed, unless its answer waits
abbrev pub closes_at : {T : Type 0} → Option (Result T Error) → Closing → Option (List ℕ) → Dialogue T → Dialogue T
closes_at None closing part d = closed_as closing part d
closes_at (Some r) closing part d = Answer r

-- what is still asked and answered
abbrev pub closes_dialogue : {B T : Type 0} → (B → Dialogue T) → Closes B T → Dialogue T
closes_dialogue body s = closes_at s.answer s.closing s.part (body s.body)

-- where the desk refuses the request that closes, its error is the answer
abbrev pub refused_at : {T : Type 0} → Option (Result T Error) → Closing → Option (List ℕ) → (Error → Dialogue T) → Error → Dialogue T
refused_at None closing part refuses e = closed_as closing part (refuses e)
refused_at (Some r) closing part refuses e = Answer (Err e)

-- what is still asked and answered where the desk refuses what was sent or asked
abbrev pub closes_refuses : {B T : Type 0} → (B → Error → Dialogue T) → Closes B T → Error → Dialogue T
closes_refuses refuses s = refused_at s.answer s.closing s.part (refuses s.body)

-- what a body waits for that stands here
abbrev pub waits_at : {T : Type 0} (answer : Option (Result T Error)) (closing : Closing) (part : Option (List ℕ)) (d : Dialogue T) → Waiting d → Waiting (closes_at answer closing part d)
waits_at None closing part d w = waits_through (posts part) (posts_by closing part) d w
waits_at (Some r) closing part d w = Nothing

-- what is waited for
abbrev pub closes_waits : {B T : Type 0} (body : B → Dialogue T) → ((b : B) → Waiting (body b)) → (s : Closes B T) → Waiting (closes_dialogue body s)
closes_waits body waits s = waits_at s.answer s.closing s.part (body s.body) (waits s.body)

-- how many steps are left: those of the body, and one
abbrev pub steps_at : {T : Type 0} → Option (Result T Error) → ℕ → ℕ
steps_at None n = n + 1
steps_at (Some r) n = 0

-- the same of the script
abbrev pub closes_steps : {B T : Type 0} → (B → ℕ) → Closes B T → ℕ
closes_steps steps s = steps_at s.answer (steps s.body)
