-- What comes of a command in a world that tells what it is asked, and is a world anew by each question.
use Rattle.std.specs.Prelude.{ℕ, ◌+◌, ◌-◌, ◌^◌, ◌==◌, List, [], ◌∷◌, take, drop, if◌then◌else◌, Some, None}
use Rattle.pg_spec.specs.RawMessages.{RawMessage}
use Rattle.pg_desk.specs.Catalog.{Catalog, nothing_kept, type_kept, statement_kept, keeps_type, keeps_statement}
use Rattle.pg_query.specs.declared.desk_call.DeskCall.{DeskCall}
use Rattle.pg_query.specs.declared.desk_call.DeskCall.TheVariants as desk_call
use Rattle.pg_query.specs.declared.desk_call.Reply.{Reply}
use Rattle.pg_query.specs.declared.desk_call.Reply.TheVariants as reply
use Rattle.pg_spec.specs.Courses.{Outcome, nothing_yet, with_request, with_sent, with_part, with_question, first_reply, later_replies}
use Rattle.pg_spec.specs.Dialogues.{Dialogue, Answers, Asks, Sends, Reads, Puts, Closes, Calls, decided_after}

-- what came of it, what it was told, the world behind it, and the replies that are left for later requests
pub record Played (W Q R A : Type 0) : Type 0 where
  pub outcome : Outcome Q A
  pub told : List R
  pub world : W
  pub replies : List (List RawMessage)

-- the same with another outcome
abbrev pub with_outcome : {W Q R A : Type 0} → (Outcome Q A → Outcome Q A) → Played W Q R A → Played W Q R A
with_outcome f p = record p { outcome = f p.outcome }

-- a question before it, and what was told
abbrev pub with_told : {W Q R A : Type 0} → Q → R → Played W Q R A → Played W Q R A
with_told q r p = record p { outcome = with_question q p.outcome; told = r ∷ p.told }

-- A command from one moment on: `replies` are those to its requests, `left` is what is left of the reply that it reads.
abbrev pub plays : {W Q R A : Type 0} → (W → Q → R × W) → W → (replies : List (List RawMessage)) → (left : List RawMessage) → Dialogue Q R A → Played W Q R A
plays tell w replies left (Answers a) = record { outcome = record { parts = []; requests = []; asked = []; answer = Some a; left = left }; told = []; world = w; replies = replies }
plays tell w replies left (Asks copying part d) = with_outcome (with_request part) (plays tell w (later_replies replies) (first_reply replies) d)
plays tell w replies left (Sends part d) = with_outcome (with_sent part) (plays tell w (later_replies replies) left d)
plays tell w replies left (Reads decides next) = elim (decided_after decides left) [
  | None ↦ record { outcome = nothing_yet; told = []; world = w; replies = replies }
  | Some n ↦ plays tell w replies (drop n left) (next (take n left))
]
plays tell w replies left (Puts part d) = with_outcome (with_part part) (plays tell w replies left d)
plays tell w replies left (Closes part d) = with_outcome (with_part part) (plays tell w replies left d)
plays tell w replies left (Calls q next) = with_told q (tell w q).0 (plays tell (tell w q).1 replies left (next (tell w q).0))

-- ---- a desk by itself

-- what it keeps of the catalog, and its next numbers
pub record OwnDesk : Type 0 where
  pub catalog : Catalog
  pub statements : ℕ
  pub portals : ℕ

-- one that keeps nothing yet
abbrev pub new_desk : OwnDesk
new_desk = record { catalog = nothing_kept; statements = 0; portals = 0 }

-- the number of a counter; at its last value it tells none
abbrev pub number_or_spent : ℕ → Reply
number_or_spent n = if n == 2 ^ 32 - 1 then reply.Spent else reply.Number n

-- the counter behind it
abbrev pub counted : ℕ → ℕ
counted n = if n == 2 ^ 32 - 1 then n else n + 1

-- what it tells
abbrev pub tells : OwnDesk → DeskCall → Reply × OwnDesk
tells w desk_call.NextStatement = (number_or_spent w.statements, record w { statements = counted w.statements })
tells w desk_call.NextPortal = (number_or_spent w.portals, record w { portals = counted w.portals })
tells w (desk_call.TypeOf oid) = (reply.Type (type_kept w.catalog oid), w)
tells w (desk_call.SetType oid ty) = (reply.Type (Some ty), record w { catalog = keeps_type w.catalog oid ty })
tells w desk_call.ClearTypes = (reply.Cleared, record w { catalog = record w.catalog { types = [] } })
tells w (desk_call.LookupOf which) = (reply.Statement (statement_kept w.catalog which), w)
tells w (desk_call.SetLookup which s) = (reply.Statement (Some s), record w { catalog = keeps_statement w.catalog which s })
