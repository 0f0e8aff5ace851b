-- What a command asks of the server and of its desk, and what it answers, as a tree.
use Rattle.std.specs.Prelude.{ℕ, ◌+◌, List, [], ◌∷◌, Bool, Option, Some, None, option_map, if◌then◌else◌}
use Rattle.pg_spec.specs.RawMessages.{RawMessage}

-- A command from one moment on. `Q` are the questions to the desk, `R` what it tells, `A` the answers.
pub data Dialogue (Q R A : Type 0) : Type 0 where
  Answers : A → Dialogue Q R A
  -- books a request, whose reply is read from now on; a copy takes more parts
  Asks : (copying : Bool) → (part : List ℕ) → Dialogue Q R A → Dialogue Q R A
  -- books a request whose reply nobody reads
  Sends : (part : List ℕ) → Dialogue Q R A → Dialogue Q R A
  -- reads the reply up to the first message by which those read decide, and goes on by them
  Reads : (decides : List RawMessage → Bool) → (List RawMessage → Dialogue Q R A) → Dialogue Q R A
  -- adds a part to the copy, once there is room for it
  Puts : (part : List ℕ) → Dialogue Q R A → Dialogue Q R A
  -- adds the copy's last part
  Closes : (part : List ℕ) → Dialogue Q R A → Dialogue Q R A
  -- asks the desk, and goes on by what it is told
  Calls : Q → (R → Dialogue Q R A) → Dialogue Q R A

-- how many messages are read: as many as the shortest front of one message or more that decides has
abbrev pub decided_after : (List RawMessage → Bool) → List RawMessage → Option ℕ
decided_after decides [] = None
decided_after decides (m ∷ ms) = if decides (m ∷ []) then Some 1 else option_map (λ n. n + 1) (decided_after (λ front. decides (m ∷ front)) ms)

-- one dialogue, and another behind its answer
abbrev pub behind : {Q R A B : Type 0} → Dialogue Q R A → (A → Dialogue Q R B) → Dialogue Q R B
behind (Answers a) next = next a
behind (Asks copying part d) next = Asks copying part (behind d next)
behind (Sends part d) next = Sends part (behind d next)
behind (Reads decides more) next = Reads decides (λ ms. behind (more ms) next)
behind (Puts part d) next = Puts part (behind d next)
behind (Closes part d) next = Closes part (behind d next)
behind (Calls q more) next = Calls q (λ r. behind (more r) next)
