-- One dialogue behind another.
use Rattle.std.specs.Prelude.{List, ◌++◌, Result}
use Rattle.pg_types.specs.declared.error.Error.{Error}
use Rattle.pg_query.specs.declared.desk_call.Cleanup.{Cleanup}
use Rattle.pg_query.specs.Dialogue.{Dialogue, Answer, Ask, Send, Leave, Read, Put, Finish, Close, HangUp, Call, Hear}

-- A dialogue, and another behind its answer. What is left to do where the first is given up is followed by `more`.
abbrev pub behind : {A T : Type 0} → (more : List Cleanup) → Dialogue A → (Result A Error → Dialogue T) → Dialogue T
behind more (Answer r) f = f r
behind more (Ask copying part d) f = Ask copying part (behind more d f)
behind more (Send part refused d) f = Send part (λ e. behind more (refused e) f) (behind more d f)
behind more (Leave id d) f = Leave id (behind more d f)
behind more (Read cleanup decides next) f = Read (cleanup ++ more) decides (λ ms. behind more (next ms) f)
behind more (Put cleanup part d) f = Put (cleanup ++ more) part (behind more d f)
behind more (Finish part d) f = Finish part (behind more d f)
behind more (Close part d) f = Close part (behind more d f)
behind more (HangUp d) f = HangUp (behind more d f)
behind more (Call q refused next) f = Call q (λ e. behind more (refused e) f) (λ r. behind more (next r) f)
behind more (Hear next) f = Hear (λ r. behind more (next r) f)
