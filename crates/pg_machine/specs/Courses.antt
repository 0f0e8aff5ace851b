-- What a server gives by the bytes taken from here on, where its beginning isn't kept.
use Rattle.std.specs.Prelude.{ℕ, List, ◌++◌, length, drop}
use Rattle.pg_spec.specs.RawMessages.{messages}
use Rattle.pg_machine.specs.Serving.{Service, Serving, served}
use Rattle.pg_machine.specs.Sessions.{spoken}

-- all that it gives once these bytes were taken: what it said, and what the frames from here on are replied
abbrev pub from_here : {S : Type 0} → Service S → (said taken : List ℕ) → Serving S → (left bytes : List ℕ) → List ℕ
from_here service said taken at left bytes = said ++ spoken (served service at (messages (left ++ drop (length taken) bytes))).reply
