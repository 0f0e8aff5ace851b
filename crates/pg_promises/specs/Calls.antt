-- What a session of any commands was asked, and its link before and after.
use Rattle.std.specs.Prelude.{ℕ, List, []}
use Rattle.pg_promises.specs.Causes as landed
use Rattle.pg_spec.specs.Links.{LinkView}

-- a session's call, with its scripts' commands
pub record Call (C : Type 0) : Type 0 where
  pub config : List ℕ
  pub nonce : List ℕ
  pub scripts : List (List C)
  pub turns : List ℕ
  pub limit : ℕ
  pub before : LinkView
  pub after : LinkView

-- all of it but its scripts, in the words of the definitions that speak of no command
abbrev pub apart : {C : Type 0} → Call C → landed.Call
apart call = record { config = call.config; nonce = call.nonce; scripts = []; turns = call.turns; limit = call.limit; before = call.before; after = call.after }
