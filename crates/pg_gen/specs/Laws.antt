-- What a generated session is to a link that gives its plan.
use Rattle.std.specs.Prelude.{◌≡◌, ◌+◌, ◌≤◌, ℕ, false, List}
use Rattle.pg_promises.specs.Causes.{Call}
use Rattle.pg_promises.specs.ConnectionStrings.{Means}
use Rattle.pg_promises.specs.Promises.{AnswersRequests, AnswersStartup, IsValid, requests_in}
use Rattle.pg_spec.specs.Links.{Plan}
use Rattle.pg_spec.specs.Sent.{turns_given}
use Rattle.pg_spec.specs.SessionText.{SessionText}
use Rattle.pg_spec.specs.Settings.{Settings}

-- what a text's link will give
abbrev pub plan_of : SessionText → Plan
plan_of text = record { entries = text.plan; ends = text.ends; is_troubled = false }

-- the call has the text's nonce and limit
pub record IsCallOf (call : Call) (text : SessionText) : Type 0 where
  pub nonce : call.nonce ≡ text.nonce
  pub limit : call.limit ≡ text.limit

-- The session is valid input, and its plan is what a server that conforms gives it: an answer to each frame of the
-- startup, and one to each request, however many of them were sent.
pub record IsWellMade (call : Call) (text : SessionText) : Type 0 where
  pub settings : Settings
  pub means : Means text.config settings
  pub valid : IsValid call settings (plan_of text)
  pub opens : AnswersStartup call settings (plan_of text)
  pub conforms : (taken : List ℕ) → turns_given taken ≤ opens.frames + requests_in text.scripts → AnswersRequests (plan_of text) opens.frames taken
