-- A session of simple queries alone, in the words of `pg_promises`.
use Rattle.std.specs.Prelude.{ℕ, Bool, IsFalse, List}
use Rattle.std.specs.List.{list_any}
use Rattle.pg_promises.specs.Causes as landed
use Rattle.pg_spec.specs.Links.{OfBytes}
use Rattle.pg_spec.specs.Report.{Command}
use Rattle.pg_spec.specs.Sent.{tagged_frames}
use Rattle.pg_promises.specs.Calls.{Call}
use Rattle.pg_promises.specs.FailedCauses.{is_flush}

-- the same call
abbrev pub call_of : landed.Call → Call Command
call_of call = record { config = call.config; nonce = call.nonce; scripts = call.scripts; turns = call.turns; limit = call.limit; before = call.before; after = call.after }

-- a Flush was sent, as simple queries never do
abbrev pub has_flush : List ℕ → Bool
has_flush sent = list_any is_flush (tagged_frames sent)

-- none was in this call
abbrev pub TookNoFlush : landed.Call → Type 0
TookNoFlush call = OfBytes call.before call.after (λ g t. IsFalse (has_flush t))
