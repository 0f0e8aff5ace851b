-- Where no more than the limit was given, each answer says so.
use Rattle.std.proofs.Common.{◌≡◌, ℕ, ◌≤◌, true, Some, Result, Err, sym, subst}
use Rattle.futures.specs.declared.task.Poll.TheVariants.{Ready}
use Rattle.pg_types.specs.declared.error.Error.{Error}
use Rattle.pg_types.specs.declared.error.Error.TheVariants as error
use Rattle.pg_connect.specs.declared.fault.ConnectionFault.{ConnectionFault}
use Rattle.pg_connect.specs.declared.fault.ConnectionFault.TheVariants as fault
use Rattle.pg_connect.specs.declared.ends.TurnEnd.{TurnEnd}
use Rattle.pg_connect.specs.declared.streams.Streams.{Streams}
use Rattle.pg_connect.specs.Answers.{IsWithinPoll}
use Rattle.pg_connect.specs.Faults.{error_of}
use Rattle.pg_connect.specs.Reads.{IsWithin}

pub within-any : {A : Type 0} (s : Streams) (r : Result A ConnectionFault) → s.given ≤ s.max_bytes → IsWithin s r
within-any s (Err (fault.LimitReached given limit)) is = tt
within-any s _ is = is

within-error : (s : Streams) (e : Error) → s.given ≤ s.max_bytes → IsWithinPoll s (Ready (Some (Err e)))
within-error s (error.LimitReached counted most) is = tt
within-error s _ is = is

-- the same of a poll whose turn failed
pub within-poll : (s t : Streams) (f : ConnectionFault) → t ≡ record s { ended = true } → IsWithin {A = TurnEnd} s (Err f) → IsWithinPoll t (Ready (Some (Err (error_of f))))
within-poll s t (fault.LimitReached given limit) same is = tt
within-poll s t (fault.Unasked e) same is = within-error t e (subst (λ (x : Streams). x.given ≤ x.max_bytes) (sym same) is)
within-poll s t _ same is = subst (λ (x : Streams). x.given ≤ x.max_bytes) (sym same) is
