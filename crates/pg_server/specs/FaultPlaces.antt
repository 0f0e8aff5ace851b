-- Where a fault comes behind the startup frame.
use Rattle.std.specs.Prelude.{◌≡◌, ℕ, ◌≤◌, List, ◌++◌, length, take}
use Rattle.pg_spec.specs.RawMessages.{messages}
use Rattle.pg_machine.specs.Serving.{served}
use Rattle.pg_machine.specs.Sessions.{begun, spoken}
use Rattle.pg_wire.specs.Memory.{as_count}
use Rattle.pg_server.specs.declared.fault.ServerFault.{ServerFault}
use Rattle.pg_server.specs.declared.fault.ServerFault.TheVariants as faults
use Rattle.pg_server.specs.Handlers.{Step, service_of}

-- Before the fault the startup was said, and what the rules of a server say to the first of the whole frames.
pub record ComesBehind {S : Type 0} (step : Step S) (state : S) (startup rest said : List ℕ) (fault : ServerFault) : Type 0 where
  -- so many frames were answered
  pub frames : ℕ
  pub fits : frames ≤ length (messages rest)
  pub said_is : said ≡ startup ++ spoken (served (service_of step) (begun state) (take frames (messages rest))).reply
  -- an effect that may not be given tells how many those are
  pub effect : (n : ℕ) → fault ≡ faults.BadEffect n → n ≡ as_count frames
