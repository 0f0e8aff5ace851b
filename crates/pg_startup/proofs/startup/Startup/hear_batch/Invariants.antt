use Rattle.std.proofs.Common.{◌≡◌, ◌≤◌, ℕ, List, Bool, true, false, length}
use Rattle.pg_spec.specs.Batches.{is_batch}
use Rattle.pg_spec.specs.RawMessages.{RawMessage}
use Rattle.pg_spec.specs.Startup.{Login}
use Rattle.pg_startup.proofs.Batches.{IsRest}
use Rattle.pg_startup.specs.Startups.{HearsOnly, Queues, StandsAt, sends_left}
use Rattle.pg_startup.proofs.Walking.{Walked}
use Rattle.pg_startup.proofs.startup.Startup.hear_batch.Given as goal

abbrev pub invariant-messages : goal.invariant-messages
invariant-messages l = record {
  same : HearsOnly l.initial.self l.self;
  end : l.self.done ≡ l.initial.self.done;
  queues : Queues l.initial.self l.self;
  lower : sends_left l.self ≤ sends_left l.initial.self;
  rest : (complete : Bool) → is_batch complete l.initial.batch ≡ true → IsRest complete l.batch;
  walked : (login : Login) (first : List ℕ) (read : List RawMessage) (complete : Bool) → is_batch complete l.initial.batch ≡ true → StandsAt login first read l.initial.self → l.initial.self.done ≡ false →
      Walked login first read l.initial.batch l.batch l.self;
}

abbrev pub decreases-messages : goal.decreases-messages
decreases-messages l = length l.batch
