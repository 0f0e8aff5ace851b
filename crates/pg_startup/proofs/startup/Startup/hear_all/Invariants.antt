use Rattle.std.proofs.Common.{◌≡◌, ◌≤◌, ℕ, List, false, length}
use Rattle.pg_spec.specs.RawMessages.{RawMessage, messages, bytes_left}
use Rattle.pg_spec.specs.Startup.{Login}
use Rattle.pg_startup.specs.Startups.{HearsBuffer, Queues, StandsAt, sends_left}
use Rattle.pg_startup.proofs.Walking.{Walked}
use Rattle.pg_startup.proofs.startup.Startup.hear_all.Given as goal

abbrev pub invariant-batches : goal.invariant-batches
invariant-batches l = record {
  same : HearsBuffer l.initial.self l.self;
  end : l.self.done ≡ l.initial.self.done;
  queues : Queues l.initial.self l.self;
  lower : sends_left l.self ≤ sends_left l.initial.self;
  left : bytes_left l.self.bytes.buffer.items ≡ bytes_left l.initial.self.bytes.buffer.items;
  walked : (login : Login) (first : List ℕ) (read : List RawMessage) → StandsAt login first read l.initial.self → l.initial.self.done ≡ false →
      Walked login first read (messages l.initial.self.bytes.buffer.items) (messages l.self.bytes.buffer.items) l.self;
}

abbrev pub decreases-batches : goal.decreases-batches
decreases-batches l = length l.self.bytes.buffer.items
