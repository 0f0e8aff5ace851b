use Rattle.std.proofs.Common.{◌≡◌, ◌++◌, drop, map}
use Rattle.std.specs.List.{concat}
use Rattle.pg_served.proofs.alone.requests_of.Given as goal

abbrev pub invariant-loop-booking : goal.invariant-loop-booking
invariant-loop-booking l = l.requests.items ++ map (λ booking. concat booking.parts) (drop l.booking-index l.book) ≡ map (λ booking. concat booking.parts) l.book
