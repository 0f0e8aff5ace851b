-- What calls change that ask for no number and nothing of the catalog.
use Rattle.std.proofs.Common.{Ok}
use Rattle.pg_desk.specs.declared.event.Put.TheVariants as putting
use Rattle.pg_desk.specs.declared.event.Take.TheVariants as taking
use Rattle.pg_desk.specs.declared.event.Out.TheVariants as out
use Rattle.pg_desk.specs.declared.event.Deliver.TheVariants as delivering
use Rattle.pg_desk.specs.declared.event.Event.{Event}
use Rattle.pg_desk.specs.declared.event.Event.TheVariants.{Book, Put as PutEvent, EndCopy, Take as TakeEvent, HangUp, NextStatement, NextPortal, Catalog as CatalogEvent, NextOut, Deliver as DeliverEvent, CloseRequests, Fail}
use Rattle.pg_desk.specs.History.{change_of}
use Rattle.pg_desk.specs.Asking.{IsAsking, IsOfRequests}

pub of-requests : (e : Event) → (IsAsking e → ⊥) → IsOfRequests (change_of e)
of-requests (NextStatement answer) none = absurd (none tt)
of-requests (NextPortal answer) none = absurd (none tt)
of-requests (CatalogEvent call) none = absurd (none tt)
of-requests (Book stamp part copying (Ok id)) none = tt
of-requests (PutEvent id part putting.Took) none = tt
of-requests (EndCopy id part putting.Took) none = tt
of-requests (TakeEvent id (Ok (taking.Batch messages))) none = tt
of-requests (HangUp id (Ok x)) none = tt
of-requests (NextOut (Ok (out.Part part))) none = tt
of-requests (DeliverEvent batch complete delivering.Taken) none = tt
of-requests (CloseRequests (Ok x)) none = tt
of-requests (Fail (Ok x)) none = tt
of-requests e none = tt
