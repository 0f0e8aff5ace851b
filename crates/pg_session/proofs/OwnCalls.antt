-- A command's calls neither bring nor close anything.
use Rattle.std.proofs.Common.{◌≡◌, ℕ, List, [], ◌∷◌, Ok, Err, refl, ◌∙◌}
use Rattle.pg_desk.specs.declared.event.Put.TheVariants as putting
use Rattle.pg_desk.specs.declared.event.Take.TheVariants as taking
use Rattle.pg_desk.specs.declared.event.Event.{Event}
use Rattle.pg_desk.specs.declared.event.Event.TheVariants.{Book, Put as PutEvent, EndCopy, Take, HangUp as HangUpEvent, NextStatement, NextPortal, Catalog as CatalogEvent, NextOut, Deliver, CloseRequests, Fail}
use Rattle.pg_spec.specs.declared.stamps.Stamp.{Stamp}
use Rattle.pg_desk.specs.History.{State, after, after_all}
use Rattle.pg_query.specs.Dialogue.{Dialogue, Answer, Ask, Send, Leave, Read, Put, Finish, Close, HangUp, Call, Hear, Steps}
use Rattle.pg_query.specs.Lives.{Deed, Leads}
use Rattle.pg_query.proofs.Questions.{told-asks}
use Rattle.pg_core.specs.Lists.{events_of}

-- nothing came, and requests are as open as they were
pub record SameEngine (s t : State) : Type 0 where
  pub deliveries : t.deliveries ≡ s.deliveries
  pub closed : t.closed ≡ s.closed
  pub failed : t.failed ≡ s.failed

-- the calls that commands make
abbrev IsCall : Event → Type 0
IsCall (NextOut r) = ⊥
IsCall (Deliver batch complete r) = ⊥
IsCall (CloseRequests r) = ⊥
IsCall (Fail r) = ⊥
IsCall _ = Unit {0}

same-here : (s : State) → SameEngine s s
same-here s = record { deliveries = refl; closed = refl; failed = refl }

call-keeps : (s : State) (e : Event) → IsCall e → SameEngine s (after s e)
call-keeps s (Book stamp part copying (Ok id)) h = record { deliveries = refl; closed = refl; failed = refl }
call-keeps s (Book stamp part copying (Err f)) h = same-here s
call-keeps s (PutEvent id part putting.Took) h = record { deliveries = refl; closed = refl; failed = refl }
call-keeps s (PutEvent id part (putting.Full back)) h = same-here s
call-keeps s (PutEvent id part (putting.Gone back)) h = same-here s
call-keeps s (PutEvent id part (putting.OutOfMemory back)) h = same-here s
call-keeps s (EndCopy id part putting.Took) h = record { deliveries = refl; closed = refl; failed = refl }
call-keeps s (EndCopy id part (putting.Full back)) h = same-here s
call-keeps s (EndCopy id part (putting.Gone back)) h = same-here s
call-keeps s (EndCopy id part (putting.OutOfMemory back)) h = same-here s
call-keeps s (Take id (Ok (taking.Batch ms))) h = record { deliveries = refl; closed = refl; failed = refl }
call-keeps s (Take id (Ok taking.Empty)) h = same-here s
call-keeps s (Take id (Ok taking.Over)) h = same-here s
call-keeps s (Take id (Ok taking.Gone)) h = same-here s
call-keeps s (Take id (Err f)) h = same-here s
call-keeps s (HangUpEvent id (Ok x)) h = record { deliveries = refl; closed = refl; failed = refl }
call-keeps s (HangUpEvent id (Err f)) h = same-here s
call-keeps s (NextStatement (Ok n)) h = record { deliveries = refl; closed = refl; failed = refl }
call-keeps s (NextStatement (Err f)) h = same-here s
call-keeps s (NextPortal (Ok n)) h = record { deliveries = refl; closed = refl; failed = refl }
call-keeps s (NextPortal (Err f)) h = same-here s
call-keeps s (CatalogEvent call) h = record { deliveries = refl; closed = refl; failed = refl }
call-keeps s (NextOut r) h = absurd h
call-keeps s (Deliver batch complete r) h = absurd h
call-keeps s (CloseRequests r) h = absurd h
call-keeps s (Fail r) h = absurd h

step-calls : {T : Type 0} (stamp : Stamp) (d : Dialogue T) (id : ℕ) (e : Event) (d' : Dialogue T) (id' : ℕ) → Steps stamp d id e d' id' → IsCall e
step-calls stamp d id (Book given part copying r) d' id' st = tt
step-calls stamp d id (PutEvent which part r) d' id' st = tt
step-calls stamp d id (EndCopy which part r) d' id' st = tt
step-calls stamp d id (Take which r) d' id' st = tt
step-calls stamp d id (HangUpEvent which r) d' id' st = tt
step-calls stamp d id (NextStatement r) d' id' st = tt
step-calls stamp d id (NextPortal r) d' id' st = tt
step-calls stamp d id (CatalogEvent call) d' id' st = tt
step-calls stamp (Answer r) id (NextOut o) d' id' st = absurd st
step-calls stamp (Ask c p d) id (NextOut o) d' id' st = absurd st
step-calls stamp (Send p refused d) id (NextOut o) d' id' st = absurd st
step-calls stamp (Leave sent d) id (NextOut o) d' id' st = absurd st
step-calls stamp (Read cleanup decides next) id (NextOut o) d' id' st = absurd st
step-calls stamp (Put cleanup p d) id (NextOut o) d' id' st = absurd st
step-calls stamp (Finish p d) id (NextOut o) d' id' st = absurd st
step-calls stamp (Close p d) id (NextOut o) d' id' st = absurd st
step-calls stamp (HangUp d) id (NextOut o) d' id' st = absurd st
step-calls stamp (Call q refused next) id (NextOut o) d' id' (reply, told, is, same) = absurd (told-asks q (NextOut o) reply told)
step-calls stamp (Hear next) id (NextOut o) d' id' st = absurd st
step-calls stamp (Answer r) id (Deliver batch complete o) d' id' st = absurd st
step-calls stamp (Ask c p d) id (Deliver batch complete o) d' id' st = absurd st
step-calls stamp (Send p refused d) id (Deliver batch complete o) d' id' st = absurd st
step-calls stamp (Leave sent d) id (Deliver batch complete o) d' id' st = absurd st
step-calls stamp (Read cleanup decides next) id (Deliver batch complete o) d' id' st = absurd st
step-calls stamp (Put cleanup p d) id (Deliver batch complete o) d' id' st = absurd st
step-calls stamp (Finish p d) id (Deliver batch complete o) d' id' st = absurd st
step-calls stamp (Close p d) id (Deliver batch complete o) d' id' st = absurd st
step-calls stamp (HangUp d) id (Deliver batch complete o) d' id' st = absurd st
step-calls stamp (Call q refused next) id (Deliver batch complete o) d' id' (reply, told, is, same) = absurd (told-asks q (Deliver batch complete o) reply told)
step-calls stamp (Hear next) id (Deliver batch complete o) d' id' st = absurd st
step-calls stamp (Answer r) id (CloseRequests o) d' id' st = absurd st
step-calls stamp (Ask c p d) id (CloseRequests o) d' id' st = absurd st
step-calls stamp (Send p refused d) id (CloseRequests o) d' id' st = absurd st
step-calls stamp (Leave sent d) id (CloseRequests o) d' id' st = absurd st
step-calls stamp (Read cleanup decides next) id (CloseRequests o) d' id' st = absurd st
step-calls stamp (Put cleanup p d) id (CloseRequests o) d' id' st = absurd st
step-calls stamp (Finish p d) id (CloseRequests o) d' id' st = absurd st
step-calls stamp (Close p d) id (CloseRequests o) d' id' st = absurd st
step-calls stamp (HangUp d) id (CloseRequests o) d' id' st = absurd st
step-calls stamp (Call q refused next) id (CloseRequests o) d' id' (reply, told, is, same) = absurd (told-asks q (CloseRequests o) reply told)
step-calls stamp (Hear next) id (CloseRequests o) d' id' st = absurd st
step-calls stamp (Answer r) id (Fail o) d' id' st = absurd st
step-calls stamp (Ask c p d) id (Fail o) d' id' st = absurd st
step-calls stamp (Send p refused d) id (Fail o) d' id' st = absurd st
step-calls stamp (Leave sent d) id (Fail o) d' id' st = absurd st
step-calls stamp (Read cleanup decides next) id (Fail o) d' id' st = absurd st
step-calls stamp (Put cleanup p d) id (Fail o) d' id' st = absurd st
step-calls stamp (Finish p d) id (Fail o) d' id' st = absurd st
step-calls stamp (Close p d) id (Fail o) d' id' st = absurd st
step-calls stamp (HangUp d) id (Fail o) d' id' st = absurd st
step-calls stamp (Call q refused next) id (Fail o) d' id' (reply, told, is, same) = absurd (told-asks q (Fail o) reply told)
step-calls stamp (Hear next) id (Fail o) d' id' st = absurd st

-- all that a command did in a turn
pub own-keep : {T : Type 0} (s : State) (d : Dialogue T) (id : ℕ) (ds : List Deed) (q : Dialogue T) (end : ℕ) → Leads d id ds q end → SameEngine s (after_all s (events_of ds))
own-keep s d id [] q end l = same-here s
own-keep s d id (a ∷ ds) q end (mid, n, st, l) =
    let one = call-keeps s a.event (step-calls a.stamp d id a.event mid n st) in
    let more = own-keep (after s a.event) mid n ds q end l in
    record { deliveries = more.deliveries ∙ one.deliveries; closed = more.closed ∙ one.closed; failed = more.failed ∙ one.failed }
