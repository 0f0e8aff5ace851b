-- What the request of a portal's rows wants and reads, in the whole.
use Rattle.std.proofs.Common.{◌≡◌, List, Result, Ok, Err, IfOk, sym, subst}
use Rattle.std.specs.declared.alloc.AllocError.{AllocError}
use Rattle.pg_spec.specs.RawMessages.{RawMessage}
use Rattle.pg_query.specs.Dialogue.{Dialogue, feed_one}
use Rattle.pg_query.specs.Scripts.{GoesOn, IsMessage, IsWanted, cleanup_of, waiting_at}
use Rattle.pg_query.specs.SingleRequests.{refuses_of}
use Rattle.pg_query.specs.declared.desk_call.Cleanup.{Cleanup}
use Rattle.pg_query.specs.declared.script.Want.{Want}
use Rattle.pg_query.specs.declared.script.Want.TheVariants as want
use Rattle.pg_query.specs.declared.script.Action.TheVariants as act
use Rattle.pg_query.specs.declared.single_request.SingleRequest.{SingleRequest}
use Rattle.pg_execute.specs.declared.make.WholeRows.{WholeRows}
use Rattle.pg_execute.specs.declared.result_set.ResultSet.{ResultSet}
use Rattle.pg_execute.specs.declared.rows_reading.RowsReading.{RowsReading}
use Rattle.pg_portals.specs.Querying.{asking, queries_at, queries_refuses, queries_waits}
use Rattle.pg_portals.specs.declared.queries.QueriesPortal.{QueriesPortal}
use Rattle.pg_portals.specs.declared.queries.QueriesPortal.TheVariants.{Asks}

abbrev Asked : Type 0
Asked = SingleRequest (RowsReading WholeRows) ResultSet

-- it stood at this dialogue, and wants this
abbrev AskedGoes : Dialogue ResultSet → Want ResultSet → Asked → Type 0
AskedGoes d w new = GoesOn asking refuses_of (λ s. waiting_at (asking s)) d w new

abbrev Goes : Dialogue ResultSet → Want ResultSet → QueriesPortal → Type 0
Goes d w new = GoesOn queries_at queries_refuses queries_waits d w new

wanted : (new : Asked) (w : Want ResultSet) → IsWanted asking (λ s. waiting_at (asking s)) w new → IsWanted queries_at queries_waits w (Asks new)
wanted new (want.Answer x) h = tt
wanted new (want.Act (act.Ask copying part)) h = tt
wanted new (want.Act (act.Send part)) h = tt
wanted new (want.Act (act.Put offer)) h = tt
wanted new (want.Act (act.Finish part)) h = tt
wanted new (want.Act (act.Close part)) h = tt
wanted new (want.Act act.HangUp) h = tt
wanted new (want.Act (act.Call q)) h = record { waiting = h.waiting; there = h.there }
wanted new want.Read h = record { waiting = h.waiting; there = h.there }

pub rows-go : (new : Asked) (d : Dialogue ResultSet) (w : Want ResultSet) → AskedGoes d w new → Goes d w (Asks new)
rows-go new d w h = record { is = h.is; wanted = wanted new w h.wanted }

rows-ok : (d : Dialogue ResultSet) (r : Result (Want ResultSet) AllocError) (new : Asked) → IfOk r (λ w. AskedGoes d w new) → IfOk r (λ w. Goes d w (Asks new))
rows-ok d (Ok w) new h = rows-go new d w h
rows-ok d (Err e) new h = tt

-- a message for it, and what becomes of it
pub rows-message : (s : QueriesPortal) (a : Asked) → s ≡ Asks a → (m : RawMessage) (r : Result (Want ResultSet) AllocError) (new : Asked) →
    (IsMessage (waiting_at (asking a)) → IfOk r (λ w. AskedGoes (feed_one m (asking a)) w new)) →
    IsMessage (queries_waits s) → IfOk r (λ w. Goes (feed_one m (queries_at s)) w (Asks new))
rows-message s a e m r new g =
    subst (λ (x : QueriesPortal). IsMessage (queries_waits x) → IfOk r (λ w. Goes (feed_one m (queries_at x)) w (Asks new))) (sym e) (λ h. rows-ok (feed_one m (asking a)) r new (g h))

-- what holds of it where it waits for a message, holds of the whole
pub rows-there : {Q : Type 0} (s : QueriesPortal) (a : Asked) → s ≡ Asks a → (IsMessage (waiting_at (asking a)) → Q) → IsMessage (queries_waits s) → Q
rows-there {Q} s a e g = subst (λ (x : QueriesPortal). IsMessage (queries_waits x) → Q) (sym e) g

-- what is left to do
pub rows-left : (Q : List Cleanup → Type 0) (s : QueriesPortal) (a : Asked) → s ≡ Asks a → (IsMessage (waiting_at (asking a)) → Q (cleanup_of (asking a))) →
    IsMessage (queries_waits s) → Q (cleanup_of (queries_at s))
rows-left Q s a e g = subst (λ (x : QueriesPortal). IsMessage (queries_waits x) → Q (cleanup_of (queries_at x))) (sym e) g

-- it stood where its request does
pub begun : (old : QueriesPortal) (d : Dialogue ResultSet) → d ≡ queries_at old → (r : Result (Want ResultSet) AllocError) (new : QueriesPortal) → IfOk r (λ w. Goes d w new) → IfOk r (λ w. Goes (queries_at old) w new)
begun old d e r new h = subst (λ (x : Dialogue ResultSet). IfOk r (λ w. Goes x w new)) e h
