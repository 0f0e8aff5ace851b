-- A check that has asked steps as the request that it asked.
use Rattle.std.proofs.Common.{IfOk, Result, Ok, Err}
use Rattle.std.specs.declared.alloc.AllocError.{AllocError}
use Rattle.pg_query.specs.Dialogue.{Dialogue}
use Rattle.pg_query.specs.Scripts.{GoesOn, IsWanted, waiting_at}
use Rattle.pg_query.specs.SingleRequests as one_request
use Rattle.pg_query.specs.declared.script.Action.TheVariants as act
use Rattle.pg_query.specs.declared.script.Want.{Want}
use Rattle.pg_query.specs.declared.script.Want.TheVariants as want
use Rattle.pg_query.specs.declared.single_request.SingleRequest.{SingleRequest}
use Rattle.pg_client.specs.ChecksAsking.{dialogue_of_check, refuses_of, waits_of_check}
use Rattle.pg_client.specs.Showing.{reading_of}
use Rattle.pg_client.specs.declared.show_reading.ShowReading.{ShowReading}
use Rattle.pg_client.specs.declared.show_script.ShowScript.TheVariants.{Asked}

abbrev One : Type 0
One = SingleRequest ShowReading (Unit {0})

abbrev dialogue_of_one : One → Dialogue (Unit {0})
dialogue_of_one one = one_request.dialogue_of reading_of one

wanted : (w : Want (Unit {0})) (one : One) → IsWanted dialogue_of_one (λ x. waiting_at (dialogue_of_one x)) w one →
    IsWanted dialogue_of_check waits_of_check w (Asked one)
wanted (want.Answer r) one h = tt
wanted (want.Act (act.Ask copying part)) one h = tt
wanted (want.Act (act.Send part)) one h = tt
wanted (want.Act (act.Put offer)) one h = tt
wanted (want.Act (act.Finish part)) one h = tt
wanted (want.Act (act.Close part)) one h = tt
wanted (want.Act act.HangUp) one h = tt
wanted (want.Act (act.Call q)) one h = record { waiting = h.waiting; there = h.there }
wanted want.Read one h = record { waiting = h.waiting; there = h.there }

pub check-goes-on : (r : Result (Want (Unit {0})) AllocError) (from : Dialogue (Unit {0})) (one : One) →
    IfOk r (λ w. GoesOn dialogue_of_one one_request.refuses_of (λ x. waiting_at (dialogue_of_one x)) from w one) →
    IfOk r (λ w. GoesOn dialogue_of_check refuses_of waits_of_check from w (Asked one))
check-goes-on (Ok w) from one h = record { is = h.is; wanted = wanted w one h.wanted }
check-goes-on (Err e) from one h = tt
