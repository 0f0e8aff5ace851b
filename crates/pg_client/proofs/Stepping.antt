-- A script that has asked steps as the request that it asked.
use Rattle.std.proofs.Common.{List, IfOk, Result, Ok, Err}
use Rattle.std.specs.declared.alloc.AllocError.{AllocError}
use Rattle.pg_query.specs.Dialogue.{Dialogue}
use Rattle.pg_query.specs.Scripts.{GoesOn, IsWanted, waiting_at}
use Rattle.pg_query.specs.SingleRequests as one_request
use Rattle.pg_query.specs.declared.script.Action.TheVariants as act
use Rattle.pg_query.specs.declared.script.Want.{Want}
use Rattle.pg_query.specs.declared.script.Want.TheVariants as want
use Rattle.pg_query.specs.declared.simple_message.SimpleMessage.{SimpleMessage}
use Rattle.pg_query.specs.declared.single_request.SingleRequest.{SingleRequest}
use Rattle.pg_client.specs.Asking.{dialogue_of_done, dialogue_of_simple, refuses_of, waits_of_done, waits_of_simple}
use Rattle.pg_client.specs.Done as done
use Rattle.pg_client.specs.Simple as simple
use Rattle.pg_client.specs.declared.done_reading.DoneReading.{DoneReading}
use Rattle.pg_client.specs.declared.done_script.DoneScript.TheVariants as done_script
use Rattle.pg_client.specs.declared.simple_reading.SimpleReading.{SimpleReading}
use Rattle.pg_client.specs.declared.simple_script.SimpleScript.TheVariants as simple_script

-- ---- a simple query

abbrev One : Type 0
One = SingleRequest SimpleReading (List SimpleMessage)

abbrev dialogue_of_one : One → Dialogue (List SimpleMessage)
dialogue_of_one one = one_request.dialogue_of simple.reading_of one

wanted-simple : (w : Want (List SimpleMessage)) (one : One) → IsWanted dialogue_of_one (λ x. waiting_at (dialogue_of_one x)) w one →
    IsWanted dialogue_of_simple waits_of_simple w (simple_script.Asked one)
wanted-simple (want.Answer r) one h = tt
wanted-simple (want.Act (act.Ask copying part)) one h = tt
wanted-simple (want.Act (act.Send part)) one h = tt
wanted-simple (want.Act (act.Put offer)) one h = tt
wanted-simple (want.Act (act.Finish part)) one h = tt
wanted-simple (want.Act (act.Close part)) one h = tt
wanted-simple (want.Act act.HangUp) one h = tt
wanted-simple (want.Act (act.Call q)) one h = record { waiting = h.waiting; there = h.there }
wanted-simple want.Read one h = record { waiting = h.waiting; there = h.there }

goes-simple : (from : Dialogue (List SimpleMessage)) (w : Want (List SimpleMessage)) (one : One) →
    GoesOn dialogue_of_one one_request.refuses_of (λ x. waiting_at (dialogue_of_one x)) from w one →
    GoesOn dialogue_of_simple refuses_of waits_of_simple from w (simple_script.Asked one)
goes-simple from w one h = record { is = h.is; wanted = wanted-simple w one h.wanted }

pub simple-goes-on : (r : Result (Want (List SimpleMessage)) AllocError) (from : Dialogue (List SimpleMessage)) (one : One) →
    IfOk r (λ w. GoesOn dialogue_of_one one_request.refuses_of (λ x. waiting_at (dialogue_of_one x)) from w one) →
    IfOk r (λ w. GoesOn dialogue_of_simple refuses_of waits_of_simple from w (simple_script.Asked one))
simple-goes-on (Ok w) from one h = goes-simple from w one h
simple-goes-on (Err e) from one h = tt

-- ---- a batch, or a check

abbrev Done : Type 0
Done = SingleRequest DoneReading (Unit {0})

abbrev dialogue_of_end : Done → Dialogue (Unit {0})
dialogue_of_end one = one_request.dialogue_of done.reading_of one

wanted-done : (w : Want (Unit {0})) (one : Done) → IsWanted dialogue_of_end (λ x. waiting_at (dialogue_of_end x)) w one →
    IsWanted dialogue_of_done waits_of_done w (done_script.Asked one)
wanted-done (want.Answer r) one h = tt
wanted-done (want.Act (act.Ask copying part)) one h = tt
wanted-done (want.Act (act.Send part)) one h = tt
wanted-done (want.Act (act.Put offer)) one h = tt
wanted-done (want.Act (act.Finish part)) one h = tt
wanted-done (want.Act (act.Close part)) one h = tt
wanted-done (want.Act act.HangUp) one h = tt
wanted-done (want.Act (act.Call q)) one h = record { waiting = h.waiting; there = h.there }
wanted-done want.Read one h = record { waiting = h.waiting; there = h.there }

goes-done : (from : Dialogue (Unit {0})) (w : Want (Unit {0})) (one : Done) →
    GoesOn dialogue_of_end one_request.refuses_of (λ x. waiting_at (dialogue_of_end x)) from w one →
    GoesOn dialogue_of_done refuses_of waits_of_done from w (done_script.Asked one)
goes-done from w one h = record { is = h.is; wanted = wanted-done w one h.wanted }

pub done-goes-on : (r : Result (Want (Unit {0})) AllocError) (from : Dialogue (Unit {0})) (one : Done) →
    IfOk r (λ w. GoesOn dialogue_of_end one_request.refuses_of (λ x. waiting_at (dialogue_of_end x)) from w one) →
    IfOk r (λ w. GoesOn dialogue_of_done refuses_of waits_of_done from w (done_script.Asked one))
done-goes-on (Ok w) from one h = goes-done from w one h
done-goes-on (Err e) from one h = tt
