-- Worked tables, computed.
use Rattle.std.proofs.Common.{◌≡◌, [], ◌∷◌, ◌++◌, refl, false}
use Rattle.std.specs.Prelude.{codes, pos}
use Rattle.pg_spec.specs.Frames.{tagged, describe_frame, query_frame, bind_frame, execute_frame, sync_frame}
use Rattle.pg_spec.specs.RawMessages.{messages}
use Rattle.pg_machine.specs.Serving.{served}
use Rattle.pg_machine.specs.Sessions.{begun}
use Rattle.pg_machine.specs.Machines.{service_of}
use Rattle.pg_machine.specs.Machines.{IsMachine, is_row}
use Rattle.pg_machine.specs.Examples.{refuses_all, refuses_one, first_requests, copy_requests, fed, an_error, bound, copying, z, row, framed}

first-fed : fed refuses_all first_requests ≡ (an_error ++ z) ∷ (an_error ++ z) ∷ z ∷ []
first-fed = refl

copy-fed : fed refuses_one copy_requests ≡ (tagged 49 [] ++ tagged 116 (0 ∷ 0 ∷ []) ++ tagged 110 [] ++ z) ∷ (bound ++ copying ++ an_error ++ z) ∷ z ∷ []
copy-fed = refl

first-machine : IsMachine refuses_all
first-machine = record { rows = refl; refusal = refl }

copy-machine : IsMachine refuses_one
copy-machine = record { rows = refl; refusal = refl }

-- a reply may hold no ReadyForQuery
bad-row : is_row (row [] z) ≡ false
bad-row = refl

-- a Query behind another frame gets no ReadyForQuery where that was refused: it must stand alone to be a request
no-ready : (served (service_of refuses_all) (begun 0) (messages (framed (describe_frame 83 (codes "s0")) ++ framed (query_frame (codes "a"))))).reply ≡ messages an_error
no-ready = refl

-- so does a request that opens a copy and ends in Sync alone
never-ready : (served (service_of refuses_one) (begun 0) (messages (framed (bind_frame [] (codes "s0") [] [] (pos 1)) ++ framed (execute_frame [] (pos 0)) ++ sync_frame))).reply
    ≡ messages (bound ++ copying)
never-ready = refl
