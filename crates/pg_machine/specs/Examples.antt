-- Worked tables.
use Rattle.std.specs.Prelude.{ℕ, List, [], ◌∷◌, ◌++◌, true, false, codes, Result, Ok, Err, map, pos}
use Rattle.pg_spec.specs.Faults.{FrameFault}
use Rattle.pg_spec.specs.Frames.{tagged, query_frame, parse_frame, describe_frame, bind_frame, execute_frame, copy_data_frame, sync_frame, flush_frame, copy_done_frame}
use Rattle.pg_spec.specs.RawMessages.{messages}
use Rattle.pg_machine.specs.Serving.{one_at_a_time}
use Rattle.pg_machine.specs.Sessions.{begun, spoken}
use Rattle.pg_machine.specs.declared.machine.MachineRow.{MachineRow}
use Rattle.pg_machine.specs.Machines.{Table, service_of}

abbrev pub framed : Result (List ℕ) FrameFault → List ℕ
framed (Ok bytes) = bytes
framed (Err fault) = []

-- ERROR 42601 bad
abbrev pub an_error : List ℕ
an_error = tagged 69 (codes "SERROR" ++ 0 ∷ codes "C42601" ++ 0 ∷ codes "Mbad" ++ 0 ∷ 0 ∷ [])

-- no rows
abbrev pub refuses_all : Table
refuses_all = record { rows = []; refusal = an_error }

-- BindComplete, CopyInResponse without columns
abbrev pub bound : List ℕ
bound = tagged 50 []

abbrev pub copying : List ℕ
copying = tagged 71 (0 ∷ 0 ∷ 0 ∷ [])

abbrev pub row : List ℕ → List ℕ → MachineRow
row frame reply = record { state = 0; frame = frame; next = 0; reply = reply; opens = false }

-- a copy whose item "1" is refused
abbrev pub refuses_one : Table
refuses_one = record {
  rows =
      row (framed (parse_frame (codes "s0") (codes "COPY") [])) (tagged 49 [])
      ∷ row (framed (describe_frame 83 (codes "s0"))) (tagged 116 (0 ∷ 0 ∷ []) ++ tagged 110 [])
      ∷ row (framed (bind_frame [] (codes "s0") [] [] (pos 1))) bound
      ∷ record { state = 0; frame = framed (execute_frame [] (pos 0)); next = 0; reply = copying; opens = true }
      ∷ row (framed (copy_data_frame (codes "1"))) an_error
      ∷ [];
  refusal = an_error;
}

abbrev pub prepare_bytes : List ℕ
prepare_bytes = framed (parse_frame (codes "s0") (codes "COPY") []) ++ framed (describe_frame 83 (codes "s0")) ++ sync_frame

abbrev pub copy_bytes : List ℕ
copy_bytes = framed (bind_frame [] (codes "s0") [] [] (pos 1)) ++ framed (execute_frame [] (pos 0)) ++ flush_frame
    ++ framed (copy_data_frame (codes "1")) ++ copy_done_frame ++ sync_frame

-- `simple "a"`, a copy of a statement that can't be prepared (its prepare alone is sent), `check`
abbrev pub first_requests : List (List ℕ)
first_requests =
    framed (query_frame (codes "a"))
    ∷ prepare_bytes
    ∷ sync_frame
    ∷ []

-- `prepare 0 "COPY"`, `copy_in @0 finish "1"`, `check`
abbrev pub copy_requests : List (List ℕ)
copy_requests =
    prepare_bytes
    ∷ copy_bytes
    ∷ sync_frame
    ∷ []

-- the replies as bytes
abbrev pub fed : Table → List (List ℕ) → List (List ℕ)
fed table requests = map spoken (one_at_a_time (service_of table) (begun 0) (map messages requests))

abbrev pub z : List ℕ
z = tagged 90 (73 ∷ [])
