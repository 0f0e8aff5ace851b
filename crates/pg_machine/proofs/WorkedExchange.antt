-- A whole session over a table: the premises of the law are met.
use Rattle.std.proofs.Common.{◌≡◌, ℕ, List, [], ◌∷◌, ◌++◌, refl, inl}
use Rattle.std.specs.Prelude.{codes, map}
use Rattle.pg_spec.specs.Book.{Booking}
use Rattle.pg_spec.specs.Settings.{only_user, Settings, startup_parameters}
use Rattle.pg_spec.specs.Frames.{tagged, query_frame, terminate_frame, startup_frame}
use Rattle.pg_spec.specs.RawMessages.{messages, groups, sync_of}
use Rattle.pg_spec.specs.Startup.{session_part}
use Rattle.pg_machine.specs.Machines.{service_of}
use Rattle.pg_machine.specs.Sessions.{IsExchange, IsStartup, IsOver, AreRequests, KeepsRules, alone}
use Rattle.pg_machine.specs.Examples.{framed, refuses_all, an_error, z}
use Rattle.pg_machine.proofs.SessionLaws.{session-alone}

abbrev s : Settings
s = only_user (codes "a")

abbrev bytes : List ℕ
bytes = tagged 82 (0 ∷ 0 ∷ 0 ∷ 0 ∷ []) ++ z

abbrev query : List ℕ
query = framed (query_frame (codes "a"))

abbrev book : List Booking
book = record { stamp = record { owner = 0; command = 0; turn = 0 }; parts = query ∷ [] } ∷ []

abbrev frame : List ℕ
frame = framed (startup_frame (startup_parameters s))

abbrev given : List ℕ
given = bytes ++ (an_error ++ z)

abbrev taken : List ℕ
taken = frame ++ query ++ terminate_frame

exchange : IsExchange s [] book given taken
exchange = record { started = (2, refl); one_group_each = refl; whole_groups = refl; sent = refl }

startup_is : IsStartup s [] bytes
startup_is = record { whole = refl; frame = frame; done = refl }

over : IsOver (service_of refuses_all) 0 bytes given taken
over = record { due = []; in_all = refl }

are : AreRequests book
are = ((refl, inl (record { frame = record { tag = 81; body = 97 ∷ 0 ∷ [] }; is = refl; query = refl })), tt)

rules : KeepsRules (service_of refuses_all) 0 book
rules = record { sound = (refl, tt); only_copies_open = (λ e. absurd cc, tt) }

-- so the law says of it what one can see
answered_alone : groups (session_part s [] (messages given)) ≡ map sync_of (alone (service_of refuses_all) 0 book)
answered_alone = session-alone (service_of refuses_all) 0 s [] book bytes given taken exchange startup_is over are rules
