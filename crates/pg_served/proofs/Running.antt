-- A session over a link that was just made to a server, or to a machine.
use Rattle.std.proofs.Common.{◌≡◌, ℕ, true, List, [], ◌++◌, Ok, Err, refl, sym, ap, ◌∙◌, subst}
use Rattle.std.specs.Prelude.{IfOk, map}
use Rattle.std.specs.List.{concat}
use Rattle.pg_promises.specs.Causes.{Call}
use Rattle.pg_promises.specs.EndedWell.{Session, EndedWell, startup_of}
use Rattle.pg_spec.specs.Book.{wire}
use Rattle.pg_spec.specs.Links.{LinkView, OfBytes}
use Rattle.pg_spec.specs.Report.{Report}
use Rattle.pg_wire.specs.LinkCalls.{Continues}
use Rattle.pg_machine.specs.Serving.{joined}
use Rattle.pg_machine.specs.Sessions.{begun, frames_of}
use Rattle.pg_machine.specs.Machines.{Table, IsMachine}
use Rattle.pg_machine.specs.Machines as machines
use Rattle.pg_machine.specs.MachineLinks as machine_links
use Rattle.pg_machine.proofs.SoundLaws.{machine-SoundAlong}
use Rattle.pg_server.specs.ByteLists.{is_ended}
use Rattle.pg_server.specs.Handlers.{Step, service_of}
use Rattle.pg_server.specs.ServerLinks as server_links
use Rattle.pg_server.specs.Servers.{new_heard}
use Rattle.pg_server.specs.Startups.{is_startup}
use Rattle.pg_tool.specs.SessionContract.{IsEndedWell, SessionContract, SessionResult, session_of}
use Rattle.pg_served.specs.OneAtATime.{AsksInRequests, IsOneAtATime}
use Rattle.pg_served.specs.Runs.{Asked, IsNewMachine, IsNewServer, MachineOneAtATime, RanOneAtATime, ServesOneAtATime, call_over_machine, call_over_server}
use Rattle.pg_served.proofs.Crossed.{ended-by-Terminate, machine-said, server-said}
use Rattle.pg_served.proofs.Requests.{ask-queries, queries-asked}
use Rattle.pg_served.proofs.Serving.{IsServed, served-session}
use Rattle.pg_served.proofs.Sessions.{alone-session}

-- P of a session, by what its link told before and behind it
abbrev Follows : (given taken : LinkView) → (List ℕ → List ℕ → Type 0) → (List ℕ → List ℕ → Type 0) → Type 0
Follows before after P Q = Continues before after → OfBytes before after P → OfBytes before after Q

follows-same : (before after from to : LinkView) (P Q : List ℕ → List ℕ → Type 0) → before ≡ from → after ≡ to → Follows from to P Q → Follows before after P Q
follows-same before after from to P Q b a h =
    subst (λ (x : LinkView). Follows x after P Q) (sym b) (subst (λ (x : LinkView). Follows from x P Q) (sym a) h)

-- ---- a server

over-server : {S : Type 0} (step : Step S) (state : S) (startup : List ℕ) (cut room : ℕ) (after : server_links.Served S) (s : Session) →
    is_startup startup ≡ true → AsksInRequests (service_of step) state s.report.book →
    Continues (server_links.link_of step (server_links.new_link (new_heard state startup) cut room)) (server_links.link_of step after) →
    EndedWell (record s { given = after.crossed.given }) after.crossed.taken → IsOneAtATime (service_of step) state startup (record s { given = after.crossed.given })
over-server {S = S} step state startup cut room after s form asks goes ended =
    let given : List ℕ = after.crossed.given in
    let taken : List ℕ = after.crossed.taken in
    let served : IsServed step state startup (record s { given = given }) taken
    = served-session step state startup (record s { given = given }) taken after.crossed.due ended form
    (server-said step state startup cut room after goes (ap is_ended ended.sent ∙ ended-by-Terminate (concat (startup_of (record s { given = given })).frames ++ wire s.report.book))) asks in
    alone-session (service_of step) state startup (record s { given = given }) taken ended form served.over served.sound asks

pub ran-server : {S : Type 0} (step : Step S) (old new : server_links.Served S) (call : Call) (report : Report) (state : S) (startup : List ℕ) →
    call.before ≡ server_links.link_of step old → call.after ≡ server_links.link_of step new → Continues call.before call.after →
    IsEndedWell call report → IsNewServer old state startup → AsksInRequests (service_of step) state report.book →
    RanOneAtATime (service_of step) state startup call report
ran-server {S = S} step old new call report state startup before_is after_is goes (s, means, ended) made asks =
    let from = server_links.link_of step (server_links.new_link (new_heard state startup) made.cut made.room) in
    let before : call.before ≡ from = before_is ∙ ap (server_links.link_of step) made.link_is in (
      s,
      means,
      follows-same call.before call.after from (server_links.link_of step new)
          (λ g t. EndedWell (session_of call s g report) t) (λ g t. IsOneAtATime (service_of step) state startup (session_of call s g report)) before after_is
          (λ goes ended. over-server step state startup made.cut made.room new (session_of call s [] report) made.startup_is asks goes ended) goes ended,
    )

-- ---- a machine

over-machine : (table : Table) (startup : List ℕ) (cut room : ℕ) (after : machine_links.Served) (s : Session) →
    IsMachine table → is_startup startup ≡ true → AsksInRequests (machines.service_of table) 0 s.report.book →
    Continues (machine_links.link_of (machine_links.new_link table startup cut room)) (machine_links.link_of after) →
    EndedWell (record s { given = after.given }) after.taken → IsOneAtATime (machines.service_of table) 0 startup (record s { given = after.given })
over-machine table startup cut room after s is form asks goes ended =
    alone-session (machines.service_of table) 0 startup (record s { given = after.given }) after.taken ended form
    (record { due = machine_links.due_in after; in_all = machine-said table startup cut room after goes })
    (machine-SoundAlong table is (begun 0) (joined (map frames_of s.report.book))) asks

pub ran-machine : (table : Table) (startup : List ℕ) (old new : machine_links.Served) (call : Call) (report : Report) →
    call.before ≡ machine_links.link_of old → call.after ≡ machine_links.link_of new → Continues call.before call.after →
    IsEndedWell call report → IsMachine table → IsNewMachine old table startup → is_startup startup ≡ true → AsksInRequests (machines.service_of table) 0 report.book →
    RanOneAtATime (machines.service_of table) 0 startup call report
ran-machine table startup old new call report before_is after_is goes (s, means, ended) is made form asks =
    let from = machine_links.link_of (machine_links.new_link table startup made.cut made.room) in (
      s,
      means,
      follows-same call.before call.after from (machine_links.link_of new)
          (λ g t. EndedWell (session_of call s g report) t) (λ g t. IsOneAtATime (machines.service_of table) 0 startup (session_of call s g report))
          (before_is ∙ ap machine_links.link_of made.link_is) after_is
          (λ goes ended. over-machine table startup made.cut made.room new (session_of call s [] report) is form asks goes ended) goes ended,
    )

-- ---- sessions of simple queries

pub serves-alone : {S : Type 0} (step : Step S) (asked : Asked) (old new : server_links.Served S) (result : SessionResult) → SessionContract (call_over_server step asked old new) result →
    IfOk result (ServesOneAtATime step asked old new)
serves-alone step asked old new (Err failure) contract = tt
serves-alone step asked old new (Ok report) contract = λ state startup made.
    let call : Call = call_over_server step asked old new in
    let ran = contract.has_run in
    ran-server step old new call report state startup refl refl contract.link contract.ended_well made
    (queries-asked (service_of step) state report.book (ask-queries call.scripts call.turns report ran.0 ran.1))

pub machine-alone : (asked : Asked) (old new : machine_links.Served) (result : SessionResult) → IsMachine old.table → SessionContract (call_over_machine asked old new) result →
    IfOk result (MachineOneAtATime asked old new)
machine-alone asked old new (Err failure) is contract = tt
machine-alone asked old new (Ok report) is contract = λ table startup made form.
    let call : Call = call_over_machine asked old new in
    let ran = contract.has_run in
    ran-machine table startup old new call report refl refl contract.link contract.ended_well (subst IsMachine (ap (λ (m : machine_links.Served). m.table) made.link_is) is) made form
    (queries-asked (machines.service_of table) 0 report.book (ask-queries call.scripts call.turns report ran.0 ran.1))
