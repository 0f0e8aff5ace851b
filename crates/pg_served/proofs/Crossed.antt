-- What a link that was just made gave, by what it took.
use Rattle.std.proofs.Common.{◌≡◌, ℕ, Bool, false, List, [], ◌∷◌, ◌++◌, refl, sym, ap, ◌∙◌, append-nil}
use Rattle.std.proofs.lemmas.Option.{same_Some}
use Rattle.pg_spec.specs.Frames.{terminate_frame}
use Rattle.pg_wire.specs.LinkCalls.{Continues}
use Rattle.pg_machine.specs.Sessions.{gives}
use Rattle.pg_machine.specs.Machines.{Table}
use Rattle.pg_machine.specs.Machines as machines
use Rattle.pg_machine.specs.MachineLinks as machine_links
use Rattle.pg_server.specs.declared.session.Stage.TheVariants.{Opening}
use Rattle.pg_server.specs.ByteLists.{but_last, is_ended}
use Rattle.pg_server.specs.Handlers.{Step}
use Rattle.pg_server.specs.Hearing.{said_to}
use Rattle.pg_server.specs.ServerLinks as server_links
use Rattle.pg_server.specs.Servers.{new_heard}
use Rattle.pg_server.specs.Standings.{unfed}
use Rattle.pg_server.proofs.ByteLaws.{ended-behind}
use Rattle.pg_server.proofs.FaultCourseLaws.{told_if}
use Rattle.pg_server.proofs.SettledLaws.{none-settled, settled-silent}

-- with what is due it is what the server says to all that was taken
pub server-said : {S : Type 0} (step : Step S) (state : S) (startup : List ℕ) (cut room : ℕ) (after : server_links.Served S) →
    Continues (server_links.link_of step (server_links.new_link (new_heard state startup) cut room)) (server_links.link_of step after) → is_ended after.crossed.taken ≡ false →
    after.crossed.given ++ after.crossed.due ≡ (said_to step (unfed state startup) after.crossed.taken).said
server-said {S = S} step state startup cut room after goes bytes =
    let taken : List ℕ = after.crossed.taken in
    let from : server_links.Served S = server_links.new_link (new_heard state startup) cut room in
    let quiet : (said_to step (unfed state startup) []).said ≡ [] = settled-silent step (unfed state startup) [] (none-settled Opening) in
    let now : after.crossed.given ++ after.crossed.due ≡ server_links.course_of step after taken = goes.keeps.in_course (sym quiet) in
    let same : server_links.course_of step after taken ≡ server_links.course_of step from taken
    = same_Some (server_links.course_of step after taken) (server_links.course_of step from taken) (goes.keeps.course taken ([], append-nil taken)).1 in
    now ∙ same ∙ ap (λ (t : Bool). told_if step from t taken (but_last taken)) bytes

-- what ends in Terminate ends in a byte
pub ended-by-Terminate : (bytes : List ℕ) → is_ended (bytes ++ terminate_frame) ≡ false
ended-by-Terminate bytes = ended-behind bytes 88 (0 ∷ 0 ∷ 0 ∷ 4 ∷ [])

-- the same of a machine
pub machine-said : (table : Table) (startup : List ℕ) (cut room : ℕ) (after : machine_links.Served) →
    Continues (machine_links.link_of (machine_links.new_link table startup cut room)) (machine_links.link_of after) →
    after.given ++ machine_links.due_in after ≡ gives (machines.service_of table) 0 startup after.taken
machine-said table startup cut room after goes =
    let now : after.given ++ machine_links.due_in after ≡ machine_links.course_of after after.taken = goes.keeps.in_course refl in
    let same : machine_links.course_of after after.taken ≡ gives (machines.service_of table) 0 startup after.taken
    = same_Some (machine_links.course_of after after.taken) (gives (machines.service_of table) 0 startup after.taken) (goes.keeps.course after.taken ([], append-nil after.taken)).1 in
    now ∙ same
