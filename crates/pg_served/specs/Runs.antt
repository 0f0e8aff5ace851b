-- What a session over a server of the repository promises.
use Rattle.std.specs.Prelude.{◌≡◌, ℕ, true, List, Result, Err, IfOk, IsSome}
use Rattle.pg_types.specs.declared.error.Error.{Error}
use Rattle.pg_promises.specs.Causes.{Call, OfDialogue}
use Rattle.pg_promises.specs.ConnectionStrings.{Means}
use Rattle.pg_spec.specs.Faults.{Io, Link}
use Rattle.pg_spec.specs.Links.{LinkView}
use Rattle.pg_spec.specs.Report.{Report}
use Rattle.pg_spec.specs.Report as said
use Rattle.pg_spec.specs.Settings.{Settings}
use Rattle.pg_session.specs.Sessions.{HasPlayed}
use Rattle.pg_table.specs.Headlines.{told_in}
use Rattle.pg_table.specs.Table.{table}
use Rattle.pg_text.specs.declared.command.Command.{Command}
use Rattle.pg_text.specs.declared.report.Report as told
use Rattle.pg_machine.specs.Serving.{Service}
use Rattle.pg_machine.specs.Machines as machines
use Rattle.pg_machine.specs.MachineLinks as machine_links
use Rattle.pg_server.specs.Handlers.{Step, service_of}
use Rattle.pg_server.specs.Hearing.{said_to}
use Rattle.pg_server.specs.ServerLinks as server_links
use Rattle.pg_server.specs.Servers.{new_heard}
use Rattle.pg_server.specs.Standings.{unfed}
use Rattle.pg_server.specs.Startups.{is_startup}
use Rattle.pg_tool.specs.Asked.{call_of}
use Rattle.pg_tool.specs.SessionContract.{session_of}
use Rattle.pg_tool.specs.TableContract.{TableContract, table_call, table_result}
use Rattle.pg_served.specs.OneAtATime.{IsOneAtATime}

-- What was asked of a session, with these commands.
pub record AskedOf (C : Type 0) : Type 0 where
  pub config : List ℕ
  pub nonce : List ℕ
  pub scripts : List (List C)
  pub turns : List ℕ
  pub limit : ℕ

-- what was asked of a session of simple queries
abbrev pub Asked : Type 0
Asked = AskedOf said.Command

-- the same, where the scripts are these
abbrev pub with_scripts : AskedOf Command → List (List said.Command) → Asked
with_scripts asked scripts = record { config = asked.config; nonce = asked.nonce; scripts = scripts; turns = asked.turns; limit = asked.limit }

-- the call, over a link that stands so before it and behind it
abbrev pub call_to : Asked → (before after : LinkView) → Call
call_to asked before after = call_of asked.config asked.nonce asked.scripts asked.turns asked.limit before after

-- what any session promises of its link, by what the commands of the table mean
abbrev pub TableSession : AskedOf Command → (before after : LinkView) → Result told.Report Error → Type 0
TableSession asked before after result = TableContract (table_call asked.config asked.nonce asked.scripts asked.turns asked.limit before after) (table_result result)

-- where it answers Ok, what its turns did
abbrev pub WasPlayed : AskedOf Command → (before after : LinkView) → Result told.Report Error → Type 0
WasPlayed asked before after result = IfOk result (λ report. (s : Settings) × Means asked.config s
    × HasPlayed table s asked.nonce asked.scripts asked.turns before after (told_in report))

-- The session was played as asked, with all that any session promises of its link.
pub record IsSession (asked : AskedOf Command) (before after : LinkView) (result : Result told.Report Error) : Type 0 where
  pub by_table : TableSession asked before after result
  pub played : WasPlayed asked before after result

-- in this call the server's replies were those that it gives where it is fed one request at a time
abbrev pub RanOneAtATime : {S : Type 0} → Service S → S → (startup : List ℕ) → Call → Report → Type 0
RanOneAtATime service begins startup call report = OfDialogue call (λ s g t. IsOneAtATime service begins startup (session_of call s g report))

-- ---- a server

-- the call, over a link to a server
abbrev pub call_over_server : {S : Type 0} → Step S → Asked → (old new : server_links.Served S) → Call
call_over_server step asked old new = call_to asked (server_links.link_of step old) (server_links.link_of step new)

-- The link was just made, its server was fed with nothing, and this is what the server says to the startup frame, in form:
-- AuthenticationOk, then BackendKeyData, ParameterStatus and NoticeResponse in any number, then ReadyForQuery.
pub record IsNewServer {S : Type 0} (link : server_links.Served S) (state : S) (startup : List ℕ) : Type 0 where
  pub cut : ℕ
  pub room : ℕ
  pub link_is : link ≡ server_links.new_link (new_heard state startup) cut room
  pub startup_is : is_startup startup ≡ true

-- Where the link was just made, the server's replies are those that it gives where it is fed one request at a time.
abbrev pub ServesOneAtATime : {S : Type 0} → Step S → Asked → (old new : server_links.Served S) → Report → Type 0
ServesOneAtATime {S} step asked old new report = (state : S) (startup : List ℕ) → IsNewServer old state startup →
    RanOneAtATime (service_of step) state startup (call_over_server step asked old new) report

-- the session fails for its link only where the server has a fault
abbrev pub FailsByServer : {S R : Type 0} → (new : server_links.Served S) → Result R Error → Type 0
FailsByServer new result = result ≡ Err (Io Link) → IsSome new.fault

-- where the link was just made, its fault is the one for which the server stops at the bytes that were taken
abbrev pub HasItsFault : {S : Type 0} → Step S → (old new : server_links.Served S) → Type 0
HasItsFault {S} step old new = (state : S) (startup : List ℕ) → IsNewServer old state startup →
    new.fault ≡ (said_to step (unfed state startup) new.crossed.taken).fault

-- ---- a machine

-- the call, over a link to a machine
abbrev pub call_over_machine : Asked → (old new : machine_links.Served) → Call
call_over_machine asked old new = call_to asked (machine_links.link_of old) (machine_links.link_of new)

-- The link was just made to this machine, with this startup.
pub record IsNewMachine (link : machine_links.Served) (table : machines.Table) (startup : List ℕ) : Type 0 where
  pub cut : ℕ
  pub room : ℕ
  pub link_is : link ≡ machine_links.new_link table startup cut room

-- Where the link was just made and the startup is in form, the machine's replies are those that it gives where it is fed one request
-- at a time.
abbrev pub MachineOneAtATime : Asked → (old new : machine_links.Served) → Report → Type 0
MachineOneAtATime asked old new report = (table : machines.Table) (startup : List ℕ) → IsNewMachine old table startup → is_startup startup ≡ true →
    RanOneAtATime (machines.service_of table) 0 startup (call_over_machine asked old new) report
