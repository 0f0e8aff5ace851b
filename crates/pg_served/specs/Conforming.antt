-- When a session over a server of the repository must end well, in the words of its caller.
use Rattle.std.specs.Prelude.{◌≡◌, ℕ, ◌≤◌, ◌<◌, Bool, List, ◌++◌, length, map, None, All, IsSome, IsTrue}
use Rattle.std.specs.List.{list_all}
use Rattle.std.specs.Str.{is_utf8}
use Rattle.pg_promises.specs.Causes.{Call, NeedsNoTls}
use Rattle.pg_promises.specs.ConnectionStrings.{Means}
use Rattle.pg_promises.specs.Promises.{EndsWell, InScriptOrder}
use Rattle.pg_spec.specs.Asides.{is_readable}
use Rattle.pg_spec.specs.Book.{Booking, wire}
use Rattle.pg_spec.specs.Frames.{terminate_frame}
use Rattle.pg_spec.specs.Passwords.{is_nonce}
use Rattle.pg_spec.specs.RawMessages.{RawMessage, messages}
use Rattle.pg_spec.specs.Report.{Command, Report, Simple}
use Rattle.pg_spec.specs.Settings.{Settings}
use Rattle.pg_machine.specs.Serving.{Service, joined, served}
use Rattle.pg_machine.specs.Sessions.{IsStartup, begun, frames_of, spoken}
use Rattle.pg_machine.specs.Machines as machines
use Rattle.pg_machine.specs.MachineLinks as machine_links
use Rattle.pg_server.specs.Handlers.{Step, service_of}
use Rattle.pg_server.specs.Hearing.{said_to}
use Rattle.pg_server.specs.ServerLinks as server_links
use Rattle.pg_server.specs.Standings.{unfed}
use Rattle.pg_tool.specs.SessionContract.{SessionResult}
use Rattle.pg_served.specs.Runs.{Asked, IsNewMachine, IsNewServer, call_over_machine, call_over_server}

-- what the client owes: the settings name a user and require no TLS, and the nonce is in form
pub record IsValid (call : Call) (s : Settings) : Type 0 where
  pub user : IsSome s.user
  pub nonce : IsTrue (is_nonce call.nonce)
  pub no_tls : NeedsNoTls s

-- these requests may be booked: each handle's are those of its script, from the front
pub record MayBook (scripts : List (List Command)) (book : List Booking) : Type 0 where
  pub owners : All (λ b. b.stamp.owner < length scripts) book
  pub order : InScriptOrder scripts book

-- what a server replies to these requests
abbrev pub reply_to : {S : Type 0} → Service S → S → List Booking → List RawMessage
reply_to service begins book = (served service (begun begins) (joined (map frames_of book))).reply

-- Each notice, notification and parameter report that it gives can be read, and all that it gives is within the limit.
pub record GivesWell {S : Type 0} (service : Service S) (begins : S) (startup : List ℕ) (limit : ℕ) (book : List Booking) : Type 0 where
  pub readable : IsTrue (list_all is_readable (messages startup ++ reply_to service begins book))
  pub within : length (startup ++ spoken (reply_to service begins book)) ≤ limit

-- what such a server owes: a startup that logs in with these settings and asks for nothing, and then as much for any requests that
-- may be booked
pub record Conforms {S : Type 0} (call : Call) (s : Settings) (service : Service S) (begins : S) (startup : List ℕ) : Type 0 where
  pub starts : IsStartup s call.nonce startup
  pub gives : (book : List Booking) → MayBook call.scripts book → GivesWell service begins startup call.limit book

-- the text of a command
abbrev pub text_of : Command → List ℕ
text_of (Simple text take) = text

-- each text of the scripts is UTF-8
abbrev pub are_texts : List (List Command) → Bool
are_texts scripts = list_all (λ script. list_all (λ command. is_utf8 (text_of command)) script) scripts

-- it has no fault for what a session with such requests sends
abbrev pub HasNoFault : {S : Type 0} → Step S → S → (startup frame : List ℕ) → List Booking → Type 0
HasNoFault step state startup frame book = (said_to step (unfed state startup) (frame ++ wire book ++ terminate_frame)).fault ≡ None

-- Over a link that was just made, valid input to a server that conforms and has no fault for any such requests ends well.
abbrev pub ServerMustEndWell : {S : Type 0} → Step S → Asked → (old new : server_links.Served S) → SessionResult → Type 0
ServerMustEndWell {S} step asked old new result = (state : S) (startup : List ℕ) (s : Settings) → IsNewServer old state startup →
    Means asked.config s → IsValid (call_over_server step asked old new) s →
    (c : Conforms (call_over_server step asked old new) s (service_of step) state startup) →
    ((book : List Booking) → MayBook (call_over_server step asked old new).scripts book → HasNoFault step state startup c.starts.frame book) →
    EndsWell result

-- Where the link was just made, the startup asks for nothing of the settings, and the server has no fault for the requests that were
-- booked, the link has none behind an answer of Ok.
abbrev pub HasNoneBehind : {S : Type 0} → Step S → Asked → (old new : server_links.Served S) → Report → Type 0
HasNoneBehind {S} step asked old new report = (state : S) (startup : List ℕ) (s : Settings) → IsNewServer old state startup →
    Means asked.config s → (starts : IsStartup s asked.nonce startup) → HasNoFault step state startup starts.frame report.book →
    new.fault ≡ None

-- The same of a machine, which never has a fault.
abbrev pub MachineMustEndWell : Asked → (old new : machine_links.Served) → SessionResult → Type 0
MachineMustEndWell asked old new result = (table : machines.Table) (startup : List ℕ) (s : Settings) → IsNewMachine old table startup →
    Means asked.config s → IsValid (call_over_machine asked old new) s →
    Conforms (call_over_machine asked old new) s (machines.service_of table) 0 startup → EndsWell result
