-- Worked sessions, and some that must not end well.
use Rattle.std.specs.Prelude.{ℕ, true, false, List, [], ◌∷◌, ◌++◌, Some, None, codes, pos}
use Rattle.pg_spec.specs.Book.{Booking}
use Rattle.pg_spec.specs.Examples.{hex, accepted, one_row, one_row_items, bad_query, bad_query_error}
use Rattle.pg_spec.specs.Faults.{ZeroByte, Frame, Db, Encode}
use Rattle.pg_spec.specs.Links.{LinkView, Plan, course_of}
use Rattle.pg_spec.specs.Report.{Command, Simple, Items, Failed}
use Rattle.pg_spec.specs.Settings.{Settings, only_user}
use Rattle.pg_spec.specs.SessionText.{SessionText, default_nonce}
use Rattle.pg_spec.specs.SimpleQuery.{Complete}
use Rattle.pg_spec.specs.Stamps.{marked, stamped}
use Rattle.pg_promises.specs.Causes.{Call}
use Rattle.pg_promises.specs.EndedWell.{Session}

-- what the client sends: the startup frame, the query, Terminate
abbrev pub select_one_sent : List ℕ
select_one_sent = hex (codes "00000025 00030000 636c69656e745f656e636f64696e6700 5554463800 7573657200 6100 00 51 0000000d 53454c454354203100 58 00000004")

-- its request, booked in the first turn
abbrev pub select_one_booking : Booking
select_one_booking = record { stamp = stamped 0 0 0; parts = hex (codes "51 0000000d 53454c454354203100") ∷ [] }

-- the whole session: the reply to the query comes in the fourth turn
abbrev pub select_one : Session
select_one = record {
  settings = only_user (codes "a");
  nonce = codes "abcdefghijklmnopqrstuvwx";
  scripts = (Simple (codes "SELECT 1") None ∷ []) ∷ [];
  turns = [];
  given = accepted ++ one_row;
  report = record {
    answers = (Items one_row_items ∷ []) ∷ [];
    asynchronous = [];
    parameters = [];
    process_id = pos 0;
    secret_key = pos 0;
    book = select_one_booking ∷ [];
    trace = marked 0 0 ∷ marked 1 0 ∷ marked 0 0 ∷ marked 1 4 ∷ marked 0 4 ∷ marked 1 4 ∷ [];
    sent = select_one_sent;
  };
}

-- the text of its report
abbrev pub select_one_text : List ℕ
select_one_text = codes "status ok\nprocess 0 0\nanswer 0 0 messages 3\ncolumns \"?column?\"\nrow \"1\"\ncomplete 1\nbook 0 0 0 0 510000000d53454c454354203100\nturn 0 0\nturn 1 0\nturn 0 0\nturn 1 4\nturn 0 4\nturn 1 4\nsent 0000002500030000636c69656e745f656e636f64696e670055544638007573657200610000510000000d53454c4543542031005800000004\n"

-- two clients ask at once, the second one first: request 0 is its
abbrev pub query_bytes : List ℕ
query_bytes = hex (codes "51 0000000d 53454c454354203100")

-- the query of a client, booked in a turn
abbrev pub booked : ℕ → ℕ → Booking
booked owner turn = record { stamp = stamped owner 0 turn; parts = query_bytes ∷ [] }

-- what is sent: both queries, one behind the other
abbrev pub two_clients_sent : List ℕ
two_clients_sent = hex (codes "00000025 00030000 636c69656e745f656e636f64696e6700 5554463800 7573657200 6100 00 51 0000000d 53454c454354203100 51 0000000d 53454c454354203100 58 00000004")

-- the whole session
abbrev pub two_clients : Session
two_clients = record {
  settings = only_user (codes "a");
  nonce = codes "abcdefghijklmnopqrstuvwx";
  scripts = (Simple (codes "SELECT 1") None ∷ []) ∷ (Simple (codes "SELECT 1") None ∷ []) ∷ [];
  turns = 1 ∷ 0 ∷ 2 ∷ 2 ∷ 1 ∷ 0 ∷ [];
  given = accepted ++ hex (codes "43 0000000f 494e534552542030203500 5a0000000549 49 00000004 5a0000000549");
  report = record {
    answers = (Items (Complete 0 ∷ []) ∷ []) ∷ (Items (Complete 5 ∷ []) ∷ []) ∷ [];
    asynchronous = [];
    parameters = [];
    process_id = pos 0;
    secret_key = pos 0;
    book = booked 1 0 ∷ booked 0 1 ∷ [];
    trace = marked 1 0 ∷ marked 0 0 ∷ marked 2 0 ∷ marked 2 4 ∷ marked 1 4 ∷ marked 0 4 ∷ marked 0 4 ∷ marked 1 4 ∷ marked 2 4 ∷ [];
    sent = two_clients_sent;
  };
}

-- the same with the two answers exchanged
abbrev pub exchanged : Session
exchanged = record two_clients {
  report = record two_clients.report { answers = (Items (Complete 5 ∷ []) ∷ []) ∷ (Items (Complete 0 ∷ []) ∷ []) ∷ [] };
}

-- a link of a plan, before its first call
abbrev pub unused : Plan → LinkView
unused plan = record { given = Some []; taken = Some []; plan = Some plan; course = Some (course_of plan); due = Some []; steady = true; promised = false; flushed = false; shut = false; faults = 0; quiet = 0; dry = 0; blocked = 0; lulls = 0; ends = 0 }

-- the call of one client that asks `SELECT 1` over a link of a plan
abbrev pub asked : Plan → Call
asked plan = record {
  config = codes "user=a";
  nonce = codes "abcdefghijklmnopqrstuvwx";
  scripts = (Simple (codes "SELECT 1") None ∷ []) ∷ [];
  turns = [];
  limit = 16777216;
  before = unused plan;
  after = unused plan;
}

-- an entry for each frame that gives the server the turn
abbrev pub plan_of : List (List ℕ) → Plan
plan_of entries = record { entries = entries; ends = false; is_troubled = false }

-- the startup, and the reply
abbrev pub good_plan : Plan
good_plan = plan_of (accepted ∷ one_row ∷ [])

-- a parameter report without a body before the reply
abbrev pub broken_plan : Plan
broken_plan = plan_of (accepted ∷ (hex (codes "53 00000004") ++ one_row) ∷ [])

-- a server that asks for a password, and waits for it
abbrev pub login_plan : Plan
login_plan = plan_of (hex (codes "52 00000008 00000003") ∷ accepted ∷ one_row ∷ [])

-- a server that asks for a password and doesn't wait for it, and then replies before it is asked
abbrev pub hasty_plan : Plan
hasty_plan = plan_of (hex (codes "52 00000008 00000003 520000000800000000 5a0000000549") ∷ one_row ∷ one_row ∷ [])

-- a user and a password
abbrev pub with_password : Settings
with_password = record (only_user (codes "a")) { password = Some (codes "b") }

-- what is sent then
abbrev pub with_password_sent : List ℕ
with_password_sent = hex (codes "00000025 00030000 636c69656e745f656e636f64696e6700 5554463800 7573657200 6100 00 70 00000006 6200 51 0000000d 53454c454354203100 58 00000004")

-- one client with three commands: only the last two have requests
abbrev pub three_book : List Booking
three_book = record { stamp = stamped 0 1 2; parts = hex (codes "51000000066200") ∷ [] }
    ∷ record { stamp = stamped 0 2 4; parts = hex (codes "51000000066300") ∷ [] } ∷ []

-- what is sent
abbrev pub three_sent : List ℕ
three_sent = hex (codes "0000002500030000636c69656e745f656e636f64696e67005554463800757365720061000051000000066200510000000663005800000004")

-- a text that its frame refuses
abbrev pub refused_text : Command
refused_text = Simple (97 ∷ 0 ∷ []) None

-- a reply of which nothing is wanted
abbrev pub nothing_wanted : Command
nothing_wanted = Simple (codes "b") (Some 0)

-- a query that the server refuses
abbrev pub bad_text : Command
bad_text = Simple (codes "c") None

-- the whole session, whose first turn is the connection's
abbrev pub three_commands : Session
three_commands = record {
  settings = only_user (codes "a");
  nonce = codes "abcdefghijklmnopqrstuvwx";
  scripts = (refused_text ∷ nothing_wanted ∷ bad_text ∷ []) ∷ [];
  turns = 9 ∷ 0 ∷ [];
  given = accepted ++ hex (codes "49 00000004 5a0000000549") ++ bad_query;
  report = record {
    answers = (Failed (Encode (Frame ZeroByte)) ∷ Items [] ∷ Failed (Db bad_query_error) ∷ []) ∷ [];
    asynchronous = [];
    parameters = [];
    process_id = pos 0;
    secret_key = pos 0;
    book = three_book;
    trace = marked 9 0 ∷ marked 0 0 ∷ marked 0 0 ∷ marked 1 0 ∷ marked 0 0 ∷ marked 1 2 ∷ marked 0 2 ∷ marked 1 4 ∷ marked 0 4 ∷ marked 1 4 ∷ [];
    sent = three_sent;
  };
}

-- ---- sessions that must not end well

-- the same, where the reply to request 1 is delivered before request 1 is booked
abbrev pub early_reply : Session
early_reply = record three_commands {
  report = record three_commands.report { trace = marked 9 0 ∷ marked 0 0 ∷ marked 0 0 ∷ marked 1 4 ∷ marked 0 4 ∷ marked 1 4 ∷ [] };
}

-- the query of `select_one` is booked in the second turn of its handle
abbrev pub booked_later : Session
booked_later = record select_one { report = record select_one.report { book = booked 0 2 ∷ [] } }

-- both clients ask the same, and one request is made of it
abbrev pub one_for_two : Session
one_for_two = record two_clients { report = record two_clients.report { book = booked 1 0 ∷ [] } }

-- what is sent for `select_one`, with a Sync before the query
abbrev pub synced_first : List ℕ
synced_first = hex (codes "00000025 00030000 636c69656e745f656e636f64696e6700 5554463800 7573657200 6100 00 53 00000004 51 0000000d 53454c454354203100 58 00000004")

-- a notice comes, and isn't handed out
abbrev pub notice_left_out : Session
notice_left_out = record select_one {
  given = accepted ++ hex (codes "4e 00000018 53 4e4f5449434500 43 303030303000 4d 686900 00") ++ one_row;
}

-- a parameter is reported twice, and its first value is told
abbrev pub first_value : Session
first_value = record select_one {
  given = accepted ++ hex (codes "53 00000011 54696d655a6f6e6500 55544300 53 00000011 54696d655a6f6e6500 474d5400") ++ one_row;
  report = record select_one.report { parameters = (codes "TimeZone", codes "UTC") ∷ [] };
}

-- a header whose length is 3 stands behind the last reply
abbrev pub bad_header : Session
bad_header = record select_one { given = accepted ++ one_row ++ hex (codes "5a 00000003") }

-- a parameter report without a body comes, and is skipped
abbrev pub report_skipped : Session
report_skipped = record select_one { given = accepted ++ hex (codes "53 00000004") ++ one_row }

-- ---- a text that is made well

-- the call of `asked`, where the client sent these bytes
abbrev pub asked_so : Plan → (taken : List ℕ) → Call
asked_so plan taken = record (asked plan) { after = record (unused plan) { taken = Some taken } }

-- the text of `select_one`, over the plan of a server that conforms
abbrev pub good_text : SessionText
good_text = record {
  config = codes "user=a";
  nonce = default_nonce;
  scripts = (Simple (codes "SELECT 1") None ∷ []) ∷ [];
  turns = [];
  limit = 16777216;
  plan = good_plan.entries;
  cut = 8192;
  ends = false;
}
