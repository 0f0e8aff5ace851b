-- A session text that is played over a link to a server of the repository.
use Rattle.std.specs.Prelude.{◌≡◌, ◌⊎◌, ℕ, List, [], ◌∷◌, Option, Some, None, Err, IsSome, codes}
use Rattle.pg_spec.specs.Faults.{Io, Link}
use Rattle.pg_spec.specs.Links.{LinkView}
use Rattle.pg_wire.specs.Streams.{SourceView, SinkView}
use Rattle.pg_server.specs.Handlers.{Step}
use Rattle.pg_server.specs.Hearing.{said_to}
use Rattle.pg_server.specs.ServerLinks.{Served, new_link}
use Rattle.pg_server.specs.Servers.{new_heard}
use Rattle.pg_server.specs.Standings.{unfed}
use Rattle.pg_tool.specs.RunContract.{Run, RunContract, SessionAnswer}

-- the words by which a session text is played over the link handed in
abbrev pub pipe_words : List (List ℕ)
pipe_words = codes "pipe" ∷ codes "-" ∷ codes "-" ∷ []

-- the source and the sink before and after, and how it ended
pub record Around : Type 0 where
  pub source_before : SourceView
  pub source_after : SourceView
  pub sink_before : SinkView
  pub sink_after : SinkView
  pub status : ℕ
  pub result : Option SessionAnswer

-- the program's run with these words, over a link before and after
abbrev pub over : Around → (before after : LinkView) → Run
over a before after = record {
  words = pipe_words;
  source_before = a.source_before;
  source_after = a.source_after;
  sink_before = a.sink_before;
  sink_after = a.sink_after;
  link_before = before;
  link_after = after;
  status = a.status;
  result = a.result;
}

-- memory lacked before anything was read or written: the source, the sink and the link are as they were
pub record LacksMemory (before after : LinkView) (a : Around) : Type 0 where
  pub status : a.status ≡ 5
  pub result : a.result ≡ None
  pub source : a.source_after ≡ a.source_before
  pub sink : a.sink_after ≡ a.sink_before
  pub link : after ≡ before

-- all that the program promises of a text that is played over this link, unless memory lacked at once
abbrev pub PlaysOver : (before after : LinkView) → Around → Type 0
PlaysOver before after a = RunContract (over a before after) ⊎ LacksMemory before after a

-- ---- over a link to a server

-- the session fails for its link only where the server has a fault
abbrev pub FailsByServer : {S : Type 0} → (new : Served S) → Option SessionAnswer → Type 0
FailsByServer new result = result ≡ Some (Err (Io Link)) → IsSome new.fault

-- where the link was just made, its fault is the one for which the server stops at the bytes that were taken
abbrev pub HasItsFault : {S : Type 0} → Step S → (old new : Served S) → Type 0
HasItsFault {S} step old new = (state : S) (startup : List ℕ) (cut room : ℕ) → old ≡ new_link (new_heard state startup) cut room →
    new.fault ≡ (said_to step (unfed state startup) new.crossed.taken).fault
