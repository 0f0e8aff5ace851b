-- What a session that was read asks for.
use Rattle.std.specs.Prelude.{◌≡◌, ◌<◌, ◌≤◌, ◌⊎◌, ℕ, false, List, [], length, Some, None, Result, Ok, Err}
use Rattle.pg_spec.specs.SessionText as said
use Rattle.pg_text.specs.SessionText.{IsRefusedAt, IsSessionText, SessionText}
use Rattle.pg_text.specs.Views.{as_scripts}
use Rattle.pg_text.specs.declared.session.Session.{Session}
use Rattle.pg_text.specs.declared.session.TextFault.{TextFault}
use Rattle.pg_text.specs.declared.session.TextFault.TheVariants as fault
use Rattle.pg_text.specs.Drafts.{SoFar, session_so_far}
use Rattle.pg_text.specs.Levels.{KeepLevels}
use Rattle.pg_text.specs.Scripts.{most_scripts}

-- what a session asks for
abbrev pub session_of : Session → SessionText
session_of s = record {
  config = s.config;
  nonce = s.nonce;
  scripts = s.scripts;
  turns = s.turns;
  limit = s.max_bytes;
  plan = s.link.entries;
  cut = s.link.cut;
  ends = s.link.ends;
}

-- a session of simple queries alone
abbrev pub as_session : said.SessionText → SessionText
as_session s = record {
  config = s.config;
  nonce = s.nonce;
  scripts = as_scripts s.scripts;
  turns = s.turns;
  limit = s.limit;
  plan = s.plan;
  cut = s.cut;
  ends = s.ends;
}

-- its link has given and taken nothing yet
pub record IsNew (s : Session) : Type 0 where
  pub link : s.link ≡ record {
    entries = s.link.entries;
    ends = s.link.ends;
    cut = s.link.cut;
    room = 8192;
    given = [];
    taken = [];
    promised = false;
    flushed = false;
    shut = false;
    quiet = 0;
    dry = 0;
    lulls = 0;
    ended = 0;
  }

-- the session of the lines, which end before this one; or why it is none
abbrev pub Finishes : SoFar → ℕ → Result Session TextFault → Type 0
Finishes s number (Ok session) = (text : List ℕ) × (s.config ≡ Some text) × (length s.scripts ≤ most_scripts) × KeepLevels s.scripts × (session_of session ≡ session_so_far text s) × IsNew session
Finishes s number (Err (fault.Line n)) = (n ≡ number) × ((s.config ≡ None) ⊎ (most_scripts < length s.scripts) ⊎ (KeepLevels s.scripts → ⊥))
Finishes s number (Err fault.TooLong) = ⊥
Finishes s number (Err fault.OutOfMemory) = Unit {0}

-- what an answer says about a text
abbrev pub ReadsText : List ℕ → Result Session TextFault → Type 0
ReadsText text (Ok session) = IsSessionText text (session_of session) × IsNew session
ReadsText text (Err (fault.Line n)) = IsRefusedAt text n
ReadsText text (Err fault.TooLong) = 67108864 < length text
ReadsText text (Err fault.OutOfMemory) = Unit {0}
