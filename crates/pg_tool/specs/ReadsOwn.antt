-- That each request of a session that was played read of its own reply alone (PostgreSQL documentation, "Message Flow": "Pipelining").
use Rattle.std.specs.Prelude.{ℕ, List}
use Rattle.pg_promises.specs.Endings.{Report}
use Rattle.pg_spec.specs.Links.{LinkView, OfBytes}
use Rattle.pg_spec.specs.Settings.{Settings}
use Rattle.pg_session.specs.Crossed.{session_of}
use Rattle.pg_session.specs.Events.{AreEvents, ReadsItsReply, turn_events}
use Rattle.pg_session.specs.Sessions.{HasPlayed}
use Rattle.pg_session.specs.Speeches.{Speech}

-- The session was played so, turn by turn, and in these very turns each request read of its own reply.
pub record ReadsOwn {C T A E : Type 0} (speech : Speech C T A E) (settings : Settings) (nonce : List ℕ) (scripts : List (List C)) (given : List ℕ) (before after : LinkView) (report : Report A) : Type 0 where
  pub played : HasPlayed speech settings nonce scripts given before after report
  -- The calls of its hub in these turns are a history of one hub: each answer follows from the calls before.
  pub calls : AreEvents scripts report (turn_events speech scripts given played.new played.link played.last after played.plays)
  -- Where the link tells its bytes, what the reader of request k took by these calls is a front of the server's k-th group.
  pub reads : OfBytes before after (λ g t. ReadsItsReply scripts (session_of settings nonce scripts given report g)
      (turn_events speech scripts given played.new played.link played.last after played.plays))
